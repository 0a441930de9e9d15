use Rattle.std.proofs.Common.{rules, ◌≡◌, None, ◌∙◌, sym, subst, MatchOption}
use Rattle.sql_text.proofs.FrameVerdicts.{judged, none_walked}
use Rattle.sql_text.specs.FrameLines.{IsFrameLine, IsNoFrame}
use Rattle.sql_text.specs.Lexing.{first_bad_byte}
use Rattle.sql_text.proofs.frames.read_frame.Goals as goal

pub returns-in-Some : goal.returns-in-Some
returns-in-Some c =
    let allowed : first_bad_byte c.args.line.now ≡ None = search rules in
    subst (λ o. MatchOption o (IsNoFrame c.args.line.now) (λ frame. IsFrameLine c.args.line.now frame)) (sym c.framed.ensures) (judged c.args.line.now c.in-Some.state allowed (sym c.in_ok-state.ensures ∙ c.in-Some.is))

pub returns-in-None : goal.returns-in-None
returns-in-None c = none_walked c.args.line.now (sym c.in_ok-state.ensures ∙ c.in-None.is)
