use Rattle.std.proofs.Common.{◌≡◌, ℕ, ◌<◌, ◌-◌, List, Some, Ok, ◌∙◌, ap, sym, arith}
use Rattle.std.specs.List.{slice_get}
use Rattle.sql_text.proofs.Driving.{none_left, place_later, place_here, place_fault, place_none, place_some}
use Rattle.sql_text.proofs.Driven.{place_in}
use Rattle.sql_text.specs.Lexing.{Placed, tokens_of}
use Rattle.sql_text.specs.Scans.{tokens_at}
use Rattle.sql_text.proofs.lines.place_of.Goals as goal

left_place : (line : List ℕ) (number left at : ℕ) (tokens : List Placed) (p : Placed) → place_in number (tokens_of line) ≡ place_in left (tokens_at line at) → tokens_of line ≡ Ok tokens → slice_get tokens number ≡ Some p → Some p.at ≡ place_in left (tokens_at line at)
left_place line number left at tokens p same lexed found = sym (place_some tokens number p found) ∙ sym (ap (λ r. place_in number r) lexed) ∙ same

pub returns-then-left-eq0 : goal.returns-then-left-eq0
returns-then-left-eq0 c tokens p lexed found = place_here c.args.line.now c.tokens.at p.at c.tokens-test.true (c.tokens.invariant.begins c.tokens-test.true) (left_place c.args.line.now c.args.number c.tokens.left c.tokens.at tokens p c.tokens.invariant.same lexed found ∙ ap (λ n. place_in n (tokens_at c.args.line.now c.tokens.at)) c.if-left-eq0.true)

pub returns-in_default : goal.returns-in_default
returns-in_default c tokens p lexed found = place_fault _ p.at c.tokens.left _ (left_place c.args.line.now c.args.number c.tokens.left c.tokens.at tokens p c.tokens.invariant.same lexed found ∙ ap (λ r. place_in c.tokens.left r) c.in_default.ensures)

pub tokens-preserved : goal.tokens-preserved
tokens-preserved c =
    let more : 0 < c.tokens.left = omega arith in
    record {
      within = c.skip_blanks-at-in-tokens.ensures.within;
      begins = c.skip_blanks-at-in-tokens.ensures.ended;
      same = c.tokens.invariant.same ∙ ap (λ r. place_in c.tokens.left r) c.in-Ok.ensures.tokens ∙ place_later c.tokens.left _ _ more ∙ ap (λ r. place_in (c.tokens.left - 1) r) c.skip_blanks-at-in-tokens.ensures.same;
    }

pub returns : goal.returns
returns c tokens p lexed found = place_none _ p.at c.tokens.left (left_place c.args.line.now c.args.number c.tokens.left c.tokens.at tokens p c.tokens.invariant.same lexed found ∙ ap (λ r. place_in c.tokens.left r) (none_left c.args.line.now c.tokens.at c.tokens-test.false))
