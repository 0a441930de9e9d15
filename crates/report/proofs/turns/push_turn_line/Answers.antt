use Rattle.std.proofs.Common.{◌≡◌, ◌∙◌, ap, List, [], ◌∷◌, ◌++◌, ℕ, codes, append_assoc}
use Rattle.std.specs.Fmt.{decimal}
use Rattle.workload.specs.Report.{line, numbered}
use Rattle.report.specs.ViewText.{turn_line, what_text}
use Rattle.report.proofs.Appends.{thrice, twice}
use Rattle.report.proofs.turns.push_turn_line.Goals as goal

-- the pieces of the line, grouped as the line has them
grouped : (old first space number second session what last : List ℕ)
    → (old ++ (((first ++ space) ++ number) ++ ((second ++ space) ++ session))) ++ ((space ++ what) ++ last)
    ≡ old ++ (((((first ++ (space ++ number)) ++ second) ++ (space ++ session)) ++ (space ++ what)) ++ last)
grouped old first space number second session what last = simp append_assoc

pub returns : goal.returns
unfolding line numbered turn_line
returns c =
    thrice _ _ _ _ c.in_ok-push_bytes.ensures c.in_ok-push_what.ensures c.in_ok-push_bytes-2.ensures
    ∙ ap (λ l. l ++ (((32 ∷ []) ++ what_text c.args.w.now c.args.turn.now.what) ++ 10 ∷ []))
    (twice _ _ _ c.in_ok-push_number.ensures c.in_ok-push_number-2.ensures)
    ∙ grouped c.args.text.now.items (codes "turn") (32 ∷ []) (decimal c.args.number) (codes " session") (decimal c.args.turn.now.session.0) (what_text c.args.w.now c.args.turn.now.what) (10 ∷ [])
