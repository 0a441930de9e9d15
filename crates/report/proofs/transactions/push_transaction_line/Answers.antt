use Rattle.std.proofs.Common.{◌≡◌, ◌∙◌, ap, List, [], ◌∷◌, ◌++◌, ℕ, codes, append_assoc}
use Rattle.std.specs.Fmt.{decimal}
use Rattle.workload.specs.Report.{end_text, line, numbered, transaction_line}
use Rattle.report.proofs.Appends.{thrice}
use Rattle.report.proofs.transactions.push_transaction_line.Goals as goal

-- the pieces of the line, grouped as the line has them
grouped : (old first space session second place third base end last : List ℕ)
    → (old ++ ((((first ++ space) ++ session) ++ ((second ++ space) ++ place)) ++ ((third ++ space) ++ base))) ++ ((space ++ end) ++ last)
    ≡ old ++ (((((((first ++ (space ++ session)) ++ second) ++ (space ++ place)) ++ third) ++ (space ++ base)) ++ (space ++ end)) ++ last)
grouped old first space session second place third base end last = simp append_assoc

pub returns : goal.returns
unfolding line numbered transaction_line
returns c =
    thrice _ _ _ _ c.in_ok-push_bytes.ensures c.in_ok-push_end.ensures c.in_ok-push_bytes-2.ensures
    ∙ ap (λ l. l ++ (((32 ∷ []) ++ end_text c.args.w.now c.args.t.now.end) ++ 10 ∷ []))
    (thrice _ _ _ _ c.in_ok-push_number.ensures c.in_ok-push_number-2.ensures c.in_ok-push_number-3.ensures)
    ∙ grouped c.args.text.now.items (codes "session") (32 ∷ []) (decimal c.args.t.now.session.0) (codes " transaction") (decimal c.args.t.now.place) (codes " at") (decimal c.args.t.now.base) (end_text c.args.w.now c.args.t.now.end) (10 ∷ [])
