use Rattle.std.proofs.Common.{◌≡◌, ◌∙◌, ap, sym, List, [], ◌∷◌, ◌++◌, ℕ, append_assoc}
use Rattle.std.specs.Fmt.{decimal}
use Rattle.workload.specs.Report.{line, numbered}
use Rattle.report.specs.SummaryText.{end_line, ended_so, entry_line}
use Rattle.report.proofs.Appends.{twice}
use Rattle.report.proofs.summary_lines.push_end_line.Goals as goal

-- the pieces of the line, grouped as the line has them
grouped : (text name space number last : List ℕ) → text ++ (name ++ ((space ++ number) ++ last)) ≡ text ++ ((name ++ (space ++ number)) ++ last)
grouped text name space number last = simp append_assoc

pub returns : goal.returns
unfolding line numbered entry_line end_line
returns c =
    twice _ _ _ (rw c.as_bytes.ensures.value at c.in_ok-push_bytes.ensures) (rw c.count_ended.ensures at c.in_ok-push_numbered_line.ensures)
    ∙ grouped c.args.text.now.items c.args.name.now (32 ∷ []) (decimal (ended_so c.args.name.now c.args.txns.now)) (10 ∷ [])
