use Rattle.std.proofs.Common.{◌∙◌, ◌≡◌, List, [], ◌∷◌, ◌++◌, ℕ, codes, append_assoc}
use Rattle.workload.specs.Report.{line, name_of}
use Rattle.report.specs.ViewText.{column_line, column_name}
use Rattle.report.proofs.Appends.{thrice, twice}
use Rattle.report.proofs.changes.push_column_line.Goals as goal

-- the pieces of the line, grouped as the line has them
grouped : (text word table space column last : List ℕ) → text ++ ((((word ++ table) ++ space) ++ column) ++ last) ≡ text ++ (((word ++ table) ++ (space ++ column)) ++ last)
grouped text word table space column last = simp append_assoc

pub returns : goal.returns
unfolding line column_line
returns c =
    twice c.args.text.now.items _ _ (thrice _ _ _ _ c.in_ok-push_table.ensures c.in_ok-push_bytes.ensures c.in_ok-push_column.ensures) c.in_ok-push_bytes-2.ensures
    ∙ grouped c.args.text.now.items (codes "column ") (name_of c.args.w.now c.args.table) (32 ∷ []) (column_name c.args.w.now c.args.table c.args.column) (10 ∷ [])
