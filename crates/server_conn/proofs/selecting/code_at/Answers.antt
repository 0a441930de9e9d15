-- The code is that of the place in the column's tree.
use Rattle.std.proofs.Common.{◌≡◌, ℕ, ◌≤◌, Bor, sym, subst}
use Rattle.ope_tree.specs.Seen.{Seen as Tree}
use Rattle.table_model.specs.Soundness.{column_at}
use Rattle.server_conn.proofs.Seeing.{some-at}
use Rattle.server_conn.proofs.Coding.{code-is, code-some}
use Rattle.server_conn.proofs.selecting.code_at.Goals as goal

pub returns-clause-value : goal.returns-clause-value
returns-clause-value c =
    let s = c.args.table.now.shelf in
    let column = some-at c.tree.result (λ (t : Bor Tree). t.now.column ≡ column_at s.columns c.args.mark.now.column.0) c.unwrap-tree.result c.unwrap-tree.ensures c.tree.ensures.column in
    code-is s c.args.mark.now c.unwrap-tree.result.now.column c.code_of.result c.unwrap.result column c.code_of.ensures.value c.unwrap.ensures

pub returns-clause-some : goal.returns-clause-some
returns-clause-some c = subst (λ (n : ℕ). 1 ≤ n) (sym (returns-clause-value c)) (code-some c.args.table.now.shelf c.args.mark.now)
