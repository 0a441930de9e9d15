-- What holds of a spent tree, which is the empty one.
use Rattle.std.proofs.Common.{◌≡◌, ◌≤◌, true, sym, subst, arith}
use Rattle.mope_base.specs.declared.body.Body.{Body}
use Rattle.tree_model.specs.Trees.{height}
use Rattle.tree_model.specs.ColumnLaws.{IsKept}
use Rattle.tree_model.proofs.Kept.{IsKept-empty}
use Rattle.tree_model.specs.Columns.{empty_column}
use Rattle.ope_tree.specs.Seen.{Seen, empty_seen}

pub kept_spent : (seen : Seen) → seen ≡ empty_seen true → IsKept Body seen.column
unfolding empty_seen
kept_spent seen e = subst (λ (t : Seen). IsKept Body t.column) (sym e) (IsKept-empty Body)

pub short_spent : (seen : Seen) → seen ≡ empty_seen true → height seen.column.tree ≤ 63
unfolding empty_seen empty_column height
short_spent seen e =
    let none : 0 ≤ 63 = omega arith in
    subst (λ (t : Seen). height t.column.tree ≤ 63) (sym e) none
