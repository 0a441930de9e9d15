-- What one row fewer does in same-time mode: the statements of the laws that this crate's functions without a body prove.
use Rattle.std.specs.Prelude.{◌≡◌, ℕ, suc, ◌<◌, Bool, true, false, [], ◌∷◌, length, remove}
use Rattle.tree_model.specs.Trees.{Tree, size}
use Rattle.tree_model.specs.Items.{one_less, change_at}
use Rattle.tree_model.specs.Removal.{remove_tree}
use Rattle.tree_model.specs.Columns.{Column, items_of, drop_one, Drop}
use Rattle.path_code.specs.Sums.{item_code, Sum, sum_of}
use Rattle.code_changes.specs.Changes.{differing}
use Rattle.code_changes.specs.Columns.{codes_of, counts_of}
use Rattle.code_changes.specs.Removal.{removal_moved, removal_sum, goes_alone}

-- a removal changes the codes of the part that moves up and of the item that takes the removed one's place, and no others
abbrev pub RemovalMoves : Type 0 → Type 0
RemovalMoves A = (t : Tree A) (rank : ℕ) → rank < size t → differing (remove (codes_of t) rank) (codes_of (remove_tree t rank)) ≡ removal_moved [] t rank

-- an item goes: one code and one count fewer at its rank, and the pairs of codes that differ
pub record TakesItem (B : Type 0) (rank : ℕ) (s : Sum) (before after : Column B) : Type 0 where
  pub as_many : suc (length (codes_of after.tree)) ≡ length (codes_of before.tree)
  pub counts : counts_of after ≡ remove (counts_of before) rank
  pub pairs : s ≡ record { moved = differing (remove (codes_of before.tree) rank) (codes_of after.tree); dropped = item_code before.tree rank ∷ []; added = [] }
  pub sum : s ≡ removal_sum before.tree rank

-- in same-time mode, where the row was the item's last and enough items are live
abbrev pub DropTakesItem : Type 0 → Type 0
DropTakesItem B = (rank : ℕ) (c : Column B) → rank < size c.tree → goes_alone true c.most (change_at one_less (items_of c) rank) rank ≡ true → TakesItem B rank (sum_of true (Drop rank ∷ []) c) c (drop_one true rank c)

-- a drop is that of ordinary mode
pub record IsOrdinary (B : Type 0) (same_time : Bool) (rank : ℕ) (c : Column B) : Type 0 where
  pub column : drop_one same_time rank c ≡ drop_one false rank c
  pub sum : sum_of same_time (Drop rank ∷ []) c ≡ sum_of false (Drop rank ∷ []) c

-- where the item has rows left, or the live items become the whole tree, the modes do the same
abbrev pub DropIsOrdinary : Type 0 → Type 0
DropIsOrdinary B = (same_time : Bool) (rank : ℕ) (c : Column B) → goes_alone same_time c.most (change_at one_less (items_of c) rank) rank ≡ false → IsOrdinary B same_time rank c
