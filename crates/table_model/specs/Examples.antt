-- Worked examples: the statements that this crate's functions without a body compute.
use Rattle.std.specs.Prelude.{◌≡◌, ℕ, Bool, true, false, List, [], ◌∷◌}
use Rattle.tree_model.specs.declared.Place.TheVariants.{Gap}
use Rattle.tree_model.specs.Trees.{leaf, node, balanced}
use Rattle.tree_model.specs.Items.{Item}
use Rattle.tree_model.specs.Columns.{Column, empty_column, Operation, Drop}
use Rattle.table_model.specs.Stores.{Store, Kept, Shelf, empty_store, shelf_of}
use Rattle.table_model.specs.Changes.{insert_row, delete_row, delete_rows, delete_steps, insert_cells, delete_number, delete_numbers, lay_store}

-- cells that are values
abbrev pub itself : ℕ → ℕ
itself value = value

-- rows of one cell, one after the other
unfoldable pub filled : Bool → List ℕ → Store ℕ → Store ℕ
filled same_time [] t = t
filled same_time (x ∷ xs) t = filled same_time xs (insert_cells same_time itself (x ∷ []) t)

-- a table of one column, with these values inserted
abbrev pub table_with : Bool → List ℕ → Store ℕ
table_with same_time xs = filled same_time xs (empty_store ℕ 1)

abbrev pub with_count : ℕ → ℕ → Item ℕ
with_count value count = record { body = value; count = count }

abbrev pub one_item : ℕ → ℕ → Column ℕ
one_item value count = record { tree = node leaf (with_count value count) leaf; most = 1 }

-- ---- drop-last-duplicate: 7 inserted three times, then all three rows deleted

abbrev pub three_drops : List (List (List (Operation ℕ)))
three_drops = ((Drop 0 ∷ []) ∷ []) ∷ ((Drop 0 ∷ []) ∷ []) ∷ ((Drop 0 ∷ []) ∷ []) ∷ []

-- one item with three rows; each deletion drops a row of item 0; with the last row the item goes, in both modes
pub record DropsLast (same_time : Bool) : Type 0 where
  pub before : (table_with same_time (7 ∷ 7 ∷ 7 ∷ [])).columns ≡ one_item 7 3 ∷ []
  pub steps : delete_steps same_time (1 ∷ 2 ∷ 3 ∷ []) (shelf_of itself (table_with same_time (7 ∷ 7 ∷ 7 ∷ []))) ≡ three_drops
  pub two : (delete_numbers same_time itself (1 ∷ 2 ∷ []) (table_with same_time (7 ∷ 7 ∷ 7 ∷ []))).columns ≡ one_item 7 1 ∷ []
  pub after : delete_numbers same_time itself (1 ∷ 2 ∷ 3 ∷ []) (table_with same_time (7 ∷ 7 ∷ 7 ∷ [])) ≡ record { rows = []; next = 4; columns = empty_column ℕ ∷ [] }

abbrev pub DropLastDuplicate : Type 0
DropLastDuplicate = DropsLast false × DropsLast true

-- ---- rebuild-on-depth: 1, 2, 3, 4 and 5 inserted one after the other; the fifth would be at depth 4, and the root is balanced

abbrev pub kept_at : ℕ → ℕ → ℕ → Kept ℕ
kept_at number value rank = record { number = number; bodies = value ∷ []; ranks = rank ∷ [] }

abbrev pub four_rows : List (Kept ℕ)
four_rows = kept_at 1 1 0 ∷ kept_at 2 2 1 ∷ kept_at 3 3 2 ∷ kept_at 4 4 3 ∷ []

abbrev pub four_items : Column ℕ
four_items = record { tree = node leaf (with_count 1 1) (node leaf (with_count 2 1) (node leaf (with_count 3 1) (node leaf (with_count 4 1) leaf))); most = 4 }

abbrev pub five_rows : List (Kept ℕ)
five_rows = kept_at 1 1 0 ∷ kept_at 2 2 1 ∷ kept_at 3 3 2 ∷ kept_at 4 4 3 ∷ kept_at 5 5 4 ∷ []

abbrev pub five_items : Column ℕ
five_items = record { tree = balanced (with_count 1 1 ∷ with_count 2 1 ∷ with_count 3 1 ∷ with_count 4 1 ∷ with_count 5 1 ∷ []); most = 5 }

pub record RebuildsFifth (same_time : Bool) : Type 0 where
  pub before : shelf_of itself (table_with same_time (1 ∷ 2 ∷ 3 ∷ 4 ∷ [])) ≡ record { kept = four_rows; next = 5; columns = four_items ∷ [] }
  pub by_value : shelf_of itself (table_with same_time (1 ∷ 2 ∷ 3 ∷ 4 ∷ 5 ∷ [])) ≡ record { kept = five_rows; next = 6; columns = five_items ∷ [] }
  pub by_rank : insert_row same_time (Gap 4 ∷ []) (5 ∷ []) (record { kept = four_rows; next = 5; columns = four_items ∷ [] }) ≡ record { kept = five_rows; next = 6; columns = five_items ∷ [] }

abbrev pub RebuildOnDepth : Type 0
RebuildOnDepth = RebuildsFifth false × RebuildsFifth true

-- ---- one value three times, and the second row deleted: the other rows keep the item, which has two rows

abbrev pub two_of_one : Shelf ℕ
two_of_one = record { kept = kept_at 1 7 0 ∷ kept_at 3 7 0 ∷ []; next = 4; columns = one_item 7 2 ∷ [] }

pub record DeletesSecond (same_time : Bool) : Type 0 where
  pub by_value : shelf_of itself (delete_number same_time itself 2 (table_with same_time (7 ∷ 7 ∷ 7 ∷ []))) ≡ two_of_one
  pub by_rank : delete_row same_time 2 (shelf_of itself (table_with same_time (7 ∷ 7 ∷ 7 ∷ []))) ≡ two_of_one
  pub no_such_row : delete_row same_time 2 two_of_one ≡ two_of_one

abbrev pub DeleteSecond : Type 0
DeleteSecond = DeletesSecond false × DeletesSecond true

-- ---- rows follow their items: 5, then 3 before it, then the row of 3 deleted; its item goes at once in same-time mode alone, and in
-- ordinary mode with the next row, when one of three items is live

pub record FollowsItems : Type 0 where
  pub before : (shelf_of itself (table_with false (5 ∷ 3 ∷ 4 ∷ []))).kept ≡ kept_at 1 5 2 ∷ kept_at 2 3 0 ∷ kept_at 3 4 1 ∷ []
  pub item_stays : (delete_row false 2 (shelf_of itself (table_with false (5 ∷ 3 ∷ 4 ∷ [])))).kept ≡ kept_at 1 5 2 ∷ kept_at 3 4 1 ∷ []
  pub items_go : (delete_rows false (2 ∷ 3 ∷ []) (shelf_of itself (table_with false (5 ∷ 3 ∷ 4 ∷ [])))).kept ≡ kept_at 1 5 0 ∷ []
  pub item_goes : (delete_row true 2 (shelf_of itself (table_with true (5 ∷ 3 ∷ 4 ∷ [])))).kept ≡ kept_at 1 5 1 ∷ kept_at 3 4 0 ∷ []

-- an install balances the tree of its column alone
pub record BalancesOne (same_time : Bool) : Type 0 where
  pub laid : (lay_store same_time 0 (table_with same_time (1 ∷ 2 ∷ 3 ∷ []))).columns ≡ record { tree = balanced (with_count 1 1 ∷ with_count 2 1 ∷ with_count 3 1 ∷ []); most = 3 } ∷ []
  pub no_such_column : lay_store same_time 1 (table_with same_time (1 ∷ 2 ∷ 3 ∷ [])) ≡ table_with same_time (1 ∷ 2 ∷ 3 ∷ [])

abbrev pub InstallBalances : Type 0
InstallBalances = BalancesOne false × BalancesOne true
