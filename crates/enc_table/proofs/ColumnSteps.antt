-- A stored column after an operation, from what the calls on its cells, tree and index have done.
use Rattle.std.proofs.Common.{◌≡◌, ℕ, suc, ◌+◌, ◌<◌, ◌≤◌, Bool, true, false, List, [], ◌∷◌, ◌++◌, map, length, max, get_or, insert, remove, refl, ap, ap₂, ◌∙◌, sym, subst, Some, arith}
use Rattle.std.specs.List.{slice_get}
use Rattle.std.proofs.lemmas.Option.{slice_get_within, get_or_from_slice_get}
use Rattle.mope_base.specs.declared.body.Body.{Body}
use Rattle.tree_model.specs.declared.Place.{Place}
use Rattle.tree_model.specs.declared.Place.TheVariants.{Found, Gap}
use Rattle.tree_model.specs.Trees.{Tree, size, height, IsPlaceOf}
use Rattle.tree_model.specs.Places.{below, holds, IsIncreasing, IsBelowAll}
use Rattle.tree_model.specs.Items.{Item, one_more, new_item}
use Rattle.tree_model.specs.Columns.{Column, Operation, Add, Drop, Lay, apply_all, apply, add, drop_one, lay}
use Rattle.tree_model.specs.Sums.{origins}
use Rattle.tree_model.specs.Carried.{is_origin, carried}
use Rattle.tree_model.specs.Ranks.{stays_after}
use Rattle.tree_model.proofs.RankLaws.{rank_after_operation}
use Rattle.tree_model.proofs.Depths.{size-insert_tree}
use Rattle.tree_model.proofs.Removals.{size-change_tree}
use Rattle.tree_model.proofs.Ordered.{IsIncreasing-nil, holds-at}
use Rattle.path_code.specs.Sums.{item_code, Sum, sum_of}
use Rattle.code_changes.specs.Changes.{IsIn, new_code}
use Rattle.code_changes.specs.Columns.{codes_of}
use Rattle.path_code.specs.declared.moves.Recode.{Recode}
use Rattle.code_changes.proofs.Orders.{IsIncreasing-rest, IsBelowAll-first, IsIncreasing-cons}
use Rattle.table_model.specs.Steps.{rank_in}
use Rattle.table_model.proofs.Numbers.{next-new}
use Rattle.column_index.specs.Entries.{sorted, put, without, holds_entry}
use Rattle.column_index.specs.Recoding.{KeepsOrder}
use Rattle.column_index.specs.Seen.{Seen as IndexSeen, index_of}
use Rattle.ope_tree.specs.Seen.{Seen as TreeSeen, empty_seen}
use Rattle.enc_table.specs.declared.cell.Cell.{Cell}
use Rattle.enc_table.specs.declared.columns.Column.{Column as Stored}
use Rattle.enc_table.specs.Stored.{no_column, codes_in, bodies_in, ranks_in, ranks_among, rank_in_row}
use Rattle.enc_table.specs.Held.{IsHeld, HasBecome, AreCoded, entries_of, moved_cell, followed, drop_at, FitsDrop}
use Rattle.enc_table.proofs.ItemRanks.{AllStay, ranks_back, coded-carried, order-carried}
use Rattle.enc_table.proofs.ColumnLists.{codes-moved, bodies-moved, bodies_of_cells, map-last, map-remove, length-map_list, length-last, length-removed, length-inserted, get_or-mapped, coded-last, coded-removed, code_among, absent_sorted, index_last, index_removed, inserted_apart}

-- ---- a column from its parts

pub column_of_parts : (numbers : List ℕ) (cells : List Cell) (tree : TreeSeen) (index : IndexSeen) (column : Column Body) (bodies : List Body) (ranks : List ℕ)
    → length cells ≡ length numbers → tree.column ≡ column → tree.spent ≡ false → height tree.column.tree ≤ 63 → AreCoded (Item Body) tree.column.tree (codes_in cells) ranks → index ≡ index_of (sorted (entries_of (codes_in cells) numbers)) → bodies_of_cells cells ≡ bodies
    → HasBecome numbers column bodies ranks (record { cells = cells; tree = tree; index = index })
unfolding ranks_in bodies_in
column_of_parts numbers cells tree index column bodies ranks many is fresh short coded indexed held_bodies =
    let back : ranks_among (codes_of tree.column.tree) (codes_in cells) ≡ ranks = ap (ranks_among (codes_of tree.column.tree)) coded.coded ∙ ranks_back tree.column.tree ranks short coded.within in
    record {
      held = record {
        many = many;
        coded = subst (λ (rs : List ℕ). AreCoded (Item Body) tree.column.tree (codes_in cells) rs) (sym back) coded;
        indexed = indexed;
        fresh = fresh;
        short = short;
      };
      column_is = is;
      bodies_are = held_bodies;
      ranks_are = back;
    }

-- ---- codes under an operation

abbrev pub to_new : Bool → List (Operation Body) → Column Body → ℕ → ℕ
to_new same_time operations c code = new_code (sum_of same_time operations c).moved code

-- rows with these codes and ranks in a column, whose items stay
pub record AreStaying (same_time : Bool) (operations : List (Operation Body)) (c : Column Body) (codes ranks : List ℕ) : Type 0 where
  pub coded : AreCoded (Item Body) c.tree codes ranks
  pub stay : AllStay same_time operations c ranks
  pub short : height c.tree ≤ 63
  pub after : height (apply_all same_time operations c).tree ≤ 63

pub order_kept : (same_time : Bool) (operations : List (Operation Body)) (c : Column Body) (codes ranks : List ℕ) (moved : List Recode) → AreStaying same_time operations c codes ranks → moved ≡ (sum_of same_time operations c).moved → KeepsOrder (new_code moved) codes
order_kept same_time operations c codes ranks moved are is =
    subst (λ (pairs : List Recode). KeepsOrder (new_code pairs) codes) (sym is)
    (subst (λ (cs : List ℕ). KeepsOrder (new_code (sum_of same_time operations c).moved) cs) (sym are.coded.coded)
    (order-carried same_time operations c ranks are.short are.after are.coded.within are.stay))

pub codes_follow_rows : (same_time : Bool) (operations : List (Operation Body)) (c : Column Body) (codes ranks : List ℕ) (moved : List Recode) → AreStaying same_time operations c codes ranks → moved ≡ (sum_of same_time operations c).moved
    → AreCoded (Item Body) (apply_all same_time operations c).tree (map (new_code moved) codes) (followed same_time operations c ranks)
codes_follow_rows same_time operations c codes ranks moved are is =
    subst (λ (cs : List ℕ). AreCoded (Item Body) (apply_all same_time operations c).tree cs (followed same_time operations c ranks))
    (ap₂ (λ (pairs : List Recode) (cs : List ℕ). map (new_code pairs) cs) (sym is) (sym are.coded.coded))
    (coded-carried same_time operations c ranks are.short are.coded.within are.stay)

-- the parts of a column of which all rows stay
pub record HasParts (same_time : Bool) (operations : List (Operation Body)) (numbers : List ℕ) (c : Column Body) (bodies : List Body) (ranks : List ℕ) (cells : List Cell) (index : IndexSeen) : Type 0 where
  pub many : length cells ≡ length numbers
  pub coded : AreCoded (Item Body) (apply_all same_time operations c).tree (codes_in cells) (followed same_time operations c ranks)
  pub indexed : index ≡ index_of (sorted (entries_of (codes_in cells) numbers))
  pub bodies_are : bodies_of_cells cells ≡ bodies

pub parts_carried : (same_time : Bool) (operations : List (Operation Body)) (numbers : List ℕ) (c : Column Body) (ranks : List ℕ) (moved : List Recode) (cells now : List Cell) (index : IndexSeen)
    → AreStaying same_time operations c (codes_in cells) ranks → moved ≡ (sum_of same_time operations c).moved → length cells ≡ length numbers → now ≡ map (moved_cell (new_code moved)) cells → index ≡ index_of (sorted (entries_of (map (new_code moved) (codes_in cells)) numbers))
    → HasParts same_time operations numbers c (bodies_of_cells cells) ranks now index
parts_carried same_time operations numbers c ranks moved cells now index are is many became indexed =
    let codes : codes_in now ≡ map (new_code moved) (codes_in cells) = ap codes_in became ∙ codes-moved (new_code moved) cells in
    record {
      many = ap length became ∙ length-map_list (moved_cell (new_code moved)) cells ∙ many;
      coded = subst (λ (cs : List ℕ). AreCoded (Item Body) (apply_all same_time operations c).tree cs (followed same_time operations c ranks)) (sym codes) (codes_follow_rows same_time operations c (codes_in cells) ranks moved are is);
      indexed = indexed ∙ ap (λ (cs : List ℕ). index_of (sorted (entries_of cs numbers))) (sym codes);
      bodies_are = ap bodies_of_cells became ∙ bodies-moved (new_code moved) cells;
    }

-- the column of these parts
pub column_carried : (same_time : Bool) (operations : List (Operation Body)) (numbers : List ℕ) (c : Column Body) (bodies : List Body) (ranks : List ℕ) (cells : List Cell) (tree : TreeSeen) (index : IndexSeen)
    → HasParts same_time operations numbers c bodies ranks cells index → tree.column ≡ apply_all same_time operations c → tree.spent ≡ false → height tree.column.tree ≤ 63
    → HasBecome numbers (apply_all same_time operations c) bodies (followed same_time operations c ranks) (record { cells = cells; tree = tree; index = index })
column_carried same_time operations numbers c bodies ranks cells tree index parts is fresh short =
    column_of_parts numbers cells tree index (apply_all same_time operations c) bodies (followed same_time operations c ranks) parts.many is fresh short
    (subst (λ (k : Column Body). AreCoded (Item Body) k.tree (codes_in cells) (followed same_time operations c ranks)) (sym is) parts.coded) parts.indexed parts.bodies_are

-- ---- one row more

all_stay_added : (same_time : Bool) (place : Place) (body : Body) (c : Column Body) (rank : ℕ) → rank < size c.tree → is_origin rank (origins same_time (Add place body ∷ []) c) ≡ true
unfolding stays_after
all_stay_added same_time (Found at) body c rank lt = (rank_after_operation same_time (Add (Found at) body) c rank lt).stays
all_stay_added same_time (Gap at) body c rank lt = (rank_after_operation same_time (Add (Gap at) body) c rank lt).stays

pub staying_added : (same_time : Bool) (numbers : List ℕ) (place : Place) (body : Body) (c : Stored) → IsHeld numbers c → height (add place body c.tree.column).tree ≤ 63 → AreStaying same_time (Add place body ∷ []) c.tree.column (codes_in c.cells) (ranks_in c)
unfolding apply_all apply
staying_added same_time numbers place body c held after = record {
  coded = held.coded;
  stay = λ rank among. all_stay_added same_time place body c.tree.column rank (held.coded.within rank among);
  short = held.short;
  after = after;
}

all_stay_laid : (same_time : Bool) (c : Column Body) (rank : ℕ) → rank < size c.tree → is_origin rank (origins same_time (Lay ∷ []) c) ≡ true
unfolding stays_after
all_stay_laid same_time c rank lt = (rank_after_operation same_time Lay c rank lt).stays

pub staying_laid : (same_time : Bool) (numbers : List ℕ) (c : Stored) → IsHeld numbers c → height (lay c.tree.column).tree ≤ 63 → AreStaying same_time (Lay ∷ []) c.tree.column (codes_in c.cells) (ranks_in c)
unfolding apply_all apply
staying_laid same_time numbers c held after = record {
  coded = held.coded;
  stay = λ rank among. all_stay_laid same_time c.tree.column rank (held.coded.within rank among);
  short = held.short;
  after = after;
}

-- the item at which a row came in is there
pub added_within : (place : Place) (body : Body) (c : Column Body) → IsPlaceOf (size c.tree) place → rank_in place < size (add place body c).tree
unfolding rank_in IsPlaceOf add
added_within (Found rank) body c within = omega (arith, within, size-change_tree one_more c.tree rank)
added_within (Gap rank) body c within = omega (arith, within, size-insert_tree (max c.most (suc (size c.tree))) rank (new_item body) c.tree)

below_front : (v : ℕ) (numbers : List ℕ) (number : ℕ) → IsBelowAll v (numbers ++ number ∷ []) → IsBelowAll v numbers
unfolding IsBelowAll
below_front v [] number below = tt
below_front v (n ∷ ns) number below = (below.0, below_front v ns number below.1)

codes-last : (cells : List Cell) (cell : Cell) → codes_in (cells ++ cell ∷ []) ≡ codes_in cells ++ cell.code ∷ []
unfolding codes_in
codes-last cells cell = map-last (λ (x : Cell). x.code) cells cell

codes-many : (cells : List Cell) → length (codes_in cells) ≡ length cells
unfolding codes_in
codes-many cells = length-map_list (λ (x : Cell). x.code) cells

codes-removed : (cells : List Cell) (position : ℕ) → codes_in (remove cells position) ≡ remove (codes_in cells) position
unfolding codes_in
codes-removed cells position = map-remove (λ (x : Cell). x.code) cells position

pub rise_front : (numbers : List ℕ) (number : ℕ) → IsIncreasing (numbers ++ number ∷ []) → IsIncreasing numbers
rise_front [] number rise = IsIncreasing-nil
rise_front (n ∷ ns) number rise =
    IsIncreasing-cons n ns (below_front n ns number (IsBelowAll-first n (ns ++ number ∷ []) rise)) (rise_front ns number (IsIncreasing-rest n (ns ++ number ∷ []) rise))

pub tree_short : (column after : Column Body) → column ≡ after → height column.tree ≤ 63 → height after.tree ≤ 63
tree_short column after is short = subst (λ (k : Column Body). height k.tree ≤ 63) is short

pub added_among : (place : Place) (body : Body) (c after : Column Body) → IsPlaceOf (size c.tree) place → after ≡ add place body c → rank_in place < size after.tree
added_among place body c after within is = subst (λ (k : Column Body). rank_in place < size k.tree) (sym is) (added_within place body c within)

pub absent_in_index : (index : IndexSeen) (codes numbers : List ℕ) (code number : ℕ) → index ≡ index_of (sorted (entries_of codes numbers)) → IsIncreasing (numbers ++ number ∷ []) → holds_entry (record { enc = code; row = number }) index.entries ≡ false
unfolding index_of
absent_in_index index codes numbers code number is rise =
    ap (λ (i : IndexSeen). holds_entry (record { enc = code; row = number }) i.entries) is ∙ absent_sorted code number codes numbers (next-new number numbers rise)

pub added_column : (same_time : Bool) (numbers : List ℕ) (number : ℕ) (place : Place) (body : Body) (c : Stored) (moved : List Recode) (now pushed : List Cell) (tree : TreeSeen) (index inserted : IndexSeen) (code : ℕ)
    → IsHeld numbers c → IsPlaceOf (size c.tree.column.tree) place → tree.column ≡ add place body c.tree.column → tree.spent ≡ false → height tree.column.tree ≤ 63
    → moved ≡ (sum_of same_time (Add place body ∷ []) c.tree.column).moved → now ≡ map (moved_cell (new_code moved)) c.cells → index ≡ index_of (sorted (entries_of (map (new_code moved) (codes_in c.cells)) numbers))
    → code ≡ item_code tree.column.tree (rank_in place) → pushed ≡ now ++ (record { body = body; code = code }) ∷ [] → inserted ≡ index_of (put (record { enc = code; row = number }) index.entries)
    → HasBecome (numbers ++ number ∷ []) (apply_all same_time (Add place body ∷ []) c.tree.column) (bodies_in c ++ body ∷ []) (followed same_time (Add place body ∷ []) c.tree.column (ranks_in c) ++ rank_in place ∷ []) (record { cells = pushed; tree = tree; index = inserted })
unfolding apply_all apply bodies_in index_of
added_column same_time numbers number place body c moved now pushed tree index inserted code held within is fresh short moved_is cells_are index_is code_is pushed_is inserted_is =
    let operations : List (Operation Body) = Add place body ∷ [] in
    let are = staying_added same_time numbers place body c held (tree_short tree.column (add place body c.tree.column) is short) in
    let parts = parts_carried same_time operations numbers c.tree.column (ranks_in c) moved c.cells now index are moved_is held.many cells_are index_is in
    let coded = subst (λ (k : Column Body). AreCoded (Item Body) k.tree (codes_in now) (followed same_time operations c.tree.column (ranks_in c))) (sym is) parts.coded in
    let last = coded-last tree.column.tree (codes_in now) (followed same_time operations c.tree.column (ranks_in c)) (rank_in place) coded (added_among place body c.tree.column tree.column within is) in
    let codes : codes_in pushed ≡ codes_in now ++ code ∷ [] = ap codes_in pushed_is ∙ codes-last now (record { body = body; code = code }) in
    let all_coded = subst (λ (cs : List ℕ). AreCoded (Item Body) tree.column.tree cs (followed same_time operations c.tree.column (ranks_in c) ++ rank_in place ∷ [])) (sym (codes ∙ ap (λ (k : ℕ). codes_in now ++ k ∷ []) code_is)) last in
    let as_many : length (codes_in now) ≡ length numbers = codes-many now ∙ parts.many in
    column_of_parts (numbers ++ number ∷ []) pushed tree inserted (add place body c.tree.column) (bodies_of_cells c.cells ++ body ∷ []) (followed same_time operations c.tree.column (ranks_in c) ++ rank_in place ∷ [])
    (ap length pushed_is ∙ length-last now (record { body = body; code = code }) ∙ ap suc parts.many ∙ sym (length-last numbers number))
    is fresh short all_coded
    (inserted_is ∙ ap (λ (i : IndexSeen). index_of (put (record { enc = code; row = number }) i.entries)) parts.indexed
    ∙ ap index_of (index_last (codes_in now) numbers code number as_many) ∙ ap (λ (cs : List ℕ). index_of (sorted (entries_of cs (numbers ++ number ∷ [])))) (sym codes))
    (ap bodies_of_cells pushed_is ∙ map-last (λ (cell : Cell). cell.body) now (record { body = body; code = code }) ∙ ap (λ (bs : List Body). bs ++ body ∷ []) parts.bodies_are)

-- ---- one row fewer

pub many_inserted : (numbers : List ℕ) (position number : ℕ) (c : Stored) → position ≤ length numbers → IsHeld (insert numbers position number) c → length c.cells ≡ suc (length numbers)
many_inserted numbers position number c within held = held.many ∙ length-inserted numbers position number within

pub dropped_many : (numbers : List ℕ) (position number : ℕ) (c : Stored) (removed : List Cell) → position ≤ length numbers → IsHeld (insert numbers position number) c → removed ≡ remove c.cells position → length removed ≡ length numbers
dropped_many numbers position number c removed within held is =
    let all = many_inserted numbers position number c within held in
    let fewer = length-removed c.cells position (omega (arith, all, within)) in
    ap length is ∙ omega (arith, all, fewer)

code_read : (cells : List Cell) (position : ℕ) (cell : Cell) → slice_get cells position ≡ Some cell → get_or (codes_in cells) position 0 ≡ cell.code
unfolding codes_in
code_read cells position cell read =
    get_or-mapped (λ (x : Cell). x.code) cells position cell 0 (slice_get_within cells position cell read) ∙ ap (λ (x : Cell). x.code) (get_or_from_slice_get cells position cell cell read)

pub dropped_index : (numbers : List ℕ) (position number : ℕ) (c : Stored) (cell : Cell) (removed : List Cell) (index : IndexSeen) → position ≤ length numbers → IsHeld (insert numbers position number) c → IsIncreasing (insert numbers position number)
    → slice_get c.cells position ≡ Some cell → removed ≡ remove c.cells position → index ≡ index_of (without (record { enc = cell.code; row = number }) c.index.entries) → index ≡ index_of (sorted (entries_of (codes_in removed) numbers))
unfolding index_of
dropped_index numbers position number c cell removed index within held rise read removed_is is =
    let all = many_inserted numbers position number c within held in
    let many : length (codes_in c.cells) ≡ suc (length numbers) = codes-many c.cells ∙ all in
    let none = inserted_apart numbers position number within rise in
    let gone = index_removed (codes_in c.cells) numbers position number (omega (arith, many, within)) many none in
    is ∙ ap (λ (i : IndexSeen). index_of (without (record { enc = cell.code; row = number }) i.entries)) held.indexed
    ∙ ap (λ (code : ℕ). index_of (without (record { enc = code; row = number }) (sorted (entries_of (codes_in c.cells) (insert numbers position number))))) (sym (code_read c.cells position cell read))
    ∙ ap index_of gone
    ∙ ap (λ (cs : List ℕ). index_of (sorted (entries_of cs numbers))) (sym (ap codes_in removed_is ∙ codes-removed c.cells position))

-- the rank of the row at a position, and its item's code
pub dropped_rank : (numbers : List ℕ) (position number : ℕ) (c : Stored) (cell : Cell) → slice_get c.cells position ≡ Some cell → below cell.code (codes_of c.tree.column.tree) ≡ rank_in_row c position
unfolding rank_in_row ranks_in ranks_among
dropped_rank numbers position number c cell read =
    let lt = slice_get_within c.cells position cell read in
    let all : position < length (codes_in c.cells) = omega (arith, lt, codes-many c.cells) in
    sym (get_or-mapped (λ (code : ℕ). below code (codes_of c.tree.column.tree)) (codes_in c.cells) position 0 0 all ∙ ap (λ (code : ℕ). below code (codes_of c.tree.column.tree)) (code_read c.cells position cell read))

pub dropped_code : (numbers : List ℕ) (c : Stored) (position : ℕ) (cell : Cell) → IsHeld numbers c → slice_get c.cells position ≡ Some cell → IsIn cell.code (codes_of c.tree.column.tree)
dropped_code numbers c position cell held read =
    let lt = slice_get_within c.cells position cell read in
    let all : position < length (codes_in c.cells) = omega (arith, lt, codes-many c.cells) in
    let as_many : length (ranks_in c) ≡ length (codes_in c.cells) = sym (length-map_list (item_code c.tree.column.tree) (ranks_in c)) ∙ sym (ap length held.coded.coded) in
    let among : position < length (ranks_in c) = omega (arith, all, as_many) in
    let rank : ℕ = get_or (ranks_in c) position 0 in
    let is : item_code c.tree.column.tree rank ≡ cell.code = sym (get_or-mapped (item_code c.tree.column.tree) (ranks_in c) position 0 0 among) ∙ ap (λ (cs : List ℕ). get_or cs position 0) (sym held.coded.coded) ∙ code_read c.cells position cell read in
    subst (λ (code : ℕ). IsIn code (codes_of c.tree.column.tree)) is (code_among c.tree.column.tree rank (held.coded.within rank (holds-at (ranks_in c) position 0 among)))

pub staying_dropped : (same_time : Bool) (numbers : List ℕ) (position number : ℕ) (c : Stored) (removed : List Cell) → FitsDrop same_time numbers position number c → removed ≡ remove c.cells position → height (apply_all same_time (drop_at c position) c.tree.column).tree ≤ 63
    → AreStaying same_time (drop_at c position) c.tree.column (codes_in removed) (remove (ranks_in c) position)
staying_dropped same_time numbers position number c removed fits is after = record {
  coded = subst (λ (cs : List ℕ). AreCoded (Item Body) c.tree.column.tree cs (remove (ranks_in c) position)) (sym (ap codes_in is ∙ codes-removed c.cells position)) (coded-removed c.tree.column.tree (codes_in c.cells) (ranks_in c) position fits.held.coded);
  stay = fits.stay;
  short = fits.held.short;
  after = after;
}

pub dropped_after : (same_time : Bool) (c : Stored) (position rank : ℕ) (column : Column Body) → rank ≡ rank_in_row c position → column ≡ drop_one same_time rank c.tree.column → column ≡ apply_all same_time (drop_at c position) c.tree.column
unfolding apply_all apply
dropped_after same_time c position rank column is became = became ∙ ap (λ (k : ℕ). drop_one same_time k c.tree.column) is

pub dropped_moved : (same_time : Bool) (c : Stored) (position rank : ℕ) (s : Sum) → rank ≡ rank_in_row c position → s ≡ sum_of same_time (Drop rank ∷ []) c.tree.column → s ≡ sum_of same_time (drop_at c position) c.tree.column
dropped_moved same_time c position rank s is told = told ∙ ap (λ (k : ℕ). sum_of same_time (Drop k ∷ []) c.tree.column) is

pub dropped_column : (same_time : Bool) (numbers : List ℕ) (position number : ℕ) (c : Stored) (moved : List Recode) (removed now : List Cell) (tree : TreeSeen) (index : IndexSeen)
    → FitsDrop same_time numbers position number c → removed ≡ remove c.cells position → tree.column ≡ apply_all same_time (drop_at c position) c.tree.column → tree.spent ≡ false → height tree.column.tree ≤ 63
    → moved ≡ (sum_of same_time (drop_at c position) c.tree.column).moved → now ≡ map (moved_cell (new_code moved)) removed → index ≡ index_of (sorted (entries_of (map (new_code moved) (codes_in removed)) numbers))
    → HasBecome numbers (apply_all same_time (drop_at c position) c.tree.column) (remove (bodies_in c) position) (followed same_time (drop_at c position) c.tree.column (remove (ranks_in c) position)) (record { cells = now; tree = tree; index = index })
unfolding bodies_in
dropped_column same_time numbers position number c moved removed now tree index fits removed_is is fresh short moved_is cells_are index_is =
    let operations = drop_at c position in
    let are = staying_dropped same_time numbers position number c removed fits removed_is (tree_short tree.column (apply_all same_time operations c.tree.column) is short) in
    let parts = parts_carried same_time operations numbers c.tree.column (remove (ranks_in c) position) moved removed now index are moved_is (dropped_many numbers position number c removed fits.within fits.held removed_is) cells_are index_is in
    subst (λ (bs : List Body). HasBecome numbers (apply_all same_time operations c.tree.column) bs (followed same_time operations c.tree.column (remove (ranks_in c) position)) (record { cells = now; tree = tree; index = index }))
    (ap bodies_of_cells removed_is ∙ map-remove (λ (cell : Cell). cell.body) c.cells position)
    (column_carried same_time operations numbers c.tree.column (bodies_of_cells removed) (remove (ranks_in c) position) now tree index parts is fresh short)

-- ---- a balanced tree

pub laid_column : (same_time : Bool) (numbers : List ℕ) (c : Stored) (moved : List Recode) (now : List Cell) (tree : TreeSeen) (index : IndexSeen)
    → IsHeld numbers c → tree.column ≡ lay c.tree.column → tree.spent ≡ false → height tree.column.tree ≤ 63
    → moved ≡ (sum_of same_time (Lay ∷ []) c.tree.column).moved → now ≡ map (moved_cell (new_code moved)) c.cells → index ≡ index_of (sorted (entries_of (map (new_code moved) (codes_in c.cells)) numbers))
    → HasBecome numbers (apply_all same_time (Lay ∷ []) c.tree.column) (bodies_in c) (followed same_time (Lay ∷ []) c.tree.column (ranks_in c)) (record { cells = now; tree = tree; index = index })
unfolding bodies_in apply_all apply
laid_column same_time numbers c moved now tree index held is fresh short moved_is cells_are index_is =
    let operations : List (Operation Body) = Lay ∷ [] in
    let are = staying_laid same_time numbers c held (tree_short tree.column (lay c.tree.column) is short) in
    let parts = parts_carried same_time operations numbers c.tree.column (ranks_in c) moved c.cells now index are moved_is held.many cells_are index_is in
    column_carried same_time operations numbers c.tree.column (bodies_of_cells c.cells) (ranks_in c) now tree index parts is fresh short

-- ---- columns made

pub made_column : (cells : List Cell) (tree : TreeSeen) (index : IndexSeen) → cells ≡ [] → tree ≡ empty_seen false → index ≡ index_of [] → record { cells = cells; tree = tree; index = index } ≡ no_column
unfolding no_column
made_column cells tree index no_cells no_tree no_index =
    ap (λ (cs : List Cell). record { cells = cs; tree = tree; index = index }) no_cells
    ∙ ap₂ (λ (t : TreeSeen) (i : IndexSeen). record { cells = []; tree = t; index = i }) no_tree no_index

pub copied_column : (numbers : List ℕ) (c : Stored) (cells : List Cell) (tree : TreeSeen) (index : IndexSeen) → IsHeld numbers c → cells ≡ c.cells → tree.column ≡ c.tree.column → tree.spent ≡ false → index ≡ index_of c.index.entries
    → HasBecome numbers c.tree.column (bodies_in c) (ranks_in c) (record { cells = cells; tree = tree; index = index })
unfolding bodies_in index_of
copied_column numbers c cells tree index held cells_are tree_is fresh index_is =
    let codes = ap codes_in cells_are in
    column_of_parts numbers cells tree index c.tree.column (bodies_of_cells c.cells) (ranks_in c)
    (ap length cells_are ∙ held.many) tree_is fresh (subst (λ (k : Column Body). height k.tree ≤ 63) (sym tree_is) held.short)
    (subst (λ (k : Column Body). AreCoded (Item Body) k.tree (codes_in cells) (ranks_in c)) (sym tree_is) (subst (λ (cs : List ℕ). AreCoded (Item Body) c.tree.column.tree cs (ranks_in c)) (sym codes) held.coded))
    (index_is ∙ ap (λ (i : IndexSeen). index_of i.entries) held.indexed ∙ ap (λ (cs : List ℕ). index_of (sorted (entries_of cs numbers))) (sym codes))
    (ap bodies_of_cells cells_are)
