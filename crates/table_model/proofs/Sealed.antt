-- A table by rank that stands for a table by value.
use Rattle.std.proofs.Common.{◌≡◌, ℕ, suc, zero, ◌<◌, Bool, true, List, [], ◌∷◌, length, map, get_or, replicate, refl, ap, ap₂, ◌∙◌, sym, subst, arith}
use Rattle.std.proofs.lemmas.List.{length-map}
use Rattle.tree_model.specs.Places.{below, holds}
use Rattle.tree_model.specs.Items.{Item, values}
use Rattle.tree_model.specs.Trees.{map_tree}
use Rattle.tree_model.specs.Columns.{Column, empty_column, items_of, map_column}
use Rattle.tree_model.proofs.Ordered.{held_at-below, holds-cons_eq}
use Rattle.table_model.specs.Stores.{Row, Store, Kept, Shelf, empty_store, empty_shelf, map_kept, map_shelf, ranks_by, kept_of, shelf_of}
use Rattle.table_model.specs.Steps.{places_by}
use Rattle.table_model.specs.Changes.{insert_row, delete_row, delete_rows, lay_column}
use Rattle.table_model.specs.Soundness.{cell_value, column_values, readings_at, ranks_at, column_at, AllWide, Sound}
use Rattle.table_model.specs.Standing.{Stands}
use Rattle.table_model.specs.StandingLaws.{KeepsStanding}
use Rattle.table_model.proofs.Lists.{map-map, map-same}
use Rattle.table_model.proofs.Maps.{shelves_are_blind}
use Rattle.table_model.proofs.StoreMaps.{values-map_column}
use Rattle.table_model.proofs.SoundMaps.{column_at-map}
use Rattle.table_model.proofs.Following.{keys, Owned}
use Rattle.table_model.proofs.Rows.{value_in, held-cons}
use Rattle.table_model.proofs.Sound.{owned-of, insert-sound, delete-sound, deletes-sound, lay-sound, empty-sound}
use Rattle.table_model.proofs.Bridge.{shelf_of-insert, shelf_of-delete, shelf_of-deletes, shelf_of-lay}

pub operations_keep_standing : {B C : Type 0} (seal : C → B) (v : C → ℕ) (same_time : Bool) (limit : ℕ) (table : Shelf B) (t : Store C) → Stands B C seal v same_time limit table t → KeepsStanding B C seal v same_time limit table t
operations_keep_standing seal v same_time limit table t stands =
    let s = stands.sound in
    let blind = shelves_are_blind seal same_time (shelf_of v t) in
    record {
      inserts = λ cells wide room. record {
        same = ap (insert_row same_time (places_by v t.columns cells) (map seal cells)) stands.same
            ∙ blind.inserts (places_by v t.columns cells) cells
            ∙ ap (map_shelf seal) (sym (shelf_of-insert v same_time limit t s cells));
        sound = insert-sound v same_time limit t s cells wide room;
      };
      deletes = λ number. record {
        same = ap (delete_row same_time number) stands.same ∙ blind.deletes number ∙ ap (map_shelf seal) (sym (shelf_of-delete v same_time limit t s number));
        sound = delete-sound v same_time limit t s number;
      };
      deletes_each = λ numbers. record {
        same = ap (delete_rows same_time numbers) stands.same ∙ blind.deletes_each numbers ∙ ap (map_shelf seal) (sym (shelf_of-deletes v same_time limit t s numbers));
        sound = deletes-sound v same_time limit t s numbers;
      };
      lays = λ column. record {
        same = ap (lay_column same_time column) stands.same ∙ blind.lays column ∙ ap (map_shelf seal) (sym (shelf_of-lay v same_time limit t s column));
        sound = lay-sound v same_time limit t s column;
      };
    }

columns-empty : {B C : Type 0} (f : C → B) (n : ℕ) → map (map_column f) (replicate n (empty_column C)) ≡ replicate n (empty_column B)
unfolding map_column empty_column map_tree
columns-empty f zero = refl
columns-empty {B} {C} f (suc n) = ap (λ (cs : List (Column B)). empty_column B ∷ cs) (columns-empty {B = B} f n)

pub empty_stands : {B C : Type 0} (seal : C → B) (v : C → ℕ) (same_time : Bool) (limit columns : ℕ) → Stands B C seal v same_time limit (empty_shelf B columns) (empty_store C columns)
unfolding empty_shelf empty_store shelf_of map_shelf
empty_stands {B} {C} seal v same_time limit columns =
    record {
      same = ap (λ (cs : List (Column B)). let s : Shelf B = record { kept = []; next = 1; columns = cs } in s) (sym (columns-empty {B = B} seal columns));
      sound = empty-sound v same_time limit columns;
    }

-- ---- what rows' bodies read as

pub rank-at : {B : Type 0} (v : B → ℕ) (cs : List (Column B)) (cells : List B) (i : ℕ) → i < length cs → length cells ≡ length cs → get_or (ranks_by v cs cells) i 0 ≡ below (value_in v cells i) (keys v (column_at cs i))
unfolding ranks_by column_at
rank-at v [] cells i h wide = absurd (omega (arith, h))
rank-at v (c ∷ cs) [] i h wide = absurd (omega (arith, wide))
rank-at v (c ∷ cs) (cell ∷ cells) zero h wide = refl
rank-at v (c ∷ cs) (cell ∷ cells) (suc i) h wide = rank-at v cs cells i (omega (arith, h)) (omega (arith, wide))

-- in a table by value, the items at the rows' ranks have the rows' values
pub ranks-read : {B : Type 0} (v : B → ℕ) (cs : List (Column B)) (column : ℕ) (rows : List (Row B)) → column < length cs → AllWide (length cs) rows → ((x : ℕ) → holds x (column_values v column rows) ≡ true → Owned B v (column_at cs column) x)
    → map (λ (rank : ℕ). get_or (keys v (column_at cs column)) rank 0) (ranks_at column (map (kept_of v cs) rows)) ≡ column_values v column rows
unfolding ranks_at kept_of column_values cell_value AllWide
ranks-read v cs column [] h wide own = refl
ranks-read v cs column (row ∷ rows) h wide own =
    let x = value_in v row.cells column in
    let xs = keys v (column_at cs column) in
    let mine = own x (holds-cons_eq x x (column_values v column rows) refl) in
    ap₂ (λ (y : ℕ) (rest : List ℕ). y ∷ rest)
    (ap (λ (rank : ℕ). get_or xs rank 0) (rank-at v cs row.cells column h wide.0) ∙ (held_at-below x xs 0 mine.rise mine.held).1)
    (ranks-read v cs column rows h wide.1 (λ y held. own y (held-cons y x (column_values v column rows) held)))

values-read : {B C : Type 0} (seal : C → B) (v : C → ℕ) (u : B → ℕ) (items : List (Item C)) → ((c : C) → u (seal c) ≡ v c) → values (λ (c : C). u (seal c)) items ≡ values v items
unfolding values
values-read {B} {C} seal v u items says = map-same (λ (item : Item C). u (seal item.body)) (λ (item : Item C). v item.body) items (λ item. says item.body)

cells-read : {B C : Type 0} (seal : C → B) (v : C → ℕ) (u : B → ℕ) (cells : List C) → ((c : C) → u (seal c) ≡ v c) → map u (map seal cells) ≡ map v cells
cells-read {B} {C} seal v u cells says = map-map u seal cells ∙ map-same (λ (c : C). u (seal c)) v cells says

readings-sealed : {B C : Type 0} (seal : C → B) (v : C → ℕ) (cs : List (Column C)) (u : B → ℕ) (column : ℕ) (rows : List (Row C)) → ((c : C) → u (seal c) ≡ v c) → readings_at u column (map (map_kept seal) (map (kept_of v cs) rows)) ≡ column_values v column rows
unfolding readings_at map_kept kept_of column_values cell_value
readings-sealed seal v cs u column [] says = refl
readings-sealed seal v cs u column (row ∷ rows) says =
    ap₂ (λ (x : ℕ) (rest : List ℕ). x ∷ rest) (ap (λ (xs : List ℕ). get_or xs column 0) (cells-read seal v u row.cells says)) (readings-sealed seal v cs u column rows says)

pub ranks-sealed : {B C : Type 0} (seal : C → B) (column : ℕ) (kept : List (Kept C)) → ranks_at column (map (map_kept seal) kept) ≡ ranks_at column kept
unfolding ranks_at map_kept
ranks-sealed seal column [] = refl
ranks-sealed seal column (row ∷ kept) = ap (λ (rest : List ℕ). get_or row.ranks column 0 ∷ rest) (ranks-sealed seal column kept)

abbrev ReadsAsItems : {B : Type 0} → (B → ℕ) → ℕ → Shelf B → Type 0
ReadsAsItems u column table = readings_at u column table.kept ≡ map (λ (rank : ℕ). get_or (values u (items_of (column_at table.columns column))) rank 0) (ranks_at column table.kept)

sealed_reads : {B C : Type 0} (seal : C → B) (v : C → ℕ) (same_time : Bool) (limit : ℕ) (t : Store C) (u : B → ℕ) (column : ℕ) → Sound C v same_time limit t → ((c : C) → u (seal c) ≡ v c) → column < length t.columns → ReadsAsItems u column (map_shelf seal (shelf_of v t))
unfolding map_shelf shelf_of
sealed_reads {B} {C} seal v same_time limit t u column sound says h =
    let cs = t.columns in
    let kept = map (kept_of v cs) t.rows in
    readings-sealed seal v cs u column t.rows says
    ∙ sym (ranks-read v cs column t.rows h sound.wide (λ x held. owned-of v same_time limit t sound column x h held))
    ∙ ap₂ (λ (xs ranks : List ℕ). map (λ (rank : ℕ). get_or xs rank 0) ranks)
    (sym (ap (λ (c : Column B). keys u c) (column_at-map seal cs column) ∙ values-map_column seal u (column_at cs column) ∙ values-read seal v u (items_of (column_at cs column)) says))
    (sym (ranks-sealed seal column kept))

width-sealed : {B C : Type 0} (seal : C → B) (v : C → ℕ) (t : Store C) → length (map_shelf seal (shelf_of v t)).columns ≡ length t.columns
unfolding map_shelf shelf_of
width-sealed seal v t = length-map t.columns (map_column seal)

pub bodies_read_as_items : {B C : Type 0} (seal : C → B) (v : C → ℕ) (same_time : Bool) (limit : ℕ) (table : Shelf B) (t : Store C) (u : B → ℕ) (column : ℕ) → Stands B C seal v same_time limit table t → ((c : C) → u (seal c) ≡ v c) → column < length table.columns → ReadsAsItems u column table
bodies_read_as_items {B} {C} seal v same_time limit table t u column stands says h =
    subst (λ (s : Shelf B). ReadsAsItems u column s) (sym stands.same)
    (sealed_reads seal v same_time limit t u column stands.sound says
    (omega (arith, h, ap (λ (s : Shelf B). length s.columns) stands.same, width-sealed seal v t)))
