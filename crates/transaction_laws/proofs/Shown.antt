-- What a transaction has whose tables stand for those of a world.
use Rattle.std.proofs.Common.{◌≡◌, ℕ, zero, suc, ◌<◌, Bool, false, List, [], ◌∷◌, map, length, get_or, None, refl, ap, ◌∙◌, sym, arith}
use Rattle.std.proofs.Math.ListN.{get_or-map}
use Rattle.std.proofs.lemmas.Bool.{lt-leb}
use Rattle.std.proofs.lemmas.List.{length-map}
use Rattle.mope_base.specs.declared.body.Body.{Body}
use Rattle.mope_base.specs.declared.numbers.TableNo.{TableNo}
use Rattle.mope_base.specs.declared.numbers.ColNo.{ColNo}
use Rattle.tree_model.specs.Trees.{inorder, map_tree}
use Rattle.tree_model.specs.Places.{IsIncreasing}
use Rattle.tree_model.specs.Items.{map_item, values}
use Rattle.tree_model.specs.Columns.{Column, empty_column, items_of, map_column}
use Rattle.table_model.specs.Stores.{Store, Shelf, empty_store, map_shelf, shelf_of}
use Rattle.table_model.specs.Soundness.{Sound, column_at}
use Rattle.table_model.specs.Operations.{AllSound, shelf_at}
use Rattle.table_model.proofs.Ops.{shelf_at-map}
use Rattle.table_model.proofs.Bridge.{shelf_of-empty}
use Rattle.table_model.proofs.Sound.{sound_fits_rows}
use Rattle.value_cipher.specs.Cipher.{Cell, value_of, sealed}
use Rattle.server_conn.specs.Connections.{Held}
use Rattle.server_conn.specs.Checks.{own, lacks_table, lacks_column, most_marks}
use Rattle.transaction_laws.specs.Walks.{sealed_item, value_in, MayWalk}
use Rattle.transaction_laws.specs.Constants.{Shows, store_at}

sound-at : (same_time : Bool) (limit : ℕ) (stores : List (Store Cell)) (i : ℕ) (d : Store Cell) → AllSound value_of same_time limit stores → i < length stores → Sound Cell value_of same_time limit (get_or stores i d)
unfolding AllSound
sound-at same_time limit [] i d sound lt = absurd (omega arith)
sound-at same_time limit (t ∷ stores) zero d sound lt = sound.0
sound-at same_time limit (t ∷ stores) (suc i) d sound lt = sound-at same_time limit stores i d sound.1 (omega arith)

-- its own table is the world's with each cell sealed
pub own-shown : (key : List ℕ) (stores : List (Store Cell)) (h : Held) (t : TableNo) → Shows key stores h → own h t ≡ map_shelf (sealed key) (shelf_of value_of (store_at stores t))
unfolding own shelf_at store_at
own-shown key stores h t shows =
    ap (λ (shelves : List (Shelf Body)). shelf_at shelves t.0) shows.stand.same
    ∙ shelf_at-map (sealed key) (map (shelf_of value_of) stores) t.0
    ∙ ap (map_shelf (sealed key)) (ap (get_or (map (shelf_of value_of) stores) t.0) (sym (shelf_of-empty value_of 0)) ∙ get_or-map (shelf_of value_of) stores t.0 (empty_store Cell 0))

pub shown-sound : (key : List ℕ) (stores : List (Store Cell)) (h : Held) (t : TableNo) → Shows key stores h → t.0 < length stores → Sound Cell value_of h.base.same_time h.base.limit (store_at stores t)
unfolding store_at
shown-sound key stores h t shows lt = sound-at h.base.same_time h.base.limit stores t.0 (empty_store Cell 0) shows.stand.sound lt

pub shown-table : (key : List ℕ) (stores : List (Store Cell)) (h : Held) (t : TableNo) → Shows key stores h → t.0 < length stores → lacks_table h t ≡ false
unfolding lacks_table
shown-table key stores h t shows lt =
    let many : length h.shelves ≡ length stores = ap length shows.stand.same ∙ length-map (map (shelf_of value_of) stores) (map_shelf (sealed key)) ∙ length-map stores (shelf_of value_of) in
    lt-leb (length h.shelves) t.0 (omega (arith, many, lt))

columns-shown : (key : List ℕ) (stores : List (Store Cell)) (h : Held) (t : TableNo) → Shows key stores h → (own h t).columns ≡ map (map_column (sealed key)) (store_at stores t).columns
unfolding map_shelf shelf_of
columns-shown key stores h t shows = ap (λ (s : Shelf Body). s.columns) (own-shown key stores h t shows)

pub shown-columns : (key : List ℕ) (stores : List (Store Cell)) (h : Held) (t : TableNo) → Shows key stores h → length (own h t).columns ≡ length (store_at stores t).columns
shown-columns key stores h t shows = ap length (columns-shown key stores h t shows) ∙ length-map (store_at stores t).columns (map_column (sealed key))

pub shown-column : (key : List ℕ) (stores : List (Store Cell)) (h : Held) (t : TableNo) (column : ColNo) → Shows key stores h → column.0 < length (store_at stores t).columns → lacks_column h t column.0 ≡ false
unfolding lacks_column
shown-column key stores h t column shows lt = lt-leb (length (own h t).columns) column.0 (omega (arith, shown-columns key stores h t shows, lt))

-- a column with its bodies sealed
pub column-shown : (key : List ℕ) (stores : List (Store Cell)) (h : Held) (t : TableNo) (column : ℕ) → Shows key stores h → column_at (own h t).columns column ≡ map_column (sealed key) (column_at (store_at stores t).columns column)
unfolding column_at map_column empty_column map_tree
column-shown key stores h t column shows =
    ap (λ (cs : List (Column Body)). column_at cs column) (columns-shown key stores h t shows) ∙ get_or-map (map_column (sealed key)) (store_at stores t).columns column (empty_column Cell)

tree-shown : (key : List ℕ) (c : Column Cell) → (map_column (sealed key) c).tree ≡ map_tree (sealed_item key) c.tree
unfolding map_column sealed_item map_item
tree-shown key c = refl

increases : (c : Column Cell) → IsIncreasing (values value_of (items_of c)) → IsIncreasing (map value_in (inorder c.tree))
unfolding values items_of value_in
increases c up = up

-- so a walk may begin in it
pub may_walk : (key : List ℕ) (stores : List (Store Cell)) (h : Held) (t : TableNo) (column : ColNo) → Shows key stores h → h.walk ≡ None → t.0 < length stores → column.0 < length (store_at stores t).columns → length h.marks < most_marks → MayWalk key t column (column_at (store_at stores t).columns column.0).tree h
may_walk key stores h t column shows closed in_tables in_columns few =
    let sound = shown-sound key stores h t shows in_tables in
    let c = column_at (store_at stores t).columns column.0 in
    record {
      closed = closed;
      has_table = shown-table key stores h t shows in_tables;
      has_column = shown-column key stores h t column shows in_columns;
      few = few;
      same = ap (λ (d : Column Body). d.tree) (column-shown key stores h t column.0 shows) ∙ tree-shown key c;
      increasing = increases c (sound.columns column.0 in_columns).tallied.rise;
      short = (sound_fits_rows value_of h.base.same_time h.base.limit (store_at stores t) column.0 sound in_columns).any shows.low;
    }
