-- The rows that a connection selects by codes are those that a statement is about by value, with their cells sealed.
use Rattle.std.proofs.Common.{◌≡◌, ℕ, ◌^◌, ◌<◌, ◌≤◌, Bool, List, [], ◌∷◌, map, length, filter, get_or, refl, ap, ◌∙◌, sym, arith, true}
use Rattle.std.proofs.lemmas.List.{length-map, get_or-map}
use Rattle.std.specs.List.{All}
use Rattle.std.proofs.lemmas.List.Elements.{All-filter}
use Rattle.mope_base.specs.declared.body.Body.{Body}
use Rattle.mope_base.specs.declared.numbers.ColNo.{ColNo}
use Rattle.tree_model.specs.Places.{holds}
use Rattle.tree_model.specs.Items.{values}
use Rattle.tree_model.specs.Columns.{items_of}
use Rattle.tree_model.proofs.Ordered.{holds-at}
use Rattle.table_model.specs.Stores.{Row, Store, Kept, Shelf, map_kept, map_shelf, kept_of, shelf_of}
use Rattle.table_model.specs.Soundness.{cell_value, column_at, ranks_at, readings_at, kept_numbers}
use Rattle.table_model.specs.ShelfSoundness.{SoundShelf}
use Rattle.table_model.specs.Standing.{Stands}
use Rattle.table_model.proofs.Lists.{map-map, map-same}
use Rattle.table_model.proofs.Deleted.{rising-front}
use Rattle.table_model.proofs.ShelfSoundOps.{shelf_fits_rows}
use Rattle.table_model.proofs.ShelfSoundMaps.{standing_shelf_is_sound}
use Rattle.value_cipher.specs.Cipher.{Cell, value_of, sealed, unseal_of}
use Rattle.workload.specs.declared.script.Ask.{Ask}
use Rattle.workload.specs.Selection.{passes, chosen, selected}
use Rattle.workload.proofs.MapLemmas.{selected-map}
use Rattle.proxy.specs.Tasks.{constants_all, asked_of}
use Rattle.sql_plan.specs.Plans.{by_code}
use Rattle.sql_plan.specs.Readings.{by_value, Reads, ask_of_codes}
use Rattle.sql_plan.specs.Laws.{HasColumns}
use Rattle.sql_plan.proofs.RowCodes.{Facts}
use Rattle.sql_plan.proofs.ValueRows.{Owns, filter-values, chosen-alike}
use Rattle.sql_plan.proofs.ValuePlans.{standing_reads}
use Rattle.server_conn.specs.Connections.{Held}
use Rattle.server_conn.specs.Checks.{own}
use Rattle.server_conn.specs.Serving.{ask_by, rows_asked}
use Rattle.transaction_laws.specs.Constants.{store_at, Shows, marks_for}
use Rattle.transaction_laws.specs.Queries.{cell_at, rows_about}
use Rattle.transaction_laws.proofs.Shown.{own-shown, shown-sound}
use Rattle.transaction_laws.proofs.AskedPlans.{unseals, ask-sent}

-- ---- what is used of a sound table by rank

facts-shown : (same_time : Bool) (limit : ℕ) (s : Shelf Body) → SoundShelf Body same_time limit s → limit ≤ 2 ^ 31 → Facts s
unfolding kept_numbers
facts-shown same_time limit s sound low = record {
  rise = rising-front (kept_numbers s.kept) (s.next ∷ []) sound.numbered;
  full = sound.full;
  low = λ column lt. (shelf_fits_rows same_time limit s column sound lt).fits.any low;
}

rank-held : (column : ℕ) (kept : List (Kept Body)) (k : ℕ) (d : Kept Body) → k < length kept → holds (get_or (get_or kept k d).ranks column 0) (ranks_at column kept) ≡ true
unfolding ranks_at
rank-held column kept k d lt =
    let f : Kept Body → ℕ = λ (row : Kept Body). get_or row.ranks column 0 in
    let few : k < length (map f kept) = omega (arith, lt, length-map kept f) in
    ap (λ (rank : ℕ). holds rank (map f kept)) (sym (get_or-map f kept k d 0 lt)) ∙ holds-at (map f kept) k 0 few

reads-at : (v : Body → ℕ) (s : Shelf Body) (column k : ℕ) (d : Kept Body) → k < length s.kept
    → readings_at v column s.kept ≡ map (λ rank. get_or (values v (items_of (column_at s.columns column))) rank 0) (ranks_at column s.kept)
    → get_or (map v (get_or s.kept k d).bodies) column 0 ≡ get_or (values v (items_of (column_at s.columns column))) (get_or (get_or s.kept k d).ranks column 0) 0
unfolding readings_at ranks_at
reads-at v s column k d lt same =
    let f : Kept Body → ℕ = λ (row : Kept Body). get_or row.ranks column 0 in
    let g : Kept Body → ℕ = λ (row : Kept Body). get_or (map v row.bodies) column 0 in
    let h : ℕ → ℕ = λ (rank : ℕ). get_or (values v (items_of (column_at s.columns column))) rank 0 in
    let few : k < length (map f s.kept) = omega (arith, lt, length-map s.kept f) in
    sym (get_or-map g s.kept k d 0 lt) ∙ ap (λ (xs : List ℕ). get_or xs k 0) same ∙ get_or-map h (map f s.kept) k 0 0 few ∙ ap h (get_or-map f s.kept k d 0 lt)

rows-own : (v : Body → ℕ) (same_time : Bool) (limit : ℕ) (s : Shelf Body) → SoundShelf Body same_time limit s → Reads v s → All (Owns v s) s.kept
rows-own v same_time limit s sound reads k d lt = λ column there. record {
  within = (shelf_fits_rows same_time limit s column.0 sound there).within (get_or (get_or s.kept k d).ranks column.0 0) (rank-held column.0 s.kept k d lt);
  reads = reads-at v s column.0 k d lt (reads.rows column.0 there);
}

-- by codes and by values the same rows are selected
alike : (v : Body → ℕ) (same_time : Bool) (limit : ℕ) (s : Shelf Body) (ask : Ask) → SoundShelf Body same_time limit s → limit ≤ 2 ^ 31 → Reads v s → HasColumns s ask
    → selected (by_code s) (ask_of_codes v s ask) s.kept ≡ selected (by_value v) ask s.kept
unfolding selected ask_of_codes
alike v same_time limit s ask sound low reads has =
    let facts = facts-shown same_time limit s sound low in
    let owns = rows-own v same_time limit s sound reads in
    ap (chosen (by_code s) ask.verb) (filter-values v s facts reads ask.tests s.kept has.tests owns)
    ∙ chosen-alike v s facts reads ask.verb has.verb (filter (passes (by_value v) ask.tests) s.kept) (All-filter (passes (by_value v) ask.tests) (Owns v s) s.kept owns)

-- ---- the rows of a world, sealed

-- a row of a world as the connection has it
unfoldable pub sealed_row : List ℕ → Store Cell → Row Cell → Kept Body
sealed_row key store row = map_kept (sealed key) (kept_of value_of store.columns row)

kept-shown : (key : List ℕ) (store : Store Cell) (s : Shelf Body) → s ≡ map_shelf (sealed key) (shelf_of value_of store) → s.kept ≡ map (sealed_row key store) store.rows
unfolding map_shelf shelf_of sealed_row
kept-shown key store s same = ap (λ (x : Shelf Body). x.kept) same ∙ map-map (map_kept (sealed key)) (kept_of value_of store.columns) store.rows

unseals-row : (key : List ℕ) (store : Store Cell) (column : ColNo) (row : Row Cell) → by_value (unseal_of key) column (sealed_row key store row) ≡ cell_at column row
unfolding by_value sealed_row map_kept kept_of cell_at cell_value
unseals-row key store column row =
    ap (λ (xs : List ℕ). get_or xs column.0 0) (map-map (unseal_of key) (sealed key) row.cells ∙ map-same (λ (cell : Cell). unseal_of key (sealed key cell)) value_of row.cells (unseals key))

asked-rows : (ask : Ask) (h : Held) → rows_asked (asked_of ask) h ≡ selected (by_code (own h ask.table)) (ask_by (asked_of ask) h) (own h ask.table).kept
unfolding rows_asked asked_of
asked-rows ask h = refl

-- what the connection selects
pub rows-asked : (key : List ℕ) (stores : List (Store Cell)) (ask : Ask) (h : Held) → Shows key stores h → ask.table.0 < length stores → HasColumns (own h ask.table) ask
    → h.marks ≡ marks_for ask.table (constants_all ask.tests) (store_at stores ask.table)
    → rows_asked (asked_of ask) h ≡ map (sealed_row key (store_at stores ask.table)) (rows_about ask (store_at stores ask.table))
unfolding rows_about
rows-asked key stores ask h shows there has marks =
    let s = own h ask.table in
    let store = store_at stores ask.table in
    let v : Body → ℕ = unseal_of key in
    let same : s ≡ map_shelf (sealed key) (shelf_of value_of store) = own-shown key stores h ask.table shows in
    let stands : Stands Body Cell (sealed key) value_of h.base.same_time h.base.limit s store = record { same = same; sound = shown-sound key stores h ask.table shows there } in
    let sound = standing_shelf_is_sound (sealed key) value_of h.base.same_time h.base.limit s store stands in
    let reads = standing_reads (sealed key) value_of v h.base.same_time h.base.limit s store stands (unseals key) in
    asked-rows ask h ∙ ap (λ (a : Ask). selected (by_code s) a s.kept) (ask-sent key stores ask h shows marks)
    ∙ alike v h.base.same_time h.base.limit s ask sound shows.low reads has
    ∙ ap (selected (by_value v) ask) (kept-shown key store s same)
    ∙ selected-map (sealed_row key store) cell_at (by_value v) (unseals-row key store) ask store.rows
