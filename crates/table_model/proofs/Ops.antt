-- Operations on several tables.
use Rattle.std.proofs.Common.{◌≡◌, ℕ, suc, zero, ◌<◌, Bool, List, [], ◌∷◌, length, map, refl, ap, ap₂, ◌∙◌, sym, subst, arith}
use Rattle.std.proofs.lemmas.List.{length-map}
use Rattle.tree_model.specs.declared.Place.{Place}
use Rattle.tree_model.specs.Trees.{IsPlaceOf}
use Rattle.tree_model.specs.Places.{place, IsIncreasing}
use Rattle.tree_model.specs.Items.{map_item, change_at}
use Rattle.tree_model.proofs.Mapped.{size-map_tree}
use Rattle.tree_model.proofs.Ordered.{IsPlaceOf-place}
use Rattle.tree_model.specs.Columns.{Column, items_of, map_column}
use Rattle.tree_model.proofs.Changes.{map-change_at_other}
use Rattle.table_model.specs.Stores.{Row, Store, Kept, Shelf, empty_shelf, map_store, map_kept, map_shelf, kept_of, shelf_of}
use Rattle.table_model.specs.Steps.{places_by}
use Rattle.table_model.specs.Changes.{insert_row, delete_rows, lay_column, insert_cells, delete_numbers, lay_store}
use Rattle.table_model.specs.Soundness.{numbers_of, kept_numbers, column_at, Sound, Same}
use Rattle.table_model.specs.Operations.{ValueOp, InsertCells, DeleteRows, RankOp, InsertAt, DeleteAt, op_on, ops_on, rank_op_on, rank_ops_on, columns_in, rows_in, placed_op, placed_ops, map_op, map_rank_op, shelf_at, install_on, rank_install_on, AllSound, AllSame}
use Rattle.table_model.specs.Fitting.{AllAmong, OpFits, AllFit, AllPlaced, OpFitsAt, AllFitAt}
use Rattle.table_model.specs.OperationLaws.{AreByRank, OpsAreBlind, AllDoSame, Installs}
use Rattle.table_model.proofs.Maps.{shelves_are_blind}
use Rattle.table_model.proofs.StoreMaps.{places_by-map, stores_map}
use Rattle.table_model.proofs.Sound.{insert-sound, deletes-sound, lay-sound}
use Rattle.table_model.proofs.Bridge.{shelf_of-insert, shelf_of-deletes, shelf_of-lay}
use Rattle.table_model.proofs.SameTables.{places_by-same, same_behaves, same_is_equivalence}
use Rattle.table_model.proofs.Lists.{map-map}
use Rattle.table_model.proofs.Following.{keys, length-keys}

-- ---- sound tables, and by rank

inserts-sound : {B : Type 0} (v : B → ℕ) (same_time : Bool) (limit : ℕ) (cells : List B) (stores : List (Store B)) (table : ℕ) → length cells ≡ length (columns_in stores table) → length (rows_in stores table) < limit → AllSound v same_time limit stores → AllSound v same_time limit (change_at (insert_cells same_time v cells) stores table)
unfolding change_at columns_in rows_in AllSound
inserts-sound v same_time limit cells [] table wide room sound = sound
inserts-sound v same_time limit cells (t ∷ stores) zero wide room sound = (insert-sound v same_time limit t sound.0 cells wide room, sound.1)
inserts-sound v same_time limit cells (t ∷ stores) (suc table) wide room sound = (sound.0, inserts-sound v same_time limit cells stores table wide room sound.1)

deletes_in-sound : {B : Type 0} (v : B → ℕ) (same_time : Bool) (limit : ℕ) (numbers : List ℕ) (stores : List (Store B)) (table : ℕ) → AllSound v same_time limit stores → AllSound v same_time limit (change_at (delete_numbers same_time v numbers) stores table)
unfolding change_at AllSound
deletes_in-sound v same_time limit numbers [] table sound = sound
deletes_in-sound v same_time limit numbers (t ∷ stores) zero sound = (deletes-sound v same_time limit t sound.0 numbers, sound.1)
deletes_in-sound v same_time limit numbers (t ∷ stores) (suc table) sound = (sound.0, deletes_in-sound v same_time limit numbers stores table sound.1)

pub op-sound : {B : Type 0} (v : B → ℕ) (same_time : Bool) (limit : ℕ) (op : ValueOp B) (stores : List (Store B)) → AllSound v same_time limit stores → OpFits limit op stores → AllSound v same_time limit (op_on same_time v op stores)
unfolding op_on OpFits
op-sound v same_time limit (InsertCells table cells) stores sound fits = inserts-sound v same_time limit cells stores table fits.wide fits.room sound
op-sound v same_time limit (DeleteRows table numbers) stores sound fits = deletes_in-sound v same_time limit numbers stores table sound

inserts-shelves : {B : Type 0} (v : B → ℕ) (same_time : Bool) (limit : ℕ) (cells : List B) (stores : List (Store B)) (table : ℕ) → AllSound v same_time limit stores
    → map (shelf_of v) (change_at (insert_cells same_time v cells) stores table) ≡ change_at (insert_row same_time (places_by v (columns_in stores table) cells) cells) (map (shelf_of v) stores) table
unfolding change_at columns_in AllSound
inserts-shelves v same_time limit cells [] table sound = refl
inserts-shelves v same_time limit cells (t ∷ stores) zero sound = ap (λ (s : Shelf _). s ∷ map (shelf_of v) stores) (shelf_of-insert v same_time limit t sound.0 cells)
inserts-shelves v same_time limit cells (t ∷ stores) (suc table) sound = ap (λ (rest : List (Shelf _)). shelf_of v t ∷ rest) (inserts-shelves v same_time limit cells stores table sound.1)

deletes-shelves : {B : Type 0} (v : B → ℕ) (same_time : Bool) (limit : ℕ) (numbers : List ℕ) (stores : List (Store B)) (table : ℕ) → AllSound v same_time limit stores
    → map (shelf_of v) (change_at (delete_numbers same_time v numbers) stores table) ≡ change_at (delete_rows same_time numbers) (map (shelf_of v) stores) table
unfolding change_at AllSound
deletes-shelves v same_time limit numbers [] table sound = refl
deletes-shelves v same_time limit numbers (t ∷ stores) zero sound = ap (λ (s : Shelf _). s ∷ map (shelf_of v) stores) (shelf_of-deletes v same_time limit t sound.0 numbers)
deletes-shelves v same_time limit numbers (t ∷ stores) (suc table) sound = ap (λ (rest : List (Shelf _)). shelf_of v t ∷ rest) (deletes-shelves v same_time limit numbers stores table sound.1)

pub op-shelves : {B : Type 0} (v : B → ℕ) (same_time : Bool) (limit : ℕ) (op : ValueOp B) (stores : List (Store B)) → AllSound v same_time limit stores → map (shelf_of v) (op_on same_time v op stores) ≡ rank_op_on same_time (placed_op v op stores) (map (shelf_of v) stores)
unfolding op_on rank_op_on placed_op
op-shelves v same_time limit (InsertCells table cells) stores sound = inserts-shelves v same_time limit cells stores table sound
op-shelves v same_time limit (DeleteRows table numbers) stores sound = deletes-shelves v same_time limit numbers stores table sound

-- ---- operations that fit

columns-shelf : {B : Type 0} (v : B → ℕ) (stores : List (Store B)) (table : ℕ) → (shelf_at (map (shelf_of v) stores) table).columns ≡ columns_in stores table
unfolding shelf_at columns_in shelf_of empty_shelf
columns-shelf v [] table = refl
columns-shelf v (t ∷ stores) zero = refl
columns-shelf v (t ∷ stores) (suc table) = columns-shelf v stores table

kept-shelf : {B : Type 0} (v : B → ℕ) (stores : List (Store B)) (table : ℕ) → length (shelf_at (map (shelf_of v) stores) table).kept ≡ length (rows_in stores table)
unfolding shelf_at rows_in shelf_of empty_shelf
kept-shelf v [] table = refl
kept-shelf v (t ∷ stores) zero = length-map t.rows (kept_of v t.columns)
kept-shelf v (t ∷ stores) (suc table) = kept-shelf v stores table

numbers-shelf : {B : Type 0} (v : B → ℕ) (stores : List (Store B)) (table : ℕ) → kept_numbers (shelf_at (map (shelf_of v) stores) table).kept ≡ numbers_of (rows_in stores table)
unfolding shelf_at rows_in shelf_of empty_shelf kept_numbers numbers_of kept_of
numbers-shelf v [] table = refl
numbers-shelf {B} v (t ∷ stores) zero = map-map (λ (row : Kept B). row.number) (kept_of v t.columns) t.rows
numbers-shelf v (t ∷ stores) (suc table) = numbers-shelf v stores table

rising-in : {B : Type 0} (v : B → ℕ) (same_time : Bool) (limit : ℕ) (stores : List (Store B)) (table i : ℕ) → AllSound v same_time limit stores → i < length (columns_in stores table) → IsIncreasing (keys v (column_at (columns_in stores table) i))
unfolding columns_in AllSound
rising-in v same_time limit [] table i sound h = absurd (omega (arith, h))
rising-in v same_time limit (t ∷ stores) zero i sound h = (sound.0.columns i h).tallied.rise
rising-in v same_time limit (t ∷ stores) (suc table) i sound h = rising-in v same_time limit stores table i sound.1 h

placed-all : {B : Type 0} (v : B → ℕ) (cs : List (Column B)) (cells : List B) → length cells ≡ length cs → ((i : ℕ) → i < length cs → IsIncreasing (keys v (column_at cs i))) → AllPlaced cs (places_by v cs cells)
unfolding AllPlaced places_by column_at
placed-all v [] cells wide up = tt
placed-all v (c ∷ cs) [] wide up = absurd (omega (arith, wide))
placed-all v (c ∷ cs) (cell ∷ cells) wide up = (
  subst (λ (n : ℕ). IsPlaceOf n (place (keys v c) (v cell))) (length-keys v c) (IsPlaceOf-place (keys v c) (v cell) (up 0 (omega arith))),
  placed-all v cs cells (omega (arith, wide)) (λ i h. up (suc i) (omega (arith, h))),
)

op-fits : {B : Type 0} (v : B → ℕ) (same_time : Bool) (limit : ℕ) (op : ValueOp B) (stores : List (Store B)) → AllSound v same_time limit stores → OpFits limit op stores → OpFitsAt limit (placed_op v op stores) (map (shelf_of v) stores)
unfolding OpFits OpFitsAt placed_op
op-fits {B} v same_time limit (InsertCells table cells) stores sound fits =
    let cs = columns_in stores table in
    let is = columns-shelf v stores table in
    record {
      there = omega (arith, fits.there, length-map stores (shelf_of v));
      placed = subst (λ (ds : List (Column B)). AllPlaced ds (places_by v cs cells)) (sym is) (placed-all v cs cells fits.wide (λ i h. rising-in v same_time limit stores table i sound h));
      wide = fits.wide ∙ sym (ap length is);
      room = omega (arith, fits.room, kept-shelf v stores table);
    }
op-fits v same_time limit (DeleteRows table numbers) stores sound fits =
    record {
      there = omega (arith, fits.there, length-map stores (shelf_of v));
      some = fits.some;
      rise = fits.rise;
      live = subst (λ (ns : List ℕ). AllAmong ns numbers) (sym (numbers-shelf v stores table)) fits.live;
    }

pub ops_are_by_rank : {B : Type 0} (v : B → ℕ) (same_time : Bool) (limit : ℕ) (ops : List (ValueOp B)) (stores : List (Store B)) → AllSound v same_time limit stores → AllFit same_time v limit ops stores → AreByRank B v same_time limit ops stores
unfolding ops_on rank_ops_on placed_ops AllFit AllFitAt
ops_are_by_rank v same_time limit [] stores sound fit = record { sound = sound; fit = tt; shelves = refl }
ops_are_by_rank v same_time limit (op ∷ ops) stores sound fit =
    let rest = ops_are_by_rank v same_time limit ops (op_on same_time v op stores) (op-sound v same_time limit op stores sound fit.0) fit.1 in
    let placed = placed_ops same_time v ops (op_on same_time v op stores) in
    record {
      sound = rest.sound;
      fit = (op-fits v same_time limit op stores sound fit.0, subst (AllFitAt same_time limit placed) (op-shelves v same_time limit op stores sound) rest.fit);
      shelves = rest.shelves ∙ ap (rank_ops_on same_time (placed_ops same_time v ops (op_on same_time v op stores))) (op-shelves v same_time limit op stores sound);
    }

-- ---- nothing looks at bodies

pub rank_op-map : {B C : Type 0} (f : B → C) (same_time : Bool) (op : RankOp B) (shelves : List (Shelf B)) → rank_op_on same_time (map_rank_op f op) (map (map_shelf f) shelves) ≡ map (map_shelf f) (rank_op_on same_time op shelves)
unfolding rank_op_on map_rank_op
rank_op-map f same_time (InsertAt table places bodies) shelves =
    map-change_at_other (map_shelf f) (insert_row same_time places bodies) (insert_row same_time places (map f bodies)) (λ s. sym ((shelves_are_blind f same_time s).inserts places bodies)) shelves table
rank_op-map f same_time (DeleteAt table numbers) shelves =
    map-change_at_other (map_shelf f) (delete_rows same_time numbers) (delete_rows same_time numbers) (λ s. sym ((shelves_are_blind f same_time s).deletes_each numbers)) shelves table

rank_ops-map : {B C : Type 0} (f : B → C) (same_time : Bool) (ops : List (RankOp B)) (shelves : List (Shelf B)) → rank_ops_on same_time (map (map_rank_op f) ops) (map (map_shelf f) shelves) ≡ map (map_shelf f) (rank_ops_on same_time ops shelves)
unfolding rank_ops_on
rank_ops-map f same_time [] shelves = refl
rank_ops-map f same_time (op ∷ ops) shelves =
    ap (rank_ops_on same_time (map (map_rank_op f) ops)) (rank_op-map f same_time op shelves) ∙ rank_ops-map f same_time ops (rank_op_on same_time op shelves)

op-map : {B C : Type 0} (f : B → C) (v : C → ℕ) (same_time : Bool) (op : ValueOp B) (stores : List (Store B)) → op_on same_time v (map_op f op) (map (map_store f) stores) ≡ map (map_store f) (op_on same_time (λ (b : B). v (f b)) op stores)
unfolding op_on map_op
op-map {B} f v same_time (InsertCells table cells) stores =
    map-change_at_other (map_store f) (insert_cells same_time (λ (b : B). v (f b)) cells) (insert_cells same_time v (map f cells)) (λ t. sym ((stores_map f v same_time t).inserts cells)) stores table
op-map {B} f v same_time (DeleteRows table numbers) stores =
    map-change_at_other (map_store f) (delete_numbers same_time (λ (b : B). v (f b)) numbers) (delete_numbers same_time v numbers) (λ t. sym ((stores_map f v same_time t).deletes_each numbers)) stores table

ops-map : {B C : Type 0} (f : B → C) (v : C → ℕ) (same_time : Bool) (ops : List (ValueOp B)) (stores : List (Store B)) → ops_on same_time v (map (map_op f) ops) (map (map_store f) stores) ≡ map (map_store f) (ops_on same_time (λ (b : B). v (f b)) ops stores)
unfolding ops_on
ops-map f v same_time [] stores = refl
ops-map {B} f v same_time (op ∷ ops) stores =
    ap (ops_on same_time v (map (map_op f) ops)) (op-map f v same_time op stores) ∙ ops-map f v same_time ops (op_on same_time (λ (b : B). v (f b)) op stores)

columns_in-map : {B C : Type 0} (f : B → C) (stores : List (Store B)) (table : ℕ) → columns_in (map (map_store f) stores) table ≡ map (map_column f) (columns_in stores table)
unfolding columns_in map_store
columns_in-map f [] table = refl
columns_in-map f (t ∷ stores) zero = refl
columns_in-map f (t ∷ stores) (suc table) = columns_in-map f stores table

placed_op-map : {B C : Type 0} (f : B → C) (v : C → ℕ) (op : ValueOp B) (stores : List (Store B)) → placed_op v (map_op f op) (map (map_store f) stores) ≡ map_rank_op f (placed_op (λ (b : B). v (f b)) op stores)
unfolding placed_op map_op map_rank_op
placed_op-map f v (InsertCells table cells) stores =
    ap (λ (places : List Place). InsertAt table places (map f cells))
    (ap (λ (cs : List (Column _)). places_by v cs (map f cells)) (columns_in-map f stores table) ∙ places_by-map f v (columns_in stores table) cells)
placed_op-map f v (DeleteRows table numbers) stores = refl

placed_ops-map : {B C : Type 0} (f : B → C) (v : C → ℕ) (same_time : Bool) (ops : List (ValueOp B)) (stores : List (Store B)) → placed_ops same_time v (map (map_op f) ops) (map (map_store f) stores) ≡ map (map_rank_op f) (placed_ops same_time (λ (b : B). v (f b)) ops stores)
unfolding placed_ops
placed_ops-map f v same_time [] stores = refl
placed_ops-map {B} {C} f v same_time (op ∷ ops) stores =
    ap₂ (λ (first : RankOp C) (rest : List (RankOp C)). first ∷ rest) (placed_op-map f v op stores)
    (ap (placed_ops same_time v (map (map_op f) ops)) (op-map f v same_time op stores) ∙ placed_ops-map f v same_time ops (op_on same_time (λ (b : B). v (f b)) op stores))

pub shelf_at-map : {B C : Type 0} (f : B → C) (shelves : List (Shelf B)) (table : ℕ) → shelf_at (map (map_shelf f) shelves) table ≡ map_shelf f (shelf_at shelves table)
unfolding shelf_at empty_shelf map_shelf
shelf_at-map f [] table = refl
shelf_at-map f (s ∷ shelves) zero = refl
shelf_at-map f (s ∷ shelves) (suc table) = shelf_at-map f shelves table

placed-map : {B C : Type 0} (f : B → C) (cs : List (Column B)) (places : List Place) → AllPlaced cs places → AllPlaced (map (map_column f) cs) places
unfolding AllPlaced map_column
placed-map f [] [] placed = placed
placed-map f [] (p ∷ places) placed = placed
placed-map f (c ∷ cs) [] placed = placed
placed-map f (c ∷ cs) (p ∷ places) placed = (subst (λ (n : ℕ). IsPlaceOf n p) (sym (size-map_tree (map_item f) c.tree)) placed.0, placed-map f cs places placed.1)

kept_numbers-map : {B C : Type 0} (f : B → C) (kept : List (Kept B)) → kept_numbers (map (map_kept f) kept) ≡ kept_numbers kept
unfolding kept_numbers map_kept
kept_numbers-map {B} {C} f kept = map-map (λ (row : Kept C). row.number) (map_kept f) kept

fits_at-map : {B C : Type 0} (f : B → C) (limit : ℕ) (op : RankOp B) (shelves : List (Shelf B)) → OpFitsAt limit op shelves → OpFitsAt limit (map_rank_op f op) (map (map_shelf f) shelves)
unfolding OpFitsAt map_rank_op map_shelf
fits_at-map {B} {C} f limit (InsertAt table places bodies) shelves fits =
    let s = shelf_at shelves table in
    let is = shelf_at-map f shelves table in
    record {
      there = omega (arith, fits.there, length-map shelves (map_shelf f));
      placed = subst (λ (r : Shelf C). AllPlaced r.columns places) (sym is) (placed-map f s.columns places fits.placed);
      wide = length-map bodies f ∙ fits.wide ∙ sym (length-map s.columns (map_column f)) ∙ sym (ap (λ (r : Shelf C). length r.columns) is);
      room = omega (arith, fits.room, ap (λ (r : Shelf C). length r.kept) is, length-map s.kept (map_kept f));
    }
fits_at-map {B} {C} f limit (DeleteAt table numbers) shelves fits =
    let s = shelf_at shelves table in
    record {
      there = omega (arith, fits.there, length-map shelves (map_shelf f));
      some = fits.some;
      rise = fits.rise;
      live = subst (λ (ns : List ℕ). AllAmong ns numbers) (sym (ap (λ (r : Shelf C). kept_numbers r.kept) (shelf_at-map f shelves table) ∙ kept_numbers-map f s.kept)) fits.live;
    }

all_fit_at-map : {B C : Type 0} (f : B → C) (same_time : Bool) (limit : ℕ) (ops : List (RankOp B)) (shelves : List (Shelf B)) → AllFitAt same_time limit ops shelves → AllFitAt same_time limit (map (map_rank_op f) ops) (map (map_shelf f) shelves)
unfolding AllFitAt
all_fit_at-map f same_time limit [] shelves fit = fit
all_fit_at-map f same_time limit (op ∷ ops) shelves fit = (
  fits_at-map f limit op shelves fit.0,
  subst (AllFitAt same_time limit (map (map_rank_op f) ops)) (sym (rank_op-map f same_time op shelves)) (all_fit_at-map f same_time limit ops (rank_op_on same_time op shelves) fit.1),
)

pub operations_are_blind : {B C : Type 0} (f : B → C) (v : C → ℕ) (same_time : Bool) → OpsAreBlind B C f v same_time
operations_are_blind f v same_time = record { by_rank = rank_ops-map f same_time; by_value = ops-map f v same_time; placed = placed_ops-map f v same_time; fit = all_fit_at-map f same_time }

-- ---- tables that differ by balancing alone

-- what a place in the lists of tables shows
pub record SameIn (B : Type 0) (stores others : List (Store B)) (table : ℕ) : Type 0 where
  pub many : length stores ≡ length others
  pub rows : rows_in stores table ≡ rows_in others table
  pub items : map items_of (columns_in stores table) ≡ map items_of (columns_in others table)

pub same-in : {B : Type 0} (stores others : List (Store B)) (table : ℕ) → AllSame stores others → SameIn B stores others table
unfolding AllSame rows_in columns_in
same-in [] [] table same = record { many = refl; rows = refl; items = refl }
same-in [] (u ∷ others) table same = absurd same
same-in (t ∷ stores) [] table same = absurd same
same-in (t ∷ stores) (u ∷ others) zero same = record { many = ap suc (same-in stores others 0 same.1).many; rows = same.0.rows; items = same.0.items }
same-in (t ∷ stores) (u ∷ others) (suc table) same =
    let rest = same-in stores others table same.1 in
    record { many = ap suc rest.many; rows = rest.rows; items = rest.items }

fits-same : {B : Type 0} (limit : ℕ) (op : ValueOp B) (stores others : List (Store B)) → AllSame stores others → OpFits limit op stores → OpFits limit op others
unfolding OpFits
fits-same limit (InsertCells table cells) stores others same fits =
    let at = same-in stores others table same in
    let width = sym (length-map (columns_in stores table) items_of) ∙ ap length at.items ∙ length-map (columns_in others table) items_of in
    record { there = omega (arith, fits.there, at.many); wide = fits.wide ∙ width; room = omega (arith, fits.room, ap length at.rows) }
fits-same limit (DeleteRows table numbers) stores others same fits =
    let at = same-in stores others table same in
    record { there = omega (arith, fits.there, at.many); some = fits.some; rise = fits.rise; live = subst (λ (rows : List (Row _)). AllAmong (numbers_of rows) numbers) at.rows fits.live }

placed-same : {B : Type 0} (v : B → ℕ) (op : ValueOp B) (stores others : List (Store B)) → AllSame stores others → placed_op v op stores ≡ placed_op v op others
unfolding placed_op
placed-same v (InsertCells table cells) stores others same =
    ap (λ (places : List Place). InsertAt table places cells) (places_by-same v (columns_in stores table) (columns_in others table) cells (same-in stores others table same).items)
placed-same v (DeleteRows table numbers) stores others same = refl

changed-same : {B : Type 0} (v : B → ℕ) (same_time : Bool) (limit : ℕ) (f : Store B → Store B) → ((t u : Store B) → Sound B v same_time limit t → Sound B v same_time limit u → Same B t u → Same B (f t) (f u))
    → (stores others : List (Store B)) (table : ℕ) → AllSound v same_time limit stores → AllSound v same_time limit others → AllSame stores others → AllSame (change_at f stores table) (change_at f others table)
unfolding AllSame AllSound change_at
changed-same v same_time limit f each [] [] table sound_t sound_u same = same
changed-same v same_time limit f each [] (u ∷ others) table sound_t sound_u same = absurd same
changed-same v same_time limit f each (t ∷ stores) [] table sound_t sound_u same = absurd same
changed-same v same_time limit f each (t ∷ stores) (u ∷ others) zero sound_t sound_u same = (each t u sound_t.0 sound_u.0 same.0, same.1)
changed-same v same_time limit f each (t ∷ stores) (u ∷ others) (suc table) sound_t sound_u same = (same.0, changed-same v same_time limit f each stores others table sound_t.1 sound_u.1 same.1)

op-same : {B : Type 0} (v : B → ℕ) (same_time : Bool) (limit : ℕ) (op : ValueOp B) (stores others : List (Store B)) → AllSound v same_time limit stores → AllSound v same_time limit others → AllSame stores others → AllSame (op_on same_time v op stores) (op_on same_time v op others)
unfolding op_on
op-same v same_time limit (InsertCells table cells) stores others sound_t sound_u same =
    changed-same v same_time limit (insert_cells same_time v cells) (λ t u s_t s_u e. (same_behaves v same_time limit t u s_t s_u e).inserts cells) stores others table sound_t sound_u same
op-same v same_time limit (DeleteRows table numbers) stores others sound_t sound_u same =
    changed-same v same_time limit (delete_numbers same_time v numbers) (λ t u s_t s_u e. (same_behaves v same_time limit t u s_t s_u e).deletes_each numbers) stores others table sound_t sound_u same

pub ops_on_same : {B : Type 0} (v : B → ℕ) (same_time : Bool) (limit : ℕ) (ops : List (ValueOp B)) (stores others : List (Store B)) → AllSound v same_time limit stores → AllSound v same_time limit others → AllSame stores others → AllFit same_time v limit ops stores → AllDoSame B v same_time limit ops stores others
unfolding AllFit placed_ops ops_on
ops_on_same v same_time limit [] stores others sound_t sound_u same fit = record { fit = tt; placed = refl; same = same }
ops_on_same {B} v same_time limit (op ∷ ops) stores others sound_t sound_u same fit =
    let fits_u = fits-same limit op stores others same fit.0 in
    let rest = ops_on_same v same_time limit ops (op_on same_time v op stores) (op_on same_time v op others)
    (op-sound v same_time limit op stores sound_t fit.0) (op-sound v same_time limit op others sound_u fits_u) (op-same v same_time limit op stores others sound_t sound_u same) fit.1 in
    record {
      fit = (fits_u, rest.fit);
      placed = ap₂ (λ (first : RankOp B) (more : List (RankOp B)). first ∷ more) (placed-same v op stores others same) rest.placed;
      same = rest.same;
    }

-- ---- installs

lays-sound : {B : Type 0} (v : B → ℕ) (same_time : Bool) (limit column : ℕ) (stores : List (Store B)) (table : ℕ) → AllSound v same_time limit stores → AllSound v same_time limit (change_at (lay_store same_time column) stores table)
unfolding change_at AllSound
lays-sound v same_time limit column [] table sound = sound
lays-sound v same_time limit column (t ∷ stores) zero sound = (lay-sound v same_time limit t sound.0 column, sound.1)
lays-sound v same_time limit column (t ∷ stores) (suc table) sound = (sound.0, lays-sound v same_time limit column stores table sound.1)

pub same-all : {B : Type 0} (stores : List (Store B)) → AllSame stores stores
unfolding AllSame
same-all [] = tt
same-all {B} (t ∷ stores) = ((same_is_equivalence B).reflexive t, same-all stores)

lays-same : {B : Type 0} (same_time : Bool) (column : ℕ) (stores : List (Store B)) (table : ℕ) → AllSame (change_at (lay_store same_time column) stores table) stores
unfolding change_at AllSame
lays-same same_time column [] table = tt
lays-same {B} same_time column (t ∷ stores) zero = ((same_is_equivalence B).laid same_time column t, same-all stores)
lays-same {B} same_time column (t ∷ stores) (suc table) = ((same_is_equivalence B).reflexive t, lays-same same_time column stores table)

lays-shelves : {B : Type 0} (v : B → ℕ) (same_time : Bool) (limit column : ℕ) (stores : List (Store B)) (table : ℕ) → AllSound v same_time limit stores → map (shelf_of v) (change_at (lay_store same_time column) stores table) ≡ change_at (lay_column same_time column) (map (shelf_of v) stores) table
unfolding change_at AllSound
lays-shelves v same_time limit column [] table sound = refl
lays-shelves v same_time limit column (t ∷ stores) zero sound = ap (λ (s : Shelf _). s ∷ map (shelf_of v) stores) (shelf_of-lay v same_time limit t sound.0 column)
lays-shelves v same_time limit column (t ∷ stores) (suc table) sound = ap (λ (rest : List (Shelf _)). shelf_of v t ∷ rest) (lays-shelves v same_time limit column stores table sound.1)

pub installs_are_by_rank : {B : Type 0} (v : B → ℕ) (same_time : Bool) (limit table column : ℕ) (stores : List (Store B)) → AllSound v same_time limit stores → Installs B v same_time limit table column stores
unfolding install_on rank_install_on
installs_are_by_rank v same_time limit table column stores sound =
    record { sound = lays-sound v same_time limit column stores table sound; same = lays-same same_time column stores table; shelves = lays-shelves v same_time limit column stores table sound }

pub installs_are_blind : {B C : Type 0} (f : B → C) (same_time : Bool) (table column : ℕ) (shelves : List (Shelf B)) → rank_install_on same_time table column (map (map_shelf f) shelves) ≡ map (map_shelf f) (rank_install_on same_time table column shelves)
unfolding rank_install_on
installs_are_blind f same_time table column shelves =
    map-change_at_other (map_shelf f) (lay_column same_time column) (lay_column same_time column) (λ s. sym ((shelves_are_blind f same_time s).lays column)) shelves table
