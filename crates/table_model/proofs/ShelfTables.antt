-- Several sound tables by rank.
use Rattle.std.proofs.Common.{◌≡◌, ℕ, suc, zero, ◌<◌, Bool, List, [], ◌∷◌, length, map}
use Rattle.tree_model.specs.declared.Place.{Place}
use Rattle.tree_model.specs.Items.{change_at}
use Rattle.table_model.specs.Stores.{Shelf, empty_shelf}
use Rattle.table_model.specs.Changes.{insert_row, delete_rows, lay_column}
use Rattle.table_model.specs.Operations.{RankOp, InsertAt, DeleteAt, rank_op_on, rank_ops_on, rank_install_on, shelf_at}
use Rattle.table_model.specs.Fitting.{AllPlaced, OpFitsAt, AllFitAt}
use Rattle.table_model.specs.ShelfSoundness.{SoundShelf, AllSoundShelves}
use Rattle.table_model.specs.RankLaws.{KeepsAllSoundShelves}
use Rattle.table_model.proofs.ShelfSoundOps.{operations_keep_shelf, empty_shelf_is_sound}

inserts-shelf : {B : Type 0} (same_time : Bool) (limit : ℕ) (places : List Place) (bodies : List B) (shelves : List (Shelf B)) (table : ℕ) → AllPlaced (shelf_at shelves table).columns places → length bodies ≡ length (shelf_at shelves table).columns → length (shelf_at shelves table).kept < limit
    → AllSoundShelves same_time limit shelves → AllSoundShelves same_time limit (change_at (insert_row same_time places bodies) shelves table)
unfolding change_at shelf_at AllSoundShelves
inserts-shelf same_time limit places bodies [] table placed wide room sound = sound
inserts-shelf same_time limit places bodies (s ∷ shelves) zero placed wide room sound = ((operations_keep_shelf same_time limit s sound.0).inserts places bodies placed wide room, sound.1)
inserts-shelf same_time limit places bodies (s ∷ shelves) (suc table) placed wide room sound = (sound.0, inserts-shelf same_time limit places bodies shelves table placed wide room sound.1)

changed-shelf : {B : Type 0} (same_time : Bool) (limit : ℕ) (f : Shelf B → Shelf B) → ((s : Shelf B) → SoundShelf B same_time limit s → SoundShelf B same_time limit (f s)) → (shelves : List (Shelf B)) (table : ℕ) → AllSoundShelves same_time limit shelves → AllSoundShelves same_time limit (change_at f shelves table)
unfolding change_at AllSoundShelves
changed-shelf same_time limit f each [] table sound = sound
changed-shelf same_time limit f each (s ∷ shelves) zero sound = (each s sound.0, sound.1)
changed-shelf same_time limit f each (s ∷ shelves) (suc table) sound = (sound.0, changed-shelf same_time limit f each shelves table sound.1)

pub op-shelf : {B : Type 0} (same_time : Bool) (limit : ℕ) (op : RankOp B) (shelves : List (Shelf B)) → AllSoundShelves same_time limit shelves → OpFitsAt limit op shelves → AllSoundShelves same_time limit (rank_op_on same_time op shelves)
unfolding rank_op_on OpFitsAt
op-shelf same_time limit (InsertAt table places bodies) shelves sound fits = inserts-shelf same_time limit places bodies shelves table fits.placed fits.wide fits.room sound
op-shelf same_time limit (DeleteAt table numbers) shelves sound fits = changed-shelf same_time limit (delete_rows same_time numbers) (λ s w. (operations_keep_shelf same_time limit s w).deletes_each numbers) shelves table sound

pub ops-shelf : {B : Type 0} (same_time : Bool) (limit : ℕ) (ops : List (RankOp B)) (shelves : List (Shelf B)) → AllSoundShelves same_time limit shelves → AllFitAt same_time limit ops shelves → AllSoundShelves same_time limit (rank_ops_on same_time ops shelves)
unfolding rank_ops_on AllFitAt
ops-shelf same_time limit [] shelves sound fit = sound
ops-shelf same_time limit (op ∷ ops) shelves sound fit = ops-shelf same_time limit ops (rank_op_on same_time op shelves) (op-shelf same_time limit op shelves sound fit.0) fit.1

install-shelf : {B : Type 0} (same_time : Bool) (limit table column : ℕ) (shelves : List (Shelf B)) → AllSoundShelves same_time limit shelves → AllSoundShelves same_time limit (rank_install_on same_time table column shelves)
unfolding rank_install_on
install-shelf same_time limit table column shelves sound = changed-shelf same_time limit (lay_column same_time column) (λ s w. (operations_keep_shelf same_time limit s w).lays column) shelves table sound

empties-shelf : (B : Type 0) (same_time : Bool) (limit : ℕ) (widths : List ℕ) → AllSoundShelves same_time limit (map (empty_shelf B) widths)
unfolding AllSoundShelves
empties-shelf B same_time limit [] = tt
empties-shelf B same_time limit (width ∷ widths) = (empty_shelf_is_sound B same_time limit width, empties-shelf B same_time limit widths)

pub shelves_stay_sound : {B : Type 0} (same_time : Bool) (limit : ℕ) → KeepsAllSoundShelves B same_time limit
shelves_stay_sound {B} same_time limit =
    record { empty = empties-shelf B same_time limit; ops = ops-shelf same_time limit; install = λ table column. install-shelf same_time limit table column }
