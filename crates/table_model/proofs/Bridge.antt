-- The table by rank of a table by value goes with it.
use Rattle.std.proofs.Common.{◌≡◌, ℕ, suc, ◌<◌, Bool, true, false, List, [], ◌∷◌, ◌++◌, length, map, refl, ap, ap₂, ◌∙◌, sym, subst, inl, inr}
use Rattle.std.proofs.lemmas.Bool.{cases_Bool}
use Rattle.std.proofs.lemmas.List.{map-append}
use Rattle.tree_model.specs.Places.{below, holds}
use Rattle.tree_model.specs.Columns.{Column, Lay}
use Rattle.tree_model.specs.Tallies.{IsOneMore}
use Rattle.tree_model.proofs.Ordered.{held_at-below}
use Rattle.table_model.specs.Stores.{Row, Store, Kept, Shelf, empty_store, empty_shelf, ranks_by, kept_of, shelf_of}
use Rattle.table_model.specs.Steps.{operate, follow, kept_after, operated, adds, drops, only, places_by}
use Rattle.table_model.specs.Changes.{cells_of, rows_without, ranks_of, kept_without, with_kept, insert_row, shelf_without, delete_row, delete_rows, lay_column, insert_cells, delete_number, delete_numbers, lay_store}
use Rattle.table_model.specs.Soundness.{numbers_of, column_values, column_at, Sound}
use Rattle.table_model.specs.ShelfLaws.{IsByRank}
use Rattle.table_model.proofs.Lists.{map-map, map-nothing, without-map, of_row-map}
use Rattle.table_model.proofs.Following.{keys, Owned, owned-within, carried-drop}
use Rattle.table_model.proofs.Numbers.{without-none, of_row-none, one_without, held-later}
use Rattle.table_model.proofs.Rows.{value_in, ranks-add, FollowsDrop, ranks-drop, ranks-lay, ranks-new, rows-follow}
use Rattle.table_model.proofs.Sound.{owned-of, has_number, delete-none, owned-gone, delete-sound}

abbrev shelf : {B : Type 0} → List (Kept B) → ℕ → List (Column B) → Shelf B
shelf kept next columns = record { kept = kept; next = next; columns = columns }

abbrev kept_row : {B : Type 0} → ℕ → List B → List ℕ → Kept B
kept_row number bodies ranks = record { number = number; bodies = bodies; ranks = ranks }

-- ---- INSERT

pub shelf_of-insert : {B : Type 0} (v : B → ℕ) (same_time : Bool) (limit : ℕ) (t : Store B) → Sound B v same_time limit t → (cells : List B) → shelf_of v (insert_cells same_time v cells t) ≡ insert_row same_time (places_by v t.columns cells) cells (shelf_of v t)
unfolding shelf_of insert_cells insert_row with_kept operated kept_of
shelf_of-insert {B} v same_time limit t sound cells =
    let cs = t.columns in
    let steps = adds (places_by v cs cells) cells in
    let after = operate same_time steps cs in
    let row : Row B = record { number = t.next; cells = cells } in
    ap (λ (kept : List (Kept B)). shelf kept (suc t.next) after)
    (map-append (kept_of v after) t.rows (row ∷ [])
    ∙ ap₂ (λ (kept : List (Kept B)) (ranks : List ℕ). kept ++ kept_row t.next cells ranks ∷ [])
    (rows-follow v same_time steps cs (λ (i x : ℕ). Owned B v (column_at cs i) x) t.rows (ranks-add v same_time cs cells) (owned-of v same_time limit t sound))
    (ranks-new v same_time cs cells))

-- ---- DELETE

no_ranks : {B : Type 0} (v : B → ℕ) (cs : List (Column B)) → ranks_by v cs [] ≡ []
unfolding ranks_by
no_ranks v [] = refl
no_ranks v (c ∷ cs) = refl

ranks_of-kept : {B : Type 0} (v : B → ℕ) (cs : List (Column B)) (number : ℕ) (rows : List (Row B)) → ranks_of number (map (kept_of v cs) rows) ≡ ranks_by v cs (cells_of number rows)
unfolding ranks_of cells_of kept_of
ranks_of-kept {B} v cs number rows =
    of_row-map (kept_of v cs) (ranks_by v cs) (λ (row : Row B). row.number) (λ (row : Kept B). row.number) (λ (row : Row B). row.cells) (λ (row : Kept B). row.ranks) number rows (λ row. refl) (λ row. refl) (no_ranks v cs)

kept_without-kept : {B : Type 0} (v : B → ℕ) (cs : List (Column B)) (number : ℕ) (rows : List (Row B)) → kept_without number (map (kept_of v cs) rows) ≡ map (kept_of v cs) (rows_without number rows)
unfolding kept_without rows_without kept_of
kept_without-kept {B} v cs number rows = without-map (kept_of v cs) (λ (row : Row B). row.number) (λ (row : Kept B). row.number) number rows (λ row. refl)

-- the rows that stay follow their items
follows-drop : {B : Type 0} (v : B → ℕ) (same_time : Bool) (limit : ℕ) (t : Store B) → Sound B v same_time limit t → (number : ℕ) → has_number number t.rows ≡ true
    → (i x : ℕ) → i < length t.columns → holds x (column_values v i (rows_without number t.rows)) ≡ true → FollowsDrop v same_time (column_at t.columns i) (value_in v (cells_of number t.rows) i) x
unfolding FollowsDrop
follows-drop v same_time limit t sound number there i x h held =
    let c = column_at t.columns i in
    let y = value_in v (cells_of number t.rows) i in
    let before = column_values v i t.rows in
    let after = column_values v i (rows_without number t.rows) in
    let one = one_without v i number t.rows there in
    let gone = owned-gone v same_time limit t number sound there i h in
    carried-drop v same_time c before after (below y (keys v c)) 0 x (sound.columns i h).tallied (owned-within v c y gone)
    (subst (λ (key : ℕ). IsOneMore key after before) (sym (held_at-below y (keys v c) 0 gone.rise gone.held).1) one)
    held (owned-of v same_time limit t sound i x h (held-later y after before x one held))

shelf_of-delete_there : {B : Type 0} (v : B → ℕ) (same_time : Bool) (limit : ℕ) (t : Store B) → Sound B v same_time limit t → (number : ℕ) → has_number number t.rows ≡ true → shelf_of v (delete_number same_time v number t) ≡ delete_row same_time number (shelf_of v t)
unfolding shelf_of delete_number delete_row operated shelf_without
shelf_of-delete_there {B} v same_time limit t sound number there =
    let cs = t.columns in
    let gone = cells_of number t.rows in
    let steps = drops {B = B} (ranks_by v cs gone) in
    ap (λ (kept : List (Kept B)). shelf kept t.next (operate same_time steps cs))
    (rows-follow v same_time steps cs (λ (i x : ℕ). FollowsDrop v same_time (column_at cs i) (value_in v gone i) x) (rows_without number t.rows) (ranks-drop v same_time cs gone) (follows-drop v same_time limit t sound number there))
    ∙ ap₂ (λ (ranks : List ℕ) (kept : List (Kept B)). let more = drops {B = B} ranks in shelf (map (kept_after same_time more cs) kept) t.next (operate same_time more cs))
    (sym (ranks_of-kept v cs number t.rows)) (sym (kept_without-kept v cs number t.rows))

-- a number that no row has
kept-nothing : {B : Type 0} (same_time : Bool) (cs : List (Column B)) (kept : List (Kept B)) → map (kept_after same_time [] cs) kept ≡ kept
unfolding kept_after follow
kept-nothing same_time cs kept = map-nothing (kept_after same_time [] cs) kept (λ row. refl)

operated-nothing : {B : Type 0} (same_time : Bool) (s : Shelf B) → operated same_time [] s ≡ s
unfolding operated operate
operated-nothing {B} same_time s = ap (λ (kept : List (Kept B)). shelf kept s.next s.columns) (kept-nothing same_time s.columns s.kept)

pub delete_row-none : {B : Type 0} (same_time : Bool) (number : ℕ) (s : Shelf B) → holds number (map (λ (row : Kept B). row.number) s.kept) ≡ false → delete_row same_time number s ≡ s
unfolding delete_row shelf_without ranks_of kept_without drops
delete_row-none {B} same_time number s none =
    ap₂ (λ (ranks : List ℕ) (kept : List (Kept B)). operated same_time (drops {B = B} ranks) (shelf kept s.next s.columns))
    (of_row-none (λ (row : Kept B). row.number) (λ (row : Kept B). row.ranks) number s.kept none)
    (without-none (λ (row : Kept B). row.number) number s.kept none)
    ∙ operated-nothing same_time s

kept_numbers : {B : Type 0} (v : B → ℕ) (cs : List (Column B)) (rows : List (Row B)) → map (λ (row : Kept B). row.number) (map (kept_of v cs) rows) ≡ numbers_of rows
unfolding numbers_of kept_of
kept_numbers {B} v cs rows = map-map (λ (row : Kept B). row.number) (kept_of v cs) rows

pub shelf_of-delete : {B : Type 0} (v : B → ℕ) (same_time : Bool) (limit : ℕ) (t : Store B) → Sound B v same_time limit t → (number : ℕ) → shelf_of v (delete_number same_time v number t) ≡ delete_row same_time number (shelf_of v t)
unfolding shelf_of
shelf_of-delete {B} v same_time limit t sound number =
    elim (cases_Bool (has_number number t.rows)) [
      | inl there ↦ shelf_of-delete_there v same_time limit t sound number there
      | inr none ↦
          ap (shelf_of v) (delete-none v same_time number t none)
          ∙ sym (delete_row-none same_time number (shelf_of v t) (ap (holds number) (kept_numbers v t.columns t.rows) ∙ none))
    ]

pub shelf_of-deletes : {B : Type 0} (v : B → ℕ) (same_time : Bool) (limit : ℕ) (t : Store B) → Sound B v same_time limit t → (numbers : List ℕ) → shelf_of v (delete_numbers same_time v numbers t) ≡ delete_rows same_time numbers (shelf_of v t)
unfolding delete_numbers delete_rows
shelf_of-deletes v same_time limit t sound [] = refl
shelf_of-deletes {B} v same_time limit t sound (number ∷ numbers) =
    shelf_of-deletes v same_time limit (delete_number same_time v number t) (delete-sound v same_time limit t sound number) numbers
    ∙ ap (delete_rows same_time numbers) (shelf_of-delete v same_time limit t sound number)

-- ---- installs, and a table without rows

pub shelf_of-lay : {B : Type 0} (v : B → ℕ) (same_time : Bool) (limit : ℕ) (t : Store B) → Sound B v same_time limit t → (column : ℕ) → shelf_of v (lay_store same_time column t) ≡ lay_column same_time column (shelf_of v t)
unfolding shelf_of lay_store lay_column operated
shelf_of-lay {B} v same_time limit t sound column =
    let cs = t.columns in
    let steps = only {B = B} column (Lay ∷ []) in
    ap (λ (kept : List (Kept B)). shelf kept t.next (operate same_time steps cs))
    (rows-follow v same_time steps cs (λ (i x : ℕ). Owned B v (column_at cs i) x) t.rows (ranks-lay v same_time column cs) (owned-of v same_time limit t sound))

pub values_are_ranks : {B : Type 0} (v : B → ℕ) (same_time : Bool) (limit : ℕ) (t : Store B) → Sound B v same_time limit t → IsByRank B v same_time t
values_are_ranks v same_time limit t sound =
    record {
      inserts = shelf_of-insert v same_time limit t sound;
      deletes = shelf_of-delete v same_time limit t sound;
      deletes_each = shelf_of-deletes v same_time limit t sound;
      lays = shelf_of-lay v same_time limit t sound;
    }

pub shelf_of-empty : {B : Type 0} (v : B → ℕ) (columns : ℕ) → shelf_of v (empty_store B columns) ≡ empty_shelf B columns
unfolding shelf_of empty_store empty_shelf
shelf_of-empty v columns = refl
