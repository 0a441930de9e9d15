-- Sound tables: what they give, and that each operation leaves them sound.
use Rattle.std.proofs.Common.{◌≡◌, ℕ, suc, zero, ◌+◌, ◌*◌, ◌/◌, ◌<◌, ◌≤◌, Bool, true, false, List, [], ◌∷◌, ◌++◌, length, map, get_or, replicate, refl, ap, ap₂, ◌∙◌, sym, subst, inl, inr, arith, eqb}
use Rattle.std.proofs.lemmas.Bool.{cases_Bool}
use Rattle.std.proofs.lemmas.List.{length-map, map-append, length-append}
use Rattle.tree_model.specs.declared.Place.TheVariants.{Found}
use Rattle.tree_model.specs.Places.{one_if, below, holds, placed, place, IsBelowAll, IsIncreasing}
use Rattle.tree_model.specs.Items.{values}
use Rattle.tree_model.proofs.CarriedRanks.{false_is_true}
use Rattle.tree_model.specs.Trees.{inorder}
use Rattle.tree_model.specs.Columns.{Column, empty_column, items_of, Lay}
use Rattle.tree_model.specs.Tallies.{tally, IsOneMore, counts, TalliedItems}
use Rattle.tree_model.proofs.Ordered.{held_at-below, holds-at}
use Rattle.tree_model.proofs.Kept.{IsKept-empty, IsKept-within, IsKept-short}
use Rattle.tree_model.proofs.Suits.{SuitsMode-empty}
use Rattle.tree_model.proofs.TalliedRows.{tally-last}
use Rattle.tree_model.proofs.TalliedItems.{most_within_rows}
use Rattle.table_model.specs.Stores.{Row, Store, empty_store, ranks_by}
use Rattle.table_model.specs.Steps.{operate, adds, drops, only, places_by}
use Rattle.table_model.specs.Changes.{cells_of, rows_without, insert_cells, delete_number, delete_numbers, lay_store}
use Rattle.table_model.specs.Soundness.{numbers_of, cell_value, column_values, column_at, AllWide, SoundColumn, Sound, FitsRows, OwnItem}
use Rattle.table_model.specs.StoreLaws.{StaysSound}
use Rattle.table_model.proofs.Following.{keys, Owned, owned-within}
use Rattle.table_model.proofs.Numbers.{without-none, of_row-none, one_without, held-new, wide-without, wide-cells, wide-last, length-without, numbered-without, rising-last}
use Rattle.table_model.proofs.Rows.{value_in, length-operate, sound-adds, sound-drops, sound-lays}

-- ---- what soundness gives

-- the values that rows have in a column are among its items'
pub owned-of : {B : Type 0} (v : B → ℕ) (same_time : Bool) (limit : ℕ) (t : Store B) → Sound B v same_time limit t → (i x : ℕ) → i < length t.columns → holds x (column_values v i t.rows) ≡ true → Owned B v (column_at t.columns i) x
owned-of v same_time limit t sound i x h held =
    let tallied = (sound.columns i h).tallied in
    record { rise = tallied.rise; held = tallied.held x held }

-- ---- rows

pub values-last : {B : Type 0} (v : B → ℕ) (column : ℕ) (rows : List (Row B)) (row : Row B) → column_values v column (rows ++ row ∷ []) ≡ column_values v column rows ++ value_in v row.cells column ∷ []
unfolding column_values cell_value
values-last v column rows row = map-append (cell_value v column) rows (row ∷ [])

one-last : {B : Type 0} (v : B → ℕ) (column : ℕ) (rows : List (Row B)) (row : Row B) → IsOneMore (value_in v row.cells column) (column_values v column rows) (column_values v column (rows ++ row ∷ []))
one-last v column rows row =
    subst (IsOneMore (value_in v row.cells column) (column_values v column rows)) (sym (values-last v column rows row)) (tally-last (column_values v column rows) (value_in v row.cells column))

numbers-last : {B : Type 0} (rows : List (Row B)) (row : Row B) → numbers_of (rows ++ row ∷ []) ≡ numbers_of rows ++ row.number ∷ []
unfolding numbers_of
numbers-last {B} rows row = map-append (λ (r : Row B). r.number) rows (row ∷ [])

-- ---- INSERT

pub insert-sound : {B : Type 0} (v : B → ℕ) (same_time : Bool) (limit : ℕ) (t : Store B) → Sound B v same_time limit t → (cells : List B) → length cells ≡ length t.columns → length t.rows < limit → Sound B v same_time limit (insert_cells same_time v cells t)
unfolding insert_cells
insert-sound {B} v same_time limit t sound cells wide room =
    let steps = adds (places_by v t.columns cells) cells in
    let row : Row B = record { number = t.next; cells = cells } in
    let many = length-operate same_time steps t.columns in
    record {
      few = omega (arith, room, length-append t.rows (row ∷ []));
      numbered = subst (λ (numbers : List ℕ). IsIncreasing (numbers ++ suc t.next ∷ [])) (sym (numbers-last t.rows row)) (rising-last t.next (numbers_of t.rows) sound.numbered);
      wide = wide-last (length (operate same_time steps t.columns)) t.rows row (subst (λ (n : ℕ). AllWide n t.rows) (sym many) sound.wide) (wide ∙ sym many);
      columns = λ i h. sound-adds v same_time t.columns cells (λ (j : ℕ). column_values v j t.rows) (λ (j : ℕ). column_values v j (t.rows ++ row ∷ [])) wide sound.columns (λ j k. one-last v j t.rows row) i (omega (arith, h, many));
    }

-- ---- DELETE

abbrev pub has_number : {B : Type 0} → ℕ → List (Row B) → Bool
has_number number rows = holds number (numbers_of rows)

abbrev store : {B : Type 0} → List (Row B) → ℕ → List (Column B) → Store B
store rows next columns = record { rows = rows; next = next; columns = columns }

no_drops : {B : Type 0} (v : B → ℕ) (same_time : Bool) (cs : List (Column B)) → operate same_time (drops (ranks_by v cs [])) cs ≡ cs
unfolding drops ranks_by operate
no_drops v same_time [] = refl
no_drops v same_time (c ∷ cs) = refl

pub cells-none : {B : Type 0} (number : ℕ) (rows : List (Row B)) → has_number number rows ≡ false → cells_of number rows ≡ []
unfolding cells_of numbers_of
cells-none {B} number rows none = of_row-none (λ (row : Row B). row.number) (λ (row : Row B). row.cells) number rows none

pub rows-none : {B : Type 0} (number : ℕ) (rows : List (Row B)) → has_number number rows ≡ false → rows_without number rows ≡ rows
unfolding rows_without numbers_of
rows-none {B} number rows none = without-none (λ (row : Row B). row.number) number rows none

-- a number that no row has
pub delete-none : {B : Type 0} (v : B → ℕ) (same_time : Bool) (number : ℕ) (t : Store B) → has_number number t.rows ≡ false → delete_number same_time v number t ≡ t
unfolding delete_number
delete-none {B} v same_time number t none =
    ap₂ (λ (rows : List (Row B)) (columns : List (Column B)). store rows t.next columns)
    (rows-none number t.rows none)
    (ap (λ (cells : List B). operate same_time (drops (ranks_by v t.columns cells)) t.columns) (cells-none number t.rows none) ∙ no_drops v same_time t.columns)

-- the row that goes has items of its own
pub owned-gone : {B : Type 0} (v : B → ℕ) (same_time : Bool) (limit : ℕ) (t : Store B) (number : ℕ) → Sound B v same_time limit t → has_number number t.rows ≡ true → (i : ℕ) → i < length t.columns → Owned B v (column_at t.columns i) (value_in v (cells_of number t.rows) i)
owned-gone v same_time limit t number sound there i h =
    let key = value_in v (cells_of number t.rows) i in
    owned-of v same_time limit t sound i key h (held-new key (column_values v i (rows_without number t.rows)) (column_values v i t.rows) (one_without v i number t.rows there))

length_rows : {B : Type 0} (number : ℕ) (rows : List (Row B)) → length (rows_without number rows) ≤ length rows
unfolding rows_without
length_rows {B} number rows = length-without (λ (row : Row B). row.number) number rows

delete-there : {B : Type 0} (v : B → ℕ) (same_time : Bool) (limit : ℕ) (t : Store B) (number : ℕ) → Sound B v same_time limit t → has_number number t.rows ≡ true → Sound B v same_time limit (delete_number same_time v number t)
unfolding delete_number
delete-there {B} v same_time limit t number sound there =
    let gone = cells_of number t.rows in
    let steps = drops {B = B} (ranks_by v t.columns gone) in
    let many = length-operate same_time steps t.columns in
    record {
      few = omega (arith, sound.few, length_rows number t.rows);
      numbered = numbered-without number t.next t.rows sound.numbered;
      wide = subst (λ (n : ℕ). AllWide n (rows_without number t.rows)) (sym many) (wide-without (length t.columns) number t.rows sound.wide);
      columns = λ i h. sound-drops v same_time t.columns gone (λ (j : ℕ). column_values v j t.rows) (λ (j : ℕ). column_values v j (rows_without number t.rows)) (wide-cells (length t.columns) number t.rows sound.wide there)
          sound.columns (owned-gone v same_time limit t number sound there) (λ j k. one_without v j number t.rows there) i (omega (arith, h, many));
    }

pub delete-sound : {B : Type 0} (v : B → ℕ) (same_time : Bool) (limit : ℕ) (t : Store B) → Sound B v same_time limit t → (number : ℕ) → Sound B v same_time limit (delete_number same_time v number t)
delete-sound {B} v same_time limit t sound number =
    elim (cases_Bool (has_number number t.rows)) [
      | inl there ↦ delete-there v same_time limit t number sound there
      | inr none ↦ subst (Sound B v same_time limit) (sym (delete-none v same_time number t none)) sound
    ]

pub deletes-sound : {B : Type 0} (v : B → ℕ) (same_time : Bool) (limit : ℕ) (t : Store B) → Sound B v same_time limit t → (numbers : List ℕ) → Sound B v same_time limit (delete_numbers same_time v numbers t)
unfolding delete_numbers
deletes-sound v same_time limit t sound [] = sound
deletes-sound v same_time limit t sound (number ∷ numbers) = deletes-sound v same_time limit (delete_number same_time v number t) (delete-sound v same_time limit t sound number) numbers

-- ---- installs, and a table without rows

pub lay-sound : {B : Type 0} (v : B → ℕ) (same_time : Bool) (limit : ℕ) (t : Store B) → Sound B v same_time limit t → (column : ℕ) → Sound B v same_time limit (lay_store same_time column t)
unfolding lay_store
lay-sound {B} v same_time limit t sound column =
    let steps = only {B = B} column (Lay ∷ []) in
    let many = length-operate same_time steps t.columns in
    record {
      few = sound.few;
      numbered = sound.numbered;
      wide = subst (λ (n : ℕ). AllWide n t.rows) (sym many) sound.wide;
      columns = λ i h. sound-lays v same_time column t.columns (λ (j : ℕ). column_values v j t.rows) sound.columns i (omega (arith, h, many));
    }

pub operations_keep_sound : {B : Type 0} (v : B → ℕ) (same_time : Bool) (limit : ℕ) (t : Store B) → Sound B v same_time limit t → StaysSound B v same_time limit t
operations_keep_sound v same_time limit t sound =
    record {
      inserts = insert-sound v same_time limit t sound;
      deletes = delete-sound v same_time limit t sound;
      deletes_each = deletes-sound v same_time limit t sound;
      lays = lay-sound v same_time limit t sound;
    }

empty-tallied : (B : Type 0) (v : B → ℕ) → TalliedItems v (items_of (empty_column B)) []
unfolding items_of empty_column inorder values counts holds IsIncreasing
empty-tallied B v = record { rise = tt; held = λ key h. false_is_true h; counted = refl }

empty-column : (B : Type 0) (v : B → ℕ) (same_time : Bool) → SoundColumn B v same_time (empty_column B) []
empty-column B v same_time = record { tallied = empty-tallied B v; kept = IsKept-empty B; suits = SuitsMode-empty B same_time }

column-empty : (B : Type 0) (n i : ℕ) → column_at (replicate n (empty_column B)) i ≡ empty_column B
unfolding column_at
column-empty B zero i = refl
column-empty B (suc n) zero = refl
column-empty B (suc n) (suc i) = column-empty B n i

pub empty-sound : {B : Type 0} (v : B → ℕ) (same_time : Bool) (limit columns : ℕ) → Sound B v same_time limit (empty_store B columns)
unfolding empty_store numbers_of AllWide column_values IsIncreasing IsBelowAll
empty-sound {B} v same_time limit columns =
    record {
      few = omega arith;
      numbered = (tt, tt);
      wide = tt;
      columns = λ i h. subst (λ (c : Column B). SoundColumn B v same_time c []) (sym (column-empty B columns i)) (empty-column B v same_time);
    }

-- ---- what follows

pub length_values : {B : Type 0} (v : B → ℕ) (column : ℕ) (rows : List (Row B)) → length (column_values v column rows) ≡ length rows
unfolding column_values
length_values v column rows = length-map rows (cell_value v column)

one_if_within : (b : Bool) (n : ℕ) → one_if b n ≤ suc n
unfolding one_if
one_if_within true n = omega arith
one_if_within false n = omega arith

tally_within : (rows : List ℕ) (key : ℕ) → tally rows key ≤ length rows
unfolding tally
tally_within [] key = omega arith
tally_within (row ∷ rows) key = omega (arith, tally_within rows key, one_if_within (eqb row key) (tally rows key))

get_or-within : (xs : List ℕ) (f : ℕ → ℕ) (rank n : ℕ) → ((x : ℕ) → f x ≤ n) → get_or (map f xs) rank 0 ≤ n
get_or-within [] f rank n all = omega arith
get_or-within (x ∷ xs) f zero n all = all x
get_or-within (x ∷ xs) f (suc rank) n all = get_or-within xs f rank n all

counted_within : {B : Type 0} (v : B → ℕ) (c : Column B) (rows : List ℕ) → TalliedItems v (items_of c) rows → (rank : ℕ) → get_or (counts (items_of c)) rank 0 ≤ length rows
counted_within v c rows tallied rank =
    subst (λ (ns : List ℕ). get_or ns rank 0 ≤ length rows) (sym tallied.counted) (get_or-within (keys v c) (tally rows) rank (length rows) (tally_within rows))

half_more : (limit most : ℕ) → 2 * most ≤ 3 * limit → most ≤ limit + limit / 2
half_more limit most h = omega (arith, h)

found_here : (xs : List ℕ) (x : ℕ) → holds x xs ≡ true → place xs x ≡ Found (below x xs)
unfolding place placed
found_here xs x held = ap (λ (b : Bool). placed b (below x xs)) held

pub sound_fits_rows : {B : Type 0} (v : B → ℕ) (same_time : Bool) (limit : ℕ) (t : Store B) (column : ℕ) → Sound B v same_time limit t → column < length t.columns → FitsRows B limit (column_at t.columns column)
sound_fits_rows v same_time limit t column sound h =
    let c = column_at t.columns column in
    let s = sound.columns column h in
    let rows = column_values v column t.rows in
    let many : 2 * c.most ≤ 3 * length t.rows = omega (arith, most_within_rows (keys v c) c rows s.tallied s.kept.dense, length_values v column t.rows) in
    let twice : 2 * c.most ≤ 3 * limit = omega (arith, many, sound.few) in
    record {
      items = s.kept.fits;
      most = half_more limit c.most twice;
      counted = λ rank. omega (arith, counted_within v c rows s.tallied rank, length_values v column t.rows, sound.few);
      many = λ h. record { most = omega (arith, twice, h); ways = IsKept-within c 98304 28 s.kept (omega (arith, twice, h)) (omega arith) (omega arith) (omega arith) };
      more = λ h. record { most = omega (arith, twice, h); ways = IsKept-within c 1572864 35 s.kept (omega (arith, twice, h)) (omega arith) (omega arith) (omega arith) };
      any = λ h. IsKept-short c s.kept (omega (arith, twice, h));
    }

pub rows_own_items : {B : Type 0} (v : B → ℕ) (same_time : Bool) (limit : ℕ) (t : Store B) (column row d : ℕ) → Sound B v same_time limit t → column < length t.columns → row < length t.rows → OwnItem B v (column_at t.columns column) (get_or (column_values v column t.rows) row 0) d
rows_own_items v same_time limit t column row d sound h k =
    let x = get_or (column_values v column t.rows) row 0 in
    let own = owned-of v same_time limit t sound column x h (holds-at (column_values v column t.rows) row 0 (omega (arith, k, length_values v column t.rows))) in
    let xs = keys v (column_at t.columns column) in
    record {
      within = owned-within v (column_at t.columns column) x own;
      reads = (held_at-below x xs d own.rise own.held).1;
      found = found_here xs x own.held;
    }
