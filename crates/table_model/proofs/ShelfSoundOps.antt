-- The operations on a sound table by rank: it stays sound, and rows keep their items.
use Rattle.std.proofs.Common.{◌≡◌, ℕ, suc, zero, ◌<◌, ◌≤◌, Bool, true, false, List, [], ◌∷◌, length, map, get_or, refl, ap, ap₂, ◌∙◌, sym, subst, inl, inr, arith}
use Rattle.std.proofs.lemmas.Bool.{cases_Bool}
use Rattle.std.specs.List.{range_with_len}
use Rattle.std.proofs.lemmas.List.{length-map, get_or-map}
use Rattle.std.proofs.lemmas.List.FromFn.{length-range_with_len, get_or-map-range_with_len}
use Rattle.tree_model.specs.declared.Place.{Place}
use Rattle.tree_model.specs.Trees.{size, height}
use Rattle.tree_model.specs.Places.{holds, number}
use Rattle.tree_model.specs.Items.{Item, map_item, one_less, change_at}
use Rattle.tree_model.specs.Columns.{Column, items_of, map_column, Operation, Add, Drop, Lay}
use Rattle.tree_model.specs.Sums.{origins}
use Rattle.tree_model.specs.Carried.{is_origin}
use Rattle.tree_model.specs.Ranks.{stays_after}
use Rattle.tree_model.specs.Tallies.{tally, IsOneMore, counts}
use Rattle.tree_model.proofs.Mapped.{height-map_tree}
use Rattle.tree_model.proofs.Changes.{length-change_at}
use Rattle.tree_model.proofs.RankLaws.{rank_after_operation, carried_of_nothing, rows_keep_item}
use Rattle.tree_model.proofs.TalliedRows.{tally-held, tallied_fewer}
use Rattle.tree_model.proofs.TalliedItems.{counts-less}
use Rattle.table_model.specs.Stores.{Row, Store, Kept, Shelf, empty_store, empty_shelf, map_shelf, shelf_of}
use Rattle.table_model.specs.Steps.{adds, drops, only, places_by}
use Rattle.table_model.specs.Changes.{insert_row, delete_row, delete_rows, lay_column, ranks_of, cells_of, kept_without, rows_without, insert_cells, delete_number, lay_store}
use Rattle.table_model.specs.Soundness.{numbers_of, kept_numbers, cell_value, column_values, ranks_at, column_at, AllWide, Sound, FitsRows}
use Rattle.table_model.specs.Fitting.{AllPlaced}
use Rattle.table_model.specs.ShelfSoundness.{AllFull, SoundRanks, SoundShelf, RowsStay}
use Rattle.table_model.specs.RankLaws.{ShelfStaysSound, LeavesRows, ShelfGives}
use Rattle.table_model.proofs.Lists.{map-map, map-nothing, without-map, of_row-map}
use Rattle.table_model.proofs.Maps.{shelves_are_blind}
use Rattle.table_model.proofs.Numbers.{without-none, of_row-none, one_without, held-later, held-new, wide-cells}
use Rattle.table_model.proofs.Following.{length-items}
use Rattle.table_model.proofs.Sound.{insert-sound, delete-sound, lay-sound, empty-sound, sound_fits_rows}
use Rattle.table_model.proofs.Bridge.{shelf_of-insert, shelf_of-delete, shelf_of-lay, shelf_of-empty}
use Rattle.table_model.proofs.ShelfSoundMaps.{shelf_of_sound, shelf_sound_is_blind, shelf-back, column-size, column-counts}
use Rattle.table_model.proofs.Spread.{itself, nothing, spread_column, column-alike, spread_row, spread_store, column_at-spread, spread-sound, alike, nothings, places-spread, length-placed, shelf-within}

-- ---- sound shelves stay sound

-- a table by rank like that of a sound table is sound
like-sound : {B : Type 0} (same_time : Bool) (limit : ℕ) (s : Shelf B) (t : Store ℕ) → Sound ℕ itself same_time limit t → map_shelf (nothing {B = B}) s ≡ map_shelf (nothing {B = ℕ}) (shelf_of itself t) → SoundShelf B same_time limit s
like-sound {B} same_time limit s t sound e =
    shelf-back (nothing {B = B}) same_time limit s
    (subst (SoundShelf ℕ same_time limit) (sym e) (shelf_sound_is_blind (nothing {B = ℕ}) same_time limit (shelf_of itself t) (shelf_of_sound itself same_time limit t sound)))

places-by : {B : Type 0} (s : Shelf B) (places : List Place) → AllPlaced s.columns places → places_by itself (spread_store s).columns (map number places) ≡ places
unfolding spread_store
places-by s places placed = places-spread s.columns places placed

width : {B : Type 0} (s : Shelf B) → length (spread_store s).columns ≡ length s.columns
unfolding spread_store
width s = length-map s.columns spread_column

rows : {B : Type 0} (s : Shelf B) → length (spread_store s).rows ≡ length s.kept
unfolding spread_store
rows s = length-map s.kept spread_row

insert-shelf : {B : Type 0} (same_time : Bool) (limit : ℕ) (s : Shelf B) → SoundShelf B same_time limit s → (places : List Place) (bodies : List B) → AllPlaced s.columns places → length bodies ≡ length s.columns → length s.kept < limit → SoundShelf B same_time limit (insert_row same_time places bodies s)
insert-shelf {B} same_time limit s w places bodies placed wide room =
    let t = spread_store s in
    let sound = spread-sound same_time limit s w in
    let cells = map number places in
    let many = length-map places number in
    let places_are : places_by itself t.columns cells ≡ places = places-by s places placed in
    let zeros = nothings bodies cells (wide ∙ sym (length-placed s.columns places placed) ∙ sym many) in
    like-sound same_time limit (insert_row same_time places bodies s) (insert_cells same_time itself cells t)
    (insert-sound itself same_time limit t sound cells (many ∙ length-placed s.columns places placed ∙ sym (width s)) (omega (arith, room, rows s)))
    (sym ((shelves_are_blind (nothing {B = B}) same_time s).inserts places bodies)
    ∙ ap₂ (λ (bs : List ℕ) (r : Shelf ℕ). insert_row same_time places bs r) zeros (sym (alike same_time limit s w))
    ∙ (shelves_are_blind (nothing {B = ℕ}) same_time (shelf_of itself t)).inserts places cells
    ∙ ap (map_shelf (nothing {B = ℕ})) (ap (λ (ps : List Place). insert_row same_time ps cells (shelf_of itself t)) (sym places_are) ∙ sym (shelf_of-insert itself same_time limit t sound cells)))

delete-shelf : {B : Type 0} (same_time : Bool) (limit : ℕ) (s : Shelf B) → SoundShelf B same_time limit s → (number : ℕ) → SoundShelf B same_time limit (delete_row same_time number s)
delete-shelf {B} same_time limit s w number =
    let t = spread_store s in
    let sound = spread-sound same_time limit s w in
    like-sound same_time limit (delete_row same_time number s) (delete_number same_time itself number t) (delete-sound itself same_time limit t sound number)
    (sym ((shelves_are_blind (nothing {B = B}) same_time s).deletes number)
    ∙ ap (delete_row same_time number) (sym (alike same_time limit s w))
    ∙ (shelves_are_blind (nothing {B = ℕ}) same_time (shelf_of itself t)).deletes number
    ∙ ap (map_shelf (nothing {B = ℕ})) (sym (shelf_of-delete itself same_time limit t sound number)))

deletes-shelf : {B : Type 0} (same_time : Bool) (limit : ℕ) (s : Shelf B) → SoundShelf B same_time limit s → (numbers : List ℕ) → SoundShelf B same_time limit (delete_rows same_time numbers s)
unfolding delete_rows
deletes-shelf same_time limit s w [] = w
deletes-shelf same_time limit s w (number ∷ numbers) = deletes-shelf same_time limit (delete_row same_time number s) (delete-shelf same_time limit s w number) numbers

lay-shelf : {B : Type 0} (same_time : Bool) (limit : ℕ) (s : Shelf B) → SoundShelf B same_time limit s → (column : ℕ) → SoundShelf B same_time limit (lay_column same_time column s)
lay-shelf {B} same_time limit s w column =
    let t = spread_store s in
    let sound = spread-sound same_time limit s w in
    like-sound same_time limit (lay_column same_time column s) (lay_store same_time column t) (lay-sound itself same_time limit t sound column)
    (sym ((shelves_are_blind (nothing {B = B}) same_time s).lays column)
    ∙ ap (lay_column same_time column) (sym (alike same_time limit s w))
    ∙ (shelves_are_blind (nothing {B = ℕ}) same_time (shelf_of itself t)).lays column
    ∙ ap (map_shelf (nothing {B = ℕ})) (sym (shelf_of-lay itself same_time limit t sound column)))

pub operations_keep_shelf : {B : Type 0} (same_time : Bool) (limit : ℕ) (s : Shelf B) → SoundShelf B same_time limit s → ShelfStaysSound B same_time limit s
operations_keep_shelf same_time limit s w =
    record { inserts = insert-shelf same_time limit s w; deletes = delete-shelf same_time limit s w; deletes_each = deletes-shelf same_time limit s w; lays = lay-shelf same_time limit s w }

pub empty_shelf_is_sound : (B : Type 0) (same_time : Bool) (limit columns : ℕ) → SoundShelf B same_time limit (empty_shelf B columns)
empty_shelf_is_sound B same_time limit columns =
    subst (SoundShelf B same_time limit) (shelf_of-empty (nothing {B = B}) columns) (shelf_of_sound (nothing {B = B}) same_time limit (empty_store B columns) (empty-sound (nothing {B = B}) same_time limit columns))

-- ---- rows keep their items

pub stays-add : {B : Type 0} (same_time : Bool) (p : Place) (b : B) (c : Column B) (rank : ℕ) → rank < size c.tree → is_origin rank (origins same_time (Add p b ∷ []) c) ≡ true
unfolding stays_after
stays-add same_time p b c rank h = (rank_after_operation same_time (Add p b) c rank h).stays

pub stays-lay : {B : Type 0} (same_time : Bool) (c : Column B) (rank : ℕ) → rank < size c.tree → is_origin rank (origins same_time (Lay ∷ []) c) ≡ true
unfolding stays_after
stays-lay same_time c rank h = (rank_after_operation same_time Lay c rank h).stays

pub stays-nothing : {B : Type 0} (same_time : Bool) (c : Column B) (rank : ℕ) → rank < size c.tree → is_origin rank (origins same_time [] c) ≡ true
stays-nothing same_time c rank h = (carried_of_nothing same_time c rank h).stays

some_of : {A : Type 0} (xs : List A) (k : ℕ) → k < length xs → A
some_of [] k h = absurd (omega arith)
some_of (x ∷ xs) k h = x

pub range-at : (n k : ℕ) → k < n → get_or (range_with_len 0 n) k 0 ≡ k
range-at n k h =
    ap (λ (xs : List ℕ). get_or xs k 0) (sym (map-nothing itself (range_with_len 0 n) (λ x. refl)))
    ∙ get_or-map-range_with_len itself 0 n k k 0 h (omega arith)

pub stays-drop : {B : Type 0} (same_time : Bool) (c : Column B) (ranks earlier : List ℕ) (at rank : ℕ) → SoundRanks B same_time c ranks → at < size c.tree → rank < size c.tree → IsOneMore at earlier ranks → holds rank earlier ≡ true → is_origin rank (origins same_time (Drop at ∷ []) c) ≡ true
unfolding counts
stays-drop {B} same_time c ranks earlier at rank w h k one held =
    let n = size c.tree in
    let range = range_with_len 0 n in
    let less = change_at one_less (items_of c) at in
    let within : rank < length less = omega (arith, k, length-change_at one_less (items_of c) at, length-items c) in
    let e = some_of less rank within in
    let fewer = tallied_fewer range (counts (items_of c)) ranks at 0 earlier w.tallied (omega (arith, h, length-range_with_len 0 n)) (subst (λ (key : ℕ). IsOneMore key earlier ranks) (sym (range-at n at h)) one) in
    let is : (get_or less rank e).count ≡ tally earlier rank =
    sym (get_or-map (λ (item : Item B). item.count) less rank e 0 within)
    ∙ ap (λ (ns : List ℕ). get_or ns rank 0) (counts-less (items_of c) at ∙ fewer.counted)
    ∙ get_or-map (tally earlier) range rank 0 0 (omega (arith, k, length-range_with_len 0 n))
    ∙ ap (tally earlier) (range-at n rank k) in
    (rank_after_operation same_time (Drop at) c rank k).stays
    ∙ rows_keep_item same_time at c rank e k (omega (arith, is, tally-held rank earlier held))

-- at each column the lists of an INSERT have at most one operation, which adds
pub adds-stay : {B : Type 0} (same_time : Bool) (places : List Place) (bodies : List B) (i : ℕ) (c : Column B) (rank : ℕ) → rank < size c.tree → is_origin rank (origins same_time (get_or (adds places bodies) i []) c) ≡ true
unfolding adds
adds-stay same_time [] bodies i c rank h = stays-nothing same_time c rank h
adds-stay same_time (p ∷ places) [] i c rank h = stays-nothing same_time c rank h
adds-stay same_time (p ∷ places) (b ∷ bodies) zero c rank h = stays-add same_time p b c rank h
adds-stay same_time (p ∷ places) (b ∷ bodies) (suc i) c rank h = adds-stay same_time places bodies i c rank h

pub only-stay : {B : Type 0} (same_time : Bool) (column i : ℕ) (c : Column B) (rank : ℕ) → rank < size c.tree → is_origin rank (origins same_time (get_or (only column (Lay ∷ [])) i []) c) ≡ true
unfolding only
only-stay same_time zero zero c rank h = stays-lay same_time c rank h
only-stay same_time zero (suc i) c rank h = stays-nothing same_time c rank h
only-stay same_time (suc column) zero c rank h = stays-nothing same_time c rank h
only-stay same_time (suc column) (suc i) c rank h = only-stay same_time column i c rank h

pub drops-at : {B : Type 0} (ranks : List ℕ) (i : ℕ) → i < length ranks → get_or (drops {B = B} ranks) i [] ≡ Drop (get_or ranks i 0) ∷ []
unfolding drops
drops-at [] i h = absurd (omega (arith, h))
drops-at (rank ∷ ranks) zero h = refl
drops-at (rank ∷ ranks) (suc i) h = drops-at ranks i (omega (arith, h))

no-steps : {B : Type 0} (same_time : Bool) (i : ℕ) (c : Column B) (rank : ℕ) → rank < size c.tree → is_origin rank (origins same_time (get_or (drops {B = B} []) i []) c) ≡ true
unfolding drops
no-steps same_time i c rank h = stays-nothing same_time c rank h

-- rows told by their ranks alone
unfoldable pub bare_row : {B : Type 0} → Kept B → Row ℕ
bare_row row = record { number = row.number; cells = row.ranks }

bare-values : {B : Type 0} (i : ℕ) (kept : List (Kept B)) → column_values itself i (map bare_row kept) ≡ ranks_at i kept
unfolding column_values cell_value ranks_at bare_row
bare-values i [] = refl
bare-values i (row ∷ kept) = ap₂ (λ (x : ℕ) (rest : List ℕ). x ∷ rest) (ap (λ (xs : List ℕ). get_or xs i 0) (map-nothing itself row.ranks (λ x. refl))) (bare-values i kept)

bare-numbers : {B : Type 0} (kept : List (Kept B)) → numbers_of (map bare_row kept) ≡ kept_numbers kept
unfolding numbers_of kept_numbers bare_row
bare-numbers kept = map-map (λ (row : Row ℕ). row.number) bare_row kept

bare-ranks : {B : Type 0} (number : ℕ) (kept : List (Kept B)) → cells_of number (map bare_row kept) ≡ ranks_of number kept
unfolding cells_of ranks_of bare_row
bare-ranks {B} number kept = of_row-map bare_row (λ (ranks : List ℕ). ranks) (λ (row : Kept B). row.number) (λ (row : Row ℕ). row.number) (λ (row : Kept B). row.ranks) (λ (row : Row ℕ). row.cells) number kept (λ row. refl) (λ row. refl) refl

bare-without : {B : Type 0} (number : ℕ) (kept : List (Kept B)) → rows_without number (map bare_row kept) ≡ map bare_row (kept_without number kept)
unfolding rows_without kept_without bare_row
bare-without {B} number kept = without-map bare_row (λ (row : Kept B). row.number) (λ (row : Row ℕ). row.number) number kept (λ row. refl)

-- the ranks in a column are those without the row of a number, and its
pub one_rank_without : {B : Type 0} (i number : ℕ) (kept : List (Kept B)) → holds number (kept_numbers kept) ≡ true → IsOneMore (get_or (ranks_of number kept) i 0) (ranks_at i (kept_without number kept)) (ranks_at i kept)
one_rank_without i number kept there =
    let rows = map bare_row kept in
    let one = one_without itself i number rows (ap (holds number) (bare-numbers kept) ∙ there) in
    let key = ap (λ (xs : List ℕ). get_or xs i 0) (map-nothing itself (cells_of number rows) (λ x. refl) ∙ bare-ranks number kept) in
    let earlier = ap (column_values itself i) (bare-without number kept) ∙ bare-values i (kept_without number kept) in
    subst (λ (k : ℕ). IsOneMore k (ranks_at i (kept_without number kept)) (ranks_at i kept)) key
    (subst (λ (xs : List ℕ). IsOneMore (get_or (map itself (cells_of number rows)) i 0) xs (ranks_at i kept)) earlier
    (subst (IsOneMore (get_or (map itself (cells_of number rows)) i 0) (column_values itself i (rows_without number rows))) (bare-values i kept) one))

bare-wide : {B : Type 0} (width : ℕ) (kept : List (Kept B)) → AllFull width kept → AllWide width (map bare_row kept)
unfolding AllFull AllWide bare_row
bare-wide width [] full = tt
bare-wide width (row ∷ kept) full = (full.1, bare-wide width kept full.2)

pub no-ranks : {B : Type 0} (number : ℕ) (kept : List (Kept B)) → holds number (kept_numbers kept) ≡ false → ranks_of number kept ≡ []
unfolding ranks_of kept_numbers
no-ranks {B} number kept none = of_row-none (λ (row : Kept B). row.number) (λ (row : Kept B). row.ranks) number kept none

pub no-row : {B : Type 0} (number : ℕ) (kept : List (Kept B)) → holds number (kept_numbers kept) ≡ false → kept_without number kept ≡ kept
unfolding kept_without kept_numbers
no-row {B} number kept none = without-none (λ (row : Kept B). row.number) number kept none

pub full-ranks : {B : Type 0} (width number : ℕ) (kept : List (Kept B)) → AllFull width kept → holds number (kept_numbers kept) ≡ true → length (ranks_of number kept) ≡ width
full-ranks {B} width number kept full there =
    ap length (sym (bare-ranks number kept))
    ∙ wide-cells width number (map bare_row kept) (bare-wide width kept full) (ap (holds number) (bare-numbers kept) ∙ there)

drop-rows : {B : Type 0} (same_time : Bool) (limit : ℕ) (s : Shelf B) → SoundShelf B same_time limit s → (number : ℕ) → RowsStay same_time (drops (ranks_of number s.kept)) s.columns (kept_without number s.kept)
unfolding RowsStay
drop-rows {B} same_time limit s w number i rank h held =
    let c = column_at s.columns i in
    let here = holds number (kept_numbers s.kept) in
    elim (cases_Bool here) [
      | inl there ↦
          let ranks = ranks_at i s.kept in
          let earlier = ranks_at i (kept_without number s.kept) in
          let at = get_or (ranks_of number s.kept) i 0 in
          let one = one_rank_without i number s.kept there in
          let inside = shelf-within same_time limit s w in
          ap (λ (operations : List (Operation B)). is_origin rank (origins same_time operations c)) (drops-at (ranks_of number s.kept) i (omega (arith, h, full-ranks (length s.columns) number s.kept w.full there)))
          ∙ stays-drop same_time c ranks earlier at rank (w.columns i h) (inside i at h (held-new at earlier ranks one)) (inside i rank h (held-later at earlier ranks rank one held)) one held
      | inr none ↦
          ap (λ (xs : List ℕ). is_origin rank (origins same_time (get_or (drops {B = B} xs) i []) c)) (no-ranks number s.kept none)
          ∙ no-steps same_time i c rank (shelf-within same_time limit s w i rank h (ap (λ (kept : List (Kept B)). holds rank (ranks_at i kept)) (sym (no-row number s.kept none)) ∙ held))
    ]

pub operations_leave_rows : {B : Type 0} (same_time : Bool) (limit : ℕ) (s : Shelf B) → SoundShelf B same_time limit s → LeavesRows B same_time s
unfolding RowsStay
operations_leave_rows {B} same_time limit s w =
    let inside = shelf-within same_time limit s w in
    record {
      inserts = λ places bodies i rank h held. adds-stay same_time places bodies i (column_at s.columns i) rank (inside i rank h held);
      deletes = drop-rows same_time limit s w;
      lays = λ column i rank h held. only-stay same_time column i (column_at s.columns i) rank (inside i rank h held);
    }

-- ---- what follows

column-height : {B C : Type 0} (f : B → C) (c : Column B) → height (map_column f c).tree ≡ height c.tree
unfolding map_column
column-height f c = height-map_tree (map_item f) c.tree

column-most : {B C : Type 0} (f : B → C) (c : Column B) → (map_column f c).most ≡ c.most
unfolding map_column
column-most f c = refl

FitsRows-by : {B C : Type 0} (limit : ℕ) (c : Column B) (d : Column C) → size c.tree ≡ size d.tree → height c.tree ≡ height d.tree → c.most ≡ d.most → counts (items_of c) ≡ counts (items_of d) → FitsRows B limit c → FitsRows C limit d
FitsRows-by limit c d many high most ns fits =
    record {
      items = omega (arith, fits.items, many, most);
      most = omega (arith, fits.most, most);
      counted = λ rank. subst (λ (xs : List ℕ). get_or xs rank 0 ≤ limit) ns (fits.counted rank);
      many = λ h. let low = fits.many h in record { most = omega (arith, low.most, most); ways = omega (arith, low.ways, high) };
      more = λ h. let low = fits.more h in record { most = omega (arith, low.most, most); ways = omega (arith, low.ways, high) };
      any = λ h. omega (arith, fits.any h, high);
    }

fits-map : {B C : Type 0} (f : B → C) (limit : ℕ) (c : Column B) → FitsRows B limit c → FitsRows C limit (map_column f c)
fits-map {B} {C} f limit c fits = FitsRows-by limit c (map_column f c) (sym (column-size f c)) (sym (column-height f c)) (sym (column-most f c)) (sym (column-counts f c)) fits

fits-back : {B C : Type 0} (f : B → C) (limit : ℕ) (c : Column B) → FitsRows C limit (map_column f c) → FitsRows B limit c
fits-back {B} {C} f limit c fits = FitsRows-by limit (map_column f c) c (column-size f c) (column-height f c) (column-most f c) (column-counts f c) fits

pub shelf_fits_rows : {B : Type 0} (same_time : Bool) (limit : ℕ) (s : Shelf B) (column : ℕ) → SoundShelf B same_time limit s → column < length s.columns → ShelfGives B limit s column
unfolding spread_store
shelf_fits_rows {B} same_time limit s column w h =
    let t = spread_store s in
    let k : column < length t.columns = omega (arith, h, width s) in
    record {
      within = λ rank held. shelf-within same_time limit s w column rank h held;
      fits = fits-back (nothing {B = B}) limit (column_at s.columns column)
          (subst (FitsRows ℕ limit) (ap (map_column (nothing {B = ℕ})) (column_at-spread s.columns column h) ∙ column-alike (column_at s.columns column))
          (fits-map (nothing {B = ℕ}) limit (column_at t.columns column) (sound_fits_rows itself same_time limit t column (spread-sound same_time limit s w) k)));
    }
