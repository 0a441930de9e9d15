-- A sound table by rank as a table by value, with the value 2 * rank + 1 for an item: then each place has a value, its number.
use Rattle.std.proofs.Common.{◌≡◌, ℕ, suc, zero, ◌+◌, ◌*◌, ◌<◌, Bool, true, false, List, [], ◌∷◌, ◌++◌, length, map, get_or, Option, Some, None, refl, ap, ap₂, ◌∙◌, sym, subst, inl, inr, arith}
use Rattle.std.specs.List.{range_with_len}
use Rattle.std.proofs.lemmas.List.{length-map, get_or-map}
use Rattle.std.proofs.lemmas.List.FromFn.{length-map-range_with_len, get_or-map-range_with_len}
use Rattle.tree_model.specs.declared.Place.{Place}
use Rattle.tree_model.specs.declared.Place.TheVariants.{Found, Gap}
use Rattle.tree_model.specs.Trees.{size, IsPlaceOf}
use Rattle.tree_model.specs.Places.{below, holds, place, number, IsBelowAll, IsIncreasing}
use Rattle.tree_model.specs.Items.{Item, map_item, values}
use Rattle.tree_model.specs.Columns.{Column, items_of, map_column, apply_all}
use Rattle.tree_model.specs.Sums.{bodies, tagged_column, blank, origins}
use Rattle.tree_model.specs.Tallies.{Tallied, counts}
use Rattle.tree_model.proofs.Ordered.{holds-cons_eq, holds-cons_ne, place-IsFound, place-IsGap, found_of_place}
use Rattle.tree_model.proofs.Mapped.{size-map_tree}
use Rattle.tree_model.proofs.CarriedRanks.{false_is_true}
use Rattle.std.proofs.lemmas.Bool.{cases_eq}
use Rattle.tree_model.proofs.Summed.{origins-nothing, map_column-tagged_zero}
use Rattle.tree_model.proofs.TalliedRows.{tallied_mapped}
use Rattle.table_model.specs.Stores.{Row, Store, Kept, Shelf, map_kept, map_shelf, ranks_by, kept_of, shelf_of}
use Rattle.table_model.specs.Steps.{places_by}
use Rattle.table_model.specs.Soundness.{numbers_of, kept_numbers, cell_value, column_values, ranks_at, column_at, AllWide, SoundColumn, Sound}
use Rattle.table_model.specs.Fitting.{AllPlaced}
use Rattle.table_model.specs.ShelfSoundness.{AllFull, SoundRanks, SoundShelf}
use Rattle.table_model.proofs.Lists.{map-map, map-nothing}
use Rattle.table_model.proofs.StoreMaps.{values-map_column, map_column-twice}
use Rattle.table_model.proofs.Following.{keys}
use Rattle.table_model.proofs.Rows.{held-cons}
use Rattle.table_model.proofs.ShelfSoundMaps.{column-ranks, column-back}

abbrev pub itself : ℕ → ℕ
itself n = n

abbrev pub nothing : {B : Type 0} → B → ℕ
nothing b = 0

-- the value of the item of a rank
abbrev pub spread : ℕ → ℕ
spread rank = 2 * rank + 1

-- ---- the values

abbrev pub spread_range : ℕ → List ℕ
spread_range n = map spread (range_with_len 0 n)

get-spread : (n i : ℕ) → i < n → get_or (spread_range n) i 0 ≡ spread i
get-spread n i h = get_or-map-range_with_len spread 0 n i i 0 h (omega arith)

spread-bound : (w first n : ℕ) → w < spread first → IsBelowAll w (map spread (range_with_len first n))
unfolding IsBelowAll
spread-bound w first zero h = tt
spread-bound w first (suc n) h = (h, spread-bound w (first + 1) n (omega (arith, h)))

spread-rising : (first n : ℕ) → IsIncreasing (map spread (range_with_len first n))
unfolding IsIncreasing
spread-rising first zero = tt
spread-rising first (suc n) = (spread-bound (spread first) (first + 1) n (omega arith), spread-rising (first + 1) n)

length-spread : (n : ℕ) → length (spread_range n) ≡ n
length-spread n = length-map-range_with_len spread 0 n

pub below-spread : (n rank : ℕ) → rank < n → below (spread rank) (spread_range n) ≡ rank
below-spread n rank h =
    (found_of_place (spread_range n) (spread rank) rank (place-IsFound (spread_range n) (spread rank) rank 0 (spread-rising 0 n) (omega (arith, h, length-spread n)) (get-spread n rank h))).0

place-spread : (n : ℕ) (p : Place) → IsPlaceOf n p → place (spread_range n) (number p) ≡ p
unfolding IsPlaceOf number
place-spread n (Found rank) h = place-IsFound (spread_range n) (spread rank) rank 0 (spread-rising 0 n) (omega (arith, h, length-spread n)) (get-spread n rank h)
place-spread n (Gap rank) h =
    place-IsGap (spread_range n) (2 * rank) rank 0 (spread-rising 0 n) (omega (arith, h, length-spread n))
    (λ i k. omega (arith, k, get-spread n i (omega (arith, k, h))))
    (λ k. omega (arith, get-spread n rank (omega (arith, k, length-spread n))))

-- ---- columns

unfoldable pub spread_or : Option ℕ → ℕ
spread_or None = 0
spread_or (Some rank) = spread rank

unfoldable pub spread_column : {B : Type 0} → Column B → Column ℕ
spread_column c = map_column spread_or (tagged_column c)

tags : {B : Type 0} (c : Column B) → bodies (items_of (tagged_column c)) ≡ map Some (range_with_len 0 (size c.tree))
unfolding origins blank apply_all
tags c = origins-nothing false c

pub keys-spread : {B : Type 0} (c : Column B) → keys itself (spread_column c) ≡ spread_range (size c.tree)
unfolding spread_column bodies values spread_or
keys-spread c =
    let items = items_of (tagged_column c) in
    values-map_column spread_or itself (tagged_column c)
    ∙ sym (map-map spread_or (λ (item : Item (Option ℕ)). item.body) items)
    ∙ ap (map spread_or) (tags c)
    ∙ map-map spread_or Some (range_with_len 0 (size c.tree))

pub column-alike : {B : Type 0} (c : Column B) → map_column (nothing {B = ℕ}) (spread_column c) ≡ map_column (nothing {B = B}) c
unfolding spread_column
column-alike c = map_column-twice (nothing {B = ℕ}) spread_or (tagged_column c) ∙ map_column-tagged_zero c

size-nothing : {B : Type 0} (c : Column B) → size (map_column (nothing {B = B}) c).tree ≡ size c.tree
unfolding map_column
size-nothing {B} c = size-map_tree (map_item (nothing {B = B})) c.tree

size-spread : {B : Type 0} (c : Column B) → size (spread_column c).tree ≡ size c.tree
size-spread c = sym (size-nothing (spread_column c)) ∙ ap (λ (d : Column ℕ). size d.tree) (column-alike c) ∙ size-nothing c

sound-spread : {B : Type 0} (same_time : Bool) (c : Column B) (ranks : List ℕ) → SoundRanks B same_time c ranks → SoundColumn ℕ itself same_time (spread_column c) (map spread ranks)
sound-spread {B} same_time c ranks w =
    let oc = spread_column c in
    let there = column-back (nothing {B = ℕ}) same_time oc ranks (subst (λ (d : Column ℕ). SoundRanks ℕ same_time d ranks) (sym (column-alike c)) (column-ranks (nothing {B = B}) same_time c ranks w)) in
    let few = size-spread c in
    record {
      tallied = subst (λ (xs : List ℕ). Tallied xs (counts (items_of oc)) (map spread ranks)) (sym (keys-spread c))
          (tallied_mapped spread (range_with_len 0 (size c.tree)) (counts (items_of oc)) ranks
          (subst (λ (n : ℕ). Tallied (range_with_len 0 n) (counts (items_of oc)) ranks) few there.tallied) (spread-rising 0 (size c.tree)));
      kept = there.kept;
      suits = there.suits;
    }

-- ---- tables

unfoldable pub spread_row : {B : Type 0} → Kept B → Row ℕ
spread_row row = record { number = row.number; cells = map spread row.ranks }

unfoldable pub spread_store : {B : Type 0} → Shelf B → Store ℕ
spread_store s = record { rows = map spread_row s.kept; next = s.next; columns = map spread_column s.columns }

pub column_at-spread : {B : Type 0} (cs : List (Column B)) (i : ℕ) → i < length cs → column_at (map spread_column cs) i ≡ spread_column (column_at cs i)
unfolding column_at
column_at-spread [] i h = absurd (omega (arith, h))
column_at-spread (c ∷ cs) zero h = refl
column_at-spread (c ∷ cs) (suc i) h = column_at-spread cs i (omega (arith, h))

value-spread : (ranks : List ℕ) (i : ℕ) → i < length ranks → get_or (map itself (map spread ranks)) i 0 ≡ spread (get_or ranks i 0)
value-spread ranks i h = ap (λ (xs : List ℕ). get_or xs i 0) (map-nothing itself (map spread ranks) (λ x. refl)) ∙ get_or-map spread ranks i 0 0 h

values-spread : {B : Type 0} (width i : ℕ) (kept : List (Kept B)) → i < width → AllFull width kept → column_values itself i (map spread_row kept) ≡ map spread (ranks_at i kept)
unfolding column_values cell_value ranks_at spread_row AllFull
values-spread width i [] h full = refl
values-spread width i (row ∷ kept) h full = ap₂ (λ (x : ℕ) (rest : List ℕ). x ∷ rest) (value-spread row.ranks i (omega (arith, h, full.1))) (values-spread width i kept h full.2)

wide-spread : {B : Type 0} (width : ℕ) (kept : List (Kept B)) → AllFull width kept → AllWide width (map spread_row kept)
unfolding AllWide AllFull spread_row
wide-spread width [] full = tt
wide-spread width (row ∷ kept) full = (length-map row.ranks spread ∙ full.1, wide-spread width kept full.2)

numbers-spread : {B : Type 0} (kept : List (Kept B)) → numbers_of (map spread_row kept) ≡ kept_numbers kept
unfolding numbers_of kept_numbers spread_row
numbers-spread {B} kept = map-map (λ (row : Row ℕ). row.number) spread_row kept

pub spread-sound : {B : Type 0} (same_time : Bool) (limit : ℕ) (s : Shelf B) → SoundShelf B same_time limit s → Sound ℕ itself same_time limit (spread_store s)
unfolding spread_store
spread-sound {B} same_time limit s w =
    let many = length-map s.columns (spread_column {B = B}) in
    record {
      few = omega (arith, w.few, length-map s.kept (spread_row {B = B}));
      numbered = subst (λ (ns : List ℕ). IsIncreasing (ns ++ s.next ∷ [])) (sym (numbers-spread s.kept)) w.numbered;
      wide = subst (λ (n : ℕ). AllWide n (map spread_row s.kept)) (sym many) (wide-spread (length s.columns) s.kept w.full);
      columns = λ i h.
          let k : i < length s.columns = omega (arith, h, many) in
          subst (λ (c : Column ℕ). SoundColumn ℕ itself same_time c (column_values itself i (map spread_row s.kept))) (sym (column_at-spread s.columns i k))
          (subst (SoundColumn ℕ itself same_time (spread_column (column_at s.columns i))) (sym (values-spread (length s.columns) i s.kept k w.full))
          (sound-spread same_time (column_at s.columns i) (ranks_at i s.kept) (w.columns i k)));
    }

none_held : {A : Type 0} (rank : ℕ) → holds rank [] ≡ true → A
unfolding holds
none_held rank h = false_is_true h

-- ---- the same table by rank, but for bodies

ranks-spread : {B : Type 0} (cs : List (Column B)) (ranks : List ℕ) → length ranks ≡ length cs → ((i : ℕ) → i < length cs → get_or ranks i 0 < size (column_at cs i).tree) → ranks_by itself (map spread_column cs) (map spread ranks) ≡ ranks
unfolding ranks_by column_at
ranks-spread [] [] wide within = refl
ranks-spread [] (rank ∷ ranks) wide within = absurd (omega (arith, wide))
ranks-spread (c ∷ cs) [] wide within = absurd (omega (arith, wide))
ranks-spread (c ∷ cs) (rank ∷ ranks) wide within =
    ap₂ (λ (first : ℕ) (rest : List ℕ). first ∷ rest)
    (ap (below (spread rank)) (keys-spread c) ∙ below-spread (size c.tree) rank (within 0 (omega arith)))
    (ranks-spread cs ranks (omega (arith, wide)) (λ i h. within (suc i) (omega (arith, h))))

pub nothings : {A B : Type 0} (xs : List A) (ys : List B) → length xs ≡ length ys → map (nothing {B = A}) xs ≡ map (nothing {B = B}) ys
nothings [] [] e = refl
nothings [] (y ∷ ys) e = absurd (omega (arith, e))
nothings (x ∷ xs) [] e = absurd (omega (arith, e))
nothings (x ∷ xs) (y ∷ ys) e = ap (λ (rest : List ℕ). 0 ∷ rest) (nothings xs ys (omega (arith, e)))

kept-alike : {B : Type 0} (cs : List (Column B)) (kept : List (Kept B)) → AllFull (length cs) kept → ((i rank : ℕ) → i < length cs → holds rank (ranks_at i kept) ≡ true → rank < size (column_at cs i).tree)
    → map (map_kept (nothing {B = ℕ})) (map (kept_of itself (map spread_column cs)) (map spread_row kept)) ≡ map (map_kept (nothing {B = B})) kept
unfolding map_kept kept_of spread_row AllFull ranks_at
kept-alike cs [] full within = refl
kept-alike {B} cs (row ∷ kept) full within =
    ap₂ (λ (first : Kept ℕ) (rest : List (Kept ℕ)). first ∷ rest)
    (ap₂ (λ (zeros ranks : List ℕ). let r : Kept ℕ = record { number = row.number; bodies = zeros; ranks = ranks } in r)
    (nothings (map spread row.ranks) row.bodies (length-map row.ranks spread ∙ full.1 ∙ sym full.0))
    (ranks-spread cs row.ranks full.1 (λ i h. within i (get_or row.ranks i 0) h (holds-cons_eq (get_or row.ranks i 0) (get_or row.ranks i 0) (ranks_at i kept) refl))))
    (kept-alike cs kept full.2 (λ i rank h held. within i rank h (held-cons rank (get_or row.ranks i 0) (ranks_at i kept) held)))

columns-alike : {B : Type 0} (cs : List (Column B)) → map (map_column (nothing {B = ℕ})) (map spread_column cs) ≡ map (map_column (nothing {B = B})) cs
columns-alike [] = refl
columns-alike (c ∷ cs) = ap₂ (λ (d : Column ℕ) (rest : List (Column ℕ)). d ∷ rest) (column-alike c) (columns-alike cs)

held-range : (first n rank : ℕ) → holds rank (range_with_len first n) ≡ true → rank < first + n
held-range first zero rank held = none_held rank held
held-range first (suc n) rank held =
    elim (cases_eq first rank) [
      | inl here ↦ omega (arith, here)
      | inr past ↦ omega (arith, held-range (first + 1) n rank (sym (holds-cons_ne rank first (range_with_len (first + 1) n) past) ∙ held))
    ]

-- each row's rank is an item's
pub shelf-within : {B : Type 0} (same_time : Bool) (limit : ℕ) (s : Shelf B) → SoundShelf B same_time limit s → (i rank : ℕ) → i < length s.columns → holds rank (ranks_at i s.kept) ≡ true → rank < size (column_at s.columns i).tree
shelf-within same_time limit s w i rank h held =
    let in_range = held-range 0 (size (column_at s.columns i).tree) rank ((w.columns i h).tallied.held rank held) in omega (arith, in_range)

pub alike : {B : Type 0} (same_time : Bool) (limit : ℕ) (s : Shelf B) → SoundShelf B same_time limit s → map_shelf (nothing {B = ℕ}) (shelf_of itself (spread_store s)) ≡ map_shelf (nothing {B = B}) s
unfolding map_shelf shelf_of spread_store
alike same_time limit s w =
    ap₂ (λ (kept : List (Kept ℕ)) (columns : List (Column ℕ)). let r : Shelf ℕ = record { kept = kept; next = s.next; columns = columns } in r)
    (kept-alike s.columns s.kept w.full (shelf-within same_time limit s w)) (columns-alike s.columns)

-- ---- places are places of values

pub places-spread : {B : Type 0} (cs : List (Column B)) (places : List Place) → AllPlaced cs places → places_by itself (map spread_column cs) (map number places) ≡ places
unfolding places_by AllPlaced
places-spread [] [] placed = refl
places-spread [] (p ∷ places) placed = absurd placed
places-spread (c ∷ cs) [] placed = absurd placed
places-spread (c ∷ cs) (p ∷ places) placed =
    ap₂ (λ (first : Place) (rest : List Place). first ∷ rest)
    (ap (λ (xs : List ℕ). place xs (number p)) (keys-spread c) ∙ place-spread (size c.tree) p placed.0)
    (places-spread cs places placed.1)

pub length-placed : {B : Type 0} (cs : List (Column B)) (places : List Place) → AllPlaced cs places → length places ≡ length cs
unfolding AllPlaced
length-placed [] [] placed = refl
length-placed [] (p ∷ places) placed = absurd placed
length-placed (c ∷ cs) [] placed = absurd placed
length-placed (c ∷ cs) (p ∷ places) placed = ap suc (length-placed cs places placed.1)
