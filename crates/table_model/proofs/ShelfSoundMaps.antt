-- A table by rank is sound with any bodies or with none, and that of a sound table is sound.
use Rattle.std.proofs.Common.{◌≡◌, ℕ, suc, zero, ◌+◌, ◌<◌, ◌≤◌, Bool, true, false, List, [], ◌∷◌, ◌++◌, length, map, get_or, refl, ap, ap₂, ◌∙◌, sym, subst, arith}
use Rattle.std.specs.List.{range_with_len}
use Rattle.std.proofs.lemmas.List.{length-map}
use Rattle.tree_model.specs.declared.Place.TheVariants.{Found}
use Rattle.tree_model.specs.declared.Side.{Side}
use Rattle.tree_model.specs.Trees.{inorder, size}
use Rattle.tree_model.specs.Places.{below, IsBelowAll, IsIncreasing}
use Rattle.tree_model.specs.Items.{Item, map_item, AllLive}
use Rattle.tree_model.specs.Balance.{limit}
use Rattle.tree_model.specs.Columns.{Column, items_of, map_column}
use Rattle.tree_model.specs.ColumnLaws.{IsKept, SuitsMode}
use Rattle.tree_model.specs.Tallies.{Tallied, counts}
use Rattle.tree_model.proofs.Mapped.{size-map_tree, inorder-map_tree, path-map_tree}
use Rattle.tree_model.proofs.Blind.{live-map_tree}
use Rattle.tree_model.proofs.Ordered.{place-IsFound, found_of_place}
use Rattle.tree_model.proofs.ColumnOrder.{IsKept-map, SuitsMode-map}
use Rattle.tree_model.proofs.TalliedRows.{tallied_mapped}
use Rattle.table_model.specs.Stores.{Row, Store, Kept, Shelf, map_kept, map_shelf, ranks_by, kept_of, shelf_of}
use Rattle.table_model.specs.Soundness.{numbers_of, kept_numbers, cell_value, column_values, ranks_at, column_at, AllWide, SoundColumn, Sound}
use Rattle.table_model.specs.Standing.{Stands}
use Rattle.table_model.specs.ShelfSoundness.{AllFull, SoundRanks, SoundShelf}
use Rattle.table_model.proofs.Lists.{map-map}
use Rattle.table_model.proofs.StoreMaps.{items-map}
use Rattle.table_model.proofs.SoundMaps.{counts-map, column_at-map}
use Rattle.table_model.proofs.Following.{keys, length-keys}
use Rattle.table_model.proofs.Sealed.{rank-at, ranks-sealed}

-- ---- columns

pub column-counts : {B C : Type 0} (f : B → C) (c : Column B) → counts (items_of (map_column f c)) ≡ counts (items_of c)
column-counts f c = ap counts (items-map f c) ∙ counts-map f (items_of c)

pub column-size : {B C : Type 0} (f : B → C) (c : Column B) → size (map_column f c).tree ≡ size c.tree
unfolding map_column
column-size f c = size-map_tree (map_item f) c.tree

live-back : {B C : Type 0} (f : B → C) (items : List (Item B)) → AllLive (map (map_item f) items) → AllLive items
unfolding AllLive map_item
live-back f [] all = tt
live-back f (x ∷ items) all = (all.0, live-back f items all.1)

suits-back : {B C : Type 0} (f : B → C) (same_time : Bool) (c : Column B) → SuitsMode same_time (map_column f c) → SuitsMode same_time c
unfolding SuitsMode map_column items_of
suits-back f false c suits = suits ∙ size-map_tree (map_item f) c.tree
suits-back f true c suits = live-back f (inorder c.tree) (subst AllLive (inorder-map_tree (map_item f) c.tree) suits)

kept-back : {B C : Type 0} (f : B → C) (c : Column B) → IsKept C (map_column f c) → IsKept B c
unfolding map_column items_of
kept-back f c k =
    let many = size-map_tree (map_item f) c.tree in
    record {
      shallow = λ rank h. subst (λ (way : List Side). length way ≤ limit c.most) (path-map_tree (map_item f) c.tree (Found rank)) (k.shallow rank (omega (arith, h, many)));
      dense = omega (arith, k.dense, live-map_tree f c.tree);
      fits = omega (arith, k.fits, many);
    }

pub column-ranks : {B C : Type 0} (f : B → C) (same_time : Bool) (c : Column B) (ranks : List ℕ) → SoundRanks B same_time c ranks → SoundRanks C same_time (map_column f c) ranks
column-ranks f same_time c ranks w =
    record {
      tallied = subst (λ (n : ℕ). Tallied (range_with_len 0 n) (counts (items_of (map_column f c))) ranks) (sym (column-size f c))
          (subst (λ (ns : List ℕ). Tallied (range_with_len 0 (size c.tree)) ns ranks) (sym (column-counts f c)) w.tallied);
      kept = IsKept-map f c w.kept;
      suits = SuitsMode-map f same_time c w.suits;
    }

pub column-back : {B C : Type 0} (f : B → C) (same_time : Bool) (c : Column B) (ranks : List ℕ) → SoundRanks C same_time (map_column f c) ranks → SoundRanks B same_time c ranks
column-back f same_time c ranks w =
    record {
      tallied = subst (λ (n : ℕ). Tallied (range_with_len 0 n) (counts (items_of c)) ranks) (column-size f c)
          (subst (λ (ns : List ℕ). Tallied (range_with_len 0 (size (map_column f c).tree)) ns ranks) (column-counts f c) w.tallied);
      kept = kept-back f c w.kept;
      suits = suits-back f same_time c w.suits;
    }

-- ---- tables

pub kept_numbers-sealed : {B C : Type 0} (f : B → C) (kept : List (Kept B)) → kept_numbers (map (map_kept f) kept) ≡ kept_numbers kept
unfolding kept_numbers map_kept
kept_numbers-sealed {B} {C} f kept = map-map (λ (row : Kept C). row.number) (map_kept f) kept

full-map : {B C : Type 0} (f : B → C) (width : ℕ) (kept : List (Kept B)) → AllFull width kept → AllFull width (map (map_kept f) kept)
unfolding AllFull map_kept
full-map f width [] full = tt
full-map f width (row ∷ kept) full = (length-map row.bodies f ∙ full.0, full.1, full-map f width kept full.2)

full-back : {B C : Type 0} (f : B → C) (width : ℕ) (kept : List (Kept B)) → AllFull width (map (map_kept f) kept) → AllFull width kept
unfolding AllFull map_kept
full-back f width [] full = tt
full-back f width (row ∷ kept) full = (sym (length-map row.bodies f) ∙ full.0, full.1, full-back f width kept full.2)

pub shelf_sound_is_blind : {B C : Type 0} (f : B → C) (same_time : Bool) (limit : ℕ) (s : Shelf B) → SoundShelf B same_time limit s → SoundShelf C same_time limit (map_shelf f s)
unfolding map_shelf
shelf_sound_is_blind {B} {C} f same_time limit s w =
    let many = length-map s.columns (map_column f) in
    record {
      few = omega (arith, w.few, length-map s.kept (map_kept f));
      numbered = subst (λ (ns : List ℕ). IsIncreasing (ns ++ s.next ∷ [])) (sym (kept_numbers-sealed f s.kept)) w.numbered;
      full = subst (λ (n : ℕ). AllFull n (map (map_kept f) s.kept)) (sym many) (full-map f (length s.columns) s.kept w.full);
      columns = λ i h.
          subst (λ (c : Column C). SoundRanks C same_time c (ranks_at i (map (map_kept f) s.kept))) (sym (column_at-map f s.columns i))
          (subst (SoundRanks C same_time (map_column f (column_at s.columns i))) (sym (ranks-sealed f i s.kept))
          (column-ranks f same_time (column_at s.columns i) (ranks_at i s.kept) (w.columns i (omega (arith, h, many)))));
    }

pub shelf-back : {B C : Type 0} (f : B → C) (same_time : Bool) (limit : ℕ) (s : Shelf B) → SoundShelf C same_time limit (map_shelf f s) → SoundShelf B same_time limit s
unfolding map_shelf
shelf-back {B} {C} f same_time limit s w =
    let many = length-map s.columns (map_column f) in
    record {
      few = omega (arith, w.few, length-map s.kept (map_kept f));
      numbered = subst (λ (ns : List ℕ). IsIncreasing (ns ++ s.next ∷ [])) (kept_numbers-sealed f s.kept) w.numbered;
      full = full-back f (length s.columns) s.kept (subst (λ (n : ℕ). AllFull n (map (map_kept f) s.kept)) many w.full);
      columns = λ i h.
          column-back f same_time (column_at s.columns i) (ranks_at i s.kept)
          (subst (SoundRanks C same_time (map_column f (column_at s.columns i))) (ranks-sealed f i s.kept)
          (subst (λ (c : Column C). SoundRanks C same_time c (ranks_at i (map (map_kept f) s.kept))) (column_at-map f s.columns i) (w.columns i (omega (arith, h, many)))));
    }

-- ---- the ranks of increasing keys

pub map-counts : (f : ℕ → ℕ) (first : ℕ) (xs : List ℕ) → ((k : ℕ) → k < length xs → f (get_or xs k 0) ≡ first + k) → map f xs ≡ range_with_len first (length xs)
map-counts f first [] each = refl
map-counts f first (x ∷ xs) each =
    let here : f x ≡ first = each 0 (omega arith) ∙ omega arith in
    ap₂ (λ (y : ℕ) (rest : List ℕ). y ∷ rest) here
    (map-counts f (first + 1) xs (λ k h. each (suc k) (omega (arith, h)) ∙ omega arith))

below-each : (xs : List ℕ) → IsIncreasing xs → map (λ (x : ℕ). below x xs) xs ≡ range_with_len 0 (length xs)
below-each xs up =
    map-counts (λ (x : ℕ). below x xs) 0 xs (λ k h. (found_of_place xs (get_or xs k 0) k (place-IsFound xs (get_or xs k 0) k 0 up h refl)).0 ∙ omega arith)

below-bound : (w first n : ℕ) → w < first → IsBelowAll w (range_with_len first n)
unfolding IsBelowAll
below-bound w first zero h = tt
below-bound w first (suc n) h = (h, below-bound w (first + 1) n (omega (arith, h)))

pub rising-range : (first n : ℕ) → IsIncreasing (range_with_len first n)
unfolding IsIncreasing
rising-range first zero = tt
rising-range first (suc n) = (below-bound first (first + 1) n (omega arith), rising-range (first + 1) n)

-- values turned into ranks
pub tallied-ranks : (xs ns rows : List ℕ) → Tallied xs ns rows → Tallied (range_with_len 0 (length xs)) ns (map (λ (x : ℕ). below x xs) rows)
tallied-ranks xs ns rows t =
    let e = below-each xs t.rise in
    subst (λ (ranks : List ℕ). Tallied ranks ns (map (λ (x : ℕ). below x xs) rows)) e
    (tallied_mapped (λ (x : ℕ). below x xs) xs ns rows t (subst IsIncreasing (sym e) (rising-range 0 (length xs))))

sound_column-shelf : {B : Type 0} (v : B → ℕ) (same_time : Bool) (c : Column B) (rows : List ℕ) → SoundColumn B v same_time c rows → SoundRanks B same_time c (map (λ (x : ℕ). below x (keys v c)) rows)
sound_column-shelf v same_time c rows s =
    record {
      tallied = subst (λ (n : ℕ). Tallied (range_with_len 0 n) (counts (items_of c)) (map (λ (x : ℕ). below x (keys v c)) rows)) (length-keys v c) (tallied-ranks (keys v c) (counts (items_of c)) rows s.tallied);
      kept = s.kept;
      suits = s.suits;
    }

-- ---- the table by rank of a sound table

ranks_at-kept : {B : Type 0} (v : B → ℕ) (cs : List (Column B)) (i : ℕ) (rows : List (Row B)) → i < length cs → AllWide (length cs) rows → ranks_at i (map (kept_of v cs) rows) ≡ map (λ (x : ℕ). below x (keys v (column_at cs i))) (column_values v i rows)
unfolding ranks_at kept_of column_values cell_value AllWide
ranks_at-kept v cs i [] h wide = refl
ranks_at-kept v cs i (row ∷ rows) h wide = ap₂ (λ (rank : ℕ) (rest : List ℕ). rank ∷ rest) (rank-at v cs row.cells i h wide.0) (ranks_at-kept v cs i rows h wide.1)

length-ranks_by : {B : Type 0} (v : B → ℕ) (cs : List (Column B)) (cells : List B) → length cells ≡ length cs → length (ranks_by v cs cells) ≡ length cs
unfolding ranks_by
length-ranks_by v [] cells wide = refl
length-ranks_by v (c ∷ cs) [] wide = absurd (omega (arith, wide))
length-ranks_by v (c ∷ cs) (cell ∷ cells) wide = ap suc (length-ranks_by v cs cells (omega (arith, wide)))

full-kept : {B : Type 0} (v : B → ℕ) (cs : List (Column B)) (rows : List (Row B)) → AllWide (length cs) rows → AllFull (length cs) (map (kept_of v cs) rows)
unfolding AllWide AllFull kept_of
full-kept v cs [] wide = tt
full-kept v cs (row ∷ rows) wide = (wide.0, length-ranks_by v cs row.cells wide.0, full-kept v cs rows wide.1)

numbers-kept : {B : Type 0} (v : B → ℕ) (cs : List (Column B)) (rows : List (Row B)) → kept_numbers (map (kept_of v cs) rows) ≡ numbers_of rows
unfolding kept_numbers numbers_of kept_of
numbers-kept {B} v cs rows = map-map (λ (row : Kept B). row.number) (kept_of v cs) rows

pub shelf_of_sound : {B : Type 0} (v : B → ℕ) (same_time : Bool) (limit : ℕ) (t : Store B) → Sound B v same_time limit t → SoundShelf B same_time limit (shelf_of v t)
unfolding shelf_of
shelf_of_sound {B} v same_time limit t s =
    let cs = t.columns in
    record {
      few = omega (arith, s.few, length-map t.rows (kept_of v cs));
      numbered = subst (λ (ns : List ℕ). IsIncreasing (ns ++ t.next ∷ [])) (sym (numbers-kept v cs t.rows)) s.numbered;
      full = full-kept v cs t.rows s.wide;
      columns = λ i h.
          subst (SoundRanks B same_time (column_at cs i)) (sym (ranks_at-kept v cs i t.rows h s.wide))
          (sound_column-shelf v same_time (column_at cs i) (column_values v i t.rows) (s.columns i h));
    }

pub standing_shelf_is_sound : {B C : Type 0} (seal : C → B) (v : C → ℕ) (same_time : Bool) (limit : ℕ) (table : Shelf B) (t : Store C) → Stands B C seal v same_time limit table t → SoundShelf B same_time limit table
standing_shelf_is_sound {B} seal v same_time limit table t stands =
    subst (SoundShelf B same_time limit) (sym stands.same) (shelf_sound_is_blind seal same_time limit (shelf_of v t) (shelf_of_sound v same_time limit t stands.sound))
