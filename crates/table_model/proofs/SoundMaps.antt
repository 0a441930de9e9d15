-- Soundness doesn't depend on bodies but for their values.
use Rattle.std.proofs.Common.{◌≡◌, ℕ, suc, zero, Bool, List, [], ◌∷◌, ◌++◌, length, map, get_or, refl, ap, ◌∙◌, sym, subst, arith}
use Rattle.std.proofs.lemmas.List.{length-map}
use Rattle.tree_model.specs.Places.{IsIncreasing}
use Rattle.tree_model.specs.Items.{Item, map_item, values}
use Rattle.tree_model.specs.Trees.{map_tree}
use Rattle.tree_model.specs.Columns.{Column, empty_column, items_of, map_column}
use Rattle.tree_model.specs.Tallies.{Tallied, counts, TalliedItems}
use Rattle.tree_model.proofs.ColumnOrder.{IsKept-map, SuitsMode-map}
use Rattle.table_model.specs.Stores.{Row, Store, map_row, map_store}
use Rattle.table_model.specs.Soundness.{numbers_of, cell_value, column_values, column_at, AllWide, SoundColumn, Sound}
use Rattle.table_model.proofs.Lists.{map-map, map-same}
use Rattle.table_model.proofs.StoreMaps.{items-map, values-map}

pub counts-map : {B C : Type 0} (f : B → C) (items : List (Item B)) → counts (map (map_item f) items) ≡ counts items
unfolding counts map_item
counts-map {B} {C} f items = map-map (λ (item : Item C). item.count) (map_item f) items

pub tallied-map : {B C : Type 0} (f : B → C) (v : C → ℕ) (c : Column B) (rows : List ℕ) → TalliedItems (λ (b : B). v (f b)) (items_of c) rows → TalliedItems v (items_of (map_column f c)) rows
tallied-map {B} {C} f v c rows t =
    subst (λ (items : List (Item C)). TalliedItems v items rows) (sym (items-map f c))
    (subst (λ (keys : List ℕ). Tallied keys (counts (map (map_item f) (items_of c))) rows) (sym (values-map f v (items_of c)))
    (subst (λ (ns : List ℕ). Tallied (values (λ (b : B). v (f b)) (items_of c)) ns rows) (sym (counts-map f (items_of c))) t))

pub sound_column-map : {B C : Type 0} (f : B → C) (v : C → ℕ) (same_time : Bool) (c : Column B) (rows : List ℕ) → SoundColumn B (λ (b : B). v (f b)) same_time c rows → SoundColumn C v same_time (map_column f c) rows
sound_column-map f v same_time c rows s =
    record { tallied = tallied-map f v c rows s.tallied; kept = IsKept-map f c s.kept; suits = SuitsMode-map f same_time c s.suits }

pub column_at-map : {B C : Type 0} (f : B → C) (cs : List (Column B)) (i : ℕ) → column_at (map (map_column f) cs) i ≡ map_column f (column_at cs i)
unfolding column_at empty_column map_column map_tree
column_at-map f [] i = refl
column_at-map f (c ∷ cs) zero = refl
column_at-map f (c ∷ cs) (suc i) = column_at-map f cs i

pub column_values-map : {B C : Type 0} (f : B → C) (v : C → ℕ) (column : ℕ) (rows : List (Row B)) → column_values v column (map (map_row f) rows) ≡ column_values (λ (b : B). v (f b)) column rows
unfolding column_values cell_value map_row
column_values-map {B} {C} f v column rows =
    map-map (cell_value v column) (map_row f) rows
    ∙ map-same (λ (row : Row B). cell_value v column (map_row f row)) (cell_value (λ (b : B). v (f b)) column) rows (λ row. ap (λ (xs : List ℕ). get_or xs column 0) (map-map v f row.cells))

numbers-map : {B C : Type 0} (f : B → C) (rows : List (Row B)) → numbers_of (map (map_row f) rows) ≡ numbers_of rows
unfolding numbers_of map_row
numbers-map {B} {C} f rows = map-map (λ (row : Row C). row.number) (map_row f) rows

wide-map : {B C : Type 0} (f : B → C) (width : ℕ) (rows : List (Row B)) → AllWide width rows → AllWide width (map (map_row f) rows)
unfolding AllWide map_row
wide-map f width [] wide = wide
wide-map f width (row ∷ rows) wide = (length-map row.cells f ∙ wide.0, wide-map f width rows wide.1)

pub sound_is_blind : {B C : Type 0} (f : B → C) (v : C → ℕ) (same_time : Bool) (limit : ℕ) (t : Store B) → Sound B (λ (b : B). v (f b)) same_time limit t → Sound C v same_time limit (map_store f t)
unfolding map_store
sound_is_blind {B} {C} f v same_time limit t sound =
    let many = length-map t.columns (map_column f) in
    record {
      few = omega (arith, sound.few, length-map t.rows (map_row f));
      numbered = subst (λ (numbers : List ℕ). IsIncreasing (numbers ++ t.next ∷ [])) (sym (numbers-map f t.rows)) sound.numbered;
      wide = subst (λ (n : ℕ). AllWide n (map (map_row f) t.rows)) (sym many) (wide-map f (length t.columns) t.rows sound.wide);
      columns = λ i h.
          subst (λ (c : Column C). SoundColumn C v same_time c (column_values v i (map (map_row f) t.rows))) (sym (column_at-map f t.columns i))
          (subst (SoundColumn C v same_time (map_column f (column_at t.columns i))) (sym (column_values-map f v i t.rows))
          (sound_column-map f v same_time (column_at t.columns i) (column_values (λ (b : B). v (f b)) i t.rows) (sound.columns i (omega (arith, h, many)))));
    }
