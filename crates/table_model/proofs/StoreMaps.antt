-- Tables by value over mapped cells.
use Rattle.std.proofs.Common.{◌≡◌, ℕ, suc, Bool, List, [], ◌∷◌, map, refl, ap, ap₂, ◌∙◌, sym}
use Rattle.std.proofs.lemmas.List.{map-append}
use Rattle.tree_model.specs.declared.Place.{Place}
use Rattle.tree_model.specs.Trees.{Tree, leaf, node, map_tree}
use Rattle.tree_model.specs.Places.{below, place}
use Rattle.tree_model.specs.Items.{Item, map_item, values}
use Rattle.tree_model.specs.Columns.{Column, items_of, Operation, Lay, map_column, map_operation}
use Rattle.tree_model.proofs.Mapped.{inorder-map_tree}
use Rattle.tree_model.proofs.Summed.{map_tree-same}
use Rattle.table_model.specs.Stores.{Row, Store, Kept, Shelf, map_row, map_store, map_kept, map_shelf, ranks_by, kept_of, shelf_of}
use Rattle.table_model.specs.Steps.{operate, adds, drops, only, places_by}
use Rattle.table_model.specs.Changes.{cells_of, rows_without, insert_cells, delete_number, delete_numbers, lay_store}
use Rattle.table_model.specs.ShelfLaws.{MapsStore, MapsCompose, MapsNothing}
use Rattle.table_model.proofs.Lists.{map-map, map-same, map-nothing, without-map, of_row-map}
use Rattle.table_model.proofs.Maps.{operate-map, adds-map, drops-map, only-map}

abbrev through : {B C : Type 0} → (B → C) → (C → ℕ) → B → ℕ
through f v b = v (f b)

-- ---- items, values and places

pub items-map : {B C : Type 0} (f : B → C) (c : Column B) → items_of (map_column f c) ≡ map (map_item f) (items_of c)
unfolding items_of map_column
items-map f c = inorder-map_tree (map_item f) c.tree

pub values-map : {B C : Type 0} (f : B → C) (v : C → ℕ) (items : List (Item B)) → values v (map (map_item f) items) ≡ values (through f v) items
unfolding values map_item
values-map {B} {C} f v items = map-map (λ (item : Item C). v item.body) (map_item f) items

pub values-map_column : {B C : Type 0} (f : B → C) (v : C → ℕ) (c : Column B) → values v (items_of (map_column f c)) ≡ values (through f v) (items_of c)
values-map_column f v c = ap (values v) (items-map f c) ∙ values-map f v (items_of c)

pub places_by-map : {B C : Type 0} (f : B → C) (v : C → ℕ) (cs : List (Column B)) (cells : List B) → places_by v (map (map_column f) cs) (map f cells) ≡ places_by (through f v) cs cells
unfolding places_by
places_by-map f v [] cells = refl
places_by-map f v (c ∷ cs) [] = refl
places_by-map f v (c ∷ cs) (cell ∷ cells) = ap₂ (λ (xs : List ℕ) (rest : List Place). place xs (v (f cell)) ∷ rest) (values-map_column f v c) (places_by-map f v cs cells)

pub ranks_by-map : {B C : Type 0} (f : B → C) (v : C → ℕ) (cs : List (Column B)) (cells : List B) → ranks_by v (map (map_column f) cs) (map f cells) ≡ ranks_by (through f v) cs cells
unfolding ranks_by
ranks_by-map f v [] cells = refl
ranks_by-map f v (c ∷ cs) [] = refl
ranks_by-map f v (c ∷ cs) (cell ∷ cells) = ap₂ (λ (xs rest : List ℕ). below (v (f cell)) xs ∷ rest) (values-map_column f v c) (ranks_by-map f v cs cells)

-- ---- the shelf of a mapped store

abbrev shelf : {B : Type 0} → List (Kept B) → ℕ → List (Column B) → Shelf B
shelf kept next columns = record { kept = kept; next = next; columns = columns }

abbrev store : {B : Type 0} → List (Row B) → ℕ → List (Column B) → Store B
store rows next columns = record { rows = rows; next = next; columns = columns }

kept_of-map : {B C : Type 0} (f : B → C) (v : C → ℕ) (cs : List (Column B)) (row : Row B) → kept_of v (map (map_column f) cs) (map_row f row) ≡ map_kept f (kept_of (through f v) cs row)
unfolding kept_of map_row map_kept
kept_of-map {B} {C} f v cs row = ap (λ (ranks : List ℕ). let r : Kept C = record { number = row.number; bodies = map f row.cells; ranks = ranks } in r) (ranks_by-map f v cs row.cells)

pub shelf_of-map : {B C : Type 0} (f : B → C) (v : C → ℕ) (t : Store B) → shelf_of v (map_store f t) ≡ map_shelf f (shelf_of (through f v) t)
unfolding shelf_of map_store map_shelf
shelf_of-map {B} {C} f v t =
    ap (λ (kept : List (Kept C)). shelf kept t.next (map (map_column f) t.columns))
    (map-map (kept_of v (map (map_column f) t.columns)) (map_row f) t.rows
    ∙ map-same (λ (row : Row B). kept_of v (map (map_column f) t.columns) (map_row f row)) (λ (row : Row B). map_kept f (kept_of (through f v) t.columns row)) t.rows (kept_of-map f v t.columns)
    ∙ sym (map-map (map_kept f) (kept_of (through f v) t.columns) t.rows))

-- ---- operations by value

insert_cells-map : {B C : Type 0} (f : B → C) (v : C → ℕ) (same_time : Bool) (cells : List B) (t : Store B) → insert_cells same_time v (map f cells) (map_store f t) ≡ map_store f (insert_cells same_time (through f v) cells t)
unfolding insert_cells map_store map_row
insert_cells-map {B} {C} f v same_time cells t =
    let places = places_by (through f v) t.columns cells in
    ap₂ (λ (rows : List (Row C)) (columns : List (Column C)). store rows (suc t.next) columns)
    (sym (map-append (map_row f) t.rows (record { number = t.next; cells = cells } ∷ [])))
    (ap (λ (steps : List (List (Operation C))). operate same_time steps (map (map_column f) t.columns))
    (ap (λ (ps : List Place). adds ps (map f cells)) (places_by-map f v t.columns cells) ∙ adds-map f places cells)
    ∙ operate-map f same_time (adds places cells) t.columns)

cells_of-map : {B C : Type 0} (f : B → C) (number : ℕ) (rows : List (Row B)) → cells_of number (map (map_row f) rows) ≡ map f (cells_of number rows)
unfolding cells_of map_row
cells_of-map {B} {C} f number rows = of_row-map (map_row f) (map f) (λ (row : Row B). row.number) (λ (row : Row C). row.number) (λ (row : Row B). row.cells) (λ (row : Row C). row.cells) number rows (λ row. refl) (λ row. refl) refl

rows_without-map : {B C : Type 0} (f : B → C) (number : ℕ) (rows : List (Row B)) → rows_without number (map (map_row f) rows) ≡ map (map_row f) (rows_without number rows)
unfolding rows_without map_row
rows_without-map {B} {C} f number rows = without-map (map_row f) (λ (row : Row B). row.number) (λ (row : Row C). row.number) number rows (λ row. refl)

delete_number-map : {B C : Type 0} (f : B → C) (v : C → ℕ) (same_time : Bool) (number : ℕ) (t : Store B) → delete_number same_time v number (map_store f t) ≡ map_store f (delete_number same_time (through f v) number t)
unfolding delete_number map_store
delete_number-map {B} {C} f v same_time number t =
    let ranks = ranks_by (through f v) t.columns (cells_of number t.rows) in
    ap₂ (λ (rows : List (Row C)) (columns : List (Column C)). store rows t.next columns)
    (rows_without-map f number t.rows)
    (ap (λ (steps : List (List (Operation C))). operate same_time steps (map (map_column f) t.columns))
    (ap drops (ap (ranks_by v (map (map_column f) t.columns)) (cells_of-map f number t.rows) ∙ ranks_by-map f v t.columns (cells_of number t.rows)) ∙ drops-map f ranks)
    ∙ operate-map f same_time (drops ranks) t.columns)

delete_numbers-map : {B C : Type 0} (f : B → C) (v : C → ℕ) (same_time : Bool) (numbers : List ℕ) (t : Store B) → delete_numbers same_time v numbers (map_store f t) ≡ map_store f (delete_numbers same_time (through f v) numbers t)
unfolding delete_numbers
delete_numbers-map f v same_time [] t = refl
delete_numbers-map f v same_time (number ∷ numbers) t =
    ap (λ (u : Store _). delete_numbers same_time v numbers u) (delete_number-map f v same_time number t)
    ∙ delete_numbers-map f v same_time numbers (delete_number same_time (through f v) number t)

lay_store-map : {B C : Type 0} (f : B → C) (same_time : Bool) (column : ℕ) (t : Store B) → lay_store same_time column (map_store f t) ≡ map_store f (lay_store same_time column t)
unfolding lay_store map_store map_operation
lay_store-map {B} {C} f same_time column t =
    ap (λ (columns : List (Column C)). store (map (map_row f) t.rows) t.next columns)
    (ap (λ (steps : List (List (Operation C))). operate same_time steps (map (map_column f) t.columns)) (only-map f column (Lay ∷ []))
    ∙ operate-map f same_time (only column (Lay ∷ [])) t.columns)

pub stores_map : {B C : Type 0} (f : B → C) (v : C → ℕ) (same_time : Bool) (t : Store B) → MapsStore B C f v same_time t
unfolding map_store
stores_map f v same_time t =
    record {
      shelf = shelf_of-map f v t;
      places = λ cells. places_by-map f v t.columns cells;
      inserts = λ cells. insert_cells-map f v same_time cells t;
      deletes = λ number. delete_number-map f v same_time number t;
      deletes_each = λ numbers. delete_numbers-map f v same_time numbers t;
      lays = λ column. lay_store-map f same_time column t;
    }

-- ---- maps compose

map_tree-twice : {A B C : Type 0} (f : B → C) (g : A → B) (t : Tree A) → map_tree f (map_tree g t) ≡ map_tree (λ (a : A). f (g a)) t
unfolding map_tree
map_tree-twice f g leaf = refl
map_tree-twice f g (node l x r) = ap₂ (λ (a b : Tree _). node a (f (g x)) b) (map_tree-twice f g l) (map_tree-twice f g r)

abbrev column : {B : Type 0} → ℕ → Tree (Item B) → Column B
column most tree = record { tree = tree; most = most }

pub map_column-twice : {A B C : Type 0} (f : B → C) (g : A → B) (c : Column A) → map_column f (map_column g c) ≡ map_column (λ (a : A). f (g a)) c
unfolding map_column map_item
map_column-twice f g c = ap (column c.most) (map_tree-twice (map_item f) (map_item g) c.tree)

pub map_column-nothing : {B : Type 0} (c : Column B) → map_column (λ (b : B). b) c ≡ c
unfolding map_column
map_column-nothing c = ap (column c.most) (map_tree-same c.tree)

columns-twice : {A B C : Type 0} (f : B → C) (g : A → B) (cs : List (Column A)) → map (map_column f) (map (map_column g) cs) ≡ map (map_column (λ (a : A). f (g a))) cs
columns-twice {A} {B} {C} f g cs =
    map-map (map_column f) (map_column g) cs
    ∙ map-same (λ (c : Column A). map_column f (map_column g c)) (map_column (λ (a : A). f (g a))) cs (map_column-twice f g)

map_kept-twice : {A B C : Type 0} (f : B → C) (g : A → B) (row : Kept A) → map_kept f (map_kept g row) ≡ map_kept (λ (a : A). f (g a)) row
unfolding map_kept
map_kept-twice {A} {B} {C} f g row = ap (λ (bodies : List C). let r : Kept C = record { number = row.number; bodies = bodies; ranks = row.ranks } in r) (map-map f g row.bodies)

map_row-twice : {A B C : Type 0} (f : B → C) (g : A → B) (row : Row A) → map_row f (map_row g row) ≡ map_row (λ (a : A). f (g a)) row
unfolding map_row
map_row-twice {A} {B} {C} f g row = ap (λ (cells : List C). let r : Row C = record { number = row.number; cells = cells } in r) (map-map f g row.cells)

pub map_shelf-twice : {A B C : Type 0} (f : B → C) (g : A → B) (s : Shelf A) → map_shelf f (map_shelf g s) ≡ map_shelf (λ (a : A). f (g a)) s
unfolding map_shelf
map_shelf-twice {A} {B} {C} f g s =
    ap₂ (λ (kept : List (Kept C)) (columns : List (Column C)). shelf kept s.next columns)
    (map-map (map_kept f) (map_kept g) s.kept ∙ map-same (λ (row : Kept A). map_kept f (map_kept g row)) (map_kept (λ (a : A). f (g a))) s.kept (map_kept-twice f g))
    (columns-twice f g s.columns)

pub map_store-twice : {A B C : Type 0} (f : B → C) (g : A → B) (t : Store A) → map_store f (map_store g t) ≡ map_store (λ (a : A). f (g a)) t
unfolding map_store
map_store-twice {A} {B} {C} f g t =
    ap₂ (λ (rows : List (Row C)) (columns : List (Column C)). store rows t.next columns)
    (map-map (map_row f) (map_row g) t.rows ∙ map-same (λ (row : Row A). map_row f (map_row g row)) (map_row (λ (a : A). f (g a))) t.rows (map_row-twice f g))
    (columns-twice f g t.columns)

pub maps_compose : {A B C : Type 0} (f : B → C) (g : A → B) → MapsCompose A B C f g
maps_compose f g = record { shelves = map_shelf-twice f g; stores = map_store-twice f g }

-- ---- a map that changes no body

kept-nothing : {B : Type 0} (row : Kept B) → map_kept (λ (b : B). b) row ≡ row
unfolding map_kept
kept-nothing {B} row = ap (λ (bodies : List B). let r : Kept B = record { number = row.number; bodies = bodies; ranks = row.ranks } in r) (map-nothing (λ (b : B). b) row.bodies (λ b. refl))

row-nothing : {B : Type 0} (row : Row B) → map_row (λ (b : B). b) row ≡ row
unfolding map_row
row-nothing {B} row = ap (λ (cells : List B). let r : Row B = record { number = row.number; cells = cells } in r) (map-nothing (λ (b : B). b) row.cells (λ b. refl))

shelf-nothing : {B : Type 0} (s : Shelf B) → map_shelf (λ (b : B). b) s ≡ s
unfolding map_shelf
shelf-nothing {B} s =
    ap₂ (λ (kept : List (Kept B)) (columns : List (Column B)). shelf kept s.next columns)
    (map-nothing (map_kept (λ (b : B). b)) s.kept kept-nothing)
    (map-nothing (map_column (λ (b : B). b)) s.columns map_column-nothing)

store-nothing : {B : Type 0} (t : Store B) → map_store (λ (b : B). b) t ≡ t
unfolding map_store
store-nothing {B} t =
    ap₂ (λ (rows : List (Row B)) (columns : List (Column B)). store rows t.next columns)
    (map-nothing (map_row (λ (b : B). b)) t.rows row-nothing)
    (map-nothing (map_column (λ (b : B). b)) t.columns map_column-nothing)

pub maps_nothing : (B : Type 0) → MapsNothing B
maps_nothing B = record { shelves = shelf-nothing; stores = store-nothing }
