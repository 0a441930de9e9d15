-- Nothing that is done to a table by rank looks at bodies.
use Rattle.std.proofs.Common.{◌≡◌, ℕ, suc, zero, Bool, List, [], ◌∷◌, map, refl, ap, ap₂, ◌∙◌, sym}
use Rattle.std.proofs.lemmas.List.{map-append}
use Rattle.tree_model.specs.declared.Place.{Place}
use Rattle.tree_model.specs.Columns.{Column, Operation, Add, Drop, Lay, map_column, map_operation}
use Rattle.tree_model.specs.Carried.{carried}
use Rattle.tree_model.proofs.Blind.{apply_all-map}
use Rattle.tree_model.proofs.Summed.{origins-map}
use Rattle.table_model.specs.Stores.{Kept, Shelf, map_kept, map_shelf}
use Rattle.table_model.specs.Steps.{operate, follow, kept_after, operated, adds, drops, only, rank_in, map_steps}
use Rattle.table_model.specs.Changes.{ranks_of, kept_without, with_kept, insert_row, shelf_without, delete_row, delete_rows, delete_steps, lay_column}
use Rattle.table_model.specs.ShelfLaws.{IsBlind}
use Rattle.table_model.proofs.Lists.{map-map, map-same, without-map, of_row-map}

-- ---- columns and ranks

pub operate-map : {B C : Type 0} (f : B → C) (same_time : Bool) (steps : List (List (Operation B))) (cs : List (Column B)) → operate same_time (map_steps f steps) (map (map_column f) cs) ≡ map (map_column f) (operate same_time steps cs)
unfolding operate map_steps
operate-map f same_time [] cs = refl
operate-map f same_time (operations ∷ more) [] = refl
operate-map f same_time (operations ∷ more) (c ∷ cs) = ap₂ (λ (d : Column _) (rest : List (Column _)). d ∷ rest) (apply_all-map f same_time operations c) (operate-map f same_time more cs)

pub follow-map : {B C : Type 0} (f : B → C) (same_time : Bool) (steps : List (List (Operation B))) (cs : List (Column B)) (ranks : List ℕ) → follow same_time (map_steps f steps) (map (map_column f) cs) ranks ≡ follow same_time steps cs ranks
unfolding follow map_steps
follow-map f same_time [] cs ranks = refl
follow-map f same_time (operations ∷ more) [] ranks = refl
follow-map f same_time (operations ∷ more) (c ∷ cs) [] = refl
follow-map f same_time (operations ∷ more) (c ∷ cs) (rank ∷ ranks) =
    ap₂ (λ (k : ℕ) (rest : List ℕ). k ∷ rest) (ap (λ from. carried from rank) (origins-map f same_time operations c)) (follow-map f same_time more cs ranks)

pub adds-map : {B C : Type 0} (f : B → C) (places : List Place) (bodies : List B) → adds places (map f bodies) ≡ map_steps f (adds places bodies)
unfolding adds map_steps map_operation
adds-map f [] bodies = refl
adds-map f (p ∷ places) [] = refl
adds-map f (p ∷ places) (b ∷ bodies) = ap (λ (rest : List (List (Operation _))). (Add p (f b) ∷ []) ∷ rest) (adds-map f places bodies)

pub drops-map : {B C : Type 0} (f : B → C) (ranks : List ℕ) → drops {B = C} ranks ≡ map_steps f (drops {B = B} ranks)
unfolding drops map_steps map_operation
drops-map f [] = refl
drops-map f (rank ∷ ranks) = ap (λ (rest : List (List (Operation _))). (Drop rank ∷ []) ∷ rest) (drops-map f ranks)

pub only-map : {B C : Type 0} (f : B → C) (column : ℕ) (operations : List (Operation B)) → only column (map (map_operation f) operations) ≡ map_steps f (only column operations)
unfolding only map_steps
only-map f zero operations = refl
only-map f (suc column) operations = ap (λ (rest : List (List (Operation _))). [] ∷ rest) (only-map f column operations)

-- ---- rows

kept-map : {B C : Type 0} (f : B → C) (same_time : Bool) (steps : List (List (Operation B))) (cs : List (Column B)) (row : Kept B) → kept_after same_time (map_steps f steps) (map (map_column f) cs) (map_kept f row) ≡ map_kept f (kept_after same_time steps cs row)
unfolding kept_after map_kept
kept-map {B} {C} f same_time steps cs row =
    ap (λ (ranks : List ℕ). let r : Kept C = record { number = row.number; bodies = map f row.bodies; ranks = ranks } in r) (follow-map f same_time steps cs row.ranks)

abbrev shelf : {B : Type 0} → List (Kept B) → ℕ → List (Column B) → Shelf B
shelf kept next columns = record { kept = kept; next = next; columns = columns }

pub operated-map : {B C : Type 0} (f : B → C) (same_time : Bool) (steps : List (List (Operation B))) (s : Shelf B) → operated same_time (map_steps f steps) (map_shelf f s) ≡ map_shelf f (operated same_time steps s)
unfolding operated map_shelf
operated-map {B} {C} f same_time steps s =
    let after = kept_after same_time (map_steps f steps) (map (map_column f) s.columns) in
    ap₂ (λ (kept : List (Kept C)) (columns : List (Column C)). shelf kept s.next columns)
    (map-map after (map_kept f) s.kept
    ∙ map-same (λ (row : Kept B). after (map_kept f row)) (λ (row : Kept B). map_kept f (kept_after same_time steps s.columns row)) s.kept (kept-map f same_time steps s.columns)
    ∙ sym (map-map (map_kept f) (kept_after same_time steps s.columns) s.kept))
    (operate-map f same_time steps s.columns)

with_kept-map : {B C : Type 0} (f : B → C) (ranks : List ℕ) (bodies : List B) (s : Shelf B) → with_kept ranks (map f bodies) (map_shelf f s) ≡ map_shelf f (with_kept ranks bodies s)
unfolding with_kept map_shelf map_kept
with_kept-map {B} {C} f ranks bodies s =
    ap (λ (kept : List (Kept C)). shelf kept (suc s.next) (map (map_column f) s.columns))
    (sym (map-append (map_kept f) s.kept (record { number = s.next; bodies = bodies; ranks = ranks } ∷ [])))

ranks_of-map : {B C : Type 0} (f : B → C) (number : ℕ) (kept : List (Kept B)) → ranks_of number (map (map_kept f) kept) ≡ ranks_of number kept
unfolding ranks_of map_kept
ranks_of-map {B} {C} f number kept = of_row-map (map_kept f) (λ (ranks : List ℕ). ranks) (λ (row : Kept B). row.number) (λ (row : Kept C). row.number) (λ (row : Kept B). row.ranks) (λ (row : Kept C). row.ranks) number kept (λ row. refl) (λ row. refl) refl

shelf_without-map : {B C : Type 0} (f : B → C) (number : ℕ) (s : Shelf B) → shelf_without number (map_shelf f s) ≡ map_shelf f (shelf_without number s)
unfolding shelf_without kept_without map_shelf map_kept
shelf_without-map {B} {C} f number s =
    ap (λ (kept : List (Kept C)). shelf kept s.next (map (map_column f) s.columns))
    (without-map (map_kept f) (λ (row : Kept B). row.number) (λ (row : Kept C). row.number) number s.kept (λ row. refl))

-- ---- the operations

insert_row-map : {B C : Type 0} (f : B → C) (same_time : Bool) (places : List Place) (bodies : List B) (s : Shelf B) → insert_row same_time places (map f bodies) (map_shelf f s) ≡ map_shelf f (insert_row same_time places bodies s)
unfolding insert_row
insert_row-map f same_time places bodies s =
    ap (λ (t : Shelf _). with_kept (map rank_in places) (map f bodies) t)
    (ap (λ (steps : List (List (Operation _))). operated same_time steps (map_shelf f s)) (adds-map f places bodies) ∙ operated-map f same_time (adds places bodies) s)
    ∙ with_kept-map f (map rank_in places) bodies (operated same_time (adds places bodies) s)

pub delete_row-map : {B C : Type 0} (f : B → C) (same_time : Bool) (number : ℕ) (s : Shelf B) → delete_row same_time number (map_shelf f s) ≡ map_shelf f (delete_row same_time number s)
unfolding delete_row map_shelf
delete_row-map f same_time number s =
    ap₂ (λ (steps : List (List (Operation _))) (t : Shelf _). operated same_time steps t)
    (ap drops (ranks_of-map f number s.kept) ∙ drops-map f (ranks_of number s.kept)) (shelf_without-map f number s)
    ∙ operated-map f same_time (drops (ranks_of number s.kept)) (shelf_without number s)

delete_rows-map : {B C : Type 0} (f : B → C) (same_time : Bool) (numbers : List ℕ) (s : Shelf B) → delete_rows same_time numbers (map_shelf f s) ≡ map_shelf f (delete_rows same_time numbers s)
unfolding delete_rows
delete_rows-map f same_time [] s = refl
delete_rows-map f same_time (number ∷ numbers) s =
    ap (λ (t : Shelf _). delete_rows same_time numbers t) (delete_row-map f same_time number s) ∙ delete_rows-map f same_time numbers (delete_row same_time number s)

delete_steps-map : {B C : Type 0} (f : B → C) (same_time : Bool) (numbers : List ℕ) (s : Shelf B) → delete_steps same_time numbers (map_shelf f s) ≡ map (map_steps f) (delete_steps same_time numbers s)
unfolding delete_steps map_shelf
delete_steps-map f same_time [] s = refl
delete_steps-map f same_time (number ∷ numbers) s =
    ap₂ (λ (steps : List (List (Operation _))) (rest : List (List (List (Operation _)))). steps ∷ rest)
    (ap drops (ranks_of-map f number s.kept) ∙ drops-map f (ranks_of number s.kept))
    (ap (λ (t : Shelf _). delete_steps same_time numbers t) (delete_row-map f same_time number s) ∙ delete_steps-map f same_time numbers (delete_row same_time number s))

lay_column-map : {B C : Type 0} (f : B → C) (same_time : Bool) (column : ℕ) (s : Shelf B) → lay_column same_time column (map_shelf f s) ≡ map_shelf f (lay_column same_time column s)
unfolding lay_column map_operation
lay_column-map f same_time column s =
    ap (λ (steps : List (List (Operation _))). operated same_time steps (map_shelf f s)) (only-map f column (Lay ∷ []))
    ∙ operated-map f same_time (only column (Lay ∷ [])) s

pub shelves_are_blind : {B C : Type 0} (f : B → C) (same_time : Bool) (s : Shelf B) → IsBlind B C f same_time s
shelves_are_blind f same_time s =
    record {
      inserts = λ places bodies. insert_row-map f same_time places bodies s;
      deletes = λ number. delete_row-map f same_time number s;
      deletes_each = λ numbers. delete_rows-map f same_time numbers s;
      delete_steps_are = λ numbers. delete_steps-map f same_time numbers s;
      lays = λ column. lay_column-map f same_time column s;
    }
