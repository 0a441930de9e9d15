-- Tables that differ by balancing alone behave the same.
use Rattle.std.proofs.Common.{◌≡◌, ℕ, suc, zero, ◌<◌, Bool, List, [], ◌∷◌, ◌++◌, length, map, get_or, drop, refl, ap, ap₂, ◌∙◌, sym, arith}
use Rattle.tree_model.specs.declared.Place.{Place}
use Rattle.tree_model.specs.Places.{below, place}
use Rattle.tree_model.specs.Trees.{balanced}
use Rattle.tree_model.specs.Items.{Item, values}
use Rattle.tree_model.specs.Columns.{Column, items_of, lay, Operation, Lay, apply, apply_all}
use Rattle.tree_model.specs.ColumnLaws.{SuitsMode}
use Rattle.tree_model.proofs.Ways.{length-inorder}
use Rattle.tree_model.proofs.Kept.{items-lay}
use Rattle.tree_model.proofs.Suits.{SuitsMode-apply}
use Rattle.tree_model.proofs.Unseen.{items-after_lay}
use Rattle.table_model.specs.Stores.{Row, Store, ranks_by}
use Rattle.table_model.specs.Steps.{operate, adds, drops, only, places_by}
use Rattle.table_model.specs.Changes.{cells_of, rows_without, insert_cells, delete_number, delete_numbers, lay_store}
use Rattle.table_model.specs.Soundness.{column_at, Sound, Same}
use Rattle.table_model.specs.StoreLaws.{AreSame, SameIsEquivalence}
use Rattle.table_model.proofs.Sound.{delete-sound}

-- ---- one column

lay-by_items : {B : Type 0} (c d : Column B) → items_of c ≡ items_of d → lay c ≡ lay d
unfolding lay items_of
lay-by_items {B} c d e =
    ap₂ (λ (items : List (Item B)) (n : ℕ). let l : Column B = record { tree = balanced items; most = n } in l) e
    (sym (length-inorder c.tree) ∙ ap length e ∙ length-inorder d.tree)

pub items-apply : {B : Type 0} (same_time : Bool) (operation : Operation B) (c d : Column B) → SuitsMode same_time c → SuitsMode same_time d → items_of c ≡ items_of d → items_of (apply same_time operation c) ≡ items_of (apply same_time operation d)
items-apply same_time operation c d suits_c suits_d e =
    sym (items-after_lay same_time operation c suits_c)
    ∙ ap (λ (l : Column _). items_of (apply same_time operation l)) (lay-by_items c d e)
    ∙ items-after_lay same_time operation d suits_d

-- ---- columns

items-apply_all : {B : Type 0} (same_time : Bool) (operations : List (Operation B)) (c d : Column B) → SuitsMode same_time c → SuitsMode same_time d → items_of c ≡ items_of d → items_of (apply_all same_time operations c) ≡ items_of (apply_all same_time operations d)
unfolding apply_all
items-apply_all same_time [] c d suits_c suits_d e = e
items-apply_all same_time (operation ∷ operations) c d suits_c suits_d e =
    items-apply_all same_time operations (apply same_time operation c) (apply same_time operation d)
    (SuitsMode-apply same_time operation c suits_c) (SuitsMode-apply same_time operation d suits_d)
    (items-apply same_time operation c d suits_c suits_d e)

same_first : {B : Type 0} (c d : Column B) (cs ds : List (Column B)) → map items_of (c ∷ cs) ≡ map items_of (d ∷ ds) → items_of c ≡ items_of d
same_first c d cs ds e = ap (λ (xs : List (List (Item _))). get_or xs 0 []) e

same_rest : {B : Type 0} (c d : Column B) (cs ds : List (Column B)) → map items_of (c ∷ cs) ≡ map items_of (d ∷ ds) → map items_of cs ≡ map items_of ds
same_rest c d cs ds e = ap (λ (xs : List (List (Item _))). drop 1 xs) e

same_none : {A B : Type 0} (d : Column B) (ds : List (Column B)) → map (items_of {B = B}) [] ≡ map items_of (d ∷ ds) → A
same_none d ds e = absurd (let n : 0 ≡ suc (length (map items_of ds)) = ap length e in omega (arith, n))

pub operate-same : {B : Type 0} (same_time : Bool) (steps : List (List (Operation B))) (cs ds : List (Column B)) → ((i : ℕ) → i < length cs → SuitsMode same_time (column_at cs i)) → ((i : ℕ) → i < length ds → SuitsMode same_time (column_at ds i)) → map items_of cs ≡ map items_of ds
    → map items_of (operate same_time steps cs) ≡ map items_of (operate same_time steps ds)
unfolding operate column_at
operate-same same_time [] cs ds suits_c suits_d e = e
operate-same same_time (operations ∷ more) [] [] suits_c suits_d e = refl
operate-same same_time (operations ∷ more) [] (d ∷ ds) suits_c suits_d e = same_none d ds e
operate-same same_time (operations ∷ more) (c ∷ cs) [] suits_c suits_d e = same_none c cs (sym e)
operate-same same_time (operations ∷ more) (c ∷ cs) (d ∷ ds) suits_c suits_d e =
    ap₂ (λ (items : List (Item _)) (rest : List (List (Item _))). items ∷ rest)
    (items-apply_all same_time operations c d (suits_c 0 (omega arith)) (suits_d 0 (omega arith)) (same_first c d cs ds e))
    (operate-same same_time more cs ds (λ i h. suits_c (suc i) (omega (arith, h))) (λ i h. suits_d (suc i) (omega (arith, h))) (same_rest c d cs ds e))

pub places_by-same : {B : Type 0} (v : B → ℕ) (cs ds : List (Column B)) (cells : List B) → map items_of cs ≡ map items_of ds → places_by v cs cells ≡ places_by v ds cells
unfolding places_by
places_by-same v [] [] cells e = refl
places_by-same v [] (d ∷ ds) cells e = same_none d ds e
places_by-same v (c ∷ cs) [] cells e = same_none c cs (sym e)
places_by-same v (c ∷ cs) (d ∷ ds) [] e = refl
places_by-same v (c ∷ cs) (d ∷ ds) (cell ∷ cells) e =
    ap₂ (λ (items : List (Item _)) (rest : List Place). place (values v items) (v cell) ∷ rest) (same_first c d cs ds e) (places_by-same v cs ds cells (same_rest c d cs ds e))

pub ranks_by-same : {B : Type 0} (v : B → ℕ) (cs ds : List (Column B)) (cells : List B) → map items_of cs ≡ map items_of ds → ranks_by v cs cells ≡ ranks_by v ds cells
unfolding ranks_by
ranks_by-same v [] [] cells e = refl
ranks_by-same v [] (d ∷ ds) cells e = same_none d ds e
ranks_by-same v (c ∷ cs) [] cells e = same_none c cs (sym e)
ranks_by-same v (c ∷ cs) (d ∷ ds) [] e = refl
ranks_by-same v (c ∷ cs) (d ∷ ds) (cell ∷ cells) e =
    ap₂ (λ (items : List (Item _)) (rest : List ℕ). below (v cell) (values v items) ∷ rest) (same_first c d cs ds e) (ranks_by-same v cs ds cells (same_rest c d cs ds e))

-- ---- tables

suits-all : {B : Type 0} (v : B → ℕ) (same_time : Bool) (limit : ℕ) (t : Store B) → Sound B v same_time limit t → (i : ℕ) → i < length t.columns → SuitsMode same_time (column_at t.columns i)
suits-all v same_time limit t sound i h = (sound.columns i h).suits

insert-same : {B : Type 0} (v : B → ℕ) (same_time : Bool) (limit : ℕ) (t u : Store B) → Sound B v same_time limit t → Sound B v same_time limit u → Same B t u → (cells : List B) → Same B (insert_cells same_time v cells t) (insert_cells same_time v cells u)
unfolding insert_cells
insert-same {B} v same_time limit t u sound_t sound_u same cells =
    record {
      rows = ap₂ (λ (rows : List (Row B)) (next : ℕ). let r : Row B = record { number = next; cells = cells } in rows ++ r ∷ []) same.rows same.next;
      next = ap suc same.next;
      items = operate-same same_time (adds (places_by v t.columns cells) cells) t.columns u.columns (suits-all v same_time limit t sound_t) (suits-all v same_time limit u sound_u) same.items
          ∙ ap (λ (places : List Place). map items_of (operate same_time (adds places cells) u.columns)) (places_by-same v t.columns u.columns cells same.items);
    }

pub delete-same : {B : Type 0} (v : B → ℕ) (same_time : Bool) (limit : ℕ) (t u : Store B) → Sound B v same_time limit t → Sound B v same_time limit u → Same B t u → (number : ℕ) → Same B (delete_number same_time v number t) (delete_number same_time v number u)
unfolding delete_number
delete-same {B} v same_time limit t u sound_t sound_u same number =
    let gone = cells_of number t.rows in
    record {
      rows = ap (rows_without number) same.rows;
      next = same.next;
      items = operate-same same_time (drops (ranks_by v t.columns gone)) t.columns u.columns (suits-all v same_time limit t sound_t) (suits-all v same_time limit u sound_u) same.items
          ∙ ap (λ (ranks : List ℕ). map items_of (operate same_time (drops ranks) u.columns))
          (ranks_by-same v t.columns u.columns gone same.items ∙ ap (λ (rows : List (Row B)). ranks_by v u.columns (cells_of number rows)) same.rows);
    }

deletes-same : {B : Type 0} (v : B → ℕ) (same_time : Bool) (limit : ℕ) (t u : Store B) → Sound B v same_time limit t → Sound B v same_time limit u → Same B t u → (numbers : List ℕ) → Same B (delete_numbers same_time v numbers t) (delete_numbers same_time v numbers u)
unfolding delete_numbers
deletes-same v same_time limit t u sound_t sound_u same [] = same
deletes-same v same_time limit t u sound_t sound_u same (number ∷ numbers) =
    deletes-same v same_time limit (delete_number same_time v number t) (delete_number same_time v number u)
    (delete-sound v same_time limit t sound_t number) (delete-sound v same_time limit u sound_u number)
    (delete-same v same_time limit t u sound_t sound_u same number) numbers

items-laid : {B : Type 0} (same_time : Bool) (column : ℕ) (cs : List (Column B)) → map items_of (operate same_time (only column (Lay ∷ [])) cs) ≡ map items_of cs
unfolding operate only apply apply_all
items-laid same_time zero [] = refl
items-laid same_time (suc column) [] = refl
items-laid same_time zero (c ∷ cs) = ap (λ (items : List (Item _)). items ∷ map items_of cs) (items-lay c)
items-laid same_time (suc column) (c ∷ cs) = ap (λ (rest : List (List (Item _))). items_of c ∷ rest) (items-laid same_time column cs)

lay-same : {B : Type 0} (same_time : Bool) (column : ℕ) (t u : Store B) → Same B t u → Same B (lay_store same_time column t) (lay_store same_time column u)
unfolding lay_store
lay-same same_time column t u same =
    record { rows = same.rows; next = same.next; items = items-laid same_time column t.columns ∙ same.items ∙ sym (items-laid same_time column u.columns) }

pub same_behaves : {B : Type 0} (v : B → ℕ) (same_time : Bool) (limit : ℕ) (t u : Store B) → Sound B v same_time limit t → Sound B v same_time limit u → Same B t u → AreSame B v same_time t u
same_behaves v same_time limit t u sound_t sound_u same =
    record {
      places = λ cells. places_by-same v t.columns u.columns cells same.items;
      ranks = λ cells. ranks_by-same v t.columns u.columns cells same.items;
      inserts = insert-same v same_time limit t u sound_t sound_u same;
      deletes = delete-same v same_time limit t u sound_t sound_u same;
      deletes_each = deletes-same v same_time limit t u sound_t sound_u same;
      lays = λ column. lay-same same_time column t u same;
    }

laid-same : {B : Type 0} (same_time : Bool) (column : ℕ) (t : Store B) → Same B (lay_store same_time column t) t
unfolding lay_store
laid-same same_time column t = record { rows = refl; next = refl; items = items-laid same_time column t.columns }

pub same_is_equivalence : (B : Type 0) → SameIsEquivalence B
same_is_equivalence B =
    record {
      laid = laid-same;
      reflexive = λ t. record { rows = refl; next = refl; items = refl };
      symmetric = λ t u same. record { rows = sym same.rows; next = sym same.next; items = sym same.items };
      transitive = λ t u w one two. record { rows = one.rows ∙ two.rows; next = one.next ∙ two.next; items = one.items ∙ two.items };
    }
