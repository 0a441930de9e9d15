-- What a change of one item leaves.
use Rattle.std.proofs.Common.{◌≡◌, ℕ, suc, zero, List, [], ◌∷◌, length, set, get_or, map, insert, refl, ap, sym, subst}
use Rattle.tree_model.specs.declared.Place.{Place}
use Rattle.tree_model.specs.declared.Place.TheVariants.{Found, Gap}
use Rattle.tree_model.specs.Places.{place, IsIncreasing}
use Rattle.tree_model.proofs.Ordered.{IsIncreasing-insert}
use Rattle.tree_model.specs.Items.{Item, new_item, one_more, map_item, values, change_at, add_item}

pub length-change_at : {A : Type 0} (f : A → A) (xs : List A) (rank : ℕ) → length (change_at f xs rank) ≡ length xs
unfolding change_at
length-change_at f [] rank = refl
length-change_at f (x ∷ xs) zero = refl
length-change_at f (x ∷ xs) (suc rank) = ap suc (length-change_at f xs rank)

-- a change is a write of the changed item
pub change_at-set : {A : Type 0} (f : A → A) (xs : List A) (rank : ℕ) (d : A) → change_at f xs rank ≡ set xs rank (f (get_or xs rank d))
unfolding change_at
change_at-set f [] rank d = refl
change_at-set f (x ∷ xs) zero d = refl
change_at-set f (x ∷ xs) (suc rank) d = ap (λ (rest : List _). x ∷ rest) (change_at-set f xs rank d)

-- what the change leaves of each item, it leaves of the list
pub map-change_at : {A B : Type 0} (g : A → B) (f : A → A) (same : (x : A) → g (f x) ≡ g x) (xs : List A) (rank : ℕ) → map g (change_at f xs rank) ≡ map g xs
unfolding change_at
map-change_at g f same [] rank = refl
map-change_at g f same (x ∷ xs) zero = ap (λ (y : _). y ∷ map g xs) (same x)
map-change_at g f same (x ∷ xs) (suc rank) = ap (λ (rest : List _). g x ∷ rest) (map-change_at g f same xs rank)

pub map-insert : {A B : Type 0} (g : A → B) (xs : List A) (rank : ℕ) (y : A) → map g (insert xs rank y) ≡ insert (map g xs) rank (g y)
map-insert g xs zero y = refl
map-insert g [] (suc rank) y = refl
map-insert g (x ∷ xs) (suc rank) y = ap (λ (rest : List _). g x ∷ rest) (map-insert g xs rank y)

-- a change that commutes with f, at the same rank of the mapped list
pub map-change_at_other : {A B : Type 0} (f : A → B) (g : A → A) (h : B → B) (same : (x : A) → f (g x) ≡ h (f x)) (xs : List A) (rank : ℕ) → change_at h (map f xs) rank ≡ map f (change_at g xs rank)
unfolding change_at
map-change_at_other f g h same [] rank = refl
map-change_at_other f g h same (x ∷ xs) zero = ap (λ (y : _). y ∷ map f xs) (sym (same x))
map-change_at_other f g h same (x ∷ xs) (suc rank) = ap (λ (rest : List _). f x ∷ rest) (map-change_at_other f g h same xs rank)

pub add_item-map : {B C : Type 0} (f : B → C) (p : Place) (b : B) (items : List (Item B)) → add_item p (f b) (map (map_item f) items) ≡ map (map_item f) (add_item p b items)
unfolding add_item map_item one_more new_item
add_item-map f (Found rank) b items = map-change_at_other (map_item f) one_more one_more (λ x. refl) items rank
add_item-map f (Gap rank) b items = sym (map-insert (map_item f) items rank (new_item b))

-- a found item keeps its value, and a new one brings its own
pub values-add_found : {B : Type 0} (v : B → ℕ) (rank : ℕ) (b : B) (items : List (Item B)) → values v (add_item (Found rank) b items) ≡ values v items
unfolding values add_item one_more
values-add_found {B} v rank b items = map-change_at (λ (item : Item B). v item.body) one_more (λ x. refl) items rank

pub values-add_gap : {B : Type 0} (v : B → ℕ) (rank : ℕ) (b : B) (items : List (Item B)) → values v (add_item (Gap rank) b items) ≡ insert (values v items) rank (v b)
unfolding values add_item new_item
values-add_gap {B} v rank b items = map-insert (λ (item : Item B). v item.body) items rank (new_item b)

pub IsIncreasing-add : {B : Type 0} (v : B → ℕ) (items : List (Item B)) (b : B) (p : Place) → place (values v items) (v b) ≡ p → IsIncreasing (values v items) → IsIncreasing (values v (add_item p b items))
IsIncreasing-add v items b (Found rank) e up = subst IsIncreasing (sym (values-add_found v rank b items)) up
IsIncreasing-add v items b (Gap rank) e up = subst IsIncreasing (sym (values-add_gap v rank b items)) (IsIncreasing-insert (values v items) (v b) rank up e)

pub IsIncreasing-add_item : {B : Type 0} (v : B → ℕ) (items : List (Item B)) (b : B) → IsIncreasing (values v items) → IsIncreasing (values v (add_item (place (values v items) (v b)) b items))
IsIncreasing-add_item v items b up = IsIncreasing-add v items b (place (values v items) (v b)) refl up
