-- What the definitions of trees and places give: the statements of the laws that this crate's functions without a body prove.
use Rattle.std.specs.Prelude.{◌≡◌, ℕ, ◌/◌, ◌^◌, ◌<◌, ◌≤◌, List, ◌∷◌, ◌++◌, length, get_or, map, insert}
use Rattle.tree_model.specs.Items.{Item, map_item, values, add_item}
use Rattle.tree_model.specs.declared.Place.{Place}
use Rattle.tree_model.specs.declared.Place.TheVariants.{Found, Gap}
use Rattle.tree_model.specs.Trees.{Tree, node, inorder, size, height, path, balanced, IsPlaceOf}
use Rattle.tree_model.specs.Places.{place, number, IsIncreasing, Compares}

-- the balanced tree of a list has its items in order
abbrev pub KeepsItems : Type 0 → Type 0
KeepsItems A = (xs : List A) → inorder (balanced xs) ≡ xs

-- its root is the item that has half of the items, rounded down, before it, and its sides are the balanced trees of the rest
abbrev pub HalvesAtRoot : Type 0 → Type 0
HalvesAtRoot A = (xs : List A) (x : A) (ys : List A) → length xs ≡ length (xs ++ x ∷ ys) / 2 → balanced (xs ++ x ∷ ys) ≡ node (balanced xs) x (balanced ys)

-- no way is longer than the height, and the way to some gap is as long
pub record IsLongestWay (A : Type 0) (t : Tree A) (longest : ℕ) : Type 0 where
  pub none_longer : (p : Place) → length (path t p) ≤ longest
  pub reached_at : ℕ
  pub within : reached_at ≤ size t
  pub reached : length (path t (Gap reached_at)) ≡ longest

abbrev pub HeightIsLongestWay : Type 0 → Type 0
HeightIsLongestWay A = (t : Tree A) → IsLongestWay A t (height t)

-- fewer than 2 ^ k items: the way to an item passes fewer than k others, and the way to a gap at most k
pub record IsShallow (A : Type 0) (xs : List A) (k : ℕ) : Type 0 where
  pub items : (rank : ℕ) → rank < length xs → length (path (balanced xs) (Found rank)) < k
  pub gaps : (rank : ℕ) → length (path (balanced xs) (Gap rank)) ≤ k

abbrev pub BalancedIsShallow : Type 0 → Type 0
BalancedIsShallow A = (xs : List A) (k : ℕ) → length xs < 2 ^ k → IsShallow A xs k

-- the items of an increasing list stand to a value as their places stand to its place
abbrev pub PlaceCompares : Type 0
PlaceCompares = (xs : List ℕ) (v rank d : ℕ) → IsIncreasing xs → rank < length xs → Compares (get_or xs rank d) v (number (Found rank)) (number (place xs v))

-- the place of a value is a place of the list
abbrev pub PlaceIsWithin : Type 0
PlaceIsWithin = (xs : List ℕ) (v : ℕ) → IsIncreasing xs → IsPlaceOf (length xs) (place xs v)

-- a value put in at its gap leaves the list increasing
abbrev pub GapKeepsOrder : Type 0
GapKeepsOrder = (xs : List ℕ) (v rank : ℕ) → IsIncreasing xs → place xs v ≡ Gap rank → IsIncreasing (insert xs rank v)

-- one row more at the place of its value leaves the values increasing
abbrev pub AddKeepsOrder : Type 0 → Type 0
AddKeepsOrder B = (v : B → ℕ) (items : List (Item B)) (b : B) → IsIncreasing (values v items) → IsIncreasing (values v (add_item (place (values v items) (v b)) b items))

-- an operation by place doesn't look at bodies: on other bodies it does the same
abbrev pub AddIsBlind : Type 0 → Type 0 → Type 0
AddIsBlind B C = (f : B → C) (p : Place) (b : B) (items : List (Item B)) → add_item p (f b) (map (map_item f) items) ≡ map (map_item f) (add_item p b items)
