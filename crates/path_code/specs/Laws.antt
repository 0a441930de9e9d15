-- The codes of places rise in their order: the statements of the laws that this crate's functions without a body prove.
use Rattle.std.specs.Prelude.{◌≡◌, ◌↔◌, ℕ, ◌+◌, ◌^◌, ◌<◌, ◌≤◌, ◌&&◌, ◌==◌, nat_lt, nat_le, List, [], ◌∷◌, length, map, get_or}
use Rattle.tree_model.specs.declared.Place.{Place}
use Rattle.tree_model.specs.declared.Place.TheVariants.{Found, Gap}
use Rattle.tree_model.specs.Trees.{Tree, inorder, size, height, path, balanced, IsPlaceOf}
use Rattle.tree_model.specs.Places.{place, number, IsIncreasing, Compares}
use Rattle.tree_model.specs.Walks.{place_in}
use Rattle.path_code.specs.Codes.{code_of}
use Rattle.path_code.specs.Ways.{way}
use Rattle.path_code.specs.declared.paths.Path.{Path}

-- the code of a place of a tree
abbrev pub code_in : {A : Type 0} → Tree A → Place → ℕ
code_in t p = code_of (path t p)

-- in a tree whose ways have at most 63 steps, a place's code is below another's exactly where it stands before it
abbrev pub CodesRise : Type 0 → Type 0
CodesRise A = (t : Tree A) (p q : Place) → height t ≤ 63 → IsPlaceOf (size t) p → IsPlaceOf (size t) q → (number p < number q) ↔ (code_in t p < code_in t q)

-- so the code of an item lies strictly between those of the gaps beside it
abbrev pub GapsLieBetween : Type 0 → Type 0
GapsLieBetween A = (t : Tree A) (rank : ℕ) → height t ≤ 63 → rank < size t → (code_in t (Gap rank) < code_in t (Found rank)) × (code_in t (Found rank) < code_in t (Gap (rank + 1)))

-- in a balanced tree of items with increasing values, codes compare as values do
abbrev pub CodesCompare : Type 0 → Type 0
CodesCompare A = (v : A → ℕ) (items : List A) (bound rank : ℕ) (d : A) → IsIncreasing (map v items) → length items < 2 ^ 63 → rank < length items → Compares (v (get_or items rank d)) bound (code_in (balanced items) (Found rank)) (code_in (balanced items) (place (map v items) bound))

-- so the items within two bounds are those whose codes lie within the codes of the bounds' places
abbrev pub CodesSelect : Type 0 → Type 0
CodesSelect A = (v : A → ℕ) (items : List A) (low high rank : ℕ) (d : A) → IsIncreasing (map v items) → length items < 2 ^ 63 → rank < length items → ((low ≤ v (get_or items rank d)) × (v (get_or items rank d) ≤ high)) ↔ ((code_in (balanced items) (place (map v items) low) ≤ code_in (balanced items) (Found rank)) × (code_in (balanced items) (Found rank) ≤ code_in (balanced items) (place (map v items) high)))

-- in every tree of items with increasing values whose ways have at most 63 steps, codes compare as values do: an item's code stands to
-- the code of a bound's place as the item's value stands to the bound
abbrev pub TreeCodesCompare : Type 0 → Type 0
TreeCodesCompare A = (v : A → ℕ) (t : Tree A) (bound rank : ℕ) (d : A) → IsIncreasing (map v (inorder t)) → height t ≤ 63 → rank < size t → Compares (v (get_or (inorder t) rank d)) bound (code_in t (Found rank)) (code_in t (place_in v t bound))

-- each comparison of a value with a bound answers as that of their codes
pub record ComparesByCode (value bound code bound_code : ℕ) : Type 0 where
  pub less : nat_lt value bound ≡ nat_lt code bound_code
  pub at_most : nat_le value bound ≡ nat_le code bound_code
  pub equal : (value == bound) ≡ (code == bound_code)
  pub at_least : nat_le bound value ≡ nat_le bound_code code
  pub greater : nat_lt bound value ≡ nat_lt bound_code code

-- so a test of an item's value, by one bound or between two, selects it exactly where the same test of its code does
pub record SelectsByCode (A : Type 0) (v : A → ℕ) (t : Tree A) (value code : ℕ) : Type 0 where
  pub by_bound : (bound : ℕ) → ComparesByCode value bound code (code_in t (place_in v t bound))
  pub between : (low high : ℕ) → (nat_le low value && nat_le value high) ≡ (nat_le (code_in t (place_in v t low)) code && nat_le code (code_in t (place_in v t high)))

abbrev pub TreeCodesSelect : Type 0 → Type 0
TreeCodesSelect A = (v : A → ℕ) (t : Tree A) (rank : ℕ) (d : A) → IsIncreasing (map v (inorder t)) → height t ≤ 63 → rank < size t → SelectsByCode A v t (v (get_or (inorder t) rank d)) (code_in t (Found rank))

-- two places of a tree with one way are one
abbrev pub WaysTellPlaces : Type 0 → Type 0
WaysTellPlaces A = (t : Tree A) (p q : Place) → height t ≤ 63 → IsPlaceOf (size t) p → IsPlaceOf (size t) q → path t p ≡ path t q → p ≡ q

-- no two paths have one code
abbrev pub CodesTellPaths : Type 0
CodesTellPaths = (p q : Path) → code_of (way p) ≡ code_of (way q) → p ≡ q

-- a computed example: the codes of the items of a balanced tree of five
abbrev pub CodesOfFive : Type 0
CodesOfFive = map (λ rank. code_in (balanced {A = ℕ} (1 ∷ 2 ∷ 3 ∷ 4 ∷ 5 ∷ [])) (Found rank)) (0 ∷ 1 ∷ 2 ∷ 3 ∷ 4 ∷ []) ≡ 0x2000_0000_0000_0000 ∷ 0x4000_0000_0000_0000 ∷ 0x8000_0000_0000_0000 ∷ 0xa000_0000_0000_0000 ∷ 0xc000_0000_0000_0000 ∷ []
