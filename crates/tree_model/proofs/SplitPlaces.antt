-- The place of a value in an increasing list with an item in the middle: among those before it, at it, or among those after it.
use Rattle.std.proofs.Common.{◌≡◌, ℕ, suc, ◌+◌, ◌-◌, ◌*◌, ◌<◌, Bool, true, false, ltb, eqb, ◌||◌, List, [], ◌∷◌, ◌++◌, length, refl, ap, ap₂, ◌∙◌, arith, lt-ltb, ne_eqb, length-append}
use Rattle.std.proofs.lemmas.List.{get_or_at}
use Rattle.tree_model.specs.declared.Place.{Place}
use Rattle.tree_model.specs.declared.Place.TheVariants.{Found, Gap}
use Rattle.tree_model.specs.Trees.{past}
use Rattle.tree_model.specs.Places.{one_if, below, holds, placed, place, IsBelowAll, IsIncreasing, number}
use Rattle.tree_model.proofs.Ordered.{IsBelowAll-le, below-none, holds-none, place-IsFound}

pub IsBelowAll-before : (v : ℕ) (xs ys : List ℕ) → IsBelowAll v (xs ++ ys) → IsBelowAll v xs
unfolding IsBelowAll
IsBelowAll-before v [] ys h = tt
IsBelowAll-before v (x ∷ xs) ys h = (h.0, IsBelowAll-before v xs ys h.1)

pub IsIncreasing-before : (xs ys : List ℕ) → IsIncreasing (xs ++ ys) → IsIncreasing xs
unfolding IsIncreasing
IsIncreasing-before [] ys up = tt
IsIncreasing-before (x ∷ xs) ys up = (IsBelowAll-before x xs ys up.0, IsIncreasing-before xs ys up.1)

pub IsIncreasing-after : (xs : List ℕ) (m : ℕ) (ys : List ℕ) → IsIncreasing (xs ++ m ∷ ys) → IsIncreasing ys
unfolding IsIncreasing
IsIncreasing-after [] m ys up = up.1
IsIncreasing-after (x ∷ xs) m ys up = IsIncreasing-after xs m ys up.1

pub lt-middle : (x : ℕ) (xs : List ℕ) (m : ℕ) (ys : List ℕ) → IsBelowAll x (xs ++ m ∷ ys) → x < m
unfolding IsBelowAll
lt-middle x [] m ys h = h.0
lt-middle x (y ∷ xs) m ys h = lt-middle x xs m ys h.1

below_all-from : (v m : ℕ) (ys : List ℕ) → v < m → IsIncreasing (m ∷ ys) → IsBelowAll v (m ∷ ys)
unfolding IsBelowAll IsIncreasing
below_all-from v m ys lt up = (lt, IsBelowAll-le m v ys (omega arith) up.0)

below-before : (v : ℕ) (xs : List ℕ) (m : ℕ) (ys : List ℕ) → v < m → IsIncreasing (xs ++ m ∷ ys) → below v (xs ++ m ∷ ys) ≡ below v xs
unfolding below IsIncreasing
below-before v [] m ys lt up = below-none v (m ∷ ys) (below_all-from v m ys lt up)
below-before v (x ∷ xs) m ys lt up = ap (one_if (ltb x v)) (below-before v xs m ys lt up.1)

holds-before : (v : ℕ) (xs : List ℕ) (m : ℕ) (ys : List ℕ) → v < m → IsIncreasing (xs ++ m ∷ ys) → holds v (xs ++ m ∷ ys) ≡ holds v xs
unfolding holds IsIncreasing
holds-before v [] m ys lt up = holds-none v (m ∷ ys) (below_all-from v m ys lt up)
holds-before v (x ∷ xs) m ys lt up = ap (λ (b : Bool). eqb x v || b) (holds-before v xs m ys lt up.1)

below-after : (v : ℕ) (xs : List ℕ) (m : ℕ) (ys : List ℕ) → m < v → IsIncreasing (xs ++ m ∷ ys) → below v (xs ++ m ∷ ys) ≡ suc (length xs) + below v ys
unfolding below one_if IsIncreasing
below-after v [] m ys lt up = let e : ltb m v ≡ true = lt-ltb m v lt in rw e (omega arith)
below-after v (x ∷ xs) m ys lt up =
    let e : ltb x v ≡ true = lt-ltb x v (omega (arith, lt-middle x xs m ys up.0)) in
    let ih = below-after v xs m ys lt up.1 in
    rw e (omega arith)

holds-after : (v : ℕ) (xs : List ℕ) (m : ℕ) (ys : List ℕ) → m < v → IsIncreasing (xs ++ m ∷ ys) → holds v (xs ++ m ∷ ys) ≡ holds v ys
unfolding holds IsIncreasing
holds-after v [] m ys lt up = let e : eqb m v ≡ false = ne_eqb m v (omega arith) in rw e refl
holds-after v (x ∷ xs) m ys lt up =
    let e : eqb x v ≡ false = ne_eqb x v (omega (arith, lt-middle x xs m ys up.0)) in
    rw e (holds-after v xs m ys lt up.1)

-- a place among the items after the first n, as it is called among all of them
unfoldable pub after : ℕ → Place → Place
after n (Found rank) = Found (n + rank)
after n (Gap rank) = Gap (n + rank)

after-placed : (n k : ℕ) (b : Bool) → placed b (n + k) ≡ after n (placed b k)
unfolding placed after
after-placed n k true = refl
after-placed n k false = refl

pub place-before : (v : ℕ) (xs : List ℕ) (m : ℕ) (ys : List ℕ) → v < m → IsIncreasing (xs ++ m ∷ ys) → place (xs ++ m ∷ ys) v ≡ place xs v
unfolding place
place-before v xs m ys lt up = ap₂ placed (holds-before v xs m ys lt up) (below-before v xs m ys lt up)

pub place-after : (v : ℕ) (xs : List ℕ) (m : ℕ) (ys : List ℕ) → m < v → IsIncreasing (xs ++ m ∷ ys) → place (xs ++ m ∷ ys) v ≡ after (suc (length xs)) (place ys v)
unfolding place
place-after v xs m ys lt up =
    ap₂ placed (holds-after v xs m ys lt up) (below-after v xs m ys lt up) ∙ after-placed (suc (length xs)) (below v ys) (holds v ys)

pub place-middle : (v : ℕ) (xs : List ℕ) (m : ℕ) (ys : List ℕ) → m ≡ v → IsIncreasing (xs ++ m ∷ ys) → place (xs ++ m ∷ ys) v ≡ Found (length xs)
place-middle v xs m ys e up =
    place-IsFound (xs ++ m ∷ ys) v (length xs) 0 up (omega (arith, length-append xs (m ∷ ys))) (get_or_at xs m ys 0 (length xs) refl ∙ e)

pub past-after : (n : ℕ) (p : Place) → past n (after n p) ≡ p
unfolding past after
past-after n (Found rank) = let e : n + rank - n ≡ rank = omega arith in ap Found e
past-after n (Gap rank) = let e : n + rank - n ≡ rank = omega arith in ap Gap e

pub number-after : (n : ℕ) (p : Place) → number (after n p) ≡ 2 * n + number p
unfolding number after
number-after n (Found rank) = omega arith
number-after n (Gap rank) = omega arith
