-- What a search by halving finds in an increasing list of codes, and in pairs of codes.
use Rattle.std.proofs.Common.{◌≡◌, ℕ, suc, zero, ◌<◌, ◌≤◌, true, false, List, [], ◌∷◌, length, get_or, Result, Ok, Err, refl, ap, ◌∙◌, sym, subst, inl, inr, arith, nat_cmp, MatchResult}
use Rattle.std.specs.Ordering.{ordering_index}
use Rattle.std.specs.List.Sorted.{IsBinarySearchResult}
use Rattle.std.proofs.lemmas.Bool.{cases_lt, cases_Bool}
use Rattle.std.proofs.lemmas.List.{length-map, get_or_default}
use Rattle.std.proofs.lemmas.List.Sorted.{searched}
use Rattle.std.proofs.Math.ListN.{get_or-map}
use Rattle.tree_model.specs.Places.{holds, below, IsIncreasing}
use Rattle.tree_model.proofs.Ordered.{IsBelowAll-at, held_at-below, holds-at}
use Rattle.path_code.specs.declared.moves.Recode.{Recode}
use Rattle.code_changes.specs.Changes.{new_code}
use Rattle.code_changes.specs.Normal.{olds}
use Rattle.code_changes.proofs.Pairs.{new_code-here, new_code-past}
use Rattle.code_changes.proofs.Orders.{IsIncreasing-rest, IsBelowAll-first}
use Rattle.code_changes.proofs.Becoming.{olds-cons, new_code-free}

-- an increasing list doesn't fall
pub rises : (xs : List ℕ) → IsIncreasing xs → (i j : ℕ) → i ≤ j → j < length xs → get_or xs i 0 ≤ get_or xs j 0
rises [] up i j le lt = absurd (omega arith)
rises (x ∷ xs) up zero zero le lt = omega arith
rises (x ∷ xs) up zero (suc j) le lt = let above = IsBelowAll-at x xs j 0 (omega arith) (IsBelowAll-first x xs up) in omega arith
rises (x ∷ xs) up (suc i) zero le lt = absurd (omega arith)
rises (x ∷ xs) up (suc i) (suc j) le lt = rises xs (IsIncreasing-rest x xs up) i j (omega arith) (omega arith)

-- a number between the smaller ones and the greater ones isn't one of them
between : (x : ℕ) (xs : List ℕ) (i : ℕ) → IsIncreasing xs → ((k : ℕ) → k < i → get_or xs k 0 < x) → ((k : ℕ) → i ≤ k → k < length xs → x < get_or xs k 0) → holds x xs ≡ false
between x xs i up low high =
    elim (cases_Bool (holds x xs)) [
      | inl held ↦
          let at = held_at-below x xs 0 up held in
          elim (cases_lt (below x xs) i) [
            | inl lt ↦ absurd (let less = low (below x xs) lt in omega (arith, at.1, less))
            | inr ge ↦ absurd (let more = high (below x xs) ge at.0 in omega (arith, at.1, more))
          ]
      | inr free ↦ free
    ]

-- a list of numbers: an answer tells whether the number is one of them
abbrev pub Held : ℕ → List ℕ → Result ℕ ℕ → Type 0
Held x xs r = MatchResult r (λ i. (i < length xs) × (get_or xs i 0 ≡ x) × (holds x xs ≡ true)) (λ i. holds x xs ≡ false)

pub held_by : (xs : List ℕ) (x : ℕ) (r : Result ℕ ℕ) → IsIncreasing xs → IsBinarySearchResult (λ y. nat_cmp y x) xs r → Held x xs r
held_by xs x (Ok i) up found =
    let at = searched xs x (Ok i) found (rises xs up) in
    (at.0, at.1, ap (λ (n : ℕ). holds n xs) (sym at.1) ∙ holds-at xs i 0 at.0)
held_by xs x (Err i) up found = let at = searched xs x (Err i) found (rises xs up) in between x xs i up at.1 at.2

-- ---- pairs, searched by their old codes

old_at : (moved : List Recode) (k : ℕ) (d : Recode) → get_or (olds moved) k d.old ≡ (get_or moved k d).old
unfolding olds
old_at moved k d = get_or-map (λ (pair : Recode). pair.old) moved k d

length-olds : (moved : List Recode) → length (olds moved) ≡ length moved
unfolding olds
length-olds moved = length-map moved (λ (pair : Recode). pair.old)

unfoldable pair_of : ℕ → Recode
pair_of old = record { old = old; new = 0 }

old_of : (old : ℕ) → (pair_of old).old ≡ old
unfolding pair_of
old_of old = refl

-- the same search among the old codes
pub by_olds : (moved : List Recode) (x : ℕ) (r : Result ℕ ℕ) → IsBinarySearchResult (λ (pair : Recode). nat_cmp pair.old x) moved r → IsBinarySearchResult (λ y. nat_cmp y x) (olds moved) r
unfolding pair_of
by_olds moved x (Ok i) found = λ d. ap (λ (n : ℕ). nat_cmp n x) (old_at moved i (pair_of d)) ∙ found (pair_of d)
by_olds moved x (Err i) found = λ rise.
    let parted = found (λ a b d le lt.
    let low = ap (λ (n : ℕ). ordering_index (nat_cmp n x)) (old_at moved a d) in
    let high = ap (λ (n : ℕ). ordering_index (nat_cmp n x)) (old_at moved b d) in
    let order = rise a b d.old le (omega (arith, lt, length-olds moved)) in
    omega (arith, low, high, order)) in (
      (λ k d le lt. ap (λ (n : ℕ). nat_cmp n x) (old_at moved k (pair_of d)) ∙ parted.0 k (pair_of d) le lt),
      (λ k d le lt. ap (λ (n : ℕ). nat_cmp n x) (old_at moved k (pair_of d)) ∙ parted.1 k (pair_of d) le (omega (arith, lt, length-olds moved))),
    )

pub new_code-at : (moved : List Recode) (x i : ℕ) (d : Recode) → IsIncreasing (olds moved) → i < length moved → (get_or moved i d).old ≡ x → (get_or moved i d).new ≡ new_code moved x
new_code-at [] x i d up lt is = absurd (omega arith)
new_code-at (pair ∷ moved) x zero d up lt is = sym (new_code-here pair moved x is)
new_code-at (pair ∷ moved) x (suc i) d up lt is =
    let rise : IsIncreasing (pair.old ∷ olds moved) = subst IsIncreasing (olds-cons pair moved) up in
    let above = IsBelowAll-at pair.old (olds moved) i d.old (omega (arith, lt, length-olds moved)) (IsBelowAll-first pair.old (olds moved) rise) in
    let at = old_at moved i d in
    new_code-at moved x i d (IsIncreasing-rest pair.old (olds moved) rise) (omega arith) is
    ∙ sym (new_code-past pair moved x (λ e. omega (arith, above, at, is, e)))

-- an answer tells the code after
abbrev pub FoundOld : ℕ → List Recode → Result ℕ ℕ → Type 0
FoundOld x moved r = MatchResult r (λ i. (d : Recode) → (get_or moved i d).new ≡ new_code moved x) (λ i. x ≡ new_code moved x)

pub found_by : (moved : List Recode) (x : ℕ) (r : Result ℕ ℕ) → IsIncreasing (olds moved) → IsBinarySearchResult (λ (pair : Recode). nat_cmp pair.old x) moved r → FoundOld x moved r
found_by moved x (Ok i) up found =
    let held = held_by (olds moved) x (Ok i) up (by_olds moved x (Ok i) found) in
    let within : i < length moved = omega (arith, held.0, length-olds moved) in
    λ d. new_code-at moved x i d up within (sym (old_at moved i d) ∙ get_or_default (olds moved) i d.old 0 held.0 ∙ held.1)
found_by moved x (Err i) up found = sym (new_code-free moved x (held_by (olds moved) x (Err i) up (by_olds moved x (Err i) found)))
