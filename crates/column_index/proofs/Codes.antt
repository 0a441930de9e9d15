-- The new code of one that moved.
use Rattle.std.proofs.Common.{◌≡◌, ◌≢◌, ℕ, ◌+◌, suc, zero, ◌<◌, ◌≤◌, List, [], ◌∷◌, length, map, drop, get_or, refl, ◌∙◌, arith, inl, inr, eq-eqb, ne_eqb, lt-ltb, le-ltb}
use Rattle.std.proofs.lemmas.Bool.{cases_lt}
use Rattle.path_code.specs.declared.moves.Recode.{Recode}
use Rattle.tree_model.specs.Places.{below, one_if, IsBelowAll, IsIncreasing}
use Rattle.code_changes.specs.Changes.{new_code, new_if}
use Rattle.column_index.specs.Fronts.{BeginFrom}

-- the old code of a pair
abbrev pub old_of : Recode → ℕ
old_of pair = pair.old

pub new_code-nothing : (code : ℕ) → new_code [] code ≡ code
unfolding new_code
new_code-nothing code = refl

new_code-here : (pair : Recode) (moved : List Recode) (code : ℕ) → pair.old ≡ code → new_code (pair ∷ moved) code ≡ pair.new
unfolding new_code new_if
new_code-here pair moved code same = rw (eq-eqb pair.old code same) refl

pub new_code-past : (pair : Recode) (moved : List Recode) (code : ℕ) → pair.old ≢ code → new_code (pair ∷ moved) code ≡ new_code moved code
unfolding new_code new_if
new_code-past pair moved code other = rw (ne_eqb pair.old code other) refl

-- a code below all old ones stays
pub new_code-under : (moved : List Recode) (code : ℕ) → IsBelowAll code (map (λ pair. pair.old) moved) → new_code moved code ≡ code
unfolding IsBelowAll
new_code-under [] code under = new_code-nothing code
new_code-under (pair ∷ moved) code under = new_code-past pair moved code (λ f. let lt = under.0 in omega arith) ∙ new_code-under moved code under.1

IsBelowAll-lower : (v w : ℕ) (xs : List ℕ) → v ≤ w → IsBelowAll w xs → IsBelowAll v xs
unfolding IsBelowAll
IsBelowAll-lower v w [] le h = tt
IsBelowAll-lower v w (x ∷ xs) le h = (let lt = h.0 in omega arith, IsBelowAll-lower v w xs le h.1)

-- a code below the first of increasing old ones stays
pub new_code-before : (pair : Recode) (moved : List Recode) (code : ℕ) → IsIncreasing (map (λ pair. pair.old) (pair ∷ moved)) → code < pair.old → new_code (pair ∷ moved) code ≡ code
unfolding IsIncreasing IsBelowAll
new_code-before pair moved code up lt = new_code-under (pair ∷ moved) code (lt, IsBelowAll-lower code pair.old (map (λ pair. pair.old) moved) (omega arith) up.0)

below_old : (v : ℕ) (moved : List Recode) (i : ℕ) (d : Recode) → IsBelowAll v (map (λ pair. pair.old) moved) → i < length moved → v < (get_or moved i d).old
unfolding IsBelowAll
below_old v [] i d above lt = absurd (omega arith)
below_old v (pair ∷ moved) zero d above lt = above.0
below_old v (pair ∷ moved) (suc i) d above lt = below_old v moved i d above.1 (omega arith)

-- the old code of each pair becomes its new one
pub new_code-at : (moved : List Recode) (i : ℕ) (d : Recode) → IsIncreasing (map (λ pair. pair.old) moved) → i < length moved → new_code moved (get_or moved i d).old ≡ (get_or moved i d).new
unfolding IsIncreasing
new_code-at [] i d up lt = absurd (omega arith)
new_code-at (pair ∷ moved) zero d up lt = new_code-here pair moved pair.old refl
new_code-at (pair ∷ moved) (suc i) d up lt =
    new_code-past pair moved (get_or moved i d).old (λ f. let above = below_old pair.old moved i d up.0 (omega arith) in omega arith) ∙ new_code-at moved i d up.1 (omega arith)

pub IsIncreasing-drop : (moved : List Recode) (i : ℕ) → IsIncreasing (map (λ pair. pair.old) moved) → IsIncreasing (map (λ pair. pair.old) (drop i moved))
unfolding IsIncreasing
IsIncreasing-drop moved zero up = up
IsIncreasing-drop [] (suc i) up = up
IsIncreasing-drop (pair ∷ moved) (suc i) up = IsIncreasing-drop moved i up.1

-- ---- where codes begin

pub below-more : (c d : ℕ) (codes : List ℕ) → c ≤ d → below c codes ≤ below d codes
unfolding below one_if
below-more c d [] le = omega arith
below-more c d (x ∷ xs) le =
    elim (cases_lt x c) [
      | inl lt ↦ rw (lt-ltb x c lt, lt-ltb x d (omega arith)) (omega (arith, below-more c d xs le))
      | inr ge ↦ rw (le-ltb x c ge) (let more = below-more c d xs le in elim (cases_lt x d) [
        | inl lt ↦ rw (lt-ltb x d lt) (omega arith)
        | inr past ↦ rw (le-ltb x d past) more
      ])
    ]

pub BeginFrom-first : (place : ℕ) (codes : List ℕ) (pair : Recode) (moved : List Recode) → BeginFrom place codes (pair ∷ moved) → place ≤ below pair.old codes
unfolding BeginFrom
BeginFrom-first place codes pair moved h = h.0

pub BeginFrom-zero : (codes : List ℕ) (moved : List Recode) → BeginFrom 0 codes moved
unfolding BeginFrom
BeginFrom-zero codes [] = tt
BeginFrom-zero codes (pair ∷ moved) = (omega arith, BeginFrom-zero codes moved)

begin_after : (v : ℕ) (codes : List ℕ) (moved : List Recode) → IsBelowAll v (map (λ pair. pair.old) moved) → BeginFrom (below (v + 1) codes) codes moved
unfolding BeginFrom IsBelowAll
begin_after v codes [] above = tt
begin_after v codes (pair ∷ moved) above = (let lt = above.0 in below-more (v + 1) pair.old codes (omega arith), begin_after v codes moved above.1)

pub BeginFrom-next : (codes : List ℕ) (pair : Recode) (moved : List Recode) → IsIncreasing (map (λ pair. pair.old) (pair ∷ moved)) → BeginFrom (below (pair.old + 1) codes) codes moved
unfolding IsIncreasing
BeginFrom-next codes pair moved up = begin_after pair.old codes moved up.0
