-- The rows after a DELETE are those of other numbers.
use Rattle.std.proofs.Common.{◌≡◌, ℕ, ◌<◌, Bool, true, false, not, ◌&&◌, ◌||◌, cond, List, [], ◌∷◌, ◌++◌, map, filter, refl, ap, ap₂, ◌∙◌, sym, inl, inr, arith, eqb, eq-eqb, ne_eqb}
use Rattle.std.proofs.lemmas.Bool.{cases_eq}
use Rattle.tree_model.specs.Places.{holds, IsBelowAll, IsIncreasing}
use Rattle.table_model.specs.Stores.{Row, Store}
use Rattle.table_model.specs.Changes.{here_or, without, rows_without, delete_number, delete_numbers}
use Rattle.table_model.specs.Soundness.{numbers_of, Sound}
use Rattle.table_model.specs.StoreLaws.{DeletesThese}
use Rattle.table_model.proofs.Sound.{delete-sound}

-- ---- filters

filter_all : {A : Type 0} (test : A → Bool) (number_of : A → ℕ) (low : ℕ) (xs : List A) → ((x : A) → low < number_of x → test x ≡ true) → IsBelowAll low (map number_of xs) → filter test xs ≡ xs
unfolding IsBelowAll
filter_all test number_of low [] pass above = refl
filter_all test number_of low (x ∷ xs) pass above =
    ap (λ (b : Bool). cond b (x ∷ filter test xs) (filter test xs)) (pass x above.0)
    ∙ ap (λ (rest : List _). x ∷ rest) (filter_all test number_of low xs pass above.1)

filter-true : {A : Type 0} (test : A → Bool) (xs : List A) → ((x : A) → test x ≡ true) → filter test xs ≡ xs
filter-true test [] pass = refl
filter-true test (x ∷ xs) pass = ap (λ (b : Bool). cond b (x ∷ filter test xs) (filter test xs)) (pass x) ∙ ap (λ (rest : List _). x ∷ rest) (filter-true test xs pass)

both_tests : {A : Type 0} (b c : Bool) (second : A → Bool) (x : A) (rest done : List A) → second x ≡ c → filter second rest ≡ done → filter second (cond b (x ∷ rest) rest) ≡ cond (b && c) (x ∷ done) done
both_tests true c second x rest done here e = ap₂ (λ (a : Bool) (xs : List _). cond a (x ∷ xs) xs) here e
both_tests false c second x rest done here e = e

filter-both : {A : Type 0} (first second both : A → Bool) (xs : List A) → ((x : A) → both x ≡ (first x && second x)) → filter second (filter first xs) ≡ filter both xs
filter-both first second both [] each = refl
filter-both first second both (x ∷ xs) each =
    both_tests (first x) (second x) second x (filter first xs) (filter both xs) refl (filter-both first second both xs each)
    ∙ ap (λ (b : Bool). cond b (x ∷ filter both xs) (filter both xs)) (sym (each x))

-- ---- one row

abbrev other_than : {A : Type 0} → (A → ℕ) → ℕ → A → Bool
other_than number_of number x = not (eqb (number_of x) number)

pub without-filter : {A : Type 0} (number_of : A → ℕ) (number : ℕ) (xs : List A) → IsIncreasing (map number_of xs) → without number_of number xs ≡ filter (other_than number_of number) xs
unfolding without here_or IsIncreasing
without-filter number_of number [] up = refl
without-filter number_of number (x ∷ xs) up =
    let rest = without number_of number xs in
    let test = other_than number_of number in
    elim (cases_eq (number_of x) number) [
      | inl here ↦
          let e = eq-eqb (number_of x) number here in
          let others = filter_all test number_of (number_of x) xs (λ y lt. ap not (ne_eqb (number_of y) number (omega (arith, lt, here)))) up.0 in
          ap (λ (b : Bool). here_or b xs (x ∷ rest)) e
          ∙ sym others
          ∙ sym (ap (λ (b : Bool). cond (not b) (x ∷ filter test xs) (filter test xs)) e)
      | inr other ↦
          let e = ne_eqb (number_of x) number other in
          ap (λ (b : Bool). here_or b xs (x ∷ rest)) e
          ∙ ap (λ (ys : List _). x ∷ ys) (without-filter number_of number xs up.1)
          ∙ sym (ap (λ (b : Bool). cond (not b) (x ∷ filter test xs) (filter test xs)) e)
    ]

-- ---- all of them

below-front : (w : ℕ) (xs ys : List ℕ) → IsBelowAll w (xs ++ ys) → IsBelowAll w xs
unfolding IsBelowAll
below-front w [] ys h = tt
below-front w (x ∷ xs) ys h = (h.0, below-front w xs ys h.1)

pub rising-front : (xs ys : List ℕ) → IsIncreasing (xs ++ ys) → IsIncreasing xs
unfolding IsIncreasing
rising-front [] ys up = tt
rising-front (x ∷ xs) ys up = (below-front x xs ys up.0, rising-front xs ys up.1)

same-either-way : (a b : ℕ) → eqb a b ≡ eqb b a
same-either-way a b =
    elim (cases_eq a b) [
      | inl same ↦ eq-eqb a b same ∙ sym (eq-eqb b a (sym same))
      | inr other ↦ ne_eqb a b other ∙ sym (ne_eqb b a (λ e. other (sym e)))
    ]

neither-one : (a b : Bool) → not (a || b) ≡ (not a && not b)
neither-one true b = refl
neither-one false b = refl

not_among : (number x : ℕ) (numbers : List ℕ) → not (holds x (number ∷ numbers)) ≡ (not (eqb x number) && not (holds x numbers))
unfolding holds
not_among number x numbers = neither-one (eqb number x) (holds x numbers) ∙ ap (λ (a : Bool). not a && not (holds x numbers)) (same-either-way number x)

none_among : (x : ℕ) → not (holds x []) ≡ true
unfolding holds
none_among x = refl

abbrev others : {B : Type 0} → List ℕ → Row B → Bool
others numbers row = not (holds row.number numbers)

deleted_one : {B : Type 0} (v : B → ℕ) (same_time : Bool) (limit number : ℕ) (t : Store B) → Sound B v same_time limit t → (delete_number same_time v number t).rows ≡ filter (other_than (λ (row : Row B). row.number) number) t.rows
unfolding delete_number rows_without numbers_of
deleted_one {B} v same_time limit number t sound = without-filter (λ (row : Row B). row.number) number t.rows (rising-front (numbers_of t.rows) (t.next ∷ []) sound.numbered)

next_one : {B : Type 0} (v : B → ℕ) (same_time : Bool) (number : ℕ) (t : Store B) → (delete_number same_time v number t).next ≡ t.next
unfolding delete_number
next_one v same_time number t = refl

pub delete_takes_rows : {B : Type 0} (v : B → ℕ) (same_time : Bool) (limit : ℕ) (numbers : List ℕ) (t : Store B) → Sound B v same_time limit t → DeletesThese B v same_time numbers t
unfolding delete_numbers
delete_takes_rows {B} v same_time limit [] t sound = record { rows = sym (filter-true (others []) t.rows (λ row. none_among row.number)); next = refl }
delete_takes_rows {B} v same_time limit (number ∷ numbers) t sound =
    let rest = delete_takes_rows v same_time limit numbers (delete_number same_time v number t) (delete-sound v same_time limit t sound number) in
    record {
      rows = rest.rows
          ∙ ap (filter (others numbers)) (deleted_one v same_time limit number t sound)
          ∙ filter-both (other_than (λ (row : Row B). row.number) number) (others numbers) (others (number ∷ numbers)) t.rows (λ row. not_among number row.number numbers);
      next = rest.next ∙ next_one v same_time number t;
    }
