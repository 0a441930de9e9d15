-- The entries whose codes are between two ends.
use Rattle.std.proofs.Common.{◌≡◌, ℕ, ◌+◌, suc, zero, ◌<◌, ◌≤◌, true, false, ◌&&◌, nat_le, max, List, [], ◌∷◌, refl, ap₂, ◌∙◌, arith, le-leb}
use Rattle.std.proofs.lemmas.Bool.{lt-leb}
use Rattle.tree_model.specs.Places.{below, one_if}
use Rattle.column_index.specs.declared.entry.Entry.{Entry}
use Rattle.column_index.specs.Entries.{codes_in, IsOrdered}
use Rattle.column_index.specs.Ranges.{range_of, IsRange, count_between}
use Rattle.column_index.proofs.Points.{below-length, before_code, from_code}

pub range_is : (low high first last end : ℕ) (es : List Entry) → first ≡ below low (codes_in es) → last ≡ below (high + 1) (codes_in es) → end ≡ max first last → (first, end) ≡ range_of low high (codes_in es)
unfolding range_of
range_is low high first last end es begins ends later =
    let pair : ℕ → ℕ → ℕ × ℕ = λ a b. (a, b) in ap₂ pair begins (later ∙ ap₂ max begins ends)

pub parts_of_range : (low high first last end : ℕ) (es : List Entry) → IsOrdered es → first ≡ below low (codes_in es) → last ≡ below (high + 1) (codes_in es) → end ≡ max first last → IsRange low high es first end
parts_of_range low high first last end es ordered begins ends later = record {
  order = omega arith;
  within = omega (arith, below-length low es, below-length (high + 1) es);
  before = λ k d from to. before_code low es k d ordered (omega arith);
  from = λ k d from to. from_code low es k d ordered (omega arith) (omega (arith, below-length low es, below-length (high + 1) es));
  to = λ k d from to. let under = before_code (high + 1) es k d ordered (omega arith) in omega arith;
  after = λ k d from to. let over = from_code (high + 1) es k d ordered (omega arith) to in omega arith;
}

-- ---- how many

counted : (low high : ℕ) (x : Entry) (xs : List Entry) → low ≤ x.enc → x.enc ≤ high → count_between low high (x ∷ xs) ≡ suc (count_between low high xs)
unfolding count_between one_if
counted low high x xs from to = rw (le-leb low x.enc from, le-leb x.enc high to) refl

passed_below : (low high : ℕ) (x : Entry) (xs : List Entry) → x.enc < low → count_between low high (x ∷ xs) ≡ count_between low high xs
unfolding count_between one_if
passed_below low high x xs under = rw (lt-leb low x.enc under) refl

passed_above : (low high : ℕ) (x : Entry) (xs : List Entry) → high < x.enc → count_between low high (x ∷ xs) ≡ count_between low high xs
unfolding count_between one_if
passed_above low high x xs over = elim (nat_le low x.enc) as (λ b. one_if (b && nat_le x.enc high) (count_between low high xs) ≡ count_between low high xs) [ true ↦ rw (lt-leb x.enc high over) refl | false ↦ refl ]

counted_nothing : (low high : ℕ) → count_between low high [] ≡ 0
unfolding count_between
counted_nothing low high = refl

pub count_of_range : (low high : ℕ) (es : List Entry) (first end : ℕ) → IsRange low high es first end → count_between low high es + first ≡ end
count_of_range low high [] first end r = omega (arith, r.order, r.within, counted_nothing low high)
count_of_range low high (x ∷ xs) zero zero r =
    let rest : IsRange low high xs zero zero = record {
      order = omega arith;
      within = omega arith;
      before = λ k d from to. absurd (omega arith);
      from = λ k d from to. absurd (omega arith);
      to = λ k d from to. absurd (omega arith);
      after = λ k d from to. r.after (suc k) d (omega arith) (omega arith);
    } in
    omega (arith, passed_above low high x xs (r.after zero x (omega arith) (omega arith)), count_of_range low high xs zero zero rest)
count_of_range low high (x ∷ xs) zero (suc end) r =
    let rest : IsRange low high xs zero end = record {
      order = omega arith;
      within = omega (arith, r.within);
      before = λ k d from to. absurd (omega arith);
      from = λ k d from to. r.from (suc k) d (omega arith) (omega arith);
      to = λ k d from to. r.to (suc k) d (omega arith) (omega arith);
      after = λ k d from to. r.after (suc k) d (omega arith) (omega arith);
    } in
    omega (arith, counted low high x xs (r.from zero x (omega arith) (omega arith)) (r.to zero x (omega arith) (omega arith)), count_of_range low high xs zero end rest)
count_of_range low high (x ∷ xs) (suc first) zero r = absurd (omega (arith, r.order))
count_of_range low high (x ∷ xs) (suc first) (suc end) r =
    let rest : IsRange low high xs first end = record {
      order = omega (arith, r.order);
      within = omega (arith, r.within);
      before = λ k d from to. r.before (suc k) d (omega arith) (omega arith);
      from = λ k d from to. r.from (suc k) d (omega arith) (omega arith);
      to = λ k d from to. r.to (suc k) d (omega arith) (omega arith);
      after = λ k d from to. r.after (suc k) d (omega arith) (omega arith);
    } in
    omega (arith, passed_below low high x xs (r.before zero x (omega arith) (omega arith)), count_of_range low high xs first end rest)
