-- The first least one of some numbers, found by one look at each.
use Rattle.std.proofs.Common.{◌≡◌, ℕ, suc, ◌+◌, ◌<◌, ◌≤◌, List, [], ◌∷◌, length, map, get_or, refl, ap, ◌∙◌, sym, inl, inr, arith}
use Rattle.std.proofs.lemmas.Bool.{cases_lt}
use Rattle.std.proofs.lemmas.List.{length-map, get_or-map}
use Rattle.mope_base.specs.declared.body.Body.{Body}
use Rattle.table_model.specs.Stores.{Shelf}
use Rattle.sql_plan.specs.declared.bounds.Bound.{Bound}
use Rattle.sql_plan.specs.Bounds.{IsFirstLeast}
use Rattle.sql_plan.specs.Plans.{passing, passing_counts}

pub counts-length : (s : Shelf Body) (bounds : List Bound) → length (passing_counts s bounds) ≡ length bounds
unfolding passing_counts
counts-length s bounds = length-map bounds (λ (b : Bound). length (passing s (b ∷ [])))

pub counts-at : (s : Shelf Body) (bounds : List Bound) (place : ℕ) (d : Bound) → place < length bounds → length (passing s (get_or bounds place d ∷ [])) ≡ get_or (passing_counts s bounds) place 0
unfolding passing_counts
counts-at s bounds place d lt = sym (get_or-map (λ (b : Bound). length (passing s (b ∷ []))) bounds place d 0 lt)

-- of the numbers up to a place
pub record Best (counts : List ℕ) (upto best fewest : ℕ) : Type 0 where
  pub inside : best < upto
  pub count : fewest ≡ get_or counts best 0
  pub before : (earlier : ℕ) → earlier < best → fewest < get_or counts earlier 0
  pub least : (other : ℕ) → other < upto → fewest ≤ get_or counts other 0

pub best-first : (counts : List ℕ) (fewest : ℕ) → fewest ≡ get_or counts 0 0 → Best counts 1 0 fewest
best-first counts fewest is = record {
  inside = omega arith;
  count = is;
  before = λ earlier lt. absurd (omega arith);
  least = λ other lt. let first : other ≡ 0 = omega arith in rw first (omega arith);
}

pub best-stays : (counts : List ℕ) (upto best fewest count : ℕ) → Best counts upto best fewest → count ≡ get_or counts upto 0 → fewest ≤ count → Best counts (upto + 1) best fewest
best-stays counts upto best fewest count b is more = record {
  inside = omega (arith, b.inside);
  count = b.count;
  before = b.before;
  least = λ other lt. elim (cases_lt other upto) [
    | inl earlier ↦ b.least other earlier
    | inr here ↦ let same : other ≡ upto = omega arith in rw same (omega arith)
  ];
}

pub best-moves : (counts : List ℕ) (upto best fewest count : ℕ) → Best counts upto best fewest → count ≡ get_or counts upto 0 → count < fewest → Best counts (upto + 1) upto count
best-moves counts upto best fewest count b is fewer = record {
  inside = omega arith;
  count = is;
  before = λ earlier lt. let old = b.least earlier lt in omega arith;
  least = λ other lt. elim (cases_lt other upto) [
    | inl earlier ↦ let old = b.least other earlier in omega arith
    | inr here ↦ let same : other ≡ upto = omega arith in rw same (omega arith)
  ];
}

pub best-all : (counts : List ℕ) (upto best fewest : ℕ) → Best counts upto best fewest → upto ≡ length counts → IsFirstLeast counts best
best-all counts upto best fewest b all = record {
  within = omega (arith, b.inside);
  before = λ earlier lt. let old = b.before earlier lt in omega (arith, b.count);
  least = λ other lt. let old = b.least other (omega arith) in omega (arith, b.count);
}

pub moved : (counts : List ℕ) (upto a f best fewest : ℕ) → best ≡ a → fewest ≡ f → Best counts upto a f → Best counts upto best fewest
moved counts upto a f best fewest same_best same_fewest b = rw (same_best, same_fewest) b
