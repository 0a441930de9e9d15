-- `limit` without its count of steps: the greatest depth at which an item may stand.
use Rattle.std.proofs.Common.{◌≡◌, ℕ, suc, zero, ◌+◌, ◌-◌, ◌*◌, ◌^◌, ◌<◌, ◌≤◌, true, false, List, [], ◌∷◌, length, get_or, refl, ap, ◌∙◌, subst, inl, inr, arith, pow-suc, le-leb, lt-ltb, le-ltb, mul-le-mul_right}
use Rattle.std.proofs.lemmas.Bool.{lt-leb, cases_lt}
use Rattle.std.proofs.Math.Nat.{one-le-pow}
use Rattle.tree_model.specs.Balance.{may_stand, climbed, climb, limit, is_heavy, counted, nearest_heavy, IsGreatestDepth}

may_stand-yes : (n d : ℕ) → 3 ^ d ≤ n * 2 ^ d → may_stand n d ≡ true
unfolding may_stand
may_stand-yes n d h = le-leb (3 ^ d) (n * 2 ^ d) h

may_stand-no : (n d : ℕ) → n * 2 ^ d < 3 ^ d → may_stand n d ≡ false
unfolding may_stand
may_stand-no n d h = lt-leb (3 ^ d) (n * 2 ^ d) h

climb-on : (steps n d : ℕ) → 3 ^ suc d ≤ n * 2 ^ suc d → climb (suc steps) n d ≡ climb steps n (suc d)
unfolding climb climbed
climb-on steps n d h = rw (may_stand-yes n (suc d) h) refl

climb-end : (steps n d : ℕ) → n * 2 ^ suc d < 3 ^ suc d → climb (suc steps) n d ≡ d
unfolding climb climbed
climb-end steps n d h = rw (may_stand-no n (suc d) h) refl

-- where an item may not stand, none may stand deeper
too_deep-step : (n d : ℕ) → n * 2 ^ d < 3 ^ d → n * 2 ^ suc d < 3 ^ suc d
too_deep-step n d h = rw (pow-suc 2 d, pow-suc 3 d) (omega arith)

pub too_deep-more : (n d more : ℕ) → n * 2 ^ d < 3 ^ d → n * 2 ^ (d + more) < 3 ^ (d + more)
too_deep-more n d zero h = let e : d + 0 ≡ d = omega arith in rw e h
too_deep-more n d (suc more) h = let e : d + suc more ≡ suc (d + more) = omega arith in rw e (too_deep-step n (d + more) (too_deep-more n d more h))

pub too_deep-above : (n d deeper : ℕ) → d ≤ deeper → n * 2 ^ d < 3 ^ d → n * 2 ^ deeper < 3 ^ deeper
too_deep-above n d deeper le h =
    let e : d + (deeper - d) ≡ deeper = omega arith in
    subst (λ (k : ℕ). n * 2 ^ k < 3 ^ k) e (too_deep-more n d (deeper - d) h)

-- fewer items allow no greater depth
pub too_deep-fewer : (m n d : ℕ) → m ≤ n → n * 2 ^ d < 3 ^ d → m * 2 ^ d < 3 ^ d
too_deep-fewer m n d le h = omega (arith, mul-le-mul_right (2 ^ d) le)

twice-suc : (n : ℕ) → 2 * suc n ≡ suc (suc (2 * n))
twice-suc n = omega arith

-- twice as many steps as items lead past the limit
past_end : (n : ℕ) → (n * 2 ^ (2 * n) < 3 ^ (2 * n)) × (2 ^ (2 * n) ≤ 3 ^ (2 * n))
past_end zero = (omega arith, omega arith)
past_end (suc n) =
    let ih = past_end n in
    rw (twice-suc n, pow-suc 2 (suc (2 * n)), pow-suc 2 (2 * n), pow-suc 3 (suc (2 * n)), pow-suc 3 (2 * n)) (omega arith, omega arith)

climb-greatest : (steps n d : ℕ) → 3 ^ d ≤ n * 2 ^ d → n * 2 ^ (d + steps) < 3 ^ (d + steps) → IsGreatestDepth n (climb steps n d)
climb-greatest zero n d here beyond = let e : d + 0 ≡ d = omega arith in absurd (let lt = rw e at beyond in omega arith)
climb-greatest (suc steps) n d here beyond =
    elim (cases_lt (n * 2 ^ suc d) (3 ^ suc d)) [
      | inl ends ↦ rw (climb-end steps n d ends) (record { allowed = here; none_deeper = λ deeper lt. too_deep-above n (suc d) deeper (omega arith) ends })
      | inr goes ↦
          let e : d + suc steps ≡ suc d + steps = omega arith in
          rw (climb-on steps n d goes) (climb-greatest steps n (suc d) goes (rw e at beyond))
    ]

pub limit-greatest : (n : ℕ) → 0 < n → IsGreatestDepth n (limit n)
unfolding limit
limit-greatest n h =
    let e : 0 + 2 * n ≡ 2 * n = omega arith in
    climb-greatest (2 * n) n 0 (omega arith) (rw e ((past_end n).0))

pub limit-zero : limit 0 ≡ 0
unfolding limit climb
limit-zero = refl

pub limit-unique : (n d : ℕ) → 0 < n → 3 ^ d ≤ n * 2 ^ d → n * 2 ^ suc d < 3 ^ suc d → limit n ≡ d
limit-unique n d h allowed ends =
    let at = limit-greatest n h in
    elim (cases_lt d (limit n)) [
      | inl deeper ↦ absurd (omega (arith, too_deep-above n (suc d) (limit n) deeper ends, at.allowed))
      | inr within ↦
          elim (cases_lt (limit n) d) [
            | inl shallow ↦ absurd (omega (arith, at.none_deeper d shallow))
            | inr same ↦ omega arith
          ]
    ]

-- beyond the limit no item may stand
pub past_limit : (n d : ℕ) → limit n < d → n * 2 ^ d < 3 ^ d
past_limit zero d h = omega (arith, one-le-pow d 3 (omega arith))
past_limit (suc n) d h = (limit-greatest (suc n) (omega arith)).none_deeper d h

-- the greatest of the depths at which an item may stand
pub within_limit : (n d : ℕ) → 0 < n → 3 ^ d ≤ n * 2 ^ d → d ≤ limit n
within_limit n d h allowed = elim (cases_lt (limit n) d) [ inl beyond ↦ absurd (omega (arith, past_limit n d beyond)) | inr within ↦ within ]

-- more items allow no smaller depth
pub limit-le : (m n : ℕ) → m ≤ n → limit m ≤ limit n
limit-le m n le =
    elim (cases_lt (limit n) (limit m)) [
      | inl deeper ↦ elim (cases_lt 0 m) [
        | inl some ↦ absurd (omega (arith, (limit-greatest m some).allowed, too_deep-fewer m n (limit m) le (past_limit n (limit m) deeper)))
        | inr none ↦ let e : m ≡ 0 = omega arith in absurd (omega (arith, ap limit e ∙ limit-zero))
      ]
      | inr within ↦ within
    ]

three_powers : (d : ℕ) → 3 ^ d ≤ 2 ^ d * 2 ^ d
three_powers zero = omega arith
three_powers (suc d) = rw (pow-suc 3 d, pow-suc 2 d) (omega (arith, three_powers d))

-- a tree too small for an item at this depth is balanced within as many levels
pub few_for_depth : (n d : ℕ) → n * 2 ^ d < 3 ^ d → n < 2 ^ d
few_for_depth n d h =
    elim (cases_lt n (2 ^ d)) [
      | inl lt ↦ lt
      | inr ge ↦ absurd (omega (arith, three_powers d, mul-le-mul_right (2 ^ d) ge))
    ]

-- ---- the nearest ancestor that is too tall

pub heavy_by_lt : (d n : ℕ) → n * 2 ^ d < 3 ^ d → is_heavy d n ≡ true
unfolding is_heavy
heavy_by_lt d n h = lt-ltb (n * 2 ^ d) (3 ^ d) h

pub light_by_le : (d n : ℕ) → 3 ^ d ≤ n * 2 ^ d → is_heavy d n ≡ false
unfolding is_heavy
light_by_le d n h = le-ltb (n * 2 ^ d) (3 ^ d) h

nearest-heavy : (d n : ℕ) (sizes : List ℕ) → n * 2 ^ d < 3 ^ d → nearest_heavy d (n ∷ sizes) ≡ 0
unfolding nearest_heavy counted
nearest-heavy d n sizes h = rw (heavy_by_lt d n h) refl

nearest-light : (d n : ℕ) (sizes : List ℕ) → 3 ^ d ≤ n * 2 ^ d → nearest_heavy d (n ∷ sizes) ≡ suc (nearest_heavy (suc d) sizes)
unfolding nearest_heavy counted
nearest-light d n sizes h = rw (light_by_le d n h) refl

-- the ancestor is there and too tall, where one of them is
pub record IsNearestHeavy (d : ℕ) (sizes : List ℕ) (j : ℕ) : Type 0 where
  pub within : j < length sizes
  pub heavy : get_or sizes j 0 * 2 ^ (d + j) < 3 ^ (d + j)

-- past an ancestor that isn't
past_light : (n : ℕ) (sizes : List ℕ) (d j : ℕ) → ((i : ℕ) → i < length sizes → get_or sizes i 0 * 2 ^ (suc d + i) < 3 ^ (suc d + i) → IsNearestHeavy (suc d) sizes (nearest_heavy (suc d) sizes)) → j < length (n ∷ sizes) → get_or (n ∷ sizes) j 0 * 2 ^ (d + j) < 3 ^ (d + j) → 3 ^ d ≤ n * 2 ^ d → IsNearestHeavy d (n ∷ sizes) (suc (nearest_heavy (suc d) sizes))
past_light n sizes d zero ih within heavy light = let e : d + 0 ≡ d = omega arith in absurd (let h = rw e at heavy in omega arith)
past_light n sizes d (suc j) ih within heavy light =
    let e : d + suc j ≡ suc d + j = omega arith in
    let found = ih j (omega arith) (rw e at heavy) in
    let f : d + suc (nearest_heavy (suc d) sizes) ≡ suc d + nearest_heavy (suc d) sizes = omega arith in
    record { within = omega (arith, found.within); heavy = rw f found.heavy }

pub nearest_heavy-found : (sizes : List ℕ) (d j : ℕ) → j < length sizes → get_or sizes j 0 * 2 ^ (d + j) < 3 ^ (d + j) → IsNearestHeavy d sizes (nearest_heavy d sizes)
nearest_heavy-found [] d j within heavy = absurd (omega arith)
nearest_heavy-found (n ∷ sizes) d j within heavy =
    elim (cases_lt (n * 2 ^ d) (3 ^ d)) [
      | inl here ↦ let e : d + 0 ≡ d = omega arith in rw (nearest-heavy d n sizes here) (record { within = omega arith; heavy = rw e here })
      | inr light ↦ rw (nearest-light d n sizes light) (past_light n sizes d j (nearest_heavy-found sizes (suc d)) within heavy light)
    ]

-- whichever place is too tall with none before it is the nearest
pub nearest_heavy-is : (sizes : List ℕ) (d j : ℕ) → j < length sizes → get_or sizes j 0 * 2 ^ (d + j) < 3 ^ (d + j) → ((i : ℕ) → i < j → 3 ^ (d + i) ≤ get_or sizes i 0 * 2 ^ (d + i)) → nearest_heavy d sizes ≡ j
nearest_heavy-is [] d j within heavy light = absurd (omega arith)
nearest_heavy-is (n ∷ sizes) d zero within heavy light = let e : d + 0 ≡ d = omega arith in nearest-heavy d n sizes (rw e at heavy)
nearest_heavy-is (n ∷ sizes) d (suc j) within heavy light =
    let e : d + suc j ≡ suc d + j = omega arith in
    let z : d + 0 ≡ d = omega arith in
    let first = rw z at (light 0 (omega arith)) in
    nearest-light d n sizes first
    ∙ ap suc (nearest_heavy-is sizes (suc d) j (omega arith) (rw e at heavy) (λ i lt.
    let f : d + suc i ≡ suc d + i = omega arith in
    rw f at (light (suc i) (omega arith))))
