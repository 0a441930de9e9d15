-- How far the powers of a loop have come, and that they fit.
use Rattle.std.proofs.Common.{◌≡◌, ℕ, suc, zero, ◌+◌, ◌*◌, ◌^◌, ◌<◌, ◌≤◌, List, length, get_or, ap, ◌∙◌, sym, inl, inr, arith, pow-suc}
use Rattle.std.proofs.lemmas.Bool.{cases_lt}
use Rattle.std.proofs.Math.Nat.{pow-le-pow_right, mul-le-mul}
use Rattle.tree_model.specs.Balance.{limit, nearest_heavy}
use Rattle.tree_model.proofs.Limits.{too_deep-above, too_deep-fewer, limit-unique, limit-zero, nearest_heavy-is}

-- an item may stand at this depth, and the two powers are those of the next
pub record Climbs (n depth threes twos : ℕ) : Type 0 where
  pub threes_are : threes ≡ 3 ^ suc depth
  pub twos_are : twos ≡ n * 2 ^ suc depth
  pub allowed : 0 < n → 3 ^ depth ≤ n * 2 ^ depth
  pub none : n ≡ 0 → depth ≡ 0

pub Climbs-start : (n : ℕ) → Climbs n 0 3 (2 * n)
Climbs-start n = record { threes_are = omega arith; twos_are = omega arith; allowed = λ h. omega arith; none = λ h. omega arith }

pub Climbs-next : (n depth threes twos : ℕ) → Climbs n depth threes twos → threes ≤ twos → Climbs n (depth + 1) (threes * 3) (twos * 2)
Climbs-next n depth threes twos c h =
    let e : depth + 1 ≡ suc depth = omega arith in
    rw e (record {
      threes_are = rw (pow-suc 3 (suc depth)) (omega (arith, c.threes_are));
      twos_are = rw (pow-suc 2 (suc depth)) (omega (arith, c.twos_are));
      allowed = λ some. omega (arith, c.threes_are, c.twos_are);
      none = λ nothing. absurd (omega (arith, c.threes_are, c.twos_are, ap (λ (k : ℕ). k * 2 ^ suc depth) nothing, pow-le-pow_right {n = 3} (omega arith) {i = 0} {j = suc depth} (omega arith)));
    })

deepest : (n : ℕ) → n ≤ 2 ^ 32 → n * 2 ^ 55 < 3 ^ 55
deepest n h = too_deep-fewer n (2 ^ 32) 55 h (omega arith)

pub Climbs-short : (n depth threes twos : ℕ) → n ≤ 2 ^ 32 → Climbs n depth threes twos → depth < 55
Climbs-short n depth threes twos few c =
    elim (cases_lt depth 55) [
      | inl lt ↦ lt
      | inr ge ↦ elim (cases_lt 0 n) [
        | inl some ↦ absurd (omega (arith, c.allowed some, too_deep-above n 55 depth ge (deepest n few)))
        | inr none ↦ let e : n ≡ 0 = omega arith in absurd (omega (arith, c.none e))
      ]
    ]

pub Climbs-fit : (n depth threes twos : ℕ) → n ≤ 2 ^ 32 → Climbs n depth threes twos → twos ≤ 2 ^ 88
Climbs-fit n depth threes twos few c =
    let short = Climbs-short n depth threes twos few c in
    let last : suc depth ≤ 55 = omega arith in
    let power : 2 ^ suc depth ≤ 2 ^ 55 = pow-le-pow_right (omega arith) last in
    omega (arith, c.twos_are, mul-le-mul few power)

pub Climbs-end : (n depth threes twos : ℕ) → Climbs n depth threes twos → twos < threes → depth ≡ limit n
Climbs-end zero depth threes twos c h = c.none (omega arith) ∙ sym limit-zero
Climbs-end (suc n) depth threes twos c h =
    sym (limit-unique (suc n) depth (omega arith) (c.allowed (omega arith)) (omega (arith, c.threes_are, c.twos_are)))

-- the powers of so many ancestors, none of which is too tall
pub record Passes (sizes : List ℕ) (above threes twos : ℕ) : Type 0 where
  pub threes_are : threes ≡ 3 ^ (above + 1)
  pub twos_are : twos ≡ 2 ^ (above + 1)
  pub light : (j : ℕ) → j < above → 3 ^ (j + 1) ≤ get_or sizes j 0 * 2 ^ (j + 1)

pub Passes-start : (sizes : List ℕ) → Passes sizes 0 3 2
Passes-start sizes = record { threes_are = omega arith; twos_are = omega arith; light = λ j h. absurd (omega arith) }

pub Passes-next : (sizes : List ℕ) (above threes twos size : ℕ) → Passes sizes above threes twos → size ≡ get_or sizes above 0 → threes ≤ size * twos → Passes sizes (above + 1) (threes * 3) (twos * 2)
Passes-next sizes above threes twos size p e h =
    let next : above + 1 + 1 ≡ suc (above + 1) = omega arith in
    record {
      threes_are = rw (next, pow-suc 3 (above + 1)) (omega (arith, p.threes_are));
      twos_are = rw (next, pow-suc 2 (above + 1)) (omega (arith, p.twos_are));
      light = λ j lt. elim (cases_lt j above) [
        | inl before ↦ p.light j before
        | inr here ↦
            let same : j ≡ above = omega arith in
            rw (same, ← e, ← p.threes_are, ← p.twos_are) h
      ];
    }

pub Passes-threes : (sizes : List ℕ) (above threes twos : ℕ) → above < 63 → Passes sizes above threes twos → threes ≤ 3 ^ 63
Passes-threes sizes above threes twos short p =
    let last : above + 1 ≤ 63 = omega arith in
    let power : 3 ^ (above + 1) ≤ 3 ^ 63 = pow-le-pow_right (omega arith) last in
    omega (arith, p.threes_are)

pub Passes-twos : (sizes : List ℕ) (above threes twos : ℕ) → above < 63 → Passes sizes above threes twos → twos ≤ 2 ^ 63
Passes-twos sizes above threes twos short p =
    let last : above + 1 ≤ 63 = omega arith in
    let power : 2 ^ (above + 1) ≤ 2 ^ 63 = pow-le-pow_right (omega arith) last in
    omega (arith, p.twos_are)

pub Passes-product : (sizes : List ℕ) (above threes twos size : ℕ) → above < 63 → size ≤ 2 ^ 32 → Passes sizes above threes twos → size * twos ≤ 2 ^ 95
Passes-product sizes above threes twos size short small p =
    omega (arith, mul-le-mul small (Passes-twos sizes above threes twos short p))

pub Passes-rule : (sizes : List ℕ) (above threes twos : ℕ) → Passes sizes above threes twos → above < length sizes → get_or sizes above 0 * 2 ^ (above + 1) < 3 ^ (above + 1) → above ≡ nearest_heavy 1 sizes
Passes-rule sizes above threes twos p within heavy =
    sym (nearest_heavy-is sizes 1 above within (rw (add_one above) heavy) (λ i lt. rw (add_one i) (p.light i lt)))
  where
    add_one : (k : ℕ) → 1 + k ≡ k + 1
    add_one k = omega arith
