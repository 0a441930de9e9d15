-- A code tells its path: the steps back from a code, and no two ways with one code.
use Rattle.std.proofs.Common.{◌≡◌, ℕ, suc, zero, ◌+◌, ◌-◌, ◌*◌, ◌/◌, ◌%◌, ◌^◌, ◌<◌, ◌≤◌, List, [], ◌∷◌, ◌++◌, length, map, refl, ap, ap₂, ◌∙◌, sym, subst, inl, inr, arith, append_assoc, append-nil, pow-suc, pow-add, pow_pos, mul-le-mul_right}
use Rattle.std.proofs.lemmas.Bool.{cases_eq, cases_lt}
use Rattle.std.proofs.lemmas.List.{length-map}
use Rattle.std.proofs.Math.Nat.{mul-div_cancel}
use Rattle.std.specs.Int.Count.{count_trailing_zeros, under}
use Rattle.tree_model.specs.declared.Side.{Side}
use Rattle.tree_model.specs.declared.Side.TheVariants.{Left, Right}
use Rattle.path_code.specs.Codes.{bit, spelled, code_of, side_of, steps}
use Rattle.path_code.proofs.Spelling.{bit-lt, code_within-packed}

-- ---- a number other than 0 is an odd number times a power of 2

odd_part : (k n : ℕ) → 0 < n → n < 2 ^ k → (h : ℕ) × (n ≡ (2 * h + 1) * 2 ^ count_trailing_zeros k n) × (count_trailing_zeros k n < k)
unfolding count_trailing_zeros
odd_part zero n above h = absurd (omega arith)
odd_part (suc k) n above h =
    let t = count_trailing_zeros k (n / 2) in
    let Split : ℕ → Type 0 = λ (d : ℕ). (h : ℕ) × (n ≡ (2 * h + 1) * 2 ^ under d t) × (under d t < suc k) in
    elim (cases_eq (n % 2) 0) [
      | inl even ↦
          let twice = pow-suc 2 k in
          let ih = odd_part k (n / 2) (omega arith) (omega arith) in
          subst Split (sym even) (ih.0, rw (pow-suc 2 t) (omega (arith, ih.1)), omega (arith, ih.2))
      | inr odd ↦ let one : n % 2 ≡ 1 = omega arith in subst Split (sym one) (n / 2, omega arith, omega arith)
    ]

-- what a code is made of: its number of zeros at the end and the number above the marking 1
pub record Marked (n zeros : ℕ) : Type 0 where
  pub few : zeros < 64
  pub within : n / 2 ^ zeros / 2 < 2 ^ (63 - zeros)
  pub back : (2 * (n / 2 ^ zeros / 2) + 1) * 2 ^ zeros ≡ n

high_within : (h p q n : ℕ) → n ≡ (2 * h + 1) * p → n < 2 * (p * q) → h < q
high_within h p q n e lt = elim (cases_lt h q) [ inl below ↦ below | inr above ↦ absurd (omega (arith, mul-le-mul_right p above)) ]

pub marked : (n : ℕ) → 0 < n → n < 2 ^ 64 → Marked n (count_trailing_zeros 64 n)
marked n above fits =
    let zeros = count_trailing_zeros 64 n in
    let odd = odd_part 64 n above fits in
    let high : n / 2 ^ zeros ≡ 2 * odd.0 + 1 = ap (λ (m : ℕ). m / 2 ^ zeros) odd.1 ∙ mul-div_cancel (2 * odd.0 + 1) (pow_pos zeros) in
    let half : n / 2 ^ zeros / 2 ≡ odd.0 = omega arith in
    let product : 2 ^ zeros * 2 ^ (63 - zeros) ≡ 2 ^ 63 = sym (pow-add 2 zeros (63 - zeros)) ∙ ap (λ (k : ℕ). 2 ^ k) (let all : zeros + (63 - zeros) ≡ 63 = omega (arith, odd.2) in all) in
    record {
      few = odd.2;
      within = rw half (high_within odd.0 (2 ^ zeros) (2 ^ (63 - zeros)) n odd.1 (omega (arith, product)));
      back = rw half (sym odd.1);
    }

-- ---- no two ways have one code

odd_powers : (b c i j : ℕ) → (2 * b + 1) * 2 ^ i ≡ (2 * c + 1) * 2 ^ j → (b ≡ c) × (i ≡ j)
odd_powers b c zero zero e = (omega arith, refl)
odd_powers b c zero (suc j) e = let doubled = rw (pow-suc 2 j) at e in absurd (omega (arith, doubled))
odd_powers b c (suc i) zero e = let doubled = rw (pow-suc 2 i) at e in absurd (omega (arith, doubled))
odd_powers b c (suc i) (suc j) e =
    let doubled = rw (pow-suc 2 i, pow-suc 2 j) at e in
    let ih = odd_powers b c i j (omega (arith, doubled)) in
    (ih.0, ap suc ih.1)

pub spelled-lt : (way : List Side) → spelled (map bit way) < 2 ^ length way
unfolding spelled
spelled-lt [] = omega arith
spelled-lt (s ∷ way) =
    let ih = spelled-lt way in
    let small : bit s ≤ 1 = omega (arith, bit-lt s) in
    rw (length-map way bit, pow-suc 2 (length way)) (omega (arith, mul-le-mul_right (2 ^ length way) small))

same_bit : (s t : Side) → bit s ≡ bit t → s ≡ t
unfolding bit
same_bit Left Left e = refl
same_bit Left Right e = absurd (omega arith)
same_bit Right Left e = absurd (omega arith)
same_bit Right Right e = refl

first_bit : (b c p v w : ℕ) → b < 2 → c < 2 → v < p → w < p → b * p + v ≡ c * p + w → (b ≡ c) × (v ≡ w)
first_bit zero zero p v w hb hc hv hw e = (refl, omega arith)
first_bit zero (suc c) p v w hb hc hv hw e = absurd (omega arith)
first_bit (suc b) zero p v w hb hc hv hw e = absurd (omega arith)
first_bit (suc b) (suc c) p v w hb hc hv hw e =
    let first : b ≡ 0 = omega arith in
    let second : c ≡ 0 = omega arith in
    let one_b : suc b * p ≡ p = rw first (omega arith) in
    let one_c : suc c * p ≡ p = rw second (omega arith) in
    (ap suc (first ∙ sym second), omega (arith, e, one_b, one_c))

same_way : (a b : List Side) → length a ≡ length b → spelled (map bit a) ≡ spelled (map bit b) → a ≡ b
unfolding spelled
same_way [] [] e f = refl
same_way [] (t ∷ b) e f = absurd (omega arith)
same_way (s ∷ a) [] e f = absurd (omega arith)
same_way (s ∷ a) (t ∷ b) e f =
    let len : length a ≡ length b = omega arith in
    let lt_b = subst (λ (n : ℕ). spelled (map bit b) < 2 ^ n) (sym len) (spelled-lt b) in
    let at_a = ap (λ (n : ℕ). bit s * 2 ^ n + spelled (map bit a)) (length-map a bit) in
    let at_b = ap (λ (n : ℕ). bit t * 2 ^ n + spelled (map bit b)) (length-map b bit ∙ sym len) in
    let parts = first_bit (bit s) (bit t) (2 ^ length a) (spelled (map bit a)) (spelled (map bit b)) (bit-lt s) (bit-lt t) (spelled-lt a) lt_b (sym at_a ∙ f ∙ at_b) in
    ap₂ (λ (x : Side) (xs : List Side). x ∷ xs) (same_bit s t parts.0) (same_way a b len parts.1)

pub same_from_code : (a b : List Side) → length a ≤ 63 → length b ≤ 63 → code_of a ≡ code_of b → a ≡ b
unfolding code_of
same_from_code a b short_a short_b e =
    let parts = odd_powers (spelled (map bit a)) (spelled (map bit b)) (63 - length a) (63 - length b) (sym (code_within-packed 63 a) ∙ e ∙ code_within-packed 63 b) in
    same_way a b (omega (arith, parts.1)) parts.0

-- ---- a way in two parts

pub steps-append : (m n a b : ℕ) → b < 2 ^ n → steps (m + n) (a * 2 ^ n + b) ≡ steps m a ++ steps n b
unfolding steps
steps-append m zero a b h =
    let all : a * 2 ^ 0 + b ≡ a = omega arith in
    let none : m + 0 ≡ m = omega arith in
    rw (none, all, append-nil (steps m a)) refl
steps-append m (suc n) a b h =
    let below : b / 2 < 2 ^ n = omega (arith, pow-suc 2 n) in
    let twice : a * 2 ^ suc n + b ≡ 2 * (a * 2 ^ n) + b = rw (pow-suc 2 n) (omega arith) in
    let half : (a * 2 ^ suc n + b) / 2 ≡ a * 2 ^ n + b / 2 = rw twice (omega arith) in
    let low : (a * 2 ^ suc n + b) % 2 ≡ b % 2 = rw twice (omega arith) in
    let longer : m + suc n ≡ suc (m + n) = omega arith in
    rw (longer, half, low, steps-append m n a (b / 2) below) (append_assoc (steps m a) (steps n (b / 2)) (side_of (b % 2) ∷ []))
