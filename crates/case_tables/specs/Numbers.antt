-- The bytes of a number that was read are those bytes again.
use Rattle.std.specs.Prelude.{◌≡◌, ℕ, zero, suc, ◌+◌, ◌*◌, ◌/◌, ◌^◌, ◌%◌, ◌<◌, ◌≤◌, List, [], ◌∷◌, length, take, slice_index, refl}
use Rattle.std.proofs.Common.{sym, ap, ap₂, ◌∙◌}
use Rattle.std.proofs.Math.Nat.{div-one, mod-eq_of_lt, mul-add-mod_self_right, mul-add-div_right, mul_assoc, one-le-pow, pow-succ', le_of_suc-le-suc, not-suc-le-zero, zero-lt-suc}
use Rattle.std.proofs.lemmas.Nat.{div-mul-add}
use Rattle.std.specs.Int.{byte_at, bytes_high_first}
use Rattle.byteorder.specs.Endian.{big_from}
use Rattle.byteorder.specs.Numbers.{big_from-cons, big_from-lt}

-- of one byte
pub byte-number : (xs : List ℕ) → ((k : ℕ) → slice_index xs k < 256) → 1 ≤ length xs → slice_index xs 0 ∷ [] ≡ take 1 xs
byte-number [] bytes h = absurd (not-suc-le-zero h)
byte-number (x ∷ xs) bytes h = refl

byte_at-pow : (k x : ℕ) → byte_at k x ≡ x / 256 ^ k % 256
byte_at-pow zero x = ap (λ (y : ℕ). y % 256) (sym (div-one x))
byte_at-pow (suc k) x = refl

pow_positive : (n : ℕ) → zero < 256 ^ n
pow_positive n = one-le-pow n 256 (zero-lt-suc 255)

-- the low bytes of a number do not see what stands above them
high-past : (n c r : ℕ) → bytes_high_first n (c * 256 ^ n + r) ≡ bytes_high_first n r
high-past zero c r = refl
high-past (suc n) c r =
    let whole : c * 256 ^ suc n ≡ c * 256 * 256 ^ n = ap (λ (p : ℕ). c * p) (pow-succ' 256 n) ∙ sym (mul_assoc c 256 (256 ^ n)) in
    let rest = high-past n (c * 256) r in
    let div : (c * 256 * 256 ^ n + r) / 256 ^ n ≡ c * 256 + r / 256 ^ n = mul-add-div_right (pow_positive n) (c * 256) r in
    let first : byte_at n (c * 256 * 256 ^ n + r) ≡ byte_at n r = byte_at-pow n (c * 256 * 256 ^ n + r) ∙ ap (λ (y : ℕ). y % 256) div ∙ mul-add-mod_self_right c 256 (r / 256 ^ n) ∙ sym (byte_at-pow n r) in
    ap (λ (p : ℕ). bytes_high_first (suc n) (p + r)) whole ∙ ap₂ (λ (b : ℕ) (bs : List ℕ). b ∷ bs) first rest

-- of n bytes
pub bytes-number : (n : ℕ) (xs : List ℕ) → ((k : ℕ) → slice_index xs k < 256) → n ≤ length xs → bytes_high_first n (big_from 0 n xs) ≡ take n xs
bytes-number zero xs bytes h = refl
bytes-number (suc n) [] bytes h = absurd (not-suc-le-zero h)
bytes-number (suc n) (x ∷ xs) bytes h =
    let tail : (k : ℕ) → slice_index xs k < 256 = λ k. bytes (suc k) in
    let low : big_from 0 n xs < 256 ^ n = big_from-lt 0 n xs tail in
    let first : byte_at n (x * 256 ^ n + big_from 0 n xs) ≡ x = byte_at-pow n (x * 256 ^ n + big_from 0 n xs) ∙ ap (λ (y : ℕ). y % 256) (div-mul-add x (256 ^ n) (big_from 0 n xs) low) ∙ mod-eq_of_lt (bytes 0) in
    let rest = high-past n x (big_from 0 n xs) ∙ bytes-number n xs tail (le_of_suc-le-suc h) in
    ap (λ (r : ℕ). bytes_high_first (suc n) (x * 256 ^ n + r)) (big_from-cons 0 n x xs) ∙ ap₂ (λ (b : ℕ) (bs : List ℕ). b ∷ bs) first rest
