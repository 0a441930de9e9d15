-- The code of a way as a number, and the way that a stored path spells.
use Rattle.std.proofs.Common.{◌≡◌, ℕ, suc, zero, ◌+◌, ◌-◌, ◌*◌, ◌/◌, ◌%◌, ◌^◌, ◌<◌, ◌≤◌, List, [], ◌∷◌, ◌++◌, length, map, replicate, refl, arith, length-append, pow-suc, pow-add, pow_pos, mul-le-mul_right, add-one, lt_of_lt_of_le}
use Rattle.std.proofs.Math.Nat.{pow-le-pow_right}
use Rattle.std.proofs.lemmas.Nat.{shl_whole}
use Rattle.std.proofs.lemmas.List.{length-map, map-append, length-replicate}
use Rattle.tree_model.specs.declared.Side.{Side}
use Rattle.tree_model.specs.declared.Side.TheVariants.{Left, Right}
use Rattle.path_code.specs.Codes.{bit, spelled, code_within, code_of, side_of, steps}

pub spelled-append : (xs ys : List ℕ) → spelled (xs ++ ys) ≡ spelled xs * 2 ^ length ys + spelled ys
unfolding spelled
spelled-append [] ys = omega arith
spelled-append (x ∷ xs) ys = rw (length-append xs ys, pow-add 2 (length xs) (length ys), spelled-append xs ys) (omega arith)

spelled-zeros : (n : ℕ) → spelled (replicate n 0) ≡ 0
unfolding spelled
spelled-zeros zero = refl
spelled-zeros (suc n) = rw (spelled-zeros n) (omega arith)

length-zeros : (n : ℕ) → length (replicate {A = ℕ} n 0) ≡ n
length-zeros n = length-replicate {A = ℕ} n 0

spelled-marked : (n : ℕ) → spelled (1 ∷ replicate n 0) ≡ 2 ^ n
unfolding spelled
spelled-marked n = rw (length-zeros n, spelled-zeros n) (omega arith)

spelled-nil : spelled [] ≡ 0
unfolding spelled
spelled-nil = refl

spelled-one : (b : ℕ) → spelled (b ∷ []) ≡ b
unfolding spelled
spelled-one b = omega arith

-- ---- the code as a number

pub code_within-packed : (width : ℕ) (way : List Side) → code_within width way ≡ (2 * spelled (map bit way) + 1) * 2 ^ (width - length way)
unfolding code_within
code_within-packed width way =
    let rest = width - length way in
    rw (spelled-append (map bit way) (1 ∷ replicate rest 0), spelled-marked rest, length-zeros rest, pow-suc 2 rest) (omega arith)

pub code_within-nil : (width : ℕ) → code_within width [] ≡ 2 ^ width
unfolding code_within
code_within-nil width = let all : width - 0 ≡ width = omega arith in rw all (spelled-marked width)

length_code : (width : ℕ) (way : List Side) → length way ≤ width → length (map bit way ++ 1 ∷ replicate (width - length way) 0) ≡ suc width
length_code width way h = omega (arith, length-append (map bit way) (1 ∷ replicate (width - length way) 0), length-map way bit, length-zeros (width - length way))

pub code_within-cons : (width : ℕ) (s : Side) (way : List Side) → length way ≤ width → code_within (suc width) (s ∷ way) ≡ bit s * 2 ^ suc width + code_within width way
unfolding code_within spelled
code_within-cons width s way h =
    let less : suc width - suc (length way) ≡ width - length way = omega arith in
    rw (less, length_code width way h) refl

pub code_within-positive : (width : ℕ) (way : List Side) → 0 < code_within width way
code_within-positive width way = rw (code_within-packed width way) (omega (arith, pow_pos (width - length way)))

pub bit-lt : (s : Side) → bit s < 2
unfolding bit
bit-lt Left = omega arith
bit-lt Right = omega arith

pub code_within-lt : (width : ℕ) (way : List Side) → length way ≤ width → code_within width way < 2 ^ suc width
code_within-lt width [] h = rw (code_within-nil width, pow-suc 2 width) (omega (arith, pow_pos width))
code_within-lt zero (s ∷ way) h = absurd (omega arith)
code_within-lt (suc width) (s ∷ way) h =
    let ih = code_within-lt width way (omega arith) in
    rw (code_within-cons width s way (omega arith), pow-suc 2 (suc width)) (omega (arith, mul-le-mul_right (2 ^ suc width) (bit_le_one s), ih))
  where
    bit_le_one : (s : Side) → bit s ≤ 1
    bit_le_one s = omega (arith, bit-lt s)

-- ---- the way of a stored path

bit-side_of : (b : ℕ) → b < 2 → bit (side_of b) ≡ b
unfolding bit side_of
bit-side_of zero h = refl
bit-side_of (suc b) h = omega arith

side_of-bit : (s : Side) → side_of (bit s) ≡ s
unfolding bit side_of
side_of-bit Left = refl
side_of-bit Right = refl

pub length-steps : (count bits : ℕ) → length (steps count bits) ≡ count
unfolding steps
length-steps zero bits = refl
length-steps (suc count) bits = omega (arith, length-append (steps count (bits / 2)) (side_of (bits % 2) ∷ []), length-steps count (bits / 2))

pub spelled-steps : (count bits : ℕ) → bits < 2 ^ count → spelled (map bit (steps count bits)) ≡ bits
unfolding steps
spelled-steps zero bits h = rw spelled-nil (omega arith)
spelled-steps (suc count) bits h =
    let front = steps count (bits / 2) in
    let last = bits % 2 in
    let twice = pow-suc 2 count in
    let ih = spelled-steps count (bits / 2) (omega arith) in
    rw (map-append bit front (side_of last ∷ []), spelled-append (map bit front) (bit (side_of last) ∷ []), ih, spelled-one (bit (side_of last)), bit-side_of last (omega arith)) (omega arith)

pub steps-child : (count bits : ℕ) (s : Side) → steps (suc count) (2 * bits + bit s) ≡ steps count bits ++ s ∷ []
unfolding steps
steps-child count bits s =
    let half : (2 * bits + bit s) / 2 ≡ bits = omega (arith, bit-lt s) in
    let low : (2 * bits + bit s) % 2 ≡ bit s = omega (arith, bit-lt s) in
    rw (half, low, side_of-bit s) refl

-- ---- what the code of a stored path and the path of a child need

pub child_within : (len bits b : ℕ) → bits < 2 ^ len → b < 2 → 2 * bits + b < 2 ^ (len + 1)
child_within len bits b within small = rw (add-one, pow-suc 2 len) (omega arith)

pub child_fits : (len bits b : ℕ) → bits < 2 ^ len → len < 63 → b < 2 → 2 * bits + b < 2 ^ 64
child_fits len bits b within short small =
    lt_of_lt_of_le (child_within len bits b within small) (let shorter : len + 1 ≤ 64 = omega arith in pow-le-pow_right (omega arith) shorter)

pub steps_child : (len bits : ℕ) (s : Side) → steps (len + 1) (2 * bits + bit s) ≡ steps len bits ++ s ∷ []
steps_child len bits s = rw add-one (steps-child len bits s)

pub shifted : (len bits : ℕ) → bits < 2 ^ len → len ≤ 63 → (2 * bits + 1) * 2 ^ (63 - len) % 2 ^ 64 ≡ (2 * bits + 1) * 2 ^ (63 - len)
shifted len bits within short =
    shl_whole (2 * bits + 1) (len + 1) (63 - len) 64 (child_within len bits 1 within (omega arith)) (omega arith)

pub code_of-steps : (len bits : ℕ) → bits < 2 ^ len → code_of (steps len bits) ≡ (2 * bits + 1) * 2 ^ (63 - len)
unfolding code_of
code_of-steps len bits within = rw (code_within-packed 63 (steps len bits), spelled-steps len bits within, length-steps len bits) refl

pub packed_positive : (len bits : ℕ) → 0 < (2 * bits + 1) * 2 ^ (63 - len)
packed_positive len bits = omega (arith, pow_pos (63 - len))

pub code_of-positive : (way : List Side) → 0 < code_of way
unfolding code_of
code_of-positive way = code_within-positive 63 way
