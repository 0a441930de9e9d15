-- The numbers behind a move: a path's bits cut after those of `from`, and put together again after those of `to`.
use Rattle.std.proofs.Common.{◌≡◌, ℕ, ◌+◌, ◌-◌, ◌*◌, ◌/◌, ◌%◌, ◌^◌, ◌<◌, ◌≤◌, List, ◌++◌, length, map, refl, ap, ◌∙◌, sym, subst, arith, length-append, pow-add, pow_pos, lt_of_lt_of_le, div-add-mod'}
use Rattle.std.proofs.lemmas.List.{length-map, map-append}
use Rattle.std.proofs.lemmas.Nat.{shl_whole, mul-add-lt, mod_below, div-mul-add}
use Rattle.std.proofs.Math.Nat.{pow-le-pow_right}
use Rattle.tree_model.specs.declared.Side.{Side}
use Rattle.path_code.specs.Codes.{bit, spelled, steps}
use Rattle.path_code.proofs.Spelling.{spelled-append, spelled-steps, length-steps}
use Rattle.path_code.proofs.Decoding.{spelled-lt, steps-append}

-- what a way that begins with `from` tells of the bits
pub record Begins (fl fb pl pb rest : ℕ) : Type 0 where
  pub lengths : pl ≡ fl + rest
  pub front : pb / 2 ^ (pl - fl) ≡ fb

pub begins : (fl fb pl pb : ℕ) (rest : List Side) → fb < 2 ^ fl → pb < 2 ^ pl → steps pl pb ≡ steps fl fb ++ rest → Begins fl fb pl pb (length rest)
begins fl fb pl pb rest within_f within_p e =
    let lengths : pl ≡ fl + length rest =
    sym (length-steps pl pb) ∙ ap length e ∙ length-append (steps fl fb) rest ∙ ap (λ (n : ℕ). n + length rest) (length-steps fl fb) in
    let low = spelled (map bit rest) in
    let bits : pb ≡ fb * 2 ^ length rest + low =
    sym (spelled-steps pl pb within_p)
    ∙ ap (λ (w : List Side). spelled (map bit w)) e
    ∙ ap spelled (map-append bit (steps fl fb) rest)
    ∙ spelled-append (map bit (steps fl fb)) (map bit rest)
    ∙ rw (spelled-steps fl fb within_f, length-map rest bit) refl in
    let count : pl - fl ≡ length rest = omega arith in
    record {
      lengths = lengths;
      front = rw count (ap (λ (n : ℕ). n / 2 ^ length rest) bits ∙ div-mul-add fb (2 ^ length rest) low (spelled-lt rest));
    }

-- the new bits, and the ways before and after
pub record Replaced (fl fb tl tb pl pb : ℕ) : Type 0 where
  pub within : tb * 2 ^ (pl - fl) % 2 ^ 64 + (pb - fb * 2 ^ (pl - fl) % 2 ^ 64) < 2 ^ (tl + (pl - fl))
  pub fits : tb * 2 ^ (pl - fl) % 2 ^ 64 + (pb - fb * 2 ^ (pl - fl) % 2 ^ 64) < 2 ^ 64
  pub before : steps pl pb ≡ steps fl fb ++ steps (pl - fl) (pb % 2 ^ (pl - fl))
  pub after : steps (tl + (pl - fl)) (tb * 2 ^ (pl - fl) % 2 ^ 64 + (pb - fb * 2 ^ (pl - fl) % 2 ^ 64)) ≡ steps tl tb ++ steps (pl - fl) (pb % 2 ^ (pl - fl))

pub replaced : (fl fb tl tb pl pb : ℕ) → fb < 2 ^ fl → tb < 2 ^ tl → fl ≤ pl → pl ≤ 63 → tl + (pl - fl) ≤ 63 → pb / 2 ^ (pl - fl) ≡ fb → Replaced fl fb tl tb pl pb
replaced fl fb tl tb pl pb within_f within_t longer short still_short front =
    let k = pl - fl in
    let rest = pb % 2 ^ k in
    let low : rest < 2 ^ k = mod_below pb (2 ^ k) (pow_pos k) in
    let cut : fb * 2 ^ k + rest ≡ pb = ap (λ (n : ℕ). n * 2 ^ k + rest) (sym front) ∙ div-add-mod' pb (2 ^ k) in
    let shift_f : fb * 2 ^ k % 2 ^ 64 ≡ fb * 2 ^ k = shl_whole fb fl k 64 within_f (omega arith) in
    let shift_t : tb * 2 ^ k % 2 ^ 64 ≡ tb * 2 ^ k = shl_whole tb tl k 64 within_t (omega arith) in
    let new : tb * 2 ^ k % 2 ^ 64 + (pb - fb * 2 ^ k % 2 ^ 64) ≡ tb * 2 ^ k + rest = rw (shift_f, shift_t) (omega (arith, cut)) in
    let within : tb * 2 ^ k + rest < 2 ^ (tl + k) = rw (pow-add 2 tl k) (omega (arith, mul-add-lt tb (2 ^ k) rest (2 ^ tl) within_t low)) in
    let whole : fl + k ≡ pl = omega arith in
    record {
      within = rw new within;
      fits = rw new (lt_of_lt_of_le within (let fits : tl + k ≤ 64 = omega arith in pow-le-pow_right (omega arith) fits));
      before = subst (λ (n : ℕ). steps n pb ≡ steps fl fb ++ steps k rest) whole
          (subst (λ (b : ℕ). steps (fl + k) b ≡ steps fl fb ++ steps k rest) cut (steps-append fl k fb rest low));
      after = rw new (steps-append tl k tb rest low);
    }
