-- Two paths are one where their fields are, and so where their codes are.
use Rattle.std.proofs.Common.{◌≡◌, ℕ, ◌^◌, ◌<◌, ◌≤◌, List, length, map, ap, ap₂, ◌∙◌, sym, subst, arith}
use Rattle.std.proofs.Props.{props}
use Rattle.path_code.specs.Codes.{bit, spelled, code_of}
use Rattle.path_code.specs.Ways.{way}
use Rattle.path_code.specs.declared.paths.Path.{Path}
use Rattle.path_code.proofs.Spelling.{spelled-steps, length-steps}
use Rattle.path_code.proofs.Decoding.{same_from_code}

made : (bits len : ℕ) → len ≤ 63 → bits < 2 ^ len → Path
made bits len short within = record { bits = bits; len = len; short = short; within = within }

le_same : (a b : ℕ) → IsProp (a ≤ b)
le_same a b = hlevel props

lt_same : (a b : ℕ) → IsProp (a < b)
lt_same a b = hlevel props

same_made : (b c l m : ℕ) → b ≡ c → l ≡ m → (s : l ≤ 63) (s' : m ≤ 63) (w : b < 2 ^ l) (w' : c < 2 ^ m) → made b l s w ≡ made c m s' w'
unfolding made
same_made b c l m e f s s' w w' =
    let AtLen : ℕ → Type 0 = λ (n : ℕ). (t : n ≤ 63) (x : b < 2 ^ n) → made b l s w ≡ made b n t x in
    let at_len : AtLen l = λ t x. ap₂ (λ (t : l ≤ 63) (x : b < 2 ^ l). made b l t x) (le_same l 63 s t) (lt_same b (2 ^ l) w x) in
    let AtBits : ℕ → Type 0 = λ (d : ℕ). (x : d < 2 ^ m) → made b l s w ≡ made d m s' x in
    subst AtBits e (λ x. subst AtLen f at_len s' x) w'

same_path : (p q : Path) → p.bits ≡ q.bits → p.len ≡ q.len → p ≡ q
unfolding made
same_path p q e f = same_made p.bits q.bits p.len q.len e f p.short q.short p.within q.within

pub length-way : (p : Path) → length (way p) ≤ 63
length-way p = omega (arith, length-steps p.len p.bits)

pub same_path_from_code : (p q : Path) → code_of (way p) ≡ code_of (way q) → p ≡ q
same_path_from_code p q e =
    let one : way p ≡ way q = same_from_code (way p) (way q) (length-way p) (length-way q) e in
    same_path p q
    (sym (spelled-steps p.len p.bits p.within) ∙ ap (λ (w : List _). spelled (map bit w)) one ∙ spelled-steps q.len q.bits q.within)
    (sym (length-steps p.len p.bits) ∙ ap length one ∙ length-steps q.len q.bits)
