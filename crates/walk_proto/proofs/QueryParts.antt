-- The bytes of a Query in four parts.
use Rattle.std.proofs.Common.{◌≡◌, ◌≤◌, ◌+◌, ℕ, zero, suc, List, [], ◌∷◌, ◌++◌, length, take, drop, refl, ap, sym, ◌∙◌, arith}
use Rattle.std.proofs.lemmas.List.{take-append-drop}
use Rattle.std.proofs.Math.Seq.{drop-nil}
use Rattle.walk_proto.specs.Faults.{at}

drop_twice : (n m : ℕ) (xs : List ℕ) → drop m (drop n xs) ≡ drop (n + m) xs
drop_twice zero m xs = let e : 0 + m ≡ m = omega arith in rw e refl
drop_twice (suc n) m [] = rw (drop-nil (suc n + m)) (drop-nil m)
drop_twice (suc n) m (x ∷ xs) = let e : suc n + m ≡ suc (n + m) = omega arith in rw e (drop_twice n m xs)

tail_parts : (xs l c d : List ℕ) → take 9 xs ≡ l → take 9 (drop 9 xs) ≡ c → drop 18 xs ≡ d → xs ≡ l ++ (c ++ d)
tail_parts xs l c d hl hc hd =
    sym (take-append-drop 9 xs) ∙ ap (λ t. take 9 xs ++ t) (sym (take-append-drop 9 (drop 9 xs)) ∙ ap (λ t. take 9 (drop 9 xs) ++ t) (drop_twice 9 9 xs)) ∙ (rw (hl, hc, hd) refl)

pub query_parts : (b l c d : List ℕ) (n : ℕ) → 25 ≤ length b → at b 0 ≡ n → take 9 (drop 6 b) ≡ l → take 9 (drop 15 b) ≡ c → drop 24 b ≡ d
    → b ≡ n ∷ ((at b 1 ∷ at b 2 ∷ at b 3 ∷ at b 4 ∷ at b 5 ∷ []) ++ (l ++ (c ++ d)))
query_parts [] l c d n h e hl hc hd = absurd (omega arith)
query_parts (x0 ∷ []) l c d n h e hl hc hd = absurd (omega arith)
query_parts (x0 ∷ x1 ∷ []) l c d n h e hl hc hd = absurd (omega arith)
query_parts (x0 ∷ x1 ∷ x2 ∷ []) l c d n h e hl hc hd = absurd (omega arith)
query_parts (x0 ∷ x1 ∷ x2 ∷ x3 ∷ []) l c d n h e hl hc hd = absurd (omega arith)
query_parts (x0 ∷ x1 ∷ x2 ∷ x3 ∷ x4 ∷ []) l c d n h e hl hc hd = absurd (omega arith)
query_parts (x0 ∷ x1 ∷ x2 ∷ x3 ∷ x4 ∷ x5 ∷ xs) l c d n h e hl hc hd = ap (λ t. x0 ∷ x1 ∷ x2 ∷ x3 ∷ x4 ∷ x5 ∷ t) (tail_parts xs l c d hl hc hd) ∙ ap (λ k. k ∷ x1 ∷ x2 ∷ x3 ∷ x4 ∷ x5 ∷ (l ++ (c ++ d))) e
