-- The bodies of a row, one by one.
use Rattle.std.proofs.Common.{◌≡◌, refl, sym, ap, ◌∙◌, ℕ, suc, ◌+◌, ◌<◌, ◌≤◌, List, [], ◌∷◌, ◌++◌, map, drop, length, get_or, append_assoc, arith}
use Rattle.std.proofs.Common.{append-nil}
use Rattle.std.proofs.lemmas.List.{drop_more, drop_all}
use Rattle.mope_base.specs.declared.body.Body.{Body}
use Rattle.value_cipher.specs.Cipher.{Cell, sealed, value_of, seal_of, nonce_at}
use Rattle.proxy.specs.Client.{Setting, cells_from}

-- the bodies of the values from an index on
abbrev pub bodies_from : List ℕ → Setting → ℕ → List ℕ → List Body
bodies_from key s count values = map (sealed key) (cells_from s count values)

bodies-step : (key : List ℕ) (s : Setting) (count i : ℕ) (values : List ℕ) → i < length values
    → bodies_from key s (count + i) (drop i values)
    ≡ seal_of key (nonce_at s.first s.session.0 (count + i)) (get_or values i 0) ∷ bodies_from key s (count + (i + 1)) (drop (i + 1) values)
unfolding cells_from sealed value_of
bodies-step key s count i values within =
    let e : suc (count + i) ≡ count + (i + 1) = omega arith in
    ap (λ l. bodies_from key s (count + i) l) (drop_more values i 0 within)
    ∙ ap (λ n. seal_of key (nonce_at s.first s.session.0 (count + i)) (get_or values i 0) ∷ bodies_from key s n (drop (i + 1) values)) e

pub bodies-next : (key : List ℕ) (s : Setting) (count i : ℕ) (values : List ℕ) (bodies all : List Body) (b : Body) → i < length values
    → all ≡ bodies ++ bodies_from key s (count + i) (drop i values)
    → b ≡ seal_of key (nonce_at s.first s.session.0 (count + i)) (get_or values i 0)
    → all ≡ (bodies ++ b ∷ []) ++ bodies_from key s (count + (i + 1)) (drop (i + 1) values)
bodies-next key s count i values bodies all b within so_far is =
    so_far ∙ ap (λ l. bodies ++ l) (bodies-step key s count i values within)
    ∙ ap (λ (x : Body). bodies ++ (x ∷ bodies_from key s (count + (i + 1)) (drop (i + 1) values))) (sym is)
    ∙ sym (append_assoc bodies (b ∷ []) (bodies_from key s (count + (i + 1)) (drop (i + 1) values)))

pub bodies-all : (key : List ℕ) (s : Setting) (count i : ℕ) (values : List ℕ) (bodies all : List Body) → length values ≤ i
    → all ≡ bodies ++ bodies_from key s (count + i) (drop i values) → bodies ≡ all
unfolding cells_from
bodies-all key s count i values bodies all past so_far =
    sym (so_far ∙ ap (λ l. bodies ++ bodies_from key s (count + i) l) (drop_all i values past) ∙ append-nil bodies)
