-- The versions of a run, with one more.
use Rattle.std.proofs.Common.{◌≡◌, refl, sym, ◌∙◌, ap, ℕ, suc, ◌+◌, ◌<◌, ◌≤◌, [], ◌∷◌, ◌++◌, length, get_or, inl, inr, arith}
use Rattle.std.proofs.lemmas.Bool.{cases_eq}
use Rattle.std.proofs.lemmas.List.{get_or_push, get_or_past, get_or_append_left, get_or_default, length_push}
use Rattle.workload.specs.Run.{Run, number_of, version_of}

-- the older versions stay
pub version-older : (r next : Run) (m : ℕ) → next.older ≡ r.older ++ r.current ∷ [] → m ≤ number_of r → version_of next m ≡ version_of r m
unfolding version_of number_of
version-older r next m older within =
    rw older (
    get_or_append_left (r.older ++ r.current ∷ []) (next.current ∷ []) next.current m (omega (arith, length_push r.older r.current))
    ∙ get_or_default (r.older ++ r.current ∷ []) m next.current r.current (omega (arith, length_push r.older r.current)))

-- the one more is the current one
pub version-new : (r next : Run) (m : ℕ) → next.older ≡ r.older ++ r.current ∷ [] → number_of r < m → version_of next m ≡ next.current
unfolding version_of number_of
version-new r next m older above =
    let l : length (r.older ++ r.current ∷ []) ≡ length r.older + 1 = length_push r.older r.current in
    rw older (
    elim (cases_eq m (length (r.older ++ r.current ∷ []))) as (λ _. get_or ((r.older ++ r.current ∷ []) ++ next.current ∷ []) m next.current ≡ next.current) [
      | inl here ↦ get_or_push (r.older ++ r.current ∷ []) next.current next.current m (sym here)
      | inr other ↦
          get_or_past ((r.older ++ r.current ∷ []) ++ next.current ∷ []) m next.current
          (omega (arith, l, other, length_push (r.older ++ r.current ∷ []) next.current))
    ])

pub number-next : (r next : Run) → next.older ≡ r.older ++ r.current ∷ [] → number_of next ≡ suc (number_of r)
unfolding number_of
number-next r next older = omega (arith, ap length older, length_push r.older r.current)

pub version-current : (r : Run) → version_of r (number_of r) ≡ r.current
unfolding version_of number_of
version-current r = get_or_push r.older r.current r.current (length r.older) refl

-- a step that makes no version
pub version-same : (r next : Run) (m : ℕ) → next.older ≡ r.older → next.current ≡ r.current → version_of next m ≡ version_of r m
unfolding version_of
version-same r next m older current = rw (older, current) refl
