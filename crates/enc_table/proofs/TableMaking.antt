-- Columns without rows, and columns that are copied one after the other.
use Rattle.std.proofs.Common.{◌≡◌, ℕ, suc, zero, ◌+◌, ◌<◌, ◌≤◌, List, [], ◌∷◌, ◌++◌, length, get_or, replicate, refl, ap, ◌∙◌, sym, subst, inl, inr, arith}
use Rattle.std.proofs.lemmas.List.{length-append, length-replicate, get_or-replicate, ext_get_or, get_or_append_left}
use Rattle.std.proofs.lemmas.Bool.{cases_eq}
use Rattle.std.proofs.Math.Seq.{get_or-append_seam}
use Rattle.enc_table.specs.declared.columns.Column.{Column as Stored}
use Rattle.enc_table.specs.Stored.{no_column, stored_at, bodies_in, ranks_in}
use Rattle.enc_table.specs.Held.{IsHeld, HasBecome}
use Rattle.enc_table.specs.Fields.{AreHeld, AreCopied}

pub stored-none : (n i : ℕ) → stored_at (replicate n no_column) i ≡ no_column
unfolding stored_at
stored-none zero i = refl
stored-none (suc n) zero = refl
stored-none (suc n) (suc i) = stored-none n i

pub all-none : (cs : List Stored) (n : ℕ) → length cs ≡ n → ((k : ℕ) → k < n → stored_at cs k ≡ no_column) → cs ≡ replicate n no_column
unfolding stored_at
all-none cs n many each =
    ext_get_or no_column cs (replicate n no_column) (many ∙ sym (length-replicate n no_column)) (λ i h. each i (omega (arith, h, many)) ∙ sym (get_or-replicate n i no_column no_column (omega (arith, h, many))))

-- so many of the columns have their copies
pub record CopiedTo (numbers : List ℕ) (first copy : List Stored) (at : ℕ) : Type 0 where
  pub many : length copy ≡ at
  pub done : (k : ℕ) → k < at → HasBecome numbers (stored_at first k).tree.column (bodies_in (stored_at first k)) (ranks_in (stored_at first k)) (stored_at copy k)

stored-last : (cs : List Stored) (c : Stored) → stored_at (cs ++ c ∷ []) (length cs) ≡ c
unfolding stored_at
stored-last cs c = get_or-append_seam cs c [] no_column

stored-before : (cs : List Stored) (c : Stored) (k : ℕ) → k < length cs → stored_at (cs ++ c ∷ []) k ≡ stored_at cs k
unfolding stored_at
stored-before cs c k h = get_or_append_left cs (c ∷ []) no_column k h

pub copied-step : (numbers : List ℕ) (first copy : List Stored) (at : ℕ) (c : Stored) → CopiedTo numbers first copy at
    → HasBecome numbers (stored_at first at).tree.column (bodies_in (stored_at first at)) (ranks_in (stored_at first at)) c → CopiedTo numbers first (copy ++ c ∷ []) (suc at)
copied-step numbers first copy at c so column =
    let Is : ℕ → Stored → Type 0 = λ (k : ℕ) (d : Stored). HasBecome numbers (stored_at first k).tree.column (bodies_in (stored_at first k)) (ranks_in (stored_at first k)) d in
    record {
      many = omega (arith, length-append copy (c ∷ []), so.many);
      done = λ k below.
          elim (cases_eq k (length copy)) [
            | inl e ↦ subst (λ (j : ℕ). Is j (stored_at (copy ++ c ∷ []) j)) (sym e) (subst (Is (length copy)) (sym (stored-last copy c)) (subst (λ (j : ℕ). Is j c) (sym so.many) column))
            | inr ne ↦ subst (Is k) (sym (stored-before copy c k (omega (arith, below, ne, so.many)))) (so.done k (omega (arith, below, ne, so.many)))
          ];
    }
