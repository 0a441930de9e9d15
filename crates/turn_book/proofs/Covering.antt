-- The numbers of passes that are joined.
use Rattle.std.proofs.Common.{◌≡◌, ℕ, ◌+◌, List, [], ◌∷◌, ◌++◌, sym, inl, inr, subst, ⊎_elim, arith}
use mathlib.Core.Logic.{dite}
use native.Mathlib.Decide.{dec_le, ℕ_discrete}
use Rattle.turn_book.specs.declared.view.View.{View}
use Rattle.turn_book.specs.Accounts.{HasNumber}
use Rattle.turn_book.specs.Covering.{Covers}
use Rattle.turn_book.specs.Passes.{HasAll}

module _ {A : Type 0} where
  has_left : (n : ℕ) (es fs : List (ℕ × A)) → HasNumber n es → HasNumber n (es ++ fs)
  has_left n [] fs h = absurd h
  has_left n (e ∷ es) fs h = ⊎_elim (λ (t : e.0 ≡ n). inl t) (λ (t : HasNumber n es). inr (has_left n es fs t)) h

  has_right : (n : ℕ) (es fs : List (ℕ × A)) → HasNumber n fs → HasNumber n (es ++ fs)
  has_right n [] fs h = h
  has_right n (e ∷ es) fs h = inr (has_right n es fs h)

  pub covers_one : (k : ℕ) (es : List (ℕ × A)) → Covers k es k (k + 1)
  covers_one k es n low high = inl (omega arith)

  pub covers_joined : (a b from mid to : ℕ) (es fs : List (ℕ × A)) (x : A) → Covers a es from mid → Covers b fs mid to → Covers a (es ++ (b, x) ∷ fs) from to
  covers_joined a b from mid to es fs x here there n low high = dite (dec_le mid n)
      (λ far. inr (⊎_elim (λ (t : n ≡ b). has_right n es ((b, x) ∷ fs) (inl (sym t))) (λ (t : HasNumber n fs). has_right n es ((b, x) ∷ fs) (inr t)) (there n far high)))
      (λ near. ⊎_elim (λ (t : n ≡ a). inl t) (λ (t : HasNumber n es). inr (has_left n es ((b, x) ∷ fs) t)) (here n low (omega (arith, near))))

module _ {I O : Type 0} where
  -- where the pass covers all numbers from 0 on, every other pass was joined into it
  pub all_covered : (passes : ℕ) (v : View I O) → Covers v.number v.ended 0 passes → HasAll passes v
  all_covered passes v covers n less = ⊎_elim (λ (t : n ≡ v.number). inl t) (λ (t : HasNumber n v.ended). inr (inl t)) (covers n (omega arith) less)

  pub alone_has_all : (p : ℕ) (v : View I O) → p ≡ 1 → v.number ≡ 0 → HasAll p v
  alone_has_all p v one own n less = inl (omega arith)

  pub two_have_all : (p : ℕ) (v : View I O) (m : ℕ) (es fs : List (ℕ × List I)) (x : List I) → p ≡ 2 → v.number ≡ 0 → m ≡ 1 → v.ended ≡ es ++ (m, x) ∷ fs → HasAll p v
  two_have_all p v m es fs x two own other is n less = dite (ℕ_discrete n 0) (λ z. inl (omega arith))
      (λ nz. let here : m ≡ n = omega (arith, nz) in inr (inl (subst (HasNumber n) (sym is) (has_right n es ((m, x) ∷ fs) (inl here)))))

  pub covers_at : (v : View I O) (k : ℕ) → v.number ≡ k → Covers v.number v.ended k (k + 1)
  covers_at v k own n low high = inl (omega arith)

  -- two that are joined cover what either did
  pub covers_both : (v w u : View I O) (from mid mid' to to' : ℕ) → mid ≡ mid' → to' ≡ to → u.number ≡ v.number → u.ended ≡ v.ended ++ (w.number, w.mine) ∷ w.ended
      → Covers v.number v.ended from mid → Covers w.number w.ended mid' to' → Covers u.number u.ended from to
  covers_both v w u from mid mid' to to' same_mid same_to own is here there = subst (λ (z : ℕ × List (ℕ × List I)). Covers z.0 z.1 from to) (λ i. (sym own i, sym is i))
      (subst (λ (k : ℕ). Covers v.number (v.ended ++ (w.number, w.mine) ∷ w.ended) from k) same_to
      (covers_joined v.number w.number from mid' to' v.ended w.ended w.mine (subst (Covers v.number v.ended from) same_mid here) there))

  pub covered_all : (p q : ℕ) (v : View I O) → p ≡ q → Covers v.number v.ended 0 q → HasAll p v
  covered_all p q v same covers = all_covered p v (subst (Covers v.number v.ended 0) (sym same) covers)
