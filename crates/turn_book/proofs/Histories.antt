-- The items of one number, beginnings of lists, and facts about each element.
use Rattle.std.proofs.Common.{◌≡◌, ◌≢◌, ℕ, ◌≤◌, Bool, true, false, eqb, List, [], ◌∷◌, ◌++◌, length, refl, ap, sym, ◌∙◌, ⊎_elim, subst, arith, append_assoc, append-nil, eq-eqb, ne_eqb}
use mathlib.Core.List.{IsPrefix}
use Rattle.turn_book.specs.Accounts.{kept, items_of, Each, HasNumber}

kept_append : {A : Type 0} (b : Bool) (y : A) (xs ys : List A) → kept b y (xs ++ ys) ≡ kept b y xs ++ ys
kept_append true y xs ys = refl
kept_append false y xs ys = refl

module _ {I : Type 0} (number : I → ℕ) where
  items_snoc : (n : ℕ) (h : List I) (x : I) → items_of number n (h ++ x ∷ []) ≡ items_of number n h ++ kept (eqb (number x) n) x []
  items_snoc n [] x = refl
  items_snoc n (y ∷ ys) x = ap (kept (eqb (number y) n) y) (items_snoc n ys x) ∙ kept_append (eqb (number y) n) y (items_of number n ys) (kept (eqb (number x) n) x [])

  pub items_other : (n : ℕ) (h : List I) (x : I) → number x ≢ n → items_of number n (h ++ x ∷ []) ≡ items_of number n h
  items_other n h x apart = items_snoc n h x ∙ (ap (λ (b : Bool). items_of number n h ++ kept b x []) (ne_eqb (number x) n apart) ∙ append-nil (items_of number n h))

  pub items_own : (n : ℕ) (h : List I) (x : I) → number x ≡ n → items_of number n (h ++ x ∷ []) ≡ items_of number n h ++ x ∷ []
  items_own n h x same = items_snoc n h x ∙ ap (λ (b : Bool). items_of number n h ++ kept b x []) (eq-eqb (number x) n same)

module _ {A : Type 0} where
  pub each_map : (P Q : A → Type 0) → ((x : A) → P x → Q x) → (xs : List A) → Each P xs → Each Q xs
  each_map P Q f [] e = tt
  each_map P Q f (x ∷ xs) e = (f x e.0, each_map P Q f xs e.1)

  pub each_append : (P : A → Type 0) (xs ys : List A) → Each P xs → Each P ys → Each P (xs ++ ys)
  each_append P [] ys e d = d
  each_append P (x ∷ xs) ys e d = (e.0, each_append P xs ys e.1 d)

  -- what holds of each pair's number holds of a number that one of them has
  pub each_number : (P : ℕ → Type 0) (n : ℕ) (es : List (ℕ × A)) → Each (λ e. P e.0) es → HasNumber n es → P n
  each_number P n [] e h = absurd h
  each_number P n (x ∷ xs) e h = ⊎_elim (λ (t : x.0 ≡ n). subst P t e.0) (λ (t : HasNumber n xs). each_number P n xs e.1 t) h

  pub prefix_self : (xs : List A) → IsPrefix xs xs
  prefix_self xs = ([], append-nil xs)

  pub prefix_trans : (xs ys zs : List A) → IsPrefix xs ys → IsPrefix ys zs → IsPrefix xs zs
  prefix_trans xs ys zs p q = (p.0 ++ q.0, sym (append_assoc xs p.0 q.0) ∙ (ap (λ w. w ++ q.0) p.1 ∙ q.1))

  -- of two beginnings of one list the shorter begins the longer
  pub prefix_shorter : (xs ys zs : List A) → IsPrefix xs zs → IsPrefix ys zs → length xs ≤ length ys → IsPrefix xs ys
  prefix_shorter [] ys zs p q le = (ys, refl)
  prefix_shorter (x ∷ xs) [] zs p q le = absurd (omega arith)
  prefix_shorter (x ∷ xs) (y ∷ ys) [] p q le = absurd (cc (p.1))
  prefix_shorter (x ∷ xs) (y ∷ ys) (z ∷ zs) p q le =
      let heads : x ≡ y = cc (p.1, q.1) in
      let rest = prefix_shorter xs ys zs (p.0, cc (p.1)) (q.0, cc (q.1)) (omega arith) in
      (rest.0, cc (heads, rest.1))
