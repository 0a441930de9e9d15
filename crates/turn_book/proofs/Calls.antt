-- What a whole turn tells, from what its steps tell.
use Rattle.std.proofs.Common.{◌≡◌, ℕ, List, [], ◌∷◌, ◌++◌, length, Option, Some, None, unwrap_or, sym, ap, ◌∙◌, subst, ⊎_elim, arith, length-append}
use mathlib.Core.List.{IsPrefix}
use Rattle.atomic_table.specs.Table.{Me}
use Rattle.turn_book.specs.declared.view.View.{View}
use Rattle.turn_book.specs.declared.view.Stage.TheVariants.{Waits, Turn}
use Rattle.turn_book.specs.Accounts.{items_of}
use Rattle.turn_book.specs.Protocol.{at_stage, having_seen, Gains, Follows}
use Rattle.turn_book.proofs.Histories.{items_own}

module _ {I : Type 0} (number : I → ℕ) where
  last_same : (l : List I) (x y : I) → l ++ x ∷ [] ≡ l ++ y ∷ [] → x ≡ y
  last_same [] x y e = cc e
  last_same (z ∷ zs) x y e = last_same zs x y (cc e)

  -- the items of the number are those before and the one that was added
  pub added : (n : ℕ) (seen mine next : List I) (x : I) → Follows number n seen next → next ≡ seen ++ x ∷ [] → items_of number n seen ≡ mine → items_of number n next ≡ mine ++ x ∷ []
  added n seen mine next x follows is own = ⊎_elim
      (λ (e : next ≡ seen). absurd (omega (arith, ap length (sym e ∙ is), length-append seen (x ∷ []))))
      (λ (t : (y : I) × (next ≡ seen ++ y ∷ []) × (number y ≡ n)). ap (items_of number n) is ∙ (items_own number n seen x (ap number (last_same seen x t.0 (sym is ∙ t.1)) ∙ t.2) ∙ ap (λ (l : List I). l ++ x ∷ []) own)) follows

module _ {T I O : Type 0} (items : T → List I) (origin_of : T → O) (number : I → ℕ) where
  abbrev M : Type 0
  M = Me (Option T) (View I O)

  -- the value lies with the pass, which has seen its history
  abbrev pub Took : M → T → M → Type 0
  Took m y m' = (t : ℕ) × (m' ≡ (having_seen (at_stage m.0 (Turn t (items y))) (items y), (0, None) ∷ [])) × (m.0.origin ≡ Some (origin_of y)) × IsPrefix m.0.seen (items y) × (items_of number m.0.number (items y) ≡ m.0.mine)

  abbrev first_value : T → List (ℕ × Option T) → T
  first_value d [] = d
  first_value d (x ∷ xs) = unwrap_or x.1 d

  pub took : (m m1 m2 m3 m4 : M) (t : ℕ) (result : T) → m1 ≡ (at_stage m.0 (Waits t), m.1) → Gains items origin_of number t m1 m2
      → ((now : List I) → m2.0.stage ≡ Turn t now → m3 ≡ (having_seen m2.0 now, m2.1)) → m3.1 ≡ (0, Some result) ∷ [] → m4 ≡ (m3.0, (0, None) ∷ []) → Took m result m4
  took m m1 m2 m3 m4 t result drawn gains sees out left = let y : T = gains.0 in
      let see = sees (items y) (ap (λ (z : M). z.0.stage) gains.1) in
      let is : y ≡ result = ap (first_value y) (sym (ap (λ (z : M). z.1) see ∙ ap (λ (z : M). z.1) gains.1) ∙ out) in
      let view = ap (λ (z : M). z.0) see ∙ (ap (λ (z : M). having_seen z.0 (items y)) gains.1 ∙ ap (λ (z : M). having_seen (at_stage z.0 (Turn t (items y))) (items y)) drawn) in
      let same = ap (λ (z : M). z.0) drawn in
      subst (λ (z : T). Took m z m4) is (
        t,
        left ∙ ap (λ (v : View I O). (v, (0, None) ∷ [])) view,
        ap (λ (z : M). z.0.origin) (sym drawn) ∙ gains.2,
        subst (λ (v : View I O). IsPrefix v.seen (items y)) same gains.3,
        subst (λ (v : View I O). items_of number v.number (items y) ≡ v.mine) same gains.4,
      )

  -- what the seat holds before the value is taken out of its slot
  pub held : (m m1 m2 m3 : M) (t : ℕ) → m.1 ≡ [] → m1 ≡ (at_stage m.0 (Waits t), m.1) → Gains items origin_of number t m1 m2
      → ((now : List I) → m2.0.stage ≡ Turn t now → m3 ≡ (having_seen m2.0 now, m2.1)) → (y : T) × (m3.1 ≡ (0, Some y) ∷ [])
  held m m1 m2 m3 t none_held drawn gains sees = let y : T = gains.0 in let see = sees (items y) (ap (λ (z : M). z.0.stage) gains.1) in
      (y, ap (λ (z : M). z.1) see ∙ (ap (λ (z : M). z.1) gains.1 ∙ ap (λ (l : List (ℕ × Option T)). (0, Some y) ∷ l) (ap (λ (z : M). z.1) drawn ∙ none_held)))
