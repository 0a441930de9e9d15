-- Where a part gives way to another with as many items, the items outside it stand where they stood.
use Rattle.std.proofs.Common.{◌≡◌, ℕ, suc, ◌+◌, ◌-◌, ◌<◌, ◌≤◌, ◌⊎◌, List, [], ◌∷◌, refl, ap, ◌∙◌, sym, inl, inr, arith}
use Rattle.std.proofs.lemmas.Bool.{cases_order}
use Rattle.tree_model.specs.declared.Side.{Side}
use Rattle.tree_model.specs.declared.Side.TheVariants.{Left, Right}
use Rattle.tree_model.specs.declared.Place.TheVariants.{Found}
use Rattle.tree_model.specs.Trees.{Tree, leaf, node, size, path}
use Rattle.tree_model.specs.Insertion.{child, with_child, tree_at, put_at}
use Rattle.tree_model.specs.Parts.{beside, before, IsWay, Outside}
use Rattle.tree_model.proofs.GraftPaths.{found-left, found-here, found-right, size-node, size-leaf}
use Rattle.tree_model.proofs.Parts.{part-within}

with_child-size : {A : Type 0} (side : Side) (t u : Tree A) → size u ≡ size (child side t) → size (with_child side t u) ≡ size t
unfolding with_child child size
with_child-size side leaf u e = refl
with_child-size Left (node l x r) u e = omega arith
with_child-size Right (node l x r) u e = omega arith

pub size-put_at : {A : Type 0} (way : List Side) (t part : Tree A) → size part ≡ size (tree_at way t) → size (put_at way t part) ≡ size t
unfolding put_at tree_at
size-put_at [] t part e = e
size-put_at (side ∷ way) t part e = with_child-size side t (put_at way (child side t) part) (size-put_at way (child side t) part e)

-- one step: outside the tree on one side nothing changes, within it what is known of it
outside-step : {A : Type 0} (side : Side) (t u : Tree A) (k : ℕ) → 0 < size t → size u ≡ size (child side t) → k < size t → ((m : ℕ) → k ≡ beside side t + m → m < size (child side t) → path u (Found m) ≡ path (child side t) (Found m)) → path (with_child side t u) (Found k) ≡ path t (Found k)
unfolding with_child child beside
outside-step {A} side leaf u k some e h same = let none = size-leaf A in absurd (omega arith)
outside-step Left (node l x r) u k some e h same =
    let many = size-node l x r in
    elim (cases_order k (size l)) [
      | inl here ↦ found-here u x r k (omega arith) ∙ sym (found-here l x r k here)
      | inr (inl left) ↦ found-left u x r k (omega arith) ∙ ap (λ (way : List Side). Left ∷ way) (same k (omega arith) left) ∙ sym (found-left l x r k left)
      | inr (inr right) ↦
          let m = k - suc (size l) in
          found-right u x r k m (omega arith) ∙ sym (found-right l x r k m (omega arith))
    ]
outside-step Right (node l x r) u k some e h same =
    let many = size-node l x r in
    elim (cases_order k (size l)) [
      | inl here ↦ found-here l x u k here ∙ sym (found-here l x r k here)
      | inr (inl left) ↦ found-left l x u k left ∙ sym (found-left l x r k left)
      | inr (inr right) ↦
          let m = k - suc (size l) in
          found-right l x u k m (omega arith)
          ∙ ap (λ (way : List Side). Right ∷ way) (same m (omega arith) (omega arith))
          ∙ sym (found-right l x r k m (omega arith))
    ]

-- before the first item of a part, or after its last
abbrev Beyond : ℕ → ℕ → ℕ → Type 0
Beyond first count k = (k < first) ⊎ (first + count ≤ k)

deeper : (side first count k m : ℕ) → k ≡ side + m → Beyond (side + first) count k → Beyond first count m
deeper side first count k m e (inl h) = inl (omega arith)
deeper side first count k m e (inr h) = inr (omega arith)

nothing_beyond : (count k : ℕ) → k < count → Beyond 0 count k → ⊥
nothing_beyond count k h (inl lt) = omega arith
nothing_beyond count k h (inr le) = omega arith

outside : {A : Type 0} (way : List Side) (t part : Tree A) (k : ℕ) → IsWay way t → size part ≡ size (tree_at way t) → k < size t → Beyond (before way t) (size part) k → path (put_at way t part) (Found k) ≡ path t (Found k)
unfolding IsWay before tree_at put_at
outside [] t part k is_way e h beyond = absurd (nothing_beyond (size part) k (omega arith) beyond)
outside (side ∷ way) t part k is_way e h beyond =
    outside-step side t (put_at way (child side t) part) k is_way.0 (size-put_at way (child side t) part e) h
    (λ m at lt. outside way (child side t) part m is_way.1 e lt (deeper (beside side t) (before way (child side t)) (size part) k m at beyond))

pub part_stays_outside : {A : Type 0} (t part : Tree A) (way : List Side) → IsWay way t → size part ≡ size (tree_at way t) → Outside A t (put_at way t part) (before way t) (size part)
part_stays_outside t part way is_way e =
    let within = part-within way t is_way in
    record {
      before_part = λ k lt. outside way t part k is_way e (omega arith) (inl lt);
      after_part = λ k le h. outside way t part k is_way e h (inr le);
    }
