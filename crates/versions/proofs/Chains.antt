-- Changes of a column's codes in turn: one list after another, a list cut in two, and all of them as one.
use Rattle.std.proofs.Common.{◌≡◌, ℕ, ◌≤◌, Bool, List, [], ◌∷◌, ◌++◌, refl, ap, sym, ◌∙◌, subst, append_assoc}
use Rattle.std.proofs.lemmas.List.{append-nil}
use Rattle.mope_base.specs.declared.body.Body.{Body}
use Rattle.tree_model.specs.Trees.{height}
use Rattle.tree_model.specs.Columns.{Column, Operation, apply_all}
use Rattle.tree_model.proofs.Summed.{apply_all-append, origins-nothing}
use Rattle.path_code.specs.Sums.{Sum, sum_of, sum_by_origins}
use Rattle.code_changes.specs.Changes.{Fits}
use Rattle.code_changes.specs.Columns.{codes_of}
use Rattle.code_changes.specs.CompositionLaws.{unchanged}
use Rattle.code_changes.specs.Compositions.{FitsInTurn, both_on}
use Rattle.code_changes.proofs.Leading.{operations_fit}
use Rattle.code_changes.proofs.NormalSums.{sums_compose}
use Rattle.code_changes.proofs.Staying.{sum-nothing}
use Rattle.versions.specs.Summed.{IsSummed, AreInTurn}

pub chain-height : (same_time : Bool) (c : Column Body) (operations : List (Operation Body)) (sums : List Sum) → IsSummed same_time c operations sums → height c.tree ≤ 63
unfolding IsSummed
chain-height same_time c operations [] h = h.0
chain-height same_time c operations (s ∷ sums) h = h.1.1.0

pub chain-end : (same_time : Bool) (c : Column Body) (operations : List (Operation Body)) (sums : List Sum) → IsSummed same_time c operations sums → height (apply_all same_time operations c).tree ≤ 63
unfolding IsSummed apply_all
chain-end same_time c operations [] h = subst (λ (l : List (Operation Body)). height (apply_all same_time l c).tree ≤ 63) (sym h.1) h.0
chain-end same_time c operations (s ∷ sums) h =
    let after = apply_all same_time h.0 c in
    let e : apply_all same_time operations c ≡ apply_all same_time h.1.0 after = ap (λ (l : List (Operation Body)). apply_all same_time l c) h.1.1.1 ∙ apply_all-append same_time h.0 h.1.0 c in
    subst (λ (d : Column Body). height d.tree ≤ 63) (sym e) (chain-end same_time after h.1.0 sums h.1.1.3)

-- ---- one list after another

pub chain-append : (same_time : Bool) (c : Column Body) (earlier later : List (Operation Body)) (xs ys : List Sum) → IsSummed same_time c earlier xs → IsSummed same_time (apply_all same_time earlier c) later ys → IsSummed same_time c (earlier ++ later) (xs ++ ys)
unfolding IsSummed apply_all
chain-append same_time c earlier later [] ys h more =
    subst (λ (l : List (Operation Body)). IsSummed same_time c (l ++ later) ys) (sym h.1)
    (subst (λ (l : List (Operation Body)). IsSummed same_time (apply_all same_time l c) later ys) h.1 more)
chain-append same_time c earlier later (s ∷ xs) ys h more =
    let part = h.0 in
    let rest = h.1.0 in
    let after = apply_all same_time part c in
    let e : apply_all same_time earlier c ≡ apply_all same_time rest after = ap (λ (l : List (Operation Body)). apply_all same_time l c) h.1.1.1 ∙ apply_all-append same_time part rest c in
    let k = chain-append same_time after rest later xs ys h.1.1.3 (subst (λ (d : Column Body). IsSummed same_time d later ys) e more) in
    (part, (rest ++ later, (h.1.1.0, ap (λ (l : List (Operation Body)). l ++ later) h.1.1.1 ∙ append_assoc part rest later, h.1.1.2, k)))

-- one change more
pub chain-one_more : (same_time : Bool) (c : Column Body) (earlier later : List (Operation Body)) (xs : List Sum) → IsSummed same_time c earlier xs → height (apply_all same_time (earlier ++ later) c).tree ≤ 63
    → IsSummed same_time c (earlier ++ later) (xs ++ sum_of same_time later (apply_all same_time earlier c) ∷ [])
unfolding IsSummed apply_all
chain-one_more same_time c earlier later xs h low =
    let after = apply_all same_time earlier c in
    chain-append same_time c earlier later xs (sum_of same_time later after ∷ []) h
    (later, ([], (chain-end same_time c earlier xs h, sym (append-nil later), refl, (subst (λ (d : Column Body). height d.tree ≤ 63) (apply_all-append same_time earlier later c) low, refl))))

-- ---- a list cut in two

pub record Cut (same_time : Bool) (c : Column Body) (operations : List (Operation Body)) (xs ys : List Sum) : Type 0 where
  pub earlier : List (Operation Body)
  pub later : List (Operation Body)
  pub whole : operations ≡ earlier ++ later
  pub first : IsSummed same_time c earlier xs
  pub second : IsSummed same_time (apply_all same_time earlier c) later ys

pub chain-cut : (same_time : Bool) (c : Column Body) (operations : List (Operation Body)) (xs ys : List Sum) → IsSummed same_time c operations (xs ++ ys) → Cut same_time c operations xs ys
unfolding IsSummed apply_all
chain-cut same_time c operations [] ys h = record { earlier = []; later = operations; whole = refl; first = (chain-height same_time c operations ys h, refl); second = h }
chain-cut same_time c operations (s ∷ xs) ys h =
    let part = h.0 in
    let rest = h.1.0 in
    let after = apply_all same_time part c in
    let cut = chain-cut same_time after rest xs ys h.1.1.3 in
    record {
      earlier = part ++ cut.earlier;
      later = cut.later;
      whole = h.1.1.1 ∙ ap (λ (l : List (Operation Body)). part ++ l) cut.whole ∙ sym (append_assoc part cut.earlier cut.later);
      first = (part, (cut.earlier, (h.1.1.0, refl, h.1.1.2, cut.first)));
      second = subst (λ (d : Column Body). IsSummed same_time d cut.later ys) (sym (apply_all-append same_time part cut.earlier c)) cut.second;
    }

-- ---- all as one

pub sum-none : (same_time : Bool) (c : Column Body) → sum_of same_time [] c ≡ unchanged
unfolding sum_of apply_all unchanged
sum-none same_time c = ap (sum_by_origins c.tree c.tree) (origins-nothing same_time c) ∙ sum-nothing c.tree c.tree refl refl

pub chain-none : (same_time : Bool) (c : Column Body) (operations : List (Operation Body)) → IsSummed same_time c operations [] → unchanged ≡ sum_of same_time operations c
unfolding IsSummed
chain-none same_time c operations h = sym (ap (λ (l : List (Operation Body)). sum_of same_time l c) h.1 ∙ sum-none same_time c)

pub chain-one : (same_time : Bool) (c : Column Body) (operations : List (Operation Body)) (s : Sum) → IsSummed same_time c operations (s ∷ []) → s ≡ sum_of same_time operations c
unfolding IsSummed
chain-one same_time c operations s h =
    h.1.1.2 ∙ ap (λ (l : List (Operation Body)). sum_of same_time l c) (sym (h.1.1.1 ∙ ap (λ (l : List (Operation Body)). h.0 ++ l) h.1.1.3.1 ∙ append-nil h.0))

-- the sums of both parts fit in turn, and their composition is the sum of all
pub record Both (same_time : Bool) (c : Column Body) (operations : List (Operation Body)) (s next : Sum) : Type 0 where
  pub in_turn : FitsInTurn s next (codes_of c.tree)
  pub both : both_on s next (codes_of c.tree) ≡ sum_of same_time operations c

pub chain-both : (same_time : Bool) (c : Column Body) (operations : List (Operation Body)) (xs ys : List Sum) (cut : Cut same_time c operations xs ys)
    → Both same_time c operations (sum_of same_time cut.earlier c) (sum_of same_time cut.later (apply_all same_time cut.earlier c))
chain-both same_time c operations xs ys cut =
    let after = apply_all same_time cut.earlier c in
    let low = chain-height same_time c cut.earlier xs cut.first in
    let low_after = chain-end same_time c cut.earlier xs cut.first in
    let low_end = chain-end same_time after cut.later ys cut.second in
    let leads = operations_fit same_time cut.earlier c low low_after in
    let leads_on = operations_fit same_time cut.later after low_after low_end in
    record {
      in_turn = record { earlier = leads.fits; later = subst (λ (codes : List ℕ). Fits (sum_of same_time cut.later after) codes) (sym leads.gives) leads_on.fits };
      both = sums_compose same_time cut.earlier cut.later c low low_after low_end ∙ ap (λ (l : List (Operation Body)). sum_of same_time l c) (sym cut.whole);
    }

-- ---- two lists of changes, each as one

pub in_turn-first : (xs ys sums : List Sum) → xs ++ ys ≡ sums → AreInTurn sums → AreInTurn xs
in_turn-first xs ys sums e h =
    let cut = chain-cut h.same_time h.column h.operations xs ys (subst (λ (l : List Sum). IsSummed h.same_time h.column h.operations l) (sym e) h.summed) in
    record { same_time = h.same_time; column = h.column; operations = cut.earlier; summed = cut.first }

pub in_turn-second : (xs ys sums : List Sum) → xs ++ ys ≡ sums → AreInTurn sums → AreInTurn ys
in_turn-second xs ys sums e h =
    let cut = chain-cut h.same_time h.column h.operations xs ys (subst (λ (l : List Sum). IsSummed h.same_time h.column h.operations l) (sym e) h.summed) in
    record { same_time = h.same_time; column = apply_all h.same_time cut.earlier h.column; operations = cut.later; summed = cut.second }

fits-cut : (same_time : Bool) (c : Column Body) (operations : List (Operation Body)) (xs ys : List Sum) (s next : Sum)
    → ((st : Bool) (d : Column Body) (ops : List (Operation Body)) → IsSummed st d ops xs → s ≡ sum_of st ops d)
    → ((st : Bool) (d : Column Body) (ops : List (Operation Body)) → IsSummed st d ops ys → next ≡ sum_of st ops d)
    → Cut same_time c operations xs ys → Both same_time c operations s next
fits-cut same_time c operations xs ys s next first second cut =
    let both = chain-both same_time c operations xs ys cut in
    subst (λ (x : Sum). Both same_time c operations x next) (sym (first same_time c cut.earlier cut.first))
    (subst (λ (x : Sum). Both same_time c operations (sum_of same_time cut.earlier c) x) (sym (second same_time (apply_all same_time cut.earlier c) cut.later cut.second)) both)

pub fits-halves : (xs ys sums : List Sum) (s next : Sum) → xs ++ ys ≡ sums
    → ((st : Bool) (d : Column Body) (ops : List (Operation Body)) → IsSummed st d ops xs → s ≡ sum_of st ops d)
    → ((st : Bool) (d : Column Body) (ops : List (Operation Body)) → IsSummed st d ops ys → next ≡ sum_of st ops d)
    → AreInTurn sums → (codes : List ℕ) × FitsInTurn s next codes
fits-halves xs ys sums s next e first second h =
    let cut = chain-cut h.same_time h.column h.operations xs ys (subst (λ (l : List Sum). IsSummed h.same_time h.column h.operations l) (sym e) h.summed) in
    (codes_of h.column.tree, (fits-cut h.same_time h.column h.operations xs ys s next first second cut).in_turn)

pub whole-halves : (xs ys sums : List Sum) (s next both : Sum) → xs ++ ys ≡ sums
    → ((st : Bool) (d : Column Body) (ops : List (Operation Body)) → IsSummed st d ops xs → s ≡ sum_of st ops d)
    → ((st : Bool) (d : Column Body) (ops : List (Operation Body)) → IsSummed st d ops ys → next ≡ sum_of st ops d)
    → ((codes : List ℕ) → FitsInTurn s next codes → both ≡ both_on s next codes)
    → (same_time : Bool) (c : Column Body) (operations : List (Operation Body)) → IsSummed same_time c operations sums → both ≡ sum_of same_time operations c
whole-halves xs ys sums s next both e first second is same_time c operations h =
    let cut = chain-cut same_time c operations xs ys (subst (λ (l : List Sum). IsSummed same_time c operations l) (sym e) h) in
    let fit = fits-cut same_time c operations xs ys s next first second cut in
    is (codes_of c.tree) fit.in_turn ∙ fit.both
