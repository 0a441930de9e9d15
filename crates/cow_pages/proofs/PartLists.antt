-- What a page becomes: nothing, one page or two.
use Rattle.std.proofs.Common.{◌≡◌, ℕ, suc, ◌<◌, ◌≤◌, List, [], ◌∷◌, ◌++◌, length, take, drop, refl, ap, ◌∙◌, sym, subst, arith, length-append}
use Rattle.std.proofs.lemmas.List.{append-nil, take-append-drop}
use Rattle.std.specs.Prelude.{Result, Ok, Err, IfOk}
use Rattle.cow_pages.specs.declared.making.Parts.{Parts}
use Rattle.cow_pages.specs.declared.making.Parts.TheVariants.{Gone, One, Two}
use Rattle.cow_pages.specs.Lists.{flat, Below}
use Rattle.cow_pages.specs.Parts.{IsPartsOf, pages_of}
use Rattle.cow_pages.proofs.PageLists.{flat-append, Below-front, Below-back, Below-raised}

nothing : {A : Type 0} (items : List A) → length items ≡ 0 → [] ≡ items
nothing [] none = refl
nothing (x ∷ items) none = absurd (omega arith)

pub parts-gone : {A : Type 0} (height : ℕ) (items : List A) → length items ≡ 0 → IsPartsOf height Gone items
unfolding flat Below
parts-gone height items none = record { same = nothing items none; low = tt }

pub parts-gone-pages : {A : Type 0} (height : ℕ) (pages : List (ℕ × List A)) → length pages ≡ 0 → IsPartsOf height Gone (flat pages)
unfolding flat Below
parts-gone-pages height pages none = record { same = ap flat (nothing pages none); low = tt }

pub parts-one : {A : Type 0} (height : ℕ) (page : ℕ × List A) (items : List A) → page ≡ (height, items) → IsPartsOf height (One page) items
unfolding flat Below
parts-one height page items is = record {
  same = append-nil page.1 ∙ ap (λ (p : ℕ × List _). p.1) is;
  low = (let same : page.0 ≡ height = ap (λ (p : ℕ × List _). p.0) is in omega arith, tt);
}

pub parts-two : {A : Type 0} (height : ℕ) (page next : ℕ × List A) (first second items : List A) → page ≡ (height, first) → next ≡ (height, second) → first ++ second ≡ items → IsPartsOf height (Two page next) items
unfolding flat Below
parts-two height page next first second items is is_next sum = record {
  same = ap (λ (zs : List _). page.1 ++ zs) (append-nil next.1) ∙ ap (λ (p : ℕ × List _). p.1 ++ next.1) is ∙ ap (λ (p : ℕ × List _). first ++ p.1) is_next ∙ sum;
  low = (
    let same : page.0 ≡ height = ap (λ (p : ℕ × List _). p.0) is in omega arith,
    (
      let same : next.0 ≡ height = ap (λ (p : ℕ × List _). p.0) is_next in omega arith,
      tt,
    ),
  );
}

pub flat-halves : {A : Type 0} (pages : List (ℕ × List A)) (k : ℕ) → flat (take k pages) ++ flat (drop k pages) ≡ flat pages
flat-halves pages k = sym (flat-append (take k pages) (drop k pages)) ∙ ap flat (take-append-drop k pages)

pub flat-front : {A : Type 0} (pages : List (ℕ × List A)) (k : ℕ) → length (flat (take k pages)) ≤ length (flat pages)
flat-front pages k = omega (arith, ap length (flat-halves pages k), length-append (flat (take k pages)) (flat (drop k pages)))

pub flat-back : {A : Type 0} (pages : List (ℕ × List A)) (k : ℕ) → length (flat (drop k pages)) ≤ length (flat pages)
flat-back pages k = omega (arith, ap length (flat-halves pages k), length-append (flat (take k pages)) (flat (drop k pages)))

pub low-halves : {A : Type 0} (height : ℕ) (pages : List (ℕ × List A)) (k : ℕ) → Below height pages → Below height (take k pages) × Below height (drop k pages)
low-halves height pages k low =
    let both : Below height (take k pages ++ drop k pages) = subst (Below height) (sym (take-append-drop k pages)) low in
    (Below-front height (take k pages) (drop k pages) both, Below-back height (take k pages) (drop k pages) both)

pub IfOk-map : {X E : Type 0} {P Q : X → Type 0} (r : Result X E) → ((x : X) → P x → Q x) → IfOk r P → IfOk r Q
IfOk-map (Ok x) f h = f x h
IfOk-map (Err e) f h = h

-- the same parts, of a height that is no lower, and of an equal list
pub parts-as : {A : Type 0} (low height : ℕ) (parts : Parts A) (items others : List A) → low ≤ height → items ≡ others → IsPartsOf low parts items → IsPartsOf height parts others
parts-as low height parts items others le same h = record {
  same = h.same ∙ same;
  low = Below-raised (suc low) (suc height) (pages_of parts) (omega arith) h.low;
}

pub flat-one : {A : Type 0} (page : ℕ × List A) → flat (page ∷ []) ≡ page.1
unfolding flat
flat-one page = append-nil page.1

pub flat-two : {A : Type 0} (page next : ℕ × List A) → flat (page ∷ next ∷ []) ≡ page.1 ++ next.1
unfolding flat
flat-two page next = ap (λ (zs : List _). page.1 ++ zs) (append-nil next.1)

pub low-two : {A : Type 0} (height : ℕ) (page next : ℕ × List A) → page.0 < height → next.0 < height → Below height (page ∷ next ∷ [])
unfolding Below
low-two height page next low low_next = (low, (low_next, tt))
