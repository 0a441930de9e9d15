-- Entries whose codes become others in the same order.
use Rattle.std.proofs.Common.{◌≡◌, ℕ, ◌<◌, true, false, List, [], ◌∷◌, map, refl, ap, ◌∙◌, sym, subst, inl, inr, arith}
use Rattle.std.proofs.lemmas.Bool.{cases_order, cases_Bool, cases_eq}
use Rattle.mope_base.specs.Lists.{Each}
use Rattle.tree_model.specs.Places.{IsBelowAll, IsIncreasing}
use Rattle.tree_model.proofs.Ordered.{holds-cons_eq, holds-cons_ne}
use Rattle.code_changes.specs.Changes.{IsIn}
use Rattle.code_changes.proofs.Lists.{holds-nil, IsIn-cons, lt_of_IsIn}
use Rattle.column_index.specs.declared.entry.Entry.{Entry}
use Rattle.column_index.specs.Entries.{precedes, put, sorted, codes_in, PrecedesAll, IsOrdered}
use Rattle.column_index.specs.Recoding.{recoded, KeepsOrder}
use Rattle.column_index.proofs.Orders.{Before, Before-of, precedes-true, precedes-false}
use Rattle.column_index.proofs.Sorting.{put-nothing, put-first, put-later, sorted-nothing, sorted-cons}

-- ---- from increasing lists

below_image : (to : ℕ → ℕ) (v b : ℕ) (xs : List ℕ) → IsBelowAll v (map to xs) → IsIn b xs → v < to b
unfolding IsBelowAll
below_image to v b [] above h = absurd (let f : false ≡ true = sym (holds-nil b) ∙ h in cc)
below_image to v b (x ∷ xs) above h =
    elim (cases_eq x b) [
      | inl same ↦ subst (λ (z : ℕ). v < to z) same above.0
      | inr other ↦ below_image to v b xs above.1 (sym (holds-cons_ne b x xs other) ∙ h)
    ]

keeps_among : (to : ℕ → ℕ) (all : List ℕ) → IsIncreasing all → IsIncreasing (map to all) → (a b : ℕ) → IsIn a all → IsIn b all → a < b → to a < to b
unfolding IsIncreasing
keeps_among to [] up images a b ha hb lt = absurd (let f : false ≡ true = sym (holds-nil a) ∙ ha in cc)
keeps_among to (x ∷ xs) up images a b ha hb lt =
    elim (cases_eq x b) [
      | inl last ↦ elim (cases_eq x a) [
        | inl first ↦ absurd (omega arith)
        | inr later ↦ absurd (let above = lt_of_IsIn x a xs up.0 (sym (holds-cons_ne a x xs later) ∙ ha) in omega (arith, above))
      ]
      | inr other ↦
          let among : IsIn b xs = sym (holds-cons_ne b x xs other) ∙ hb in
          elim (cases_eq x a) [
            | inl first ↦ subst (λ (z : ℕ). to z < to b) first (below_image to (to x) b xs images.0 among)
            | inr later ↦ keeps_among to xs up.1 images.1 a b (sym (holds-cons_ne a x xs later) ∙ ha) among lt
          ]
    ]

pub keeps_order : (to : ℕ → ℕ) (codes all : List ℕ) → IsIncreasing all → IsIncreasing (map to all) → ((code : ℕ) → IsIn code codes → IsIn code all) → KeepsOrder to codes
keeps_order to codes all up images among = λ a b ha hb lt. keeps_among to all up images a b (among a ha) (among b hb) lt

-- ---- entries with codes of a list

among_more : (code : ℕ) (codes : List ℕ) (es : List Entry) → Each (λ e. IsIn e.enc codes) es → Each (λ e. IsIn e.enc (code ∷ codes)) es
unfolding Each
among_more code codes [] h = tt
among_more code codes (e ∷ es) h = (IsIn-cons e.enc code codes h.0, among_more code codes es h.1)

pub among_own : (es : List Entry) → Each (λ e. IsIn e.enc (codes_in es)) es
unfolding Each codes_in
among_own [] = tt
among_own (e ∷ es) = (holds-cons_eq e.enc e.enc (codes_in es) refl, among_more e.enc (codes_in es) es (among_own es))

Each-put : (codes : List ℕ) (e : Entry) (es : List Entry) → IsIn e.enc codes → Each (λ x. IsIn x.enc codes) es → Each (λ x. IsIn x.enc codes) (put e es)
unfolding Each
Each-put codes e [] here h = rw (put-nothing e) (here, tt)
Each-put codes e (x ∷ xs) here h =
    elim (cases_Bool (precedes e x)) [
      | inl first ↦ rw (put-first e x xs first) (here, h)
      | inr later ↦ rw (put-later e x xs later) (h.0, Each-put codes e xs here h.1)
    ]

Each-sorted : (codes : List ℕ) (es : List Entry) → Each (λ x. IsIn x.enc codes) es → Each (λ x. IsIn x.enc codes) (sorted es)
unfolding Each
Each-sorted codes [] h = rw sorted-nothing tt
Each-sorted codes (e ∷ es) h = rw (sorted-cons e es) (Each-put codes e (sorted es) h.0 (Each-sorted codes es h.1))

-- ---- the order of two

Before-recoded : (to : ℕ → ℕ) (codes : List ℕ) (e x : Entry) → KeepsOrder to codes → IsIn e.enc codes → IsIn x.enc codes → Before e x → Before (recoded to e) (recoded to x)
unfolding recoded
Before-recoded to codes e x keeps he hx h =
    elim h [
      | inl lt ↦ inl (keeps e.enc x.enc he hx lt)
      | inr at ↦ inr (ap to at.0, at.1)
    ]

Before-unrecoded : (to : ℕ → ℕ) (codes : List ℕ) (e x : Entry) → KeepsOrder to codes → IsIn e.enc codes → IsIn x.enc codes → Before (recoded to e) (recoded to x) → Before e x
unfolding recoded
Before-unrecoded to codes e x keeps he hx h =
    elim (cases_order e.enc x.enc) [
      | inl same ↦ elim h [
        | inl lt ↦ absurd (omega (arith, ap to same, lt))
        | inr at ↦ inr (same, at.1)
      ]
      | inr (inl lt) ↦ inl lt
      | inr (inr gt) ↦
          let back = keeps x.enc e.enc hx he gt in
          elim h [ inl lt ↦ absurd (omega (arith, back, lt)) | inr at ↦ absurd (omega (arith, back, at.0)) ]
    ]

precedes-recoded : (to : ℕ → ℕ) (codes : List ℕ) (e x : Entry) → KeepsOrder to codes → IsIn e.enc codes → IsIn x.enc codes → precedes (recoded to e) (recoded to x) ≡ precedes e x
precedes-recoded to codes e x keeps he hx =
    elim (cases_Bool (precedes e x)) [
      | inl first ↦ precedes-true (recoded to e) (recoded to x) (Before-recoded to codes e x keeps he hx (Before-of e x first)) ∙ sym first
      | inr later ↦
          precedes-false (recoded to e) (recoded to x) (λ h.
          let f : true ≡ false = sym (precedes-true e x (Before-unrecoded to codes e x keeps he hx h)) ∙ later in cc)
          ∙ sym later
    ]

-- ---- a list

put-recoded : (to : ℕ → ℕ) (codes : List ℕ) (e : Entry) (es : List Entry) → KeepsOrder to codes → IsIn e.enc codes → Each (λ x. IsIn x.enc codes) es → map (recoded to) (put e es) ≡ put (recoded to e) (map (recoded to) es)
unfolding Each
put-recoded to codes e [] keeps here h = ap (map (recoded to)) (put-nothing e) ∙ sym (put-nothing (recoded to e))
put-recoded to codes e (x ∷ xs) keeps here h =
    let same = precedes-recoded to codes e x keeps here h.0 in
    elim (cases_Bool (precedes e x)) [
      | inl first ↦ ap (map (recoded to)) (put-first e x xs first) ∙ sym (put-first (recoded to e) (recoded to x) (map (recoded to) xs) (same ∙ first))
      | inr later ↦
          ap (map (recoded to)) (put-later e x xs later) ∙ ap (λ (zs : List Entry). recoded to x ∷ zs) (put-recoded to codes e xs keeps here h.1)
          ∙ sym (put-later (recoded to e) (recoded to x) (map (recoded to) xs) (same ∙ later))
    ]

sorted-recoded_among : (to : ℕ → ℕ) (codes : List ℕ) (es : List Entry) → KeepsOrder to codes → Each (λ x. IsIn x.enc codes) es → map (recoded to) (sorted es) ≡ sorted (map (recoded to) es)
unfolding Each
sorted-recoded_among to codes [] keeps h = ap (map (recoded to)) sorted-nothing ∙ sym sorted-nothing
sorted-recoded_among to codes (e ∷ es) keeps h =
    ap (map (recoded to)) (sorted-cons e es) ∙ put-recoded to codes e (sorted es) keeps h.0 (Each-sorted codes es h.1)
    ∙ ap (put (recoded to e)) (sorted-recoded_among to codes es keeps h.1) ∙ sym (sorted-cons (recoded to e) (map (recoded to) es))

pub sorted-recoded : (to : ℕ → ℕ) (es : List Entry) → KeepsOrder to (codes_in es) → map (recoded to) (sorted es) ≡ sorted (map (recoded to) es)
sorted-recoded to es keeps = sorted-recoded_among to (codes_in es) es keeps (among_own es)

-- ---- an index stays in order

PrecedesAll-recoded : (to : ℕ → ℕ) (codes : List ℕ) (e : Entry) (es : List Entry) → KeepsOrder to codes → IsIn e.enc codes → Each (λ x. IsIn x.enc codes) es → PrecedesAll e es → PrecedesAll (recoded to e) (map (recoded to) es)
unfolding Each PrecedesAll
PrecedesAll-recoded to codes e [] keeps here h all = tt
PrecedesAll-recoded to codes e (x ∷ xs) keeps here h all = (precedes-recoded to codes e x keeps here h.0 ∙ all.0, PrecedesAll-recoded to codes e xs keeps here h.1 all.1)

IsOrdered-recoded_among : (to : ℕ → ℕ) (codes : List ℕ) (es : List Entry) → KeepsOrder to codes → Each (λ x. IsIn x.enc codes) es → IsOrdered es → IsOrdered (map (recoded to) es)
unfolding Each IsOrdered
IsOrdered-recoded_among to codes [] keeps h ordered = tt
IsOrdered-recoded_among to codes (e ∷ es) keeps h ordered = (PrecedesAll-recoded to codes e es keeps h.0 h.1 ordered.0, IsOrdered-recoded_among to codes es keeps h.1 ordered.1)

pub IsOrdered-recoded : (to : ℕ → ℕ) (es : List Entry) → KeepsOrder to (codes_in es) → IsOrdered es → IsOrdered (map (recoded to) es)
IsOrdered-recoded to es keeps ordered = IsOrdered-recoded_among to (codes_in es) es keeps (among_own es) ordered
