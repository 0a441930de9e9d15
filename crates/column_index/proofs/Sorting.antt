-- The index as a function of the rows: entries put one after another.
use Rattle.std.proofs.Common.{◌≡◌, Bool, true, false, ◌||◌, List, [], ◌∷◌, ◌++◌, refl, ap, ◌∙◌, sym, inl, inr}
use Rattle.std.proofs.lemmas.Bool.{cases_Bool}
use Rattle.column_index.specs.declared.entry.Entry.{Entry}
use Rattle.column_index.specs.Entries.{precedes, is_same, holds_entry, put, without, sorted, PrecedesAll, IsOrdered}
use Rattle.column_index.proofs.Orders.{precedes-true, cases_entries, precedes-asym, precedes-trans, precedes-other, is_same-itself, other_of_false}

pub put-nothing : (e : Entry) → put e [] ≡ e ∷ []
unfolding put
put-nothing e = refl

pub put-first : (e x : Entry) (xs : List Entry) → precedes e x ≡ true → put e (x ∷ xs) ≡ e ∷ x ∷ xs
unfolding put
put-first e x xs h = rw h refl

pub put-later : (e x : Entry) (xs : List Entry) → precedes e x ≡ false → put e (x ∷ xs) ≡ x ∷ put e xs
unfolding put
put-later e x xs h = rw h refl

-- ---- the order of puts

puts_in_order : (e x : Entry) (ys : List Entry) → precedes e x ≡ true → put e (put x ys) ≡ put x (put e ys)
puts_in_order e x [] h =
    ap (put e) (put-nothing x) ∙ put-first e x [] h
    ∙ sym (ap (put x) (put-nothing e) ∙ put-later x e [] (precedes-asym e x h) ∙ ap (λ (zs : List Entry). e ∷ zs) (put-nothing x))
puts_in_order e x (y ∷ ys) h =
    elim (cases_Bool (precedes e y)) [
      | inl first ↦ elim (cases_Bool (precedes x y)) [
        | inl second ↦
            ap (put e) (put-first x y ys second) ∙ put-first e x (y ∷ ys) h
            ∙ sym (ap (put x) (put-first e y ys first) ∙ put-later x e (y ∷ ys) (precedes-asym e x h) ∙ ap (λ (zs : List Entry). e ∷ zs) (put-first x y ys second))
        | inr second ↦
            ap (put e) (put-later x y ys second) ∙ put-first e y (put x ys) first
            ∙ sym (ap (put x) (put-first e y ys first) ∙ put-later x e (y ∷ ys) (precedes-asym e x h) ∙ ap (λ (zs : List Entry). e ∷ zs) (put-later x y ys second))
      ]
      | inr first ↦ elim (cases_Bool (precedes x y)) [
        | inl second ↦ absurd (let f : true ≡ false = sym (precedes-trans e x y h second) ∙ first in cc)
        | inr second ↦
            ap (put e) (put-later x y ys second) ∙ put-later e y (put x ys) first ∙ ap (λ (zs : List Entry). y ∷ zs) (puts_in_order e x ys h)
            ∙ sym (ap (put x) (put-later e y ys first) ∙ put-later x y (put e ys) second)
      ]
    ]

pub puts_commute : (e x : Entry) (ys : List Entry) → put e (put x ys) ≡ put x (put e ys)
puts_commute e x ys =
    elim (cases_entries e x) [
      | inl same ↦ ap (λ (z : Entry). put e (put z ys)) (sym same) ∙ ap (λ (z : Entry). put z (put e ys)) same
      | inr (inl before) ↦ puts_in_order e x ys (precedes-true e x before)
      | inr (inr after) ↦ sym (puts_in_order x e ys (precedes-true x e after))
    ]

-- ---- one row more, and one fewer

pub sorted-nothing : sorted [] ≡ []
unfolding sorted
sorted-nothing = refl

pub sorted-cons : (e : Entry) (es : List Entry) → sorted (e ∷ es) ≡ put e (sorted es)
unfolding sorted
sorted-cons e es = refl

pub sorted-middle : (e : Entry) (xs ys : List Entry) → sorted (xs ++ e ∷ ys) ≡ put e (sorted (xs ++ ys))
sorted-middle e [] ys = sorted-cons e ys
sorted-middle e (x ∷ xs) ys =
    sorted-cons x (xs ++ e ∷ ys) ∙ ap (put x) (sorted-middle e xs ys) ∙ puts_commute x e (sorted (xs ++ ys)) ∙ ap (put e) (sym (sorted-cons x (xs ++ ys)))

pub sorted-push : (e : Entry) (xs : List Entry) → sorted (xs ++ e ∷ []) ≡ put e (sorted xs)
sorted-push e [] = sorted-cons e []
sorted-push e (x ∷ xs) =
    sorted-cons x (xs ++ e ∷ []) ∙ ap (put x) (sorted-push e xs) ∙ puts_commute x e (sorted xs) ∙ ap (put e) (sym (sorted-cons x xs))

-- ---- what it holds

or_apart : (a b : Bool) → a || b ≡ false → (a ≡ false) × (b ≡ false)
or_apart true b h = absurd (let f : true ≡ false = h in cc)
or_apart false b h = (refl, h)

or_swap : (a b c : Bool) → a || (b || c) ≡ b || (a || c)
or_swap true true c = refl
or_swap true false c = refl
or_swap false b c = refl

pub holds-apart : (e x : Entry) (xs : List Entry) → holds_entry e (x ∷ xs) ≡ false → (is_same e x ≡ false) × (holds_entry e xs ≡ false)
unfolding holds_entry
holds-apart e x xs h = or_apart (is_same e x) (holds_entry e xs) h

pub holds-cons : (e x : Entry) (xs : List Entry) → holds_entry e (x ∷ xs) ≡ is_same e x || holds_entry e xs
unfolding holds_entry
holds-cons e x xs = refl

pub holds-nothing : (e : Entry) → holds_entry e [] ≡ false
unfolding holds_entry
holds-nothing e = refl

holds-put : (e x : Entry) (ys : List Entry) → holds_entry e (put x ys) ≡ is_same e x || holds_entry e ys
holds-put e x [] = ap (holds_entry e) (put-nothing x) ∙ holds-cons e x []
holds-put e x (y ∷ ys) =
    elim (cases_Bool (precedes x y)) [
      | inl first ↦ ap (holds_entry e) (put-first x y ys first) ∙ holds-cons e x (y ∷ ys)
      | inr later ↦
          ap (holds_entry e) (put-later x y ys later) ∙ holds-cons e y (put x ys)
          ∙ ap (λ (b : Bool). is_same e y || b) (holds-put e x ys) ∙ or_swap (is_same e y) (is_same e x) (holds_entry e ys)
          ∙ ap (λ (b : Bool). is_same e x || b) (sym (holds-cons e y ys))
    ]

pub holds-sorted : (e : Entry) (es : List Entry) → holds_entry e (sorted es) ≡ holds_entry e es
holds-sorted e [] = ap (holds_entry e) sorted-nothing
holds-sorted e (x ∷ xs) = ap (holds_entry e) (sorted-cons x xs) ∙ holds-put e x (sorted xs) ∙ ap (λ (b : Bool). is_same e x || b) (holds-sorted e xs) ∙ sym (holds-cons e x xs)

-- ---- without one

pub without-here : (e x : Entry) (xs : List Entry) → is_same e x ≡ true → without e (x ∷ xs) ≡ xs
unfolding without
without-here e x xs h = rw h refl

pub without-later : (e x : Entry) (xs : List Entry) → is_same e x ≡ false → without e (x ∷ xs) ≡ x ∷ without e xs
unfolding without
without-later e x xs h = rw h refl

pub without-nothing : (e : Entry) → without e [] ≡ []
unfolding without
without-nothing e = refl

pub without-absent : (e : Entry) (xs : List Entry) → holds_entry e xs ≡ false → without e xs ≡ xs
without-absent e [] h = without-nothing e
without-absent e (x ∷ xs) h =
    let apart = holds-apart e x xs h in without-later e x xs apart.0 ∙ ap (λ (zs : List Entry). x ∷ zs) (without-absent e xs apart.1)

pub without-put : (e : Entry) (ys : List Entry) → holds_entry e ys ≡ false → without e (put e ys) ≡ ys
without-put e [] h = ap (without e) (put-nothing e) ∙ without-here e e [] (is_same-itself e)
without-put e (y ∷ ys) h =
    let apart = holds-apart e y ys h in
    elim (cases_Bool (precedes e y)) [
      | inl first ↦ ap (without e) (put-first e y ys first) ∙ without-here e e (y ∷ ys) (is_same-itself e)
      | inr later ↦ ap (without e) (put-later e y ys later) ∙ without-later e y (put e ys) apart.0 ∙ ap (λ (zs : List Entry). y ∷ zs) (without-put e ys apart.1)
    ]

pub sorted-fewer : (e : Entry) (xs ys : List Entry) → holds_entry e (xs ++ ys) ≡ false → without e (sorted (xs ++ e ∷ ys)) ≡ sorted (xs ++ ys)
sorted-fewer e xs ys h = ap (without e) (sorted-middle e xs ys) ∙ without-put e (sorted (xs ++ ys)) (holds-sorted e (xs ++ ys) ∙ h)

-- ---- order

pub PrecedesAll-nothing : (e : Entry) → PrecedesAll e []
unfolding PrecedesAll
PrecedesAll-nothing e = tt

pub PrecedesAll-trans : (e x : Entry) (ys : List Entry) → precedes e x ≡ true → PrecedesAll x ys → PrecedesAll e ys
unfolding PrecedesAll
PrecedesAll-trans e x [] h all = tt
PrecedesAll-trans e x (y ∷ ys) h all = (precedes-trans e x y h all.0, PrecedesAll-trans e x ys h all.1)

PrecedesAll-put : (x e : Entry) (ys : List Entry) → precedes x e ≡ true → PrecedesAll x ys → PrecedesAll x (put e ys)
unfolding PrecedesAll
PrecedesAll-put x e [] h all = rw (put-nothing e) (h, tt)
PrecedesAll-put x e (y ∷ ys) h all =
    elim (cases_Bool (precedes e y)) [
      | inl first ↦ rw (put-first e y ys first) (h, all)
      | inr later ↦ rw (put-later e y ys later) (all.0, PrecedesAll-put x e ys h all.1)
    ]

pub IsOrdered-put : (e : Entry) (ys : List Entry) → IsOrdered ys → holds_entry e ys ≡ false → IsOrdered (put e ys)
unfolding IsOrdered PrecedesAll
IsOrdered-put e [] ordered h = rw (put-nothing e) (tt, tt)
IsOrdered-put e (y ∷ ys) ordered h =
    let apart = holds-apart e y ys h in
    elim (cases_Bool (precedes e y)) [
      | inl first ↦ rw (put-first e y ys first) ((first, PrecedesAll-trans e y ys first ordered.0), ordered)
      | inr later ↦
          let before = precedes-other y e later (λ same. other_of_false e y apart.0 (sym same)) in
          rw (put-later e y ys later) (PrecedesAll-put y e ys before ordered.0, IsOrdered-put e ys ordered.1 apart.1)
    ]

PrecedesAll-without : (x e : Entry) (ys : List Entry) → PrecedesAll x ys → PrecedesAll x (without e ys)
unfolding PrecedesAll
PrecedesAll-without x e [] all = rw (without-nothing e) tt
PrecedesAll-without x e (y ∷ ys) all =
    elim (cases_Bool (is_same e y)) [
      | inl here ↦ rw (without-here e y ys here) all.1
      | inr later ↦ rw (without-later e y ys later) (all.0, PrecedesAll-without x e ys all.1)
    ]

pub IsOrdered-without : (e : Entry) (ys : List Entry) → IsOrdered ys → IsOrdered (without e ys)
unfolding IsOrdered
IsOrdered-without e [] ordered = rw (without-nothing e) tt
IsOrdered-without e (y ∷ ys) ordered =
    elim (cases_Bool (is_same e y)) [
      | inl here ↦ rw (without-here e y ys here) ordered.1
      | inr later ↦ rw (without-later e y ys later) (PrecedesAll-without y e ys ordered.0, IsOrdered-without e ys ordered.1)
    ]
