-- The order of entries: by code, and by row where the codes are equal.
use Rattle.std.proofs.Common.{◌≡◌, ◌≢◌, ℕ, ◌<◌, ◌≤◌, true, false, ◌⊎◌, refl, ap, ap₂, ◌∙◌, sym, inl, inr, arith, lt-ltb, le-ltb, eq-eqb, ne_eqb}
use Rattle.std.proofs.lemmas.Bool.{cases_order, cases_lt, cases_Bool, cases_eq}
use Rattle.column_index.specs.declared.entry.Entry.{Entry}
use Rattle.column_index.specs.Entries.{precedes, is_same}

-- an entry stands before another, as a fact on numbers
abbrev pub Before : Entry → Entry → Type 0
Before e x = (e.enc < x.enc) ⊎ ((e.enc ≡ x.enc) × (e.row < x.row))

precedes-code : (e x : Entry) → e.enc < x.enc → precedes e x ≡ true
unfolding precedes
precedes-code e x lt = rw (lt-ltb e.enc x.enc lt) refl

precedes-row : (e x : Entry) → e.enc ≡ x.enc → e.row < x.row → precedes e x ≡ true
unfolding precedes
precedes-row e x same lt = rw (le-ltb e.enc x.enc (omega arith), eq-eqb e.enc x.enc same, lt-ltb e.row x.row lt) refl

precedes-not_code : (e x : Entry) → x.enc < e.enc → precedes e x ≡ false
unfolding precedes
precedes-not_code e x gt = rw (le-ltb e.enc x.enc (omega arith), ne_eqb e.enc x.enc (λ f. omega arith)) refl

precedes-not_row : (e x : Entry) → e.enc ≡ x.enc → x.row ≤ e.row → precedes e x ≡ false
unfolding precedes
precedes-not_row e x same le = rw (le-ltb e.enc x.enc (omega arith), eq-eqb e.enc x.enc same, le-ltb e.row x.row le) refl

pub precedes-true : (e x : Entry) → Before e x → precedes e x ≡ true
precedes-true e x h = elim h [ inl lt ↦ precedes-code e x lt | inr at ↦ precedes-row e x at.0 at.1 ]

pub Before-of : (e x : Entry) → precedes e x ≡ true → Before e x
Before-of e x h =
    elim (cases_order e.enc x.enc) [
      | inl same ↦ elim (cases_lt e.row x.row) [
        | inl lt ↦ inr (same, lt)
        | inr le ↦ absurd (let f : true ≡ false = sym h ∙ precedes-not_row e x same le in cc)
      ]
      | inr (inl lt) ↦ inl lt
      | inr (inr gt) ↦ absurd (let f : true ≡ false = sym h ∙ precedes-not_code e x gt in cc)
    ]

pub same_entry : (e x : Entry) → e.enc ≡ x.enc → e.row ≡ x.row → e ≡ x
same_entry e x codes rows =
    let make : ℕ → ℕ → Entry = λ enc row. record { enc = enc; row = row } in ap₂ make codes rows

-- one of two stands before the other, or they are one
pub cases_entries : (e x : Entry) → (e ≡ x) ⊎ (Before e x ⊎ Before x e)
cases_entries e x =
    elim (cases_order e.enc x.enc) [
      | inl same ↦ elim (cases_order e.row x.row) [
        | inl rows ↦ inl (same_entry e x same rows)
        | inr (inl lt) ↦ inr (inl (inr (same, lt)))
        | inr (inr gt) ↦ inr (inr (inr (sym same, gt)))
      ]
      | inr (inl lt) ↦ inr (inl (inl lt))
      | inr (inr gt) ↦ inr (inr (inl gt))
    ]

pub Before-not : (e x : Entry) → Before e x → Before x e → ⊥
Before-not e x h k =
    elim h [
      | inl lt ↦ elim k [ inl gt ↦ omega arith | inr at ↦ omega (arith, at.0) ]
      | inr at ↦ elim k [ inl gt ↦ omega (arith, at.0) | inr back ↦ omega (arith, at.1, back.1) ]
    ]

pub Before-not_itself : (e x : Entry) → Before e x → e ≡ x → ⊥
Before-not_itself e x h same =
    elim h [ inl lt ↦ omega (arith, ap (λ (y : Entry). y.enc) same) | inr at ↦ omega (arith, at.1, ap (λ (y : Entry). y.row) same) ]

pub Before-trans : (e x y : Entry) → Before e x → Before x y → Before e y
Before-trans e x y h k =
    elim h [
      | inl lt ↦ elim k [ inl next ↦ inl (omega arith) | inr at ↦ inl (omega (arith, at.0)) ]
      | inr at ↦ elim k [ inl next ↦ inl (omega (arith, at.0)) | inr next ↦ inr (at.0 ∙ next.0, omega (arith, at.1, next.1)) ]
    ]

pub Before-le : (e x : Entry) → Before e x → e.enc ≤ x.enc
Before-le e x h = elim h [ inl lt ↦ omega arith | inr at ↦ omega (arith, at.0) ]

pub precedes-false : (e x : Entry) → (Before e x → ⊥) → precedes e x ≡ false
precedes-false e x h = elim (cases_Bool (precedes e x)) [ inl yes' ↦ absurd (h (Before-of e x yes')) | inr no' ↦ no' ]

pub precedes-asym : (e x : Entry) → precedes e x ≡ true → precedes x e ≡ false
precedes-asym e x h = precedes-false x e (λ back. Before-not e x (Before-of e x h) back)

pub precedes-trans : (e x y : Entry) → precedes e x ≡ true → precedes x y ≡ true → precedes e y ≡ true
precedes-trans e x y h k = precedes-true e y (Before-trans e x y (Before-of e x h) (Before-of x y k))

-- what doesn't stand before another, and isn't it, stands after it
pub precedes-other : (e x : Entry) → precedes x e ≡ false → (e ≡ x → ⊥) → precedes e x ≡ true
precedes-other e x h other =
    elim (cases_entries e x) [
      | inl same ↦ absurd (other same)
      | inr (inl before) ↦ precedes-true e x before
      | inr (inr after) ↦ absurd (let f : true ≡ false = sym (precedes-true x e after) ∙ h in cc)
    ]

-- ---- one and the same

pub is_same-itself : (e : Entry) → is_same e e ≡ true
unfolding is_same
is_same-itself e = rw (eq-eqb e.enc e.enc refl, eq-eqb e.row e.row refl) refl

pub is_same-true : (e x : Entry) → e ≡ x → is_same e x ≡ true
is_same-true e x same = sym (ap (is_same e) same) ∙ is_same-itself e

is_same-row : (e x : Entry) → e.enc ≡ x.enc → e.row ≢ x.row → is_same e x ≡ false
unfolding is_same
is_same-row e x same other = rw (eq-eqb e.enc x.enc same, ne_eqb e.row x.row other) refl

is_same-code : (e x : Entry) → e.enc ≢ x.enc → is_same e x ≡ false
unfolding is_same
is_same-code e x other = rw (ne_eqb e.enc x.enc other) refl

pub cases_same : (e x : Entry) → (e ≡ x) ⊎ (is_same e x ≡ false)
cases_same e x =
    elim (cases_eq e.enc x.enc) [
      | inl same ↦ elim (cases_eq e.row x.row) [
        | inl rows ↦ inl (same_entry e x same rows)
        | inr other ↦ inr (is_same-row e x same other)
      ]
      | inr other ↦ inr (is_same-code e x other)
    ]

pub is_same-false : (e x : Entry) → (e ≡ x → ⊥) → is_same e x ≡ false
is_same-false e x other = elim (cases_same e x) [ inl same ↦ absurd (other same) | inr no' ↦ no' ]

pub other_of_false : (e x : Entry) → is_same e x ≡ false → e ≡ x → ⊥
other_of_false e x h same = let f : true ≡ false = sym (is_same-true e x same) ∙ h in cc
