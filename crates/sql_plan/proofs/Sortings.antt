-- Some entries of a list, changed and put in order: it makes no difference in which order they stood.
use Rattle.std.proofs.Common.{◌≡◌, ℕ, suc, Bool, true, false, List, [], ◌∷◌, length, map, filter, refl, ap, ◌∙◌, sym, inl, inr}
use Rattle.std.proofs.lemmas.Bool.{cases_Bool}
use Rattle.std.specs.List.{All}
use Rattle.std.proofs.lemmas.List.Elements.{All-nil, All-cons, All-head, All-tail, All-same}
use Rattle.std.proofs.lemmas.List.{length-map}
use Rattle.column_index.specs.declared.entry.Entry.{Entry}
use Rattle.column_index.specs.Entries.{precedes, put, sorted, PrecedesAll, IsOrdered}
use Rattle.column_index.proofs.Sorting.{put-nothing, put-first, put-later, puts_commute, sorted-nothing, sorted-cons}
use Rattle.sql_plan.proofs.Filtering.{filter-yes, filter-no}

abbrev pub picked : (Entry → Bool) → (Entry → Entry) → List Entry → List Entry
picked q g entries = map g (filter q entries)

unfoldable step : Bool → Entry → List Entry → List Entry
step true e entries = put e entries
step false e entries = entries

step-swap : (a b : Bool) (e x : Entry) (entries : List Entry) → step a e (step b x entries) ≡ step b x (step a e entries)
unfolding step
step-swap true true e x entries = puts_commute e x entries
step-swap true false e x entries = refl
step-swap false true e x entries = refl
step-swap false false e x entries = refl

sorted-picked : (q : Entry → Bool) (g : Entry → Entry) (x : Entry) (entries : List Entry) → sorted (picked q g (x ∷ entries)) ≡ step (q x) (g x) (sorted (picked q g entries))
unfolding step
sorted-picked q g x entries =
    elim (cases_Bool (q x)) [
      | inl h ↦
          ap (λ (es : List Entry). sorted (map g es)) (filter-yes q x entries h) ∙ sorted-cons (g x) (picked q g entries)
          ∙ sym (ap (λ (b : Bool). step b (g x) (sorted (picked q g entries))) h)
      | inr h ↦
          ap (λ (es : List Entry). sorted (map g es)) (filter-no q x entries h)
          ∙ sym (ap (λ (b : Bool). step b (g x) (sorted (picked q g entries))) h)
    ]

picked-put : (q : Entry → Bool) (g : Entry → Entry) (e : Entry) (entries : List Entry) → sorted (picked q g (put e entries)) ≡ step (q e) (g e) (sorted (picked q g entries))
picked-put q g e [] = ap (λ (es : List Entry). sorted (picked q g es)) (put-nothing e) ∙ sorted-picked q g e []
picked-put q g e (x ∷ xs) =
    elim (cases_Bool (precedes e x)) [
      | inl first ↦ ap (λ (es : List Entry). sorted (picked q g es)) (put-first e x xs first) ∙ sorted-picked q g e (x ∷ xs)
      | inr later ↦
          ap (λ (es : List Entry). sorted (picked q g es)) (put-later e x xs later) ∙ sorted-picked q g x (put e xs)
          ∙ ap (step (q x) (g x)) (picked-put q g e xs) ∙ step-swap (q x) (q e) (g x) (g e) (sorted (picked q g xs))
          ∙ sym (ap (step (q e) (g e)) (sorted-picked q g x xs))
    ]

pub picked-sorted : (q : Entry → Bool) (g : Entry → Entry) (entries : List Entry) → sorted (picked q g (sorted entries)) ≡ sorted (picked q g entries)
picked-sorted q g [] = ap (λ (es : List Entry). sorted (picked q g es)) sorted-nothing
picked-sorted q g (e ∷ entries) =
    ap (λ (es : List Entry). sorted (picked q g es)) (sorted-cons e entries) ∙ picked-put q g e (sorted entries)
    ∙ ap (step (q e) (g e)) (picked-sorted q g entries) ∙ sym (sorted-picked q g e entries)

-- ---- entries in order

pub put-front : (e : Entry) (entries : List Entry) → PrecedesAll e entries → put e entries ≡ e ∷ entries
unfolding PrecedesAll
put-front e [] all = put-nothing e
put-front e (x ∷ xs) all = put-first e x xs all.0

pub sorted-ordered : (entries : List Entry) → IsOrdered entries → sorted entries ≡ entries
unfolding IsOrdered
sorted-ordered [] ordered = sorted-nothing
sorted-ordered (x ∷ xs) ordered = sorted-cons x xs ∙ ap (put x) (sorted-ordered xs ordered.1) ∙ put-front x xs ordered.0

PrecedesAll-filter : (q : Entry → Bool) (e : Entry) (entries : List Entry) → PrecedesAll e entries → PrecedesAll e (filter q entries)
unfolding PrecedesAll
PrecedesAll-filter q e [] all = tt
PrecedesAll-filter q e (x ∷ xs) all =
    elim (cases_Bool (q x)) [
      | inl h ↦ rw (filter-yes q x xs h) (all.0, PrecedesAll-filter q e xs all.1)
      | inr h ↦ rw (filter-no q x xs h) (PrecedesAll-filter q e xs all.1)
    ]

pub IsOrdered-filter : (q : Entry → Bool) (entries : List Entry) → IsOrdered entries → IsOrdered (filter q entries)
unfolding IsOrdered
IsOrdered-filter q [] ordered = tt
IsOrdered-filter q (x ∷ xs) ordered =
    elim (cases_Bool (q x)) [
      | inl h ↦ rw (filter-yes q x xs h) (PrecedesAll-filter q x xs ordered.0, IsOrdered-filter q xs ordered.1)
      | inr h ↦ rw (filter-no q x xs h) (IsOrdered-filter q xs ordered.1)
    ]

-- ---- how many, and what is true of each

length-put : (e : Entry) (entries : List Entry) → length (put e entries) ≡ suc (length entries)
length-put e [] = ap length (put-nothing e)
length-put e (x ∷ xs) =
    elim (cases_Bool (precedes e x)) [
      | inl first ↦ ap length (put-first e x xs first)
      | inr later ↦ ap length (put-later e x xs later) ∙ ap suc (length-put e xs)
    ]

pub length-sorted : (entries : List Entry) → length (sorted entries) ≡ length entries
length-sorted [] = ap length sorted-nothing
length-sorted (x ∷ xs) = ap length (sorted-cons x xs) ∙ length-put x (sorted xs) ∙ ap suc (length-sorted xs)

pub All-put : (P : Entry → Type 0) (e : Entry) (entries : List Entry) → P e → All P entries → All P (put e entries)
All-put P e [] here all = All-same P (put e []) (e ∷ []) (put-nothing e) (All-cons P e [] here all)
All-put P e (x ∷ xs) here all =
    elim (cases_Bool (precedes e x)) [
      | inl first ↦ All-same P (put e (x ∷ xs)) (e ∷ x ∷ xs) (put-first e x xs first) (All-cons P e (x ∷ xs) here all)
      | inr later ↦ All-same P (put e (x ∷ xs)) (x ∷ put e xs) (put-later e x xs later) (All-cons P x (put e xs) (All-head P x xs all) (All-put P e xs here (All-tail P x xs all)))
    ]

pub All-sorted : (P : Entry → Type 0) (entries : List Entry) → All P entries → All P (sorted entries)
All-sorted P [] all = All-same P (sorted []) [] sorted-nothing all
All-sorted P (x ∷ xs) all = All-same P (sorted (x ∷ xs)) (put x (sorted xs)) (sorted-cons x xs) (All-put P x (sorted xs) (All-head P x xs all) (All-sorted P xs (All-tail P x xs all)))

pub length-picked : (q : Entry → Bool) (g : Entry → Entry) (entries : List Entry) → length (filter q (sorted entries)) ≡ length (filter q entries)
length-picked q g entries =
    sym (length-map (filter q (sorted entries)) g) ∙ sym (length-sorted (picked q g (sorted entries)))
    ∙ ap length (picked-sorted q g entries) ∙ length-sorted (picked q g entries) ∙ length-map (filter q entries) g
