-- Where entries stand in an index, told by a place that parts it.
use Rattle.std.proofs.Common.{◌≡◌, ◌≢◌, ℕ, ◌+◌, suc, zero, ◌<◌, ◌≤◌, true, false, ltb, List, [], ◌∷◌, length, map, take, drop, get_or, refl, ap, ◌∙◌, sym, subst, arith, inl, inr, lt-ltb, le-ltb}
use Rattle.std.proofs.lemmas.List.{length-map, get_or-take, get_or-drop}
use borrow.Author.Tests.{ltb-true}
use Rattle.std.specs.Prelude.{Some, None}
use Rattle.std.specs.List.{AllWithin, insert, remove, slice_get}
use Rattle.std.proofs.lemmas.Option.{slice_get-get_or, slice_get_past, get_or_from_slice_get}
use Rattle.std.specs.List.Sorted.{IsPartitionPoint, IsPartitionedBy}
use Rattle.std.proofs.lemmas.Bool.{cases_lt, cases_eq}
use Rattle.tree_model.specs.Places.{below, one_if}
use Rattle.tree_model.proofs.Ordered.{below-le}
use Rattle.column_index.specs.declared.entry.Entry.{Entry}
use Rattle.column_index.specs.Entries.{precedes, is_same, holds_entry, is_entry, put, without, codes_in, PrecedesAll, IsOrdered}
use Rattle.column_index.proofs.Orders.{Before-of, Before-not_itself, Before-le, precedes-trans, precedes-asym, precedes-other, is_same-false, other_of_false}
use Rattle.column_index.proofs.Sorting.{put-nothing, put-first, put-later, without-here, without-later, holds-apart, holds-nothing, PrecedesAll-trans}

-- ---- order by place

PrecedesAll-at : (e : Entry) (es : List Entry) (k : ℕ) (d : Entry) → PrecedesAll e es → k < length es → precedes e (get_or es k d) ≡ true
unfolding PrecedesAll
PrecedesAll-at e [] k d all lt = absurd (omega arith)
PrecedesAll-at e (x ∷ xs) zero d all lt = all.0
PrecedesAll-at e (x ∷ xs) (suc k) d all lt = PrecedesAll-at e xs k d all.1 (omega arith)

pub ordered-at : (es : List Entry) (i j : ℕ) (d : Entry) → IsOrdered es → i < j → j < length es → precedes (get_or es i d) (get_or es j d) ≡ true
unfolding IsOrdered
ordered-at [] i j d ordered lt within = absurd (omega arith)
ordered-at (x ∷ xs) i zero d ordered lt within = absurd (omega arith)
ordered-at (x ∷ xs) zero (suc j) d ordered lt within = PrecedesAll-at x xs j d ordered.0 (omega arith)
ordered-at (x ∷ xs) (suc i) (suc j) d ordered lt within = ordered-at xs i j d ordered.1 (omega arith) (omega arith)

pub codes-at : (es : List Entry) (i j : ℕ) (d : Entry) → IsOrdered es → i ≤ j → j < length es → (get_or es i d).enc ≤ (get_or es j d).enc
codes-at es i j d ordered le within =
    elim (cases_eq i j) [
      | inl same ↦ omega (arith, ap (λ (n : ℕ). (get_or es n d).enc) same)
      | inr other ↦ Before-le (get_or es i d) (get_or es j d) (Before-of (get_or es i d) (get_or es j d) (ordered-at es i j d ordered (omega arith) within))
    ]

pub parted_codes : (es : List Entry) (code : ℕ) → IsOrdered es → IsPartitionedBy (λ x. ltb x.enc code) es
parted_codes es code ordered = λ i j d le within h.
    let lt = ltb-true _ _ h in let codes = codes-at es i j d ordered le within in lt-ltb (get_or es i d).enc code (omega arith)

pub parted_entries : (es : List Entry) (e : Entry) → IsOrdered es → IsPartitionedBy (λ x. precedes x e) es
parted_entries es e ordered = λ i j d le within h.
    elim (cases_eq i j) [
      | inl same ↦ subst (λ (n : ℕ). precedes (get_or es n d) e ≡ true) (sym same) h
      | inr other ↦ precedes-trans (get_or es i d) (get_or es j d) e (ordered-at es i j d ordered (omega arith) within) h
    ]

-- ---- the place of a code

pub point_below : (code : ℕ) (es : List Entry) (p : ℕ) → p ≤ length es → IsPartitionPoint (λ x. ltb x.enc code ≡ true) (λ x. ltb x.enc code ≡ false) es p → p ≡ below code (codes_in es)
unfolding below codes_in one_if
point_below code [] p le h = omega arith
point_below code (x ∷ xs) zero le h =
    let here : ltb x.enc code ≡ false = h.1 zero x (omega arith) (omega arith) in
    rw here (point_below code xs zero (omega arith) ((λ k d from to. absurd (omega arith)), (λ k d from to. h.1 (suc k) d (omega arith) (omega arith))))
point_below code (x ∷ xs) (suc p) le h =
    let here : ltb x.enc code ≡ true = h.0 zero x (omega arith) (omega arith) in
    rw here (ap (λ (n : ℕ). suc n) (point_below code xs p (omega arith) ((λ k d from to. h.0 (suc k) d (omega arith) (omega arith)), (λ k d from to. h.1 (suc k) d (omega arith) (omega arith)))))

pub below-length : (code : ℕ) (es : List Entry) → below code (codes_in es) ≤ length es
unfolding codes_in
below-length code es = omega (arith, below-le code (map (λ e. e.enc) es), length-map es (λ (e : Entry). e.enc))

none_below : (code : ℕ) (x : Entry) (xs : List Entry) → PrecedesAll x xs → code ≤ x.enc → below code (codes_in xs) ≡ 0
unfolding below codes_in one_if PrecedesAll
none_below code x [] all le = refl
none_below code x (y ∷ ys) all le =
    let after = Before-le x y (Before-of x y all.0) in
    rw (le-ltb y.enc code (omega arith)) (none_below code x ys all.1 le)

below_step : (code : ℕ) (x : Entry) (xs : List Entry) → x.enc < code → below code (codes_in (x ∷ xs)) ≡ suc (below code (codes_in xs))
unfolding below codes_in one_if
below_step code x xs lt = rw (lt-ltb x.enc code lt) refl

below_stay : (code : ℕ) (x : Entry) (xs : List Entry) → code ≤ x.enc → below code (codes_in (x ∷ xs)) ≡ below code (codes_in xs)
unfolding below codes_in one_if
below_stay code x xs le = rw (le-ltb x.enc code le) refl

-- the entries before the place of a code have smaller ones
pub before_code : (code : ℕ) (es : List Entry) (k : ℕ) (d : Entry) → IsOrdered es → k < below code (codes_in es) → (get_or es k d).enc < code
unfolding IsOrdered
before_code code [] k d ordered lt = absurd (omega (arith, below-length code []))
before_code code (x ∷ xs) zero d ordered lt =
    elim (cases_lt x.enc code) [
      | inl here ↦ here
      | inr past ↦ absurd (omega (arith, below_stay code x xs past, none_below code x xs ordered.0 past))
    ]
before_code code (x ∷ xs) (suc k) d ordered lt =
    elim (cases_lt x.enc code) [
      | inl here ↦ before_code code xs k d ordered.1 (omega (arith, below_step code x xs here))
      | inr past ↦ absurd (omega (arith, below_stay code x xs past, none_below code x xs ordered.0 past))
    ]

-- and those from there on don't
pub from_code : (code : ℕ) (es : List Entry) (k : ℕ) (d : Entry) → IsOrdered es → below code (codes_in es) ≤ k → k < length es → code ≤ (get_or es k d).enc
unfolding IsOrdered
from_code code [] k d ordered le lt = absurd (omega arith)
from_code code (x ∷ xs) zero d ordered le lt =
    elim (cases_lt x.enc code) [
      | inl here ↦ absurd (omega (arith, below_step code x xs here))
      | inr past ↦ past
    ]
from_code code (x ∷ xs) (suc k) d ordered le lt =
    elim (cases_lt x.enc code) [
      | inl here ↦ from_code code xs k d ordered.1 (omega (arith, below_step code x xs here)) (omega arith)
      | inr past ↦ omega (arith, past, Before-le x (get_or xs k d) (Before-of x (get_or xs k d) (PrecedesAll-at x xs k d ordered.0 (omega arith))))
    ]

-- ---- the place of an entry

rest_of_point : (e x : Entry) (xs : List Entry) (p : ℕ) → IsPartitionPoint (λ y. precedes y e ≡ true) (λ y. precedes y e ≡ false) (x ∷ xs) (suc p) → IsPartitionPoint (λ y. precedes y e ≡ true) (λ y. precedes y e ≡ false) xs p
rest_of_point e x xs p h = ((λ k d from to. h.0 (suc k) d (omega arith) (omega arith)), (λ k d from to. h.1 (suc k) d (omega arith) (omega arith)))

pub put-at : (e : Entry) (es : List Entry) (p : ℕ) → p ≤ length es → IsPartitionPoint (λ x. precedes x e ≡ true) (λ x. precedes x e ≡ false) es p → holds_entry e es ≡ false → put e es ≡ insert es p e
put-at e [] zero le h free = put-nothing e
put-at e [] (suc p) le h free = absurd (omega arith)
put-at e (x ∷ xs) zero le h free =
    put-first e x xs (precedes-other e x (h.1 zero x (omega arith) (omega arith)) (other_of_false e x (holds-apart e x xs free).0))
put-at e (x ∷ xs) (suc p) le h free =
    put-later e x xs (precedes-asym x e (h.0 zero x (omega arith) (omega arith)))
    ∙ ap (λ (zs : List Entry). x ∷ zs) (put-at e xs p (omega arith) (rest_of_point e x xs p h) (holds-apart e x xs free).1)

itself_not : (e x : Entry) → precedes x e ≡ true → is_same e x ≡ false
itself_not e x h = is_same-false e x (λ same.
    let back : precedes e x ≡ false = precedes-asym x e h in
    let here : precedes e e ≡ true = subst (λ (z : Entry). precedes z e ≡ true) (sym same) h in
    let there : precedes e e ≡ false = subst (λ (z : Entry). precedes e z ≡ false) (sym same) back in
    let f : true ≡ false = sym here ∙ there in cc)

pub without-at : (e : Entry) (es : List Entry) (p : ℕ) → p < length es → IsPartitionPoint (λ x. precedes x e ≡ true) (λ x. precedes x e ≡ false) es p → is_same e (get_or es p e) ≡ true → without e es ≡ remove es p
without-at e [] p lt h same = absurd (omega arith)
without-at e (x ∷ xs) zero lt h same = without-here e x xs same
without-at e (x ∷ xs) (suc p) lt h same =
    without-later e x xs (itself_not e x (h.0 zero x (omega arith) (omega arith)))
    ∙ ap (λ (zs : List Entry). x ∷ zs) (without-at e xs p (omega arith) (rest_of_point e x xs p h) same)

holds_here : (e x : Entry) (xs : List Entry) → is_same e x ≡ true → holds_entry e (x ∷ xs) ≡ true
unfolding holds_entry
holds_here e x xs h = rw h refl

holds_later : (e x : Entry) (xs : List Entry) → is_same e x ≡ false → holds_entry e (x ∷ xs) ≡ holds_entry e xs
unfolding holds_entry
holds_later e x xs h = rw h refl

pub holds-at_point : (e : Entry) (es : List Entry) (p : ℕ) → p < length es → IsPartitionPoint (λ x. precedes x e ≡ true) (λ x. precedes x e ≡ false) es p → is_same e (get_or es p e) ≡ true → holds_entry e es ≡ true
holds-at_point e [] p lt h same = absurd (omega arith)
holds-at_point e (x ∷ xs) zero lt h same = holds_here e x xs same
holds-at_point e (x ∷ xs) (suc p) lt h same =
    holds_later e x xs (itself_not e x (h.0 zero x (omega arith) (omega arith))) ∙ holds-at_point e xs p (omega arith) (rest_of_point e x xs p h) same

holds-before_all : (e : Entry) (es : List Entry) → PrecedesAll e es → holds_entry e es ≡ false
unfolding PrecedesAll
holds-before_all e [] all = holds-nothing e
holds-before_all e (x ∷ xs) all =
    holds_later e x xs (is_same-false e x (λ same. Before-not_itself e x (Before-of e x all.0) same)) ∙ holds-before_all e xs all.1

pub holds-not_at : (e : Entry) (es : List Entry) (p : ℕ) → p ≤ length es → IsOrdered es → IsPartitionPoint (λ x. precedes x e ≡ true) (λ x. precedes x e ≡ false) es p → (p < length es → is_same e (get_or es p e) ≡ false) → holds_entry e es ≡ false
unfolding IsOrdered
holds-not_at e [] p le ordered h other = holds-nothing e
holds-not_at e (x ∷ xs) zero le ordered h other =
    let here = other (omega arith) in
    let first = precedes-other e x (h.1 zero x (omega arith) (omega arith)) (other_of_false e x here) in
    holds_later e x xs here ∙ holds-before_all e xs (PrecedesAll-trans e x xs first ordered.0)
holds-not_at e (x ∷ xs) (suc p) le ordered h other =
    holds_later e x xs (itself_not e x (h.0 zero x (omega arith) (omega arith)))
    ∙ holds-not_at e xs p (omega arith) ordered.1 (rest_of_point e x xs p h) (λ lt. other (omega arith))

-- ---- what stands at a place

pub entry_here : (e : Entry) (es : List Entry) (p : ℕ) → is_entry e (slice_get es p) ≡ true → (p < length es) × (is_same e (get_or es p e) ≡ true)
unfolding is_entry
entry_here e es p h =
    elim (cases_lt p (length es)) [
      | inl lt ↦ (lt, ap (is_entry e) (sym (slice_get-get_or es p e lt)) ∙ h)
      | inr past ↦ absurd (let f : false ≡ true = ap (is_entry e) (sym (slice_get_past es p past)) ∙ h in cc)
    ]

pub entry_other : (e : Entry) (es : List Entry) (p : ℕ) → is_entry e (slice_get es p) ≡ false → p < length es → is_same e (get_or es p e) ≡ false
unfolding is_entry
entry_other e es p h lt = ap (is_entry e) (sym (slice_get-get_or es p e lt)) ∙ h

-- the first item of the rest of a page is that of its place
pub first_of_run : {A : Type 0} (items run : List A) (place : ℕ) (d : A) → run ≡ take (length run) (drop place items) → 0 < length run → get_or run 0 d ≡ get_or items place d
first_of_run items run place d is some =
    ap (λ (zs : List _). get_or zs 0 d) is ∙ get_or-take (length run) (drop place items) 0 d some ∙ get_or-drop place items 0 d
    ∙ ap (λ (n : ℕ). get_or items n d) (let e : place + 0 ≡ place = omega arith in e)

-- ---- where the entries of one code begin and end

pub starts_here : (code : ℕ) (es : List Entry) (place : ℕ) (x : Entry) → IsOrdered es → place ≤ below code (codes_in es) → Some x ≡ slice_get es place → code ≤ x.enc → place ≡ below code (codes_in es)
starts_here code es place x ordered le is past =
    elim (cases_lt place (below code (codes_in es))) [
      | inl lt ↦ absurd (omega (arith, before_code code es place x ordered lt, ap (λ (e : Entry). e.enc) (get_or_from_slice_get es place x x (sym is)), past))
      | inr ge ↦ omega arith
    ]

pub starts_past : (code : ℕ) (es : List Entry) (place : ℕ) → place ≤ below code (codes_in es) → None ≡ slice_get es place → place ≡ below code (codes_in es)
starts_past code [] place le is = omega (arith, below-length code [])
starts_past code (x ∷ xs) place le is =
    elim (cases_lt place (length (x ∷ xs))) [
      | inl lt ↦ absurd (let f : None ≡ Some (get_or (x ∷ xs) place x) = is ∙ slice_get-get_or (x ∷ xs) place x lt in cc)
      | inr past ↦ omega (arith, below-length code (x ∷ xs))
    ]

pub ends_here : (code : ℕ) (es : List Entry) (start place : ℕ) → IsOrdered es → start ≡ below code (codes_in es) → start ≤ place → place ≤ length es → AllWithin (λ e. e.enc ≡ code) es start place → ((d : Entry) → place < length es → (get_or es place d).enc ≢ code) → place ≡ below (code + 1) (codes_in es)
ends_here code es start place ordered begins from within same other =
    point_below (code + 1) es place within (
      (λ k d zero' to. elim (cases_lt k start) [
        | inl before ↦ lt-ltb (get_or es k d).enc (code + 1) (omega (arith, before_code code es k d ordered (omega arith)))
        | inr after ↦ lt-ltb (get_or es k d).enc (code + 1) (omega (arith, same k d after to))
      ]),
      (λ k d from' to.
          let lt : place < length es = omega arith in
          let at_least = from_code code es place d ordered (omega arith) lt in
          let not_it = other d lt in
          let more = codes-at es place k d ordered from' to in
          le-ltb (get_or es k d).enc (code + 1) (omega arith)),
    )
