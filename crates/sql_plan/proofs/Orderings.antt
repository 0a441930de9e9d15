-- Rows in the order of a column are entries in their order.
use Rattle.std.proofs.Common.{◌≡◌, ℕ, ◌-◌, ◌<◌, ◌≤◌, Bool, true, false, List, [], ◌∷◌, length, map, filter, get_or, Option, Some, None, refl, ap, ap₂, ◌∙◌, sym, inl, inr, arith, leb, lt-ltb, le-ltb, le-leb, eq-eqb, ne_eqb}
use Rattle.std.proofs.lemmas.Bool.{cases_Bool, cases_order, lt-leb}
use Rattle.std.specs.List.{All}
use Rattle.std.proofs.lemmas.List.Elements.{All-nil, All-cons, All-head, All-tail, All-same, All-filter}
use Rattle.mope_base.specs.declared.body.Body.{Body}
use Rattle.mope_base.specs.declared.numbers.ColNo.{ColNo}
use Rattle.tree_model.specs.Places.{IsIncreasing}
use Rattle.table_model.specs.Stores.{Kept, Shelf}
use Rattle.table_model.specs.Soundness.{kept_numbers}
use Rattle.column_index.specs.declared.entry.Entry.{Entry}
use Rattle.column_index.specs.Entries.{precedes, put, sorted, PrecedesAll, IsOrdered}
use Rattle.column_index.proofs.Orders.{precedes-true, precedes-false, Before}
use Rattle.column_index.proofs.Sorting.{put-nothing, put-first, put-later, sorted-nothing, sorted-cons}
use Rattle.workload.specs.Selection.{in_front, insert_ordered, ordered, by_column, in_order}
use Rattle.sql_plan.specs.Bounds.{top}
use Rattle.sql_plan.specs.Plans.{by_code, HasOrder}
use Rattle.sql_plan.specs.Walks.{by_number, key_by, key_of, keyed}
use Rattle.sql_plan.proofs.RowCodes.{Facts, Told, by_number-top, rows-above}
use Rattle.sql_plan.proofs.Sortings.{sorted-ordered}

module _ {A : Type 0} (before : A → A → Bool) where
  pub insert-kept : (x y : A) (ys : List A) → before x y ≡ true → insert_ordered before x (y ∷ ys) ≡ x ∷ y ∷ ys
  unfolding insert_ordered in_front
  insert-kept x y ys h = ap (λ b. in_front b x y ys (insert_ordered before x ys)) h

  pub insert-passed : (x y : A) (ys : List A) → before x y ≡ false → insert_ordered before x (y ∷ ys) ≡ y ∷ insert_ordered before x ys
  unfolding insert_ordered in_front
  insert-passed x y ys h = ap (λ b. in_front b x y ys (insert_ordered before x ys)) h

  pub insert-nothing : (x : A) → insert_ordered before x [] ≡ x ∷ []
  unfolding insert_ordered
  insert-nothing x = refl

  pub ordered-nothing : ordered before [] ≡ []
  unfolding ordered
  ordered-nothing = refl

  pub ordered-cons : (x : A) (xs : List A) → ordered before (x ∷ xs) ≡ insert_ordered before x (ordered before xs)
  unfolding ordered
  ordered-cons x xs = refl

  All-insert : (P : A → Type 0) (x : A) (xs : List A) → P x → All P xs → All P (insert_ordered before x xs)
  All-insert P x [] here all = All-same P (insert_ordered before x []) (x ∷ []) (insert-nothing x) (All-cons P x [] here all)
  All-insert P x (y ∷ ys) here all =
      elim (cases_Bool (before x y)) [
        | inl h ↦ All-same P (insert_ordered before x (y ∷ ys)) (x ∷ y ∷ ys) (insert-kept x y ys h) (All-cons P x (y ∷ ys) here all)
        | inr h ↦ All-same P (insert_ordered before x (y ∷ ys)) (y ∷ insert_ordered before x ys) (insert-passed x y ys h) (All-cons P y (insert_ordered before x ys) (All-head P y ys all) (All-insert P x ys here (All-tail P y ys all)))
      ]

  pub All-ordered : (P : A → Type 0) (xs : List A) → All P xs → All P (ordered before xs)
  All-ordered P [] all = All-same P (ordered before []) [] ordered-nothing all
  All-ordered P (x ∷ xs) all = All-same P (ordered before (x ∷ xs)) (insert_ordered before x (ordered before xs)) (ordered-cons x xs) (All-insert P x (ordered before xs) (All-head P x xs all) (All-ordered P xs (All-tail P x xs all)))

  -- each comes before those after it exactly where its entry precedes theirs
  unfoldable pub Agree : (A → Entry) → List A → Type 0
  Agree g [] = Unit {0}
  Agree g (x ∷ xs) = All (λ y. before x y ≡ precedes (g x) (g y)) xs × Agree g xs

  insert-put : (g : A → Entry) (x : A) (ys : List A) → All (λ y. before x y ≡ precedes (g x) (g y)) ys → map g (insert_ordered before x ys) ≡ put (g x) (map g ys)
  insert-put g x [] same = ap (map g) (insert-nothing x) ∙ sym (put-nothing (g x))
  insert-put g x (y ∷ ys) same =
      let here = All-head (λ z. before x z ≡ precedes (g x) (g z)) y ys same in
      elim (cases_Bool (before x y)) [
        | inl h ↦ ap (map g) (insert-kept x y ys h) ∙ sym (put-first (g x) (g y) (map g ys) (sym here ∙ h))
        | inr h ↦
            ap (map g) (insert-passed x y ys h) ∙ ap (λ (es : List Entry). g y ∷ es) (insert-put g x ys (All-tail (λ z. before x z ≡ precedes (g x) (g z)) y ys same))
            ∙ sym (put-later (g x) (g y) (map g ys) (sym here ∙ h))
      ]

  pub ordered-sorted : (g : A → Entry) (xs : List A) → Agree g xs → map g (ordered before xs) ≡ sorted (map g xs)
  unfolding Agree
  ordered-sorted g [] agree = ap (map g) ordered-nothing ∙ sym sorted-nothing
  ordered-sorted g (x ∷ xs) agree =
      ap (map g) (ordered-cons x xs)
      ∙ insert-put g x (ordered before xs) (All-ordered (λ y. before x y ≡ precedes (g x) (g y)) xs agree.0)
      ∙ ap (put (g x)) (ordered-sorted g xs agree.1) ∙ sym (sorted-cons (g x) (map g xs))

-- ---- by the codes of a column, of rows with increasing numbers

abbrev entry : ℕ → ℕ → Entry
entry code row = record { enc = code; row = row }

key-up : (a b m n : ℕ) → m < n → leb a b ≡ precedes (entry a m) (entry b n)
key-up a b m n up =
    elim (cases_order a b) [
      | inl same ↦ le-leb a b (omega arith) ∙ sym (precedes-true (entry a m) (entry b n) (inr (same, up)))
      | inr (inl lt) ↦ le-leb a b (omega arith) ∙ sym (precedes-true (entry a m) (entry b n) (inl lt))
      | inr (inr gt) ↦ lt-leb a b gt ∙ sym (precedes-false (entry a m) (entry b n) (λ h. elim h [ inl lt ↦ omega arith | inr at ↦ omega (arith, at.0) ]))
    ]

key-down : (a b m n : ℕ) → a ≤ top → b ≤ top → m < n → leb b a ≡ precedes (entry (top - a) m) (entry (top - b) n)
key-down a b m n low_a low_b up =
    elim (cases_order a b) [
      | inl same ↦ le-leb b a (omega arith) ∙ sym (precedes-true (entry (top - a) m) (entry (top - b) n) (inr (ap (λ (c : ℕ). top - c) same, up)))
      | inr (inl lt) ↦ lt-leb b a lt ∙ sym (precedes-false (entry (top - a) m) (entry (top - b) n) (λ h. elim h [ inl back ↦ omega arith | inr at ↦ omega (arith, at.0) ]))
      | inr (inr gt) ↦ le-leb b a (omega arith) ∙ sym (precedes-true (entry (top - a) m) (entry (top - b) n) (inl (omega arith)))
    ]

-- the numbers of rows increase
unfoldable pub Ups : List (Kept Body) → Type 0
Ups [] = Unit {0}
Ups (row ∷ rows) = All (λ (r : Kept Body). row.number < r.number) rows × Ups rows

pub ups-of : (rows : List (Kept Body)) → IsIncreasing (kept_numbers rows) → Ups rows
unfolding Ups IsIncreasing kept_numbers
ups-of [] up = tt
ups-of (row ∷ rows) up = (rows-above row.number rows up.0, ups-of rows up.1)

module _ (s : Shelf Body) (facts : Facts s) where
  abbrev pub keyed_row : Option (ColNo × Bool) → Kept Body → Entry
  keyed_row order row = keyed s order row.number

  key-before : (column : ColNo) (down : Bool) → column.0 < length s.columns → (x y : Kept Body) → Told s x → Told s y → x.number < y.number
      → by_column (by_code s) column down x y ≡ precedes (keyed_row (Some (column, down)) x) (keyed_row (Some (column, down)) y)
  unfolding by_column keyed key_of key_by
  key-before column false there x y tx ty up =
      ap₂ leb (sym (tx column there)) (sym (ty column there)) ∙ key-up (by_number s column x.number) (by_number s column y.number) x.number y.number up
  key-before column true there x y tx ty up =
      ap₂ leb (sym (ty column there)) (sym (tx column there))
      ∙ key-down (by_number s column x.number) (by_number s column y.number) x.number y.number (by_number-top s facts column x.number there) (by_number-top s facts column y.number there) up

  agree-rows : (column : ColNo) (down : Bool) → column.0 < length s.columns → (rows : List (Kept Body)) → Ups rows → All (Told s) rows → Agree (by_column (by_code s) column down) (keyed_row (Some (column, down))) rows
  unfolding Agree Ups
  agree-rows column down there [] up told = tt
  agree-rows column down there (row ∷ rows) up told =
      let later = All-tail (Told s) row rows told in
      (λ k d lt. key-before column down there row (get_or rows k d) (All-head (Told s) row rows told) (later k d lt) (up.0 k d lt), agree-rows column down there rows up.1 later)

  -- without an order rows stand by number
  precedes-numbers : (row : Kept Body) (rows : List (Kept Body)) → All (λ (r : Kept Body). row.number < r.number) rows → PrecedesAll (keyed_row None row) (map (keyed_row None) rows)
  unfolding PrecedesAll keyed key_of
  precedes-numbers row [] up = tt
  precedes-numbers row (r ∷ rows) up =
      let P : Kept Body → Type 0 = λ (x : Kept Body). row.number < x.number in
      (precedes-true (entry 0 row.number) (entry 0 r.number) (inr (refl, All-head P r rows up)), precedes-numbers row rows (All-tail P r rows up))

  numbers-ordered : (rows : List (Kept Body)) → Ups rows → IsOrdered (map (keyed_row None) rows)
  unfolding IsOrdered Ups
  numbers-ordered [] up = tt
  numbers-ordered (row ∷ rows) up = (precedes-numbers row rows up.0, numbers-ordered rows up.1)

  -- rows in an order, as entries
  pub keyed-order : (order : Option (ColNo × Bool)) → HasOrder s order → (rows : List (Kept Body)) → Ups rows → All (Told s) rows
      → map (keyed_row order) (in_order (by_code s) order rows) ≡ sorted (map (keyed_row order) rows)
  unfolding in_order
  keyed-order None there rows up told = sym (sorted-ordered (map (keyed_row None) rows) (numbers-ordered rows up))
  keyed-order (Some order) there rows up told = ordered-sorted (by_column (by_code s) order.0 order.1) (keyed_row (Some order)) rows (agree-rows order.0 order.1 there rows up told)
