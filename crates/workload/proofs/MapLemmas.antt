-- Selection over rows that are mapped.
use Rattle.std.proofs.Common.{◌≡◌, refl, ◌∙◌, ap, ℕ, Bool, true, false, ◌&&◌, leb, eqb, cond, List, [], ◌∷◌, ◌++◌, map, flat_map, filter, take, length, Option, Some, None}
use Rattle.std.proofs.lemmas.List.{take-map, length-map}
use Rattle.mope_base.specs.declared.numbers.ColNo.{ColNo}
use Rattle.sql_text.specs.declared.Test.{Test}
use Rattle.workload.specs.declared.script.Answer.TheVariants as answer
use Rattle.workload.specs.declared.script.Ask.{Ask}
use Rattle.workload.specs.declared.script.Verb.{Verb}
use Rattle.workload.specs.declared.script.Verb.TheVariants as verb
use Rattle.workload.specs.Selection.{meets, passes, in_front, insert_ordered, ordered, by_column, in_order, first_of, chosen, selected, values_at, first_value, answer_about, kept_unless, without_row, without_rows}
use Rattle.workload.specs.Laws.{KeepsColumns}

module _ {A B : Type 0} (f : A → B) where
  front-map : (b : Bool) (x y : A) (ys rest : List A) → in_front b (f x) (f y) (map f ys) (map f rest) ≡ map f (in_front b x y ys rest)
  unfolding in_front
  front-map true x y ys rest = refl
  front-map false x y ys rest = refl

  insert-map : (before : A → A → Bool) (before2 : B → B → Bool) → ((x y : A) → before2 (f x) (f y) ≡ before x y)
      → (x : A) (ys : List A) → insert_ordered before2 (f x) (map f ys) ≡ map f (insert_ordered before x ys)
  unfolding insert_ordered
  insert-map before before2 same x [] = refl
  insert-map before before2 same x (y ∷ ys) =
      ap (λ b. in_front b (f x) (f y) (map f ys) (insert_ordered before2 (f x) (map f ys))) (same x y)
      ∙ ap (λ rest. in_front (before x y) (f x) (f y) (map f ys) rest) (insert-map before before2 same x ys)
      ∙ front-map (before x y) x y ys (insert_ordered before x ys)

  pub ordered-map : (before : A → A → Bool) (before2 : B → B → Bool) → ((x y : A) → before2 (f x) (f y) ≡ before x y)
      → (rows : List A) → ordered before2 (map f rows) ≡ map f (ordered before rows)
  unfolding ordered
  ordered-map before before2 same [] = refl
  ordered-map before before2 same (x ∷ xs) =
      ap (λ rest. insert_ordered before2 (f x) rest) (ordered-map before before2 same xs)
      ∙ insert-map before before2 same x (ordered before xs)

  kept-map : (b : Bool) (x : A) (rows : List A) → kept_unless b (f x) (map f rows) ≡ map f (kept_unless b x rows)
  unfolding kept_unless
  kept-map true x rows = refl
  kept-map false x rows = refl

  pub without_row-map : (number : A → ℕ) (number2 : B → ℕ) → ((row : A) → number2 (f row) ≡ number row)
      → (n : ℕ) (rows : List A) → without_row number2 n (map f rows) ≡ map f (without_row number n rows)
  unfolding without_row
  without_row-map number number2 same n [] = refl
  without_row-map number number2 same n (x ∷ xs) =
      ap (λ m. kept_unless (eqb m n) (f x) (without_row number2 n (map f xs))) (same x)
      ∙ ap (λ rest. kept_unless (eqb (number x) n) (f x) rest) (without_row-map number number2 same n xs)
      ∙ kept-map (eqb (number x) n) x (without_row number n xs)

  pub without_rows-map : (number : A → ℕ) (number2 : B → ℕ) → ((row : A) → number2 (f row) ≡ number row)
      → (numbers : List ℕ) (rows : List A) → without_rows number2 numbers (map f rows) ≡ map f (without_rows number numbers rows)
  unfolding without_rows
  without_rows-map number number2 same [] rows = refl
  without_rows-map number number2 same (n ∷ numbers) rows =
      ap (λ rest. without_rows number2 numbers rest) (without_row-map number number2 same n rows)
      ∙ without_rows-map number number2 same numbers (without_row number n rows)

  cond-map : (b : Bool) (x : A) (rows : List A) → cond b (f x ∷ map f rows) (map f rows) ≡ map f (cond b (x ∷ rows) rows)
  cond-map true x rows = refl
  cond-map false x rows = refl

  pub filter-map : (p : A → Bool) (p2 : B → Bool) → ((row : A) → p2 (f row) ≡ p row)
      → (rows : List A) → filter p2 (map f rows) ≡ map f (filter p rows)
  filter-map p p2 same [] = refl
  filter-map p p2 same (x ∷ xs) =
      ap (λ b. cond b (f x ∷ filter p2 (map f xs)) (filter p2 (map f xs))) (same x)
      ∙ ap (λ rest. cond (p x) (f x ∷ rest) rest) (filter-map p p2 same xs)
      ∙ cond-map (p x) x (filter p xs)

  module _ (at : ColNo → A → ℕ) (at2 : ColNo → B → ℕ) (keeps : KeepsColumns f at at2) where
    passes-map : (tests : List (ColNo × Test)) (row : A) → passes at2 tests (f row) ≡ passes at tests row
    unfolding passes
    passes-map [] row = refl
    passes-map (t ∷ tests) row =
        ap (λ x. meets t.1 x && passes at2 tests (f row)) (keeps t.0 row)
        ∙ ap (λ b. meets t.1 (at t.0 row) && b) (passes-map tests row)

    column-map : (column : ColNo) (downwards : Bool) (x y : A) → by_column at2 column downwards (f x) (f y) ≡ by_column at column downwards x y
    unfolding by_column
    column-map column false x y = ap (λ n. leb n (at2 column (f y))) (keeps column x) ∙ ap (λ n. leb (at column x) n) (keeps column y)
    column-map column true x y = ap (λ n. leb n (at2 column (f x))) (keeps column y) ∙ ap (λ n. leb (at column y) n) (keeps column x)

    by_column-map : (column : ColNo) (downwards : Bool) (rows : List A)
        → ordered (by_column at2 column downwards) (map f rows) ≡ map f (ordered (by_column at column downwards) rows)
    by_column-map column downwards rows = ordered-map (by_column at column downwards) (by_column at2 column downwards) (column-map column downwards) rows

    in_order-map : (order : Option (ColNo × Bool)) (rows : List A) → in_order at2 order (map f rows) ≡ map f (in_order at order rows)
    unfolding in_order
    in_order-map None rows = refl
    in_order-map (Some order) rows = by_column-map order.0 order.1 rows

    first_of-map : (limit : Option ℕ) (rows : List A) → first_of limit (map f rows) ≡ map f (first_of limit rows)
    unfolding first_of
    first_of-map None rows = refl
    first_of-map (Some limit) rows = take-map f limit rows

    pub chosen-map : (verb : Verb) (rows : List A) → chosen at2 verb (map f rows) ≡ map f (chosen at verb rows)
    unfolding chosen
    chosen-map (verb.Rows columns order limit) rows =
        ap (λ l. first_of limit l) (in_order-map order rows) ∙ first_of-map limit (in_order at order rows)
    chosen-map verb.Count rows = refl
    chosen-map (verb.Min column) rows =
        ap (λ l. take 1 l) (by_column-map column false rows) ∙ take-map f 1 (ordered (by_column at column false) rows)
    chosen-map (verb.Max column) rows =
        ap (λ l. take 1 l) (by_column-map column true rows) ∙ take-map f 1 (ordered (by_column at column true) rows)
    chosen-map verb.Delete rows = refl

    pub selected-map : (ask : Ask) (rows : List A) → selected at2 ask (map f rows) ≡ map f (selected at ask rows)
    unfolding selected
    selected-map ask rows =
        ap (λ l. chosen at2 ask.verb l) (filter-map (passes at ask.tests) (passes at2 ask.tests) (passes-map ask.tests) rows)
        ∙ chosen-map ask.verb (filter (passes at ask.tests) rows)

    values-map : (columns : List ColNo) (row : A) → values_at at2 columns (f row) ≡ values_at at columns row
    unfolding values_at
    values-map [] row = refl
    values-map (column ∷ columns) row =
        ap (λ n. n ∷ map (λ c. at2 c (f row)) columns) (keeps column row) ∙ ap (λ rest. at column row ∷ rest) (values-map columns row)

    all_values-map : (columns : List ColNo) (rows : List A) → flat_map (values_at at2 columns) (map f rows) ≡ flat_map (values_at at columns) rows
    all_values-map columns [] = refl
    all_values-map columns (x ∷ xs) =
        ap (λ l. l ++ flat_map (values_at at2 columns) (map f xs)) (values-map columns x)
        ∙ ap (λ rest. values_at at columns x ++ rest) (all_values-map columns xs)

    first-map : (column : ColNo) (rows : List A) → first_value at2 column (map f rows) ≡ first_value at column rows
    unfolding first_value
    first-map column [] = refl
    first-map column (x ∷ xs) = ap (λ n. Some n) (keeps column x)

    pub answer-map : (verb : Verb) (rows : List A) → answer_about at2 verb (map f rows) ≡ answer_about at verb rows
    unfolding answer_about
    answer-map (verb.Rows columns order limit) rows = ap (λ l. answer.Rows (length columns) l) (all_values-map columns rows)
    answer-map verb.Count rows = ap (λ n. answer.Count n) (length-map rows f)
    answer-map (verb.Min column) rows = ap (λ found. answer.Min found) (first-map column rows)
    answer-map (verb.Max column) rows = ap (λ found. answer.Max found) (first-map column rows)
    answer-map verb.Delete rows = ap (λ n. answer.Deleted n) (length-map rows f)
