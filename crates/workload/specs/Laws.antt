-- Laws of selection, generic in the row: of rows that are told apart by what stands in them, as values, cells or codes, it
-- matters only what is compared.
use Rattle.std.specs.Prelude.{◌≡◌, ℕ, Bool, List, map}
use Rattle.mope_base.specs.declared.numbers.ColNo.{ColNo}
use Rattle.workload.specs.declared.script.Ask.{Ask}
use Rattle.workload.specs.declared.script.Verb.{Verb}
use Rattle.workload.specs.Selection.{ordered, chosen, selected, answer_about, without_rows}

-- a map of the rows keeps what is compared and given in each column
abbrev pub KeepsColumns : {A B : Type 0} → (A → B) → (ColNo → A → ℕ) → (ColNo → B → ℕ) → Type 0
KeepsColumns {A = A} f at at2 = (column : ColNo) (row : A) → at2 column (f row) ≡ at column row

-- what a map puts in an order that it keeps is the map of what stood in order
abbrev pub OrderFollowsMap : Type 0 → Type 0 → Type 0
OrderFollowsMap A B =
    (f : A → B) (before : A → A → Bool) (before2 : B → B → Bool) → ((x y : A) → before2 (f x) (f y) ≡ before x y)
    → (rows : List A) → ordered before2 (map f rows) ≡ map f (ordered before rows)

-- those of the mapped rows that a verb is about are the map of those that it is about
abbrev pub ChoiceFollowsMap : Type 0 → Type 0 → Type 0
ChoiceFollowsMap A B =
    (f : A → B) (at : ColNo → A → ℕ) (at2 : ColNo → B → ℕ) → KeepsColumns f at at2
    → (verb : Verb) (rows : List A) → chosen at2 verb (map f rows) ≡ map f (chosen at verb rows)

-- and the same of a statement
abbrev pub SelectionFollowsMap : Type 0 → Type 0 → Type 0
SelectionFollowsMap A B =
    (f : A → B) (at : ColNo → A → ℕ) (at2 : ColNo → B → ℕ) → KeepsColumns f at at2
    → (ask : Ask) (rows : List A) → selected at2 ask (map f rows) ≡ map f (selected at ask rows)

-- the answer about the mapped rows is that about the rows
abbrev pub AnswerFollowsMap : Type 0 → Type 0 → Type 0
AnswerFollowsMap A B =
    (f : A → B) (at : ColNo → A → ℕ) (at2 : ColNo → B → ℕ) → KeepsColumns f at at2
    → (verb : Verb) (rows : List A) → answer_about at2 verb (map f rows) ≡ answer_about at verb rows

-- a map that keeps the rows' numbers may come before or after rows are taken out
abbrev pub RemovalFollowsMap : Type 0 → Type 0 → Type 0
RemovalFollowsMap A B =
    (f : A → B) (number : A → ℕ) (number2 : B → ℕ) → ((row : A) → number2 (f row) ≡ number row)
    → (numbers : List ℕ) (rows : List A) → without_rows number2 numbers (map f rows) ≡ map f (without_rows number numbers rows)
