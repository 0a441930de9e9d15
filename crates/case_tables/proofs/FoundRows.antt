-- A row that a table finds is one that messages can have.
use Rattle.std.proofs.Common.{◌≡◌, ℕ, Bool, true, false, List, [], ◌∷◌, Some, IsTrue, IfSome, refl, Option}
use Rattle.std.proofs.lemmas.Bool.{eqb-true}
use Rattle.std.proofs.lemmas.Bool.{and_parts}
use Rattle.std.specs.Bool.{if◌then◌else◌, ◌==◌}
use Rattle.case_tables.specs.Tables.{are_kinds, is_alone, is_row, row_of}
use Rattle.case_tables.specs.declared.rows.Kind.{Kind}

parts : (kind : Kind) (rest : List Kind) → IsTrue (are_kinds (kind ∷ rest)) → IsTrue (is_row kind) × IsTrue (are_kinds rest)
unfolding are_kinds
parts kind rest ok =
    let both = and_parts (is_alone kind rest) (are_kinds rest) ok in
    ((and_parts (is_row kind) _ both.0).0, both.1)

pub found_row : (number : ℕ) (rows : List Kind) → IsTrue (are_kinds rows) → IfSome (row_of number rows) (λ kind. IsTrue (is_row kind))
found_row number [] ok = tt
found_row number (kind ∷ rest) ok = elim (kind.number == number) as (λ b. IfSome (if b then Some kind else row_of number rest) (λ kind. IsTrue (is_row kind))) [
  | true ↦ (parts kind rest ok).0
  | false ↦ found_row number rest (parts kind rest ok).1
]

numbered : (number : ℕ) (kind : Kind) (rest : Option Kind) (b : Bool) → (kind.number == number) ≡ b → IfSome rest (λ it. it.number ≡ number) → IfSome (if b then Some kind else rest) (λ it. it.number ≡ number)
numbered number kind rest true e h = eqb-true kind.number number e
numbered number kind rest false e h = h

pub found_number : (number : ℕ) (rows : List Kind) → IfSome (row_of number rows) (λ kind. kind.number ≡ number)
found_number number [] = tt
found_number number (kind ∷ rest) = numbered number kind (row_of number rest) (kind.number == number) refl (found_number number rest)
