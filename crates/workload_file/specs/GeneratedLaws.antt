-- What is generated is a workload.
use Rattle.std.specs.Prelude.{◌≡◌, ℕ, ◌≤◌, List, [], ◌∷◌, length}
use Rattle.mope_base.specs.Lists.{Each}
use Rattle.workload.specs.Validity.{IsValid}
use Rattle.workload.specs.declared.script.Decl.{Decl}
use Rattle.workload.specs.declared.script.Piece.{Piece}
use Rattle.workload.specs.declared.script.Workload.{Workload}
use Rattle.workload_file.specs.GeneratedText.{a, b, g, generated}
use Rattle.workload_file.specs.WorkloadFile.{IsWorkloadFile}

-- the table of generated workloads
abbrev pub generated_table : Decl
generated_table = record { name = g; columns = a ∷ b ∷ [] }

-- a text spells a valid workload with so many sessions, each of so many transactions
pub record SpellsSessions (text : List ℕ) (sessions transactions : ℕ) : Type 0 where
  pub workload : Workload
  pub spelled : IsWorkloadFile text workload
  pub valid : IsValid workload
  pub table : workload.tables ≡ generated_table ∷ []
  pub as_many_sessions : length workload.sessions ≡ sessions
  pub as_many_transactions : Each (λ (script : List Piece). length script ≡ transactions) workload.sessions

-- whatever the number, the text that is generated from it spells a valid workload
abbrev pub GeneratedIsAWorkload : Type 0
GeneratedIsAWorkload = (number sessions transactions : ℕ) → sessions ≤ 64 → transactions ≤ 1000 → SpellsSessions (generated number sessions transactions) sessions transactions
