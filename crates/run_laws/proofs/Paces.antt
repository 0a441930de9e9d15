-- What holds of every state of the run of a valid workload, for its client's and connections' steps.
use Rattle.std.proofs.Common.{◌≡◌, ℕ, List, ◌∷◌, length}
use Rattle.mope_base.specs.declared.numbers.TableNo.{TableNo}
use Rattle.mope_base.specs.declared.numbers.SessionNo.{SessionNo}
use Rattle.versions.specs.Databases.{stamps_at}
use Rattle.versions.specs.Newer.{lowest_newer, last_change}
use Rattle.versions.specs.Turns.{AreTold}
use Rattle.workload.specs.declared.script.Piece.{Piece}
use Rattle.workload.specs.declared.script.Workload.{Workload}
use Rattle.workload.specs.PlainDatabase.{row_limit}
use Rattle.workload.specs.Run.{ready, position_at, number_of, stamps_of, lowest_newer as plain_newer, last_change as plain_change}
use Rattle.workload.specs.Validity.{IsValidPiece}
use Rattle.transaction_laws.specs.Queries.{AreDeclared}
use Rattle.transaction_laws.specs.Standing.{Stands}
use Rattle.transaction_laws.specs.Transactions.{plain_database}
use Rattle.run_laws.specs.Worlds.{RunSetting, first_version}
use Rattle.run_laws.specs.WorldRuns.{WorldRun}
use Rattle.run_laws.specs.TellingLaws.{version_now}

pub record KeepsPace (s : RunSetting) (w : Workload) (r : WorldRun) : Type 0 where
  pub told : AreTold r.turns (first_version s w)
  pub stands : Stands s.key (version_now s w r) r.current
  pub limit : r.current.limit ≡ row_limit
  pub mode : r.current.same_time ≡ s.same_time
  pub declared : AreDeclared w.tables r.current.stores
  pub plain : plain_database r.current.stores ≡ r.plain.current
  pub older : length r.older ≡ number_of r.plain
  pub number : r.current.number ≡ number_of r.plain
  pub newer : (base : ℕ) (touched : List TableNo) → lowest_newer 0 (version_now s w r).stamps base touched ≡ plain_newer 0 r.plain.stamps base touched
  pub changed : (t : TableNo) → last_change (stamps_at (version_now s w r).stamps t.0) ≡ plain_change (stamps_of r.plain t)
  pub sessions : length r.sessions ≡ length w.sessions
  pub positions : length r.plain.positions ≡ length w.sessions
  pub valid : (n : SessionNo) (place : ℕ) (p : Piece) (rest : List Piece) → position_at r.plain.positions n.0 ≡ ready place (p ∷ rest) → IsValidPiece w.tables p
