-- What the server decides by stamps and ranks, and what the world decides, is the same: the statements of laws that this crate's functions
-- without a body prove.
use Rattle.std.specs.Prelude.{◌≡◌, ℕ, List, map}
use Rattle.mope_base.specs.declared.numbers.TableNo.{TableNo}
use Rattle.mope_base.specs.declared.numbers.SessionNo.{SessionNo}
use Rattle.table_model.specs.Steps.{places_by}
use Rattle.table_model.specs.Soundness.{numbers_of, kept_numbers}
use Rattle.table_model.specs.Operations.{shelf_at}
use Rattle.value_cipher.specs.Cipher.{Cell, value_of, sealed, unseal_of}
use Rattle.versions.specs.Databases.{Database, stamps_at}
use Rattle.versions.specs.Newer.{lowest_newer as server_newer, last_change as server_change}
use Rattle.versions.specs.Turns.{replay}
use Rattle.workload.specs.declared.script.Workload.{Workload}
use Rattle.workload.specs.Run.{lowest_newer, last_change, stamps_of}
use Rattle.workload.specs.Validity.{IsValid}
use Rattle.run_laws.specs.Worlds.{RunSetting, first_version}
use Rattle.run_laws.specs.WorldRuns.{WorldRun, first_run, world_turns}
use Rattle.run_laws.specs.TurnLaws.{store_in}

-- which touched table was written since a base, and when a table was last changed; the numbers of a table's rows and of the next; and the
-- places of values
pub record DecidesAs (s : RunSetting) (r : WorldRun) (d : Database) : Type 0 where
  pub conflict : (base : ℕ) (touched : List TableNo) → server_newer 0 d.stamps base touched ≡ lowest_newer 0 r.plain.stamps base touched
  pub stale : (t : TableNo) → server_change (stamps_at d.stamps t.0) ≡ last_change (stamps_of r.plain t)
  pub rows : (table : ℕ) → kept_numbers (shelf_at d.shelves table).kept ≡ numbers_of (store_in r.current.stores table).rows
  pub next : (table : ℕ) → (shelf_at d.shelves table).next ≡ (store_in r.current.stores table).next
  pub places : (table : ℕ) (cells : List Cell) → places_by (unseal_of s.key) (shelf_at d.shelves table).columns (map (sealed s.key) cells) ≡ places_by value_of (store_in r.current.stores table).columns cells

abbrev pub ServerDecides : Type 0
ServerDecides = (s : RunSetting) (w : Workload) → IsValid w → (turns : List SessionNo) → DecidesAs s (world_turns s (first_run s w) turns) (replay (world_turns s (first_run s w) turns).turns (first_version s w))
