-- What a transaction that was tried on a version of the world gives its commit.
use Rattle.std.proofs.Common.{◌≡◌, ℕ, ◌+◌, ◌<◌, Bool, true, false, List, [], length, None, refl, ap, ◌∙◌, sym, subst, arith}
use Rattle.std.proofs.lemmas.Bool.{le-leb}
use Rattle.mope_base.specs.Lists.{Each}
use Rattle.mope_base.specs.declared.numbers.SessionNo.{SessionNo}
use Rattle.mope_base.specs.declared.numbers.TableNo.{TableNo}
use Rattle.table_model.specs.Stores.{Store}
use Rattle.table_model.specs.Operations.{ValueOp, ops_on, AllSound}
use Rattle.table_model.specs.Fitting.{AllFit}
use Rattle.value_cipher.specs.Cipher.{Cell, value_of}
use Rattle.versions.specs.Databases.{Database}
use Rattle.workload.specs.declared.plain.PlainDb.{PlainDb}
use Rattle.workload.specs.declared.script.Act.{Act}
use Rattle.workload.specs.declared.script.Workload.{Workload}
use Rattle.workload.specs.PlainDatabase.{row_limit}
use Rattle.workload.specs.Run.{names, lowest_newer, Stamps as PlainStamps}
use Rattle.workload.specs.Transaction.{Work, Trial, going, trial_of, work_of}
use Rattle.workload.specs.Validity.{IsValid, IsValidAct}
use Rattle.proxy.specs.Client.{Client, starts, taking_up}
use Rattle.transaction_laws.specs.Queries.{AreDeclared}
use Rattle.transaction_laws.specs.Standing.{World}
use Rattle.transaction_laws.specs.Transactions.{plain_database, Tried, tried_on, acts_tried, MayRun, TransactionGoes}
use Rattle.transaction_laws.proofs.StandingVersions.{standing_runs}
use Rattle.transaction_laws.proofs.Transacting.{transaction_meets}
use Rattle.plain_db.proofs.StampLemmas.{stamps_at, none_newer}
use Rattle.run_laws.specs.Worlds.{RunSetting, session_setting}
use Rattle.run_laws.specs.WorldRuns.{Session}
use Rattle.run_laws.specs.TurnLaws.{is_on, SameAt}
use Rattle.run_laws.proofs.TurnSteps.{sealed_version}
use Rattle.run_laws.proofs.Written.{Writes, writes-on, tried-writes}
use Rattle.run_laws.proofs.Lasting.{unwritten, PastWorld, TriedOn}

-- a version of these tables alone
unfoldable pub world_of : RunSetting → List (Store Cell) → World
world_of s stores = record { number = 0; same_time = s.same_time; limit = row_limit; stamps = []; stores = stores }

unfoldable pub version_of_tables : RunSetting → List (Store Cell) → Database
version_of_tables s stores = sealed_version s.key (world_of s stores)

pub may-run : (s : RunSetting) (w : Workload) (n : SessionNo) (stores : List (Store Cell)) → IsValid w → AllSound value_of s.same_time row_limit stores → AreDeclared w.tables stores → MayRun (session_setting s n) w.tables (version_of_tables s stores) stores
unfolding session_setting version_of_tables world_of sealed_version
may-run s w n stores valid sound declared =
    standing_runs (session_setting s n) w.tables (version_of_tables s stores) (world_of s stores) (record { number = refl; mode = refl; limit = refl; stamps = refl; tables = record { same = refl; sound = sound } }) refl valid.tables declared

-- a client that has sealed so many values
pub client_at : ℕ → Client
client_at seals = record (starts []) { seals = seals }

transaction-goes : (s : RunSetting) (w : Workload) (n : SessionNo) (stores : List (Store Cell)) (acts : List Act) (rollback : Bool) (seals : ℕ) → IsValid w → AllSound value_of s.same_time row_limit stores → AreDeclared w.tables stores → Each (IsValidAct w.tables) acts
    → TransactionGoes (session_setting s n) acts rollback (client_at seals) (version_of_tables s stores) stores (acts_tried (session_setting s n) s.same_time acts (tried_on stores seals))
unfolding session_setting version_of_tables world_of sealed_version client_at starts taking_up
transaction-goes s w n stores acts rollback seals valid sound declared valid_acts =
    transaction_meets (session_setting s n) w.tables acts rollback (client_at seals) (version_of_tables s stores) stores (may-run s w n stores valid sound declared) valid_acts refl

-- in clear it is the plain trial
pub tried-plain : (s : RunSetting) (w : Workload) (n : SessionNo) (stores : List (Store Cell)) (acts : List Act) (seals : ℕ) → IsValid w → AllSound value_of s.same_time row_limit stores → AreDeclared w.tables stores → Each (IsValidAct w.tables) acts
    → (acts_tried (session_setting s n) s.same_time acts (tried_on stores seals)).plain ≡ trial_of (plain_database stores) acts
tried-plain s w n stores acts seals valid sound declared valid_acts = (transaction-goes s w n stores acts false seals valid sound declared valid_acts).plain

-- its operations fit the tables, make the plain copy of them, and are on the tables of its plain ones
pub record TriedGives (s : RunSetting) (stores : List (Store Cell)) (ops : List (ValueOp Cell)) (work : Work) : Type 0 where
  pub fit : AllFit s.same_time value_of row_limit ops stores
  pub copy : plain_database (ops_on s.same_time value_of ops stores) ≡ work.copy
  pub writes : Writes ops work

acts-give : (s : RunSetting) (w : Workload) (n : SessionNo) (stores : List (Store Cell)) (acts : List Act) (seals : ℕ) (work : Work) → IsValid w → AllSound value_of s.same_time row_limit stores → AreDeclared w.tables stores → Each (IsValidAct w.tables) acts
    → (acts_tried (session_setting s n) s.same_time acts (tried_on stores seals)).plain ≡ going work → TriedGives s stores (acts_tried (session_setting s n) s.same_time acts (tried_on stores seals)).ops work
unfolding version_of_tables world_of sealed_version work_of
acts-give s w n stores acts seals work valid sound declared valid_acts is =
    let goes = transaction-goes s w n stores acts false seals valid sound declared valid_acts in
    record {
      fit = goes.fit;
      copy = ap plain_database (sym goes.made) ∙ goes.copy ∙ ap (λ (t : Trial). (work_of t).copy) is;
      writes = tried-writes (session_setting s n) w.tables (version_of_tables s stores) stores acts (client_at seals) seals (may-run s w n stores valid sound declared) valid_acts work is;
    }

pub tried-gives : (s : RunSetting) (w : Workload) (n : SessionNo) (session : Session) (stores : List (Store Cell)) (work : Work) → IsValid w → AllSound value_of s.same_time row_limit stores → AreDeclared w.tables stores → TriedOn s w n session stores work → TriedGives s stores session.tried.ops work
tried-gives s w n session stores work valid sound declared on =
    subst (λ (t : Tried). TriedGives s stores t.ops work) (sym on.tried)
    (acts-give s w n stores on.acts on.seals work valid sound declared on.valid (ap (λ (t : Tried). t.plain) (sym on.tried) ∙ on.goes))

from-none : (tables : List TableNo) (table : ℕ) → names tables table ≡ true → names tables (0 + table) ≡ true
from-none tables table named = let same : table ≡ 0 + table = omega arith in ap (λ (k : ℕ). names tables k) (sym same) ∙ named

-- where no table that it touched was written since, those that its operations are on are the same but for balance
pub same-at : (s : RunSetting) (w : Workload) (base : World) (db : PlainDb) (number : ℕ) (stamps : List PlainStamps) (current : List (Store Cell)) (ops : List (ValueOp Cell)) (work : Work) → PastWorld s w base db number stamps current → Writes ops work → lowest_newer 0 stamps number work.touched ≡ None → SameAt ops base.stores current
unfolding unwritten
same-at s w base db number stamps current ops work past writes unfound = record {
  many = past.same.many;
  same = λ (table : ℕ) (lt : table < length base.stores) (is : is_on ops table ≡ true).
      past.same.same table lt (le-leb (stamps_at stamps table).written number (none_newer 0 stamps number work.touched unfound table (from-none work.touched table (writes.touched table (sym (writes-on ops work table writes) ∙ is)))));
}
