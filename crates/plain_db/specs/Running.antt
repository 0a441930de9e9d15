-- How the state of the program stands for that of the definition of runs.
use Rattle.std.specs.Prelude.{◌≡◌, ℕ, suc, max, ◌+◌, ◌^◌, ◌++◌, ◌<◌, ◌≤◌, Bool, true, false, ◌&&◌, ltb, List, [], ◌∷◌, map, drop, length, get_or, set, Option, Some, None}
use Rattle.mope_base.specs.declared.numbers.TableNo.{TableNo}
use Rattle.mope_base.specs.declared.numbers.ColNo.{ColNo}
use Rattle.mope_base.specs.declared.numbers.SessionNo.{SessionNo}
use Rattle.workload.specs.declared.script.Act.{Act}
use Rattle.workload.specs.declared.script.Answer.{Answer}
use Rattle.workload.specs.declared.script.End.{End}
use Rattle.workload.specs.declared.script.End.TheVariants as end
use Rattle.workload.specs.declared.script.Piece.{Piece}
use Rattle.workload.specs.declared.script.Piece.TheVariants as piece
use Rattle.workload.specs.declared.script.Workload.{Workload}
use Rattle.mope_base.specs.Lists.{Each}
use Rattle.workload.specs.Transaction.{Work, table_named, trial_of, work_of, Wish, ends, commits, wish_of}
use Rattle.workload.specs.Run.{Run, Turn, Position, ready, committing, installing, Stamps, number_of, names, this_or}
use Rattle.workload.specs.History.{effect_on}
use Rattle.plain_db.specs.declared.state.Standing.{Standing}
use Rattle.plain_db.specs.declared.state.Standing.TheVariants as standing
use Rattle.plain_db.specs.declared.state.Place.{Place}
use Rattle.plain_db.specs.declared.state.State.{State}
use Rattle.plain_db.specs.declared.trying.Tried.{Tried}
use Rattle.plain_db.specs.Trying.{ShowsWork, AllNumbered, Fits}

-- the lowest table from number i on, of those touched, whose number of the last write is above the base, with it
unfoldable pub newer_in : ℕ → List ℕ → ℕ → List TableNo → Option (TableNo × ℕ)
newer_in i [] base touched = None
newer_in i (written ∷ stamps) base touched =
    this_or (names touched i && ltb base written) i written (newer_in (suc i) stamps base touched)

-- the numbers of the last writes after a commit on these tables
unfoldable pub written_by : List TableNo → ℕ → List ℕ → List ℕ
written_by [] number written = written
written_by (t ∷ tables) number written = written_by tables number (set written t.0 number)

-- the end of a transaction that ends at its begin
unfoldable pub wish_shown : Option End → Wish
wish_shown None = commits
wish_shown (Some e) = ends e

-- where a session stands
pub record IsCommitting (script : List Piece) (ended base : ℕ) (p : Position) (P : Work → Type 0) : Type 0 where
  pub work : Work
  pub shows : P work
  pub stands : p ≡ committing (suc ended) base work (drop (suc ended) script)

pub record IsInstalling (script : List Piece) (ended base : ℕ) (t : TableNo) (p : Position) : Type 0 where
  pub column : ColNo
  pub stands : p ≡ installing (suc ended) base t column (drop (suc ended) script)

unfoldable pub ShowsStanding : List Piece → ℕ → Standing → Position → Type 0
ShowsStanding script ended standing.Ready p = p ≡ ready (suc ended) (drop ended script)
ShowsStanding script ended (standing.Committing base work) p = IsCommitting script ended base p (ShowsWork work)
ShowsStanding script ended (standing.Installing base t) p = IsInstalling script ended base t p

pub record ShowsPlaces (w : Workload) (places : List Place) (positions : List Position) : Type 0 where
  pub sizes : length places ≡ length positions
  pub each : (i : ℕ) (d : Place) → i < length places
      → ShowsStanding (get_or w.sessions i []) (get_or places i d).ended (get_or places i d).standing (get_or positions i (ready 1 []))

pub record ShowsRun (w : Workload) (state : State) (r : Run) : Type 0 where
  pub version : state.version ≡ number_of r
  pub current : state.current ≡ r.current
  pub written : state.written ≡ map (λ (s : Stamps). s.written) r.stamps
  pub laid : state.laid ≡ map (λ (s : Stamps). s.laid) r.stamps
  pub places : ShowsPlaces w state.places r.positions
  pub taken : state.taken ≡ map (λ (t : Turn). t.session) r.turns
  pub done : state.done ≡ r.done

-- the state after a turn of session k + 1
unfoldable pub moved_state : State → SessionNo → ℕ → Place → State
moved_state state s k place = record state { places = set state.places k place; taken = state.taken ++ s ∷ [] }

-- the state after a turn that ended its transaction
unfoldable pub ended_state : State → SessionNo → ℕ → ℕ → ℕ → End → List Answer → State
ended_state state s k ended base e answers =
    record (moved_state state s k (record { ended = suc ended; standing = standing.Ready })) {
      done = state.done ++ record { session = s; place = suc ended; base = base; end = e; answers = answers } ∷ [];
    }

-- the state after a begin, by the wish of the trial
unfoldable pub BegunBy : Wish → State → State → SessionNo → ℕ → ℕ → Work → Type 0
BegunBy (ends e) state new s k ended work = new ≡ ended_state state s k ended state.version e work.answers
BegunBy commits state new s k ended work =
    (tried : Tried) × ShowsWork tried work
    × (new ≡ moved_state state s k (record { ended = ended; standing = standing.Committing state.version tried }))

-- the state after the commit of a piece, by the touched table that was written after the base: its statements are done again
unfoldable pub committed_state : Option (TableNo × ℕ) → State → SessionNo → ℕ → ℕ → ℕ → Tried → Piece → State
committed_state (Some newer) state s k ended base work present =
    ended_state state s k ended base (end.Conflict newer.0 newer.1) work.answers
committed_state None state s k ended base work present =
    record (ended_state state s k ended base (end.Committed (suc state.version)) work.answers) {
      version = suc state.version;
      current = effect_on present state.current;
      written = written_by work.ops (suc state.version) state.written;
    }

-- the number of a table's last change
unfoldable pub changed_in : State → TableNo → ℕ
changed_in state t = max (get_or state.written t.0 0) (get_or state.laid t.0 0)

-- the state after an install, by whether the table was changed after the base
unfoldable pub installed_state : Bool → State → SessionNo → ℕ → ℕ → ℕ → TableNo → State
installed_state true state s k ended base t = ended_state state s k ended base (end.Stale t (changed_in state t)) []
installed_state false state s k ended base t =
    record (ended_state state s k ended base (end.Installed (suc state.version)) []) {
      version = suc state.version;
      laid = set state.laid t.0 (suc state.version);
    }

-- the wish of a transaction whose INSERT met this full table, if one did, by its ops
unfoldable pub wish_by : Option TableNo → Bool → List TableNo → Wish
wish_by (Some t) rollback ops = ends (end.Full t)
wish_by None true ops = ends end.RolledBack
wish_by None false [] = ends end.Read
wish_by None false (t ∷ ops) = commits

-- the piece of a script that stands after so many others
unfoldable pub piece_after : List Piece → ℕ → Piece
piece_after script ended = get_or script ended (piece.Txn [] true)

-- the state after a session settled what it owed
unfoldable pub SettledBy : List Piece → Standing → State → State → SessionNo → ℕ → ℕ → Type 0
SettledBy script standing.Ready state new s k ended = new ≡ state
SettledBy script (standing.Committing base work) state new s k ended =
    new ≡ committed_state (newer_in 0 state.written base work.touched) state s k ended base work (piece_after script ended)
SettledBy script (standing.Installing base t) state new s k ended =
    new ≡ installed_state (ltb base (changed_in state t)) state s k ended base t

-- the state after a session began its next transaction, if one is left
unfoldable pub BeganBy : List Piece → State → State → SessionNo → ℕ → ℕ → Type 0
BeganBy [] state new s k ended = new ≡ state
BeganBy (piece.Txn statements rollback ∷ rest) state new s k ended =
    let trial = trial_of state.current statements in BegunBy (wish_of rollback trial) state new s k ended (work_of trial)
BeganBy (piece.Rebuild t column ∷ rest) state new s k ended =
    new ≡ moved_state state s k (record { ended = ended; standing = standing.Installing state.version t })

-- what a turn needs of a session between a begin and a commit or install
unfoldable pub StandingFits : ℕ → ℕ → Standing → Type 0
StandingFits tables ended standing.Ready = Unit {0}
StandingFits tables ended (standing.Committing base work) = ended + 1 < 2 ^ 32
StandingFits tables ended (standing.Installing base t) = (t.0 < tables) × (ended + 1 < 2 ^ 32)

-- what a turn needs of the state, over so many tables
pub record StateFits (tables : ℕ) (state : State) : Type 0 where
  pub few : tables ≤ 256
  pub current : length state.current.tables ≡ tables
  pub numbered : AllNumbered state.current
  pub written : length state.written ≡ tables
  pub laid : length state.laid ≡ tables
  pub version : state.version < 2 ^ 63
  pub standings : (i : ℕ) (d : Place) → i < length state.places
      → StandingFits tables (get_or state.places i d).ended (get_or state.places i d).standing

-- a piece whose statements can be answered over so many tables
unfoldable pub PieceFits : ℕ → Piece → Type 0
PieceFits tables (piece.Txn statements rollback) = Each (Fits tables) statements
PieceFits tables (piece.Rebuild t column) = Unit {0}

unfoldable pub ready_standing : Standing → Bool
ready_standing standing.Ready = true
ready_standing (standing.Committing base work) = false
ready_standing (standing.Installing base t) = false

unfoldable pub first_place : Place
first_place = record { ended = 0; standing = standing.Ready }
