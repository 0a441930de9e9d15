-- What holds of the world's run after each turn.
use Rattle.std.proofs.Common.{◌≡◌, ℕ, zero, suc, ◌<◌, ◌≤◌, Bool, false, leb, List, [], ◌∷◌, ◌++◌, map, length, refl, ap, ap₂, ◌∙◌, sym, subst, inl, inr, arith}
use Rattle.std.proofs.lemmas.Bool.{cases_eq}
use Rattle.std.proofs.lemmas.List.{length-map, length-replicate, length-set, get_or-set_same, get_or-set_other}
use Rattle.mope_base.specs.Lists.{Each}
use Rattle.mope_base.specs.declared.body.Body.{Body}
use Rattle.mope_base.specs.declared.numbers.SessionNo.{SessionNo}
use Rattle.tree_model.specs.Columns.{empty_column}
use Rattle.table_model.specs.Stores.{Store, empty_store}
use Rattle.table_model.specs.Operations.{AllSound}
use Rattle.table_model.proofs.SameTables.{same_is_equivalence}
use Rattle.table_model.proofs.SealedTables.{empties_stand}
use Rattle.value_cipher.specs.Cipher.{Cell, value_of, sealed}
use Rattle.enc_table.specs.declared.stamps.Stamps.{Stamps}
use Rattle.enc_table.specs.Seen.{no_stamps}
use Rattle.versions.specs.declared.turn.Turn.{Turn}
use Rattle.versions.specs.Databases.{Database}
use Rattle.versions.specs.Turns.{after_turn, replay, IsTold, AreTold}
use Rattle.workload.specs.declared.plain.PlainDb.{PlainDb}
use Rattle.workload.specs.declared.plain.PlainTable.{PlainTable}
use Rattle.workload.specs.declared.script.Act.{Act}
use Rattle.workload.specs.declared.script.Decl.{Decl}
use Rattle.workload.specs.declared.script.Piece.{Piece}
use Rattle.workload.specs.declared.script.Workload.{Workload}
use Rattle.workload.specs.PlainDatabase.{row_limit, empty_table, empty_database}
use Rattle.workload.specs.Run.{Turn as PlainTurn, Position, ready, committing, installing, Stamps as PlainStamps, unstamped, initial, number_of, version_of, position_at, with_position, turns_taken}
use Rattle.workload.specs.Transaction.{Work, going}
use Rattle.workload.specs.Validity.{IsValidAct}
use Rattle.transaction_laws.specs.Queries.{AreDeclared}
use Rattle.transaction_laws.specs.Standing.{World, Stands}
use Rattle.transaction_laws.specs.Transactions.{plain_table, plain_database, tried_on, acts_tried}
use Rattle.plain_db.proofs.StampLemmas.{stamps_at}
use Rattle.plain_db.proofs.RunInvariant.{RunHolds}
use Rattle.plain_db.proofs.StepLemmas.{is_over, position-own, position-other}
use Rattle.plain_db.proofs.FinishLemmas.{initial_position, initial_holds}
use Rattle.run_laws.specs.Worlds.{RunSetting, session_setting, widths_of, first_world, first_version}
use Rattle.run_laws.specs.WorldRuns.{Session, new_session, WorldRun, first_run, world_at, session_at, with_session}
use Rattle.run_laws.specs.Honesty.{sessions_of}
use Rattle.run_laws.specs.TurnLaws.{store_in, SameOn}
use Rattle.run_laws.proofs.TurnSteps.{first_stands}
use Rattle.run_laws.proofs.WorldTables.{seen_stamps}

-- ---- versions of the world

-- a table wasn't written after the version of a number
unfoldable pub unwritten : List PlainStamps → ℕ → ℕ → Bool
unwritten stamps number table = leb (stamps_at stamps table).written number

-- a version of the world: in clear it is the plain one of its number; its tables are as they are declared, and sound; and one that wasn't
-- written after it is the current one but for balance
pub record PastWorld (s : RunSetting) (w : Workload) (world : World) (db : PlainDb) (number : ℕ) (stamps : List PlainStamps) (current : List (Store Cell)) : Type 0 where
  pub numbered : world.number ≡ number
  pub mode : world.same_time ≡ s.same_time
  pub limit : world.limit ≡ row_limit
  pub plain : plain_database world.stores ≡ db
  pub declared : AreDeclared w.tables world.stores
  pub sound : AllSound value_of s.same_time row_limit world.stores
  pub same : SameOn (unwritten stamps number) world.stores current

-- ---- transactions that wait for their commit

-- these statements were tried on these tables
pub record TriedOn (s : RunSetting) (w : Workload) (n : SessionNo) (session : Session) (stores : List (Store Cell)) (work : Work) : Type 0 where
  pub acts : List Act
  pub seals : ℕ
  pub valid : Each (IsValidAct w.tables) acts
  pub tried : session.tried ≡ acts_tried (session_setting s n) s.same_time acts (tried_on stores seals)
  pub goes : session.tried.plain ≡ going work

unfoldable pub IsTrying : RunSetting → Workload → WorldRun → SessionNo → Position → Type 0
IsTrying s w r n (ready place rest) = Unit {0}
IsTrying s w r n (committing place base work rest) = (base ≤ number_of r.plain) × TriedOn s w n (session_at r.sessions n.0) (world_at r base).stores work
IsTrying s w r n (installing place base t column rest) = Unit {0}

-- ---- all of it

pub record Lasts (s : RunSetting) (w : Workload) (r : WorldRun) : Type 0 where
  pub holds : RunHolds w r.plain
  pub versions : length r.older ≡ number_of r.plain
  pub past : (number : ℕ) → number ≤ number_of r.plain → PastWorld s w (world_at r number) (version_of r.plain number) number r.plain.stamps r.current.stores
  pub stamped : r.current.stamps ≡ map seen_stamps r.plain.stamps
  pub stands : Stands s.key (replay r.turns (first_version s w)) r.current
  pub told : AreTold r.turns (first_version s w)
  pub taken : sessions_of r.turns ≡ turns_taken r.plain
  pub sessions : length r.sessions ≡ length w.sessions
  pub tries : (n : SessionNo) → IsTrying s w r n (position_at r.plain.positions n.0)

-- ---- before the first turn

first-plain : (tables : List Decl) → map plain_table (map (empty_store Cell) (map (λ (d : Decl). length d.columns) tables)) ≡ map (λ (_ : Decl). empty_table) tables
unfolding plain_table empty_store empty_table
first-plain [] = refl
first-plain (d ∷ tables) = ap (λ (rest : List PlainTable). empty_table ∷ rest) (first-plain tables)

first-declared : (tables : List Decl) → map (λ (store : Store Cell). length store.columns) (map (empty_store Cell) (map (λ (d : Decl). length d.columns) tables)) ≡ map (λ (d : Decl). length d.columns) tables
unfolding empty_store
first-declared [] = refl
first-declared (d ∷ tables) = ap₂ (λ (n : ℕ) (rest : List ℕ). n ∷ rest) (length-replicate (length d.columns) (empty_column Cell)) (first-declared tables)

first-stamps : (tables : List Decl) → map (λ (_ : ℕ). no_stamps) (map (λ (d : Decl). length d.columns) tables) ≡ map seen_stamps (map (λ (_ : Decl). unstamped) tables)
unfolding no_stamps unstamped seen_stamps
first-stamps [] = refl
first-stamps (d ∷ tables) = ap (λ (rest : List Stamps). no_stamps ∷ rest) (first-stamps tables)

pub same-self : (on : ℕ → Bool) (stores : List (Store Cell)) → SameOn on stores stores
same-self on stores = record { many = refl; same = λ table lt is. (same_is_equivalence Cell).reflexive (store_in stores table) }

first-past : (s : RunSetting) (w : Workload) → PastWorld s w (first_world s w) (empty_database w.tables) 0 (initial w).stamps (first_world s w).stores
unfolding first_world widths_of plain_database empty_database
first-past s w = record {
  numbered = refl;
  mode = refl;
  limit = refl;
  plain = ap (λ (tables : List PlainTable). let db : PlainDb = record { tables = tables } in db) (first-plain w.tables);
  declared = first-declared w.tables;
  sound = (empties_stand {B = Body} (sealed s.key) value_of s.same_time row_limit (widths_of w)).sound;
  same = same-self (unwritten (initial w).stamps 0) (map (empty_store Cell) (widths_of w));
}

first-trying : (s : RunSetting) (w : Workload) (r : WorldRun) (n : SessionNo) (i : ℕ) → IsTrying s w r n (position_at (initial w).positions i)
unfolding initial position_at IsTrying
first-trying s w r n zero = tt
first-trying s w r n (suc i) = subst (λ (p : Position). IsTrying s w r n p) (sym (initial_position w.sessions i)) tt

pub first-lasts : (s : RunSetting) (w : Workload) → Lasts s w (first_run s w)
unfolding first_run initial number_of version_of world_at replay AreTold sessions_of turns_taken first_world widths_of
first-lasts s w = record {
  holds = initial_holds w;
  versions = refl;
  past = past;
  stamped = first-stamps w.tables;
  stands = first_stands s w;
  told = tt;
  taken = refl;
  sessions = length-map w.sessions (λ (_ : List Piece). new_session);
  tries = λ n. first-trying s w (first_run s w) n n.0;
}
  where
    past : (number : ℕ) → number ≤ 0 → PastWorld s w (world_at (first_run s w) number) (version_of (initial w) number) number (initial w).stamps (first_world s w).stores
    past zero within = first-past s w
    past (suc number) within = absurd (omega (arith, within))

-- ---- turns one after the other

pub replay-more : (turns : List Turn) (turn : Turn) (d : Database) → replay (turns ++ turn ∷ []) d ≡ after_turn turn.what (replay turns d)
unfolding replay
replay-more [] turn d = refl
replay-more (first ∷ turns) turn d = replay-more turns turn (after_turn first.what d)

pub told-more : (turns : List Turn) (turn : Turn) (d : Database) → AreTold turns d → IsTold turn (replay turns d) → AreTold (turns ++ turn ∷ []) d
unfolding AreTold replay
told-more [] turn d told last = (last, tt)
told-more (first ∷ turns) turn d told last = (told.0, told-more turns turn (after_turn first.what d) told.1 last)

pub sessions-more : (turns : List Turn) (turn : Turn) → sessions_of (turns ++ turn ∷ []) ≡ sessions_of turns ++ turn.session ∷ []
unfolding sessions_of
sessions-more [] turn = refl
sessions-more (first ∷ turns) turn = ap (λ (rest : List SessionNo). first.session ∷ rest) (sessions-more turns turn)

pub plain-more : (turns : List PlainTurn) (turn : PlainTurn) → map (λ (t : PlainTurn). t.session) (turns ++ turn ∷ []) ≡ map (λ (t : PlainTurn). t.session) turns ++ turn.session ∷ []
plain-more [] turn = refl
plain-more (first ∷ turns) turn = ap (λ (rest : List SessionNo). first.session ∷ rest) (plain-more turns turn)

-- ---- sessions

pub session-own : (sessions : List Session) (n : ℕ) (session : Session) (m : ℕ) → n ≡ suc m → m < length sessions → session_at (with_session sessions n session) n ≡ session
unfolding session_at with_session
session-own sessions zero session m is lt = absurd (omega (arith, is))
session-own sessions (suc i) session m is lt = get_or-set_same sessions i session new_session (omega (arith, is, lt))

pub session-other : (sessions : List Session) (n k : ℕ) (session : Session) → (k ≡ n → ⊥) → session_at (with_session sessions n session) k ≡ session_at sessions k
unfolding session_at with_session
session-other sessions zero k session other = refl
session-other sessions (suc i) zero session other = refl
session-other sessions (suc i) (suc k) session other = get_or-set_other sessions i k session new_session (λ e. other (ap suc e))

pub length-sessions : (sessions : List Session) (n : ℕ) (session : Session) → length (with_session sessions n session) ≡ length sessions
unfolding with_session
length-sessions sessions zero session = refl
length-sessions sessions (suc i) session = length-set sessions i session

number_same : (n k : SessionNo) → n.0 ≡ k.0 → n ≡ k
number_same n k is = ap (λ (i : ℕ). let x : SessionNo = record { 0 = i } in x) is

-- ---- a turn

-- what a turn of a session does to a run, which then lasts
pub record Goes (s : RunSetting) (w : Workload) (r next : WorldRun) (n : SessionNo) (p : Position) (session : Session) (turn : Turn) : Type 0 where
  pub holds : RunHolds w next.plain
  pub versions : length next.older ≡ number_of next.plain
  pub past : (number : ℕ) → number ≤ number_of next.plain → PastWorld s w (world_at next number) (version_of next.plain number) number next.plain.stamps next.current.stores
  pub stamped : next.current.stamps ≡ map seen_stamps next.plain.stamps
  pub turns : next.turns ≡ r.turns ++ turn ∷ []
  pub stands : Stands s.key (after_turn turn.what (replay r.turns (first_version s w))) next.current
  pub told : IsTold turn (replay r.turns (first_version s w))
  pub plain_turns : turns_taken next.plain ≡ turns_taken r.plain ++ n ∷ []
  pub own : turn.session ≡ n
  pub sessions : next.sessions ≡ with_session r.sessions n.0 session
  pub positions : next.plain.positions ≡ with_position r.plain.positions n.0 p
  pub here : is_over (position_at r.plain.positions n.0) ≡ false
  pub later : (number : ℕ) → number ≤ number_of r.plain → world_at next number ≡ world_at r number
  pub grows : number_of r.plain ≤ number_of next.plain
  pub trying : IsTrying s w next n p

trying-later : (s : RunSetting) (w : Workload) (r next : WorldRun) (n : SessionNo) (p : Position) → ((number : ℕ) → number ≤ number_of r.plain → world_at next number ≡ world_at r number) → number_of r.plain ≤ number_of next.plain → session_at next.sessions n.0 ≡ session_at r.sessions n.0
    → IsTrying s w r n p → IsTrying s w next n p
unfolding IsTrying
trying-later s w r next n (ready place rest) later grows same trying = tt
trying-later s w r next n (committing place base work rest) later grows same trying = (
  omega (arith, trying.0, grows),
  subst (λ (session : Session). TriedOn s w n session (world_at next base).stores work) (sym same)
      (subst (λ (world : World). TriedOn s w n (session_at r.sessions n.0) world.stores work) (sym (later base trying.0)) trying.1),
)
trying-later s w r next n (installing place base t column rest) later grows same trying = tt

pub goes-lasts : (s : RunSetting) (w : Workload) (r next : WorldRun) (n : SessionNo) (p : Position) (session : Session) (turn : Turn) → Lasts s w r → Goes s w r next n p session turn → Lasts s w next
goes-lasts s w r next n p session turn lasts goes =
    let first : Database = first_version s w in
    record {
      holds = goes.holds;
      versions = goes.versions;
      past = goes.past;
      stamped = goes.stamped;
      stands = subst (λ (d : Database). Stands s.key d next.current) (sym (ap (λ (turns : List Turn). replay turns first) goes.turns ∙ replay-more r.turns turn first)) goes.stands;
      told = subst (λ (turns : List Turn). AreTold turns first) (sym goes.turns) (told-more r.turns turn first lasts.told goes.told);
      taken = ap sessions_of goes.turns ∙ sessions-more r.turns turn ∙ ap₂ (λ (l : List SessionNo) (x : SessionNo). l ++ x ∷ []) lasts.taken goes.own ∙ sym goes.plain_turns;
      sessions = ap length goes.sessions ∙ length-sessions r.sessions n.0 session ∙ lasts.sessions;
      tries = tries;
    }
  where
    tries : (k : SessionNo) → IsTrying s w next k (position_at next.plain.positions k.0)
    tries k =
        elim (cases_eq k.0 n.0) as (λ _. IsTrying s w next k (position_at next.plain.positions k.0)) [
          | inl same ↦
              subst (λ (x : SessionNo). IsTrying s w next x (position_at next.plain.positions x.0)) (sym (number_same k n same))
              (subst (λ (q : Position). IsTrying s w next n q) (sym (ap (λ (l : List Position). position_at l n.0) goes.positions ∙ position-own r.plain.positions n.0 p goes.here)) goes.trying)
          | inr other ↦
              subst (λ (q : Position). IsTrying s w next k q) (sym (ap (λ (l : List Position). position_at l k.0) goes.positions ∙ position-other r.plain.positions n.0 k.0 p other))
              (trying-later s w r next k (position_at r.plain.positions k.0) goes.later goes.grows (ap (λ (l : List Session). session_at l k.0) goes.sessions ∙ session-other r.sessions n.0 k.0 session other) (lasts.tries k))
        ]
