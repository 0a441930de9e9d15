-- A run of a workload: turns of sessions over versions of the plain database. The definition is our own.
use Rattle.std.specs.Prelude.{◌≡◌, ℕ, zero, suc, max, Bool, true, false, ◌&&◌, ◌||◌, eqb, ltb, List, [], ◌∷◌, ◌++◌, map, length, get_or, set, Option, Some, None}
use Rattle.mope_base.specs.declared.numbers.TableNo.{TableNo}
use Rattle.mope_base.specs.declared.numbers.ColNo.{ColNo}
use Rattle.mope_base.specs.declared.numbers.SessionNo.{SessionNo}
use Rattle.workload.specs.declared.plain.PlainDb.{PlainDb}
use Rattle.workload.specs.declared.script.Act.{Act}
use Rattle.workload.specs.declared.script.Answer.{Answer}
use Rattle.workload.specs.declared.script.Decl.{Decl}
use Rattle.workload.specs.declared.script.DoneTxn.{DoneTxn}
use Rattle.workload.specs.declared.script.End.{End}
use Rattle.workload.specs.declared.script.End.TheVariants as end
use Rattle.workload.specs.declared.script.Piece.{Piece}
use Rattle.workload.specs.declared.script.Piece.TheVariants as piece
use Rattle.workload.specs.declared.script.Workload.{Workload}
use Rattle.workload.specs.PlainDatabase.{empty_database, table_of, with_table}
use Rattle.workload.specs.Transaction.{Work, trial_of, work_of, table_named, Wish, ends, commits, wish_of}

-- the versions at which a table was last written by a commit, and last laid anew by an install; 0 at first
pub record Stamps : Type 0 where
  pub written : ℕ
  pub laid : ℕ

-- what a turn did: a begin on a version, or the end of a commit or an install
pub data TurnKind : Type 0 where
  began : ℕ → TurnKind
  committed : ℕ → List Act → TurnKind
  conflicted : TableNo → ℕ → TurnKind
  installed : ℕ → TableNo → ColNo → TurnKind
  found_stale : TableNo → ℕ → TurnKind

-- a turn that was taken: whose, for which transaction of the script (from 1), and what it did
pub record Turn : Type 0 where
  pub session : SessionNo
  pub place : ℕ
  pub kind : TurnKind

-- where a session stands in its script: before the transaction of a place, or between its begin and its commit or
-- install, with its base, and with the transactions after it
pub data Position : Type 0 where
  ready : ℕ → List Piece → Position
  committing : ℕ → ℕ → Work → List Piece → Position
  installing : ℕ → ℕ → TableNo → ColNo → List Piece → Position

-- the state of a run: the versions before the current one, the current one, the stamps by table, the positions by
-- session, and in their order the turns that were taken and the transactions that ended
pub record Run : Type 0 where
  pub older : List PlainDb
  pub current : PlainDb
  pub stamps : List Stamps
  pub positions : List Position
  pub turns : List Turn
  pub done : List DoneTxn

-- the current version's number
unfoldable pub number_of : Run → ℕ
number_of r = length r.older

-- the version of a number
unfoldable pub version_of : Run → ℕ → PlainDb
version_of r number = get_or (r.older ++ r.current ∷ []) number r.current

unfoldable pub unstamped : Stamps
unstamped = record { written = 0; laid = 0 }

-- the state before the first turn
unfoldable pub initial : Workload → Run
initial w = record {
  older = [];
  current = empty_database w.tables;
  stamps = map (λ (_ : Decl). unstamped) w.tables;
  positions = map (λ pieces. ready 1 pieces) w.sessions;
  turns = [];
  done = [];
}

-- where a session stands; one that doesn't exist has ended
unfoldable pub position_at : List Position → ℕ → Position
position_at positions zero = ready 1 []
position_at positions (suc i) = get_or positions i (ready 1 [])

unfoldable pub with_position : List Position → ℕ → Position → List Position
with_position positions zero p = positions
with_position positions (suc i) p = set positions i p

-- a turn was taken, and its session stands elsewhere
unfoldable pub moved : Run → SessionNo → ℕ → TurnKind → Position → Run
moved r s place kind p =
    record r { positions = with_position r.positions s.0 p; turns = r.turns ++ record { session = s; place = place; kind = kind } ∷ [] }

-- a transaction ended
unfoldable pub with_done : Run → SessionNo → ℕ → ℕ → End → List Answer → Run
with_done r s place base e answers =
    record r { done = r.done ++ record { session = s; place = place; base = base; end = e; answers = answers } ∷ [] }

-- the begin of a transaction: it ends at once, or will commit
unfoldable pub begun : Wish → Run → SessionNo → ℕ → Work → List Piece → Run
begun (ends e) r s place work rest =
    with_done (moved r s place (began (number_of r)) (ready (suc place) rest)) s place (number_of r) e work.answers
begun commits r s place work rest =
    moved r s place (began (number_of r)) (committing place (number_of r) work rest)

-- the begin turn of a piece of a script, on the current version
unfoldable pub begin_turn : Run → SessionNo → ℕ → Piece → List Piece → Run
begin_turn r s place (piece.Txn statements rollback) rest =
    let trial = trial_of r.current statements in begun (wish_of rollback trial) r s place (work_of trial) rest
begin_turn r s place (piece.Rebuild t column) rest =
    moved r s place (began (number_of r)) (installing place (number_of r) t column rest)

unfoldable pub stamps_of : Run → TableNo → Stamps
stamps_of r t = get_or r.stamps t.0 unstamped

-- a table's number is among these
unfoldable pub names : List TableNo → ℕ → Bool
names [] i = false
names (t ∷ tables) i = eqb t.0 i || names tables i

-- the table with its stamp where that is so, else the other
unfoldable pub this_or : Bool → ℕ → ℕ → Option (TableNo × ℕ) → Option (TableNo × ℕ)
this_or true i stamp other = Some (record { 0 = i }, stamp)
this_or false i stamp other = other

-- the lowest table from number i on, of those touched, that was written after the base, with its stamp
unfoldable pub lowest_newer : ℕ → List Stamps → ℕ → List TableNo → Option (TableNo × ℕ)
lowest_newer i [] base touched = None
lowest_newer i (stamp ∷ stamps) base touched =
    this_or (names touched i && ltb base stamp.written) i stamp.written (lowest_newer (suc i) stamps base touched)

-- the database with the copy's tables in the places that the ops name
unfoldable pub merged : List Act → PlainDb → PlainDb → PlainDb
merged [] copy db = db
merged (op ∷ ops) copy db = merged ops copy (with_table db (table_named op) (table_of copy (table_named op)))

-- the stamps after a commit of these ops made a version
unfoldable pub stamped : List Act → ℕ → List Stamps → List Stamps
stamped [] number stamps = stamps
stamped (op ∷ ops) number stamps =
    let i = (table_named op).0 in
    stamped ops number (set stamps i (record (get_or stamps i unstamped) { written = number }))

-- the commit turn of a transaction, by whether a table that it touched was written after its base
unfoldable pub committed_unless : Option (TableNo × ℕ) → Run → SessionNo → ℕ → ℕ → Work → List Piece → Run
committed_unless (Some newer) r s place base work rest =
    with_done (moved r s place (conflicted newer.0 newer.1) (ready (suc place) rest))
    s place base (end.Conflict newer.0 newer.1) work.answers
committed_unless None r s place base work rest =
    let number = suc (number_of r) in
    with_done
    (record (moved r s place (committed number work.ops) (ready (suc place) rest)) {
      older = r.older ++ r.current ∷ [];
      current = merged work.ops work.copy r.current;
      stamps = stamped work.ops number r.stamps;
    })
    s place base (end.Committed number) work.answers

unfoldable pub commit_turn : Run → SessionNo → ℕ → ℕ → Work → List Piece → Run
commit_turn r s place base work rest =
    committed_unless (lowest_newer 0 r.stamps base work.touched) r s place base work rest

-- the version that last changed a table
unfoldable pub last_change : Stamps → ℕ
last_change stamps = max stamps.written stamps.laid

-- the install turn of a rebuild, by whether its table was changed after its base
unfoldable pub installed_unless : Bool → Run → SessionNo → ℕ → ℕ → TableNo → ColNo → List Piece → Run
installed_unless true r s place base t column rest =
    let newer = last_change (stamps_of r t) in
    with_done (moved r s place (found_stale t newer) (ready (suc place) rest)) s place base (end.Stale t newer) []
installed_unless false r s place base t column rest =
    let number = suc (number_of r) in
    with_done
    (record (moved r s place (installed number t column) (ready (suc place) rest)) {
      older = r.older ++ r.current ∷ [];
      stamps = set r.stamps t.0 (record (stamps_of r t) { laid = number });
    })
    s place base (end.Installed number) []

unfoldable pub install_turn : Run → SessionNo → ℕ → ℕ → TableNo → ColNo → List Piece → Run
install_turn r s place base t column rest =
    installed_unless (ltb base (last_change (stamps_of r t))) r s place base t column rest

-- the next turn of a session that stands there; one that has ended takes none
unfoldable pub turn_from : Position → Run → SessionNo → Run
turn_from (ready place []) r s = r
turn_from (ready place (p ∷ rest)) r s = begin_turn r s place p rest
turn_from (committing place base work rest) r s = commit_turn r s place base work rest
turn_from (installing place base t column rest) r s = install_turn r s place base t column rest

-- the next turn of a session
unfoldable pub take_turn : Run → SessionNo → Run
take_turn r s = turn_from (position_at r.positions s.0) r s

-- the turns that a list of sessions takes
unfoldable pub take_turns : Run → List SessionNo → Run
take_turns r [] = r
take_turns r (s ∷ sessions) = take_turns (take_turn r s) sessions

-- the commit or install that a session still owes
unfoldable pub settled_from : Position → Run → SessionNo → Run
settled_from (ready place rest) r s = r
settled_from (committing place base work rest) r s = commit_turn r s place base work rest
settled_from (installing place base t column rest) r s = install_turn r s place base t column rest

unfoldable pub settled : Run → SessionNo → Run
settled r s = settled_from (position_at r.positions s.0) r s

-- the transactions that a session hasn't begun
unfoldable pub unbegun : Position → List Piece
unbegun (ready place rest) = rest
unbegun (committing place base work rest) = rest
unbegun (installing place base t column rest) = rest

-- each of these transactions of a session begins, and settles
unfoldable pub finished_pieces : List Piece → Run → SessionNo → Run
finished_pieces [] r s = r
finished_pieces (p ∷ pieces) r s = finished_pieces pieces (settled (take_turn r s) s) s

-- a session finishes
unfoldable pub finished_session : Run → SessionNo → Run
finished_session r s = finished_pieces (unbegun (position_at r.positions s.0)) (settled r s) s

unfoldable pub finished_sessions : Run → List SessionNo → Run
finished_sessions r [] = r
finished_sessions r (s ∷ sessions) = finished_sessions (finished_session r s) sessions

-- the numbers of the sessions, from n on
unfoldable pub session_numbers : ℕ → List (List Piece) → List SessionNo
session_numbers n [] = []
session_numbers n (script ∷ scripts) = record { 0 = n } ∷ session_numbers (suc n) scripts

-- the run of a workload: a list of sessions takes turns, then sessions 1, 2 and so on finish
unfoldable pub run : Workload → List SessionNo → Run
run w turns = finished_sessions (take_turns (initial w) turns) (session_numbers 1 w.sessions)

-- the sessions of the turns that were taken
unfoldable pub turns_taken : Run → List SessionNo
turns_taken r = map (λ (t : Turn). t.session) r.turns

-- none of the turns is skipped: each finds its session with a turn to take
abbrev pub SkipsNone : Workload → List SessionNo → Type 0
SkipsNone w turns = turns_taken (take_turns (initial w) turns) ≡ turns

-- after the turns no session has anything to finish
abbrev pub LeavesNone : Workload → List SessionNo → Type 0
LeavesNone w turns = run w turns ≡ take_turns (initial w) turns

-- a list of turns is complete: the turns that its run takes are the list's own. So it skips none and leaves none, and the
-- other way about
abbrev pub IsComplete : Workload → List SessionNo → Type 0
IsComplete w turns = turns_taken (run w turns) ≡ turns
