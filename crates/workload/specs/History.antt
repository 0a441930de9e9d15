-- The serial history of a run: its transactions in an order in which one thread could have run them, and what that
-- says. The definition is our own.
use Rattle.std.specs.Prelude.{◌≡◌, ℕ, zero, suc, ◌*◌, ◌-◌, ◌<◌, Bool, true, false, ◌&&◌, ◌||◌, eqb, ltb, leb, List, [], ◌∷◌, ◌++◌, map, filter, get_or, Option, Some, None}
use Rattle.std.specs.List.{list_any}
use Rattle.mope_base.specs.declared.numbers.TableNo.{TableNo}
use Rattle.mope_base.specs.declared.numbers.SessionNo.{SessionNo}
use Rattle.workload.specs.declared.plain.PlainDb.{PlainDb}
use Rattle.workload.specs.declared.script.Answer.{Answer}
use Rattle.workload.specs.declared.script.DoneTxn.{DoneTxn}
use Rattle.workload.specs.declared.script.End.{End}
use Rattle.workload.specs.declared.script.End.TheVariants as end
use Rattle.workload.specs.declared.script.Piece.{Piece}
use Rattle.workload.specs.declared.script.Piece.TheVariants as piece
use Rattle.workload.specs.declared.script.Workload.{Workload}
use Rattle.workload.specs.PlainDatabase.{empty_database}
use Rattle.workload.specs.Selection.{ordered}
use Rattle.workload.specs.Transaction.{Trial, going, stopped, trial_of, work_of, table_named}
use Rattle.workload.specs.Run.{Run, Turn, TurnKind, began, committed, conflicted, installed, found_stale, names, version_of}

-- the number that a transaction got: that of the version which it made
unfoldable pub number_got : End → Option ℕ
number_got end.Read = None
number_got (end.Committed number) = Some number
number_got end.RolledBack = None
number_got (end.Full t) = None
number_got (end.Conflict t number) = None
number_got (end.Installed number) = Some number
number_got (end.Stale t number) = None

-- where a transaction stands among the versions: without a number right after its base, with one right before it
unfoldable pub rank_by : Option ℕ → ℕ → ℕ
rank_by None base = 2 * base
rank_by (Some number) base = 2 * number - 1

unfoldable pub rank_of : DoneTxn → ℕ
rank_of t = rank_by (number_got t.end) t.base

-- one transaction doesn't come after the other: by rank, then by session, then by place
unfoldable pub comes_before : DoneTxn → DoneTxn → Bool
comes_before a b =
    ltb (rank_of a) (rank_of b) || (eqb (rank_of a) (rank_of b) && (ltb a.session.0 b.session.0 || (eqb a.session.0 b.session.0 && leb a.place b.place)))

-- finished transactions in the order of the history: for each version n from 0 on, those that began on n and got no
-- number, by session and place, and then the one that made n + 1
unfoldable pub history_of : List DoneTxn → List DoneTxn
history_of done = ordered comes_before done

-- the history of a run
unfoldable pub history : Run → List DoneTxn
history r = history_of r.done

-- the transaction of a session's script at a place, from 1
unfoldable pub piece_at : Workload → SessionNo → ℕ → Piece
piece_at w s place = get_or (get_or w.sessions (s.0 - 1) []) (place - 1) (piece.Txn [] true)

-- the full table that a trial met
unfoldable pub full_met : Trial → Option TableNo
full_met (going work) = None
full_met (stopped t work) = Some t

-- the full table by which a transaction ended
unfoldable pub full_shown : End → Option TableNo
full_shown end.Read = None
full_shown (end.Committed number) = None
full_shown end.RolledBack = None
full_shown (end.Full t) = Some t
full_shown (end.Conflict t number) = None
full_shown (end.Installed number) = None
full_shown (end.Stale t number) = None

-- what a piece of a script answers on a database, which full table it meets there, and what it makes of the database
unfoldable pub answers_on : Piece → PlainDb → List Answer
answers_on (piece.Txn statements rollback) db = (work_of (trial_of db statements)).answers
answers_on (piece.Rebuild t column) db = []

unfoldable pub full_on : Piece → PlainDb → Option TableNo
full_on (piece.Txn statements rollback) db = full_met (trial_of db statements)
full_on (piece.Rebuild t column) db = None

unfoldable pub effect_on : Piece → PlainDb → PlainDb
effect_on (piece.Txn statements rollback) db = (work_of (trial_of db statements)).copy
effect_on (piece.Rebuild t column) db = db

-- the effect of a transaction is kept if it got a number
unfoldable pub kept_if : Option ℕ → PlainDb → PlainDb → PlainDb
kept_if None effect db = db
kept_if (Some number) effect db = effect

-- a database is the version of the number that a transaction got
abbrev pub IsVersion : Run → Option ℕ → PlainDb → Type 0
IsVersion r None db = Unit {0}
IsVersion r (Some number) db = db ≡ version_of r number

-- run on this database, a transaction gives the answers and the full table that it had, and makes its version
pub record Repeats (w : Workload) (r : Run) (db : PlainDb) (t : DoneTxn) : Type 0 where
  pub answers : answers_on (piece_at w t.session t.place) db ≡ t.answers
  pub full_table : full_on (piece_at w t.session t.place) db ≡ full_shown t.end
  pub version : IsVersion r (number_got t.end) (effect_on (piece_at w t.session t.place) db)

-- the database after a transaction
unfoldable pub database_after : Workload → PlainDb → DoneTxn → PlainDb
database_after w db t = kept_if (number_got t.end) (effect_on (piece_at w t.session t.place) db) db

-- transactions run one after another on one database, keeping the effect of those with a number alone, repeat
unfoldable pub EachRepeats : Workload → Run → PlainDb → List DoneTxn → Type 0
EachRepeats w r db [] = Unit {0}
EachRepeats w r db (t ∷ txns) = Repeats w r db t × EachRepeats w r (database_after w db t) txns

-- n, n + 1 and so on, one for each piece of a script
unfoldable pub places_from : ℕ → List Piece → List ℕ
places_from n [] = []
places_from n (p ∷ pieces) = n ∷ places_from (suc n) pieces

-- the script of a session; that of one that doesn't exist is empty
unfoldable pub script_of : Workload → ℕ → List Piece
script_of w zero = []
script_of w (suc i) = get_or w.sessions i []

-- the places of a session's transactions, in the order in which they stand
unfoldable pub places_of : ℕ → List DoneTxn → List ℕ
places_of s txns = map (λ (t : DoneTxn). t.place) (filter (λ (t : DoneTxn). eqb t.session.0 s) txns)

-- a turn committed a version with an op on a table
unfoldable pub writes : TableNo → ℕ → TurnKind → Bool
writes t number (began base) = false
writes t number (committed n ops) = eqb n number && names (map table_named ops) t.0
writes t number (conflicted table n) = false
writes t number (installed n table column) = false
writes t number (found_stale table n) = false

-- a turn installed a version on a table
unfoldable pub lays : TableNo → ℕ → TurnKind → Bool
lays t number (began base) = false
lays t number (committed n ops) = false
lays t number (conflicted table n) = false
lays t number (installed n table column) = eqb n number && eqb table.0 t.0
lays t number (found_stale table n) = false

-- the turn of a transaction that did this stands among the turns, and one before it is such a cause
pub record IsShown (r : Run) (t : DoneTxn) (kind : TurnKind) (cause : TurnKind → Bool) : Type 0 where
  pub before : List Turn
  pub after : List Turn
  pub own : r.turns ≡ before ++ record { session = t.session; place = t.place; kind = kind } ∷ after
  pub caused : list_any (λ (turn : Turn). cause turn.kind) before ≡ true

-- a Conflict or a Stale names a table and the number, above the base, of an earlier turn that changed it
unfoldable pub HasCause : Run → DoneTxn → End → Type 0
HasCause r t end.Read = Unit {0}
HasCause r t (end.Committed number) = Unit {0}
HasCause r t end.RolledBack = Unit {0}
HasCause r t (end.Full table) = Unit {0}
HasCause r t (end.Conflict table number) =
    (t.base < number) × IsShown r t (conflicted table number) (writes table number)
HasCause r t (end.Installed number) = Unit {0}
HasCause r t (end.Stale table number) =
    (t.base < number) × IsShown r t (found_stale table number) (λ kind. writes table number kind || lays table number kind)

unfoldable pub EachHasCause : Run → List DoneTxn → Type 0
EachHasCause r [] = Unit {0}
EachHasCause r (t ∷ txns) = HasCause r t t.end × EachHasCause r txns

-- a list of transactions is a history of one thread of this run of a workload
pub record Serial (w : Workload) (r : Run) (txns : List DoneTxn) : Type 0 where
  pub repeats : EachRepeats w r (empty_database w.tables) txns
  pub in_script_order : (s : ℕ) → places_of s txns ≡ places_from 1 (script_of w s)
  pub causes : EachHasCause r txns
