-- What the parts of a client's code stand for.
use Rattle.std.specs.Prelude.{◌≡◌, ℕ, suc, ◌+◌, ◌-◌, ◌^◌, ◌<◌, ◌≤◌, Bool, true, false, List, [], ◌∷◌, ◌++◌, drop, length, get_or, Option, Some, None}
use Rattle.std.specs.List.{sum_by}
use Rattle.mope_base.specs.declared.numbers.SessionNo.{SessionNo}
use Rattle.mope_base.specs.declared.numbers.TableNo.{TableNo}
use Rattle.walk_proto.specs.declared.messages.Reply.{Reply}
use Rattle.workload.specs.declared.script.Act.{Act}
use Rattle.workload.specs.declared.script.Act.TheVariants as act
use Rattle.workload.specs.declared.script.Answer.{Answer}
use Rattle.workload.specs.declared.script.End.{End}
use Rattle.workload.specs.declared.script.Piece.{Piece}
use Rattle.workload.specs.declared.script.Piece.TheVariants as piece
use Rattle.workload.specs.Transaction.{table_named}
use Rattle.workload.specs.Validity.{inserted_numbers, numbers_inserted}
use Rattle.proxy.specs.declared.dialogue.Dialogue.{Dialogue}
use Rattle.proxy.specs.declared.doing.Doing.{Doing}
use Rattle.proxy.specs.declared.doing.Doing.TheVariants as doing
use Rattle.proxy.specs.declared.doing.Stop.{Stop}
use Rattle.proxy.specs.Client.{Setting, Client, hears, ending}
use Rattle.proxy.specs.Tasks.{Task, opens, looks, looks_then, acts_then, acts_of, last_task, constants_of, does}

-- the first of a list
unfoldable pub first_of : {A : Type 0} → List A → Option A
first_of [] = None
first_of (x ∷ xs) = Some x

-- an index below this can be followed by one more
abbrev pub index_limit : ℕ
index_limit = 2 ^ 64 - 1

abbrev pub setting_by : List ℕ → ℕ → SessionNo → Setting
setting_by key first session = record { key = key; first = first; session = session }

-- a list begins with a statement of which so many constants were taken up, before other tasks
unfoldable pub acts_from : List Act → ℕ → List Task → List Task
acts_from [] count later = later
acts_from (a ∷ acts) count later = looks_then (table_named a) (drop count (constants_of a)) (does a ∷ acts_then acts later)

-- or with one whose constants have their places
unfoldable pub acts_at : List Act → List Task → List Task
acts_at [] later = later
acts_at (a ∷ acts) later = does a ∷ acts_then acts later

-- the tasks that are left of a transaction
unfoldable pub tasks_left : Doing → Piece → ℕ → ℕ → List Task
tasks_left doing.Opening p act count = opens ∷ acts_from (drop act (acts_of p)) count (last_task p ∷ [])
tasks_left (doing.Looking t column constant stop) p act count =
    looks t column constant ∷ acts_from (drop act (acts_of p)) count (last_task p ∷ [])
tasks_left doing.Acting p act count = acts_at (drop act (acts_of p)) (last_task p ∷ [])
tasks_left doing.Closing p act count = last_task p ∷ []
tasks_left doing.Nothing p act count = []

unfoldable pub stop_in : Doing → Option Stop
stop_in doing.Opening = None
stop_in (doing.Looking t column constant stop) = stop
stop_in doing.Acting = None
stop_in doing.Closing = None
stop_in doing.Nothing = None

abbrev pub no_piece : Piece
no_piece = piece.Txn [] false

-- the transaction at a place of a script, from 0
unfoldable pub piece_at : List Piece → ℕ → Piece
piece_at script place = get_or script place no_piece

unfoldable pub setting_in : Dialogue → Setting
setting_in d = setting_by d.pads d.first d.session

unfoldable pub client_in : Dialogue → Client
client_in d = record {
  tasks = tasks_left d.doing (piece_at d.script d.place) d.act d.constant;
  looking = stop_in d.doing;
  seals = d.seals;
  base = d.base;
  answers = d.answers;
  place = suc d.place;
  rest = drop (suc d.place) d.script;
  done = d.done;
}

-- there is a transaction in hand, unless the script has ended
unfoldable pub IsPlaced : Doing → ℕ → ℕ → Type 0
IsPlaced doing.Opening place count = place < count
IsPlaced (doing.Looking t column constant stop) place count = place < count
IsPlaced doing.Acting place count = place < count
IsPlaced doing.Closing place count = place < count
IsPlaced doing.Nothing place count = Unit {0}

-- how many values are still to be sealed at most
unfoldable pub values_left : List Piece → ℕ → ℕ → ℕ
values_left script place act =
    sum_by inserted_numbers (drop act (acts_of (piece_at script place))) + sum_by numbers_inserted (drop (suc place) script)

-- what holds of a client at all times
pub record Fits (d : Dialogue) : Type 0 where
  pub placed : IsPlaced d.doing d.place (length d.script)
  pub few_pieces : length d.script < 2 ^ 32
  pub few_values : d.seals + values_left d.script d.place d.act < 2 ^ 32
  pub first : d.first ≤ 2 ^ 63
  pub session_from : 1 ≤ d.session.0
  pub session_to : d.session.0 ≤ 64

-- what stays of a client for a whole session
pub record SameSession (d e : Dialogue) : Type 0 where
  pub pads : e.pads ≡ d.pads
  pub first : e.first ≡ d.first
  pub session : e.session ≡ d.session
  pub script : e.script ≡ d.script

-- a client after a reply
pub record Heard (d e : Dialogue) (r : Reply) : Type 0 where
  pub client : client_in e ≡ hears (setting_in d) (client_in d) r
  pub session : SameSession d e
  pub fits : Fits e

-- a client that goes on to these tasks of its transaction
unfoldable pub going_to : List Task → Client → Client
going_to tasks c = record c { tasks = tasks; looking = None }

-- a client whose statement has this answer, after so many values of it were sealed
unfoldable pub answered_to : Answer → ℕ → List Task → Client → Client
answered_to a count later c = record c { tasks = later; looking = None; seals = c.seals + count; answers = c.answers ++ a ∷ [] }

-- the transaction in hand, and its last task
abbrev pub piece_of : Dialogue → Piece
piece_of d = piece_at d.script d.place

abbrev pub closing_of : Dialogue → List Task
closing_of d = last_task (piece_of d) ∷ []

-- the tasks from a statement of it on, of which so many constants were taken up
abbrev pub tasks_from : Dialogue → ℕ → ℕ → List Task
tasks_from d from constant = acts_from (drop from (acts_of (piece_of d))) constant (closing_of d)

-- a client goes on from a statement of its transaction
pub record GoesOn (d e : Dialogue) (from constant : ℕ) : Type 0 where
  pub client : client_in e ≡ going_to (tasks_from d from constant) (client_in d)
  pub session : SameSession d e
  pub place : e.place ≡ d.place
  pub act : e.act ≡ from
  pub seals : e.seals ≡ d.seals

-- its statement has an answer
pub record AnswersWith (d e : Dialogue) (a : Answer) (count : ℕ) : Type 0 where
  pub client : client_in e ≡ answered_to a count (tasks_from d (d.act + 1) 0) (client_in d)
  pub session : SameSession d e
  pub place : e.place ≡ d.place
  pub act : e.act ≡ d.act + 1
  pub seals : e.seals ≡ d.seals + count

-- its transaction ends
pub record EndsWith (d e : Dialogue) (x : End) (count : ℕ) : Type 0 where
  pub client : client_in e ≡ ending (setting_in d) x (record (client_in d) { seals = d.seals + count })
  pub session : SameSession d e
  pub place : e.place ≡ suc d.place
  pub placed : IsPlaced e.doing e.place (length d.script)
  pub act : e.act ≡ 0
  pub seals : e.seals ≡ d.seals + count

-- a transaction is rolled back
unfoldable pub rolls_back : Piece → Bool
rolls_back (piece.Txn acts rollback) = rollback
rolls_back (piece.Rebuild t column) = false

-- what is to be done where a transaction is there, or none
unfoldable pub opening_where : Bool → Doing
opening_where true = doing.Opening
opening_where false = doing.Nothing

-- the statement in hand
unfoldable pub statement_in : Dialogue → Option Act
statement_in d = first_of (drop d.act (acts_of (piece_at d.script d.place)))

-- a statement is an INSERT of so many values into a table
unfoldable pub IsRow : TableNo → ℕ → Option Act → Type 0
IsRow t count None = ⊥
IsRow t count (Some (act.Insert table values)) = (table ≡ t) × (length values ≡ count)
IsRow t count (Some (act.Ask ask)) = ⊥
