-- Worked examples: the turns of small workloads over a table of one column, with their changes, for every key.
use Rattle.std.specs.Prelude.{◌≡◌, ℕ, Bool, true, false, List, [], ◌∷◌, map, codes, None}
use Rattle.mope_base.specs.declared.body.Body.{Body}
use Rattle.sql_text.specs.declared.Test.TheVariants as test
use Rattle.tree_model.specs.declared.Place.{Place}
use Rattle.tree_model.specs.declared.Place.TheVariants.{Found, Gap}
use Rattle.tree_model.specs.Columns.{empty_column}
use Rattle.path_code.specs.Sums.{Sum}
use Rattle.value_cipher.specs.Cipher.{Cell, seal_of}
use Rattle.versions.specs.declared.change.ColumnChange.{ColumnChange}
use Rattle.versions.specs.declared.op.Op.TheVariants as op
use Rattle.versions.specs.declared.turn.Turn.{Turn}
use Rattle.versions.specs.declared.turn.TurnKind.TheVariants.{Began, Committed, Conflict, Installed, Stale}
use Rattle.versions.specs.Examples.{moves, first_column, new_code_alone, balanced_change}
use Rattle.walk_proto.specs.declared.messages.Asked.{Asked}
use Rattle.walk_proto.specs.declared.messages.How.TheVariants as how
use Rattle.walk_proto.specs.declared.messages.Reply.TheVariants as reply
use Rattle.walk_proto.specs.declared.messages.Request.TheVariants as request
use Rattle.workload.specs.declared.script.Piece.{Piece}
use Rattle.workload.specs.declared.script.Piece.TheVariants as piece
use Rattle.workload.specs.declared.script.Verb.TheVariants as verb
use Rattle.workload.specs.declared.script.Workload.{Workload}
use Rattle.workload.specs.Examples.{t, a, sessions, over, insert, ask, alone}
use Rattle.transaction_laws.specs.Walks.{exchanged}
use Rattle.run_laws.specs.Worlds.{RunSetting}
use Rattle.run_laws.specs.WorldRuns.{WorldRun, View, world_run, view}

-- from nonce 0
abbrev pub setting : List ℕ → Bool → RunSetting
setting key same_time = record { key = key; first = 0; same_time = same_time }

abbrev pub scripts : List (List Piece) → Workload
scripts pieces = over (codes "a" ∷ []) pieces

abbrev pub put : ℕ → Piece
put x = alone (insert (x ∷ []))

-- bodies of the first session, sealed after so many others; and the first one of the second session
abbrev pub body : List ℕ → ℕ → ℕ → Body
body key count x = seal_of key count x

abbrev pub other_body : List ℕ → ℕ → Body
other_body key x = seal_of key 4294967296 x

abbrev pub begins : ℕ → ℕ → Turn
begins n base = record { session = record { 0 = n }; what = Began base; changes = [] }

-- a commit of one row of one value
abbrev pub commits : ℕ → ℕ → Place → Body → List ColumnChange → Turn
commits n number place x changes = record { session = record { 0 = n }; what = Committed number (op.Insert t (place ∷ []) (x ∷ []) ∷ []); changes = changes }

-- a change that adds a code alone
abbrev pub adds : ℕ → List ColumnChange
adds code = first_column (new_code_alone code) ∷ []

-- under these turns the turns of the run are these
abbrev pub Takes : RunSetting → Workload → List ℕ → List Turn → Type 0
Takes s w turns taken = (world_run s w (sessions turns)).turns ≡ taken

-- ---- rebuild-on-depth: 1, 2, 3, 4 and 5 by five commits; the fifth would be too deep, and the root is balanced

abbrev pub RebuildOnDepth : List ℕ → Bool → Type 0
RebuildOnDepth key same_time =
    Takes (setting key same_time) (scripts ((put 1 ∷ put 2 ∷ put 3 ∷ put 4 ∷ put 5 ∷ []) ∷ [])) []
    (begins 1 0 ∷ commits 1 1 (Gap 0) (body key 0 1) (adds 0x8000000000000000)
    ∷ begins 1 1 ∷ commits 1 2 (Gap 1) (body key 1 2) (adds 0xc000000000000000)
    ∷ begins 1 2 ∷ commits 1 3 (Gap 2) (body key 2 3) (adds 0xe000000000000000)
    ∷ begins 1 3 ∷ commits 1 4 (Gap 3) (body key 3 4) (adds 0xf000000000000000)
    ∷ begins 1 4 ∷ commits 1 5 (Gap 4) (body key 4 5) (first_column balanced_change ∷ []) ∷ [])

-- ---- drop-last-duplicate: 7 three times, then all rows of 7 go: the one code is dropped, and the table is empty

abbrev pub dropped_change : Sum
dropped_change = record { moved = []; dropped = 0x8000000000000000 ∷ []; added = [] }

abbrev pub sevens : Workload
sevens = scripts ((put 7 ∷ put 7 ∷ put 7 ∷ alone (ask verb.Delete ((a, test.Eq 7) ∷ [])) ∷ []) ∷ [])

pub record DropLastDuplicate (key : List ℕ) (same_time : Bool) : Type 0 where
  pub turns : Takes (setting key same_time) sevens []
      (begins 1 0 ∷ commits 1 1 (Gap 0) (body key 0 7) (adds 0x8000000000000000)
      ∷ begins 1 1 ∷ commits 1 2 (Found 0) (body key 1 7) []
      ∷ begins 1 2 ∷ commits 1 3 (Found 0) (body key 2 7) []
      ∷ begins 1 3 ∷ record { session = record { 0 = 1 }; what = Committed 4 (op.Delete t (1 ∷ 2 ∷ 3 ∷ []) ∷ []); changes = first_column dropped_change ∷ [] } ∷ [])
  pub table : (world_run (setting key same_time) sevens []).current.stores ≡ record { rows = []; next = 4; columns = empty_column Cell ∷ [] } ∷ []

-- ---- first-commit-wins: two inserts from one version; with all exchanges

pub record FirstCommitWins (key : List ℕ) : Type 0 where
  pub seen : (let seen_view : View = view (setting key false) (scripts ((put 5 ∷ []) ∷ (put 6 ∷ []) ∷ [])) (sessions (1 ∷ 2 ∷ 1 ∷ 2 ∷ [])) in seen_view) ≡ record {
    sessions = (exchanged request.Begin (reply.Ended how.Began 0 0) ∷ exchanged (request.WalkStart t a) reply.Placed
        ∷ exchanged (request.Insert t (body key 0 5 ∷ [])) (reply.Count 1) ∷ exchanged (request.End true) (reply.Ended how.Committed 0 1) ∷ [])
        ∷ (exchanged request.Begin (reply.Ended how.Began 0 0) ∷ exchanged (request.WalkStart t a) reply.Placed
        ∷ exchanged (request.Insert t (other_body key 6 ∷ [])) (reply.Count 1) ∷ exchanged (request.End true) (reply.Ended how.Conflict 0 1) ∷ []) ∷ [];
    turns = begins 1 0 ∷ begins 2 0 ∷ commits 1 1 (Gap 0) (body key 0 5) (adds 0x8000000000000000) ∷ record { session = record { 0 = 2 }; what = Conflict t 1; changes = [] } ∷ [];
  }

-- ---- rebuild-under-a-walk: while a transaction of the first session walks, the second puts a row in and rebuilds

abbrev pub two_moves : Sum
two_moves = record { moved = moves 0x8000000000000000 0x4000000000000000 ∷ moves 0xc000000000000000 0x8000000000000000 ∷ []; dropped = []; added = [] }

abbrev pub installs : ℕ → ℕ → Turn
installs n number = record { session = record { 0 = n }; what = Installed number t a; changes = first_column two_moves ∷ [] }

abbrev pub RebuildUnderAWalk : List ℕ → Type 0
RebuildUnderAWalk key =
    Takes (setting key false) (scripts ((put 10 ∷ alone (ask verb.Count ((a, test.Ge 5) ∷ [])) ∷ []) ∷ (put 20 ∷ piece.Rebuild t a ∷ []) ∷ []))
    (1 ∷ 1 ∷ 1 ∷ 2 ∷ 2 ∷ 2 ∷ 2 ∷ [])
    (begins 1 0 ∷ commits 1 1 (Gap 0) (body key 0 10) (adds 0x8000000000000000) ∷ begins 1 1
    ∷ begins 2 1 ∷ commits 2 2 (Gap 1) (other_body key 20) (adds 0xc000000000000000) ∷ begins 2 2 ∷ installs 2 3 ∷ [])

-- ---- commit-across-install: a commit after an install that came after its begin; its code is the one in the balanced tree

abbrev pub CommitAcrossInstall : List ℕ → Type 0
CommitAcrossInstall key =
    Takes (setting key false) (scripts ((put 1 ∷ put 2 ∷ put 9 ∷ []) ∷ (piece.Rebuild t a ∷ []) ∷ []))
    (1 ∷ 1 ∷ 1 ∷ 1 ∷ 1 ∷ 2 ∷ 2 ∷ [])
    (begins 1 0 ∷ commits 1 1 (Gap 0) (body key 0 1) (adds 0x8000000000000000)
    ∷ begins 1 1 ∷ commits 1 2 (Gap 1) (body key 1 2) (adds 0xc000000000000000)
    ∷ begins 1 2 ∷ begins 2 2 ∷ installs 2 3 ∷ commits 1 4 (Gap 2) (body key 2 9) (adds 0xc000000000000000) ∷ [])

-- ---- stale-rebuild: a commit came before the install

abbrev pub StaleRebuild : List ℕ → Type 0
StaleRebuild key =
    Takes (setting key false) (scripts ((piece.Rebuild t a ∷ []) ∷ (put 5 ∷ []) ∷ [])) (1 ∷ 2 ∷ 2 ∷ [])
    (begins 1 0 ∷ begins 2 0 ∷ commits 2 1 (Gap 0) (other_body key 5) (adds 0x8000000000000000) ∷ record { session = record { 0 = 1 }; what = Stale t 1; changes = [] } ∷ [])

-- a count of all rows as it is sent
abbrev pub counts_all : Asked
counts_all = record { table = t; verb = 1; target = 0; order = 0; order_column = 0; limit = None; columns = []; conds = [] }

-- ---- rollback: nothing is kept of a row that was put in, and the next transaction doesn't find it

pub record Rollback (key : List ℕ) : Type 0 where
  pub seen : (let seen_view : View = view (setting key false) (scripts ((piece.Txn (insert (4 ∷ []) ∷ ask verb.Count [] ∷ []) true ∷ alone (ask verb.Count []) ∷ []) ∷ [])) [] in seen_view) ≡ record {
    sessions = (exchanged request.Begin (reply.Ended how.Began 0 0) ∷ exchanged (request.WalkStart t a) reply.Placed ∷ exchanged (request.Insert t (body key 0 4 ∷ [])) (reply.Count 1)
        ∷ exchanged (request.Query counts_all) (reply.Count 1) ∷ exchanged (request.End false) (reply.Ended how.Closed 0 0)
        ∷ exchanged request.Begin (reply.Ended how.Began 0 0) ∷ exchanged (request.Query counts_all) (reply.Count 0) ∷ exchanged (request.End true) (reply.Ended how.Closed 0 0) ∷ []) ∷ [];
    turns = begins 1 0 ∷ begins 1 0 ∷ [];
  }

-- ---- twin-forgets: 10, 30 and 40 are put in, and 10 goes; then 20 or 5. In same-time mode 10 is forgotten, and both change the same; in
-- ordinary mode its item is still there, above 5 and below 20

abbrev pub forgetting : ℕ → Workload
forgetting last = scripts ((put 10 ∷ put 30 ∷ put 40 ∷ alone (ask verb.Delete ((a, test.Eq 10) ∷ [])) ∷ put last ∷ []) ∷ [])

-- the changes of all turns
unfoldable pub changes_in : WorldRun → List (List ColumnChange)
changes_in r = map (λ (turn : Turn). turn.changes) r.turns

abbrev pub Changes : List ℕ → Bool → ℕ → List ColumnChange → List ColumnChange → Type 0
Changes key same_time last fourth fifth =
    changes_in (world_run (setting key same_time) (forgetting last) [])
    ≡ [] ∷ adds 0x8000000000000000 ∷ [] ∷ adds 0xc000000000000000 ∷ [] ∷ adds 0xe000000000000000 ∷ [] ∷ fourth ∷ [] ∷ fifth ∷ []

abbrev pub one_dropped : Sum
one_dropped = record { moved = moves 0xc000000000000000 0x8000000000000000 ∷ moves 0xe000000000000000 0xc000000000000000 ∷ []; dropped = 0x8000000000000000 ∷ []; added = [] }

pub record TwinForgets (key : List ℕ) : Type 0 where
  pub same_time : Changes key true 20 (first_column one_dropped ∷ []) (adds 0x4000000000000000)
  pub same_time_other : Changes key true 5 (first_column one_dropped ∷ []) (adds 0x4000000000000000)
  pub ordinary : Changes key false 20 [] (adds 0xa000000000000000)
  pub ordinary_other : Changes key false 5 [] (adds 0x4000000000000000)
