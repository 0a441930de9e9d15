-- Worked examples of runs: what the definitions give on small workloads, over a table `t (a)` or `t (a, b)`.
use Rattle.std.specs.Prelude.{◌≡◌, ℕ, true, false, List, [], ◌∷◌, map, Some, None, codes}
use Rattle.mope_base.specs.declared.numbers.TableNo.{TableNo}
use Rattle.mope_base.specs.declared.numbers.ColNo.{ColNo}
use Rattle.mope_base.specs.declared.numbers.SessionNo.{SessionNo}
use Rattle.sql_text.specs.declared.Name.{Name}
use Rattle.sql_text.specs.declared.Test.{Test}
use Rattle.sql_text.specs.declared.Test.TheVariants as test
use Rattle.workload.specs.declared.script.Act.{Act}
use Rattle.workload.specs.declared.script.Act.TheVariants as act
use Rattle.workload.specs.declared.script.Answer.{Answer}
use Rattle.workload.specs.declared.script.Answer.TheVariants as answer
use Rattle.workload.specs.declared.script.DoneTxn.{DoneTxn}
use Rattle.workload.specs.declared.script.End.{End}
use Rattle.workload.specs.declared.script.End.TheVariants as end
use Rattle.workload.specs.declared.script.Piece.{Piece}
use Rattle.workload.specs.declared.script.Piece.TheVariants as piece
use Rattle.workload.specs.declared.script.Verb.{Verb}
use Rattle.workload.specs.declared.script.Verb.TheVariants as verb
use Rattle.workload.specs.declared.script.Workload.{Workload}
use Rattle.workload.specs.Run.{run, turns_taken}
use Rattle.workload.specs.History.{history}

-- the one table, its columns, and a session
abbrev pub t : TableNo
t = record { 0 = 0 }

abbrev pub a : ColNo
a = record { 0 = 0 }

abbrev pub b : ColNo
b = record { 0 = 1 }

abbrev pub name : List ℕ → Name
name bytes = record { bytes = bytes }

abbrev pub sessions : List ℕ → List SessionNo
sessions numbers = map (λ number. let s : SessionNo = record { 0 = number } in s) numbers

-- a workload over the table with these columns
abbrev pub over : List (List ℕ) → List (List Piece) → Workload
over columns scripts = record { tables = record { name = name (codes "t"); columns = map name columns } ∷ []; sessions = scripts }

abbrev pub insert : List ℕ → Act
insert values = act.Insert t values

abbrev pub ask : Verb → List (ColNo × Test) → Act
ask verb tests = act.Ask (record { table = t; verb = verb; tests = tests })

-- a statement outside BEGIN
abbrev pub alone : Act → Piece
alone statement = piece.Txn (statement ∷ []) false

abbrev pub finished : ℕ → ℕ → ℕ → End → List Answer → DoneTxn
finished s place base e answers =
    record { session = record { 0 = s }; place = place; base = base; end = e; answers = answers }

-- under these turns the sessions of those turns are taken, and this is the history
pub record Gives (w : Workload) (turns taken : List ℕ) (txns : List DoneTxn) : Type 0 where
  pub turns_are : turns_taken (run w (sessions turns)) ≡ sessions taken
  pub history_is : history (run w (sessions turns)) ≡ txns

-- of two inserts from one version the first commit wins
abbrev pub FirstCommitWins : Type 0
FirstCommitWins =
    Gives (over (codes "a" ∷ []) ((alone (insert (5 ∷ [])) ∷ []) ∷ (alone (insert (6 ∷ [])) ∷ []) ∷ []))
    (1 ∷ 2 ∷ 1 ∷ 2 ∷ []) (1 ∷ 2 ∷ 1 ∷ 2 ∷ [])
    (finished 2 1 0 (end.Conflict t 1) (answer.Inserted ∷ [])
    ∷ finished 1 1 0 (end.Committed 1) (answer.Inserted ∷ []) ∷ [])

-- a rebuild that a commit came before is stale
abbrev pub StaleRebuild : Type 0
StaleRebuild =
    Gives (over (codes "a" ∷ []) ((piece.Rebuild t a ∷ []) ∷ (alone (insert (5 ∷ [])) ∷ []) ∷ []))
    (1 ∷ 2 ∷ 2 ∷ []) (1 ∷ 2 ∷ 2 ∷ 1 ∷ [])
    (finished 1 1 0 (end.Stale t 1) []
    ∷ finished 2 1 0 (end.Committed 1) (answer.Inserted ∷ []) ∷ [])

-- a transaction sees its own insert, and nothing of it is kept when it is rolled back
abbrev pub Rollback : Type 0
Rollback =
    Gives (over (codes "a" ∷ []) ((piece.Txn (insert (4 ∷ []) ∷ ask verb.Count [] ∷ []) true ∷ alone (ask verb.Count []) ∷ []) ∷ []))
    [] (1 ∷ 1 ∷ [])
    (finished 1 1 0 end.RolledBack (answer.Inserted ∷ answer.Count 1 ∷ [])
    ∷ finished 1 2 0 end.Read (answer.Count 0 ∷ []) ∷ [])

-- equal values come by row number, also downwards
abbrev pub TiesByRowNumber : Type 0
TiesByRowNumber =
    Gives
    (over (codes "a" ∷ codes "b" ∷ [])
    ((piece.Txn
    (insert (3 ∷ 1 ∷ []) ∷ insert (5 ∷ 2 ∷ []) ∷ insert (5 ∷ 3 ∷ []) ∷ insert (5 ∷ 4 ∷ [])
    ∷ ask (verb.Rows (b ∷ []) (Some (a, true)) (Some 2)) [] ∷ [])
    false ∷ []) ∷ []))
    [] (1 ∷ 1 ∷ [])
    (finished 1 1 0 (end.Committed 1)
    (answer.Inserted ∷ answer.Inserted ∷ answer.Inserted ∷ answer.Inserted ∷ answer.Rows 1 (2 ∷ 3 ∷ []) ∷ []) ∷ [])

-- LIMIT 0 gives no row
abbrev pub LimitZero : Type 0
LimitZero =
    Gives
    (over (codes "a" ∷ [])
    ((alone (insert (3 ∷ [])) ∷ alone (ask (verb.Rows (a ∷ []) None (Some 0)) ((a, test.Ge 1) ∷ [])) ∷ []) ∷ []))
    [] (1 ∷ 1 ∷ 1 ∷ [])
    (finished 1 1 0 (end.Committed 1) (answer.Inserted ∷ [])
    ∷ finished 1 2 1 end.Read (answer.Rows 1 [] ∷ []) ∷ [])

-- a commit on a base before an install is no conflict
abbrev pub CommitAcrossInstall : Type 0
CommitAcrossInstall =
    Gives
    (over (codes "a" ∷ [])
    ((alone (insert (1 ∷ [])) ∷ alone (insert (2 ∷ [])) ∷ alone (insert (9 ∷ [])) ∷ [])
    ∷ (piece.Rebuild t a ∷ []) ∷ []))
    (1 ∷ 1 ∷ 1 ∷ 1 ∷ 1 ∷ 2 ∷ 2 ∷ []) (1 ∷ 1 ∷ 1 ∷ 1 ∷ 1 ∷ 2 ∷ 2 ∷ 1 ∷ [])
    (finished 1 1 0 (end.Committed 1) (answer.Inserted ∷ [])
    ∷ finished 1 2 1 (end.Committed 2) (answer.Inserted ∷ [])
    ∷ finished 2 1 2 (end.Installed 3) []
    ∷ finished 1 3 2 (end.Committed 4) (answer.Inserted ∷ []) ∷ [])

-- both ends of an empty table: no row, and no least value
abbrev pub EmptyTable : Type 0
EmptyTable =
    Gives (over (codes "a" ∷ []) ((alone (ask verb.Count []) ∷ alone (ask (verb.Min a) []) ∷ []) ∷ []))
    [] (1 ∷ 1 ∷ [])
    (finished 1 1 0 end.Read (answer.Count 0 ∷ [])
    ∷ finished 1 2 0 end.Read (answer.Min None ∷ []) ∷ [])

-- the least and the greatest value of 64 bits pass a test that holds both ends, in order
abbrev pub ExtremeValues : Type 0
ExtremeValues =
    Gives
    (over (codes "a" ∷ [])
    ((piece.Txn
    (insert (18446744073709551615 ∷ []) ∷ insert (0 ∷ [])
    ∷ ask (verb.Rows (a ∷ []) (Some (a, false)) None) ((a, test.Between 0 18446744073709551615) ∷ [])
    ∷ ask verb.Delete ((a, test.Gt 0) ∷ []) ∷ ask (verb.Max a) [] ∷ [])
    false ∷ []) ∷ []))
    [] (1 ∷ 1 ∷ [])
    (finished 1 1 0 (end.Committed 1)
    (answer.Inserted ∷ answer.Inserted ∷ answer.Rows 1 (0 ∷ 18446744073709551615 ∷ []) ∷ answer.Deleted 1
    ∷ answer.Max (Some 0) ∷ []) ∷ [])
