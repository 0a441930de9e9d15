-- Worked examples of schedules: the turns that they give, for every key and first nonce, in both modes.
use Rattle.std.specs.Prelude.{◌≡◌, ℕ, Bool, true, false, List, [], ◌∷◌, codes}
use Rattle.sql_text.specs.declared.Test.TheVariants as test
use Rattle.workload.specs.declared.script.Piece.{Piece}
use Rattle.workload.specs.declared.script.Piece.TheVariants as piece
use Rattle.workload.specs.declared.script.Verb.TheVariants as verb
use Rattle.workload.specs.declared.script.Workload.{Workload}
use Rattle.workload.specs.Examples.{t, a, over, sessions, insert, ask, alone}
use Rattle.run_laws.specs.Schedules.{turns_under}

-- a schedule gives these turns of a workload, in a mode
abbrev pub TurnsIn : Bool → Workload → List ℕ → List ℕ → Type 0
TurnsIn same_time w schedule turns = (key : List ℕ) (first : ℕ) → turns_under (record { key = key; first = first; same_time = same_time }) w (sessions schedule) ≡ sessions turns

-- in both modes
abbrev pub GivesTurns : Workload → List ℕ → List ℕ → Type 0
GivesTurns w schedule turns = TurnsIn false w schedule turns × TurnsIn true w schedule turns

-- over a table of one column
abbrev pub of_scripts : List (List Piece) → Workload
of_scripts scripts = over (codes "a" ∷ []) scripts

abbrev pub counts : Piece
counts = alone (ask verb.Count [])

-- an entry of a session that has ended, or of none, counts for nothing: a COUNT is three exchanges
abbrev pub EndedIsSkipped : Type 0
EndedIsSkipped = GivesTurns (of_scripts ((counts ∷ []) ∷ (counts ∷ []) ∷ (counts ∷ counts ∷ []) ∷ [])) (1 ∷ 1 ∷ 1 ∷ 1 ∷ 4 ∷ 0 ∷ 3 ∷ 1 ∷ 2 ∷ []) (1 ∷ 3 ∷ 2 ∷ 3 ∷ [])

-- of two inserts from one version the first commit wins
abbrev pub FirstCommitWins : Type 0
FirstCommitWins = GivesTurns (of_scripts ((alone (insert (5 ∷ [])) ∷ []) ∷ (alone (insert (6 ∷ [])) ∷ []) ∷ [])) (1 ∷ 2 ∷ []) (1 ∷ 2 ∷ 1 ∷ 2 ∷ [])

-- a walk has come to one item when another session puts a row in and rebuilds the tree
abbrev pub RebuildUnderWalk : Type 0
RebuildUnderWalk =
    GivesTurns
    (of_scripts ((alone (insert (10 ∷ [])) ∷ alone (ask verb.Count ((a, test.Ge 5) ∷ [])) ∷ []) ∷ (alone (insert (20 ∷ [])) ∷ piece.Rebuild t a ∷ []) ∷ []))
    (1 ∷ 1 ∷ 1 ∷ 1 ∷ 1 ∷ 1 ∷ 2 ∷ 2 ∷ 2 ∷ 2 ∷ 2 ∷ 2 ∷ 2 ∷ []) (1 ∷ 1 ∷ 1 ∷ 2 ∷ 2 ∷ 2 ∷ 2 ∷ [])

-- a transaction commits after an install that came between
abbrev pub CommitAcrossInstall : Type 0
CommitAcrossInstall =
    GivesTurns
    (of_scripts ((alone (insert (1 ∷ [])) ∷ alone (insert (2 ∷ [])) ∷ alone (insert (9 ∷ [])) ∷ []) ∷ (piece.Rebuild t a ∷ []) ∷ []))
    (1 ∷ 1 ∷ 1 ∷ 1 ∷ 1 ∷ 1 ∷ 1 ∷ 1 ∷ 1 ∷ 1 ∷ 2 ∷ 2 ∷ []) (1 ∷ 1 ∷ 1 ∷ 1 ∷ 1 ∷ 2 ∷ 2 ∷ 1 ∷ [])

-- a rebuild that a commit came before
abbrev pub StaleRebuild : Type 0
StaleRebuild = GivesTurns (of_scripts ((piece.Rebuild t a ∷ []) ∷ (alone (insert (5 ∷ [])) ∷ []) ∷ [])) (1 ∷ 2 ∷ 2 ∷ 2 ∷ 2 ∷ []) (1 ∷ 2 ∷ 2 ∷ 1 ∷ [])
