-- The text of a summary of a run: twelve lines, each a name, a space and a number. The format is our own.
use Rattle.std.specs.Prelude.{ℕ, ◌+◌, Bool, true, false, List, [], ◌∷◌, ◌++◌, length, codes}
use Rattle.std.specs.Str.{bytes_eq}
use Rattle.workload.specs.declared.script.DoneTxn.{DoneTxn}
use Rattle.workload.specs.declared.script.End.{End}
use Rattle.workload.specs.declared.script.End.TheVariants.{Read, Committed, RolledBack, Full, Conflict, Installed, Stale}
use Rattle.workload.specs.Report.{line, numbered}

-- the name of the line that counts the transactions that ended like this
unfoldable pub end_name : End → List ℕ
end_name Read = codes "read"
end_name (Committed number) = codes "committed"
end_name RolledBack = codes "rolled-back"
end_name (Full table) = codes "full"
end_name (Conflict table number) = codes "conflict"
end_name (Installed number) = codes "installed"
end_name (Stale table number) = codes "stale"

unfoldable pub one_if : Bool → ℕ
one_if true = 1
one_if false = 0

-- how many transactions ended so
unfoldable pub ended_so : List ℕ → List DoneTxn → ℕ
ended_so name [] = 0
ended_so name (t ∷ txns) = one_if (bytes_eq (end_name t.end) name) + ended_so name txns

-- a name and a number
unfoldable pub entry_line : List ℕ → ℕ → List ℕ
entry_line name number = line (numbered name number)

-- a name, and how many transactions ended so
unfoldable pub end_line : List DoneTxn → List ℕ → List ℕ
end_line txns name = entry_line name (ended_so name txns)

-- the lines of what was asked for and of what was run
unfoldable pub run_lines : ℕ → ℕ → ℕ → ℕ → List ℕ
run_lines number sessions transactions turns =
    entry_line (codes "generate") number
    ++ entry_line (codes "sessions") sessions
    ++ entry_line (codes "transactions") transactions
    ++ entry_line (codes "turns") turns

unfoldable pub end_lines : List DoneTxn → List ℕ
end_lines txns =
    end_line txns (codes "committed")
    ++ end_line txns (codes "read")
    ++ end_line txns (codes "conflict")
    ++ end_line txns (codes "full")
    ++ end_line txns (codes "rolled-back")
    ++ end_line txns (codes "installed")
    ++ end_line txns (codes "stale")

-- the whole: `number` is the one that was asked for, and `rows` how many rows there are at the end
unfoldable pub summary_text_of : ℕ → ℕ → ℕ → List DoneTxn → ℕ → List ℕ
summary_text_of number sessions turns txns rows =
    run_lines number sessions (length txns) turns ++ end_lines txns ++ entry_line (codes "rows") rows
