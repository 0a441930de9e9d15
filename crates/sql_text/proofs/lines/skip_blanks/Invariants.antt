use Rattle.std.proofs.Common.{◌≡◌, ◌≤◌, ◌-◌, length}
use Rattle.sql_text.specs.Scans.{tokens_at}
use Rattle.sql_text.proofs.lines.skip_blanks.Given as goal

abbrev pub invariant-blanks : goal.invariant-blanks
invariant-blanks l = record { from : l.from ≤ l.at; within : l.at ≤ length l.line; same : tokens_at l.line l.from ≡ tokens_at l.line l.at }

abbrev pub decreases-blanks : goal.decreases-blanks
decreases-blanks l = length l.line - l.at
