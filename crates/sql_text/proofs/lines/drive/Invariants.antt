use Rattle.std.proofs.Common.{◌≡◌, ◌<◌, ◌≤◌, ◌-◌, length, false}
use Rattle.sql_text.proofs.Driven.{driven}
use Rattle.sql_text.specs.Lexing.{tokens_of}
use Rattle.sql_text.specs.Scans.{is_blank_at, tokens_at}
use Rattle.sql_text.specs.declared.states.State.TheVariants.{Start}
use Rattle.sql_text.proofs.lines.drive.Given as goal

-- from the state so far what is left leads where the line leads
abbrev pub invariant-tokens : goal.invariant-tokens
invariant-tokens l = record { within : l.at ≤ length l.line; begins : l.at < length l.line → is_blank_at l.line l.at ≡ false; same : driven Start (tokens_of l.line) ≡ driven l.state (tokens_at l.line l.at) }

abbrev pub decreases-tokens : goal.decreases-tokens
decreases-tokens l = length l.line - l.at
