use Rattle.std.proofs.Common.{◌≡◌, ◌<◌, ◌≤◌, ◌-◌, length, false}
use Rattle.sql_text.specs.Lexing.{tokens_of}
use Rattle.sql_text.specs.Scans.{fault_of, is_blank_at, tokens_at}
use Rattle.sql_text.proofs.lines.token_fault.Given as goal

-- what is left has the fault of the line
abbrev pub invariant-tokens : goal.invariant-tokens
invariant-tokens l = record { within : l.at ≤ length l.line; begins : l.at < length l.line → is_blank_at l.line l.at ≡ false; same : fault_of (tokens_of l.line) ≡ fault_of (tokens_at l.line l.at) }

abbrev pub decreases-tokens : goal.decreases-tokens
decreases-tokens l = length l.line - l.at
