use Rattle.std.proofs.Common.{◌≡◌, ◌<◌, ◌≤◌, ◌-◌, length, false}
use Rattle.sql_text.proofs.Driven.{place_in}
use Rattle.sql_text.specs.Lexing.{tokens_of}
use Rattle.sql_text.specs.Scans.{is_blank_at, tokens_at}
use Rattle.sql_text.proofs.lines.place_of.Given as goal

-- the token is the one with the number that is left in what is left
abbrev pub invariant-tokens : goal.invariant-tokens
invariant-tokens l = record { within : l.at ≤ length l.line; begins : l.at < length l.line → is_blank_at l.line l.at ≡ false; same : place_in l.fn.number (tokens_of l.line) ≡ place_in l.left (tokens_at l.line l.at) }

abbrev pub decreases-tokens : goal.decreases-tokens
decreases-tokens l = length l.line - l.at
