use Rattle.std.proofs.Common.{map}
use Rattle.command_words.proofs.NumberLemmas.{IsReading}
use Rattle.command_words.proofs.numbers.sessions_of.Given as goal

-- the texts before i are the sessions
abbrev pub invariant-texts : goal.invariant-texts
invariant-texts l = IsReading (map (λ text. text.now) l.texts) l.i l.sessions.items
