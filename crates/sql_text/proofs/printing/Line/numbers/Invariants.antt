use Rattle.std.proofs.Common.{◌≡◌, map, drop}
use Rattle.sql_text.specs.Grammar.{joined_after, number_tokens}
use Rattle.sql_text.specs.Written.{put_all}
use Rattle.sql_text.specs.declared.marks.Mark.TheVariants as mark
use Rattle.sql_text.proofs.printing.Line.numbers.Given as goal

abbrev pub invariant-numbers : goal.invariant-numbers
invariant-numbers l = put_all l.self (joined_after mark.Comma (map number_tokens (drop l.number-index l.others))) ≡ put_all l.initial.self (joined_after mark.Comma (map number_tokens l.others))
