use Rattle.std.proofs.Common.{◌≡◌, map, drop}
use Rattle.sql_text.specs.Grammar.{joined_after, name_tokens}
use Rattle.sql_text.specs.Written.{put_all}
use Rattle.sql_text.specs.declared.marks.Mark.TheVariants as mark
use Rattle.sql_text.proofs.printing.Line.names.Given as goal

abbrev pub invariant-names : goal.invariant-names
invariant-names l = put_all l.self (joined_after mark.Comma (map name_tokens (drop l.name-index l.others))) ≡ put_all l.initial.self (joined_after mark.Comma (map name_tokens l.others))
