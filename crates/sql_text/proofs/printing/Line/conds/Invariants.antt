use Rattle.std.proofs.Common.{◌≡◌, map, drop}
use Rattle.sql_text.specs.Grammar.{joined_after, cond_tokens}
use Rattle.sql_text.specs.Written.{put_all}
use Rattle.sql_text.specs.declared.marks.Mark.TheVariants as mark
use Rattle.sql_text.proofs.printing.Line.conds.Given as goal

abbrev pub invariant-conds : goal.invariant-conds
invariant-conds l = put_all l.self (joined_after mark.And (map cond_tokens (drop l.cond-index l.others))) ≡ put_all l.initial.self (joined_after mark.And (map cond_tokens l.others))
