use Rattle.std.proofs.Common.{ap, ◌∙◌}
use Rattle.column_index.specs.Entries.{is_entry}
use Rattle.column_index.proofs.placing.stands_at.Goals as goal

pub returns-in-None : goal.returns-in-None
unfolding is_entry
returns-in-None c = ap (is_entry c.args.entry) c.in-None.ensures

pub returns-in-Some : goal.returns-in-Some
unfolding is_entry
returns-in-Some c = c.is_same.ensures ∙ ap (is_entry c.args.entry) c.in-Some.ensures
