use Rattle.std.proofs.Common.{◌∙◌, false, refl}
use Rattle.column_index.proofs.Whole.{entries_are, index_is}
use Rattle.column_index.proofs.index.Index.copy.Goals as goal

pub returns-in-Ok-clause-ok : goal.returns-in-Ok-clause-ok
returns-in-Ok-clause-ok c = index_is c.in-Ok.entries c.args.self.now.entries false refl (c.in-Ok.ensures ∙ entries_are c.self.inside.entries c.self.inside.spent c.args.self.now c.self.view_is)
