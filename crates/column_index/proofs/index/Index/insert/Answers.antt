use Rattle.std.proofs.Common.{ap, ◌∙◌, sym, subst}
use Rattle.column_index.specs.Entries.{IsOrdered, holds_entry, put}
use Rattle.column_index.proofs.Sorting.{IsOrdered-put}
use Rattle.column_index.proofs.Whole.{is_spent, entries_are, sound_of, index_is}
use Rattle.column_index.proofs.index.Index.insert.Goals as goal

pub returns-then-self-clause-err : goal.returns-then-self-clause-err
returns-then-self-clause-err c = is_spent c.self.inside.entries c.self.inside.spent c.args.self.now c.self.invariant c.if-self.true c.self.view_is

pub invariant_of-self : goal.invariant_of-self
invariant_of-self c =
    let same = entries_are c.self.inside.entries c.self.inside.spent c.args.self.now c.self.view_is in
    sound_of c.put_entry.new.entries c.self.inside.spent c.if-self.false (subst IsOrdered (sym c.in-Ok.ensures) (IsOrdered-put c.args.entry c.self.inside.entries c.self.invariant.ordered (ap (holds_entry c.args.entry) same ∙ c.requires)))

pub returns-in-Ok-clause-ok : goal.returns-in-Ok-clause-ok
returns-in-Ok-clause-ok c =
    let same = entries_are c.self.inside.entries c.self.inside.spent c.args.self.now c.self.view_is in
    index_is c.put_entry.new.entries (put c.args.entry c.args.self.now.entries) c.self.inside.spent c.if-self.false (c.in-Ok.ensures ∙ ap (put c.args.entry) same)
