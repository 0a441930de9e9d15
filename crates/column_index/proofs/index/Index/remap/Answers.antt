use Rattle.std.proofs.Common.{List, ap, ◌∙◌, sym, subst}
use Rattle.column_index.specs.declared.entry.Entry.{Entry}
use Rattle.code_changes.specs.Changes.{new_code}
use Rattle.std.specs.Prelude.{map}
use Rattle.column_index.specs.Entries.{IsOrdered, codes_in}
use Rattle.column_index.specs.Recoding.{recoded, KeepsOrder}
use Rattle.column_index.proofs.Recodings.{IsOrdered-recoded}
use Rattle.column_index.proofs.Whole.{is_spent, entries_are, sound_of, index_is}
use Rattle.column_index.proofs.index.Index.remap.Goals as goal

pub returns-then-self-clause-err : goal.returns-then-self-clause-err
returns-then-self-clause-err c = is_spent c.self.inside.entries c.self.inside.spent c.args.self.now c.self.invariant c.if-self.true c.self.view_is

pub invariant_of-self : goal.invariant_of-self
invariant_of-self c =
    let same = entries_are c.self.inside.entries c.self.inside.spent c.args.self.now c.self.view_is in
    sound_of c.move_codes.new.entries c.self.inside.spent c.if-self.false (subst IsOrdered (sym c.in-Ok.ensures) (IsOrdered-recoded (new_code c.args.moved.now) c.self.inside.entries (subst (λ (es : List Entry). KeepsOrder (new_code c.args.moved.now) (codes_in es)) (sym same) c.requires.in_order) c.self.invariant.ordered))

pub returns-in-Ok-clause-ok : goal.returns-in-Ok-clause-ok
returns-in-Ok-clause-ok c =
    let same = entries_are c.self.inside.entries c.self.inside.spent c.args.self.now c.self.view_is in
    index_is c.move_codes.new.entries (map (recoded (new_code c.args.moved.now)) c.args.self.now.entries) c.self.inside.spent c.if-self.false (c.in-Ok.ensures ∙ ap (map (recoded (new_code c.args.moved.now))) same)
