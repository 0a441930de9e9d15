use Rattle.std.proofs.Common.{◌≡◌, ℕ, List, subst}
use Rattle.column_index.specs.declared.entry.Entry.{Entry}
use Rattle.column_index.specs.Entries.{codes_in}
use Rattle.column_index.specs.Ranges.{range_of, IsRange}
use Rattle.column_index.proofs.Ranging.{range_is, parts_of_range}
use Rattle.column_index.proofs.Whole.{entries_are}
use Rattle.column_index.proofs.index.Index.range.Goals as goal

pub returns-clause-ends : goal.returns-clause-ends
returns-clause-ends c =
    let pair : ℕ → ℕ → ℕ × ℕ = λ a b. (a, b) in
    subst (λ (es : List Entry). pair c.first_of-first.result c.later.result ≡ range_of c.args.low c.args.high (codes_in es)) (entries_are c.self.inside.entries c.self.inside.spent c.args.self.now c.self.view_is)
    (range_is c.args.low c.args.high c.first_of-first.result c.end_of-end.result c.later.result c.self.inside.entries c.first_of-first.ensures c.end_of-end.ensures c.later.ensures)

pub returns-clause-parts : goal.returns-clause-parts
returns-clause-parts c =
    subst (λ (es : List Entry). IsRange c.args.low c.args.high es c.first_of-first.result c.later.result) (entries_are c.self.inside.entries c.self.inside.spent c.args.self.now c.self.view_is)
    (parts_of_range c.args.low c.args.high c.first_of-first.result c.end_of-end.result c.later.result c.self.inside.entries c.self.invariant.ordered c.first_of-first.ensures c.end_of-end.ensures c.later.ensures)
