use Rattle.proxy.proofs.NamedLemmas.{named_here, named_further, named_none}
use Rattle.std.proofs.Common.{◌∙◌, ap, sym}
use Rattle.mope_base.specs.declared.numbers.TableNo.{TableNo}
use Rattle.proxy.proofs.allowing.is_named.Goals as goal

pub returns-then-table_of-table : goal.returns-then-table_of-table
returns-then-table_of-table c =
    named_here c.args.acts.now c.acts.i c.index-acts-i.result c.args.table c.acts-test.true c.index-acts-i.is c.acts.invariant
    (ap (λ (t : TableNo). t.0) (sym c.table_of.ensures) ∙ c.if-table_of-table.true)

pub acts-preserved : goal.acts-preserved
acts-preserved c =
    named_further c.args.acts.now c.acts.i c.index-acts-i.result c.args.table c.acts-test.true c.index-acts-i.is c.acts.invariant
    (λ e. c.if-table_of-table.false (ap (λ (t : TableNo). t.0) c.table_of.ensures ∙ e))

pub returns : goal.returns
returns c = named_none c.args.acts.now c.acts.i c.args.table c.acts-test.false c.acts.invariant
