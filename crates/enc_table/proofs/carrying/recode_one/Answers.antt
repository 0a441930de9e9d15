use Rattle.std.proofs.Common.{◌≡◌, ◌≤◌, length, sym, ◌∙◌, arith}
use Rattle.std.proofs.lemmas.Option.{slice_get_within}
use Rattle.column_index.proofs.Points.{below-length}
use Rattle.enc_table.proofs.CodePlaces.{all_marked, as_many, ends_before, ends_last, marking_on, none_marked}
use Rattle.enc_table.proofs.carrying.recode_one.Goals as goal

pub entries-init : goal.entries-init
entries-init c = none_marked c.args.pair.old c.args.pair.new c.args.index.now.entries c.args.start c.args.numbers.now c.args.cells.now

pub returns-then-entry-pair-clause-end : goal.returns-then-entry-pair-clause-end
returns-then-entry-pair-clause-end c =
    ends_before c.args.pair.old c.args.index.now.entries c.args.start c.entries.place c.unwrap-entry.result c.len-count.ensures.ordered c.requires.start c.entries.auto.place (sym c.at.ensures ∙ c.unwrap-entry.ensures) c.if-entry-pair.true c.entries.invariant.same

pub returns-then-entry-pair-clause-cells : goal.returns-then-entry-pair-clause-cells
returns-then-entry-pair-clause-cells c =
    let read = sym c.at.ensures ∙ c.unwrap-entry.ensures in
    let ends = ends_before c.args.pair.old c.args.index.now.entries c.args.start c.entries.place c.unwrap-entry.result c.len-count.ensures.ordered c.requires.start c.entries.auto.place read c.if-entry-pair.true c.entries.invariant.same in
    let lt = slice_get_within c.args.index.now.entries c.entries.place c.unwrap-entry.result read in
    all_marked c.args.pair.old c.args.pair.new c.args.index.now.entries c.args.start c.entries.place c.args.numbers.now c.args.cells.now c.entries.cells c.len-count.ensures.ordered c.requires.start c.entries.auto.place (omega (arith, lt)) ends c.entries.invariant

pub recode_row-requires-clause-many : goal.recode_row-requires-clause-many
recode_row-requires-clause-many c = as_many c.args.pair.old c.args.pair.new c.args.index.now.entries c.args.start c.entries.place c.args.numbers.now c.args.cells.now c.entries.cells c.requires.many c.entries.invariant

pub entries-preserved : goal.entries-preserved
entries-preserved c =
    marking_on c.args.pair.old c.args.pair.new c.args.index.now.entries c.args.start c.entries.place c.unwrap-entry.result c.args.numbers.now c.args.cells.now c.entries.cells c.recode_row.new.cells c.entries.auto.place (sym c.at.ensures ∙ c.unwrap-entry.ensures) c.if-entry-pair.false c.entries.invariant c.in_ok-recode_row.ensures

pub returns-clause-end : goal.returns-clause-end
returns-clause-end c =
    let begins : c.args.start ≤ c.len-count.result = omega (arith, below-length c.args.pair.old c.args.index.now.entries) in
    let at : c.entries.place ≡ c.len-count.result = omega arith in
    sym at ∙ ends_last c.args.pair.old c.args.index.now.entries c.args.start c.entries.place c.len-count.ensures.ordered c.requires.start (omega (arith, at, c.len-count.ensures.count)) c.entries.invariant.same

pub returns-clause-cells : goal.returns-clause-cells
returns-clause-cells c =
    let begins : c.args.start ≤ c.len-count.result = omega (arith, below-length c.args.pair.old c.args.index.now.entries) in
    let at : c.entries.place ≡ length c.args.index.now.entries = omega (arith, c.len-count.ensures.count) in
    let ends = ends_last c.args.pair.old c.args.index.now.entries c.args.start c.entries.place c.len-count.ensures.ordered c.requires.start at c.entries.invariant.same in
    all_marked c.args.pair.old c.args.pair.new c.args.index.now.entries c.args.start c.entries.place c.args.numbers.now c.args.cells.now c.entries.cells c.len-count.ensures.ordered c.requires.start c.entries.auto.place (omega arith) ends c.entries.invariant
