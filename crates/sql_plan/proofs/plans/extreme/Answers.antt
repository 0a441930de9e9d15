use Rattle.std.proofs.Common.{◌≡◌, ◌∙◌, ap, sym, subst, Bool, List, slice_get, Option}
use Rattle.column_index.specs.declared.entry.Entry.{Entry}
use Rattle.sql_plan.specs.declared.bounds.Bound.{Bound}
use Rattle.sql_plan.specs.Plans.{extreme_found}
use Rattle.sql_plan.specs.Walks.{within, greatest_row, IsSpan}
use Rattle.sql_plan.proofs.RowCodes.{facts-of}
use Rattle.sql_plan.proofs.Steps.{within-rest}
use Rattle.sql_plan.proofs.Answering.{codes-of, ordered-of, greatest-of, least-of, first-row, first-none}
use Rattle.sql_plan.proofs.plans.extreme.Goals as goal

pub greatest_in-requires-clause-codes : goal.greatest_in-requires-clause-codes
greatest_in-requires-clause-codes c = codes-of c.args.table.now.shelf (facts-of c.args.table.now c.index.ensures.table) c.args.column c.requires.column c.in-Some.index.now c.in-Some.ensures.entries

pub greatest_in-requires-clause-ordered : goal.greatest_in-requires-clause-ordered
greatest_in-requires-clause-ordered c = ordered-of c.args.table.now.shelf (facts-of c.args.table.now c.index.ensures.table) c.args.column c.requires.column c.in-Some.index.now c.in-Some.ensures.entries

pub returns-then-greatest : goal.returns-then-greatest
returns-then-greatest c =
    c.greatest_in.ensures ∙ ap (λ (bs : List Bound). greatest_row c.args.table.now.shelf bs c.in-Some.index.now.entries) c.as_slice-bounds.ensures
    ∙ greatest-of c.args.table.now.shelf (facts-of c.args.table.now c.index.ensures.table) c.args.column c.requires.column c.in-Some.index.now c.in-Some.ensures.entries c.args.query.now.bounds c.requires.bounds
    ∙ sym (ap (λ (g : Bool). extreme_found c.args.table.now.shelf c.args.query.now.bounds c.args.column g) c.if-greatest.true)

pub returns-in-Some-first_from : goal.returns-in-Some-first_from
returns-in-Some-first_from c =
    let s = c.args.table.now.shelf in
    let es = c.in-Some.index.now.entries in
    let whole = within-rest s c.as_slice-bounds.result.now es c.span-first.result.0 c.span-first.ensures.before ∙ ap (λ (bs : List Bound). within s bs es) c.as_slice-bounds.ensures in
    sym (first-row (within s c.args.query.now.bounds es) c.in-Some-first_from.entry (sym (ap (λ (xs : List Entry). slice_get xs 0) whole) ∙ sym c.first_from.ensures ∙ c.in-Some-first_from.is))
    ∙ least-of s (facts-of c.args.table.now c.index.ensures.table) c.args.column c.requires.column c.in-Some.index.now c.in-Some.ensures.entries c.args.query.now.bounds c.requires.bounds
    ∙ sym (ap (λ (g : Bool). extreme_found s c.args.query.now.bounds c.args.column g) c.if-greatest.false)

pub returns-in-None : goal.returns-in-None
returns-in-None c =
    let s = c.args.table.now.shelf in
    let es = c.in-Some.index.now.entries in
    let whole = within-rest s c.as_slice-bounds.result.now es c.span-first.result.0 c.span-first.ensures.before ∙ ap (λ (bs : List Bound). within s bs es) c.as_slice-bounds.ensures in
    sym (first-none (within s c.args.query.now.bounds es) (sym (ap (λ (xs : List Entry). slice_get xs 0) whole) ∙ sym c.first_from.ensures ∙ c.in-None.is))
    ∙ least-of s (facts-of c.args.table.now c.index.ensures.table) c.args.column c.requires.column c.in-Some.index.now c.in-Some.ensures.entries c.args.query.now.bounds c.requires.bounds
    ∙ sym (ap (λ (g : Bool). extreme_found s c.args.query.now.bounds c.args.column g) c.if-greatest.false)
