use Rattle.std.proofs.Common.{◌∙◌, sym}
use Rattle.column_index.proofs.Points.{without-at, holds-at_point, holds-not_at, entry_here, entry_other}
use Rattle.column_index.proofs.Sorting.{without-absent}
use Rattle.column_index.proofs.placing.take_entry.Goals as goal

pub returns-then-not-stands_at-clause-found : goal.returns-then-not-stands_at-clause-found
returns-then-not-stands_at-clause-found c =
    let other = entry_other c.args.entry c.args.entries.now c.place_of-place.result (sym c.stands_at.ensures ∙ c.if-not-stands_at.true) in
    sym (holds-not_at c.args.entry c.args.entries.now c.place_of-place.result c.place_of-place.ensures.bound c.requires c.place_of-place.ensures.point other)

pub returns-then-not-stands_at-clause-rest : goal.returns-then-not-stands_at-clause-rest
returns-then-not-stands_at-clause-rest c =
    let other = entry_other c.args.entry c.args.entries.now c.place_of-place.result (sym c.stands_at.ensures ∙ c.if-not-stands_at.true) in
    sym (without-absent c.args.entry c.args.entries.now (holds-not_at c.args.entry c.args.entries.now c.place_of-place.result c.place_of-place.ensures.bound c.requires c.place_of-place.ensures.point other))

pub remove-requires : goal.remove-requires
remove-requires c = (entry_here c.args.entry c.args.entries.now c.place_of-place.result (sym c.stands_at.ensures ∙ c.if-not-stands_at.false)).0

pub returns-in-Ok-clause-found : goal.returns-in-Ok-clause-found
returns-in-Ok-clause-found c =
    let here = entry_here c.args.entry c.args.entries.now c.place_of-place.result (sym c.stands_at.ensures ∙ c.if-not-stands_at.false) in
    sym (holds-at_point c.args.entry c.args.entries.now c.place_of-place.result here.0 c.place_of-place.ensures.point here.1)

pub returns-in-Ok-clause-rest : goal.returns-in-Ok-clause-rest
returns-in-Ok-clause-rest c =
    let here = entry_here c.args.entry c.args.entries.now c.place_of-place.result (sym c.stands_at.ensures ∙ c.if-not-stands_at.false) in
    c.in-Ok.ensures.ok ∙ sym (without-at c.args.entry c.args.entries.now c.place_of-place.result here.0 c.place_of-place.ensures.point here.1)
