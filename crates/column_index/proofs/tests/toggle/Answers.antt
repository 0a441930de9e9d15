use Rattle.std.proofs.Common.{ap, ◌∙◌, sym}
use Rattle.column_index.specs.Entries.{holds_entry}
use Rattle.column_index.specs.Seen.{Seen, index_of}
use Rattle.column_index.proofs.Sorting.{without-absent}
use Rattle.column_index.proofs.tests.toggle.Goals as goal

pub insert-requires : goal.insert-requires
unfolding index_of
insert-requires c =
    let absent = sym c.in_ok-remove.ensures.found ∙ c.if-branch.false in
    ap (λ (s : Seen). holds_entry c.args.entry s.entries) c.in_ok-remove.ensures.ok
    ∙ ap (holds_entry c.args.entry) (without-absent c.args.entry c.args.index.now.entries absent) ∙ absent
