use Rattle.std.proofs.Common.{◌≡◌, ◌∙◌, sym, map}
use Rattle.std.proofs.lemmas.List.{take-map, length-map}
use Rattle.column_index.specs.declared.entry.Entry.{Entry}
use Rattle.sql_plan.specs.Walks.{rows_of}
use Rattle.sql_plan.proofs.ordering.cut.Goals as goal

pub returns : goal.returns
unfolding rows_of
returns c =
    c.in_ok-rows.ensures ∙ sym (take-map (λ (e : Entry). e.row) c.kept_of-count.result c.args.entries.now)
    ∙ c.kept_of-count.ensures.cut (map (λ (e : Entry). e.row) c.args.entries.now) (length-map c.args.entries.now (λ (e : Entry). e.row))
