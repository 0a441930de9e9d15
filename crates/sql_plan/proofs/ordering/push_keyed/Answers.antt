use Rattle.std.proofs.Common.{◌≡◌, ◌∙◌, ap, sym, ℕ, List, [], ◌∷◌, ◌++◌, Option}
use Rattle.std.proofs.lemmas.List.{append-nil}
use Rattle.std.specs.Option.{option_to_list}
use Rattle.column_index.specs.declared.entry.Entry.{Entry}
use Rattle.sql_plan.specs.Walks.{keyed, keyed_rows}
use Rattle.sql_plan.proofs.ordering.push_keyed.Goals as goal

pub returns-in_default : goal.returns-in_default
unfolding keyed_rows
returns-in_default c =
    sym (ap (λ (o : Option Entry). c.args.found.now.items ++ keyed_rows c.args.table.now.shelf c.args.order (option_to_list o)) c.in_default.is ∙ append-nil c.args.found.now.items)

pub returns : goal.returns
unfolding keyed keyed_rows
returns c =
    let old = c.args.found.now.items in
    c.in_ok-push.ensures.items
    ∙ ap (λ (enc : ℕ). old ++ (let e : Entry = record { enc = enc; row = c.in-Some.entry.row } in e) ∷ []) c.key_of-enc.ensures
    ∙ sym (ap (λ (o : Option Entry). old ++ keyed_rows c.args.table.now.shelf c.args.order (option_to_list o)) c.in-Some.is)
