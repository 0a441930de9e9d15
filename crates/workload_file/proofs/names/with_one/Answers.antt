use Rattle.std.proofs.Common.{sym, ◌∙◌}
use Rattle.workload_file.proofs.NamingLemmas.{keys_fit, names_added, new_found, not_false, not_true, old_found, stands_key}
use Rattle.workload_file.proofs.names.with_one.Goals as goal

pub invariant_of-names : goal.invariant_of-names
invariant_of-names c =
    keys_fit c.names.inside.set.keys c.insert.new.self.keys c.args.names c.in_ok-added.added c.names.view_is c.requires c.in_ok-added.ensures.len

pub returns-then-added-clause-more : goal.returns-then-added-clause-more
returns-then-added-clause-more c =
    names_added _ c.names.inside.set.keys c.insert.new.self.keys c.in_ok-bytes.bytes c.args.name.now c.args.names c.names.view_is c.in_ok-bytes.ensures
    (not_false _ (sym c.if-added.true ∙ c.in_ok-added.ensures.added)) c.in_ok-added.ensures.keys

pub returns-then-added-clause-found : goal.returns-then-added-clause-found
returns-then-added-clause-found c =
    let absent = not_false _ (sym c.if-added.true ∙ c.in_ok-added.ensures.added) in
    new_found _ c.args.names c.args.name.now _
    (sym (stands_key c.names.inside.set.keys c.args.name.now c.in_ok-bytes.bytes.items c.args.names c.names.view_is c.in_ok-bytes.ensures) ∙ absent)
    (names_added _ c.names.inside.set.keys c.insert.new.self.keys c.in_ok-bytes.bytes c.args.name.now c.args.names c.names.view_is c.in_ok-bytes.ensures absent c.in_ok-added.ensures.keys)

pub returns-else-added-clause-found : goal.returns-else-added-clause-found
returns-else-added-clause-found c =
    old_found _ c.args.names c.args.name.now
    (sym (stands_key c.names.inside.set.keys c.args.name.now c.in_ok-bytes.bytes.items c.args.names c.names.view_is c.in_ok-bytes.ensures)
    ∙ not_true _ (sym c.if-added.false ∙ c.in_ok-added.ensures.added))
