use Rattle.std.proofs.Common.{◌≡◌, ◌==◌, [], ◌∷◌, ℕ, suc, ◌+◌, ◌<◌, length, ap, sym, ◌∙◌, arith, add-one}
use Rattle.tree_model.specs.Columns.{Lay}
use Rattle.table_model.specs.Steps.{only}
use Rattle.table_model.specs.Operations.{steps_if}
use Rattle.versions.specs.Databases.{database_of}
use Rattle.versions.specs.Changes.{install_changes}
use Rattle.versions.specs.Operations.{with_install}
use Rattle.versions.specs.Inside.{tables_of}
use Rattle.versions.proofs.Made.{made-starts, made-more, made-few, made-whole, made-listed}
use Rattle.versions.proofs.Tables.{laid-shelves, laid-stamps}
use Rattle.versions.proofs.laying.apply_rebuild.Goals as goal

pub tables-init : goal.tables-init
tables-init c = made-starts c.args.version.now (with_install c.args.table.0 c.args.column.0 c.args.version.now) (λ t. steps_if (t == c.args.table.0) (only c.args.column.0 (Lay ∷ []))) c.new-tables.result.items c.new-changes.result.items c.new-tables.ensures.items c.new-changes.ensures.items

pub tables-preserved : goal.tables-preserved
tables-preserved c =
    let d = c.args.version.now in
    let within : c.tables.at < length d.shelves = omega (arith, c.tables-test.true, c.tables-at-end.ensures.value) in
    rw c.in_ok-push.ensures.items
    (made-more d (with_install c.args.table.0 c.args.column.0 d) (λ t. steps_if (t == c.args.table.0) (only c.args.column.0 (Lay ∷ []))) c.tables.at c.tables.tables.items c.tables.changes.items c.table_after.new.changes.items c.in_ok-made.made
    c.tables.invariant within c.in_ok-made.ensures.value c.in_ok-made.ensures.member c.in_ok-made.ensures.changes)

pub next-requires-clause-few : goal.next-requires-clause-few
next-requires-clause-few c =
    made-few c.args.version.now (with_install c.args.table.0 c.args.column.0 c.args.version.now) (λ t. steps_if (t == c.args.table.0) (only c.args.column.0 (Lay ∷ []))) c.tables.at c.tables.tables.items c.tables.changes.items c.tables.invariant
    (omega (arith, c.tables.auto, c.tables-at-end.ensures.value, c.tables-at-end.ensures.database.few))

pub returns-clause-version : goal.returns-clause-version
unfolding with_install
returns-clause-version c =
    let d = c.args.version.now in
    let made = with_install c.args.table.0 c.args.column.0 d in
    let count : c.tables.at ≡ length d.shelves = omega (arith, c.tables.auto, c.tables-test.false, c.tables-at-end.ensures.value) in
    let next : d.number + 1 ≡ suc d.number = add-one d.number in
    c.next.ensures
    ∙ ap (λ (n : ℕ). database_of n d.same_time d.limit (tables_of c.tables.tables.items)) next
    ∙ made-whole d made (λ t. steps_if (t == c.args.table.0) (only c.args.column.0 (Lay ∷ []))) c.tables.at c.tables.tables.items c.tables.changes.items c.tables.invariant
    (count ∙ sym (laid-shelves d c.args.table.0 c.args.column.0)) (count ∙ sym (laid-stamps d c.args.table.0 c.args.column.0 ∙ c.tables-at-end.ensures.database.stamped))

pub returns-clause-changes : goal.returns-clause-changes
unfolding install_changes
returns-clause-changes c =
    let d = c.args.version.now in
    let count : c.tables.at ≡ length d.shelves = omega (arith, c.tables.auto, c.tables-test.false, c.tables-at-end.ensures.value) in
    c.from_vec.ensures ∙ made-listed d (with_install c.args.table.0 c.args.column.0 d) (λ t. steps_if (t == c.args.table.0) (only c.args.column.0 (Lay ∷ []))) c.tables.at c.tables.tables.items c.tables.changes.items c.tables.invariant count
