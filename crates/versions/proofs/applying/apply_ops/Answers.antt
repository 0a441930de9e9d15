use Rattle.std.proofs.Common.{◌≡◌, ℕ, suc, ◌+◌, ◌<◌, length, ap, sym, ◌∙◌, arith, add-one}
use Rattle.table_model.specs.Operations.{ops_steps}
use Rattle.versions.specs.Databases.{database_of}
use Rattle.versions.specs.Changes.{ops_changes}
use Rattle.versions.specs.Operations.{rank_ops, with_ops}
use Rattle.versions.specs.Inside.{tables_of}
use Rattle.versions.proofs.Made.{made-starts, made-more, made-few, made-whole, made-listed}
use Rattle.versions.proofs.Tables.{written-shelves, written-stamps}
use Rattle.versions.proofs.applying.apply_ops.Goals as goal

pub tables-init : goal.tables-init
tables-init c = made-starts c.args.version.now (with_ops (rank_ops c.args.ops.now) c.args.version.now) (λ t. ops_steps c.args.version.now.same_time t (rank_ops c.args.ops.now) c.args.version.now.shelves) c.new-tables.result.items c.new-changes.result.items c.new-tables.ensures.items c.new-changes.ensures.items

pub tables-preserved : goal.tables-preserved
tables-preserved c =
    let d = c.args.version.now in
    let within : c.tables.at < length d.shelves = omega (arith, c.tables-test.true, c.tables-at-end.ensures.value) in
    rw c.in_ok-push.ensures.items
    (made-more d (with_ops (rank_ops c.args.ops.now) d) (λ t. ops_steps d.same_time t (rank_ops c.args.ops.now) d.shelves) c.tables.at c.tables.tables.items c.tables.changes.items c.table_after.new.changes.items c.in_ok-table.table
    c.tables.invariant within c.in_ok-table.ensures.value c.in_ok-table.ensures.member c.in_ok-table.ensures.changes)

pub next-requires-clause-few : goal.next-requires-clause-few
next-requires-clause-few c =
    made-few c.args.version.now (with_ops (rank_ops c.args.ops.now) c.args.version.now) (λ t. ops_steps c.args.version.now.same_time t (rank_ops c.args.ops.now) c.args.version.now.shelves) c.tables.at c.tables.tables.items c.tables.changes.items c.tables.invariant
    (omega (arith, c.tables.auto, c.tables-at-end.ensures.value, c.tables-at-end.ensures.database.few))

pub returns-clause-version : goal.returns-clause-version
unfolding with_ops
returns-clause-version c =
    let d = c.args.version.now in
    let made = with_ops (rank_ops c.args.ops.now) d in
    let count : c.tables.at ≡ length d.shelves = omega (arith, c.tables.auto, c.tables-test.false, c.tables-at-end.ensures.value) in
    let next : d.number + 1 ≡ suc d.number = add-one d.number in
    c.next.ensures
    ∙ ap (λ (n : ℕ). database_of n d.same_time d.limit (tables_of c.tables.tables.items)) next
    ∙ made-whole d made (λ t. ops_steps d.same_time t (rank_ops c.args.ops.now) d.shelves) c.tables.at c.tables.tables.items c.tables.changes.items c.tables.invariant
    (count ∙ sym (written-shelves d (rank_ops c.args.ops.now))) (count ∙ sym (written-stamps d (rank_ops c.args.ops.now) ∙ c.tables-at-end.ensures.database.stamped))

pub returns-clause-changes : goal.returns-clause-changes
unfolding ops_changes
returns-clause-changes c =
    let d = c.args.version.now in
    let count : c.tables.at ≡ length d.shelves = omega (arith, c.tables.auto, c.tables-test.false, c.tables-at-end.ensures.value) in
    c.from_vec.ensures ∙ made-listed d (with_ops (rank_ops c.args.ops.now) d) (λ t. ops_steps d.same_time t (rank_ops c.args.ops.now) d.shelves) c.tables.at c.tables.tables.items c.tables.changes.items c.tables.invariant count
