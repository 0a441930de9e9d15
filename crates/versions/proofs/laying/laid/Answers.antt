use Rattle.std.proofs.Common.{◌<◌, ◌∙◌, length, sym, subst}
use Rattle.enc_table.specs.Seen.{Seen, IsTable}
use Rattle.versions.specs.Databases.{table_at}
use Rattle.versions.proofs.Tables.{laid-made, laid-member, laid-listed}
use Rattle.versions.proofs.laying.laid.Goals as goal

pub rebuild_column-requires : goal.rebuild_column-requires
unfolding table_at
rebuild_column-requires c = subst (λ (t : Seen). c.args.column.0 < length t.shelf.columns) (sym c.in_ok-copy.ensures) c.requires.there.column_there

pub returns-clause-value : goal.returns-clause-value
returns-clause-value c =
    c.in_ok-share.ensures.ok
    ∙ laid-made c.args.version.now c.args.table.0 c.args.column.0 c.in_ok-copy.copy c.rebuild_column.new.self c.stamp.new.self c.stamps-stamps.result c.number.result
    c.number.ensures.database c.requires.there.table_there c.in_ok-copy.ensures c.in_ok-change.ensures.table c.stamps-stamps.ensures c.number.ensures.value c.stamp.ensures

pub returns-clause-member : goal.returns-clause-member
returns-clause-member c =
    laid-member c.args.version.now c.args.table.0 c.args.column.0 _
    (c.in_ok-share.ensures.ok
    ∙ laid-made c.args.version.now c.args.table.0 c.args.column.0 c.in_ok-copy.copy c.rebuild_column.new.self c.stamp.new.self c.stamps-stamps.result c.number.result
    c.number.ensures.database c.requires.there.table_there c.in_ok-copy.ensures c.in_ok-change.ensures.table c.stamps-stamps.ensures c.number.ensures.value c.stamp.ensures)
    (subst IsTable (sym c.in_ok-share.ensures.ok) c.columns-columns.ensures.table)

pub returns-clause-changes : goal.returns-clause-changes
returns-clause-changes c =
    laid-listed c.args.version.now c.args.table.0 c.args.column.0 c.in_ok-copy.copy c.in_ok-summary.summary c.args.changes.now.items c.push_change.new.changes.items
    c.requires.there.column_there c.in_ok-copy.ensures (c.in_ok-summary.ensures ∙ c.in_ok-change.ensures.change) c.in_ok-push_change.ensures
