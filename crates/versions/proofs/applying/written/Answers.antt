use Rattle.std.proofs.Common.{◌∙◌, sym, subst}
use Rattle.enc_table.specs.Seen.{IsTable}
use Rattle.versions.specs.Operations.{rank_ops}
use Rattle.versions.proofs.Tables.{written-made, written-member}
use Rattle.versions.proofs.applying.written.Goals as goal

pub returns-clause-value : goal.returns-clause-value
returns-clause-value c =
    c.in_ok-share.ensures.ok
    ∙ written-made c.args.version.now (rank_ops c.args.ops.now) c.args.table.0 c.in_ok-draft.draft.table c.stamp.new.self c.stamps-stamps.result c.number.result
    c.number.ensures.database c.requires.there c.requires.named c.in_ok-draft.ensures.seen c.stamps-stamps.ensures c.number.ensures.value c.stamp.ensures

pub returns-clause-member : goal.returns-clause-member
returns-clause-member c =
    written-member c.args.version.now (rank_ops c.args.ops.now) c.args.table.0 _
    (c.in_ok-share.ensures.ok
    ∙ written-made c.args.version.now (rank_ops c.args.ops.now) c.args.table.0 c.in_ok-draft.draft.table c.stamp.new.self c.stamps-stamps.result c.number.result
    c.number.ensures.database c.requires.there c.requires.named c.in_ok-draft.ensures.seen c.stamps-stamps.ensures c.number.ensures.value c.stamp.ensures)
    (subst IsTable (sym c.in_ok-share.ensures.ok) c.columns-columns.ensures.table)
