use Rattle.std.proofs.Common.{◌∙◌, sym}
use Rattle.plain_db.proofs.CommittingLemmas.{newer_here, newer_further, newer_none}
use Rattle.plain_db.proofs.committing.newer_than.Goals as goal

pub returns-then-is_newer : goal.returns-then-is_newer
returns-then-is_newer c =
    newer_here c.args.written.now c.stamps.i _ c.args.base c.args.touched.now c.stamps-test.true c.stamps.invariant (sym c.if-is_newer.true ∙ c.is_newer.ensures)

pub stamps-preserved : goal.stamps-preserved
stamps-preserved c =
    newer_further c.args.written.now c.stamps.i _ c.args.base c.args.touched.now c.stamps-test.true c.stamps.invariant (sym c.if-is_newer.false ∙ c.is_newer.ensures)

pub returns : goal.returns
returns c = newer_none c.args.written.now c.stamps.i c.args.base c.args.touched.now c.stamps-test.false c.stamps.invariant
