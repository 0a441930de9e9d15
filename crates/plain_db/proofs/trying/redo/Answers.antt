use Rattle.std.proofs.Common.{length}
use Rattle.plain_db.proofs.TurningLemmas.{piece-fits}
use Rattle.plain_db.proofs.TryLemmas.{none-after, read-after}
use Rattle.plain_db.proofs.trying.redo.Goals as goal

pub redo_piece-requires-clause-fit : goal.redo_piece-requires-clause-fit
redo_piece-requires-clause-fit c =
    piece-fits (length c.args.db.now.tables) c.args.script.now c.args.ended c.index-script-ended.result c.requires.fit c.if-ended-script.true c.index-script-ended.is

pub returns-then-ended-script : goal.returns-then-ended-script
returns-then-ended-script c =
    rw (read-after c.args.script.now c.args.ended c.index-script-ended.result c.if-ended-script.true c.index-script-ended.is) at c.redo_piece.ensures

pub returns-else-ended-script : goal.returns-else-ended-script
returns-else-ended-script c = none-after c.args.script.now c.args.ended c.args.db.now c.if-ended-script.false
