use Rattle.report.proofs.HistoryOrder.{history-compared}
use Rattle.report.proofs.history_order.compared.Goals as goal

pub returns : goal.returns
returns c =
    rw (c.then-2.ensures, c.then.ensures, c.cmp-ranks.ensures, c.cmp-sessions.ensures, c.cmp-places.ensures, c.rank.ensures, c.rank-2.ensures) (
    history-compared c.args.a.now c.args.b.now)
