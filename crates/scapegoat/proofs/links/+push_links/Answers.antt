use Rattle.std.proofs.Common.{arith}
use Rattle.scapegoat.proofs.Ranks.{links-none, links-pushed}
use Rattle.scapegoat.proofs.links.+push_links.Goals as goal

pub returns-then-count-eq0 : goal.returns-then-count-eq0
returns-then-count-eq0 t c = links-none c.args.first c.args.count c.args.links.now.items (omega arith)

pub returns : goal.returns
returns t c =
    let pushed = c.in_ok-push.ensures.items in
    links-pushed c.args.first c.args.count c.args.links.now.items c.push_links.new.links.items c.push_links-2.new.links.items c.middle-left.result c.middle-right.result (omega arith) c.in_ok-push_links.ensures c.middle-left.ensures c.middle-right.ensures (rw (← pushed) c.in_ok-push_links-2.ensures)
