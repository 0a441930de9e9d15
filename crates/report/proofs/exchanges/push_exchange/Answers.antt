use Rattle.report.specs.ViewText.{exchange_lines}
use Rattle.report.proofs.Appends.{twice}
use Rattle.report.proofs.exchanges.push_exchange.Goals as goal

pub returns : goal.returns
unfolding exchange_lines
returns c = twice _ _ _ c.in_ok-push_request.ensures c.in_ok-push_reply.ensures
