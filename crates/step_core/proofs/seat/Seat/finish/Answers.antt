use Rattle.step_core.specs.Inside.{sitting_of}
use Rattle.step_core.specs.Sittings.{finished_of}
use Rattle.step_core.proofs.Exchanged.{as-finished}
use Rattle.step_core.proofs.seat.Seat.finish.Goals as goal

pub finish-requires : goal.finish-requires
unfolding sitting_of
finish-requires c = c.requires

pub returns : goal.returns
unfolding sitting_of finished_of
returns c = as-finished c.finish.result c.args.self.proxy.client.done c.args.self.proxy.log c.finish.ensures.transactions c.finish.ensures.log
