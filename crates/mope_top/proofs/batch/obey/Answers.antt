use Rattle.std.proofs.Common.{◌≡◌, IfOk, subst}
use Rattle.mope_base.specs.declared.status.Status.TheVariants.{Done}
use Rattle.mope_top.specs.Batch.{ReadsAll}
use Rattle.mope_top.specs.Replays.{IsShown}
use Rattle.mope_top.proofs.BatchLemmas.{one-replay}
use Rattle.mope_top.proofs.batch.obey.Goals as goal

pub returns-in-Replay-clause-shown : goal.returns-in-Replay-clause-shown
returns-in-Replay-clause-shown g c = λ r same.
    subst (λ s. IfOk c.replay_input.result (λ verdict. verdict.status ≡ Done
    → ReadsAll (g.S.Source.left c.args.input.now) (g.S.Source.left c.replay_input.new.input) (λ bytes. IsShown s bytes (g.H.Watch.tells c.args.watch.now) (g.H.Watch.tells c.replay_input.new.watch))))
    (one-replay c.args.order c.in-Replay.replaying r c.in-Replay.is same) c.replay_input.ensures.shown
