use Rattle.std.proofs.Common.{List, [], ◌∷◌, ◌++◌}
use Rattle.mope_base.specs.Lists.{Each}
use Rattle.walk_proto.specs.declared.messages.Exchange.{Exchange}
use Rattle.report.specs.ViewText.{IsWritable}
use Rattle.report.proofs.view_tests.push.Goals as goal

one_more : (log : List Exchange) (e : Exchange) → Each IsWritable log → IsWritable e → Each IsWritable (log ++ e ∷ [])
unfolding Each
one_more [] e h is = (is, tt)
one_more (first ∷ log) e h is = (h.0, one_more log e h.1 is)

pub returns : goal.returns
returns c =
    let both : Exchange = record { request = c.args.request; reply = c.args.reply } in
    rw c.in_ok-push.ensures.items (one_more c.args.log.now.items both c.requires.before (record { request = c.requires.request; reply = c.requires.reply }))
