use Rattle.std.proofs.Common.{refl}
use Rattle.proxy.proofs.HearingLemmas.{gone_on}
use Rattle.proxy.proofs.dialogue.Dialogue.go_on.Goals as goal

pub returns : goal.returns
returns c = record {
  client = gone_on c.args.self.now c.piece_in.result.now c.doing_at-doing.result.0 c.args.act c.args.constant c.doing_at-doing.result.1 c.piece_in.ensures c.doing_at-doing.ensures.tasks c.doing_at-doing.ensures.stop;
  session = record { pads = refl; first = refl; session = refl; script = refl };
  place = refl;
  act = refl;
  seals = refl;
}
