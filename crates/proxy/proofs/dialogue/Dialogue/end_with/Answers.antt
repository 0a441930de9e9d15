use Rattle.std.proofs.Common.{◌≡◌, ◌∙◌, ap, sym, refl, arith, List, ltb, length, ◌+◌}
use Rattle.proxy.specs.Standing.{opening_where}
use Rattle.proxy.proofs.HearingLemmas.{ended_client, ended_placed}
use Rattle.proxy.proofs.dialogue.Dialogue.end_with.Goals as goal

pub returns : goal.returns
returns c =
    let next = c.opening_if-next.ensures ∙ ap (λ l. opening_where (ltb (c.args.self.now.place + 1) (length l))) c.as_slice.ensures in
    record {
      client =
          ended_client c.args.self.now c.args.end c.args.count c.opening_if-next.result c.replace-answers.result c.replace-answers.new.dest c.push.new.self
          next c.replace-answers.ensures.value (c.replace-answers.ensures.after ∙ c.new.ensures) c.in_ok-push.ensures.ok;
      session = record { pads = refl; first = refl; session = refl; script = refl };
      place = omega arith;
      placed = ended_placed c.args.self.now c.opening_if-next.result next;
      act = refl;
      seals = refl;
    }
