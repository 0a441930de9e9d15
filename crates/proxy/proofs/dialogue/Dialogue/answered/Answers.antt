use Rattle.std.proofs.Common.{◌≡◌, ◌∙◌, ap, sym, refl, arith, List, None, ◌+◌}
use Rattle.workload.specs.declared.script.Answer.{Answer}
use Rattle.proxy.specs.Client.{Client}
use Rattle.proxy.specs.Standing.{client_in, going_to, answered_to, tasks_from}
use Rattle.proxy.proofs.dialogue.Dialogue.answered.Goals as goal

pub returns : goal.returns
unfolding client_in going_to answered_to
returns c = record {
  client =
      c.go_on.ensures.client
      ∙ ap (λ (l : List Answer). let x : Client = record (client_in c.args.self.now) { tasks = tasks_from c.args.self.now (c.args.self.now.act + 1) 0; looking = None; seals = c.args.self.now.seals + c.args.count; answers = l } in x) c.in_ok-push.ensures.ok;
  session = record { pads = c.go_on.ensures.session.pads; first = c.go_on.ensures.session.first; session = c.go_on.ensures.session.session; script = c.go_on.ensures.session.script };
  place = c.go_on.ensures.place;
  act = c.go_on.ensures.act;
  seals = c.go_on.ensures.seals;
}
