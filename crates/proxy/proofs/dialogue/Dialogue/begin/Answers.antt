use Rattle.std.proofs.Common.{◌≡◌, ◌∙◌, ap, sym, arith}
use Rattle.walk_proto.specs.declared.messages.Reply.{Reply}
use Rattle.proxy.specs.Client.{Client, hears}
use Rattle.proxy.specs.Standing.{setting_in, client_in, going_to, tasks_from, values_left}
use Rattle.proxy.proofs.StandingLemmas.{placed_opening}
use Rattle.proxy.proofs.AnswerLemmas.{begin_other}
use Rattle.proxy.proofs.HearingLemmas.{heard_begin, client_with_base, fits_kept}
use Rattle.proxy.proofs.dialogue.Dialogue.begin.Goals as goal

pub go_on-requires : goal.go_on-requires
go_on-requires c = placed_opening c.args.self.now c.requires.opening c.requires.fits

pub returns-in-Ended : goal.returns-in-Ended
returns-in-Ended c =
    record {
      client =
          c.go_on.ensures.client
          ∙ ap (λ (x : Client). going_to (tasks_from c.args.self.now c.args.self.now.act c.args.self.now.constant) x) (client_with_base c.args.self.now c.in-Ended.number)
          ∙ heard_begin c.args.self.now c.in-Ended.how c.in-Ended.table c.in-Ended.number c.requires.opening
          ∙ ap (λ (r : Reply). hears (setting_in c.args.self.now) (client_in c.args.self.now) r) (sym c.in-Ended.is);
      session = record { pads = c.go_on.ensures.session.pads; first = c.go_on.ensures.session.first; session = c.go_on.ensures.session.session; script = c.go_on.ensures.session.script };
      fits =
          fits_kept c.args.self.now c.go_on.new.self
          (record { pads = c.go_on.ensures.session.pads; first = c.go_on.ensures.session.first; session = c.go_on.ensures.session.session; script = c.go_on.ensures.session.script })
          c.go_on.ensures.place (placed_opening c.args.self.now c.requires.opening c.requires.fits)
          (let left = ap (values_left c.args.self.now.script c.args.self.now.place) c.go_on.ensures.act in omega (arith, left, c.go_on.ensures.seals))
          c.requires.fits;
    }

pub returns-in_default : goal.returns-in_default
returns-in_default c = begin_other c.args.self.now c.args.reply.now c.requires.opening c.in_default.not-Ended c.requires.fits
