use Rattle.std.proofs.Common.{◌≡◌, ◌∙◌, ap, sym, arith, true, subst}
use Rattle.walk_proto.specs.declared.messages.Reply.{Reply}
use Rattle.walk_proto.specs.declared.messages.Reply.TheVariants as reply
use Rattle.proxy.specs.Allowed.{allowed}
use Rattle.proxy.specs.Client.{hears}
use Rattle.proxy.specs.Standing.{setting_in, client_in}
use Rattle.proxy.proofs.StandingLemmas.{placed_looking}
use Rattle.proxy.proofs.AnswerLemmas.{walk_other}
use Rattle.proxy.proofs.HearingLemmas.{heard_placed, heard_goes, allowed_room}
use Rattle.proxy.proofs.dialogue.Dialogue.lead.Goals as goal

pub step_down-requires-clause-room : goal.step_down-requires-clause-room
step_down-requires-clause-room c =
    allowed_room c.args.self.now c.args.table c.args.column c.args.constant c.args.stop c.in-Node.body c.requires.looking
    (subst (λ (r : Reply). allowed (client_in c.args.self.now) r ≡ true) c.in-Node.is c.requires.allowed)

pub go_on-requires : goal.go_on-requires
go_on-requires c = placed_looking c.args.self.now c.args.table c.args.column c.args.constant c.args.stop c.requires.looking c.requires.fits

pub returns-in-Placed : goal.returns-in-Placed
returns-in-Placed c =
    heard_goes c.args.self.now c.go_on.new.self c.args.self.now.constant c.args.reply.now c.go_on.ensures
    (placed_looking c.args.self.now c.args.table c.args.column c.args.constant c.args.stop c.requires.looking c.requires.fits)
    (heard_placed c.args.self.now c.args.table c.args.column c.args.constant c.args.stop c.requires.looking
    ∙ ap (λ (r : Reply). hears (setting_in c.args.self.now) (client_in c.args.self.now) r) (sym c.in-Placed.is))
    c.requires.fits

pub returns-in_default : goal.returns-in_default
returns-in_default c = walk_other c.args.self.now c.args.table c.args.column c.args.constant c.args.stop c.args.reply.now c.requires.looking c.in_default.not-Node c.in_default.not-Placed c.requires.fits
