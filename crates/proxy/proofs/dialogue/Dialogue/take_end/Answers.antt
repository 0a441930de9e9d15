use Rattle.std.proofs.Common.{◌≡◌, ◌∙◌, ap, sym, Bool}
use Rattle.std.proofs.lemmas.Result.{on_ok_weaker}
use Rattle.workload.specs.declared.script.Piece.{Piece}
use Rattle.proxy.specs.Client.{end_told}
use Rattle.proxy.specs.Standing.{rolls_back}
use Rattle.proxy.proofs.AnswerLemmas.{heard_ended, end_other}
use Rattle.proxy.proofs.HearingLemmas.{placed_some}
use Rattle.proxy.proofs.dialogue.Dialogue.take_end.Goals as goal

pub piece_in-requires : goal.piece_in-requires
piece_in-requires c = placed_some c.args.self.now _ _ c.requires.tasks c.requires.fits

pub end_with-requires-clause-placed : goal.end_with-requires-clause-placed
end_with-requires-clause-placed c = placed_some c.args.self.now _ _ c.requires.tasks c.requires.fits

pub returns-in-Ended : goal.returns-in-Ended
returns-in-Ended c =
    on_ok_weaker c.end_with.result
    (λ ends. heard_ended c.args.self.now c.end_with.new.self c.end_told.result c.in-Ended.how c.in-Ended.table c.in-Ended.number c.args.reply.now ends c.requires.tasks
    (c.end_told.ensures
    ∙ ap (λ (b : Bool). end_told b c.in-Ended.how c.in-Ended.table c.in-Ended.number) (c.is_rolled_back-rollback.ensures ∙ ap rolls_back c.piece_in.ensures))
    c.in-Ended.is c.requires.fits)
    c.end_with.ensures

pub returns-in_default : goal.returns-in_default
returns-in_default c = end_other c.args.self.now c.args.reply.now c.requires.tasks c.in_default.not-Ended c.requires.fits
