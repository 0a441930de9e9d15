use Rattle.std.proofs.lemmas.Result.{on_ok_weaker}
use Rattle.proxy.proofs.AnswerLemmas.{heard_row, heard_full, row_other, row_room}
use Rattle.proxy.proofs.StandingLemmas.{placed_acting}
use Rattle.proxy.proofs.dialogue.Dialogue.take_row.Goals as goal

pub answered-requires-clause-placed : goal.answered-requires-clause-placed
answered-requires-clause-placed c = placed_acting c.args.self.now c.requires.acting c.requires.fits

pub answered-requires-clause-room : goal.answered-requires-clause-room
answered-requires-clause-room c = row_room c.args.self.now c.args.table c.args.count c.requires.row c.requires.fits

pub end_with-requires-clause-placed : goal.end_with-requires-clause-placed
end_with-requires-clause-placed c = placed_acting c.args.self.now c.requires.acting c.requires.fits

pub end_with-requires-clause-room : goal.end_with-requires-clause-room
end_with-requires-clause-room c = row_room c.args.self.now c.args.table c.args.count c.requires.row c.requires.fits

pub returns-in-Count : goal.returns-in-Count
returns-in-Count c =
    on_ok_weaker c.answered.result
    (λ answers. heard_row c.args.self.now c.answered.new.self c.args.table c.args.count c.in-Count.field-0 c.args.reply.now answers c.requires.acting c.requires.row c.in-Count.is c.requires.fits)
    c.answered.ensures

pub returns-in-No : goal.returns-in-No
returns-in-No c =
    on_ok_weaker c.end_with.result
    (λ ends. heard_full c.args.self.now c.end_with.new.self c.args.table c.args.count c.in-No.code c.in-No.value c.args.reply.now ends c.requires.acting c.requires.row c.in-No.is c.requires.fits)
    c.end_with.ensures

pub returns-in_default : goal.returns-in_default
returns-in_default c = row_other c.args.self.now c.args.table c.args.count c.args.reply.now c.requires.acting c.requires.row c.in_default.not-Count c.in_default.not-No c.requires.fits
