use Rattle.std.proofs.Common.{◌≡◌, ◌∙◌, ap, sym, length, arith}
use Rattle.std.proofs.lemmas.Result.{on_ok_weaker}
use Rattle.proxy.proofs.AnswerLemmas.{heard_answer, no_answer, is_row}
use Rattle.proxy.proofs.RequestLemmas.{Reads, row-fits}
use Rattle.proxy.proofs.StandingLemmas.{placed_acting, tasks_past}
use Rattle.proxy.proofs.dialogue.Dialogue.take_answer.Goals as goal

pub piece_in-requires : goal.piece_in-requires
piece_in-requires c = placed_acting c.args.self.now c.requires.acting c.requires.fits

pub take_end-requires-clause-tasks : goal.take_end-requires-clause-tasks
take_end-requires-clause-tasks c =
    tasks_past c.args.self.now c.piece_in.result.now c.acts_in-acts.result.now c.requires.acting c.piece_in.ensures c.acts_in-acts.ensures c.if-self-acts.true

pub overflow_cast-count : goal.overflow_cast-count
overflow_cast-count c =
    let reads : Reads c.args.self.now c.piece_in.result.now c.acts_in-acts.result.now c.index-acts-self.result =
    record { piece_is = c.piece_in.ensures; acts_are = c.acts_in-acts.ensures; within = c.if-self-acts.false; is = c.index-acts-self.is } in
    let fits = row-fits c.args.self.now _ _ _ c.in-Insert.table c.in-Insert.values reads c.in-Insert.is c.requires.fits in
    omega (arith, fits, ap length c.as_slice.ensures)

pub take_row-requires-clause-row : goal.take_row-requires-clause-row
take_row-requires-clause-row c =
    let reads : Reads c.args.self.now c.piece_in.result.now c.acts_in-acts.result.now c.index-acts-self.result =
    record { piece_is = c.piece_in.ensures; acts_are = c.acts_in-acts.ensures; within = c.if-self-acts.false; is = c.index-acts-self.is } in
    is_row c.args.self.now _ _ _ c.in-Insert.table c.in-Insert.values _ reads c.in-Insert.is (ap length (sym c.as_slice.ensures))

pub answered-requires-clause-placed : goal.answered-requires-clause-placed
answered-requires-clause-placed c = placed_acting c.args.self.now c.requires.acting c.requires.fits

pub returns-in-Some : goal.returns-in-Some
returns-in-Some c =
    let reads : Reads c.args.self.now c.piece_in.result.now c.acts_in-acts.result.now c.index-acts-self.result =
    record { piece_is = c.piece_in.ensures; acts_are = c.acts_in-acts.ensures; within = c.if-self-acts.false; is = c.index-acts-self.is } in
    on_ok_weaker c.answered.result
    (λ answers. heard_answer c.args.self.now c.answered.new.self c.answer_in.new.pads _ _ _ c.in-Ask.ask c.in-Some.answer c.args.reply.now answers
    c.answer_in.ensures.stays c.requires.acting reads c.in-Ask.is (sym c.in-Some.is ∙ c.in_ok-answer-in-Ask.ensures.answer) c.requires.fits)
    c.answered.ensures

pub returns-in-None : goal.returns-in-None
returns-in-None c =
    let reads : Reads c.args.self.now c.piece_in.result.now c.acts_in-acts.result.now c.index-acts-self.result =
    record { piece_is = c.piece_in.ensures; acts_are = c.acts_in-acts.ensures; within = c.if-self-acts.false; is = c.index-acts-self.is } in
    no_answer c.args.self.now c.answer_in.new.pads _ _ _ c.in-Ask.ask c.args.reply.now c.answer_in.ensures.stays c.requires.acting reads c.in-Ask.is
    (sym c.in-None.is ∙ c.in_ok-answer-in-Ask.ensures.answer) c.requires.fits
