use Rattle.std.proofs.Common.{◌≡◌, ◌∙◌, ap, sym}
use Rattle.workload.specs.declared.script.Piece.{Piece}
use Rattle.proxy.specs.Party.{wanted, first_want, want_for}
use Rattle.proxy.specs.Tasks.{last_task}
use Rattle.proxy.proofs.StandingLemmas.{placed_acting, placed_closing, tasks_opening, tasks_looking, tasks_closing, tasks_nothing, tasks_past, want_acts}
use Rattle.proxy.proofs.dialogue.Dialogue.want.Goals as goal

pub piece_in-piece-requires : goal.piece_in-piece-requires
piece_in-piece-requires c = placed_acting c.args.self.now c.in-Acting.is c.requires

pub piece_in-requires : goal.piece_in-requires
piece_in-requires c = placed_closing c.args.self.now c.in-Closing.is c.requires

pub returns-in-Opening : goal.returns-in-Opening
unfolding wanted first_want want_for
returns-in-Opening c = sym (ap first_want (tasks_opening c.args.self.now c.in-Opening.is))

pub returns-in-Looking : goal.returns-in-Looking
unfolding wanted first_want want_for
returns-in-Looking c =
    sym (ap first_want (tasks_looking c.args.self.now c.in-Looking.table c.in-Looking.column c.in-Looking.constant c.in-Looking.stop c.in-Looking.is))

pub returns-then-self-acts_in : goal.returns-then-self-acts_in
returns-then-self-acts_in c =
    sym (want_acts c.args.self.now c.piece_in-piece.result.now c.acts_in.result.now c.in-Acting.is c.piece_in-piece.ensures c.acts_in.ensures c.if-self-acts_in.true)

pub returns-else-self-acts_in : goal.returns-else-self-acts_in
unfolding wanted first_want
returns-else-self-acts_in c =
    c.last_want.ensures ∙ ap (λ (p : Piece). want_for (last_task p)) c.piece_in-piece.ensures
    ∙ sym (ap first_want (tasks_past c.args.self.now c.piece_in-piece.result.now c.acts_in.result.now c.in-Acting.is c.piece_in-piece.ensures c.acts_in.ensures c.if-self-acts_in.false))

pub returns-in-Closing : goal.returns-in-Closing
unfolding wanted first_want
returns-in-Closing c =
    c.last_want-in-Closing.ensures ∙ ap (λ (p : Piece). want_for (last_task p)) c.piece_in.ensures
    ∙ sym (ap first_want (tasks_closing c.args.self.now c.in-Closing.is))

pub returns-in-Nothing : goal.returns-in-Nothing
unfolding wanted first_want
returns-in-Nothing c = sym (ap first_want (tasks_nothing c.args.self.now c.in-Nothing.is))
