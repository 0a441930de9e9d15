use Rattle.std.proofs.Common.{◌≡◌, ◌∙◌, ap, sym, List, [], ◌∷◌, drop}
use Rattle.workload.specs.declared.script.Piece.{Piece}
use Rattle.proxy.specs.Allowed.{fits_first, fits_task, leads_with}
use Rattle.proxy.specs.Standing.{client_in, acts_at}
use Rattle.proxy.specs.Tasks.{Task, acts_of, last_task}
use Rattle.proxy.proofs.StandingLemmas.{placed_acting, placed_closing, tasks_opening, tasks_looking, stop_looking, tasks_acting, tasks_closing, tasks_nothing}
use Rattle.proxy.proofs.dialogue.Dialogue.fits_task.Goals as goal

pub piece_in-requires : goal.piece_in-requires
piece_in-requires c = placed_acting c.args.self.now c.in-Acting.is c.requires

pub piece_in-requires-in-Closing : goal.piece_in-requires-in-Closing
piece_in-requires-in-Closing c = placed_closing c.args.self.now c.in-Closing.is c.requires

pub returns-in-Opening : goal.returns-in-Opening
unfolding fits_first fits_task
returns-in-Opening c =
    c.opens_with.ensures
    ∙ sym (ap (λ l. fits_first (client_in c.args.self.now).looking l c.args.reply.now) (tasks_opening c.args.self.now c.in-Opening.is))

pub returns-in-Looking : goal.returns-in-Looking
unfolding fits_first fits_task
returns-in-Looking c =
    c.leads_with.ensures
    ∙ sym (ap (λ l. fits_first (client_in c.args.self.now).looking l c.args.reply.now) (tasks_looking c.args.self.now c.in-Looking.table c.in-Looking.column c.in-Looking.constant c.in-Looking.stop c.in-Looking.is)
    ∙ ap (λ stop. leads_with c.in-Looking.constant stop c.args.reply.now) (stop_looking c.args.self.now c.in-Looking.table c.in-Looking.column c.in-Looking.constant c.in-Looking.stop c.in-Looking.is))

pub returns-in-Acting : goal.returns-in-Acting
unfolding fits_first
returns-in-Acting c =
    sym (c.act_fits_at.ensures (client_in c.args.self.now).looking)
    ∙ ap (λ (p : Piece). fits_first (client_in c.args.self.now).looking (acts_at (drop c.args.self.now.act (acts_of p)) (last_task p ∷ [])) c.args.reply.now) c.piece_in.ensures
    ∙ sym (ap (λ l. fits_first (client_in c.args.self.now).looking l c.args.reply.now) (tasks_acting c.args.self.now c.in-Acting.is))

pub returns-in-Closing : goal.returns-in-Closing
unfolding fits_first
returns-in-Closing c =
    sym (c.last_fits.ensures (client_in c.args.self.now).looking)
    ∙ ap (λ (p : Piece). fits_task (client_in c.args.self.now).looking (last_task p) c.args.reply.now) c.piece_in-in-Closing.ensures
    ∙ sym (ap (λ l. fits_first (client_in c.args.self.now).looking l c.args.reply.now) (tasks_closing c.args.self.now c.in-Closing.is))

pub returns-in-Nothing : goal.returns-in-Nothing
unfolding fits_first
returns-in-Nothing c =
    sym (ap (λ l. fits_first (client_in c.args.self.now).looking l c.args.reply.now) (tasks_nothing c.args.self.now c.in-Nothing.is))
