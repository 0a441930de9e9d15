use Rattle.std.proofs.Common.{◌≡◌, ◌∙◌, ap, sym, Some}
use Rattle.workload.specs.declared.script.Piece.{Piece}
use Rattle.proxy.specs.Client.{request_for, step_for}
use Rattle.proxy.specs.Standing.{client_in, setting_in}
use Rattle.proxy.specs.Tasks.{last_task}
use Rattle.proxy.proofs.StandingLemmas.{placed_closing, tasks_opening, tasks_looking, stop_looking, tasks_closing, tasks_nothing, wants_first, wants_none}
use Rattle.proxy.proofs.dialogue.Dialogue.request.Goals as goal

pub piece_in-requires : goal.piece_in-requires
piece_in-requires c = placed_closing c.args.self.now c.in-Closing.is c.requires

pub returns-in-Opening-clause-wants : goal.returns-in-Opening-clause-wants
unfolding request_for
returns-in-Opening-clause-wants c =
    sym (wants_first (setting_in c.args.self.now) (client_in c.args.self.now) _ _ (tasks_opening c.args.self.now c.in-Opening.is))

pub returns-in-Looking-clause-wants : goal.returns-in-Looking-clause-wants
unfolding request_for
returns-in-Looking-clause-wants c =
    ap Some (c.walk_step.ensures
    ∙ ap (λ stop. step_for c.in-Looking.constant stop c.in-Looking.table c.in-Looking.column)
    (sym (stop_looking c.args.self.now c.in-Looking.table c.in-Looking.column c.in-Looking.constant c.in-Looking.stop c.in-Looking.is)))
    ∙ sym (wants_first (setting_in c.args.self.now) (client_in c.args.self.now) _ _
    (tasks_looking c.args.self.now c.in-Looking.table c.in-Looking.column c.in-Looking.constant c.in-Looking.stop c.in-Looking.is))

pub returns-in-Closing-clause-wants : goal.returns-in-Closing-clause-wants
returns-in-Closing-clause-wants c =
    ap Some (sym (c.last_request.ensures (setting_in c.args.self.now) (client_in c.args.self.now))
    ∙ ap (λ (p : Piece). request_for (setting_in c.args.self.now) (client_in c.args.self.now) (last_task p)) c.piece_in.ensures)
    ∙ sym (wants_first (setting_in c.args.self.now) (client_in c.args.self.now) _ _ (tasks_closing c.args.self.now c.in-Closing.is))

pub returns-in-Nothing-clause-wants : goal.returns-in-Nothing-clause-wants
returns-in-Nothing-clause-wants c =
    sym (wants_none (setting_in c.args.self.now) (client_in c.args.self.now) (tasks_nothing c.args.self.now c.in-Nothing.is))
