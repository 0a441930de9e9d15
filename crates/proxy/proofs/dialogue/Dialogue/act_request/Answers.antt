use Rattle.std.proofs.Common.{◌≡◌, ◌∙◌, ap, sym, Some, map, length, arith}
use Rattle.value_cipher.specs.Cipher.{sealed}
use Rattle.workload.specs.declared.script.Piece.{Piece}
use Rattle.proxy.specs.Client.{request_for, cells_from}
use Rattle.proxy.specs.Standing.{client_in, setting_in}
use Rattle.proxy.specs.Tasks.{last_task}
use Rattle.proxy.proofs.StandingLemmas.{placed_acting, tasks_past, wants_first}
use Rattle.proxy.proofs.RequestLemmas.{Reads, wants_row, wants_ask, row-fits}
use Rattle.proxy.proofs.dialogue.Dialogue.act_request.Goals as goal

pub piece_in-piece-requires : goal.piece_in-piece-requires
piece_in-piece-requires c = placed_acting c.args.self.now c.requires.acting c.requires.fits

pub returns-then-self-acts-clause-wants : goal.returns-then-self-acts-clause-wants
returns-then-self-acts-clause-wants c =
    wants_first (setting_in c.args.self.now) (client_in c.args.self.now) _ _
    (tasks_past c.args.self.now c.piece_in-piece.result.now c.acts_in-acts.result.now c.requires.acting c.piece_in-piece.ensures c.acts_in-acts.ensures c.if-self-acts.true)
    ∙ ap Some (ap (λ (p : Piece). request_for (setting_in c.args.self.now) (client_in c.args.self.now) (last_task p)) (sym c.piece_in-piece.ensures)
    ∙ c.last_request.ensures (setting_in c.args.self.now) (client_in c.args.self.now))

pub sealed_row-requires-clause-room : goal.sealed_row-requires-clause-room
sealed_row-requires-clause-room c =
    let reads : Reads c.args.self.now c.piece_in-piece.result.now c.acts_in-acts.result.now c.index-acts-self.result =
    record { piece_is = c.piece_in-piece.ensures; acts_are = c.acts_in-acts.ensures; within = c.if-self-acts.false; is = c.index-acts-self.is } in
    let fits = row-fits c.args.self.now _ _ _ c.in-Insert.table c.in-Insert.values reads c.in-Insert.is c.requires.fits in
    omega (arith, fits, ap length c.as_slice-values.ensures)

pub returns-in_ok-bodies-in-Insert-clause-wants : goal.returns-in_ok-bodies-in-Insert-clause-wants
unfolding setting_in
returns-in_ok-bodies-in-Insert-clause-wants c =
    let reads : Reads c.args.self.now c.piece_in-piece.result.now c.acts_in-acts.result.now c.index-acts-self.result =
    record { piece_is = c.piece_in-piece.ensures; acts_are = c.acts_in-acts.ensures; within = c.if-self-acts.false; is = c.index-acts-self.is } in
    wants_row c.args.self.now _ _ _ c.in-Insert.table c.in-Insert.values c.in_ok-bodies-in-Insert.bodies c.requires.acting reads c.in-Insert.is
    (c.in_ok-bodies-in-Insert.ensures.bodies
    ∙ ap (λ l. map (sealed c.args.self.now.pads) (cells_from (setting_in c.args.self.now) c.args.self.now.seals l)) c.as_slice-values.ensures)

pub returns-in_ok-asked-in-Ask-clause-wants : goal.returns-in_ok-asked-in-Ask-clause-wants
returns-in_ok-asked-in-Ask-clause-wants c =
    let reads : Reads c.args.self.now c.piece_in-piece.result.now c.acts_in-acts.result.now c.index-acts-self.result =
    record { piece_is = c.piece_in-piece.ensures; acts_are = c.acts_in-acts.ensures; within = c.if-self-acts.false; is = c.index-acts-self.is } in
    wants_ask c.args.self.now _ _ _ c.in-Ask.ask c.in_ok-asked-in-Ask.field-0 c.requires.acting reads c.in-Ask.is c.in_ok-asked-in-Ask.ensures
