use Rattle.std.proofs.Common.{ap}
use Rattle.turn_book.proofs.Calls.{took, held}
use Rattle.turn_book.proofs.steps.take.Goals as goal

pub read_count-requires-clause-turn : goal.read_count-requires-clause-turn
read_count-requires-clause-turn g c = let gains = c.await_turn.ensures.gains in (c.draw-ticket.result, g.T.History.items gains.0, ap (λ m. m.0.stage) gains.1)

pub take_out-requires-clause-held : goal.take_out-requires-clause-held
take_out-requires-clause-held g c = held g.T.History.items g.T.History.origin g.T.History.number c.args.seat.now.me c.draw-ticket.new.seat.me c.await_turn.new.seat.me c.read_count.new.seat.me c.draw-ticket.result c.requires.idle.1 c.draw-ticket.ensures.waits c.await_turn.ensures.gains (λ now turn. (c.read_count.ensures.seen c.draw-ticket.result now turn).0)

pub returns-clause-turn : goal.returns-clause-turn
returns-clause-turn g c = let k = took g.T.History.items g.T.History.origin g.T.History.number c.args.seat.now.me c.draw-ticket.new.seat.me c.await_turn.new.seat.me c.read_count.new.seat.me c.take_out.new.seat.me c.draw-ticket.result c.take_out.result c.draw-ticket.ensures.waits c.await_turn.ensures.gains (λ now turn. (c.read_count.ensures.seen c.draw-ticket.result now turn).0) c.take_out.ensures.value c.take_out.ensures.out in (k.0, k.1)

pub returns-clause-origin : goal.returns-clause-origin
returns-clause-origin g c = let k = took g.T.History.items g.T.History.origin g.T.History.number c.args.seat.now.me c.draw-ticket.new.seat.me c.await_turn.new.seat.me c.read_count.new.seat.me c.take_out.new.seat.me c.draw-ticket.result c.take_out.result c.draw-ticket.ensures.waits c.await_turn.ensures.gains (λ now turn. (c.read_count.ensures.seen c.draw-ticket.result now turn).0) c.take_out.ensures.value c.take_out.ensures.out in k.2

pub returns-clause-seen : goal.returns-clause-seen
returns-clause-seen g c = let k = took g.T.History.items g.T.History.origin g.T.History.number c.args.seat.now.me c.draw-ticket.new.seat.me c.await_turn.new.seat.me c.read_count.new.seat.me c.take_out.new.seat.me c.draw-ticket.result c.take_out.result c.draw-ticket.ensures.waits c.await_turn.ensures.gains (λ now turn. (c.read_count.ensures.seen c.draw-ticket.result now turn).0) c.take_out.ensures.value c.take_out.ensures.out in k.3

pub returns-clause-mine : goal.returns-clause-mine
returns-clause-mine g c = let k = took g.T.History.items g.T.History.origin g.T.History.number c.args.seat.now.me c.draw-ticket.new.seat.me c.await_turn.new.seat.me c.read_count.new.seat.me c.take_out.new.seat.me c.draw-ticket.result c.take_out.result c.draw-ticket.ensures.waits c.await_turn.ensures.gains (λ now turn. (c.read_count.ensures.seen c.draw-ticket.result now turn).0) c.take_out.ensures.value c.take_out.ensures.out in k.4
