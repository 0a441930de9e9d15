use Rattle.turn_book.proofs.Ends.{closes, closed_value, idle_at}
use Rattle.turn_book.proofs.pass.Book.close.Goals as goal

pub value_of-requires-clause-there : goal.value_of-requires-clause-there
value_of-requires-clause-there g c = let k = closes g.T.History.items g.T.History.origin g.T.History.number c.args.self.table.shared.key.passes c.args.pass.seat.id c.args.pass.seat.me.0 _ _ (idle_at _ _ _ c.requires.own.1 c.requires.idle).0 c.requires.all c.close_with.ensures.values.2 in (k.0, k.1)

pub returns-clause-origin : goal.returns-clause-origin
returns-clause-origin g c = let k = closed_value g.T.History.items g.T.History.origin g.T.History.number c.args.self.table.shared.key.passes c.args.pass.seat.id c.args.pass.seat.me.0 _ _ _ (idle_at _ _ _ c.requires.own.1 c.requires.idle).0 c.requires.all c.close_with.ensures.values.2 c.value_of.ensures in k.0

pub returns-clause-seen : goal.returns-clause-seen
returns-clause-seen g c = let k = closed_value g.T.History.items g.T.History.origin g.T.History.number c.args.self.table.shared.key.passes c.args.pass.seat.id c.args.pass.seat.me.0 _ _ _ (idle_at _ _ _ c.requires.own.1 c.requires.idle).0 c.requires.all c.close_with.ensures.values.2 c.value_of.ensures in k.1

pub returns-clause-mine : goal.returns-clause-mine
returns-clause-mine g c = let k = closed_value g.T.History.items g.T.History.origin g.T.History.number c.args.self.table.shared.key.passes c.args.pass.seat.id c.args.pass.seat.me.0 _ _ _ (idle_at _ _ _ c.requires.own.1 c.requires.idle).0 c.requires.all c.close_with.ensures.values.2 c.value_of.ensures in k.2

pub returns-clause-ended : goal.returns-clause-ended
returns-clause-ended g c = let k = closed_value g.T.History.items g.T.History.origin g.T.History.number c.args.self.table.shared.key.passes c.args.pass.seat.id c.args.pass.seat.me.0 _ _ _ (idle_at _ _ _ c.requires.own.1 c.requires.idle).0 c.requires.all c.close_with.ensures.values.2 c.value_of.ensures in k.3

pub returns-clause-others : goal.returns-clause-others
returns-clause-others g c = let k = closed_value g.T.History.items g.T.History.origin g.T.History.number c.args.self.table.shared.key.passes c.args.pass.seat.id c.args.pass.seat.me.0 _ _ _ (idle_at _ _ _ c.requires.own.1 c.requires.idle).0 c.requires.all c.close_with.ensures.values.2 c.value_of.ensures in k.4
