use Rattle.std.proofs.Common.{◌≡◌}
use Rattle.turn_book.proofs.steps.await_turn.Given as goal

abbrev pub invariant-serving : goal.invariant-serving
invariant-serving g l = (l.seat.table_id ≡ l.initial.seat.table_id) × (l.seat.id ≡ l.initial.seat.id) × (l.seat.me ≡ l.initial.seat.me)
