use Rattle.std.proofs.Common.{◌≡◌, ◌∙◌, ◌<◌, ◌^◌, List, length, map, take, ◌+◌, refl, sym, subst}
use Rattle.std.specs.List.{sum_by}
use Rattle.workload.specs.Validity.{numbers_inserted}
use Rattle.workload.specs.declared.script.Piece.{Piece}
use Rattle.step_core.specs.Inside.{AreNumbered, sitting_of}
use Rattle.step_core.specs.Sittings.{IsShort, first_sittings}
use Rattle.step_core.specs.declared.seat.Seat.{Seat}
use Rattle.step_core.proofs.Started.{each-at, one-longer, seats-more, seats-numbered, nothing-yet}
use Rattle.step_core.proofs.starting.first_seats.Goals as goal

pub sessions-init : goal.sessions-init
sessions-init c = nothing-yet c.args.settings c.new-seats.result.items c.new-seats.ensures.items

pub first_seat-requires-clause-pieces : goal.first_seat-requires-clause-pieces
first_seat-requires-clause-pieces c =
    subst (λ (l : List Piece). length l < 2 ^ 32) (sym (c.as_slice.ensures ∙ c.index-scripts-i.is)) (each-at IsShort c.args.scripts.now c.sessions.i c.index-scripts-i.result c.requires.short c.sessions-test.true).0

pub first_seat-requires-clause-numbers : goal.first_seat-requires-clause-numbers
first_seat-requires-clause-numbers c =
    subst (λ (l : List Piece). sum_by numbers_inserted l < 2 ^ 32) (sym (c.as_slice.ensures ∙ c.index-scripts-i.is)) (each-at IsShort c.args.scripts.now c.sessions.i c.index-scripts-i.result c.requires.short c.sessions-test.true).1

pub sessions-preserved : goal.sessions-preserved
sessions-preserved c =
    subst (λ (l : List Seat). (map sitting_of l ≡ first_sittings c.args.settings 1 (take (c.sessions.i + 1) c.args.scripts.now)) × AreNumbered 1 l × (length l ≡ c.sessions.i + 1)) (sym c.in_ok-push.ensures.items) (
      seats-more c.args.settings c.args.scripts.now c.sessions.i c.index-scripts-i.result c.as_slice.result.now c.sessions.seats.items c.in_ok-seat.seat (record { 0 = c.sessions.i + 1 }) c.sessions-test.true c.index-scripts-i.is c.as_slice.ensures refl
          c.sessions.invariant.0 c.in_ok-seat.ensures.sitting,
      seats-numbered c.sessions.i c.sessions.seats.items c.in_ok-seat.seat (record { 0 = c.sessions.i + 1 }) c.sessions.invariant.1 c.sessions.invariant.2 c.in_ok-seat.ensures.session refl c.in_ok-seat.ensures.said,
      one-longer c.sessions.i c.sessions.seats.items c.in_ok-seat.seat c.sessions.invariant.2,
    )
