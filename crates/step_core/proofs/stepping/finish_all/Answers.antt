use Rattle.std.proofs.Common.{◌≡◌, ◌∙◌, ◌++◌, ◌∷◌, [], List, ap, sym, subst, map, arith}
use Rattle.std.proofs.lemmas.List.{nil_from_length}
use Rattle.mope_base.specs.Lists.{Each}
use Rattle.step_core.specs.Inside.{sitting_of}
use Rattle.step_core.specs.Sittings.{HasFinished, finished_of}
use Rattle.step_core.specs.declared.seat.Seat.{Seat}
use Rattle.step_core.proofs.SeatLists.{all-left, first-finished, one-more, none-left}
use Rattle.step_core.proofs.stepping.finish_all.Goals as goal

pub seats-init : goal.seats-init
seats-init c = all-left c.args.seats.items c.new-finished.result.items c.into_iter-seat-iterator.result.rest.items c.new-finished.ensures.items c.into_iter-seat-iterator.ensures.into_iter_gives.0 c.requires

pub finish-requires : goal.finish-requires
finish-requires c = first-finished c.seats.seat-iterator.rest.items c.next.new.self.rest.items c.in-Some.seat c.in-Some.ensures.steps.0 c.seats.invariant.0

pub seats-preserved : goal.seats-preserved
seats-preserved c =
    one-more c.args.seats.items c.seats.finished.items c.push.new.self.items c.seats.seat-iterator.rest.items c.next.new.self.rest.items c.in-Some.seat c.finish.result c.finish.ensures c.in_ok-push.ensures.items c.in-Some.ensures.steps.0
    c.seats.invariant.0 c.seats.invariant.1

pub returns : goal.returns
returns c =
    c.from_vec.ensures
    ∙ none-left c.args.seats.items c.seats.finished.items c.seats.seat-iterator.rest.items (nil_from_length c.seats.seat-iterator.rest.items (omega (arith, c.in-None.ensures.steps, c.seats.seat-iterator.rest.ok.0))) c.seats.invariant.1
