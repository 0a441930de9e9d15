use Rattle.step_core.specs.Inside.{cored}
use Rattle.step_core.proofs.Beginnings.{narrow-tables, short-scripts, new-follows, new-core}
use Rattle.step_core.proofs.stepping.Core.new.Goals as goal

pub first_state-requires-clause-narrow : goal.first_state-requires-clause-narrow
first_state-requires-clause-narrow c = narrow-tables c.args.w.now c.as_slice.result.now c.requires.valid c.as_slice.ensures

pub first_seats-requires-clause-short : goal.first_seats-requires-clause-short
first_seats-requires-clause-short c = short-scripts c.args.w.now c.as_slice-2.result.now c.requires.valid c.as_slice-2.ensures

pub invariant_of-result : goal.invariant_of-result
invariant_of-result c =
    new-core c.args.settings c.args.w.now c.in_ok-state.state c.in_ok-seats.seats.items c.requires.valid c.in_ok-seats.ensures.numbered
    (new-follows c.args.settings c.args.w.now c.in_ok-state.state c.in_ok-seats.seats.items c.as_slice.result.now c.as_slice-2.result.now c.requires.valid c.as_slice.ensures c.as_slice-2.ensures
    c.in_ok-state.ensures.first c.in_ok-state.ensures.turns c.in_ok-state.ensures.current c.in_ok-seats.ensures.sittings)

pub returns : goal.returns
unfolding cored
returns c = record {
  follows = (new-follows c.args.settings c.args.w.now c.in_ok-state.state c.in_ok-seats.seats.items c.as_slice.result.now c.as_slice-2.result.now c.requires.valid c.as_slice.ensures c.as_slice-2.ensures
      c.in_ok-state.ensures.first c.in_ok-state.ensures.turns c.in_ok-state.ensures.current c.in_ok-seats.ensures.sittings);
}
