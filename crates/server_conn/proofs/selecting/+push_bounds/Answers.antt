-- The first condition takes one place or two, and the rest is a selection of the rest.
use Rattle.std.proofs.Common.{◌∙◌, ◌≡◌, ◌≤◌, ◌<◌, ℕ, List, length, ap, sym, arith, drop, take}
use Rattle.std.proofs.lemmas.List.{take_rest, length-drop}
use Rattle.server_conn.specs.Asking.{IsMarkOn}
use Rattle.server_conn.proofs.Coding.{bounds-none, bounds-once, bounds-twice, each-at, one-there, two-there, low-known, fits-once, fits-twice}
use Rattle.server_conn.proofs.selecting.+push_bounds.Goals as goal

pub bounds-marks-0 : goal.bounds-marks-0
bounds-marks-0 t c = let two = two-there c.args.table.now.shelf c.args.marks.now c.args.conds.now (0, 0) c.requires c.in-len1-up.len_at_least c.if-cond-eq5.true in omega (arith, two)

pub bounds-marks-1 : goal.bounds-marks-1
bounds-marks-1 t c = let two = two-there c.args.table.now.shelf c.args.marks.now c.args.conds.now (0, 0) c.requires c.in-len1-up.len_at_least c.if-cond-eq5.true in omega (arith, two)

pub bound_between-requires-clause-low : goal.bound_between-requires-clause-low
bound_between-requires-clause-low t c =
    let two = two-there c.args.table.now.shelf c.args.marks.now c.args.conds.now (0, 0) c.requires c.in-len1-up.len_at_least c.if-cond-eq5.true in
    each-at (IsMarkOn c.args.table.now.shelf) c.args.marks.now 0 _ c.requires.on (omega (arith, two))

pub bound_between-requires-clause-high : goal.bound_between-requires-clause-high
bound_between-requires-clause-high t c =
    let two = two-there c.args.table.now.shelf c.args.marks.now c.args.conds.now (0, 0) c.requires c.in-len1-up.len_at_least c.if-cond-eq5.true in
    each-at (IsMarkOn c.args.table.now.shelf) c.args.marks.now 1 _ c.requires.on (omega (arith, two))

pub slice_bounds-push_bounds-count : goal.slice_bounds-push_bounds-count
slice_bounds-push_bounds-count t c = two-there c.args.table.now.shelf c.args.marks.now c.args.conds.now (0, 0) c.requires c.in-len1-up.len_at_least c.if-cond-eq5.true

pub slice_bounds-push_bounds-start : goal.slice_bounds-push_bounds-start
slice_bounds-push_bounds-start t c = let two = two-there c.args.table.now.shelf c.args.marks.now c.args.conds.now (0, 0) c.requires c.in-len1-up.len_at_least c.if-cond-eq5.true in omega (arith, two)

pub push_bounds-requires : goal.push_bounds-requires
push_bounds-requires t c =
    let rest = ap length (take_rest c.args.conds.now 1) ∙ length-drop 1 c.args.conds.now in (
      omega (arith, rest, c.in-len1-up.len_at_least, c.decreases),
      fits-twice c.args.table.now.shelf c.args.marks.now _ c.args.conds.now _ (0, 0) c.requires c.in-len1-up.len_at_least c.if-cond-eq5.true (take_rest c.args.conds.now 1) (take_rest c.args.marks.now 2),
    )

pub returns-then-cond-eq5 : goal.returns-then-cond-eq5
returns-then-cond-eq5 t c =
    let two = two-there c.args.table.now.shelf c.args.marks.now c.args.conds.now (0, 0) c.requires c.in-len1-up.len_at_least c.if-cond-eq5.true in
    bounds-twice c.args.table.now.shelf c.args.conds.now _ c.args.marks.now _ c.args.bounds.now.items c.push.new.self.items c.push_bounds.new.bounds.items c.bound_between.result (0, 0) _ c.in-len1-up.len_at_least two c.if-cond-eq5.true c.bound_between.ensures c.in_ok-push-in-len1-up.ensures.items (take_rest c.args.conds.now 1) (take_rest c.args.marks.now 2) c.in_ok-push_bounds-in-len1-up.ensures

pub bounds-marks-0-in-len1-up : goal.bounds-marks-0-in-len1-up
bounds-marks-0-in-len1-up t c = let one = one-there c.args.table.now.shelf c.args.marks.now c.args.conds.now (0, 0) c.requires c.in-len1-up.len_at_least c.if-cond-eq5.false in omega (arith, one)

pub bound_at-requires-clause-known : goal.bound_at-requires-clause-known
bound_at-requires-clause-known t c = low-known c.args.table.now.shelf c.args.marks.now c.args.conds.now (0, 0) c.requires c.in-len1-up.len_at_least c.if-cond-eq5.false

pub bound_at-requires-clause-mark : goal.bound_at-requires-clause-mark
bound_at-requires-clause-mark t c =
    let one = one-there c.args.table.now.shelf c.args.marks.now c.args.conds.now (0, 0) c.requires c.in-len1-up.len_at_least c.if-cond-eq5.false in
    each-at (IsMarkOn c.args.table.now.shelf) c.args.marks.now 0 _ c.requires.on (omega (arith, one))

pub slice_bounds-push_bounds-count-in-len1-up : goal.slice_bounds-push_bounds-count-in-len1-up
slice_bounds-push_bounds-count-in-len1-up t c = one-there c.args.table.now.shelf c.args.marks.now c.args.conds.now (0, 0) c.requires c.in-len1-up.len_at_least c.if-cond-eq5.false

pub slice_bounds-push_bounds-start-in-len1-up : goal.slice_bounds-push_bounds-start-in-len1-up
slice_bounds-push_bounds-start-in-len1-up t c = let one = one-there c.args.table.now.shelf c.args.marks.now c.args.conds.now (0, 0) c.requires c.in-len1-up.len_at_least c.if-cond-eq5.false in omega (arith, one)

pub push_bounds-requires-in-len1-up : goal.push_bounds-requires-in-len1-up
push_bounds-requires-in-len1-up t c =
    let rest = ap length (take_rest c.args.conds.now 1) ∙ length-drop 1 c.args.conds.now in (
      omega (arith, rest, c.in-len1-up.len_at_least, c.decreases),
      fits-once c.args.table.now.shelf c.args.marks.now _ c.args.conds.now _ (0, 0) c.requires c.in-len1-up.len_at_least c.if-cond-eq5.false (take_rest c.args.conds.now 1) (take_rest c.args.marks.now 1),
    )

pub returns-in-empty : goal.returns-in-empty
returns-in-empty t c = bounds-none c.args.table.now.shelf c.args.conds.now c.args.marks.now c.args.bounds.now.items c.in-empty.len_below

pub returns-in_ok-push_bounds-in-len1-up-2 : goal.returns-in_ok-push_bounds-in-len1-up-2
returns-in_ok-push_bounds-in-len1-up-2 t c =
    let one = one-there c.args.table.now.shelf c.args.marks.now c.args.conds.now (0, 0) c.requires c.in-len1-up.len_at_least c.if-cond-eq5.false in
    bounds-once c.args.table.now.shelf c.args.conds.now _ c.args.marks.now _ c.args.bounds.now.items c.push-in-len1-up.new.self.items c.push_bounds-in-len1-up.new.bounds.items c.bound_at.result (0, 0) _ c.in-len1-up.len_at_least one c.if-cond-eq5.false c.bound_at.ensures c.in_ok-push-in-len1-up-2.ensures.items (take_rest c.args.conds.now 1) (take_rest c.args.marks.now 1) c.in_ok-push_bounds-in-len1-up-2.ensures
