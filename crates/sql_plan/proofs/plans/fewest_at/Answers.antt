use Rattle.std.proofs.Common.{◌≡◌, ◌∙◌, ap, sym, ℕ, ◌+◌, ◌<◌, ◌≤◌, length, arith}
use Rattle.sql_plan.specs.Plans.{passing_counts}
use Rattle.sql_plan.proofs.Choosing.{Best, best-first, best-stays, best-moves, best-all, counts-at, counts-length, moved}
use Rattle.sql_plan.proofs.plans.fewest_at.Goals as goal
use Rattle.sql_plan.proofs.plans.fewest_at.Goals.{then-count-fewest, else-count-fewest}

pub bounds-init : goal.bounds-init
bounds-init c =
    best-first (passing_counts c.args.table.now.shelf c.args.bounds.now) c.count_one-fewest.result
    (c.count_one-fewest.ensures ∙ counts-at c.args.table.now.shelf c.args.bounds.now 0 _ c.requires.some)

pub bounds-preserved : goal.bounds-preserved
bounds-preserved c =
    let counts = passing_counts c.args.table.now.shelf c.args.bounds.now in
    let is = c.count_one-count.ensures ∙ counts-at c.args.table.now.shelf c.args.bounds.now c.bounds.place _ c.bounds-test.true in
    elim c.if-count-fewest.branch [
      | then-count-fewest w ↦
          moved counts (c.bounds.place + 1) c.bounds.place c.count_one-count.result c.if-count-fewest.best c.if-count-fewest.fewest w.best-is w.fewest-is
          (best-moves counts c.bounds.place c.bounds.best c.bounds.fewest c.count_one-count.result c.bounds.invariant is w.if-count-fewest.true)
      | else-count-fewest w ↦
          moved counts (c.bounds.place + 1) c.bounds.best c.bounds.fewest c.if-count-fewest.best c.if-count-fewest.fewest w.best-is w.fewest-is
          (best-stays counts c.bounds.place c.bounds.best c.bounds.fewest c.count_one-count.result c.bounds.invariant is w.if-count-fewest.false)
    ]

pub returns : goal.returns
returns c =
    let counts = passing_counts c.args.table.now.shelf c.args.bounds.now in
    let many = counts-length c.args.table.now.shelf c.args.bounds.now in
    let all : c.bounds.place ≡ length counts = omega (arith, c.requires.some) in
    record { inside = omega (arith, c.bounds.invariant.inside); least = best-all counts c.bounds.place c.bounds.best c.bounds.fewest c.bounds.invariant all }
