use Rattle.std.proofs.Common.{◌≡◌, ◌∙◌, ap, sym, ℕ, ◌+◌, ◌<◌, length, take, arith}
use Rattle.std.specs.Option.{option_to_list}
use Rattle.sql_plan.specs.Walks.{within}
use Rattle.sql_plan.proofs.Steps.{take-more, within-all}
use Rattle.sql_plan.proofs.Pages.{length-some, length-none}
use Rattle.sql_plan.proofs.walking.count_within.Goals as goal
use Rattle.sql_plan.proofs.walking.count_within.Goals.{then-is_some, else-is_some}

pub overflow_add-count : goal.overflow_add-count
overflow_add-count c = omega (arith, c.places.invariant.few, c.places-test.true)

pub places-init : goal.places-init
places-init c = record { few = omega arith; so_far = sym (ap length c.requires.before) }

pub places-preserved : goal.places-preserved
places-preserved c =
    let es = c.args.index.now.entries in
    let lt : c.places.place < length es = omega (arith, c.requires.inside) in
    let more = ap length (take-more c.args.table.now.shelf c.args.bounds.now es c.places.place (option_to_list c.entry_within.result) lt c.entry_within.ensures) in
    let before = within c.args.table.now.shelf c.args.bounds.now (take c.places.place es) in
    elim c.if-is_some.branch [
      | then-is_some w ↦
          let one = length-some before c.entry_within.result (sym c.is_some.ensures ∙ w.if-is_some.true) in
          record { few = omega (arith, w.count-is, c.places.invariant.few); so_far = omega (arith, w.count-is, c.places.invariant.so_far, more, one) }
      | else-is_some w ↦
          let none = length-none before c.entry_within.result (sym c.is_some.ensures ∙ w.if-is_some.false) in
          record { few = omega (arith, w.count-is, c.places.invariant.few); so_far = omega (arith, w.count-is, c.places.invariant.so_far, more, none) }
    ]

pub returns : goal.returns
returns c =
    let same : c.places.place ≡ c.args.end = omega (arith, c.requires.order) in
    c.places.invariant.so_far
    ∙ ap (λ (n : ℕ). length (within c.args.table.now.shelf c.args.bounds.now (take n c.args.index.now.entries))) same
    ∙ ap length (within-all c.args.table.now.shelf c.args.bounds.now c.args.index.now.entries c.args.end c.requires.after)
