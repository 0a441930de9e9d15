use Rattle.std.proofs.Common.{ℕ, ◌++◌, List, get_or, ap, ◌∙◌, arith}
use Rattle.path_code.specs.declared.moves.Recode.{Recode}
use Rattle.code_changes.specs.Compositions.{applied_both, moved_by, dropped_by}
use Rattle.summary.proofs.Steps.{one_step, all_done, moved_by-split, moved_by-none, moved_by-becomes, dropped_by-split, dropped_by-none, dropped_by-becomes}
use Rattle.summary.proofs.carrying.parts_of.Goals as goal

pub codes-init : goal.codes-init
codes-init c =
    let becomes = applied_both c.args.change.now c.args.next.now in (
      ap (λ (xs : List Recode). xs ++ moved_by becomes c.args.codes.now) c.new-moved.ensures.items,
      ap (λ (xs : List ℕ). xs ++ dropped_by becomes c.args.codes.now) c.new-dropped.ensures.items,
    )

pub codes-preserved : goal.codes-preserved
codes-preserved c =
    let becomes = applied_both c.args.change.now c.args.next.now in
    let codes = c.args.codes.now in
    let at = c.codes.at in
    let code = get_or codes at 0 in
    let is = c.after_both-becomes.ensures in
    let next_moved = c.in_ok-push_pair.ensures ∙ ap (λ (xs : List Recode). c.codes.moved.items ++ xs) (moved_by-becomes becomes code c.after_both-becomes.result is) in
    let next_dropped = c.in_ok-push_lost.ensures ∙ ap (λ (xs : List ℕ). c.codes.dropped.items ++ xs) (dropped_by-becomes becomes code c.after_both-becomes.result is) in (
      one_step (moved_by becomes) codes at 0 c.codes.moved.items c.push_pair.new.moved.items (omega (arith, c.codes-test.true)) (moved_by-split becomes) next_moved c.codes.invariant.0,
      one_step (dropped_by becomes) codes at 0 c.codes.dropped.items c.push_lost.new.dropped.items (omega (arith, c.codes-test.true)) (dropped_by-split becomes) next_dropped c.codes.invariant.1,
    )

pub returns-clause-moved : goal.returns-clause-moved
returns-clause-moved c =
    let becomes = applied_both c.args.change.now c.args.next.now in
    all_done (moved_by becomes) c.args.codes.now c.codes.at c.codes.moved.items c.codes-test.false (moved_by-none becomes) c.codes.invariant.0

pub returns-clause-dropped : goal.returns-clause-dropped
returns-clause-dropped c =
    let becomes = applied_both c.args.change.now c.args.next.now in
    all_done (dropped_by becomes) c.args.codes.now c.codes.at c.codes.dropped.items c.codes-test.false (dropped_by-none becomes) c.codes.invariant.1
