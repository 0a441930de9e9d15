use Rattle.std.proofs.Common.{◌≡◌, ℕ, List, ap, sym, subst, ◌∙◌}
use Rattle.tree_model.specs.Places.{IsIncreasing}
use Rattle.path_code.specs.Sums.{Sum}
use Rattle.code_changes.specs.Changes.{images}
use Rattle.code_changes.specs.Compositions.{FitsInTurn, applied_both, moved_by, dropped_by, both_on}
use Rattle.code_changes.specs.Normal.{IsNormal}
use Rattle.code_changes.proofs.Both.{both_normal, IsIncreasing-images_added}
use Rattle.summary.proofs.Covering.{composed_is, added_after}
use Rattle.summary.proofs.composing.composed.Goals as goal

kept_is : (c : goal.After-deref-2) → c.deref-2.result.now ≡ images c.args.next.now c.args.change.now.added
kept_is c = c.deref-2.ensures.value ∙ c.in_ok-kept.ensures ∙ ap (images c.args.next.now) c.added.ensures.value

pub merged-requires-clause-second : goal.merged-requires-clause-second
merged-requires-clause-second c =
    subst IsIncreasing (sym (kept_is c)) (IsIncreasing-images_added c.args.change.now c.args.next.now c.requires.in_turn.0 c.added.ensures.normal c.requires.in_turn.1)

parts_are : (c : goal.In_ok-added) (codes : List ℕ) → FitsInTurn c.args.change.now c.args.next.now codes → (let both : Sum = record { moved = c.in_ok-parts.parts.moved.items; dropped = c.in_ok-parts.parts.dropped.items; added = c.in_ok-added.added.items } in both) ≡ both_on c.args.change.now c.args.next.now codes
parts_are c codes fit =
    let s = c.args.change.now in
    let next = c.args.next.now in
    let becomes = applied_both s next in
    let kept = c.deref-2.ensures.value ∙ c.in_ok-kept.ensures ∙ ap (images next) c.added.ensures.value in
    composed_is s next codes c.in_ok-codes.codes.items c.in_ok-parts.parts.moved.items c.in_ok-parts.parts.dropped.items c.in_ok-added.added.items c.added.ensures.normal c.added-2.ensures.normal fit c.in_ok-codes.ensures
    (c.in_ok-parts.ensures.moved ∙ ap (moved_by becomes) c.deref.ensures.value)
    (c.in_ok-parts.ensures.dropped ∙ ap (dropped_by becomes) c.deref.ensures.value)
    (c.in_ok-added.ensures.value ∙ added_after s next c.added-2.result.now c.deref-2.result.now c.added-2.ensures.value kept)

pub of-requires : goal.of-requires
of-requires c =
    let codes = c.requires.in_turn.0 in
    let fit = c.requires.in_turn.1 in
    subst IsNormal (sym (parts_are c codes fit)) (both_normal c.args.change.now c.args.next.now codes c.added.ensures.normal fit)

pub returns : goal.returns
returns c = λ codes fit.
    let s = c.args.change.now in
    let next = c.args.next.now in
    let becomes = applied_both s next in
    let kept = c.deref-2.ensures.value ∙ c.in_ok-kept.ensures ∙ ap (images next) c.added.ensures.value in
    c.of.ensures
    ∙ composed_is s next codes c.in_ok-codes.codes.items c.in_ok-parts.parts.moved.items c.in_ok-parts.parts.dropped.items c.in_ok-added.added.items c.added.ensures.normal c.added-2.ensures.normal fit c.in_ok-codes.ensures
    (c.in_ok-parts.ensures.moved ∙ ap (moved_by becomes) c.deref.ensures.value)
    (c.in_ok-parts.ensures.dropped ∙ ap (dropped_by becomes) c.deref.ensures.value)
    (c.in_ok-added.ensures.value ∙ added_after s next c.added-2.result.now c.deref-2.result.now c.added-2.ensures.value kept)
