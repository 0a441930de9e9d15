use Rattle.std.proofs.Common.{◌≡◌, ap₂, sym, subst, ◌∙◌}
use Rattle.tree_model.specs.Places.{IsIncreasing}
use Rattle.code_changes.specs.Changes.{put_all}
use Rattle.summary.specs.Candidates.{taken, given, others, candidates}
use Rattle.summary.proofs.Covering.{IsIncreasing-others}
use Rattle.summary.proofs.Steps.{IfOk-map}
use Rattle.summary.proofs.gathering.candidates.Goals as goal

pub merged-requires-clause-second : goal.merged-requires-clause-second
merged-requires-clause-second c =
    let later = subst IsIncreasing (sym c.deref-2.ensures.value) c.in_ok-later.ensures.increase in
    subst IsIncreasing (sym (c.deref-4.ensures.value ∙ c.in_ok-standing.ensures)) (IsIncreasing-others c.deref.result.now c.deref-2.result.now later)

pub returns : goal.returns
unfolding candidates
returns c =
    let s = c.args.change.now in
    let next = c.args.next.now in
    let between = c.deref.ensures.value ∙ c.in_ok-between.ensures.value in
    let later = c.deref-2.ensures.value ∙ c.in_ok-later.ensures.value in
    let earlier = c.deref-3.ensures.value ∙ c.in_ok-earlier.ensures.value in
    let standing = c.deref-4.ensures.value ∙ c.in_ok-standing.ensures ∙ ap₂ others between later in
    let is = ap₂ put_all earlier standing in
    IfOk-map c.merged.result (λ all. all.items ≡ put_all c.deref-3.result.now c.deref-4.result.now) (λ all. all.items ≡ put_all (taken s) (others (given s) (taken next))) (λ all e. e ∙ is) c.merged.ensures.value
