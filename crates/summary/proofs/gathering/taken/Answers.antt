use Rattle.std.proofs.Common.{◌≡◌, ap, ap₂, sym, subst, ◌∙◌}
use Rattle.tree_model.specs.Places.{IsIncreasing}
use Rattle.code_changes.specs.Changes.{put_all}
use Rattle.code_changes.specs.Normal.{olds}
use Rattle.summary.specs.Candidates.{taken}
use Rattle.summary.proofs.Steps.{IfOk-map}
use Rattle.summary.proofs.gathering.taken.Goals as goal

pub merged-requires-clause-first : goal.merged-requires-clause-first
unfolding olds
merged-requires-clause-first c = subst IsIncreasing (sym (c.deref.ensures.value ∙ c.in_ok-moved.ensures)) c.moved.ensures.old_increase

pub returns-clause-value : goal.returns-clause-value
unfolding taken
returns-clause-value c =
    let codes : c.deref.result.now ≡ olds c.args.change.now.moved = c.deref.ensures.value ∙ c.in_ok-moved.ensures ∙ ap olds c.moved.ensures.value in
    let is = ap₂ put_all codes c.dropped.ensures.value in
    IfOk-map c.merged.result (λ all. all.items ≡ put_all c.deref.result.now c.dropped.result.now) (λ all. all.items ≡ put_all (olds c.args.change.now.moved) c.args.change.now.dropped) (λ all e. e ∙ is) c.merged.ensures.value

pub returns-clause-increase : goal.returns-clause-increase
returns-clause-increase c = c.merged.ensures.increase
