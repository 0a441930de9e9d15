use Rattle.std.proofs.Common.{◌≡◌, ap, ap₂, sym, subst, ◌∙◌}
use Rattle.tree_model.specs.Places.{IsIncreasing}
use Rattle.code_changes.specs.Changes.{put_all}
use Rattle.code_changes.specs.Normal.{news}
use Rattle.summary.specs.Candidates.{given}
use Rattle.summary.proofs.Steps.{IfOk-map}
use Rattle.summary.proofs.gathering.given.Goals as goal

pub merged-requires-clause-first : goal.merged-requires-clause-first
unfolding news
merged-requires-clause-first c = subst IsIncreasing (sym (c.deref.ensures.value ∙ c.in_ok-moved.ensures)) c.moved.ensures.new_increase

pub returns-clause-value : goal.returns-clause-value
unfolding given
returns-clause-value c =
    let codes : c.deref.result.now ≡ news c.args.change.now.moved = c.deref.ensures.value ∙ c.in_ok-moved.ensures ∙ ap news c.moved.ensures.value in
    let is = ap₂ put_all codes c.added.ensures.value in
    IfOk-map c.merged.result (λ all. all.items ≡ put_all c.deref.result.now c.added.result.now) (λ all. all.items ≡ put_all (news c.args.change.now.moved) c.args.change.now.added) (λ all e. e ∙ is) c.merged.ensures.value

pub returns-clause-increase : goal.returns-clause-increase
returns-clause-increase c = c.merged.ensures.increase
