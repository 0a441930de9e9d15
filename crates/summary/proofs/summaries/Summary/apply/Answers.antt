use Rattle.std.proofs.Common.{◌≡◌, ℕ, List, Some, ap, sym, ◌∙◌}
use Rattle.path_code.specs.declared.moves.Recode.{Recode}
use Rattle.path_code.specs.Sums.{Sum}
use Rattle.tree_model.specs.Places.{holds}
use Rattle.code_changes.specs.Changes.{new_code}
use Rattle.code_changes.proofs.After.{applied-dropped, applied-kept}
use Rattle.summary.proofs.summaries.Summary.apply.Goals as goal

pub returns-then-holds-clause-value : goal.returns-then-holds-clause-value
returns-then-holds-clause-value c =
    let drops : c.deref.result.now ≡ c.args.self.now.dropped = c.deref.ensures.value ∙ ap (λ (s : Sum). s.dropped) c.self.view_is in
    sym (applied-dropped c.args.self.now c.args.enc (ap (holds c.args.enc) (sym drops) ∙ sym c.holds.ensures ∙ c.if-holds.true))

pub returns-clause-value : goal.returns-clause-value
returns-clause-value c =
    let drops : c.deref.result.now ≡ c.args.self.now.dropped = c.deref.ensures.value ∙ ap (λ (s : Sum). s.dropped) c.self.view_is in
    let pairs : c.deref-2.result.now ≡ c.args.self.now.moved = c.deref-2.ensures.value ∙ ap (λ (s : Sum). s.moved) c.self.view_is in
    let new = c.new_code.ensures ∙ ap (λ (moved : List Recode). new_code moved c.args.enc) pairs in
    ap (λ (n : ℕ). Some n) new
    ∙ sym (applied-kept c.args.self.now c.args.enc (ap (holds c.args.enc) (sym drops) ∙ sym c.holds.ensures ∙ c.if-holds.false))
