use Rattle.std.proofs.Common.{◌≡◌, ap, ap₂, ◌∙◌, sym, ℕ, Bool, eq-eqb, ne_eqb}
use Rattle.sql_plan.specs.Walks.{narrowed}
use Rattle.sql_plan.proofs.spans.narrowed.Goals as goal

pub returns-then-bound-column : goal.returns-then-bound-column
unfolding narrowed
returns-then-bound-column c =
    let pair : ℕ → ℕ → ℕ × ℕ = λ a b. (a, b) in
    ap₂ pair c.max.ensures c.min.ensures
    ∙ sym (ap (λ (b : Bool). narrowed b c.args.bound.now c.args.ends) (eq-eqb c.args.bound.now.column.0 c.args.column.0 c.if-bound-column.true))

pub returns-else-bound-column : goal.returns-else-bound-column
unfolding narrowed
returns-else-bound-column c =
    sym (ap (λ (b : Bool). narrowed b c.args.bound.now c.args.ends) (ne_eqb c.args.bound.now.column.0 c.args.column.0 c.if-bound-column.false))
