use Rattle.std.proofs.Common.{◌≡◌, ap, ◌∙◌, sym, ℕ, drop, arith}
use Rattle.std.proofs.Math.Seq.{drop-length}
use Rattle.sql_plan.specs.Walks.{ends_in}
use Rattle.sql_plan.proofs.SpanLemmas.{ends-step}
use Rattle.sql_plan.proofs.spans.ends_in.Goals as goal

pub bounds-init : goal.bounds-init
unfolding ends_in
bounds-init c = record { within = omega arith; so_far = sym (ap (ends_in c.args.column) (drop-length c.args.bounds.now)) }

pub bounds-preserved : goal.bounds-preserved
bounds-preserved c = record {
  within = omega arith;
  so_far = ends-step c.args.column c.args.bounds.now _ c.bounds.left _ c.bounds.ends c.narrowed-ends.result (omega arith) c.bounds.invariant.within c.bounds.invariant.so_far c.narrowed-ends.ensures;
}

pub returns : goal.returns
returns c = let none : c.bounds.left ≡ 0 = omega arith in c.bounds.invariant.so_far ∙ ap (λ (n : ℕ). ends_in c.args.column (drop n c.args.bounds.now)) none
