use Rattle.std.proofs.Common.{arith, ◌∙◌}
use Rattle.std.proofs.lemmas.List.{take_rest, length-drop}
use Rattle.mope_base.proofs.StreamLemmas.{Appends-more}
use Rattle.mope_base.proofs.writing.write_all.Goals as goal

pub pieces-preserved : goal.pieces-preserved
pieces-preserved g c = record {
  appended = Appends-more _ _ _ c.args.bytes.now c.pieces.done c.in-Ok.n c.pieces.invariant.appended (simp take_rest at c.in-Ok.ensures.bytes);
  within = let b = simp take_rest at c.in-Ok.ensures.bound in omega (arith, length-drop c.pieces.done c.args.bytes.now, b);
  stayed = c.in-Ok.ensures.cause.stayed ∙ c.pieces.invariant.stayed;
}
