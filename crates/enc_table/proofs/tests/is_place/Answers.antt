-- The comparison decides it.
use Rattle.std.proofs.Common.{sym, subst}
use Rattle.std.proofs.lemmas.Bool.{ltb-true, leb-true}
use Rattle.tree_model.specs.Trees.{IsPlaceOf}
use Rattle.enc_table.proofs.tests.is_place.Goals as goal

pub returns-in-Found : goal.returns-in-Found
unfolding IsPlaceOf
returns-in-Found c = λ h. subst (IsPlaceOf c.args.items) (sym c.in-Found.is) (ltb-true c.in-Found.rank c.args.items h)

pub returns-in-Gap : goal.returns-in-Gap
unfolding IsPlaceOf
returns-in-Gap c = λ h. subst (IsPlaceOf c.args.items) (sym c.in-Gap.is) (leb-true c.in-Gap.rank c.args.items h)
