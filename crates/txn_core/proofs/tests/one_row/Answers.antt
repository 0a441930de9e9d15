use Rattle.std.proofs.Common.{List, [], ◌∷◌, ap₂, ◌∙◌}
use Rattle.mope_base.specs.declared.body.Body.{Body}
use Rattle.tree_model.specs.declared.Place.{Place}
use Rattle.table_model.specs.Operations.{RankOp, InsertAt}
use Rattle.versions.specs.Operations.{rank_op, rank_ops}
use Rattle.txn_core.proofs.tests.one_row.Goals as goal

pub returns : goal.returns
unfolding rank_ops rank_op
returns c = (_, ap₂ (λ (places : List Place) (bodies : List Body). let op : RankOp Body = InsertAt 0 places bodies in op ∷ []) (c.from_vec.ensures ∙ c.in_ok-places.ensures.items) (c.from_vec-2.ensures ∙ c.in_ok-bodies.ensures.items))
