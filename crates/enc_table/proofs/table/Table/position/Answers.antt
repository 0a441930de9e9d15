-- The numbers of the shelf's rows are the stored ones.
use Rattle.std.proofs.Common.{◌≡◌, ℕ, List, false, Some, subst}
use Rattle.std.specs.Prelude.{MatchOption, slice_get}
use Rattle.tree_model.specs.Places.{holds}
use Rattle.enc_table.proofs.TableSeen.{numbers-seen, rise-of}
use Rattle.enc_table.proofs.table.Table.position.Goals as goal

pub position_of-requires : goal.position_of-requires
position_of-requires c = rise-of _ _ _ _ _ _ _ c.self.invariant

pub returns : goal.returns
returns c =
    subst (λ (ns : List ℕ). MatchOption c.position_of.result (holds c.args.row ns ≡ false) (λ position. slice_get ns position ≡ Some c.args.row)) (numbers-seen _ _ _ _ _ _ _ _ c.self.invariant c.self.view_is) c.position_of.ensures
