-- What the operations do in each mode, and that they keep what the mode adds.
use Rattle.std.proofs.Common.{◌≡◌, ℕ, Bool, false, [], ◌∷◌, refl, sym, subst}
use Rattle.mope_base.specs.declared.body.Body.{Body}
use Rattle.tree_model.specs.declared.Place.{Place}
use Rattle.tree_model.specs.Columns.{Column, Add, Lay, add, lay, drop_one, apply, apply_all, map_operation}
use Rattle.tree_model.specs.Sums.{blank, origins}
use Rattle.tree_model.specs.ColumnLaws.{SuitsMode}
use Rattle.tree_model.proofs.Suits.{SuitsMode-add, SuitsMode-drop, SuitsMode-lay, SuitsMode-empty}
use Rattle.path_code.specs.Sums.{sum_of}
use Rattle.ope_tree.specs.Seen.{Seen, empty_seen}

-- one row more, and a balanced tree, are the same in both modes
pub add_sum : (same_time : Bool) (place : Place) (body : Body) (c : Column Body) → sum_of false (Add place body ∷ []) c ≡ sum_of same_time (Add place body ∷ []) c
unfolding sum_of apply_all apply origins blank map_operation
add_sum same_time place body c = refl

pub lay_sum : (same_time : Bool) (c : Column Body) → sum_of false (Lay ∷ []) c ≡ sum_of same_time (Lay ∷ []) c
unfolding sum_of apply_all apply origins blank map_operation
lay_sum same_time c = refl

pub suits_added : (same_time : Bool) (place : Place) (body : Body) (old new : Column Body) → new ≡ add place body old → SuitsMode same_time old → SuitsMode same_time new
suits_added same_time place body old new e s = subst (λ (c : Column Body). SuitsMode same_time c) (sym e) (SuitsMode-add same_time place body old s)

pub suits_laid : (same_time : Bool) (old new : Column Body) → new ≡ lay old → SuitsMode same_time old → SuitsMode same_time new
suits_laid same_time old new e s = subst (λ (c : Column Body). SuitsMode same_time c) (sym e) (SuitsMode-lay same_time old s)

pub suits_dropped : (same_time : Bool) (rank : ℕ) (old new : Column Body) → new ≡ drop_one same_time rank old → SuitsMode same_time old → SuitsMode same_time new
suits_dropped same_time rank old new e s = subst (λ (c : Column Body). SuitsMode same_time c) (sym e) (SuitsMode-drop same_time rank old s)

pub suits_empty : (same_time spent : Bool) (seen : Seen) → seen ≡ empty_seen spent → SuitsMode same_time seen.column
unfolding empty_seen
suits_empty same_time spent seen e = subst (λ (t : Seen). SuitsMode same_time t.column) (sym e) (SuitsMode-empty Body same_time)
