-- Several tables by rank that stand for tables by value.
use Rattle.std.proofs.Common.{◌≡◌, ℕ, Bool, false, List, [], ◌∷◌, map, refl, ap, ap₂, ◌∙◌, sym, subst}
use Rattle.table_model.specs.Stores.{Store, Shelf, empty_store, empty_shelf, map_shelf, shelf_of}
use Rattle.table_model.specs.Operations.{ValueOp, RankOp, rank_ops_on, install_on, rank_install_on, placed_ops, map_rank_op, AllSound, AllSame}
use Rattle.table_model.specs.Fitting.{AllFit, AllFitAt}
use Rattle.table_model.specs.Standing.{AllStand}
use Rattle.table_model.specs.StandingLaws.{OpsStand}
use Rattle.table_model.proofs.Sound.{empty-sound}
use Rattle.table_model.proofs.Sealed.{empty_stands}
use Rattle.table_model.proofs.Ops.{ops_are_by_rank, operations_are_blind, ops_on_same, installs_are_by_rank, installs_are_blind}

pub operations_stand : {B C : Type 0} (seal : C → B) (v : C → ℕ) (same_time : Bool) (limit : ℕ) (ops : List (ValueOp C)) (base stores : List (Store C)) (shelves : List (Shelf B)) → AllStand B C seal v same_time limit shelves stores → AllSound v same_time limit base → AllSame base stores → AllFit same_time v limit ops base
    → OpsStand B C seal v same_time limit ops (map (map_rank_op seal) (placed_ops same_time v ops base)) shelves stores
operations_stand {B} {C} seal v same_time limit ops base stores shelves stands sound same fit =
    let both = ops_on_same v same_time limit ops base stores sound stands.sound same fit in
    let by_rank = ops_are_by_rank v same_time limit ops stores stands.sound both.fit in
    let blind = operations_are_blind seal (λ (b : B). 0) same_time in
    let placed = placed_ops same_time v ops stores in
    let shown = map (shelf_of v) stores in
    let sealed = map (map_rank_op seal) (placed_ops same_time v ops base) in
    let is : sealed ≡ map (map_rank_op seal) placed = ap (map (map_rank_op seal)) both.placed in
    record {
      fit = subst (λ (p : List (RankOp B)). AllFitAt same_time limit p shelves) (sym is)
          (subst (AllFitAt same_time limit (map (map_rank_op seal) placed)) (sym stands.same) (blind.fit limit placed shown by_rank.fit));
      stand = record {
        same = ap₂ (λ (p : List (RankOp B)) (s : List (Shelf B)). rank_ops_on same_time p s) is stands.same
            ∙ blind.by_rank placed shown
            ∙ ap (map (map_shelf seal)) (sym by_rank.shelves);
        sound = by_rank.sound;
      };
    }

pub install_stands : {B C : Type 0} (seal : C → B) (v : C → ℕ) (same_time : Bool) (limit table column : ℕ) (stores : List (Store C)) (shelves : List (Shelf B)) → AllStand B C seal v same_time limit shelves stores → AllStand B C seal v same_time limit (rank_install_on same_time table column shelves) (install_on same_time table column stores)
install_stands seal v same_time limit table column stores shelves stands =
    let installs = installs_are_by_rank v same_time limit table column stores stands.sound in
    record {
      same = ap (rank_install_on same_time table column) stands.same ∙ installs_are_blind seal same_time table column (map (shelf_of v) stores) ∙ ap (map (map_shelf seal)) (sym installs.shelves);
      sound = installs.sound;
    }

-- ---- tables without rows

empties-sound : {B : Type 0} (v : B → ℕ) (same_time : Bool) (limit : ℕ) (widths : List ℕ) → AllSound v same_time limit (map (empty_store B) widths)
unfolding AllSound
empties-sound v same_time limit [] = tt
empties-sound v same_time limit (width ∷ widths) = (empty-sound v same_time limit width, empties-sound v same_time limit widths)

empties-same : {B C : Type 0} (seal : C → B) (v : C → ℕ) (widths : List ℕ) → map (empty_shelf B) widths ≡ map (map_shelf seal) (map (shelf_of v) (map (empty_store C) widths))
empties-same seal v [] = refl
empties-same {B} seal v (width ∷ widths) = ap₂ (λ (s : Shelf B) (rest : List (Shelf B)). s ∷ rest) (empty_stands seal v false 0 width).same (empties-same seal v widths)

pub empties_stand : {B C : Type 0} (seal : C → B) (v : C → ℕ) (same_time : Bool) (limit : ℕ) (widths : List ℕ) → AllStand B C seal v same_time limit (map (empty_shelf B) widths) (map (empty_store C) widths)
empties_stand seal v same_time limit widths = record { same = empties-same seal v widths; sound = empties-sound v same_time limit widths }
