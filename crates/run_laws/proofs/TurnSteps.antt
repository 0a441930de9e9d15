-- One turn takes a version that stands for a world to one that stands.
use Rattle.std.proofs.Common.{◌≡◌, ℕ, zero, suc, Bool, true, false, ◌==◌, List, [], ◌∷◌, ◌++◌, map, refl, ap, ap₂, ◌∙◌, sym, subst}
use Rattle.mope_base.specs.declared.body.Body.{Body}
use Rattle.tree_model.specs.Items.{change_at}
use Rattle.tree_model.specs.Columns.{Column, Operation, Lay, map_column, map_operation}
use Rattle.path_code.specs.Sums.{Sum}
use Rattle.path_code.proofs.BlindSums.{sum_of-map}
use Rattle.table_model.specs.Stores.{Store, Shelf, map_shelf, shelf_of}
use Rattle.table_model.specs.Steps.{only, map_steps}
use Rattle.table_model.specs.Operations.{ValueOp, RankOp, InsertAt, DeleteAt, ops_on, rank_ops_on, steps_if, ops_steps, placed_ops, map_rank_op, AllSound}
use Rattle.table_model.specs.Fitting.{AllFit, AllFitAt}
use Rattle.table_model.specs.Standing.{AllStand}
use Rattle.table_model.proofs.ByColumns.{steps_are_blind}
use Rattle.table_model.proofs.Ops.{same-all}
use Rattle.table_model.proofs.SealedTables.{operations_stand, install_stands, empties_stand}
use Rattle.value_cipher.specs.Cipher.{Cell, value_of, sealed}
use Rattle.enc_table.specs.declared.stamps.Stamps.{Stamps}
use Rattle.versions.specs.declared.change.ColumnChange.{ColumnChange}
use Rattle.versions.specs.Databases.{Database, first_database}
use Rattle.versions.specs.Operations.{rank_op, rank_ops, op_table, written_at, stamped, with_ops, with_install}
use Rattle.versions.specs.Changes.{listed, column_changes, table_changes, ops_changes, install_changes}
use Rattle.workload.specs.declared.script.Workload.{Workload}
use Rattle.workload.specs.PlainDatabase.{row_limit}
use Rattle.transaction_laws.specs.Standing.{World, Stands}
use Rattle.transaction_laws.specs.Transactions.{kept_op, kept_ops}
use Rattle.run_laws.specs.Worlds.{RunSetting, widths_of, first_world, first_version, world_with_ops, world_with_install, column_sums, table_sums, commit_sums, install_sums}
use Rattle.run_laws.specs.TurnLaws.{is_on, SameAt, CommitGoes, InstallGoes}
use Rattle.run_laws.proofs.SameOn.{do_same, all-on}

pub first_stands : (s : RunSetting) (w : Workload) → Stands s.key (first_version s w) (first_world s w)
unfolding first_version first_world first_database
first_stands s w = record { number = refl; mode = refl; limit = refl; stamps = refl; tables = empties_stand (sealed s.key) value_of s.same_time row_limit (widths_of w) }

-- ---- the one version that stands for a world

unfoldable pub sealed_version : List ℕ → World → Database
sealed_version key w = record { number = w.number; same_time = w.same_time; limit = w.limit; shelves = map (map_shelf (sealed key)) (map (shelf_of value_of) w.stores); stamps = w.stamps }

database_with : ℕ → Bool → ℕ → List (Shelf Body) → List Stamps → Database
database_with number same_time limit shelves stamps = record { number = number; same_time = same_time; limit = limit; shelves = shelves; stamps = stamps }

pub is_sealed : (key : List ℕ) (d : Database) (w : World) → Stands key d w → d ≡ sealed_version key w
unfolding sealed_version database_with
is_sealed key d w stands =
    ap (λ (x : ℕ). database_with x d.same_time d.limit d.shelves d.stamps) stands.number
    ∙ ap (λ (x : Bool). database_with w.number x d.limit d.shelves d.stamps) stands.mode
    ∙ ap (λ (x : ℕ). database_with w.number w.same_time x d.shelves d.stamps) stands.limit
    ∙ ap (λ (x : List (Shelf Body)). database_with w.number w.same_time w.limit x d.stamps) stands.tables.same
    ∙ ap (λ (x : List Stamps). database_with w.number w.same_time w.limit (map (map_shelf (sealed key)) (map (shelf_of value_of) w.stores)) x) stands.stamps

-- ---- what changes is the world's

pub rank-kept : (ops : List (RankOp Body)) → rank_ops (map kept_op ops) ≡ ops
unfolding rank_ops rank_op kept_op
rank-kept [] = refl
rank-kept (InsertAt table places bodies ∷ ops) = ap (λ (rest : List (RankOp Body)). InsertAt table places bodies ∷ rest) (rank-kept ops)
rank-kept (DeleteAt table numbers ∷ ops) = ap (λ (rest : List (RankOp Body)). DeleteAt table numbers ∷ rest) (rank-kept ops)

stamped-map : (f : Cell → Body) (number : ℕ) (ops : List (RankOp Cell)) (stamps : List Stamps) → stamped number (map (map_rank_op f) ops) stamps ≡ stamped number ops stamps
unfolding stamped map_rank_op op_table
stamped-map f number [] stamps = refl
stamped-map f number (InsertAt table places bodies ∷ ops) stamps = stamped-map f number ops (change_at (written_at number) stamps table)
stamped-map f number (DeleteAt table numbers ∷ ops) stamps = stamped-map f number ops (change_at (written_at number) stamps table)

columns-sealed : (f : Cell → Body) (same_time : Bool) (table column : ℕ) (steps : List (List (Operation Cell))) (cs : List (Column Cell)) → column_changes same_time table column (map_steps f steps) (map (map_column f) cs) ≡ column_sums same_time table column steps cs
unfolding column_changes column_sums map_steps
columns-sealed f same_time table column [] cs = refl
columns-sealed f same_time table column (operations ∷ more) [] = refl
columns-sealed f same_time table column (operations ∷ more) (c ∷ cs) =
    ap₂ (λ (s : Sum) (rest : List ColumnChange). listed table column s rest) (sum_of-map f same_time operations c) (columns-sealed f same_time table (suc column) more cs)

tables-sealed : (f : Cell → Body) (same_time : Bool) (steps_d : ℕ → List (List (Operation Body))) (steps_w : ℕ → List (List (Operation Cell))) → ((table : ℕ) → steps_d table ≡ map_steps f (steps_w table))
    → (table : ℕ) (stores : List (Store Cell)) → table_changes same_time steps_d table (map (map_shelf f) (map (shelf_of value_of) stores)) ≡ table_sums same_time steps_w table stores
unfolding table_changes table_sums map_shelf shelf_of
tables-sealed f same_time steps_d steps_w are table [] = refl
tables-sealed f same_time steps_d steps_w are table (t ∷ stores) =
    ap₂ (λ (first rest : List ColumnChange). first ++ rest)
    (ap (λ (steps : List (List (Operation Body))). column_changes same_time table 0 steps (map (map_column f) t.columns)) (are table) ∙ columns-sealed f same_time table 0 (steps_w table) t.columns)
    (tables-sealed f same_time steps_d steps_w are (suc table) stores)

-- ---- a commit

commit-sealed : (key : List ℕ) (ops : List (ValueOp Cell)) (base : List (Store Cell)) (w : World) → AllSound value_of w.same_time w.limit w.stores → AllSound value_of w.same_time w.limit base → SameAt ops base w.stores → AllFit w.same_time value_of w.limit ops base → CommitGoes key ops base (sealed_version key w) w
unfolding sealed_version with_ops world_with_ops ops_changes commit_sums kept_ops
commit-sealed key ops base w sound sound_b same fit =
    let both = do_same (is_on ops) w.same_time w.limit ops base w.stores sound_b sound (all-on ops) fit same in
    let seal : RankOp Cell → RankOp Body = map_rank_op (sealed key) in
    let placed : List (RankOp Cell) = placed_ops w.same_time value_of ops w.stores in
    let shown : List (Shelf Cell) = map (shelf_of value_of) w.stores in
    let shelves : List (Shelf Body) = map (map_shelf (sealed key)) shown in
    let kept : List (RankOp Body) = rank_ops (map kept_op (map seal (placed_ops w.same_time value_of ops base))) in
    let is : kept ≡ map seal placed = rank-kept (map seal (placed_ops w.same_time value_of ops base)) ∙ ap (map seal) both.placed in
    let stands = operations_stand (sealed key) value_of w.same_time w.limit ops w.stores w.stores shelves (record { same = refl; sound = sound }) sound (same-all w.stores) both.fit in
    record {
      fit = subst (λ (l : List (RankOp Body)). AllFitAt w.same_time w.limit l shelves) (sym is) stands.fit;
      places = ap (λ (l : List (RankOp Cell)). map kept_op (map seal l)) both.placed;
      stands = record {
        number = refl;
        mode = refl;
        limit = refl;
        stamps = ap (λ (l : List (RankOp Body)). stamped (suc w.number) l w.stamps) is ∙ stamped-map (sealed key) (suc w.number) placed w.stamps;
        tables = subst (λ (l : List (RankOp Body)). AllStand Body Cell (sealed key) value_of w.same_time w.limit (rank_ops_on w.same_time l shelves) (ops_on w.same_time value_of ops w.stores)) (sym is) stands.stand;
      };
      changes = ap (λ (l : List (RankOp Body)). table_changes w.same_time (λ (table : ℕ). ops_steps w.same_time table l shelves) 0 shelves) is
          ∙ tables-sealed (sealed key) w.same_time (λ (table : ℕ). ops_steps w.same_time table (map seal placed) shelves) (λ (table : ℕ). ops_steps w.same_time table placed shown)
          (λ (table : ℕ). steps_are_blind (sealed key) w.same_time table placed shown) 0 w.stores;
    }

pub commit_stands : (key : List ℕ) (ops : List (ValueOp Cell)) (base : List (Store Cell)) (d : Database) (w : World) → Stands key d w → AllSound value_of w.same_time w.limit base → SameAt ops base w.stores → AllFit w.same_time value_of w.limit ops base → CommitGoes key ops base d w
commit_stands key ops base d w stands sound same fit = subst (λ (x : Database). CommitGoes key ops base x w) (sym (is_sealed key d w stands)) (commit-sealed key ops base w stands.tables.sound sound same fit)

-- ---- an install

only-sealed : (f : Cell → Body) (column : ℕ) → (let steps : List (List (Operation Body)) = only column (Lay ∷ []) in steps) ≡ map_steps f (only column (Lay ∷ []))
unfolding only map_steps map_operation
only-sealed f zero = refl
only-sealed f (suc column) = ap (λ (rest : List (List (Operation Body))). [] ∷ rest) (only-sealed f column)

steps-sealed : (f : Cell → Body) (b : Bool) (column : ℕ) → steps_if b (only column (Lay ∷ [])) ≡ map_steps f (steps_if b (only column (Lay ∷ [])))
unfolding steps_if map_steps
steps-sealed f true column = only-sealed f column
steps-sealed f false column = refl

install-sealed : (key : List ℕ) (table column : ℕ) (w : World) → AllSound value_of w.same_time w.limit w.stores → InstallGoes key table column (sealed_version key w) w
unfolding sealed_version with_install world_with_install install_changes install_sums
install-sealed key table column w sound = record {
  stands = record {
    number = refl;
    mode = refl;
    limit = refl;
    stamps = refl;
    tables = install_stands (sealed key) value_of w.same_time w.limit table column w.stores (map (map_shelf (sealed key)) (map (shelf_of value_of) w.stores)) (record { same = refl; sound = sound });
  };
  changes = tables-sealed (sealed key) w.same_time (λ (t : ℕ). steps_if (t == table) (only column (Lay ∷ []))) (λ (t : ℕ). steps_if (t == table) (only column (Lay ∷ []))) (λ (t : ℕ). steps-sealed (sealed key) (t == table) column) 0 w.stores;
}

pub install_goes : (key : List ℕ) (table column : ℕ) (d : Database) (w : World) → Stands key d w → InstallGoes key table column d w
install_goes key table column d w stands = subst (λ (x : Database). InstallGoes key table column x w) (sym (is_sealed key d w stands)) (install-sealed key table column w stands.tables.sound)
