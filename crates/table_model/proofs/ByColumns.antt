-- The lists of operations that each column goes through.
use Rattle.std.proofs.Common.{◌≡◌, ℕ, suc, zero, Bool, true, false, ◌==◌, List, [], ◌∷◌, map, refl, ap, ap₂, ◌∙◌, sym, subst, inl, inr, eqb, eq-eqb, ne_eqb, ◌≢◌}
use Rattle.std.proofs.lemmas.Bool.{cases_eq}
use Rattle.std.proofs.lemmas.List.{map-append}
use Rattle.tree_model.specs.declared.Place.{Place}
use Rattle.tree_model.specs.Items.{change_at}
use Rattle.tree_model.specs.Columns.{Column, Operation, Lay, map_operation}
use Rattle.tree_model.proofs.Summed.{apply_all-append}
use Rattle.table_model.specs.Stores.{Shelf, empty_shelf, map_shelf}
use Rattle.table_model.specs.Steps.{operate, operated, then_steps, all_steps, adds, drops, only, map_steps}
use Rattle.table_model.specs.Changes.{with_kept, insert_row, shelf_without, delete_row, delete_rows, delete_steps, ranks_of, lay_column}
use Rattle.table_model.specs.Operations.{RankOp, InsertAt, DeleteAt, rank_op_on, rank_ops_on, map_rank_op, shelf_at, steps_if, op_steps, ops_steps}
use Rattle.table_model.specs.StepLaws.{ColumnsAfter}
use Rattle.table_model.proofs.Maps.{adds-map, shelves_are_blind}
use Rattle.table_model.proofs.Ops.{rank_op-map, shelf_at-map}

pub steps_compose : {B : Type 0} (same_time : Bool) (earlier later : List (List (Operation B))) (cs : List (Column B)) → operate same_time (then_steps earlier later) cs ≡ operate same_time later (operate same_time earlier cs)
unfolding operate then_steps
steps_compose same_time [] later cs = refl
steps_compose same_time (operations ∷ more) [] cs = refl
steps_compose same_time (operations ∷ more) (next ∷ later) [] = refl
steps_compose same_time (operations ∷ more) (next ∷ later) (c ∷ cs) =
    ap₂ (λ (d : Column _) (rest : List (Column _)). d ∷ rest) (apply_all-append same_time operations next c) (steps_compose same_time more later cs)

-- ---- one table

deleted-columns : {B : Type 0} (same_time : Bool) (number : ℕ) (s : Shelf B) → (delete_row same_time number s).columns ≡ operate same_time (drops (ranks_of number s.kept)) s.columns
unfolding delete_row operated shelf_without
deleted-columns same_time number s = refl

pub deleted_each-columns : {B : Type 0} (same_time : Bool) (numbers : List ℕ) (s : Shelf B) → (delete_rows same_time numbers s).columns ≡ operate same_time (all_steps (delete_steps same_time numbers s)) s.columns
unfolding delete_rows delete_steps all_steps operate
deleted_each-columns same_time [] s = refl
deleted_each-columns same_time (number ∷ numbers) s =
    let after = delete_row same_time number s in
    let steps = drops (ranks_of number s.kept) in
    deleted_each-columns same_time numbers after
    ∙ ap (operate same_time (all_steps (delete_steps same_time numbers after))) (deleted-columns same_time number s)
    ∙ sym (steps_compose same_time steps (all_steps (delete_steps same_time numbers after)) s.columns)

inserted-columns : {B : Type 0} (same_time : Bool) (places : List Place) (bodies : List B) (s : Shelf B) → (insert_row same_time places bodies s).columns ≡ operate same_time (adds places bodies) s.columns
unfolding insert_row with_kept operated
inserted-columns same_time places bodies s = refl

laid-columns : {B : Type 0} (same_time : Bool) (column : ℕ) (s : Shelf B) → (lay_column same_time column s).columns ≡ operate same_time (only column (Lay ∷ [])) s.columns
unfolding lay_column operated
laid-columns same_time column s = refl

pub tables_by_columns : {B : Type 0} (same_time : Bool) (s : Shelf B) → ColumnsAfter B same_time s
tables_by_columns same_time s =
    record {
      inserted = λ places bodies. inserted-columns same_time places bodies s;
      deleted = λ number. deleted-columns same_time number s;
      deleted_each = λ numbers. deleted_each-columns same_time numbers s;
      laid = λ column. laid-columns same_time column s;
    }

-- ---- several tables

operate-none : {B : Type 0} (same_time : Bool) (steps : List (List (Operation B))) → operate same_time steps [] ≡ []
unfolding operate
operate-none same_time [] = refl
operate-none same_time (operations ∷ more) = refl

-- the table changed, and the others
changed-here : {B : Type 0} (same_time : Bool) (f : Shelf B → Shelf B) (steps : Shelf B → List (List (Operation B))) → ((s : Shelf B) → (f s).columns ≡ operate same_time (steps s) s.columns) → (shelves : List (Shelf B)) (t : ℕ)
    → (shelf_at (change_at f shelves t) t).columns ≡ operate same_time (steps (shelf_at shelves t)) (shelf_at shelves t).columns
unfolding shelf_at change_at empty_shelf
changed-here {B} same_time f steps each [] t = sym (operate-none same_time (steps (empty_shelf B 0)))
changed-here same_time f steps each (s ∷ shelves) zero = each s
changed-here same_time f steps each (s ∷ shelves) (suc t) = changed-here same_time f steps each shelves t

changed-other : {B : Type 0} (f : Shelf B → Shelf B) (shelves : List (Shelf B)) (t table : ℕ) → t ≢ table → shelf_at (change_at f shelves t) table ≡ shelf_at shelves table
unfolding shelf_at change_at
changed-other f [] t table other = refl
changed-other f (s ∷ shelves) zero zero other = absurd (other refl)
changed-other f (s ∷ shelves) zero (suc table) other = refl
changed-other f (s ∷ shelves) (suc t) zero other = refl
changed-other f (s ∷ shelves) (suc t) (suc table) other = changed-other f shelves t table (λ e. other (ap suc e))

changed : {B : Type 0} (same_time : Bool) (f : Shelf B → Shelf B) (steps : Shelf B → List (List (Operation B))) → ((s : Shelf B) → (f s).columns ≡ operate same_time (steps s) s.columns) → (shelves : List (Shelf B)) (t table : ℕ)
    → (shelf_at (change_at f shelves t) table).columns ≡ operate same_time (steps_if (t == table) (steps (shelf_at shelves table))) (shelf_at shelves table).columns
unfolding steps_if operate
changed same_time f steps each shelves t table =
    elim (cases_eq t table) [
      | inl same ↦
          subst (λ (k : ℕ). (shelf_at (change_at f shelves t) k).columns ≡ operate same_time (steps_if (eqb t k) (steps (shelf_at shelves k))) (shelf_at shelves k).columns) same
          (changed-here same_time f steps each shelves t ∙ ap (λ (b : Bool). operate same_time (steps_if b (steps (shelf_at shelves t))) (shelf_at shelves t).columns) (sym (eq-eqb t t refl)))
      | inr other ↦
          ap (λ (s : Shelf _). s.columns) (changed-other f shelves t table other)
          ∙ ap (λ (b : Bool). operate same_time (steps_if b (steps (shelf_at shelves table))) (shelf_at shelves table).columns) (sym (ne_eqb t table other))
    ]

op-columns : {B : Type 0} (same_time : Bool) (table : ℕ) (op : RankOp B) (shelves : List (Shelf B)) → (shelf_at (rank_op_on same_time op shelves) table).columns ≡ operate same_time (op_steps same_time table op shelves) (shelf_at shelves table).columns
unfolding rank_op_on op_steps
op-columns same_time table (InsertAt t places bodies) shelves = changed same_time (insert_row same_time places bodies) (λ s. adds places bodies) (inserted-columns same_time places bodies) shelves t table
op-columns same_time table (DeleteAt t numbers) shelves = changed same_time (delete_rows same_time numbers) (λ s. all_steps (delete_steps same_time numbers s)) (deleted_each-columns same_time numbers) shelves t table

pub ops_by_columns : {B : Type 0} (same_time : Bool) (table : ℕ) (ops : List (RankOp B)) (shelves : List (Shelf B)) → (shelf_at (rank_ops_on same_time ops shelves) table).columns ≡ operate same_time (ops_steps same_time table ops shelves) (shelf_at shelves table).columns
unfolding rank_ops_on ops_steps operate
ops_by_columns same_time table [] shelves = refl
ops_by_columns same_time table (op ∷ ops) shelves =
    let after = rank_op_on same_time op shelves in
    ops_by_columns same_time table ops after
    ∙ ap (operate same_time (ops_steps same_time table ops after)) (op-columns same_time table op shelves)
    ∙ sym (steps_compose same_time (op_steps same_time table op shelves) (ops_steps same_time table ops after) (shelf_at shelves table).columns)

-- ---- no body is looked at

then_steps-map : {B C : Type 0} (f : B → C) (earlier later : List (List (Operation B))) → then_steps (map_steps f earlier) (map_steps f later) ≡ map_steps f (then_steps earlier later)
unfolding then_steps map_steps
then_steps-map f [] later = refl
then_steps-map f (operations ∷ more) [] = refl
then_steps-map f (operations ∷ more) (next ∷ later) =
    ap₂ (λ (first : List (Operation _)) (rest : List (List (Operation _))). first ∷ rest) (sym (map-append (map_operation f) operations next)) (then_steps-map f more later)

all_steps-map : {B C : Type 0} (f : B → C) (steps : List (List (List (Operation B)))) → all_steps (map (map_steps f) steps) ≡ map_steps f (all_steps steps)
unfolding all_steps map_steps
all_steps-map f [] = refl
all_steps-map f (steps ∷ more) = ap (then_steps (map_steps f steps)) (all_steps-map f more) ∙ then_steps-map f steps (all_steps more)

steps_if-map : {B C : Type 0} (f : B → C) (b : Bool) (steps : List (List (Operation B))) → steps_if b (map_steps f steps) ≡ map_steps f (steps_if b steps)
unfolding steps_if map_steps
steps_if-map f true steps = refl
steps_if-map f false steps = refl

op_steps-map : {B C : Type 0} (f : B → C) (same_time : Bool) (table : ℕ) (op : RankOp B) (shelves : List (Shelf B)) → op_steps same_time table (map_rank_op f op) (map (map_shelf f) shelves) ≡ map_steps f (op_steps same_time table op shelves)
unfolding op_steps map_rank_op
op_steps-map f same_time table (InsertAt t places bodies) shelves = ap (steps_if (eqb t table)) (adds-map f places bodies) ∙ steps_if-map f (eqb t table) (adds places bodies)
op_steps-map f same_time table (DeleteAt t numbers) shelves =
    let s = shelf_at shelves table in
    ap (steps_if (eqb t table))
    (ap (λ (r : Shelf _). all_steps (delete_steps same_time numbers r)) (shelf_at-map f shelves table)
    ∙ ap all_steps ((shelves_are_blind f same_time s).delete_steps_are numbers) ∙ all_steps-map f (delete_steps same_time numbers s))
    ∙ steps_if-map f (eqb t table) (all_steps (delete_steps same_time numbers s))

pub steps_are_blind : {B C : Type 0} (f : B → C) (same_time : Bool) (table : ℕ) (ops : List (RankOp B)) (shelves : List (Shelf B)) → ops_steps same_time table (map (map_rank_op f) ops) (map (map_shelf f) shelves) ≡ map_steps f (ops_steps same_time table ops shelves)
unfolding ops_steps map_steps
steps_are_blind f same_time table [] shelves = refl
steps_are_blind f same_time table (op ∷ ops) shelves =
    let after = rank_op_on same_time op shelves in
    ap₂ then_steps (op_steps-map f same_time table op shelves)
    (ap (ops_steps same_time table (map (map_rank_op f) ops)) (rank_op-map f same_time op shelves) ∙ steps_are_blind f same_time table ops after)
    ∙ then_steps-map f (op_steps same_time table op shelves) (ops_steps same_time table ops after)
