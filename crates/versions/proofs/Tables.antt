-- One table of the next version: as it was, or written, or laid.
use Rattle.std.proofs.Common.{◌≡◌, ℕ, suc, ◌+◌, ◌<◌, Bool, true, false, List, [], ◌∷◌, ◌++◌, length, refl, ap, ap₂, sym, ◌∙◌, arith, add-one, zero-add, eqb, ne_eqb, inl, inr}
use Rattle.std.proofs.lemmas.Bool.{cases_eq}
use Rattle.std.proofs.lemmas.List.{append-nil}
use Rattle.mope_base.specs.declared.body.Body.{Body}
use Rattle.tree_model.specs.Items.{change_at}
use Rattle.tree_model.specs.Columns.{Operation, Lay}
use Rattle.tree_model.proofs.Changes.{length-change_at}
use Rattle.path_code.specs.Sums.{Sum, sum_of}
use Rattle.table_model.specs.Soundness.{column_at}
use Rattle.table_model.specs.Stores.{Shelf}
use Rattle.table_model.specs.Steps.{only}
use Rattle.table_model.specs.Changes.{lay_column}
use Rattle.table_model.specs.Operations.{RankOp, rank_ops_on, rank_install_on, shelf_at, ops_steps, steps_if}
use Rattle.enc_table.specs.declared.stamps.Stamps.{Stamps}
use Rattle.enc_table.specs.Seen.{Seen, IsTable, no_stamps, with_shelf, with_stamps}
use Rattle.versions.specs.declared.change.ColumnChange.{ColumnChange}
use Rattle.versions.specs.Databases.{Database, IsDatabase, IsMember, table_at, stamps_at}
use Rattle.versions.specs.Changes.{column_changes, listed}
use Rattle.versions.specs.Drafts.{is_written}
use Rattle.versions.specs.Operations.{with_ops, with_install, written_at, laid_at, stamped, op_table}
use Rattle.versions.proofs.Listed.{no-steps, only-column}
use Rattle.versions.proofs.OpsOn.{unwritten, written-dates, changed-here, changed-other, ops-length}

-- ---- after operations

pub stays-unwritten : (d : Database) (ops : List (RankOp Body)) (table : ℕ) → is_written ops table ≡ false → table_at d table ≡ table_at (with_ops ops d) table
unfolding table_at with_ops
stays-unwritten d ops table h =
    let same = unwritten d.same_time (suc d.number) table ops d.shelves d.stamps h in
    ap₂ (λ (s : Shelf Body) (dates : Stamps). let r : Seen = record { shelf = s; same_time = d.same_time; limit = d.limit; stamps = dates; spent = false } in r) (sym same.shelf) (sym same.dates)

pub nothing-listed : (d : Database) (ops : List (RankOp Body)) (table : ℕ) (changes : List ColumnChange) → is_written ops table ≡ false
    → changes ≡ changes ++ column_changes d.same_time table 0 (ops_steps d.same_time table ops d.shelves) (shelf_at d.shelves table).columns
nothing-listed d ops table changes h =
    sym (ap (λ (l : List ColumnChange). changes ++ l) (ap (λ (steps : List (List (Operation Body))). column_changes d.same_time table 0 steps (shelf_at d.shelves table).columns) (unwritten d.same_time (suc d.number) table ops d.shelves d.stamps h).steps ∙ no-steps d.same_time table 0 (shelf_at d.shelves table).columns)
    ∙ append-nil changes)

pub written-is : (d : Database) (ops : List (RankOp Body)) (table : ℕ) (made : Seen) → is_written ops table ≡ true → table < length d.stamps → made ≡ with_shelf (shelf_at (rank_ops_on d.same_time ops d.shelves) table) (table_at d table)
    → with_stamps (record { written = d.number + 1; laid = made.stamps.laid }) made ≡ table_at (with_ops ops d) table
unfolding table_at with_ops with_shelf with_stamps written_at
written-is d ops table made h there is =
    let s = shelf_at (rank_ops_on d.same_time ops d.shelves) table in
    let next : d.number + 1 ≡ suc d.number = add-one d.number in
    ap (λ (m : Seen). with_stamps (record { written = d.number + 1; laid = m.stamps.laid }) m) is
    ∙ ap (λ (dates : Stamps). let r : Seen = record { shelf = s; same_time = d.same_time; limit = d.limit; stamps = dates; spent = false } in r)
    (ap (λ (n : ℕ). written_at n (stamps_at d.stamps table)) next ∙ sym (written-dates (suc d.number) table ops d.stamps h there))

-- the same by the steps that make it
pub written-made : (d : Database) (ops : List (RankOp Body)) (table : ℕ) (made after : Seen) (stamps : Stamps) (number : ℕ) → IsDatabase d → table < length d.shelves → is_written ops table ≡ true
    → made ≡ with_shelf (shelf_at (rank_ops_on d.same_time ops d.shelves) table) (table_at d table) → stamps ≡ made.stamps → number ≡ d.number → after ≡ with_stamps (record { written = number + 1; laid = stamps.laid }) made
    → after ≡ table_at (with_ops ops d) table
written-made d ops table made after stamps number is there h drafted old count stamp =
    stamp
    ∙ ap₂ (λ (s : Stamps) (n : ℕ). with_stamps (record { written = n + 1; laid = s.laid }) made) old count
    ∙ written-is d ops table made h (omega (arith, there, is.stamped)) drafted

-- it is of the version's mode and limit, and isn't spent
pub written-member : (d : Database) (ops : List (RankOp Body)) (table : ℕ) (t : Seen) → t ≡ table_at (with_ops ops d) table → IsTable t → IsMember d.same_time d.limit t
unfolding table_at with_ops
written-member d ops table t e is = record { mode = ap (λ (u : Seen). u.same_time) e; rows = ap (λ (u : Seen). u.limit) e; fresh = ap (λ (u : Seen). u.spent) e; table = is }

-- ---- after an install

pub laid-is : (d : Database) (table column : ℕ) → table < length d.shelves → table < length d.stamps
    → with_stamps (record { written = (stamps_at d.stamps table).written; laid = d.number + 1 }) (with_shelf (lay_column d.same_time column (shelf_at d.shelves table)) (table_at d table)) ≡ table_at (with_install table column d) table
unfolding table_at with_install with_shelf with_stamps rank_install_on shelf_at stamps_at laid_at
laid-is d table column there dated =
    let next : d.number + 1 ≡ suc d.number = add-one d.number in
    ap₂ (λ (s : Shelf Body) (dates : Stamps). let r : Seen = record { shelf = s; same_time = d.same_time; limit = d.limit; stamps = dates; spent = false } in r)
    (sym (changed-here (lay_column d.same_time column) d.shelves table _ there))
    (ap (λ (n : ℕ). laid_at n (stamps_at d.stamps table)) next ∙ sym (changed-here (laid_at (suc d.number)) d.stamps table no_stamps dated))

-- the same by the steps that make it
pub laid-made : (d : Database) (table column : ℕ) (copy rebuilt after : Seen) (stamps : Stamps) (number : ℕ) → IsDatabase d → table < length d.shelves
    → copy ≡ table_at d table → rebuilt ≡ with_shelf (lay_column copy.same_time column copy.shelf) copy → stamps ≡ rebuilt.stamps → number ≡ d.number → after ≡ with_stamps (record { written = stamps.written; laid = number + 1 }) rebuilt
    → after ≡ table_at (with_install table column d) table
unfolding table_at with_shelf
laid-made d table column copy rebuilt after stamps number is there copied laid old count stamp =
    let whole = laid ∙ ap (λ (t : Seen). with_shelf (lay_column t.same_time column t.shelf) t) copied in
    stamp
    ∙ ap₂ (λ (s : Stamps) (n : ℕ). with_stamps (record { written = s.written; laid = n + 1 }) rebuilt) old count
    ∙ ap (λ (t : Seen). with_stamps (record { written = t.stamps.written; laid = d.number + 1 }) t) whole
    ∙ laid-is d table column there (omega (arith, there, is.stamped))

-- it is of the version's mode and limit, and isn't spent
pub laid-member : (d : Database) (table column : ℕ) (t : Seen) → t ≡ table_at (with_install table column d) table → IsTable t → IsMember d.same_time d.limit t
unfolding table_at with_install
laid-member d table column t e is = record { mode = ap (λ (u : Seen). u.same_time) e; rows = ap (λ (u : Seen). u.limit) e; fresh = ap (λ (u : Seen). u.spent) e; table = is }

-- what the balancing of a table's column lists
pub laid-listed : (d : Database) (table column : ℕ) (copy : Seen) (s : Sum) (before after : List ColumnChange) → column < length (shelf_at d.shelves table).columns → copy ≡ table_at d table → s ≡ sum_of copy.same_time (Lay ∷ []) (column_at copy.shelf.columns column)
    → after ≡ before ++ listed table column s [] → after ≡ before ++ column_changes d.same_time table 0 (only column (Lay ∷ [])) (shelf_at d.shelves table).columns
unfolding table_at
laid-listed d table column copy s before after within copied sum more =
    more
    ∙ ap (λ (x : Sum). before ++ listed table column x []) (sum ∙ ap (λ (t : Seen). sum_of t.same_time (Lay ∷ []) (column_at t.shelf.columns column)) copied)
    ∙ ap (λ (l : List ColumnChange). before ++ l)
    (ap (λ (n : ℕ). listed table n (sum_of d.same_time (Lay ∷ []) (column_at (shelf_at d.shelves table).columns column)) []) (sym (zero-add column)) ∙ sym (only-column d.same_time table 0 column (Lay ∷ []) (shelf_at d.shelves table).columns within))

pub stays-unlaid : (d : Database) (table column other : ℕ) → eqb table other ≡ false → table_at d other ≡ table_at (with_install table column d) other
unfolding table_at with_install rank_install_on shelf_at stamps_at
stays-unlaid d table column other h =
    ap₂ (λ (s : Shelf Body) (dates : Stamps). let r : Seen = record { shelf = s; same_time = d.same_time; limit = d.limit; stamps = dates; spent = false } in r)
    (sym (changed-other (lay_column d.same_time column) d.shelves table other _ h))
    (sym (changed-other (laid_at (suc d.number)) d.stamps table other no_stamps h))

pub steps-if-true : {B : Type 0} (b : Bool) (steps : List (List (Operation B))) → b ≡ true → steps_if b steps ≡ steps
unfolding steps_if
steps-if-true b steps h = rw h refl

pub steps-there : {B : Type 0} (b : Bool) (steps : List (List (Operation B))) → b ≡ false → steps_if b steps ≡ []
unfolding steps_if
steps-there b steps h = rw h refl

-- ---- as many tables

pub stamped-length : {B : Type 0} (number : ℕ) (ops : List (RankOp B)) (stamps : List Stamps) → length (stamped number ops stamps) ≡ length stamps
unfolding stamped
stamped-length number [] stamps = refl
stamped-length number (op ∷ ops) stamps = stamped-length number ops (change_at (written_at number) stamps (op_table op)) ∙ length-change_at (written_at number) stamps (op_table op)

pub written-shelves : (d : Database) (ops : List (RankOp Body)) → length (with_ops ops d).shelves ≡ length d.shelves
unfolding with_ops
written-shelves d ops = ops-length d.same_time ops d.shelves

pub written-stamps : (d : Database) (ops : List (RankOp Body)) → length (with_ops ops d).stamps ≡ length d.stamps
unfolding with_ops
written-stamps d ops = stamped-length (suc d.number) ops d.stamps

pub laid-shelves : (d : Database) (table column : ℕ) → length (with_install table column d).shelves ≡ length d.shelves
unfolding with_install rank_install_on
laid-shelves d table column = length-change_at (lay_column d.same_time column) d.shelves table

pub laid-stamps : (d : Database) (table column : ℕ) → length (with_install table column d).stamps ≡ length d.stamps
unfolding with_install
laid-stamps d table column = length-change_at (laid_at (suc d.number)) d.stamps table

pub eqb-turned : (a b : ℕ) (r : Bool) → eqb a b ≡ r → eqb b a ≡ r
eqb-turned a b r h = elim (cases_eq a b) [ inl same ↦ ap₂ eqb (sym same) same ∙ h | inr other ↦ ne_eqb b a (λ e. other (sym e)) ∙ sym (ne_eqb a b other) ∙ h ]
