-- Operations on several tables, one list after another, and what they are to one of the tables.
use Rattle.std.proofs.Common.{◌≡◌, ℕ, suc, zero, ◌+◌, ◌<◌, ◌≤◌, Bool, true, false, ◌||◌, List, [], ◌∷◌, ◌++◌, length, take, drop, get_or, refl, ap, sym, ◌∙◌, subst, arith, append_assoc, eqb, eq-eqb, ne_eqb, inl, inr}
use Rattle.std.proofs.lemmas.Bool.{cases_eq}
use Rattle.std.proofs.lemmas.List.{append-nil}
use Rattle.mope_base.specs.declared.body.Body.{Body}
use Rattle.tree_model.specs.Items.{change_at}
use Rattle.tree_model.specs.Columns.{Operation}
use Rattle.tree_model.proofs.Changes.{length-change_at}
use Rattle.table_model.specs.Stores.{Shelf}
use Rattle.table_model.specs.Steps.{then_steps}
use Rattle.table_model.specs.Operations.{RankOp, InsertAt, DeleteAt, rank_op_on, rank_ops_on, shelf_at, steps_if, op_steps, ops_steps}
use Rattle.table_model.specs.Fitting.{OpFitsAt, AllFitAt}
use Rattle.enc_table.specs.declared.stamps.Stamps.{Stamps}
use Rattle.enc_table.specs.Seen.{no_stamps}
use Rattle.versions.specs.declared.op.Op.{Op}
use Rattle.versions.specs.Databases.{stamps_at}
use Rattle.versions.specs.Drafts.{is_written}
use Rattle.versions.specs.Operations.{rank_op, rank_ops, op_table, stamped, written_at, HasNumber, AllHaveNumbers}

pub rank_ops_on-append : {B : Type 0} (same_time : Bool) (earlier later : List (RankOp B)) (shelves : List (Shelf B)) → rank_ops_on same_time (earlier ++ later) shelves ≡ rank_ops_on same_time later (rank_ops_on same_time earlier shelves)
unfolding rank_ops_on
rank_ops_on-append same_time [] later shelves = refl
rank_ops_on-append same_time (op ∷ earlier) later shelves = rank_ops_on-append same_time earlier later (rank_op_on same_time op shelves)

op-length : {B : Type 0} (same_time : Bool) (op : RankOp B) (shelves : List (Shelf B)) → length (rank_op_on same_time op shelves) ≡ length shelves
unfolding rank_op_on
op-length same_time (InsertAt t places bodies) shelves = length-change_at _ shelves t
op-length same_time (DeleteAt t numbers) shelves = length-change_at _ shelves t

pub ops-length : {B : Type 0} (same_time : Bool) (ops : List (RankOp B)) (shelves : List (Shelf B)) → length (rank_ops_on same_time ops shelves) ≡ length shelves
unfolding rank_ops_on
ops-length same_time [] shelves = refl
ops-length same_time (op ∷ ops) shelves = ops-length same_time ops (rank_op_on same_time op shelves) ∙ op-length same_time op shelves

-- ---- of each column

pub then_steps-at : {B : Type 0} (earlier later : List (List (Operation B))) (column : ℕ) → get_or (then_steps earlier later) column [] ≡ get_or earlier column [] ++ get_or later column []
unfolding then_steps
then_steps-at [] later column = refl
then_steps-at (operations ∷ more) [] column = sym (append-nil (get_or (operations ∷ more) column []))
then_steps-at (operations ∷ more) (next ∷ later) zero = refl
then_steps-at (operations ∷ more) (next ∷ later) (suc column) = then_steps-at more later column

pub steps-append : {B : Type 0} (same_time : Bool) (table column : ℕ) (earlier later : List (RankOp B)) (shelves : List (Shelf B))
    → get_or (ops_steps same_time table (earlier ++ later) shelves) column [] ≡ get_or (ops_steps same_time table earlier shelves) column [] ++ get_or (ops_steps same_time table later (rank_ops_on same_time earlier shelves)) column []
unfolding ops_steps rank_ops_on
steps-append same_time table column [] later shelves = refl
steps-append same_time table column (op ∷ earlier) later shelves =
    let after = rank_op_on same_time op shelves in
    let first = op_steps same_time table op shelves in
    then_steps-at first (ops_steps same_time table (earlier ++ later) after) column
    ∙ ap (λ (rest : List (Operation _)). get_or first column [] ++ rest) (steps-append same_time table column earlier later after)
    ∙ sym (append_assoc (get_or first column []) (get_or (ops_steps same_time table earlier after) column []) (get_or (ops_steps same_time table later (rank_ops_on same_time earlier after)) column []))
    ∙ ap (λ (front : List (Operation _)). front ++ get_or (ops_steps same_time table later (rank_ops_on same_time earlier after)) column []) (sym (then_steps-at first (ops_steps same_time table earlier after) column))

pub steps-one : {B : Type 0} (same_time : Bool) (table column : ℕ) (op : RankOp B) (shelves : List (Shelf B)) → get_or (ops_steps same_time table (op ∷ []) shelves) column [] ≡ get_or (op_steps same_time table op shelves) column []
unfolding ops_steps
steps-one same_time table column op shelves = then_steps-at (op_steps same_time table op shelves) [] column ∙ append-nil (get_or (op_steps same_time table op shelves) column [])

-- ---- the operation at a place, and those before it

pub rank_ops-more : (ops : List Op) (at : ℕ) (op : Op) → at < length ops → op ≡ get_or ops at op → rank_ops (take (suc at) ops) ≡ rank_ops (take at ops) ++ rank_op op ∷ []
unfolding rank_ops
rank_ops-more [] at op h is = absurd (omega (arith, h))
rank_ops-more (x ∷ ops) zero op h is = ap (λ (o : Op). rank_op o ∷ []) (sym is)
rank_ops-more (x ∷ ops) (suc at) op h is = ap (λ (rest : List (RankOp Body)). rank_op x ∷ rest) (rank_ops-more ops at op (omega (arith, h)) is)

pub fits-at : (same_time : Bool) (limit : ℕ) (ops : List Op) (at : ℕ) (op : Op) (shelves : List (Shelf Body)) → AllFitAt same_time limit (rank_ops ops) shelves → at < length ops → op ≡ get_or ops at op → OpFitsAt limit (rank_op op) (rank_ops_on same_time (rank_ops (take at ops)) shelves)
unfolding rank_ops AllFitAt rank_ops_on
fits-at same_time limit [] at op shelves fit h is = absurd (omega (arith, h))
fits-at same_time limit (x ∷ ops) zero op shelves fit h is = subst (λ (o : Op). OpFitsAt limit (rank_op o) shelves) (sym is) fit.0
fits-at same_time limit (x ∷ ops) (suc at) op shelves fit h is = fits-at same_time limit ops at op (rank_op_on same_time (rank_op x) shelves) fit.1 (omega (arith, h)) is

pub numbered-at : (same_time : Bool) (ops : List Op) (at : ℕ) (op : Op) (shelves : List (Shelf Body)) → AllHaveNumbers same_time (rank_ops ops) shelves → at < length ops → op ≡ get_or ops at op → HasNumber (rank_op op) (rank_ops_on same_time (rank_ops (take at ops)) shelves)
unfolding rank_ops AllHaveNumbers rank_ops_on
numbered-at same_time [] at op shelves fit h is = absurd (omega (arith, h))
numbered-at same_time (x ∷ ops) zero op shelves fit h is = subst (λ (o : Op). HasNumber (rank_op o) shelves) (sym is) fit.0
numbered-at same_time (x ∷ ops) (suc at) op shelves fit h is = numbered-at same_time ops at op (rank_op_on same_time (rank_op x) shelves) fit.1 (omega (arith, h)) is

pub fits-take : (same_time : Bool) (limit : ℕ) (ops : List Op) (at : ℕ) (shelves : List (Shelf Body)) → AllFitAt same_time limit (rank_ops ops) shelves → AllFitAt same_time limit (rank_ops (take at ops)) shelves
unfolding rank_ops AllFitAt
fits-take same_time limit [] zero shelves fit = tt
fits-take same_time limit [] (suc at) shelves fit = tt
fits-take same_time limit (x ∷ ops) zero shelves fit = tt
fits-take same_time limit (x ∷ ops) (suc at) shelves fit = (fit.0, fits-take same_time limit ops at (rank_op_on same_time (rank_op x) shelves) fit.1)

-- ---- one table changed

eqb-suc : (a b : ℕ) → eqb (suc a) (suc b) ≡ false → eqb a b ≡ false
eqb-suc a b h = elim (cases_eq a b) [ inl same ↦ absurd (cc (h, eq-eqb (suc a) (suc b) (ap suc same))) | inr other ↦ ne_eqb a b other ]

pub changed-here : {A : Type 0} (f : A → A) (xs : List A) (place : ℕ) (d : A) → place < length xs → get_or (change_at f xs place) place d ≡ f (get_or xs place d)
unfolding change_at
changed-here f [] place d h = absurd (omega (arith, h))
changed-here f (x ∷ xs) zero d h = refl
changed-here f (x ∷ xs) (suc place) d h = changed-here f xs place d (omega (arith, h))

pub changed-other : {A : Type 0} (f : A → A) (xs : List A) (named place : ℕ) (d : A) → eqb named place ≡ false → get_or (change_at f xs named) place d ≡ get_or xs place d
unfolding change_at
changed-other f [] named place d other = refl
changed-other f (x ∷ xs) zero zero d other = absurd (cc (other, eq-eqb 0 0 refl))
changed-other f (x ∷ xs) zero (suc place) d other = refl
changed-other f (x ∷ xs) (suc named) zero d other = refl
changed-other f (x ∷ xs) (suc named) (suc place) d other = changed-other f xs named place d (eqb-suc named place other)

-- ---- an operation on another table

pub op-elsewhere : {B : Type 0} (same_time : Bool) (op : RankOp B) (shelves : List (Shelf B)) (table : ℕ) → eqb (op_table op) table ≡ false → shelf_at (rank_op_on same_time op shelves) table ≡ shelf_at shelves table
unfolding op_table rank_op_on shelf_at
op-elsewhere same_time (InsertAt t places bodies) shelves table other = changed-other _ shelves t table _ other
op-elsewhere same_time (DeleteAt t numbers) shelves table other = changed-other _ shelves t table _ other

pub steps-elsewhere : {B : Type 0} (same_time : Bool) (op : RankOp B) (shelves : List (Shelf B)) (table : ℕ) → eqb (op_table op) table ≡ false → op_steps same_time table op shelves ≡ []
unfolding op_table op_steps steps_if
steps-elsewhere same_time (InsertAt t places bodies) shelves table other = rw other refl
steps-elsewhere same_time (DeleteAt t numbers) shelves table other = rw other refl

-- ---- tables that no operation is on, and those that one is on

either : (a b : Bool) → (a || b) ≡ false → (a ≡ false) × (b ≡ false)
either true b h = absurd (cc h)
either false b h = (refl, h)

pub record Unwritten {B : Type 0} (same_time : Bool) (number table : ℕ) (ops : List (RankOp B)) (shelves : List (Shelf B)) (stamps : List Stamps) : Type 0 where
  pub shelf : shelf_at (rank_ops_on same_time ops shelves) table ≡ shelf_at shelves table
  pub dates : stamps_at (stamped number ops stamps) table ≡ stamps_at stamps table
  pub steps : ops_steps same_time table ops shelves ≡ []

pub unwritten : {B : Type 0} (same_time : Bool) (number table : ℕ) (ops : List (RankOp B)) (shelves : List (Shelf B)) (stamps : List Stamps) → is_written ops table ≡ false → Unwritten same_time number table ops shelves stamps
unfolding is_written rank_ops_on stamped ops_steps then_steps stamps_at
unwritten same_time number table [] shelves stamps h = record { shelf = refl; dates = refl; steps = refl }
unwritten same_time number table (op ∷ ops) shelves stamps h =
    let both = either (eqb (op_table op) table) (is_written ops table) h in
    let rest = unwritten same_time number table ops (rank_op_on same_time op shelves) (change_at (written_at number) stamps (op_table op)) both.1 in
    record {
      shelf = rest.shelf ∙ op-elsewhere same_time op shelves table both.0;
      dates = rest.dates ∙ changed-other (written_at number) stamps (op_table op) table no_stamps both.0;
      steps = rw (steps-elsewhere same_time op shelves table both.0) rest.steps;
    }

written-twice : (number : ℕ) (s : Stamps) → written_at number (written_at number s) ≡ written_at number s
unfolding written_at
written-twice number s = refl

-- the stamps of a table that may have been written already
dates-kept : {B : Type 0} (number table : ℕ) (ops : List (RankOp B)) (stamps : List Stamps) (s : Stamps) → stamps_at stamps table ≡ written_at number s → table < length stamps → stamps_at (stamped number ops stamps) table ≡ written_at number s
unfolding stamped stamps_at
dates-kept number table [] stamps s is h = is
dates-kept number table (op ∷ ops) stamps s is h =
    let changed = change_at (written_at number) stamps (op_table op) in
    let there : table < length changed = omega (arith, h, length-change_at (written_at number) stamps (op_table op)) in
    elim (cases_eq (op_table op) table) [
      | inl same ↦
          dates-kept number table ops changed s
          (ap (λ (t : ℕ). get_or (change_at (written_at number) stamps t) table no_stamps) same ∙ changed-here (written_at number) stamps table no_stamps h ∙ ap (written_at number) is ∙ written-twice number s) there
      | inr other ↦ dates-kept number table ops changed s (changed-other (written_at number) stamps (op_table op) table no_stamps (ne_eqb (op_table op) table other) ∙ is) there
    ]

pub written-dates : {B : Type 0} (number table : ℕ) (ops : List (RankOp B)) (stamps : List Stamps) → is_written ops table ≡ true → table < length stamps → stamps_at (stamped number ops stamps) table ≡ written_at number (stamps_at stamps table)
unfolding is_written stamped stamps_at
written-dates number table [] stamps h there = absurd (cc h)
written-dates number table (op ∷ ops) stamps h there =
    let changed = change_at (written_at number) stamps (op_table op) in
    let within : table < length changed = omega (arith, there, length-change_at (written_at number) stamps (op_table op)) in
    elim (cases_eq (op_table op) table) [
      | inl same ↦
          dates-kept number table ops changed (stamps_at stamps table)
          (ap (λ (t : ℕ). get_or (change_at (written_at number) stamps t) table no_stamps) same ∙ changed-here (written_at number) stamps table no_stamps there) within
      | inr other ↦
          written-dates number table ops changed (subst (λ (b : Bool). (b || is_written ops table) ≡ true) (ne_eqb (op_table op) table other) h) within
          ∙ ap (written_at number) (changed-other (written_at number) stamps (op_table op) table no_stamps (ne_eqb (op_table op) table other))
    ]

-- ---- one operation of a list after the other

pub written-here : (ops : List Op) (i : ℕ) (op : Op) (table : ℕ) → i < length ops → op ≡ get_or ops i op → is_written (rank_ops (drop i ops)) table ≡ (eqb (op_table (rank_op op)) table || is_written (rank_ops (drop (i + 1) ops)) table)
unfolding is_written rank_ops
written-here [] i op table h is = absurd (omega (arith, h))
written-here (x ∷ ops) zero op table h is = ap (λ (o : Op). eqb (op_table (rank_op o)) table || is_written (rank_ops ops) table) (sym is)
written-here (x ∷ ops) (suc i) op table h is =
    let next : suc i + 1 ≡ suc (i + 1) = omega arith in
    written-here ops i op table (omega (arith, h)) is ∙ ap (λ (n : ℕ). eqb (op_table (rank_op op)) table || is_written (rank_ops (drop n (x ∷ ops))) table) (sym next)

pub written-past : (ops : List Op) (i table : ℕ) → length ops ≤ i → is_written (rank_ops (drop i ops)) table ≡ false
unfolding is_written rank_ops
written-past [] zero table h = refl
written-past [] (suc i) table h = refl
written-past (x ∷ ops) zero table h = absurd (omega (arith, h))
written-past (x ∷ ops) (suc i) table h = written-past ops i table (omega (arith, h))
