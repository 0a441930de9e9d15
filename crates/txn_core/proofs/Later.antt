-- What a commit and an install leave of the version before them.
use Rattle.std.proofs.Common.{◌≡◌, ℕ, suc, zero, ◌<◌, ◌≤◌, Bool, true, false, ◌||◌, List, [], ◌∷◌, length, refl, ap, ◌∙◌, sym, arith, subst, inl, inr, ◌≢◌, eqb, eq-eqb}
use Rattle.std.proofs.lemmas.Bool.{eqb-true, true≢false, false≢true, cases_Bool, cases_lt}
use Rattle.mope_base.specs.declared.body.Body.{Body}
use Rattle.tree_model.specs.Items.{change_at}
use Rattle.tree_model.proofs.Changes.{length-change_at}
use Rattle.table_model.specs.Stores.{Shelf, empty_shelf}
use Rattle.table_model.specs.Changes.{insert_row, delete_rows, lay_column}
use Rattle.table_model.specs.Operations.{RankOp, InsertAt, DeleteAt, rank_op_on, rank_ops_on, rank_install_on, shelf_at}
use Rattle.table_model.specs.ShelfSoundness.{AllSoundShelves}
use Rattle.enc_table.specs.declared.stamps.Stamps.{Stamps}
use Rattle.enc_table.specs.Seen.{no_stamps}
use Rattle.versions.specs.Databases.{Database, IsDatabase, stamps_at}
use Rattle.versions.specs.Operations.{op_table, written_at, stamped, with_ops, laid_at, with_install}
use Rattle.txn_core.specs.Since.{SameShelf, IsSince}
use Rattle.txn_core.proofs.Balanced.{shelf-itself, shelf-then, lay-same}
use Rattle.txn_core.proofs.Repeated.{changed-other}

-- ---- a version since another, and one since that

pub since-then : (base current later : Database) → IsSince base current → IsSince current later → ((table : ℕ) → (stamps_at later.stamps table).written ≤ base.number → (stamps_at current.stamps table).written ≤ base.number) → IsSince base later
since-then base current later first second written =
    record {
      mode = first.mode ∙ second.mode;
      rows = first.rows ∙ second.rows;
      as_many = first.as_many ∙ second.as_many;
      later = omega (arith, first.later, second.later);
      unwritten = λ table h.
          shelf-then (shelf_at base.shelves table) (shelf_at current.shelves table) (shelf_at later.shelves table)
          (first.unwritten table (written table h)) (second.unwritten table (omega (arith, h, first.later)));
    }

-- ---- a commit

is_on : {B : Type 0} → List (RankOp B) → ℕ → Bool
is_on [] table = false
is_on (op ∷ ops) table = eqb (op_table op) table || is_on ops table

stamp-here : (f : Stamps → Stamps) (stamps : List Stamps) (table : ℕ) → table < length stamps → stamps_at (change_at f stamps table) table ≡ f (stamps_at stamps table)
unfolding stamps_at change_at
stamp-here f [] table h = absurd (omega (arith, h))
stamp-here f (s ∷ stamps) zero h = refl
stamp-here f (s ∷ stamps) (suc table) h = stamp-here f stamps table (omega (arith, h))

stamp-other : (f : Stamps → Stamps) (stamps : List Stamps) (t table : ℕ) → t ≢ table → stamps_at (change_at f stamps t) table ≡ stamps_at stamps table
unfolding stamps_at change_at
stamp-other f [] t table other = refl
stamp-other f (s ∷ stamps) zero zero other = absurd (other refl)
stamp-other f (s ∷ stamps) zero (suc table) other = refl
stamp-other f (s ∷ stamps) (suc t) zero other = refl
stamp-other f (s ∷ stamps) (suc t) (suc table) other = stamp-other f stamps t table (λ e. other (ap suc e))

or_is : (a b : Bool) → (a || b) ≡ false → (a ≡ false) × (b ≡ false)
or_is true b h = absurd (true≢false h)
or_is false b h = (refl, h)

op-other : {B : Type 0} (same_time : Bool) (op : RankOp B) (shelves : List (Shelf B)) (table : ℕ) → op_table op ≢ table → shelf_at (rank_op_on same_time op shelves) table ≡ shelf_at shelves table
unfolding rank_op_on op_table
op-other same_time (InsertAt t places bodies) shelves table other = changed-other (insert_row same_time places bodies) shelves t table other
op-other same_time (DeleteAt t numbers) shelves table other = changed-other (delete_rows same_time numbers) shelves t table other

-- a table that no operation is on stays, and so do its stamps
record Untouched (B : Type 0) (same_time : Bool) (number : ℕ) (ops : List (RankOp B)) (shelves : List (Shelf B)) (stamps : List Stamps) (table : ℕ) : Type 0 where
  shelf : shelf_at (rank_ops_on same_time ops shelves) table ≡ shelf_at shelves table
  stamp : stamps_at (stamped number ops stamps) table ≡ stamps_at stamps table

not_eqb : (a b : ℕ) → eqb a b ≡ false → a ≢ b
not_eqb a b h e = false≢true (sym h ∙ eq-eqb a b e)

untouched : {B : Type 0} (same_time : Bool) (number : ℕ) (ops : List (RankOp B)) (shelves : List (Shelf B)) (stamps : List Stamps) (table : ℕ) → is_on ops table ≡ false → Untouched B same_time number ops shelves stamps table
unfolding is_on rank_ops_on stamped
untouched same_time number [] shelves stamps table none = record { shelf = refl; stamp = refl }
untouched same_time number (op ∷ ops) shelves stamps table none =
    let parts = or_is (eqb (op_table op) table) (is_on ops table) none in
    let other = not_eqb (op_table op) table parts.0 in
    let rest = untouched same_time number ops (rank_op_on same_time op shelves) (change_at (written_at number) stamps (op_table op)) table parts.1 in
    record {
      shelf = rest.shelf ∙ op-other same_time op shelves table other;
      stamp = rest.stamp ∙ stamp-other (written_at number) stamps (op_table op) table other;
    }

length-stamped : {B : Type 0} (number : ℕ) (ops : List (RankOp B)) (stamps : List Stamps) → length (stamped number ops stamps) ≡ length stamps
unfolding stamped
length-stamped number [] stamps = refl
length-stamped number (op ∷ ops) stamps = length-stamped number ops (change_at (written_at number) stamps (op_table op)) ∙ length-change_at (written_at number) stamps (op_table op)

-- the last operation on a table, then those after it
last_on : (number table t : ℕ) (stamps : List Stamps) (later : Stamps) → t ≡ table → table < length stamps → later ≡ stamps_at (change_at (written_at number) stamps t) table → later.written ≡ number
unfolding written_at
last_on number table t stamps later e h is =
    let at : stamps_at (change_at (written_at number) stamps t) table ≡ written_at number (stamps_at stamps table)
    = subst (λ (k : ℕ). stamps_at (change_at (written_at number) stamps k) table ≡ written_at number (stamps_at stamps table)) (sym e) (stamp-here (written_at number) stamps table h) in
    ap (λ (s : Stamps). s.written) (is ∙ at)

touched_by : (first rest : Bool) → (first || rest) ≡ true → rest ≡ false → first ≡ true
touched_by true rest h none = refl
touched_by false rest h none = absurd (true≢false (sym h ∙ none))

-- a table that some operation is on is stamped with the number
touched : {B : Type 0} (number : ℕ) (ops : List (RankOp B)) (stamps : List Stamps) (table : ℕ) → table < length stamps → is_on ops table ≡ true → (stamps_at (stamped number ops stamps) table).written ≡ number
unfolding is_on stamped
touched number [] stamps table h on = absurd (false≢true on)
touched {B} number (op ∷ ops) stamps table h on =
    let next = change_at (written_at number) stamps (op_table op) in
    let many : length next ≡ length stamps = length-change_at (written_at number) stamps (op_table op) in
    let bare : List (Shelf B) = [] in
    elim (cases_Bool (is_on ops table)) [
      | inl more ↦ touched number ops next table (omega (arith, h, many)) more
      | inr none ↦
          last_on number table (op_table op) stamps (stamps_at (stamped number ops next) table)
          (eqb-true (op_table op) table (touched_by (eqb (op_table op) table) (is_on ops table) on none)) h
          (untouched false number ops bare next table none).stamp
    ]

shelf-outside : {B : Type 0} (shelves : List (Shelf B)) (table : ℕ) → length shelves ≤ table → shelf_at shelves table ≡ empty_shelf B 0
unfolding shelf_at
shelf-outside [] table h = refl
shelf-outside (s ∷ shelves) zero h = absurd (omega (arith, h))
shelf-outside (s ∷ shelves) (suc table) h = shelf-outside shelves table (omega (arith, h))

pub stamp-outside : (stamps : List Stamps) (table : ℕ) → length stamps ≤ table → stamps_at stamps table ≡ no_stamps
unfolding stamps_at
stamp-outside [] table h = refl
stamp-outside (s ∷ stamps) zero h = absurd (omega (arith, h))
stamp-outside (s ∷ stamps) (suc table) h = stamp-outside stamps table (omega (arith, h))

length-op : {B : Type 0} (same_time : Bool) (op : RankOp B) (shelves : List (Shelf B)) → length (rank_op_on same_time op shelves) ≡ length shelves
unfolding rank_op_on
length-op same_time (InsertAt t places bodies) shelves = length-change_at (insert_row same_time places bodies) shelves t
length-op same_time (DeleteAt t numbers) shelves = length-change_at (delete_rows same_time numbers) shelves t

length-ops : {B : Type 0} (same_time : Bool) (ops : List (RankOp B)) (shelves : List (Shelf B)) → length (rank_ops_on same_time ops shelves) ≡ length shelves
unfolding rank_ops_on
length-ops same_time [] shelves = refl
length-ops same_time (op ∷ ops) shelves = length-ops same_time ops (rank_op_on same_time op shelves) ∙ length-op same_time op shelves

-- a table that a commit didn't stamp: it is one without an operation, or there is no such table
record IsLeft (ops : List (RankOp Body)) (d : Database) (table : ℕ) : Type 0 where
  shelf : shelf_at (with_ops ops d).shelves table ≡ shelf_at d.shelves table
  stamp : stamps_at (with_ops ops d).stamps table ≡ stamps_at d.stamps table

left-outside : (ops : List (RankOp Body)) (d : Database) (table : ℕ) → length d.stamps ≡ length d.shelves → length d.shelves ≤ table → IsLeft ops d table
unfolding with_ops
left-outside ops d table stamps_many h =
    record {
      shelf = shelf-outside (rank_ops_on d.same_time ops d.shelves) table (omega (arith, h, length-ops d.same_time ops d.shelves)) ∙ sym (shelf-outside d.shelves table h);
      stamp = stamp-outside (stamped (suc d.number) ops d.stamps) table (omega (arith, h, stamps_many, length-stamped (suc d.number) ops d.stamps)) ∙ sym (stamp-outside d.stamps table (omega (arith, h, stamps_many)));
    }

left-inside : (ops : List (RankOp Body)) (d : Database) (table : ℕ) → length d.stamps ≡ length d.shelves → table < length d.shelves → (stamps_at (with_ops ops d).stamps table).written ≤ d.number → IsLeft ops d table
unfolding with_ops
left-inside ops d table stamps_many h low =
    elim (cases_Bool (is_on ops table)) [
      | inl on ↦
          let is = touched (suc d.number) ops d.stamps table (omega (arith, h, stamps_many)) on in
          absurd (omega (arith, low, is))
      | inr none ↦
          let rest = untouched d.same_time (suc d.number) ops d.shelves d.stamps table none in
          record { shelf = rest.shelf; stamp = rest.stamp }
    ]

left : (ops : List (RankOp Body)) (d : Database) (table : ℕ) → IsDatabase d → (stamps_at (with_ops ops d).stamps table).written ≤ d.number → IsLeft ops d table
left ops d table database low =
    elim (cases_lt table (length d.shelves)) [
      | inl inside ↦ left-inside ops d table database.stamped inside low
      | inr outside ↦ left-outside ops d table database.stamped outside
    ]

since-ops : (ops : List (RankOp Body)) (d : Database) → IsDatabase d → IsSince d (with_ops ops d)
unfolding with_ops
since-ops ops d database =
    record {
      mode = refl;
      rows = refl;
      as_many = sym (length-ops d.same_time ops d.shelves);
      later = omega arith;
      unwritten = λ table h. subst (λ (s : Shelf Body). SameShelf Body (shelf_at d.shelves table) s) (sym (left ops d table database h).shelf) (shelf-itself (shelf_at d.shelves table));
    }

pub since-commit : (ops : List (RankOp Body)) (base d : Database) → IsDatabase d → IsSince base d → IsSince base (with_ops ops d)
since-commit ops base d database since =
    since-then base d (with_ops ops d) since (since-ops ops d database)
    (λ table h. subst (λ (s : Stamps). s.written ≤ base.number) (left ops d table database (omega (arith, h, since.later))).stamp h)

-- ---- an install

laid-written : (number : ℕ) (stamps : List Stamps) (t table : ℕ) → (stamps_at (change_at (laid_at number) stamps t) table).written ≡ (stamps_at stamps table).written
unfolding stamps_at change_at laid_at
laid-written number [] t table = refl
laid-written number (s ∷ stamps) zero zero = refl
laid-written number (s ∷ stamps) zero (suc table) = refl
laid-written number (s ∷ stamps) (suc t) zero = refl
laid-written number (s ∷ stamps) (suc t) (suc table) = laid-written number stamps t table

laid-same : {B : Type 0} (same_time : Bool) (limit column : ℕ) (shelves : List (Shelf B)) (t table : ℕ) → AllSoundShelves same_time limit shelves → SameShelf B (shelf_at shelves table) (shelf_at (change_at (lay_column same_time column) shelves t) table)
unfolding AllSoundShelves shelf_at change_at
laid-same same_time limit column [] t table sound = shelf-itself _
laid-same same_time limit column (s ∷ shelves) zero zero sound = lay-same same_time limit column s sound.0
laid-same same_time limit column (s ∷ shelves) zero (suc table) sound = shelf-itself _
laid-same same_time limit column (s ∷ shelves) (suc t) zero sound = shelf-itself _
laid-same same_time limit column (s ∷ shelves) (suc t) (suc table) sound = laid-same same_time limit column shelves t table sound.1

since-lay : (table column : ℕ) (d : Database) → IsDatabase d → IsSince d (with_install table column d)
unfolding with_install rank_install_on
since-lay table column d database =
    record {
      mode = refl;
      rows = refl;
      as_many = sym (length-change_at (lay_column d.same_time column) d.shelves table);
      later = omega arith;
      unwritten = λ t h. laid-same d.same_time d.limit column d.shelves table t database.sound;
    }

written-lay : (table column : ℕ) (d : Database) (t : ℕ) → (stamps_at (with_install table column d).stamps t).written ≡ (stamps_at d.stamps t).written
unfolding with_install
written-lay table column d t = laid-written (suc d.number) d.stamps table t

pub since-install : (table column : ℕ) (base d : Database) → IsDatabase d → IsSince base d → IsSince base (with_install table column d)
since-install table column base d database since =
    since-then base d (with_install table column d) since (since-lay table column d database)
    (λ t h. omega (arith, h, written-lay table column d t))
