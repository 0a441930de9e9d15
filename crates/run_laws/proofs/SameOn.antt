-- Operations on tables that differ from others by balancing alone, where they are on these tables.
use Rattle.std.proofs.Common.{◌≡◌, ℕ, zero, suc, ◌<◌, Bool, true, false, ◌||◌, ◌==◌, List, [], ◌∷◌, map, length, get_or, refl, ap, ap₂, ◌∙◌, sym, subst, inl, inr, arith}
use Rattle.std.proofs.lemmas.Bool.{cases_eq, eq-eqb, true≢false}
use Rattle.std.proofs.lemmas.List.{get_or-map, get_or-set_same, get_or-set_other, length-map}
use Rattle.tree_model.specs.declared.Place.{Place}
use Rattle.tree_model.specs.Columns.{Column, items_of}
use Rattle.tree_model.specs.Items.{change_at}
use Rattle.tree_model.proofs.Changes.{length-change_at, change_at-set}
use Rattle.table_model.specs.Stores.{Row, Store, empty_store}
use Rattle.table_model.specs.Changes.{insert_cells, delete_numbers}
use Rattle.table_model.specs.Soundness.{Sound, Same, numbers_of}
use Rattle.table_model.specs.Operations.{ValueOp, InsertCells, DeleteRows, RankOp, InsertAt, op_on, ops_on, columns_in, rows_in, placed_op, placed_ops, AllSound}
use Rattle.table_model.specs.Fitting.{AllAmong, OpFits, AllFit}
use Rattle.table_model.proofs.SameTables.{places_by-same, same_behaves}
use Rattle.table_model.proofs.Ops.{op-sound}
use Rattle.value_cipher.specs.Cipher.{Cell, value_of}
use Rattle.run_laws.specs.TurnLaws.{store_in, table_written, is_on, SameOn}

-- ---- one table

pub columns-in : (stores : List (Store Cell)) (table : ℕ) → table < length stores → columns_in stores table ≡ (store_in stores table).columns
unfolding columns_in store_in
columns-in stores table lt = get_or-map (λ (t : Store Cell). t.columns) stores table (empty_store Cell 0) [] lt

pub rows-in : (stores : List (Store Cell)) (table : ℕ) → table < length stores → rows_in stores table ≡ (store_in stores table).rows
unfolding rows_in store_in
rows-in stores table lt = get_or-map (λ (t : Store Cell). t.rows) stores table (empty_store Cell 0) [] lt

pub sound-in : (same_time : Bool) (limit : ℕ) (stores : List (Store Cell)) (table : ℕ) → AllSound value_of same_time limit stores → table < length stores → Sound Cell value_of same_time limit (store_in stores table)
unfolding AllSound store_in
sound-in same_time limit [] table sound lt = absurd (omega (arith, lt))
sound-in same_time limit (t ∷ stores) zero sound lt = sound.0
sound-in same_time limit (t ∷ stores) (suc table) sound lt = sound-in same_time limit stores table sound.1 (omega (arith, lt))

pub changed-own : (f : Store Cell → Store Cell) (stores : List (Store Cell)) (table : ℕ) → table < length stores → store_in (change_at f stores table) table ≡ f (store_in stores table)
unfolding store_in
changed-own f stores table lt =
    ap (λ (l : List (Store Cell)). get_or l table (empty_store Cell 0)) (change_at-set f stores table (empty_store Cell 0))
    ∙ get_or-set_same stores table (f (get_or stores table (empty_store Cell 0))) (empty_store Cell 0) lt

pub changed-other : (f : Store Cell → Store Cell) (stores : List (Store Cell)) (table other : ℕ) → (other ≡ table → ⊥) → store_in (change_at f stores table) other ≡ store_in stores other
unfolding store_in
changed-other f stores table other differs =
    ap (λ (l : List (Store Cell)). get_or l other (empty_store Cell 0)) (change_at-set f stores table (empty_store Cell 0))
    ∙ get_or-set_other stores table other (f (get_or stores table (empty_store Cell 0))) (empty_store Cell 0) differs

changed-same : (on : ℕ → Bool) (f : Store Cell → Store Cell) (base stores : List (Store Cell)) (table : ℕ) → table < length base → SameOn on base stores
    → Same Cell (f (store_in base table)) (f (store_in stores table)) → SameOn on (change_at f base table) (change_at f stores table)
changed-same on f base stores table there rel changed =
    let many : length (change_at f base table) ≡ length (change_at f stores table) = length-change_at f base table ∙ rel.many ∙ sym (length-change_at f stores table) in
    record {
      many = many;
      same = λ (i : ℕ) (lt : i < length (change_at f base table)) (is : on i ≡ true).
          elim (cases_eq i table) as (λ _. Same Cell (store_in (change_at f base table) i) (store_in (change_at f stores table) i)) [
            | inl here ↦
                subst (λ (k : ℕ). Same Cell (store_in (change_at f base table) k) (store_in (change_at f stores table) k)) (sym here)
                (subst (λ (t : Store Cell). Same Cell t (store_in (change_at f stores table) table)) (sym (changed-own f base table there))
                (subst (λ (t : Store Cell). Same Cell (f (store_in base table)) t) (sym (changed-own f stores table (omega (arith, there, rel.many)))) changed))
            | inr other ↦
                subst (λ (t : Store Cell). Same Cell t (store_in (change_at f stores table) i)) (sym (changed-other f base table i other))
                (subst (λ (t : Store Cell). Same Cell (store_in base i) t) (sym (changed-other f stores table i other)) (rel.same i (omega (arith, lt, length-change_at f base table)) is))
          ];
    }

-- ---- one operation

there-of : (limit : ℕ) (op : ValueOp Cell) (stores : List (Store Cell)) → OpFits limit op stores → table_written op < length stores
unfolding OpFits table_written
there-of limit (InsertCells table cells) stores fits = fits.there
there-of limit (DeleteRows table numbers) stores fits = fits.there

items-in : (base stores : List (Store Cell)) (table : ℕ) → table < length base → length base ≡ length stores → Same Cell (store_in base table) (store_in stores table) → map items_of (columns_in base table) ≡ map items_of (columns_in stores table)
items-in base stores table lt many same =
    ap (λ (cs : List (Column Cell)). map items_of cs) (columns-in base table lt) ∙ same.items ∙ ap (λ (cs : List (Column Cell)). map items_of cs) (sym (columns-in stores table (omega (arith, lt, many))))

rows-same : (base stores : List (Store Cell)) (table : ℕ) → table < length base → length base ≡ length stores → Same Cell (store_in base table) (store_in stores table) → rows_in base table ≡ rows_in stores table
rows-same base stores table lt many same = rows-in base table lt ∙ same.rows ∙ sym (rows-in stores table (omega (arith, lt, many)))

op-fits : (limit : ℕ) (op : ValueOp Cell) (base stores : List (Store Cell)) → length base ≡ length stores → (table_written op < length base → Same Cell (store_in base (table_written op)) (store_in stores (table_written op))) → OpFits limit op base → OpFits limit op stores
unfolding OpFits table_written
op-fits limit (InsertCells table cells) base stores many same fits =
    let items = items-in base stores table fits.there many (same fits.there) in
    let rows = rows-same base stores table fits.there many (same fits.there) in
    let width : length (columns_in base table) ≡ length (columns_in stores table) = sym (length-map (columns_in base table) items_of) ∙ ap length items ∙ length-map (columns_in stores table) items_of in
    record { there = omega (arith, fits.there, many); wide = fits.wide ∙ width; room = omega (arith, fits.room, ap length rows) }
op-fits limit (DeleteRows table numbers) base stores many same fits =
    let rows = rows-same base stores table fits.there many (same fits.there) in
    record { there = omega (arith, fits.there, many); some = fits.some; rise = fits.rise; live = subst (λ (rows : List (Row Cell)). AllAmong (numbers_of rows) numbers) rows fits.live }

op-placed : (limit : ℕ) (op : ValueOp Cell) (base stores : List (Store Cell)) → length base ≡ length stores → (table_written op < length base → Same Cell (store_in base (table_written op)) (store_in stores (table_written op))) → OpFits limit op base → placed_op value_of op base ≡ placed_op value_of op stores
unfolding OpFits table_written placed_op
op-placed limit (InsertCells table cells) base stores many same fits =
    ap (λ (places : List Place). InsertAt table places cells) (places_by-same value_of (columns_in base table) (columns_in stores table) cells (items-in base stores table fits.there many (same fits.there)))
op-placed limit (DeleteRows table numbers) base stores many same fits = refl

op-same : (on : ℕ → Bool) (same_time : Bool) (limit : ℕ) (op : ValueOp Cell) (base stores : List (Store Cell)) → AllSound value_of same_time limit base → AllSound value_of same_time limit stores → OpFits limit op base → on (table_written op) ≡ true → SameOn on base stores
    → SameOn on (op_on same_time value_of op base) (op_on same_time value_of op stores)
unfolding op_on OpFits table_written
op-same on same_time limit (InsertCells table cells) base stores sound_b sound_s fits is rel =
    changed-same on (insert_cells same_time value_of cells) base stores table fits.there rel
    ((same_behaves value_of same_time limit (store_in base table) (store_in stores table) (sound-in same_time limit base table sound_b fits.there) (sound-in same_time limit stores table sound_s (omega (arith, fits.there, rel.many))) (rel.same table fits.there is)).inserts cells)
op-same on same_time limit (DeleteRows table numbers) base stores sound_b sound_s fits is rel =
    changed-same on (delete_numbers same_time value_of numbers) base stores table fits.there rel
    ((same_behaves value_of same_time limit (store_in base table) (store_in stores table) (sound-in same_time limit base table sound_b fits.there) (sound-in same_time limit stores table sound_s (omega (arith, fits.there, rel.many))) (rel.same table fits.there is)).deletes_each numbers)

-- ---- operations

-- each is on one of these tables
unfoldable pub AllOn : (ℕ → Bool) → List (ValueOp Cell) → Type 0
AllOn on [] = Unit {0}
AllOn on (op ∷ ops) = (on (table_written op) ≡ true) × AllOn on ops

pub record DoSame (on : ℕ → Bool) (same_time : Bool) (limit : ℕ) (ops : List (ValueOp Cell)) (base stores : List (Store Cell)) : Type 0 where
  pub fit : AllFit same_time value_of limit ops stores
  pub placed : placed_ops same_time value_of ops base ≡ placed_ops same_time value_of ops stores
  pub same : SameOn on (ops_on same_time value_of ops base) (ops_on same_time value_of ops stores)

pub do_same : (on : ℕ → Bool) (same_time : Bool) (limit : ℕ) (ops : List (ValueOp Cell)) (base stores : List (Store Cell)) → AllSound value_of same_time limit base → AllSound value_of same_time limit stores → AllOn on ops → AllFit same_time value_of limit ops base → SameOn on base stores
    → DoSame on same_time limit ops base stores
unfolding AllOn AllFit placed_ops ops_on
do_same on same_time limit [] base stores sound_b sound_s all fit rel = record { fit = tt; placed = refl; same = rel }
do_same on same_time limit (op ∷ ops) base stores sound_b sound_s all fit rel =
    let here : table_written op < length base → Same Cell (store_in base (table_written op)) (store_in stores (table_written op)) = λ lt. rel.same (table_written op) lt all.0 in
    let fits : OpFits limit op stores = op-fits limit op base stores rel.many here fit.0 in
    let rest = do_same on same_time limit ops (op_on same_time value_of op base) (op_on same_time value_of op stores)
    (op-sound value_of same_time limit op base sound_b fit.0) (op-sound value_of same_time limit op stores sound_s fits) all.1 fit.1 (op-same on same_time limit op base stores sound_b sound_s fit.0 all.0 rel) in
    record {
      fit = (fits, rest.fit);
      placed = ap₂ (λ (first : RankOp Cell) (more : List (RankOp Cell)). first ∷ more) (op-placed limit op base stores rel.many here fit.0) rest.placed;
      same = rest.same;
    }

-- operations are on the tables that they are on
or-right : (a b : Bool) → b ≡ true → (a || b) ≡ true
or-right true b is = refl
or-right false b is = is

or-left : (a b : Bool) → a ≡ true → (a || b) ≡ true
or-left true b is = refl
or-left false b is = absurd (true≢false (sym is))

all-weaker : (on more : ℕ → Bool) → ((table : ℕ) → on table ≡ true → more table ≡ true) → (ops : List (ValueOp Cell)) → AllOn on ops → AllOn more ops
unfolding AllOn
all-weaker on more weaker [] all = tt
all-weaker on more weaker (op ∷ ops) all = (weaker (table_written op) all.0, all-weaker on more weaker ops all.1)

pub all-on : (ops : List (ValueOp Cell)) → AllOn (is_on ops) ops
unfolding AllOn is_on
all-on [] = tt
all-on (op ∷ ops) = (
  or-left (table_written op == table_written op) (is_on ops (table_written op)) (eq-eqb (table_written op) (table_written op) refl),
  all-weaker (is_on ops) (is_on (op ∷ ops)) (λ (table : ℕ) (is : is_on ops table ≡ true). or-right (table_written op == table) (is_on ops table) is) ops (all-on ops),
)
