-- What operations and installs leave of the tables of a world, in clear and by stamps.
use Rattle.std.proofs.Common.{◌≡◌, ℕ, zero, suc, ◌≤◌, Bool, true, false, ◌==◌, List, [], ◌∷◌, map, length, get_or, set, refl, ap, ap₂, ◌∙◌, sym, inl, inr, arith}
use Rattle.std.proofs.lemmas.Bool.{cases_Bool, cases_lt, eq-eqb, or_parts, true≢false}
use Rattle.std.proofs.lemmas.List.{length-map, map-set, get_or_past}
use Rattle.std.proofs.Math.ListN.{get_or-map as get_or-map_all}
use Rattle.tree_model.specs.Items.{change_at}
use Rattle.tree_model.proofs.Changes.{length-change_at, change_at-set, map-change_at}
use Rattle.table_model.specs.Stores.{Store, empty_store}
use Rattle.table_model.specs.Changes.{insert_cells, delete_numbers, lay_store}
use Rattle.table_model.specs.Soundness.{Same}
use Rattle.table_model.specs.Operations.{ValueOp, InsertCells, DeleteRows, RankOp, op_on, ops_on, install_on, placed_op, placed_ops}
use Rattle.table_model.proofs.Rows.{length-operate}
use Rattle.table_model.proofs.SameTables.{same_is_equivalence}
use Rattle.value_cipher.specs.Cipher.{Cell, value_of}
use Rattle.enc_table.specs.declared.stamps.Stamps.{Stamps}
use Rattle.versions.specs.Operations.{op_table, written_at, stamped, laid_at}
use Rattle.workload.specs.declared.plain.PlainDb.{PlainDb}
use Rattle.workload.specs.declared.plain.PlainRow.{PlainRow}
use Rattle.workload.specs.declared.plain.PlainTable.{PlainTable}
use Rattle.workload.specs.declared.script.Act.{Act}
use Rattle.workload.specs.PlainDatabase.{empty_table}
use Rattle.workload.specs.Run.{Stamps as PlainStamps, unstamped, names, merged, stamped as plain_stamped}
use Rattle.workload.specs.Transaction.{Work, table_named}
use Rattle.transaction_laws.specs.Transactions.{plain_row, plain_table, plain_database}
use Rattle.plain_db.proofs.TableOutcomes.{at, size, same_databases}
use Rattle.plain_db.proofs.MergeLemmas.{size-merged, at-merged, at-merged_other}
use Rattle.run_laws.specs.TurnLaws.{store_in, table_written, is_on, SameOn}
use Rattle.run_laws.proofs.SameOn.{changed-other}
use Rattle.run_laws.proofs.Written.{number_named, Writes, writes-on}

-- ---- as many tables

length-op : (same_time : Bool) (op : ValueOp Cell) (stores : List (Store Cell)) → length (op_on same_time value_of op stores) ≡ length stores
unfolding op_on
length-op same_time (InsertCells table cells) stores = length-change_at (insert_cells same_time value_of cells) stores table
length-op same_time (DeleteRows table numbers) stores = length-change_at (delete_numbers same_time value_of numbers) stores table

pub length-ops : (same_time : Bool) (ops : List (ValueOp Cell)) (stores : List (Store Cell)) → length (ops_on same_time value_of ops stores) ≡ length stores
unfolding ops_on
length-ops same_time [] stores = refl
length-ops same_time (op ∷ ops) stores = length-ops same_time ops (op_on same_time value_of op stores) ∙ length-op same_time op stores

pub length-install : (same_time : Bool) (table column : ℕ) (stores : List (Store Cell)) → length (install_on same_time table column stores) ≡ length stores
unfolding install_on
length-install same_time table column stores = length-change_at (lay_store same_time column) stores table

-- ---- other tables stay

differs : (a b : ℕ) → (a == b) ≡ false → b ≡ a → ⊥
differs a b unequal same = true≢false (sym (eq-eqb a b (sym same)) ∙ unequal)

op-other : (same_time : Bool) (op : ValueOp Cell) (stores : List (Store Cell)) (table : ℕ) → (table_written op == table) ≡ false → store_in (op_on same_time value_of op stores) table ≡ store_in stores table
unfolding op_on table_written
op-other same_time (InsertCells t cells) stores table other = changed-other (insert_cells same_time value_of cells) stores t table (differs t table other)
op-other same_time (DeleteRows t numbers) stores table other = changed-other (delete_numbers same_time value_of numbers) stores t table (differs t table other)

pub ops-other : (same_time : Bool) (ops : List (ValueOp Cell)) (stores : List (Store Cell)) (table : ℕ) → is_on ops table ≡ false → store_in (ops_on same_time value_of ops stores) table ≡ store_in stores table
unfolding ops_on is_on
ops-other same_time [] stores table other = refl
ops-other same_time (op ∷ ops) stores table other =
    let parts : ((table_written op == table) ≡ false) × (is_on ops table ≡ false) = or_parts (table_written op == table) (is_on ops table) other in
    ops-other same_time ops (op_on same_time value_of op stores) table parts.1 ∙ op-other same_time op stores table parts.0

pub install-same : (same_time : Bool) (table column : ℕ) (stores : List (Store Cell)) (other : ℕ) → Same Cell (store_in stores other) (store_in (install_on same_time table column stores) other)
unfolding install_on store_in change_at
install-same same_time table column [] other = (same_is_equivalence Cell).reflexive (empty_store Cell 0)
install-same same_time zero column (t ∷ stores) zero = (same_is_equivalence Cell).symmetric (lay_store same_time column t) t ((same_is_equivalence Cell).laid same_time column t)
install-same same_time zero column (t ∷ stores) (suc other) = (same_is_equivalence Cell).reflexive (get_or stores other (empty_store Cell 0))
install-same same_time (suc table) column (t ∷ stores) zero = (same_is_equivalence Cell).reflexive t
install-same same_time (suc table) column (t ∷ stores) (suc other) = install-same same_time table column stores other

-- ---- in clear

empty-plain : (let t : PlainTable = plain_table (empty_store Cell 0) in t) ≡ empty_table
unfolding plain_table empty_store empty_table
empty-plain = refl

pub plain-in : (stores : List (Store Cell)) (i : ℕ) → at (plain_database stores) i ≡ plain_table (store_in stores i)
unfolding at plain_database store_in
plain-in stores i = ap (λ (d : PlainTable). get_or (map plain_table stores) i d) (sym empty-plain) ∙ get_or-map_all plain_table stores i (empty_store Cell 0)

pub plain-size : (stores : List (Store Cell)) → size (plain_database stores) ≡ length stores
unfolding size plain_database
plain-size stores = length-map stores plain_table

pub same-plain : (t u : Store Cell) → Same Cell t u → plain_table t ≡ plain_table u
unfolding plain_table
same-plain t u same = ap₂ (λ (rows : List PlainRow) (next : ℕ). let p : PlainTable = record { rows = rows; next = next } in p) (ap (map plain_row) same.rows) same.next

past-in : (stores : List (Store Cell)) (i : ℕ) → length stores ≤ i → store_in stores i ≡ empty_store Cell 0
unfolding store_in
past-in stores i past = get_or_past stores i (empty_store Cell 0) past

-- what a commit makes in clear: the tables that the operations are on are the copy's
pub merged-plain : (same_time : Bool) (ops : List (ValueOp Cell)) (work : Work) (base stores : List (Store Cell)) → Writes ops work → SameOn (is_on ops) (ops_on same_time value_of ops base) (ops_on same_time value_of ops stores)
    → plain_database (ops_on same_time value_of ops base) ≡ work.copy → plain_database (ops_on same_time value_of ops stores) ≡ merged work.ops work.copy (plain_database stores)
merged-plain same_time ops work base stores writes same copy =
    let made : List (Store Cell) = ops_on same_time value_of ops stores in
    let sizes : size work.copy ≡ size (plain_database stores) =
    ap size (sym copy) ∙ plain-size (ops_on same_time value_of ops base) ∙ same.many ∙ length-ops same_time ops stores ∙ sym (plain-size stores) in
    same_databases (plain_database made) (merged work.ops work.copy (plain_database stores))
    (plain-size made ∙ length-ops same_time ops stores ∙ sym (plain-size stores) ∙ sym (size-merged work.ops work.copy (plain_database stores)))
    (λ (i : ℕ). elim (cases_Bool (names (map table_named work.ops) i)) as (λ _. at (plain_database made) i ≡ at (merged work.ops work.copy (plain_database stores)) i) [
      | inl named ↦ plain-in made i ∙ sym (own i named) ∙ sym (plain-in (ops_on same_time value_of ops base) i) ∙ ap (λ (db : PlainDb). at db i) copy ∙ sym (at-merged work.ops work.copy (plain_database stores) i sizes named)
      | inr unnamed ↦ plain-in made i ∙ ap plain_table (ops-other same_time ops stores i (writes-on ops work i writes ∙ unnamed)) ∙ sym (plain-in stores i) ∙ sym (at-merged_other work.ops work.copy (plain_database stores) i unnamed)
    ])
  where
    own : (i : ℕ) → names (map table_named work.ops) i ≡ true → plain_table (store_in (ops_on same_time value_of ops base) i) ≡ plain_table (store_in (ops_on same_time value_of ops stores) i)
    own i named =
        elim (cases_lt i (length (ops_on same_time value_of ops base))) as (λ _. plain_table (store_in (ops_on same_time value_of ops base) i) ≡ plain_table (store_in (ops_on same_time value_of ops stores) i)) [
          | inl within ↦ same-plain (store_in (ops_on same_time value_of ops base) i) (store_in (ops_on same_time value_of ops stores) i) (same.same i within (writes-on ops work i writes ∙ named))
          | inr past ↦ ap plain_table (past-in (ops_on same_time value_of ops base) i past ∙ sym (past-in (ops_on same_time value_of ops stores) i (omega (arith, past, same.many))))
        ]

pub install-plain : (same_time : Bool) (table column : ℕ) (stores : List (Store Cell)) → plain_database (install_on same_time table column stores) ≡ plain_database stores
unfolding install_on plain_database plain_table lay_store
install-plain same_time table column stores =
    ap (λ (tables : List PlainTable). let db : PlainDb = record { tables = tables } in db) (map-change_at plain_table (lay_store same_time column) (λ (t : Store Cell). refl) stores table)

-- ---- as declared

pub install-widths : (same_time : Bool) (table column : ℕ) (stores : List (Store Cell)) → map (λ (store : Store Cell). length store.columns) (install_on same_time table column stores) ≡ map (λ (store : Store Cell). length store.columns) stores
unfolding install_on lay_store
install-widths same_time table column stores = map-change_at (λ (store : Store Cell). length store.columns) (lay_store same_time column) (λ (t : Store Cell). length-operate same_time _ t.columns) stores table

-- ---- stamps

unfoldable pub seen_stamps : PlainStamps → Stamps
seen_stamps stamps = record { written = stamps.written; laid = stamps.laid }

changed-seen : (f : Stamps → Stamps) (g : PlainStamps → PlainStamps) → ((x : PlainStamps) → f (seen_stamps x) ≡ seen_stamps (g x)) → (stamps : List PlainStamps) (table : ℕ) → change_at f (map seen_stamps stamps) table ≡ map seen_stamps (set stamps table (g (get_or stamps table unstamped)))
changed-seen f g same stamps table =
    change_at-set f (map seen_stamps stamps) table (seen_stamps unstamped)
    ∙ ap (λ (x : Stamps). set (map seen_stamps stamps) table x) (ap f (get_or-map_all seen_stamps stamps table unstamped) ∙ same (get_or stamps table unstamped))
    ∙ sym (map-set seen_stamps stamps table (g (get_or stamps table unstamped)))

placed-tables : (same_time : Bool) (ops : List (ValueOp Cell)) (stores : List (Store Cell)) → map op_table (placed_ops same_time value_of ops stores) ≡ map table_written ops
unfolding placed_ops placed_op op_table table_written
placed-tables same_time [] stores = refl
placed-tables same_time (InsertCells table cells ∷ ops) stores = ap (λ (rest : List ℕ). table ∷ rest) (placed-tables same_time ops (op_on same_time value_of (InsertCells table cells) stores))
placed-tables same_time (DeleteRows table numbers ∷ ops) stores = ap (λ (rest : List ℕ). table ∷ rest) (placed-tables same_time ops (op_on same_time value_of (DeleteRows table numbers) stores))

head_or : List ℕ → ℕ → ℕ
head_or [] d = d
head_or (x ∷ xs) d = x

tail_of : List ℕ → List ℕ
tail_of [] = []
tail_of (x ∷ xs) = xs

stamped-seen : (number : ℕ) (ops : List (RankOp Cell)) (plain : List Act) (stamps : List PlainStamps) → map op_table ops ≡ map number_named plain → stamped number ops (map seen_stamps stamps) ≡ map seen_stamps (plain_stamped plain number stamps)
unfolding stamped plain_stamped head_or tail_of written_at seen_stamps
stamped-seen number [] [] stamps same = refl
stamped-seen number [] (a ∷ plain) stamps same = absurd (omega (arith, ap length same))
stamped-seen number (op ∷ ops) [] stamps same = absurd (omega (arith, ap length same))
stamped-seen number (op ∷ ops) (a ∷ plain) stamps same =
    let here : op_table op ≡ number_named a = ap (λ (l : List ℕ). head_or l 0) same in
    ap (λ (table : ℕ). stamped number ops (change_at (written_at number) (map seen_stamps stamps) table)) here
    ∙ ap (λ (l : List Stamps). stamped number ops l) (changed-seen (written_at number) (λ (x : PlainStamps). record x { written = number }) (λ (x : PlainStamps). refl) stamps (number_named a))
    ∙ stamped-seen number ops plain (set stamps (number_named a) (record (get_or stamps (number_named a) unstamped) { written = number })) (ap tail_of same)

pub commit-seen : (number : ℕ) (same_time : Bool) (ops : List (ValueOp Cell)) (work : Work) (stores : List (Store Cell)) (stamps : List PlainStamps) → Writes ops work
    → stamped number (placed_ops same_time value_of ops stores) (map seen_stamps stamps) ≡ map seen_stamps (plain_stamped work.ops number stamps)
commit-seen number same_time ops work stores stamps writes = stamped-seen number (placed_ops same_time value_of ops stores) work.ops stamps (placed-tables same_time ops stores ∙ writes.tables)

pub install-seen : (number table : ℕ) (stamps : List PlainStamps) → change_at (laid_at number) (map seen_stamps stamps) table ≡ map seen_stamps (set stamps table (record (get_or stamps table unstamped) { laid = number }))
unfolding laid_at seen_stamps
install-seen number table stamps = changed-seen (laid_at number) (λ (x : PlainStamps). record x { laid = number }) (λ (x : PlainStamps). refl) stamps table
