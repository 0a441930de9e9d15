-- Operations of a world's transaction, one after the other; and what they leave as it is.
use Rattle.std.proofs.Common.{◌≡◌, ℕ, zero, suc, Bool, List, [], ◌∷◌, ◌++◌, map, length, Option, refl, ap, ◌∙◌}
use Rattle.std.proofs.lemmas.List.{map-append}
use Rattle.mope_base.specs.declared.body.Body.{Body}
use Rattle.mope_base.specs.declared.numbers.TableNo.{TableNo}
use Rattle.tree_model.specs.Items.{change_at}
use Rattle.table_model.specs.Stores.{Store, Shelf}
use Rattle.table_model.specs.Steps.{adds, drops, places_by}
use Rattle.table_model.specs.Stores.{ranks_by}
use Rattle.table_model.specs.Changes.{insert_cells, delete_number, delete_numbers, cells_of}
use Rattle.table_model.specs.Operations.{ValueOp, InsertCells, DeleteRows, RankOp, op_on, ops_on, placed_op, placed_ops, map_rank_op}
use Rattle.table_model.specs.Fitting.{AllFit}
use Rattle.table_model.proofs.Rows.{length-operate}
use Rattle.value_cipher.specs.Cipher.{Cell, value_of, sealed}
use Rattle.versions.specs.Databases.{Database}
use Rattle.versions.specs.declared.op.Op.{Op}
use Rattle.server_conn.specs.Connections.{Mark, Walk, Held}
use Rattle.transaction_laws.specs.Transactions.{kept_op, kept_ops}

-- ---- one after the other

placed-append : (same_time : Bool) (ops more : List (ValueOp Cell)) (stores : List (Store Cell)) → placed_ops same_time value_of (ops ++ more) stores ≡ placed_ops same_time value_of ops stores ++ placed_ops same_time value_of more (ops_on same_time value_of ops stores)
unfolding placed_ops ops_on
placed-append same_time [] more stores = refl
placed-append same_time (o ∷ ops) more stores = ap (λ (rest : List (RankOp Cell)). placed_op value_of o stores ∷ rest) (placed-append same_time ops more (op_on same_time value_of o stores))

pub ops_on-append : (same_time : Bool) (ops more : List (ValueOp Cell)) (stores : List (Store Cell)) → ops_on same_time value_of (ops ++ more) stores ≡ ops_on same_time value_of more (ops_on same_time value_of ops stores)
unfolding ops_on
ops_on-append same_time [] more stores = refl
ops_on-append same_time (o ∷ ops) more stores = ops_on-append same_time ops more (op_on same_time value_of o stores)

pub kept-append : (key : List ℕ) (same_time : Bool) (ops more : List (ValueOp Cell)) (stores : List (Store Cell)) → kept_ops key same_time (ops ++ more) stores ≡ kept_ops key same_time ops stores ++ kept_ops key same_time more (ops_on same_time value_of ops stores)
unfolding kept_ops
kept-append key same_time ops more stores =
    let seal : RankOp Cell → RankOp Body = map_rank_op (sealed key) in
    let first = placed_ops same_time value_of ops stores in
    let second = placed_ops same_time value_of more (ops_on same_time value_of ops stores) in
    ap (λ (placed : List (RankOp Cell)). map kept_op (map seal placed)) (placed-append same_time ops more stores)
    ∙ ap (map kept_op) (map-append seal first second) ∙ map-append kept_op (map seal first) (map seal second)

pub fit-append : (same_time : Bool) (limit : ℕ) (ops more : List (ValueOp Cell)) (stores : List (Store Cell)) → AllFit same_time value_of limit ops stores → AllFit same_time value_of limit more (ops_on same_time value_of ops stores) → AllFit same_time value_of limit (ops ++ more) stores
unfolding AllFit ops_on
fit-append same_time limit [] more stores first second = second
fit-append same_time limit (o ∷ ops) more stores first second = (first.0, fit-append same_time limit ops more (op_on same_time value_of o stores) first.1 second)

-- ---- a transaction by its fields

pub held-same : (h k : Held) → h.base ≡ k.base → h.shelves ≡ k.shelves → h.touched ≡ k.touched → h.ops ≡ k.ops → h.marks ≡ k.marks → h.walk ≡ k.walk → h ≡ k
held-same h k base shelves touched ops marks walk =
    ap (λ (x : Database). record h { base = x }) base
    ∙ ap (λ (x : List (Shelf Body)). record h { base = k.base; shelves = x }) shelves
    ∙ ap (λ (x : List TableNo). record h { base = k.base; shelves = k.shelves; touched = x }) touched
    ∙ ap (λ (x : List Op). record h { base = k.base; shelves = k.shelves; touched = k.touched; ops = x }) ops
    ∙ ap (λ (x : List Mark). record h { base = k.base; shelves = k.shelves; touched = k.touched; ops = k.ops; marks = x }) marks
    ∙ ap (λ (x : Option Walk). record k { walk = x }) walk

-- ---- tables keep their columns

abbrev width_of : Store Cell → ℕ
width_of store = length store.columns

widths-changed : (f : Store Cell → Store Cell) (stores : List (Store Cell)) (i : ℕ) → ((store : Store Cell) → width_of (f store) ≡ width_of store) → map width_of (change_at f stores i) ≡ map width_of stores
unfolding change_at
widths-changed f [] i same = refl
widths-changed f (store ∷ stores) zero same = ap (λ (n : ℕ). n ∷ map width_of stores) (same store)
widths-changed f (store ∷ stores) (suc i) same = ap (λ (ns : List ℕ). width_of store ∷ ns) (widths-changed f stores i same)

insert-width : (same_time : Bool) (cells : List Cell) (store : Store Cell) → width_of (insert_cells same_time value_of cells store) ≡ width_of store
unfolding insert_cells
insert-width same_time cells store = length-operate same_time (adds (places_by value_of store.columns cells) cells) store.columns

delete-width : (same_time : Bool) (number : ℕ) (store : Store Cell) → width_of (delete_number same_time value_of number store) ≡ width_of store
unfolding delete_number
delete-width same_time number store = length-operate same_time (drops (ranks_by value_of store.columns (cells_of number store.rows))) store.columns

deletes-width : (same_time : Bool) (numbers : List ℕ) (store : Store Cell) → width_of (delete_numbers same_time value_of numbers store) ≡ width_of store
unfolding delete_numbers
deletes-width same_time [] store = refl
deletes-width same_time (number ∷ numbers) store = deletes-width same_time numbers (delete_number same_time value_of number store) ∙ delete-width same_time number store

op-widths : (same_time : Bool) (o : ValueOp Cell) (stores : List (Store Cell)) → map width_of (op_on same_time value_of o stores) ≡ map width_of stores
unfolding op_on
op-widths same_time (InsertCells t cells) stores = widths-changed (insert_cells same_time value_of cells) stores t (insert-width same_time cells)
op-widths same_time (DeleteRows t numbers) stores = widths-changed (delete_numbers same_time value_of numbers) stores t (deletes-width same_time numbers)

pub ops-widths : (same_time : Bool) (ops : List (ValueOp Cell)) (stores : List (Store Cell)) → map width_of (ops_on same_time value_of ops stores) ≡ map width_of stores
unfolding ops_on
ops-widths same_time [] stores = refl
ops-widths same_time (o ∷ ops) stores = ops-widths same_time ops (op_on same_time value_of o stores) ∙ op-widths same_time o stores
