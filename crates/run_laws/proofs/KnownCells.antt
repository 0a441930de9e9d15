-- Tables, operations and exchanges over cells whose seals are of a kind.
use Rattle.std.proofs.Common.{◌≡◌, ℕ, zero, suc, ◌<◌, Bool, true, false, eqb, ltb, List, [], ◌∷◌, ◌++◌, map, flat_map, length, get_or, replicate, refl, ap, ap₂, ◌∙◌, sym, subst, arith}
use Rattle.std.proofs.lemmas.List.{length-map, map-append, append_assoc}
use Rattle.std.proofs.Math.ListN.{get_or-map as get_or-map_all}
use Rattle.mope_base.specs.Lists.{Each}
use Rattle.mope_base.specs.declared.body.Body.{Body}
use Rattle.mope_base.specs.declared.numbers.TableNo.{TableNo}
use Rattle.mope_base.specs.declared.numbers.ColNo.{ColNo}
use Rattle.tree_model.specs.declared.Side.TheVariants.{Left, Right}
use Rattle.tree_model.specs.Trees.{Tree, leaf, node, map_tree}
use Rattle.tree_model.specs.Items.{Item, map_item}
use Rattle.tree_model.specs.Columns.{Column, empty_column, map_column}
use Rattle.tree_model.proofs.Changes.{map-change_at_other}
use Rattle.table_model.specs.Stores.{Row, Store, empty_store, map_row, map_store}
use Rattle.table_model.specs.Changes.{lay_store}
use Rattle.table_model.specs.Soundness.{column_at, AllWide}
use Rattle.table_model.specs.Operations.{ValueOp, InsertCells, DeleteRows, ops_on, op_on, install_on, placed_op, placed_ops, map_op, map_rank_op}
use Rattle.table_model.proofs.StoreMaps.{stores_map}
use Rattle.table_model.proofs.Ops.{operations_are_blind}
use Rattle.enc_table.specs.Rows.{no_body}
use Rattle.value_cipher.specs.Cipher.{Cell, value_of, sealed}
use Rattle.walk_proto.specs.declared.messages.Exchange.{Exchange}
use Rattle.walk_proto.specs.declared.messages.Reply.TheVariants as reply
use Rattle.walk_proto.specs.declared.messages.Request.{Request}
use Rattle.walk_proto.specs.declared.messages.Request.TheVariants as request
use Rattle.workload.specs.declared.script.Ask.{Ask}
use Rattle.workload.specs.declared.script.Verb.{Verb}
use Rattle.workload.specs.declared.script.Verb.TheVariants as verb
use Rattle.workload.specs.declared.script.Decl.{Decl}
use Rattle.workload.specs.declared.script.Workload.{Workload}
use Rattle.workload.specs.Selection.{selected}
use Rattle.workload.specs.Validity.{column_count, IsValidVerb}
use Rattle.workload.proofs.MapLemmas.{selected-map}
use Rattle.transaction_laws.specs.Constants.{store_at, walks_log}
use Rattle.transaction_laws.specs.Queries.{cell_at, rows_about, bodies_of, reply_with, rows_out, ops_about}
use Rattle.transaction_laws.specs.Transactions.{kept_op, kept_ops}
use Rattle.transaction_laws.specs.Walks.{exchanged, value_in, onward_by, walk_log}
use Rattle.plain_db.proofs.EachLemmas.{each-append}
use Rattle.run_laws.specs.Worlds.{RunSetting, widths_of, first_world}
use Rattle.run_laws.specs.CellLaws.{request_bodies, reply_bodies, log_bodies, sent_bodies, op_bodies, ops_bodies}

-- a cell whose seal is of a kind
pub record Known (key : List ℕ) (Q : Body → Type 0) : Type 0 where
  pub cell : Cell
  pub is : Q (sealed key cell)

unfoldable pub cell_in : (key : List ℕ) (Q : Body → Type 0) → Known key Q → Cell
cell_in key Q k = k.cell

pub record KnownCells (key : List ℕ) (Q : Body → Type 0) (cells : List Cell) : Type 0 where
  pub known : List (Known key Q)
  pub are : cells ≡ map (cell_in key Q) known

pub record KnownStores (key : List ℕ) (Q : Body → Type 0) (stores : List (Store Cell)) : Type 0 where
  pub known : List (Store (Known key Q))
  pub are : stores ≡ map (map_store (cell_in key Q)) known

pub record KnownOps (key : List ℕ) (Q : Body → Type 0) (ops : List (ValueOp Cell)) : Type 0 where
  pub known : List (ValueOp (Known key Q))
  pub are : ops ≡ map (map_op (cell_in key Q)) known

pub log-append : (log more : List Exchange) → log_bodies (log ++ more) ≡ log_bodies log ++ log_bodies more
unfolding log_bodies
log-append [] more = refl
log-append (e ∷ log) more =
    ap (λ (l : List Body). request_bodies e.request ++ reply_bodies e.reply ++ l) (log-append log more)
    ∙ sym (append_assoc (request_bodies e.request ++ reply_bodies e.reply) (log_bodies log) (log_bodies more))

pub sent-append : (log more : List Exchange) → sent_bodies (log ++ more) ≡ sent_bodies log ++ sent_bodies more
unfolding sent_bodies
sent-append [] more = refl
sent-append (e ∷ log) more = ap (λ (l : List Body). request_bodies e.request ++ l) (sent-append log more) ∙ sym (append_assoc (request_bodies e.request) (sent_bodies log) (sent_bodies more))

row-wide : {A B : Type 0} (g : A → B) (row : Row A) (width : ℕ) → length (map_row g row).cells ≡ width → length row.cells ≡ width
unfolding map_row
row-wide g row width wide = sym (length-map row.cells g) ∙ wide

module _ (key : List ℕ) (Q : Body → Type 0) where
  abbrev f : Known key Q → Cell
  f = cell_in key Q

  -- ---- tables

  column-empty : (let c : Column Cell = map_column f (empty_column (Known key Q)) in c) ≡ empty_column Cell
  unfolding map_column map_tree empty_column
  column-empty = refl

  columns-empty : (n : ℕ) → replicate n (empty_column Cell) ≡ map (map_column f) (replicate n (empty_column (Known key Q)))
  columns-empty zero = refl
  columns-empty (suc n) = ap₂ (λ (c : Column Cell) (cs : List (Column Cell)). c ∷ cs) (sym column-empty) (columns-empty n)

  store-empty : (n : ℕ) → (let t : Store Cell = empty_store Cell n in t) ≡ map_store f (empty_store (Known key Q) n)
  unfolding empty_store map_store
  store-empty n = ap (λ (cs : List (Column Cell)). let t : Store Cell = record { rows = []; next = 1; columns = cs } in t) (columns-empty n)

  stores-empty : (widths : List ℕ) → map (empty_store Cell) widths ≡ map (map_store f) (map (empty_store (Known key Q)) widths)
  stores-empty [] = refl
  stores-empty (n ∷ widths) = ap₂ (λ (t : Store Cell) (ts : List (Store Cell)). t ∷ ts) (store-empty n) (stores-empty widths)

  pub first-known : (s : RunSetting) (w : Workload) → KnownStores key Q (first_world s w).stores
  unfolding first_world
  first-known s w = record { known = map (empty_store (Known key Q)) (widths_of w); are = stores-empty (widths_of w) }

  pub ops-known : (same_time : Bool) (ops : List (ValueOp Cell)) (stores : List (Store Cell)) → KnownOps key Q ops → KnownStores key Q stores → KnownStores key Q (ops_on same_time value_of ops stores)
  ops-known same_time ops stores on tables = record {
    known = ops_on same_time (λ (k : Known key Q). value_of (f k)) on.known tables.known;
    are = ap₂ (λ (o : List (ValueOp Cell)) (t : List (Store Cell)). ops_on same_time value_of o t) on.are tables.are ∙ (operations_are_blind f value_of same_time).by_value on.known tables.known;
  }

  pub install-known : (same_time : Bool) (table column : ℕ) (stores : List (Store Cell)) → KnownStores key Q stores → KnownStores key Q (install_on same_time table column stores)
  unfolding install_on
  install-known same_time table column stores tables = record {
    known = install_on same_time table column tables.known;
    are = ap (install_on same_time table column) tables.are
        ∙ map-change_at_other (map_store f) (lay_store same_time column) (lay_store same_time column) (λ (t : Store (Known key Q)). sym ((stores_map f value_of same_time t).lays column)) tables.known table;
  }

  -- ---- operations

  pub ops-none : KnownOps key Q []
  ops-none = record { known = []; are = refl }

  pub ops-more : (ops more : List (ValueOp Cell)) → KnownOps key Q ops → KnownOps key Q more → KnownOps key Q (ops ++ more)
  ops-more ops more a b = record { known = a.known ++ b.known; are = ap₂ (λ (x y : List (ValueOp Cell)). x ++ y) a.are b.are ∙ sym (map-append (map_op f) a.known b.known) }

  pub insert-known : (t : ℕ) (cells : List Cell) → KnownCells key Q cells → KnownOps key Q (InsertCells t cells ∷ [])
  unfolding map_op
  insert-known t cells known = record { known = InsertCells t known.known ∷ []; are = ap (λ (l : List Cell). InsertCells t l ∷ []) known.are }

  out-known : (t : TableNo) (numbers : List ℕ) → KnownOps key Q (rows_out t numbers)
  unfolding rows_out map_op
  out-known t [] = ops-none
  out-known t (number ∷ numbers) = record { known = DeleteRows t.0 (number ∷ numbers) ∷ []; are = refl }

  pub about-known : (v : Verb) (t : TableNo) (numbers : List ℕ) → KnownOps key Q (ops_about v t numbers)
  unfolding ops_about
  about-known (verb.Rows columns order limit) t numbers = ops-none
  about-known verb.Count t numbers = ops-none
  about-known (verb.Min column) t numbers = ops-none
  about-known (verb.Max column) t numbers = ops-none
  about-known verb.Delete t numbers = out-known t numbers

  -- ---- bodies

  body-known : (k : Known key Q) → Q (sealed key (f k))
  unfolding cell_in
  body-known k = k.is

  pub bodies-known : (known : List (Known key Q)) → Each Q (map (sealed key) (map f known))
  unfolding Each
  bodies-known [] = tt
  bodies-known (k ∷ known) = (body-known k, bodies-known known)

  pub cells-sealed : (cells : List Cell) → KnownCells key Q cells → Each Q (map (sealed key) cells)
  cells-sealed cells known = subst (λ (l : List Cell). Each Q (map (sealed key) l)) (sym known.are) (bodies-known known.known)

  kept-of : (same_time : Bool) (known : List (ValueOp (Known key Q))) (stores : List (Store Cell)) → Each Q (ops_bodies (kept_ops key same_time (map (map_op f) known) stores))
  unfolding kept_ops placed_ops placed_op map_op map_rank_op kept_op ops_bodies op_bodies Each
  kept-of same_time [] stores = tt
  kept-of same_time (InsertCells t cells ∷ known) stores =
      each-append Q (map (sealed key) (map f cells)) _ (bodies-known cells) (kept-of same_time known (op_on same_time value_of (InsertCells t (map f cells)) stores))
  kept-of same_time (DeleteRows t numbers ∷ known) stores = kept-of same_time known (op_on same_time value_of (DeleteRows t numbers) stores)

  pub kept-known : (same_time : Bool) (ops : List (ValueOp Cell)) (stores : List (Store Cell)) → KnownOps key Q ops → Each Q (ops_bodies (kept_ops key same_time ops stores))
  kept-known same_time ops stores on = subst (λ (l : List (ValueOp Cell)). Each Q (ops_bodies (kept_ops key same_time l stores))) (sym on.are) (kept-of same_time on.known stores)

  -- ---- exchanges

  pub said-known : (e : Exchange) (log : List Exchange) → Each Q (request_bodies e.request) → Each Q (reply_bodies e.reply) → Each Q (log_bodies log) → Each Q (log_bodies (e ∷ log))
  unfolding log_bodies
  said-known e log asked answered rest =
      each-append Q (request_bodies e.request ++ reply_bodies e.reply) (log_bodies log) (each-append Q (request_bodies e.request) (reply_bodies e.reply) asked answered) rest

  pub log-more : (log more : List Exchange) → Each Q (log_bodies log) → Each Q (log_bodies more) → Each Q (log_bodies (log ++ more))
  log-more log more first second = subst (Each Q) (sym (log-append log more)) (each-append Q (log_bodies log) (log_bodies more) first second)

  nothing : Each Q []
  unfolding Each
  nothing = tt

  none-asked : (r : Request) → request_bodies r ≡ [] → Each Q (request_bodies r)
  unfolding Each
  none-asked r none = subst (Each Q) (sym none) tt

  onward-known : (here below : Bool) (left right : List Exchange) → Each Q (log_bodies left) → Each Q (log_bodies right) → Each Q (log_bodies (onward_by here below left right))
  unfolding onward_by log_bodies request_bodies reply_bodies exchanged Each
  onward-known true below left right one two = tt
  onward-known false true left right one two = one
  onward-known false false left right one two = two

  walk-known : (x : ℕ) (r : Request) → request_bodies r ≡ [] → (tree : Tree (Item (Known key Q))) → Each Q (log_bodies (walk_log key x r (map_tree (map_item f) tree)))
  unfolding walk_log map_tree map_item Each request_bodies exchanged reply_bodies log_bodies
  walk-known x r none leaf = said-known (exchanged r reply.Placed) [] (none-asked r none) nothing nothing
  walk-known x r none (node left item right) =
      let lower : List Exchange = walk_log key x (request.Go Left) (map_tree (map_item f) left) in
      let upper : List Exchange = walk_log key x (request.Go Right) (map_tree (map_item f) right) in
      let here : Bool = eqb x (value_in (map_item f item)) in
      let below : Bool = ltb x (value_in (map_item f item)) in
      said-known (exchanged r (reply.Node (sealed key (f item.body)))) (onward_by here below lower upper) (none-asked r none) (body-known item.body, tt)
      (onward-known here below lower upper (walk-known x (request.Go Left) refl left) (walk-known x (request.Go Right) refl right))

  column-at : (cs : List (Column (Known key Q))) (column : ℕ) → column_at (map (map_column f) cs) column ≡ map_column f (column_at cs column)
  unfolding column_at
  column-at cs column = ap (λ (d : Column Cell). get_or (map (map_column f) cs) column d) (sym column-empty) ∙ get_or-map_all (map_column f) cs column (empty_column (Known key Q))

  store-at : (stores : List (Store (Known key Q))) (t : TableNo) → store_at (map (map_store f) stores) t ≡ map_store f (get_or stores t.0 (empty_store (Known key Q) 0))
  unfolding store_at
  store-at stores t = ap (λ (d : Store Cell). get_or (map (map_store f) stores) t.0 d) (store-empty 0) ∙ get_or-map_all (map_store f) stores t.0 (empty_store (Known key Q) 0)

  walks-of : (t : TableNo) (constants : List (ColNo × ℕ)) (store : Store (Known key Q)) → Each Q (log_bodies (walks_log key t constants (map_store f store)))
  unfolding walks_log map_store map_column Each log_bodies request_bodies
  walks-of t [] store = tt
  walks-of t (constant ∷ constants) store =
      log-more (walk_log key constant.1 (request.WalkStart t constant.0) (column_at (map (map_column f) store.columns) constant.0.0).tree) (walks_log key t constants (map_store f store))
      (subst (λ (c : Column Cell). Each Q (log_bodies (walk_log key constant.1 (request.WalkStart t constant.0) c.tree))) (sym (column-at store.columns constant.0.0))
      (walk-known constant.1 (request.WalkStart t constant.0) refl (column_at store.columns constant.0.0).tree)) (walks-of t constants store)

  pub walks-known : (t : TableNo) (constants : List (ColNo × ℕ)) (stores : List (Store Cell)) → KnownStores key Q stores → Each Q (log_bodies (walks_log key t constants (store_at stores t)))
  walks-known t constants stores tables =
      subst (λ (store : Store Cell). Each Q (log_bodies (walks_log key t constants store))) (sym (ap (λ (l : List (Store Cell)). store_at l t) tables.are ∙ store-at tables.known t))
      (walks-of t constants (get_or tables.known t.0 (empty_store (Known key Q) 0)))

  -- ---- rows

  record WideRow (width : ℕ) : Type 0 where
    row : Row (Known key Q)
    wide : length row.cells ≡ width

  row_in : (width : ℕ) → WideRow width → Row Cell
  row_in width r = map_row f r.row

  record WideRows (width : ℕ) (rows : List (Row Cell)) : Type 0 where
    known : List (WideRow width)
    are : rows ≡ map (row_in width) known

  wide-rows : (width : ℕ) (rows : List (Row (Known key Q))) → AllWide width (map (map_row f) rows) → WideRows width (map (map_row f) rows)
  unfolding AllWide row_in
  wide-rows width [] wide = record { known = []; are = refl }
  wide-rows width (row ∷ rows) wide =
      let rest : WideRows width (map (map_row f) rows) = wide-rows width rows wide.1 in
      record { known = record { row = row; wide = row-wide f row width wide.0 } ∷ rest.known; are = ap (λ (l : List (Row Cell)). map_row f row ∷ l) rest.are }

  get-known : (known : List (Known key Q)) (i : ℕ) → i < length known → Q (get_or (map (sealed key) (map f known)) i no_body)
  get-known [] i lt = absurd (omega (arith, lt))
  get-known (k ∷ known) zero lt = body-known k
  get-known (k ∷ known) (suc i) lt = get-known known i (omega (arith, lt))

  row-known : (width : ℕ) (columns : List ColNo) → Each (λ (column : ColNo). column.0 < width) columns → (r : WideRow width) → Each Q (bodies_of key columns (row_in width r))
  unfolding bodies_of Each row_in map_row
  row-known width [] within r = tt
  row-known width (column ∷ columns) within r = (get-known r.row.cells column.0 (omega (arith, within.0, r.wide)), row-known width columns within.1 r)

  rows-bodies : (width : ℕ) (columns : List ColNo) → Each (λ (column : ColNo). column.0 < width) columns → (rows : List (WideRow width)) → Each Q (flat_map (bodies_of key columns) (map (row_in width) rows))
  unfolding Each
  rows-bodies width columns within [] = tt
  rows-bodies width columns within (r ∷ rows) = each-append Q (bodies_of key columns (row_in width r)) (flat_map (bodies_of key columns) (map (row_in width) rows)) (row-known width columns within r) (rows-bodies width columns within rows)

  about-wide : (width : ℕ) (ask : Ask) (rows : List (Row Cell)) → WideRows width rows → WideRows width (selected cell_at ask rows)
  about-wide width ask rows wide = record {
    known = selected (λ (column : ColNo) (r : WideRow width). cell_at column (row_in width r)) ask wide.known;
    are = ap (selected cell_at ask) wide.are ∙ selected-map (row_in width) (λ (column : ColNo) (r : WideRow width). cell_at column (row_in width r)) cell_at (λ column r. refl) ask wide.known;
  }

  reply-of : (tables : List Decl) (t : TableNo) (v : Verb) (rows : List (WideRow (column_count tables t))) → IsValidVerb tables t v → Each Q (reply_bodies (reply_with key v (map (row_in (column_count tables t)) rows)))
  unfolding reply_with reply_bodies Each
  reply-of tables t (verb.Rows columns order limit) rows valid = rows-bodies (column_count tables t) columns valid.2 rows
  reply-of tables t verb.Count rows valid = tt
  reply-of tables t (verb.Min column) rows valid = rows-bodies (column_count tables t) (column ∷ []) (valid, tt) rows
  reply-of tables t (verb.Max column) rows valid = rows-bodies (column_count tables t) (column ∷ []) (valid, tt) rows
  reply-of tables t verb.Delete rows valid = tt

  about-of : (tables : List Decl) (ask : Ask) (store : Store (Known key Q)) → AllWide (column_count tables ask.table) (map_store f store).rows → IsValidVerb tables ask.table ask.verb → Each Q (reply_bodies (reply_with key ask.verb (rows_about ask (map_store f store))))
  unfolding rows_about map_store
  about-of tables ask store wide valid =
      let width : ℕ = column_count tables ask.table in
      let about : WideRows width (selected cell_at ask (map (map_row f) store.rows)) = about-wide width ask (map (map_row f) store.rows) (wide-rows width store.rows wide) in
      subst (λ (l : List (Row Cell)). Each Q (reply_bodies (reply_with key ask.verb l))) (sym about.are) (reply-of tables ask.table ask.verb about.known valid)

  pub reply-known : (tables : List Decl) (ask : Ask) (stores : List (Store Cell)) → KnownStores key Q stores → AllWide (column_count tables ask.table) (store_at stores ask.table).rows → IsValidVerb tables ask.table ask.verb
      → Each Q (reply_bodies (reply_with key ask.verb (rows_about ask (store_at stores ask.table))))
  reply-known tables ask stores tables_known wide valid =
      let is : store_at stores ask.table ≡ map_store f (get_or tables_known.known ask.table.0 (empty_store (Known key Q) 0)) = ap (λ (l : List (Store Cell)). store_at l ask.table) tables_known.are ∙ store-at tables_known.known ask.table in
      subst (λ (store : Store Cell). Each Q (reply_bodies (reply_with key ask.verb (rows_about ask store)))) (sym is)
      (about-of tables ask (get_or tables_known.known ask.table.0 (empty_store (Known key Q) 0)) (subst (λ (store : Store Cell). AllWide (column_count tables ask.table) store.rows) is wide) valid)

  -- ---- cells

  pub cells-known : (cells : List Cell) → Each Q (map (sealed key) cells) → KnownCells key Q cells
  unfolding Each cell_in
  cells-known [] all = record { known = []; are = refl }
  cells-known (c ∷ cells) all =
      let rest : KnownCells key Q cells = cells-known cells all.1 in
      let one : Known key Q = record { cell = c; is = all.0 } in
      record { known = one ∷ rest.known; are = ap (λ (l : List Cell). c ∷ l) rest.are }
