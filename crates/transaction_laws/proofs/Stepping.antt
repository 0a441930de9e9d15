-- One statement of a transaction: the walks for its constants, the statement, and what both sides and the world are afterwards.
use Rattle.std.proofs.Common.{◌≡◌, ℕ, ◌+◌, ◌<◌, ◌≤◌, ◌^◌, ◌⊎◌, Bool, true, false, ◌||◌, leb, List, [], ◌∷◌, ◌++◌, map, length, refl, ap, ◌∙◌, sym, subst, inl, inr, arith, length-append}
use Rattle.std.proofs.lemmas.Bool.{cases_Bool, or_parts, leb-true, leb-false}
use Rattle.std.proofs.lemmas.List.{length-map}
use Rattle.mope_base.specs.Lists.{Each}
use Rattle.mope_base.specs.declared.numbers.TableNo.{TableNo}
use Rattle.mope_base.specs.declared.numbers.ColNo.{ColNo}
use Rattle.table_model.specs.Stores.{Store}
use Rattle.table_model.specs.Steps.{places_by}
use Rattle.table_model.specs.Changes.{insert_cells}
use Rattle.table_model.specs.Operations.{ValueOp, InsertCells, op_on, ops_on, placed_op, placed_ops, map_rank_op, columns_in}
use Rattle.table_model.specs.Fitting.{AllFit, OpFits}
use Rattle.tree_model.specs.Columns.{Column}
use Rattle.value_cipher.specs.Cipher.{Cell, value_of, sealed}
use Rattle.versions.specs.Databases.{Database}
use Rattle.versions.specs.declared.op.Op.TheVariants as op
use Rattle.walk_proto.specs.declared.messages.Reply.TheVariants as reply
use Rattle.workload.specs.declared.plain.PlainTable.{PlainTable}
use Rattle.workload.specs.declared.plain.PlainDb.{PlainDb}
use Rattle.workload.specs.declared.script.Act.{Act}
use Rattle.workload.specs.declared.script.Act.TheVariants as act
use Rattle.workload.specs.declared.script.Answer.TheVariants as answer
use Rattle.workload.specs.declared.script.Decl.{Decl}
use Rattle.workload.specs.declared.script.End.TheVariants as end
use Rattle.workload.specs.PlainDatabase.{row_limit, table_of, with_table, is_full, with_row as with_plain_row}
use Rattle.workload.specs.Outcome.{inserted, outcome_of}
use Rattle.workload.specs.Transaction.{Work, Trial, going, stopped, table_named, is_op, with_op, after_outcome, after_act, work_of}
use Rattle.workload.specs.Validity.{IsValidDecl, IsValidAct, inserted_numbers}
use Rattle.proxy.specs.Client.{Setting, Client, cells_from, sealing, ending}
use Rattle.proxy.specs.Tasks.{Task, puts_row, constants_of, values_from, does, looks_then, act_then}
use Rattle.server_conn.specs.Connections.{Mark, Held, idle, holds}
use Rattle.server_conn.specs.Serving.{after_statement, with_op as keeping_op}
use Rattle.transaction_laws.specs.Meetings.{Meets, doing}
use Rattle.transaction_laws.specs.Walks.{exchanged}
use Rattle.transaction_laws.specs.Constants.{store_at, Shows, walks_log, marks_for, with_marks}
use Rattle.transaction_laws.specs.Inserts.{cells_of_row, insert_request, having_inserted, with_row, MayInsert, InsertGoes}
use Rattle.transaction_laws.specs.Queries.{AreDeclared}
use Rattle.transaction_laws.specs.Transactions.{plain_row, plain_table, plain_database, Tried, ops_of, tried_by, request_of, reply_of, client_in, kept_op, kept_ops, held_in, client_by, conn_by}
use Rattle.transaction_laws.proofs.Meeting.{meets_then}
use Rattle.transaction_laws.proofs.Walking.{ending_at}
use Rattle.transaction_laws.proofs.FindingConstants.{constants_meet}
use Rattle.transaction_laws.proofs.Inserting.{columns-in, insert-fits, insert_meets, full_meets}
use Rattle.transaction_laws.proofs.Querying.{declared-tables, declared-columns}
use Rattle.transaction_laws.proofs.PlainTables.{plain-at, plain-with, plain-inserted}
use Rattle.transaction_laws.proofs.KeptOps.{ops_on-append, kept-append, fit-append, held-same, ops-widths}
use Rattle.transaction_laws.proofs.Statements.{few-columns, Within, values-within, values-many}

-- what stays true from statement to statement
pub record Runs (s : Setting) (tables : List Decl) (d : Database) (base : List (Store Cell)) (w : Tried) : Type 0 where
  pub shows : Shows s.key w.stores (held_in s.key d base w)
  pub declared : AreDeclared tables w.stores
  pub fit : AllFit d.same_time value_of d.limit w.ops base
  pub made : w.stores ≡ ops_on d.same_time value_of w.ops base
  pub copy : plain_database w.stores ≡ (work_of w.plain).copy
  pub counted : length w.ops ≡ length (work_of w.plain).ops

-- what is the same for all statements of a transaction
pub record Setup (s : Setting) (tables : List Decl) (d : Database) : Type 0 where
  pub valid : Each IsValidDecl tables
  pub limit : d.limit ≡ row_limit

-- what a statement does, by what the transaction is on plain tables after it
pub record Stepped (s : Setting) (tables : List Decl) (d : Database) (base : List (Store Cell)) (a : Act) (later : List Task) (c : Client) (w : Tried) (trial : Trial) : Type 0 where
  pub meets : Meets s (doing (act_then a later) (client_in [] c w)) (holds (held_in s.key d base w)) (walks_log s.key (table_named a) (constants_of a) (store_at w.stores (table_named a)) ++ exchanged (request_of s a w) (reply_of s a trial w) ∷ [])
      (client_by s later c trial (tried_by s d.same_time a trial w)) (conn_by s.key d base trial (tried_by s d.same_time a trial w))
  pub runs : Runs s tables d base (tried_by s d.same_time a trial w)

-- a transaction that goes on
abbrev pub at_work : Work → List (Store Cell) → List (ValueOp Cell) → ℕ → Tried
at_work work stores ops seals = record { plain = going work; stores = stores; ops = ops; seals = seals }

-- ---- the walks

pub shows-marks : (key : List ℕ) (stores : List (Store Cell)) (marks : List Mark) (h : Held) → Shows key stores h → Shows key stores (with_marks marks h)
unfolding with_marks
shows-marks key stores marks h shows = record { stand = shows.stand; low = shows.low }

pub found : (s : Setting) (d : Database) (base : List (Store Cell)) (t : TableNo) (constants : List (ColNo × ℕ)) (later : List Task) (c : Client) (w : Tried) → Shows s.key w.stores (held_in s.key d base w) → t.0 < length w.stores
    → Each (Within (length (store_at w.stores t).columns)) constants → length constants ≤ 16
    → Meets s (doing (looks_then t constants later) (client_in [] c w)) (holds (held_in s.key d base w)) (walks_log s.key t constants (store_at w.stores t)) (doing later (client_in [] c w)) (holds (with_marks (marks_for t constants (store_at w.stores t)) (held_in s.key d base w)))
unfolding held_in
found s d base t constants later c w shows there all few = constants_meet s t constants later w.stores (client_in [] c w) (held_in s.key d base w) shows refl there all (omega (arith, few))

-- ---- an INSERT

either : (a b : Bool) → a || b ≡ true → (a ≡ true) ⊎ (b ≡ true)
either true b is = inl refl
either false b is = inr is

module _ (s : Setting) (tables : List Decl) (d : Database) (base : List (Store Cell)) (setup : Setup s tables d) (t : TableNo) (xs : List ℕ) (later : List Task) (c : Client) (work : Work) (stores : List (Store Cell)) (ops : List (ValueOp Cell)) (seals : ℕ)
    (runs : Runs s tables d base (at_work work stores ops seals)) (valid : IsValidAct tables (act.Insert t xs)) where
  abbrev world : Tried
  world = at_work work stores ops seals

  abbrev held : Held
  held = held_in s.key d base world

  abbrev marks : List Mark
  marks = marks_for t (values_from 0 xs) (store_at stores t)

  there : t.0 < length stores
  there = omega (arith, valid.0, declared-tables tables stores runs.declared)

  wide : length xs ≡ length (store_at stores t).columns
  wide = valid.1 ∙ declared-columns tables stores t runs.declared there

  few : length xs ≤ 8
  few = omega (arith, valid.1, few-columns tables t setup.valid)

  may-insert : MayInsert s t xs stores (with_marks marks held)
  unfolding with_marks held_in
  may-insert = record {
    shows = shows-marks s.key stores marks held runs.shows;
    closed = refl;
    there = there;
    wide = wide;
    narrow = few;
    marks = refl;
  }

  walked : Meets s (doing (looks_then t (values_from 0 xs) (puts_row t xs ∷ later)) (client_in [] c world)) (holds held) (walks_log s.key t (values_from 0 xs) (store_at stores t)) (doing (puts_row t xs ∷ later) (client_in [] c world)) (holds (with_marks marks held))
  walked = found s d base t (values_from 0 xs) (puts_row t xs ∷ later) c world runs.shows there (values-within 0 xs (length (store_at stores t).columns) (omega (arith, wide)) (omega (arith, wide, few))) (omega (arith, values-many 0 xs, few))

  limit-held : (with_marks marks held).base.limit ≡ row_limit
  unfolding with_marks held_in
  limit-held = setup.limit

  none-held : (row_limit ≤ length (store_at stores t).rows) ⊎ (2 ^ 63 ≤ (store_at stores t).next) → ((with_marks marks held).base.limit ≤ length (store_at stores t).rows) ⊎ (2 ^ 63 ≤ (store_at stores t).next)
  none-held none = subst (λ (limit : ℕ). (limit ≤ length (store_at stores t).rows) ⊎ (2 ^ 63 ≤ (store_at stores t).next)) (sym limit-held) none

  stopped-step : (row_limit ≤ length (store_at stores t).rows) ⊎ (2 ^ 63 ≤ (store_at stores t).next) → Stepped s tables d base (act.Insert t xs) later c world (stopped t work)
  unfolding act_then constants_of does table_named request_of reply_of insert_request cells_of_row tried_by client_by conn_by client_in inserted_numbers sealing ending held_in work_of
  stopped-step none = record {
    meets = meets_then s (doing (looks_then t (values_from 0 xs) (puts_row t xs ∷ later)) (client_in [] c world)) (doing (puts_row t xs ∷ later) (client_in [] c world)) (ending s (end.Full t) (sealing xs (client_in [] c world))) (holds held) (holds (with_marks marks held)) idle
        (walks_log s.key t (values_from 0 xs) (store_at stores t)) (exchanged (insert_request s t xs (client_in [] c world)) (reply.No 0 t.0) ∷ []) walked
        (full_meets s t xs later stores (client_in [] c world) (with_marks marks held) may-insert (none-held none));
    runs = record { shows = runs.shows; declared = runs.declared; fit = runs.fit; made = runs.made; copy = runs.copy; counted = runs.counted };
  }

  abbrev cells : List Cell
  cells = cells_from s seals xs

  abbrev worked : Work
  worked = record { answers = work.answers ++ answer.Inserted ∷ []; copy = with_table work.copy t (with_plain_row (table_of work.copy t) xs); ops = work.ops ++ act.Insert t xs ∷ []; touched = work.touched ++ t ∷ [] }

  abbrev after : Tried
  after = tried_by s d.same_time (act.Insert t xs) (going worked) world

  insert-goes : length (store_at stores t).rows < row_limit → (store_at stores t).next < 2 ^ 63 → InsertGoes s t xs later stores (client_in [] c world) (with_marks marks held)
  insert-goes room low = insert_meets s t xs later stores (client_in [] c world) (with_marks marks held) may-insert (subst (λ (limit : ℕ). length (store_at stores t).rows < limit) (sym limit-held) room) low

  insert-kept : kept_ops s.key d.same_time ops base ++ op.Insert t (places_by value_of (store_at stores t).columns cells) (map (sealed s.key) cells) ∷ [] ≡ kept_ops s.key d.same_time (ops ++ InsertCells t.0 cells ∷ []) base
  unfolding kept_ops placed_ops placed_op map_rank_op kept_op
  insert-kept =
      let columns : columns_in (ops_on d.same_time value_of ops base) t.0 ≡ (store_at stores t).columns = ap (λ (u : List (Store Cell)). columns_in u t.0) (sym runs.made) ∙ columns-in stores t there in
      sym (kept-append s.key d.same_time ops (InsertCells t.0 cells ∷ []) base
      ∙ ap (λ (cs : List (Column Cell)). kept_ops s.key d.same_time ops base ++ op.Insert t (places_by value_of cs cells) (map (sealed s.key) cells) ∷ []) columns)

  abbrev inserted_held : Held
  inserted_held = with_row s.key t (cells_of_row s (client_in [] c world) xs) (store_at stores t) (with_marks marks held)

  insert-shelves : InsertGoes s t xs later stores (client_in [] c world) (with_marks marks held) → inserted_held.shelves ≡ (held_in s.key d base after).shelves
  unfolding held_in tried_by ops_of ops_on with_marks cells_of_row client_in
  insert-shelves goes = goes.shows.stand.same

  insert-ops : inserted_held.ops ≡ (held_in s.key d base after).ops
  unfolding held_in tried_by ops_of with_row after_statement keeping_op with_marks cells_of_row client_in
  insert-ops = insert-kept

  insert-held : InsertGoes s t xs later stores (client_in [] c world) (with_marks marks held) → inserted_held ≡ held_in s.key d base after
  unfolding held_in tried_by with_row after_statement keeping_op with_marks work_of
  insert-held goes = held-same inserted_held (held_in s.key d base after) refl (insert-shelves goes) refl insert-ops refl refl

  insert-shows : InsertGoes s t xs later stores (client_in [] c world) (with_marks marks held) → Shows s.key (ops_on d.same_time value_of (InsertCells t.0 cells ∷ []) stores) inserted_held
  unfolding ops_on with_marks held_in cells_of_row client_in
  insert-shows goes = goes.shows

  insert-copy : plain_database (op_on d.same_time value_of (InsertCells t.0 cells) stores) ≡ with_table work.copy t (with_plain_row (table_of work.copy t) xs)
  unfolding op_on work_of
  insert-copy =
      plain-with (insert_cells d.same_time value_of cells) stores t (with_plain_row (plain_table (store_at stores t)) xs) there (plain-inserted s d.same_time (store_at stores t) seals xs)
      ∙ ap (λ (u : PlainTable). with_table (plain_database stores) t (with_plain_row u xs)) (sym (plain-at stores t there))
      ∙ ap (λ (db : PlainDb). with_table db t (with_plain_row (table_of db t) xs)) runs.copy

  insert-fit : length (store_at stores t).rows < row_limit → AllFit d.same_time value_of d.limit (ops ++ InsertCells t.0 cells ∷ []) base
  unfolding AllFit OpFits with_marks held_in
  insert-fit room =
      let one = insert-fits s t xs stores seals (with_marks marks held) may-insert (subst (λ (limit : ℕ). length (store_at stores t).rows < limit) (sym limit-held) room) in
      fit-append d.same_time d.limit ops (InsertCells t.0 cells ∷ []) base runs.fit (subst (λ (u : List (Store Cell)). AllFit d.same_time value_of d.limit (InsertCells t.0 cells ∷ []) u) runs.made (one, tt))

  going-runs : length (store_at stores t).rows < row_limit → InsertGoes s t xs later stores (client_in [] c world) (with_marks marks held) → Runs s tables d base after
  unfolding tried_by ops_of ops_on work_of
  going-runs room goes = record {
    fit = insert-fit room;
    shows = subst (λ (h : Held). Shows s.key (ops_on d.same_time value_of (InsertCells t.0 cells ∷ []) stores) h) (insert-held goes) (insert-shows goes);
    declared = ops-widths d.same_time (InsertCells t.0 cells ∷ []) stores ∙ runs.declared;
    made = sym (ops_on-append d.same_time ops (InsertCells t.0 cells ∷ []) base ∙ ap (ops_on d.same_time value_of (InsertCells t.0 cells ∷ [])) (sym runs.made));
    copy = insert-copy;
    counted = length-append ops (InsertCells t.0 cells ∷ []) ∙ ap (λ (n : ℕ). n + 1) runs.counted ∙ sym (length-append work.ops (act.Insert t xs ∷ []));
  }

  going-step : length (store_at stores t).rows < row_limit → (store_at stores t).next < 2 ^ 63 → Stepped s tables d base (act.Insert t xs) later c world (going worked)
  unfolding act_then constants_of does table_named request_of reply_of insert_request cells_of_row client_by conn_by client_in inserted_numbers having_inserted tried_by work_of doing
  going-step room low =
      let goes = insert-goes room low in
      record {
        meets = ending_at s (doing (looks_then t (values_from 0 xs) (puts_row t xs ∷ later)) (client_in [] c world)) (holds held) (walks_log s.key t (values_from 0 xs) (store_at stores t) ++ exchanged (insert_request s t xs (client_in [] c world)) (reply.Count 1) ∷ []) (doing later (having_inserted xs (client_in [] c world))) (holds inserted_held) (holds (held_in s.key d base after)) (ap holds (insert-held goes))
            (meets_then s (doing (looks_then t (values_from 0 xs) (puts_row t xs ∷ later)) (client_in [] c world)) (doing (puts_row t xs ∷ later) (client_in [] c world)) (doing later (having_inserted xs (client_in [] c world))) (holds held) (holds (with_marks marks held)) (holds inserted_held)
            (walks_log s.key t (values_from 0 xs) (store_at stores t)) (exchanged (insert_request s t xs (client_in [] c world)) (reply.Count 1) ∷ []) walked goes.meets);
        runs = going-runs room goes;
      }

  -- by whether the plain table is full
  plain-full : is_full (table_of work.copy t) ≡ leb row_limit (length (store_at stores t).rows) || leb (2 ^ 63) (store_at stores t).next
  unfolding is_full plain_table work_of
  plain-full =
      ap (λ (db : PlainDb). is_full (table_of db t)) (sym runs.copy) ∙ ap is_full (plain-at stores t there)
      ∙ ap (λ (n : ℕ). leb row_limit n || leb (2 ^ 63) (store_at stores t).next) (length-map (store_at stores t).rows plain_row)

  insert-trial : (b : Bool) → is_full (table_of work.copy t) ≡ b → after_act (going work) (act.Insert t xs) ≡ after_outcome work (act.Insert t xs) (inserted b work.copy t xs)
  unfolding after_act outcome_of
  insert-trial b is = ap (λ (x : Bool). after_outcome work (act.Insert t xs) (inserted x work.copy t xs)) is

  full-trial : after_outcome work (act.Insert t xs) (inserted true work.copy t xs) ≡ stopped t work
  unfolding after_outcome inserted table_named
  full-trial = refl

  going-trial : after_outcome work (act.Insert t xs) (inserted false work.copy t xs) ≡ going worked
  unfolding after_outcome inserted table_named with_op is_op
  going-trial = refl

  none-left : leb row_limit (length (store_at stores t).rows) || leb (2 ^ 63) (store_at stores t).next ≡ true → (row_limit ≤ length (store_at stores t).rows) ⊎ (2 ^ 63 ≤ (store_at stores t).next)
  none-left is = elim (either (leb row_limit (length (store_at stores t).rows)) (leb (2 ^ 63) (store_at stores t).next) is) [
    | inl rows ↦ inl (leb-true row_limit (length (store_at stores t).rows) rows)
    | inr numbers ↦ inr (leb-true (2 ^ 63) (store_at stores t).next numbers)
  ]

  pub insert_steps : Stepped s tables d base (act.Insert t xs) later c world (after_act (going work) (act.Insert t xs))
  insert_steps = elim (cases_Bool (is_full (table_of work.copy t))) [
    | inl is ↦ subst (Stepped s tables d base (act.Insert t xs) later c world) (sym (insert-trial true is ∙ full-trial)) (stopped-step (none-left (sym plain-full ∙ is)))
    | inr is ↦
        let parts = or_parts (leb row_limit (length (store_at stores t).rows)) (leb (2 ^ 63) (store_at stores t).next) (sym plain-full ∙ is) in
        subst (Stepped s tables d base (act.Insert t xs) later c world) (sym (insert-trial false is ∙ going-trial)) (going-step (leb-false row_limit (length (store_at stores t).rows) parts.0) (leb-false (2 ^ 63) (store_at stores t).next parts.1))
  ]
