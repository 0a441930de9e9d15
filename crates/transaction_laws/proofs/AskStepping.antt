-- A statement of a transaction that asks: the walks for its constants, the statement, and what both sides and the world are afterwards.
use Rattle.std.proofs.Common.{◌≡◌, ℕ, ◌+◌, ◌<◌, Bool, List, [], ◌∷◌, ◌++◌, map, length, None, refl, ap, ap₂, ◌∙◌, sym, subst, arith, append-nil, length-append}
use Rattle.std.proofs.lemmas.Bool.{lt-ltb}
use Rattle.mope_base.specs.declared.numbers.TableNo.{TableNo}
use Rattle.table_model.specs.Stores.{Row, Store}
use Rattle.table_model.specs.Soundness.{numbers_of}
use Rattle.table_model.specs.Operations.{ValueOp, DeleteRows, ops_on, placed_op, placed_ops, map_rank_op}
use Rattle.table_model.specs.Fitting.{AllFit}
use Rattle.value_cipher.specs.Cipher.{Cell, value_of}
use Rattle.versions.specs.Databases.{Database}
use Rattle.walk_proto.specs.declared.messages.Exchange.{Exchange}
use Rattle.workload.specs.declared.plain.PlainRow.{PlainRow}
use Rattle.workload.specs.declared.plain.PlainTable.{PlainTable}
use Rattle.workload.specs.declared.plain.PlainDb.{PlainDb}
use Rattle.workload.specs.declared.script.Act.{Act}
use Rattle.workload.specs.declared.script.Act.TheVariants as act
use Rattle.workload.specs.declared.script.Answer.{Answer}
use Rattle.workload.specs.declared.script.Ask.{Ask}
use Rattle.workload.specs.declared.script.Decl.{Decl}
use Rattle.workload.specs.declared.script.Verb.{Verb}
use Rattle.workload.specs.declared.script.Verb.TheVariants as verb
use Rattle.workload.specs.Selection.{selected, answer_about}
use Rattle.workload.specs.PlainDatabase.{table_of}
use Rattle.workload.specs.Outcome.{value_at, left_by, asked, outcome_of}
use Rattle.workload.specs.Transaction.{Work, going, table_named, is_op, with_op, after_outcome, after_act, work_of}
use Rattle.workload.specs.Validity.{IsValidAct, inserted_numbers}
use Rattle.proxy.specs.Client.{Setting, Client}
use Rattle.proxy.specs.Tasks.{Task, asks, constants_of, constants_all, does, looks_then, act_then}
use Rattle.server_conn.specs.Connections.{Mark, Held, Conn, holds}
use Rattle.server_conn.specs.Serving.{after_statement, without_numbers, with_op as keeping_op}
use Rattle.transaction_laws.specs.Meetings.{Meets, doing}
use Rattle.transaction_laws.specs.Walks.{exchanged}
use Rattle.transaction_laws.specs.Constants.{store_at, Shows, walks_log, marks_for, with_marks}
use Rattle.transaction_laws.specs.Queries.{cell_at, rows_about, reply_with, query_request, having_asked, rows_out, ops_about, done_about, with_asked, MayAsk, QueryGoes}
use Rattle.transaction_laws.specs.Transactions.{plain_row, plain_database, Tried, ops_of, tried_by, request_of, reply_of, client_in, kept_op, kept_ops, held_in, client_by, conn_by}
use Rattle.transaction_laws.proofs.Meeting.{meets_then}
use Rattle.transaction_laws.proofs.Walking.{ending_at}
use Rattle.transaction_laws.proofs.Shown.{shown-sound}
use Rattle.transaction_laws.proofs.Querying.{declared-tables, declared-columns, asked-fits, query_meets}
use Rattle.transaction_laws.proofs.PlainTables.{plain-at, plain-about, plain-answer, plain-left}
use Rattle.transaction_laws.proofs.KeptOps.{ops_on-append, kept-append, fit-append, held-same, ops-widths}
use Rattle.transaction_laws.proofs.Statements.{few-constants, constants-within}
use Rattle.transaction_laws.proofs.Stepping.{Runs, Setup, Stepped, at_work, shows-marks, found}

-- ---- what a verb leaves of a transaction

done-base : (v : Verb) (t : TableNo) (numbers : List ℕ) (h : Held) → (done_about v t numbers h).base ≡ h.base
unfolding done_about without_numbers keeping_op
done-base (verb.Rows columns order limit) t numbers h = refl
done-base verb.Count t numbers h = refl
done-base (verb.Min column) t numbers h = refl
done-base (verb.Max column) t numbers h = refl
done-base verb.Delete t [] h = refl
done-base verb.Delete t (n ∷ numbers) h = refl

done-touched : (v : Verb) (t : TableNo) (numbers : List ℕ) (h : Held) → (done_about v t numbers h).touched ≡ h.touched
unfolding done_about without_numbers keeping_op
done-touched (verb.Rows columns order limit) t numbers h = refl
done-touched verb.Count t numbers h = refl
done-touched (verb.Min column) t numbers h = refl
done-touched (verb.Max column) t numbers h = refl
done-touched verb.Delete t [] h = refl
done-touched verb.Delete t (n ∷ numbers) h = refl

done-walk : (v : Verb) (t : TableNo) (numbers : List ℕ) (h : Held) → (done_about v t numbers h).walk ≡ h.walk
unfolding done_about without_numbers keeping_op
done-walk (verb.Rows columns order limit) t numbers h = refl
done-walk verb.Count t numbers h = refl
done-walk (verb.Min column) t numbers h = refl
done-walk (verb.Max column) t numbers h = refl
done-walk verb.Delete t [] h = refl
done-walk verb.Delete t (n ∷ numbers) h = refl

-- its operation is the world's, wherever it is placed
done-ops : (key : List ℕ) (same_time : Bool) (stores : List (Store Cell)) (v : Verb) (t : TableNo) (numbers : List ℕ) (h : Held) → (done_about v t numbers h).ops ≡ h.ops ++ kept_ops key same_time (ops_about v t numbers) stores
unfolding done_about without_numbers keeping_op ops_about rows_out kept_ops placed_ops placed_op map_rank_op kept_op
done-ops key same_time stores (verb.Rows columns order limit) t numbers h = sym (append-nil h.ops)
done-ops key same_time stores verb.Count t numbers h = sym (append-nil h.ops)
done-ops key same_time stores (verb.Min column) t numbers h = sym (append-nil h.ops)
done-ops key same_time stores (verb.Max column) t numbers h = sym (append-nil h.ops)
done-ops key same_time stores verb.Delete t [] h = sym (append-nil h.ops)
done-ops key same_time stores verb.Delete t (n ∷ numbers) h = refl

-- as many operations as on plain tables
one-more : {A B : Type 0} (xs : List A) (ys : List B) (x : A) (y : B) → length xs ≡ length ys → length (xs ++ x ∷ []) ≡ length (ys ++ y ∷ [])
one-more xs ys x y same = length-append xs (x ∷ []) ∙ ap (λ (n : ℕ). n + 1) same ∙ sym (length-append ys (y ∷ []))

none-more : {A B : Type 0} (xs : List A) (ys : List B) → length xs ≡ length ys → length (xs ++ []) ≡ length ys
none-more xs ys same = ap length (append-nil xs) ∙ same

counted-about : (ops : List (ValueOp Cell)) (plain : List Act) (a : Act) (v : Verb) (t : TableNo) (rows : List (Row Cell)) → length ops ≡ length plain → length (ops ++ ops_about v t (numbers_of rows)) ≡ length (with_op (is_op (answer_about cell_at v rows)) plain a)
unfolding ops_about rows_out with_op is_op answer_about numbers_of
counted-about ops plain a (verb.Rows columns order limit) t rows same = none-more ops plain same
counted-about ops plain a verb.Count t rows same = none-more ops plain same
counted-about ops plain a (verb.Min column) t rows same = none-more ops plain same
counted-about ops plain a (verb.Max column) t rows same = none-more ops plain same
counted-about ops plain a verb.Delete t [] same = none-more ops plain same
counted-about ops plain a verb.Delete t (row ∷ rows) same =
    one-more ops plain (DeleteRows t.0 (numbers_of (row ∷ rows))) a same ∙ ap (λ (b : Bool). length (with_op b plain a)) (sym (lt-ltb 0 (length (row ∷ rows)) (omega arith)))

ending_as : (s : Setting) (c : Client) (k : Conn) (log : List Exchange) (client other : Client) (conn : Conn) → client ≡ other → Meets s c k log client conn → Meets s c k log other conn
ending_as s c k log client other conn same m = subst (λ (x : Client). Meets s c k log x conn) same m

module _ (s : Setting) (tables : List Decl) (d : Database) (base : List (Store Cell)) (setup : Setup s tables d) (ask : Ask) (later : List Task) (c : Client) (work : Work) (stores : List (Store Cell)) (ops : List (ValueOp Cell)) (seals : ℕ)
    (runs : Runs s tables d base (at_work work stores ops seals)) (valid : IsValidAct tables (act.Ask ask)) where
  abbrev world : Tried
  world = at_work work stores ops seals

  abbrev held : Held
  held = held_in s.key d base world

  abbrev store : Store Cell
  store = store_at stores ask.table

  abbrev rows : List (Row Cell)
  rows = rows_about ask store

  abbrev marks : List Mark
  marks = marks_for ask.table (constants_all ask.tests) store

  abbrev client : Client
  client = client_in [] c world

  there : ask.table.0 < length stores
  there = omega (arith, valid.0, declared-tables tables stores runs.declared)

  may-ask : MayAsk s tables ask stores (with_marks marks held)
  unfolding with_marks held_in
  may-ask = record {
    shows = shows-marks s.key stores marks held runs.shows;
    closed = refl;
    declared = runs.declared;
    valid = valid;
    few = omega (arith, setup.limit);
    marks = refl;
  }

  walked : Meets s (doing (looks_then ask.table (constants_all ask.tests) (asks ask ∷ later)) client) (holds held) (walks_log s.key ask.table (constants_all ask.tests) store) (doing (asks ask ∷ later) client) (holds (with_marks marks held))
  walked =
      found s d base ask.table (constants_all ask.tests) (asks ask ∷ later) c world runs.shows there
      (constants-within tables ask.table (length store.columns) (declared-columns tables stores ask.table runs.declared there) ask.tests valid.2) (omega (arith, few-constants ask.tests, valid.1))

  goes : QueryGoes s ask later stores rows client (with_marks marks held)
  goes = query_meets s tables ask later stores client (with_marks marks held) may-ask

  abbrev done : List (ValueOp Cell)
  done = ops_about ask.verb ask.table (numbers_of rows)

  abbrev worked : Work
  worked = record {
    answers = work.answers ++ answer_about cell_at ask.verb rows ∷ [];
    copy = plain_database (ops_on d.same_time value_of done stores);
    ops = with_op (is_op (answer_about cell_at ask.verb rows)) work.ops (act.Ask ask);
    touched = work.touched ++ ask.table ∷ [];
  }

  abbrev after : Tried
  after = tried_by s d.same_time (act.Ask ask) (going worked) world

  -- ---- on plain tables

  plain-rows : selected value_at ask (table_of work.copy ask.table).rows ≡ map plain_row rows
  unfolding work_of
  plain-rows =
      ap (λ (db : PlainDb). selected value_at ask (table_of db ask.table).rows) (sym runs.copy) ∙ ap (λ (u : PlainTable). selected value_at ask u.rows) (plain-at stores ask.table there) ∙ plain-about ask store

  plain-copy : left_by ask.verb ask.table (map plain_row rows) work.copy ≡ plain_database (ops_on d.same_time value_of done stores)
  unfolding work_of held_in
  plain-copy =
      ap (left_by ask.verb ask.table (map plain_row rows)) (sym runs.copy)
      ∙ plain-left d.same_time (held_in s.key d base world).base.limit stores ask.verb ask.table rows (shown-sound s.key stores held ask.table runs.shows there) there

  ask-trial : after_act (going work) (act.Ask ask) ≡ going worked
  unfolding after_act outcome_of after_outcome asked table_named
  ask-trial =
      ap (λ (found : List PlainRow). after_outcome work (act.Ask ask) (asked work.copy ask found)) plain-rows
      ∙ ap₂ (λ (a : Answer) (db : PlainDb). going (record { answers = work.answers ++ a ∷ []; copy = db; ops = with_op (is_op a) work.ops (act.Ask ask); touched = work.touched ++ ask.table ∷ [] })) (plain-answer ask.verb rows) plain-copy

  -- ---- client and connection

  asked-client : doing later (having_asked ask.verb rows client) ≡ client_in later c after
  unfolding doing having_asked client_in tried_by work_of inserted_numbers
  asked-client = ap (λ (n : ℕ). record c { tasks = later; looking = None; seals = n; answers = work.answers ++ answer_about cell_at ask.verb rows ∷ [] }) (omega arith)

  abbrev asked_held : Held
  asked_held = with_asked ask rows (with_marks marks held)

  asked-shelves : asked_held.shelves ≡ (held_in s.key d base after).shelves
  unfolding held_in tried_by ops_of with_marks
  asked-shelves = goes.shows.stand.same

  asked-ops : asked_held.ops ≡ (held_in s.key d base after).ops
  unfolding held_in tried_by ops_of with_asked after_statement with_marks
  asked-ops =
      done-ops s.key d.same_time (ops_on d.same_time value_of ops base) ask.verb ask.table (numbers_of rows) (with_marks marks held) ∙ sym (kept-append s.key d.same_time ops done base)

  asked-touched : asked_held.touched ≡ (held_in s.key d base after).touched
  unfolding held_in tried_by with_asked after_statement with_marks work_of
  asked-touched = ap (λ (ts : List TableNo). ts ++ ask.table ∷ []) (done-touched ask.verb ask.table (numbers_of rows) (with_marks marks held))

  asked-same : asked_held ≡ held_in s.key d base after
  unfolding held_in tried_by with_asked after_statement with_marks
  asked-same =
      held-same asked_held (held_in s.key d base after) (done-base ask.verb ask.table (numbers_of rows) (with_marks marks held)) asked-shelves asked-touched asked-ops refl (done-walk ask.verb ask.table (numbers_of rows) (with_marks marks held))

  asked-shows : Shows s.key (ops_on d.same_time value_of done stores) asked_held
  unfolding with_marks held_in
  asked-shows = goes.shows

  asked-fit : AllFit d.same_time value_of d.limit (ops ++ done) base
  unfolding held_in
  asked-fit =
      fit-append d.same_time d.limit ops done base runs.fit (subst (λ (u : List (Store Cell)). AllFit d.same_time value_of d.limit done u) runs.made (asked-fits d.same_time d.limit ask stores (shown-sound s.key stores held ask.table runs.shows there) there))

  asked-runs : Runs s tables d base after
  unfolding tried_by ops_of work_of
  asked-runs = record {
    fit = asked-fit;
    shows = subst (λ (h : Held). Shows s.key (ops_on d.same_time value_of done stores) h) asked-same asked-shows;
    declared = ops-widths d.same_time done stores ∙ runs.declared;
    made = sym (ops_on-append d.same_time ops done base ∙ ap (ops_on d.same_time value_of done) (sym runs.made));
    copy = refl;
    counted = counted-about ops work.ops (act.Ask ask) ask.verb ask.table rows runs.counted;
  }

  asked-step : Stepped s tables d base (act.Ask ask) later c world (going worked)
  unfolding act_then constants_of does table_named request_of reply_of client_by conn_by
  asked-step =
      let start = doing (looks_then ask.table (constants_all ask.tests) (asks ask ∷ later)) client in
      let log = walks_log s.key ask.table (constants_all ask.tests) store ++ exchanged (query_request ask) (reply_with s.key ask.verb rows) ∷ [] in
      record {
        meets = ending_as s start (holds held) log (doing later (having_asked ask.verb rows client)) (client_in later c after) (holds (held_in s.key d base after)) asked-client
            (ending_at s start (holds held) log (doing later (having_asked ask.verb rows client)) (holds asked_held) (holds (held_in s.key d base after)) (ap holds asked-same)
            (meets_then s start (doing (asks ask ∷ later) client) (doing later (having_asked ask.verb rows client)) (holds held) (holds (with_marks marks held)) (holds asked_held)
            (walks_log s.key ask.table (constants_all ask.tests) store) (exchanged (query_request ask) (reply_with s.key ask.verb rows) ∷ []) walked goes.meets));
        runs = asked-runs;
      }

  pub ask_steps : Stepped s tables d base (act.Ask ask) later c world (after_act (going work) (act.Ask ask))
  ask_steps = subst (Stepped s tables d base (act.Ask ask) later c world) (sym ask-trial) asked-step
