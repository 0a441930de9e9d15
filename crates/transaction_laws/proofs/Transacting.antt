-- A whole transaction: its begin, its statements one after the other, and its end.
use Rattle.std.proofs.Common.{◌≡◌, ℕ, suc, ◌+◌, ◌<◌, Bool, true, false, List, [], ◌∷◌, ◌++◌, map, length, None, refl, ap, ◌∙◌, sym, subst, arith, append_assoc, append-nil}
use Rattle.mope_base.specs.Lists.{Each}
use Rattle.mope_base.specs.declared.body.Body.{Body}
use Rattle.mope_base.specs.declared.numbers.TableNo.{TableNo}
use Rattle.mope_base.specs.declared.numbers.ColNo.{ColNo}
use Rattle.table_model.specs.Stores.{Store, Shelf}
use Rattle.table_model.specs.Operations.{ValueOp, ops_on, placed_ops}
use Rattle.table_model.specs.Fitting.{AllFit}
use Rattle.value_cipher.specs.Cipher.{Cell, value_of}
use Rattle.versions.specs.Databases.{Database}
use Rattle.walk_proto.specs.declared.messages.Exchange.{Exchange}
use Rattle.workload.specs.declared.plain.PlainDb.{PlainDb}
use Rattle.workload.specs.declared.script.Act.{Act}
use Rattle.workload.specs.declared.script.Act.TheVariants as act
use Rattle.workload.specs.declared.script.Answer.{Answer}
use Rattle.workload.specs.declared.script.Decl.{Decl}
use Rattle.workload.specs.declared.script.Piece.TheVariants as piece
use Rattle.workload.specs.Run.{names}
use Rattle.workload.specs.Outcome.{Outcome, full, answered, outcome_of}
use Rattle.workload.specs.Transaction.{Work, Trial, going, stopped, table_named, started, with_op, is_op, after_outcome, after_act, after_acts, trial_of, work_of, wish_after}
use Rattle.workload.specs.Validity.{IsValidAct, inserted_numbers}
use Rattle.proxy.specs.Client.{Setting, Client, closed_by}
use Rattle.proxy.specs.Tasks.{Task, closes, rebuilds, acts_of, last_task, act_then, acts_then, tasks_of}
use Rattle.server_conn.specs.Connections.{held_on, Conn, idle, begins, holds, wants_begin}
use Rattle.server_conn.specs.Serving.{began}
use Rattle.walk_proto.specs.declared.messages.How.TheVariants as how
use Rattle.walk_proto.specs.declared.messages.Reply.TheVariants as reply
use Rattle.walk_proto.specs.declared.messages.Request.TheVariants as request
use Rattle.transaction_laws.specs.Meetings.{Meets, doing}
use Rattle.transaction_laws.specs.Constants.{store_at}
use Rattle.transaction_laws.specs.Ends.{MeetsTurn, begun_on, EndsAtOnce, HasOps, HasColumnOf}
use Rattle.transaction_laws.specs.Transactions.{plain_database, Tried, tried_on, ops_of, tried_by, act_tried, unless_stopped, acts_tried, act_log, acts_log, client_in, kept_ops, held_in, client_by, conn_by, EndsAs, EndsBy, MayRun, TransactionMeets, RebuildMeets}
use Rattle.transaction_laws.proofs.Meeting.{meets_nothing, meets_then}
use Rattle.transaction_laws.proofs.Walking.{along}
use Rattle.transaction_laws.proofs.Shown.{shown-table, shown-column}
use Rattle.transaction_laws.proofs.Querying.{declared-tables, declared-columns}
use Rattle.transaction_laws.proofs.Ending.{begin_meets, close_meets, commit_meets, conflict_meets, install_meets, stale_meets}
use Rattle.transaction_laws.proofs.Stepping.{Runs, Setup, Stepped, at_work, insert_steps}
use Rattle.transaction_laws.proofs.AskStepping.{ask_steps}

-- ---- one statement

act_steps : (s : Setting) (tables : List Decl) (d : Database) (base : List (Store Cell)) → Setup s tables d → (a : Act) (later : List Task) (c : Client) (work : Work) (stores : List (Store Cell)) (ops : List (ValueOp Cell)) (seals : ℕ)
    → Runs s tables d base (at_work work stores ops seals) → IsValidAct tables a → Stepped s tables d base a later c (at_work work stores ops seals) (after_act (going work) a)
act_steps s tables d base setup (act.Insert t xs) later c work stores ops seals runs valid = insert_steps s tables d base setup t xs later c work stores ops seals runs valid
act_steps s tables d base setup (act.Ask ask) later c work stores ops seals runs valid = ask_steps s tables d base setup ask later c work stores ops seals runs valid

-- ---- the statements

-- what statements do from here on
record Acted (s : Setting) (tables : List Decl) (d : Database) (base : List (Store Cell)) (acts : List Act) (later : List Task) (c : Client) (w : Tried) (log : List Exchange) (last : Tried) : Type 0 where
  meets : Meets s (doing (acts_then acts later) (client_in [] c w)) (holds (held_in s.key d base w)) log (client_by s later c last.plain last) (conn_by s.key d base last.plain last)
  runs : Runs s tables d base last

after-stop : (s : Setting) (tables : List Decl) (d : Database) (base : List (Store Cell)) (a : Act) (acts : List Act) (later : List Task) (c : Client) (w : Tried) (t : TableNo) (work : Work) (first rest : List Exchange) (last : Tried)
    → Meets s (doing (act_then a (acts_then acts later)) (client_in [] c w)) (holds (held_in s.key d base w)) first (client_by s (acts_then acts later) c (stopped t work) (tried_by s d.same_time a (stopped t work) w)) (conn_by s.key d base (stopped t work) (tried_by s d.same_time a (stopped t work) w))
    → Runs s tables d base (tried_by s d.same_time a (stopped t work) w)
    → Acted s tables d base (a ∷ acts) later c w (first ++ unless_stopped (stopped t work) [] rest) (unless_stopped (stopped t work) (tried_by s d.same_time a (stopped t work) w) last)
unfolding acts_then unless_stopped client_by conn_by tried_by
after-stop s tables d base a acts later c w t work first rest last meets runs = record {
  meets = along s (doing (act_then a (acts_then acts later)) (client_in [] c w)) (holds (held_in s.key d base w)) first (first ++ []) (client_by s later c (stopped t work) (tried_by s d.same_time a (stopped t work) w)) idle (sym (append-nil first)) meets;
  runs = runs;
}

after-going : (s : Setting) (tables : List Decl) (d : Database) (base : List (Store Cell)) (a : Act) (acts : List Act) (later : List Task) (c : Client) (w : Tried) (work : Work) (first rest : List Exchange) (last : Tried)
    → Meets s (doing (act_then a (acts_then acts later)) (client_in [] c w)) (holds (held_in s.key d base w)) first (client_by s (acts_then acts later) c (going work) (tried_by s d.same_time a (going work) w)) (conn_by s.key d base (going work) (tried_by s d.same_time a (going work) w))
    → Acted s tables d base acts later c (tried_by s d.same_time a (going work) w) rest last
    → Acted s tables d base (a ∷ acts) later c w (first ++ unless_stopped (going work) [] rest) (unless_stopped (going work) (tried_by s d.same_time a (going work) w) last)
unfolding acts_then unless_stopped client_by conn_by client_in doing
after-going s tables d base a acts later c w work first rest last meets acted =
    let next = tried_by s d.same_time a (going work) w in
    record {
      meets = meets_then s (doing (act_then a (acts_then acts later)) (client_in [] c w)) (client_in (acts_then acts later) c next) (client_by s later c last.plain last) (holds (held_in s.key d base w)) (holds (held_in s.key d base next)) (conn_by s.key d base last.plain last) first rest meets acted.meets;
      runs = acted.runs;
    }

-- a statement, and those after it unless it met a full table
after_one : (s : Setting) (tables : List Decl) (d : Database) (base : List (Store Cell)) (a : Act) (acts : List Act) (later : List Task) (c : Client) (w : Tried) (trial : Trial) (first : List Exchange) (rest : List Exchange) (last : Tried)
    → Meets s (doing (act_then a (acts_then acts later)) (client_in [] c w)) (holds (held_in s.key d base w)) first (client_by s (acts_then acts later) c trial (tried_by s d.same_time a trial w)) (conn_by s.key d base trial (tried_by s d.same_time a trial w))
    → Runs s tables d base (tried_by s d.same_time a trial w)
    → ((work : Work) → trial ≡ going work → Acted s tables d base acts later c (tried_by s d.same_time a trial w) rest last)
    → Acted s tables d base (a ∷ acts) later c w (first ++ unless_stopped trial [] rest) (unless_stopped trial (tried_by s d.same_time a trial w) last)
unfolding acts_then
after_one s tables d base a acts later c w (stopped t work) first rest last meets runs go = after-stop s tables d base a acts later c w t work first rest last meets runs
after_one s tables d base a acts later c w (going work) first rest last meets runs go = after-going s tables d base a acts later c w work first rest last meets (go work refl)

statements : (s : Setting) (tables : List Decl) (d : Database) (base : List (Store Cell)) → Setup s tables d → (acts : List Act) (later : List Task) (c : Client) (work : Work) (stores : List (Store Cell)) (ops : List (ValueOp Cell)) (seals : ℕ)
    → Runs s tables d base (at_work work stores ops seals) → Each (IsValidAct tables) acts
    → Acted s tables d base acts later c (at_work work stores ops seals) (acts_log s d.same_time acts (at_work work stores ops seals)) (acts_tried s d.same_time acts (at_work work stores ops seals))
unfolding acts_log acts_tried act_log act_tried tried_by Each acts_then client_by conn_by client_in doing
statements s tables d base setup [] later c work stores ops seals runs valid = record { meets = meets_nothing s (client_in later c (at_work work stores ops seals)) (holds (held_in s.key d base (at_work work stores ops seals))); runs = runs }
statements s tables d base setup (a ∷ acts) later c work stores ops seals runs valid =
    let w : Tried = at_work work stores ops seals in
    let trial = after_act (going work) a in
    let step = act_steps s tables d base setup a (acts_then acts later) c work stores ops seals runs valid.0 in
    let next : Tried = tried_by s d.same_time a trial w in
    let P : Trial → Type 0 = λ (t : Trial). Runs s tables d base (tried_by s d.same_time a t w) → Acted s tables d base acts later c (tried_by s d.same_time a t w) (acts_log s d.same_time acts (tried_by s d.same_time a t w)) (acts_tried s d.same_time acts (tried_by s d.same_time a t w)) in
    after_one s tables d base a acts later c w trial (act_log s a w) (acts_log s d.same_time acts next) (acts_tried s d.same_time acts next) step.meets step.runs
    (λ (more : Work) (is : trial ≡ going more). subst P (sym is) (λ (still : Runs s tables d base (tried_by s d.same_time a (going more) w)). statements s tables d base setup acts later c more (ops_on d.same_time value_of (ops_of s a w) stores) (ops ++ ops_of s a w) (seals + inserted_numbers a) still valid.1) step.runs)

-- ---- on plain tables

stays-stopped : (t : TableNo) (work : Work) (acts : List Act) → after_acts (stopped t work) acts ≡ stopped t work
unfolding after_acts after_act
stays-stopped t work [] = refl
stays-stopped t work (a ∷ acts) = stays-stopped t work acts

plain-by : (s : Setting) (same_time : Bool) (trial : Trial) (a : Act) (acts : List Act) (w last : Tried) → last.plain ≡ after_acts (tried_by s same_time a trial w).plain acts → (unless_stopped trial (tried_by s same_time a trial w) last).plain ≡ after_acts trial acts
unfolding unless_stopped tried_by
plain-by s same_time (stopped t work) a acts w last is = sym (stays-stopped t work acts)
plain-by s same_time (going work) a acts w last is = is

plain-acts : (s : Setting) (same_time : Bool) (acts : List Act) (w : Tried) → (acts_tried s same_time acts w).plain ≡ after_acts w.plain acts
unfolding acts_tried act_tried after_acts
plain-acts s same_time [] w = refl
plain-acts s same_time (a ∷ acts) w = plain-by s same_time (after_act w.plain a) a acts w (acts_tried s same_time acts (act_tried s same_time a w)) (plain-acts s same_time acts (act_tried s same_time a w))

IsStopped : Trial → Type 0
IsStopped (stopped t work) = Unit {0}
IsStopped (going work) = ⊥

never-goes : {A : Type 0} (t : TableNo) (work more : Work) → stopped t work ≡ going more → A
unfolding IsStopped
never-goes t work more is = absurd (subst IsStopped is tt)

touched-going : (work more : Work) → going work ≡ going more → more.touched ≡ work.touched
unfolding work_of
touched-going work more is = ap (λ (t : Trial). (work_of t).touched) (sym is)

touched-after : (a : Act) (acts : List Act) (work more : Work) (o : Outcome) → ((next : Work) → after_acts (going next) acts ≡ going more → more.touched ≡ next.touched ++ map table_named acts) → after_acts (after_outcome work a o) acts ≡ going more → more.touched ≡ work.touched ++ table_named a ∷ map table_named acts
unfolding after_outcome
touched-after a acts work more full later is = never-goes (table_named a) work more (sym (stays-stopped (table_named a) work acts) ∙ is)
touched-after a acts work more (answered x db) later is =
    later (record { answers = work.answers ++ x ∷ []; copy = db; ops = with_op (is_op x) work.ops a; touched = work.touched ++ table_named a ∷ [] }) is ∙ append_assoc work.touched (table_named a ∷ []) (map table_named acts)

-- a transaction that ran to its end touched the table of each of its statements
touched-acts : (acts : List Act) (work more : Work) → after_acts (going work) acts ≡ going more → more.touched ≡ work.touched ++ map table_named acts
unfolding after_acts after_act
touched-acts [] work more is = touched-going work more is ∙ sym (append-nil work.touched)
touched-acts (a ∷ acts) work more is = touched-after a acts work more (outcome_of work.copy a) (λ (next : Work) (same : after_acts (going next) acts ≡ going more). touched-acts acts next more same) is

-- ---- its end

none-kept : (key : List ℕ) (same_time : Bool) (ops : List (ValueOp Cell)) (stores : List (Store Cell)) → length ops ≡ 0 → EndsAtOnce false (kept_ops key same_time ops stores)
unfolding EndsAtOnce kept_ops placed_ops
none-kept key same_time [] stores none = tt
none-kept key same_time (o ∷ ops) stores none = absurd (omega (arith, none))

some-kept : (key : List ℕ) (same_time : Bool) (ops : List (ValueOp Cell)) (stores : List (Store Cell)) (n : ℕ) → length ops ≡ suc n → HasOps (kept_ops key same_time ops stores)
unfolding HasOps kept_ops placed_ops
some-kept key same_time [] stores n some = absurd (omega (arith, some))
some-kept key same_time (o ∷ ops) stores n some = tt

closes_as : (s : Setting) (rollback : Bool) (acts : List Act) (c : Client) (d : Database) (stores : List (Store Cell)) (plain : List Act) (touched : List TableNo) (w : Tried) → length w.ops ≡ length plain → touched ≡ map table_named acts
    → EndsAs s rollback acts touched (client_in [] c w) (held_in s.key d stores w) (wish_after rollback plain)
unfolding EndsAs wish_after held_in closed_by EndsAtOnce
closes_as s true acts c d stores plain touched w counted same = close_meets s true acts [] (client_in [] c w) (held_in s.key d stores w) refl tt
closes_as s false acts c d stores [] touched w counted same = close_meets s false acts [] (client_in [] c w) (held_in s.key d stores w) refl (none-kept s.key d.same_time w.ops stores counted)
closes_as s false acts c d stores (a ∷ plain) touched w counted same =
    let some = some-kept s.key d.same_time w.ops stores (length plain) counted in (
      refl,
      record {
        commits_as = λ number. commit_meets s acts [] (client_in [] c w) (held_in s.key d stores w) number refl some;
        conflicts = λ t number named. conflict_meets s acts [] (client_in [] c w) (held_in s.key d stores w) t number refl some (subst (λ (ts : List TableNo). names ts t.0 ≡ true) same named);
      },
    )

ends_by : (s : Setting) (rollback : Bool) (acts : List Act) (c : Client) (d : Database) (stores : List (Store Cell)) (trial : Trial) (w : Tried) → length w.ops ≡ length (work_of trial).ops → ((work : Work) → trial ≡ going work → work.touched ≡ map table_named acts)
    → EndsBy s rollback acts c d stores trial w
unfolding EndsBy work_of
ends_by s rollback acts c d stores (stopped t work) w counted touched = tt
ends_by s rollback acts c d stores (going work) w counted touched = closes_as s rollback acts c d stores work.ops work.touched w counted (touched work refl)

-- ---- its begin

runs-first : (s : Setting) (tables : List Decl) (d : Database) (stores : List (Store Cell)) (seals : ℕ) → MayRun s tables d stores → Runs s tables d stores (tried_on stores seals)
unfolding tried_on held_in held_on ops_on AllFit work_of started
runs-first s tables d stores seals may = record {
  shows = record { stand = record { same = refl; sound = may.shows.stand.sound }; low = may.shows.low };
  declared = may.declared;
  fit = tt;
  made = refl;
  copy = refl;
  counted = refl;
}

held-first : (s : Setting) (tables : List Decl) (d : Database) (stores : List (Store Cell)) (seals : ℕ) → MayRun s tables d stores → held_in s.key d stores (tried_on stores seals) ≡ held_on d
unfolding tried_on held_in held_on work_of started kept_ops placed_ops
held-first s tables d stores seals may = ap (λ (shelves : List (Shelf Body)). record (held_on d) { shelves = shelves }) (sym may.shows.stand.same)

client-first : (stores : List (Store Cell)) (tasks : List Task) (c : Client) (number : ℕ) → c.answers ≡ [] → doing tasks (client_in [] (begun_on number c) (tried_on stores c.seals)) ≡ doing tasks (begun_on number c)
unfolding doing client_in begun_on tried_on work_of started
client-first stores tasks c number none = ap (λ (xs : List Answer). record c { tasks = tasks; looking = None; base = number; answers = xs }) (sym none)

acted-first : (s : Setting) (tables : List Decl) (acts : List Act) (later : List Task) (c : Client) (d : Database) (stores : List (Store Cell)) (seals : ℕ) → MayRun s tables d stores → Each (IsValidAct tables) acts
    → Acted s tables d stores acts later c (tried_on stores seals) (acts_log s d.same_time acts (tried_on stores seals)) (acts_tried s d.same_time acts (tried_on stores seals))
unfolding tried_on
acted-first s tables acts later c d stores seals may valid =
    statements s tables d stores (record { valid = may.valid; limit = may.limit }) acts later c (started (plain_database stores)) stores [] seals (runs-first s tables d stores seals may) valid

plain-first : (s : Setting) (same_time : Bool) (acts : List Act) (stores : List (Store Cell)) (seals : ℕ) → (acts_tried s same_time acts (tried_on stores seals)).plain ≡ trial_of (plain_database stores) acts
unfolding tried_on trial_of
plain-first s same_time acts stores seals = plain-acts s same_time acts (tried_on stores seals)

touched-first : (acts : List Act) (db : PlainDb) (work : Work) → trial_of db acts ≡ going work → work.touched ≡ map table_named acts
unfolding trial_of started
touched-first acts db work is = touched-acts acts (started db) work is

starts-first : (s : Setting) (acts : List Act) (rollback : Bool) (c : Client) (d : Database)
    → MeetsTurn s (doing (tasks_of (piece.Txn acts rollback)) c) idle request.Begin wants_begin begins (reply.Ended how.Began 0 d.number) (began d) (doing (acts_then acts (closes rollback acts ∷ [])) (begun_on d.number c)) (holds (held_on d))
unfolding tasks_of acts_of last_task
starts-first s acts rollback c d = begin_meets s (acts_then acts (closes rollback acts ∷ [])) c d

pub transaction_meets : TransactionMeets
transaction_meets s tables acts rollback c d stores may valid none =
    let w0 : Tried = tried_on stores c.seals in
    let last : Tried = acts_tried s d.same_time acts w0 in
    let client : Client = begun_on d.number c in
    let tasks : List Task = acts_then acts (closes rollback acts ∷ []) in
    let acted = acted-first s tables acts (closes rollback acts ∷ []) client d stores c.seals may valid in
    let plain : last.plain ≡ trial_of (plain_database stores) acts = plain-first s d.same_time acts stores c.seals in
    record {
      starts = starts-first s acts rollback c d;
      goes = subst (λ (k : Conn). Meets s (doing tasks client) k (acts_log s d.same_time acts w0) (client_by s (closes rollback acts ∷ []) client last.plain last) (conn_by s.key d stores last.plain last)) (ap holds (held-first s tables d stores c.seals may))
          (subst (λ (x : Client). Meets s x (holds (held_in s.key d stores w0)) (acts_log s d.same_time acts w0) (client_by s (closes rollback acts ∷ []) client last.plain last) (conn_by s.key d stores last.plain last)) (client-first stores tasks c d.number none) acted.meets);
      ends_as = ends_by s rollback acts client d stores last.plain last acted.runs.counted (λ (work : Work) (is : last.plain ≡ going work). touched-first acts (plain_database stores) work (sym plain ∙ is));
      plain = plain;
      copy = acted.runs.copy;
      fit = acted.runs.fit;
      made = acted.runs.made;
      shows = acted.runs.shows;
    }

-- ---- a REBUILD

rebuild-starts : (s : Setting) (t : TableNo) (column : ColNo) (c : Client) (d : Database)
    → MeetsTurn s (doing (tasks_of (piece.Rebuild t column)) c) idle request.Begin wants_begin begins (reply.Ended how.Began 0 d.number) (began d) (doing (rebuilds t column ∷ []) (begun_on d.number c)) (holds (held_on d))
unfolding tasks_of acts_of last_task acts_then
rebuild-starts s t column c d = begin_meets s (rebuilds t column ∷ []) c d

pub rebuild_meets : RebuildMeets
rebuild_meets s tables t column c d stores may valid =
    let there : t.0 < length stores = omega (arith, valid.0, declared-tables tables stores may.declared) in
    let in_table : column.0 < length (store_at stores t).columns = subst (λ (n : ℕ). column.0 < n) (declared-columns tables stores t may.declared there) valid.1 in
    let has : HasColumnOf t column d = record { has_table = shown-table s.key stores (held_on d) t may.shows there; has_column = shown-column s.key stores (held_on d) t column may.shows in_table } in
    record {
      starts = rebuild-starts s t column c d;
      installs = λ number. install_meets s t column [] (begun_on d.number c) d number has;
      finds_stale = λ number. stale_meets s t column [] (begun_on d.number c) d number has;
    }
