-- The tables that a transaction's operations are on: those of its plain ones, which it touched.
use Rattle.std.proofs.Common.{◌≡◌, ℕ, ◌+◌, Bool, true, false, ◌||◌, ◌==◌, eqb, List, [], ◌∷◌, ◌++◌, map, length, refl, ap, ap₂, ◌∙◌, sym, subst, arith, append-nil, length-append}
use Rattle.std.proofs.lemmas.List.{map-append}
use Rattle.mope_base.specs.Lists.{Each}
use Rattle.mope_base.specs.declared.numbers.TableNo.{TableNo}
use Rattle.table_model.specs.Stores.{Store}
use Rattle.table_model.specs.Operations.{ValueOp, ops_on}
use Rattle.table_model.specs.Fitting.{AllFit}
use Rattle.value_cipher.specs.Cipher.{Cell, value_of}
use Rattle.versions.specs.Databases.{Database}
use Rattle.workload.specs.declared.script.Act.{Act}
use Rattle.workload.specs.declared.script.Act.TheVariants as act
use Rattle.workload.specs.declared.script.Decl.{Decl}
use Rattle.workload.specs.declared.script.Verb.{Verb}
use Rattle.workload.specs.declared.script.Verb.TheVariants as verb
use Rattle.workload.specs.Outcome.{Outcome, full, answered, outcome_of}
use Rattle.workload.specs.Run.{names}
use Rattle.workload.specs.Transaction.{Work, Trial, going, stopped, table_named, is_op, with_op, after_outcome, after_act, work_of, started}
use Rattle.workload.specs.Validity.{IsValidAct, inserted_numbers}
use Rattle.proxy.specs.Client.{Setting, Client}
use Rattle.transaction_laws.specs.Queries.{rows_out, ops_about}
use Rattle.server_conn.specs.Connections.{held_on}
use Rattle.transaction_laws.specs.Transactions.{Tried, tried_on, ops_of, tried_by, act_tried, unless_stopped, acts_tried, held_in, MayRun, plain_database}
use Rattle.transaction_laws.proofs.Stepping.{Runs, Setup, at_work, insert_steps}
use Rattle.transaction_laws.proofs.AskStepping.{ask_steps}
use Rattle.plain_db.proofs.TrialLemmas.{names-append, names-last, names-push}
use Rattle.run_laws.specs.TurnLaws.{table_written, is_on}

-- ---- numbers of tables

among : List ℕ → ℕ → Bool
among [] table = false
among (t ∷ tables) table = (t == table) || among tables table

abbrev pub number_named : Act → ℕ
number_named a = (table_named a).0

on-among : (ops : List (ValueOp Cell)) (table : ℕ) → is_on ops table ≡ among (map table_written ops) table
unfolding is_on among
on-among [] table = refl
on-among (op ∷ ops) table = ap (λ (b : Bool). (table_written op == table) || b) (on-among ops table)

named-among : (acts : List Act) (table : ℕ) → names (map table_named acts) table ≡ among (map number_named acts) table
unfolding names among
named-among [] table = refl
named-among (a ∷ acts) table = ap (λ (b : Bool). (number_named a == table) || b) (named-among acts table)

-- ---- what holds from statement to statement

pub record Writes (ops : List (ValueOp Cell)) (work : Work) : Type 0 where
  pub tables : map table_written ops ≡ map number_named work.ops
  pub touched : (table : ℕ) → names (map table_named work.ops) table ≡ true → names work.touched table ≡ true

pub writes-on : (ops : List (ValueOp Cell)) (work : Work) (table : ℕ) → Writes ops work → is_on ops table ≡ names (map table_named work.ops) table
writes-on ops work table writes = on-among ops table ∙ ap (λ (l : List ℕ). among l table) writes.tables ∙ sym (named-among work.ops table)

-- each operation of a statement is on its table
AllAt : ℕ → List (ValueOp Cell) → Type 0
AllAt table [] = Unit {0}
AllAt table (op ∷ ops) = (table_written op ≡ table) × AllAt table ops

out-at : (t : TableNo) (numbers : List ℕ) → AllAt t.0 (rows_out t numbers)
unfolding AllAt rows_out table_written
out-at t [] = tt
out-at t (number ∷ numbers) = (refl, tt)

about-at : (v : Verb) (t : TableNo) (numbers : List ℕ) → AllAt t.0 (ops_about v t numbers)
unfolding AllAt ops_about
about-at (verb.Rows columns order limit) t numbers = tt
about-at verb.Count t numbers = tt
about-at (verb.Min column) t numbers = tt
about-at (verb.Max column) t numbers = tt
about-at verb.Delete t numbers = out-at t numbers

ops-at : (s : Setting) (a : Act) (w : Tried) → AllAt (number_named a) (ops_of s a w)
unfolding AllAt ops_of table_written table_named
ops-at s (act.Insert t xs) w = (refl, tt)
ops-at s (act.Ask ask) w = about-at ask.verb ask.table _

-- as many operations as plain ones
tables-more : (more : List (ValueOp Cell)) (ops : List (ValueOp Cell)) (plain : List Act) (a : Act) (b : Bool) → AllAt (number_named a) more → map table_written ops ≡ map number_named plain → length ops ≡ length plain → length (ops ++ more) ≡ length (with_op b plain a)
    → map table_written (ops ++ more) ≡ map number_named (with_op b plain a)
unfolding AllAt with_op
tables-more [] ops plain a false all same many more_many = ap (map table_written) (append-nil ops) ∙ same
tables-more [] ops plain a true all same many more_many = absurd (omega (arith, many, more_many, length-append plain (a ∷ []), ap length (append-nil ops)))
tables-more (op ∷ []) ops plain a false all same many more_many = absurd (omega (arith, many, more_many, length-append ops (op ∷ [])))
tables-more (op ∷ []) ops plain a true all same many more_many =
    map-append table_written ops (op ∷ []) ∙ ap₂ (λ (l : List ℕ) (n : ℕ). l ++ n ∷ []) same all.0 ∙ sym (map-append number_named plain (a ∷ []))
tables-more (op ∷ next ∷ more) ops plain a false all same many more_many = absurd (omega (arith, many, more_many, length-append ops (op ∷ next ∷ more)))
tables-more (op ∷ next ∷ more) ops plain a true all same many more_many = absurd (omega (arith, many, more_many, length-append ops (op ∷ next ∷ more), length-append plain (a ∷ [])))

touched-more : (plain : List Act) (touched : List TableNo) (a : Act) (b : Bool) → ((table : ℕ) → names (map table_named plain) table ≡ true → names touched table ≡ true)
    → (table : ℕ) → names (map table_named (with_op b plain a)) table ≡ true → names (touched ++ table_named a ∷ []) table ≡ true
unfolding with_op
touched-more plain touched a false all table is = names-append touched (table_named a ∷ []) table (all table is)
touched-more plain touched a true all table is =
    let parts : (names (map table_named plain) table || eqb (number_named a) table) ≡ true =
    sym (names-push (map table_named plain) (table_named a) table) ∙ ap (λ (l : List TableNo). names l table) (sym (map-append table_named plain (a ∷ []))) ∙ is in
    later (names (map table_named plain) table) (eqb (number_named a) table) refl refl parts
  where
    later : (x y : Bool) → names (map table_named plain) table ≡ x → eqb (number_named a) table ≡ y → (x || y) ≡ true → names (touched ++ table_named a ∷ []) table ≡ true
    later true y here last either = names-append touched (table_named a ∷ []) table (all table here)
    later false true here last either = names-last touched (table_named a) table last
    later false false here last either = names-last touched (table_named a) table (last ∙ either)

-- ---- one statement

-- what holds after it
AfterOne : List (ValueOp Cell) → Trial → Type 0
AfterOne ops (going work) = Writes ops work
AfterOne ops (stopped t work) = Writes ops work

outcome-writes : (a : Act) (o : Outcome) (work : Work) (ops more : List (ValueOp Cell)) → AllAt (number_named a) more → Writes ops work → length ops ≡ length work.ops
    → ((next : Work) → after_outcome work a o ≡ going next → length (ops ++ more) ≡ length next.ops) → (next : Work) → after_outcome work a o ≡ going next → Writes (ops ++ more) next
unfolding after_outcome work_of
outcome-writes a full work ops more all writes many later next is = absurd (never is)
  where
    never : stopped (table_named a) work ≡ going next → ⊥
    never e = absurd (subst IsGoing (sym e) tt)
      where
        IsGoing : Trial → Type 0
        IsGoing (going w) = Unit {0}
        IsGoing (stopped t w) = ⊥
outcome-writes a (answered x db) work ops more all writes many later next is =
    let done : Work = record { answers = work.answers ++ x ∷ []; copy = db; ops = with_op (is_op x) work.ops a; touched = work.touched ++ table_named a ∷ [] } in
    let same : done ≡ next = ap work_of is in
    subst (λ (w : Work). Writes (ops ++ more) w) same
    (record {
      tables = tables-more more ops work.ops a (is_op x) all writes.tables many (later done refl);
      touched = touched-more work.ops work.touched a (is_op x) writes.touched;
    })

pub act-runs : (s : Setting) (tables : List Decl) (d : Database) (base : List (Store Cell)) → Setup s tables d → (a : Act) (c : Client) (work : Work) (stores : List (Store Cell)) (ops : List (ValueOp Cell)) (seals : ℕ)
    → Runs s tables d base (at_work work stores ops seals) → IsValidAct tables a → Runs s tables d base (tried_by s d.same_time a (after_act (going work) a) (at_work work stores ops seals))
act-runs s tables d base setup (act.Insert t xs) c work stores ops seals runs valid = (insert_steps s tables d base setup t xs [] c work stores ops seals runs valid).runs
act-runs s tables d base setup (act.Ask ask) c work stores ops seals runs valid = (ask_steps s tables d base setup ask [] c work stores ops seals runs valid).runs

act-writes : (s : Setting) (tables : List Decl) (d : Database) (base : List (Store Cell)) (a : Act) (work next : Work) (stores : List (Store Cell)) (ops : List (ValueOp Cell)) (seals : ℕ) (trial : Trial)
    → after_act (going work) a ≡ trial → trial ≡ going next → length ops ≡ length work.ops → Runs s tables d base (tried_by s d.same_time a trial (at_work work stores ops seals)) → Writes ops work → Writes (ops ++ ops_of s a (at_work work stores ops seals)) next
unfolding after_act tried_by work_of
act-writes s tables d base a work next stores ops seals trial after is many runs writes =
    let w : Tried = at_work work stores ops seals in
    let gone : Runs s tables d base (tried_by s d.same_time a (going next) w) = subst (λ (t : Trial). Runs s tables d base (tried_by s d.same_time a t w)) is runs in
    outcome-writes a (outcome_of work.copy a) work ops (ops_of s a w) (ops-at s a w) writes many
    (λ (other : Work) (e : after_outcome work a (outcome_of work.copy a) ≡ going other).
    counted next other gone (sym is ∙ sym after ∙ e)) next (after ∙ is)
  where
    counted : (next other : Work) → Runs s tables d base (tried_by s d.same_time a (going next) (at_work work stores ops seals)) → going next ≡ going other → length (ops ++ ops_of s a (at_work work stores ops seals)) ≡ length other.ops
    counted next other gone e = gone.counted ∙ ap (λ (t : Trial). length (work_of t).ops) e

-- ---- the statements

Ends : Tried → Type 0
Ends w = (end : Work) → w.plain ≡ going end → Writes w.ops end

ends-after : (s : Setting) (same_time : Bool) (a : Act) (w last : Tried) (trial : Trial) → ((next : Work) → trial ≡ going next → Ends last) → Ends (unless_stopped trial (tried_by s same_time a trial w) last)
unfolding unless_stopped tried_by Ends
ends-after s same_time a w last (stopped t work) later end is = absurd (subst IsStopped is tt)
  where
    IsStopped : Trial → Type 0
    IsStopped (going w) = ⊥
    IsStopped (stopped t w) = Unit {0}
ends-after s same_time a w last (going work) later end is = later work refl end is

go-on : (s : Setting) (tables : List Decl) (d : Database) (base : List (Store Cell)) (acts : List Act) (a : Act) (next : Work) (stores : List (Store Cell)) (ops : List (ValueOp Cell)) (seals : ℕ) (w : Tried)
    → ((work : Work) (stores : List (Store Cell)) (ops : List (ValueOp Cell)) (seals : ℕ) → Runs s tables d base (at_work work stores ops seals) → Writes ops work → Ends (acts_tried s d.same_time acts (at_work work stores ops seals)))
    → w ≡ at_work (work_of w.plain) stores ops seals → Runs s tables d base (tried_by s d.same_time a (going next) w) → Writes (w.ops ++ ops_of s a w) next → Ends (acts_tried s d.same_time acts (tried_by s d.same_time a (going next) w))
unfolding tried_by
go-on s tables d base acts a next stores ops seals w later is more now = later next (ops_on d.same_time value_of (ops_of s a w) w.stores) (w.ops ++ ops_of s a w) (w.seals + inserted_numbers a) more now

acts-writes : (s : Setting) (tables : List Decl) (d : Database) (base : List (Store Cell)) → Setup s tables d → (acts : List Act) (c : Client) → Each (IsValidAct tables) acts → (work : Work) (stores : List (Store Cell)) (ops : List (ValueOp Cell)) (seals : ℕ)
    → Runs s tables d base (at_work work stores ops seals) → Writes ops work → Ends (acts_tried s d.same_time acts (at_work work stores ops seals))
unfolding acts_tried act_tried Each Ends work_of
acts-writes s tables d base setup [] c valid work stores ops seals runs writes = λ end is. subst (λ (t : Trial). Writes ops (work_of t)) is writes
acts-writes s tables d base setup (a ∷ acts) c valid work stores ops seals runs writes =
    let w : Tried = at_work work stores ops seals in
    let trial : Trial = after_act (going work) a in
    let next_runs : Runs s tables d base (tried_by s d.same_time a trial w) = act-runs s tables d base setup a c work stores ops seals runs valid.0 in
    ends-after s d.same_time a w (acts_tried s d.same_time acts (tried_by s d.same_time a trial w)) trial
    (λ (next : Work) (is : trial ≡ going next).
    subst (λ (t : Trial). Ends (acts_tried s d.same_time acts (tried_by s d.same_time a t w))) (sym is)
    (go-on s tables d base acts a next stores ops seals w (acts-writes s tables d base setup acts c valid.1) refl
    (subst (λ (t : Trial). Runs s tables d base (tried_by s d.same_time a t w)) is next_runs) (act-writes s tables d base a work next stores ops seals trial refl is runs.counted next_runs writes)))

pub runs-first : (s : Setting) (tables : List Decl) (d : Database) (stores : List (Store Cell)) (seals : ℕ) → MayRun s tables d stores → Runs s tables d stores (tried_on stores seals)
unfolding tried_on held_in held_on ops_on AllFit work_of started
runs-first s tables d stores seals may = record {
  shows = record { stand = record { same = refl; sound = may.shows.stand.sound }; low = may.shows.low };
  declared = may.declared;
  fit = tt;
  made = refl;
  copy = refl;
  counted = refl;
}

pub tried-writes : (s : Setting) (tables : List Decl) (d : Database) (stores : List (Store Cell)) (acts : List Act) (c : Client) (seals : ℕ) → MayRun s tables d stores → Each (IsValidAct tables) acts
    → (end : Work) → (acts_tried s d.same_time acts (tried_on stores seals)).plain ≡ going end → Writes (acts_tried s d.same_time acts (tried_on stores seals)).ops end
unfolding tried_on started names Ends
tried-writes s tables d stores acts c seals may valid =
    acts-writes s tables d stores (record { valid = may.valid; limit = may.limit }) acts c valid (started (plain_database stores)) stores [] seals (runs-first s tables d stores seals may) (record { tables = refl; touched = λ table is. is })
