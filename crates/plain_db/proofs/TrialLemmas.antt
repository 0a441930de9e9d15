-- A transaction that was tried on one database goes the same way on another whose touched tables are equal.
use Rattle.std.proofs.Common.{◌≡◌, refl, sym, ◌∙◌, ap, subst, ℕ, Bool, true, false, ◌||◌, eqb, List, [], ◌∷◌, ◌++◌, map, Option, Some, None, inl, inr}
use Rattle.std.proofs.lemmas.Bool.{cases_Bool, cases_eq, eqb-true, eqb-false, eq-eqb, false≢true, or_cases, or_parts, or_left, or_right}
use Rattle.std.proofs.lemmas.List.{map-append}
use Rattle.mope_base.specs.declared.numbers.TableNo.{TableNo}
use Rattle.workload.specs.declared.plain.PlainTable.{PlainTable}
use Rattle.workload.specs.declared.plain.PlainDb.{PlainDb}
use Rattle.workload.specs.declared.script.Act.{Act}
use Rattle.workload.specs.declared.script.Answer.{Answer}
use Rattle.workload.specs.PlainDatabase.{table_of, with_table}
use Rattle.workload.specs.Transaction.{Work, Trial, going, stopped, table_named, is_op, with_op, after_outcome, after_act, after_acts, work_of}
use Rattle.workload.specs.Run.{names}
use Rattle.plain_db.proofs.TableOutcomes.{at, size, size-with_table, at-other, at-both, at-put, with_table-same, outcome_on, put_back, outcome-table, KeptUnlessOp, kept_unless_op}

unfoldable pub is_going : Trial → Bool
is_going (going work) = true
is_going (stopped t work) = false

pub stopped-stays : (t : TableNo) (work : Work) (statements : List Act) → after_acts (stopped t work) statements ≡ stopped t work
unfolding after_acts after_act
stopped-stays t work [] = refl
stopped-stays t work (statement ∷ statements) = stopped-stays t work statements

pub stopped_never_goes : (t : TableNo) (work : Work) (statements : List Act) (end : Work)
    → after_acts (stopped t work) statements ≡ going end → ⊥
unfolding is_going
stopped_never_goes t work statements end e =
    false≢true (ap is_going (sym (stopped-stays t work statements) ∙ e))

pub names-append : (xs ys : List TableNo) (i : ℕ) → names xs i ≡ true → names (xs ++ ys) i ≡ true
unfolding names
names-append [] ys i e = absurd (false≢true e)
names-append (x ∷ xs) ys i e =
    elim (or_cases (eqb x.0 i) (names xs i) e) as (λ _. (eqb x.0 i || names (xs ++ ys) i) ≡ true) [
      | inl here ↦ or_left (eqb x.0 i) (names (xs ++ ys) i) here
      | inr there ↦ or_right (eqb x.0 i) (names (xs ++ ys) i) (names-append xs ys i there)
    ]

pub names-last : (xs : List TableNo) (x : TableNo) (i : ℕ) → eqb x.0 i ≡ true → names (xs ++ x ∷ []) i ≡ true
unfolding names
names-last [] x i e = or_left (eqb x.0 i) false e
names-last (y ∷ xs) x i e = or_right (eqb y.0 i) (names (xs ++ x ∷ []) i) (names-last xs x i e)

-- one of a longer list is one of the list, or the last
pub names-push : (xs : List TableNo) (x : TableNo) (i : ℕ) → names (xs ++ x ∷ []) i ≡ (names xs i || eqb x.0 i)
unfolding names
names-push [] x i = elim (eqb x.0 i) as (λ b. (b || false) ≡ b) [ true ↦ refl | false ↦ refl ]
names-push (y ∷ xs) x i = rw (names-push xs x i) (elim (eqb y.0 i) as (λ b. (b || (names xs i || eqb x.0 i)) ≡ ((b || names xs i) || eqb x.0 i)) [ true ↦ refl | false ↦ refl ])

-- the work after a statement that was answered
unfoldable pub work_after : Work → Act → Answer × PlainTable → Work
work_after work statement done = record {
  answers = work.answers ++ done.0 ∷ [];
  copy = with_table work.copy (table_named statement) done.1;
  ops = with_op (is_op done.0) work.ops statement;
  touched = work.touched ++ table_named statement ∷ [];
}

unfoldable pub trial_after : Work → Act → Option (Answer × PlainTable) → Trial
trial_after work statement None = stopped (table_named statement) work
trial_after work statement (Some done) = going (work_after work statement done)

trial_after-outcome : (work : Work) (statement : Act) (o : Option (Answer × PlainTable))
    → after_outcome work statement (put_back work.copy (table_named statement) o) ≡ trial_after work statement o
unfolding after_outcome put_back trial_after work_after
trial_after-outcome work statement None = refl
trial_after-outcome work statement (Some done) = refl

pub step : (work : Work) (statement : Act)
    → after_act (going work) statement ≡ trial_after work statement (outcome_on (table_of work.copy (table_named statement)) statement)
unfolding after_act
step work statement =
    ap (λ o. after_outcome work statement o) (outcome-table work.copy statement)
    ∙ trial_after-outcome work statement (outcome_on (table_of work.copy (table_named statement)) statement)

-- a transaction's touched tables stay touched
pub touched_stays : (statements : List Act) (work end : Work) (i : ℕ)
    → after_acts (going work) statements ≡ going end → names work.touched i ≡ true → names end.touched i ≡ true
unfolding after_acts work_of work_after trial_after
touched_stays [] work end i e named = ap (λ trial. names (work_of trial).touched i) (sym e) ∙ named
touched_stays (statement ∷ statements) work end i e named =
    let o : Option (Answer × PlainTable) = outcome_on (table_of work.copy (table_named statement)) statement in
    elim o as (λ o. after_acts (trial_after work statement o) statements ≡ going end → names end.touched i ≡ true) [
      | None ↦ λ e. absurd (stopped_never_goes (table_named statement) work statements end e)
      | Some done ↦ λ e.
          touched_stays statements (work_after work statement done) end i e (names-append work.touched (table_named statement ∷ []) i named)
    ] (ap (λ trial. after_acts trial statements) (sym (step work statement)) ∙ e)

-- the same transaction so far, on a first database and on a second
pub record Mirrors (a b : PlainDb) (x y : Work) : Type 0 where
  pub answers : y.answers ≡ x.answers
  pub ops : y.ops ≡ x.ops
  pub touched : y.touched ≡ x.touched
  pub first_size : size x.copy ≡ size b
  pub second_size : size y.copy ≡ size b
  pub written : (i : ℕ) → names (map table_named x.ops) i ≡ true → at y.copy i ≡ at x.copy i
  pub first_kept : (i : ℕ) → names (map table_named x.ops) i ≡ false → at x.copy i ≡ at a i
  pub second_kept : (i : ℕ) → names (map table_named x.ops) i ≡ false → at y.copy i ≡ at b i

named_before : (op : Bool) (ops : List Act) (statement : Act) (i : ℕ) → (i ≡ (table_named statement).0 → ⊥)
    → names (map table_named (with_op op ops statement)) i ≡ true → names (map table_named ops) i ≡ true
unfolding with_op
named_before false ops statement i other e = e
named_before true ops statement i other e =
    elim (or_cases (names (map table_named ops) i) (eqb (table_named statement).0 i) (sym (names-push (map table_named ops) (table_named statement) i) ∙ ap (λ l. names l i) (sym (map-append table_named ops (statement ∷ []))) ∙ e)) as (λ _. names (map table_named ops) i ≡ true) [
      | inl before ↦ before
      | inr last ↦ absurd (other (sym (eqb-true (table_named statement).0 i last)))
    ]

written_step : (x y : PlainDb) (op : Bool) (ops : List Act) (statement : Act) (new : PlainTable) → size x ≡ size y
    → ((i : ℕ) → names (map table_named ops) i ≡ true → at y i ≡ at x i)
    → (i : ℕ) → names (map table_named (with_op op ops statement)) i ≡ true
    → at (with_table y (table_named statement) new) i ≡ at (with_table x (table_named statement) new) i
written_step x y op ops statement new sizes written i named =
    elim (cases_eq i (table_named statement).0) as (λ _. at (with_table y (table_named statement) new) i ≡ at (with_table x (table_named statement) new) i) [
      | inl here ↦ rw here (at-put y x (table_named statement) new (sym sizes))
      | inr other ↦ at-both y x (table_named statement) new i (sym sizes) (written i (named_before op ops statement i other named))
    ]

kept_step : (db copy : PlainDb) (op : Bool) (ops : List Act) (statement : Act) (new : PlainTable)
    → (op ≡ false → new ≡ table_of copy (table_named statement))
    → ((i : ℕ) → names (map table_named ops) i ≡ false → at copy i ≡ at db i)
    → (i : ℕ) → names (map table_named (with_op op ops statement)) i ≡ false
    → at (with_table copy (table_named statement) new) i ≡ at db i
unfolding with_op
kept_step db copy false ops statement new same kept i named =
    ap (λ table. at (with_table copy (table_named statement) table) i) (same refl)
    ∙ ap (λ d. at d i) (with_table-same copy (table_named statement))
    ∙ kept i named
kept_step db copy true ops statement new same kept i named =
    let parts : (names (map table_named ops) i ≡ false) × (eqb (table_named statement).0 i ≡ false) =
    or_parts _ _ (sym (names-push (map table_named ops) (table_named statement) i) ∙ ap (λ l. names l i) (sym (map-append table_named ops (statement ∷ []))) ∙ named) in
    at-other copy (table_named statement) new i (λ e. eqb-false (table_named statement).0 i parts.1 (sym e))
    ∙ kept i parts.0

mirrors_step : (a b : PlainDb) (x y : Work) (statement : Act) (done : Answer × PlainTable)
    → Mirrors a b x y → table_of x.copy (table_named statement) ≡ table_of y.copy (table_named statement)
    → (is_op done.0 ≡ false → done.1 ≡ table_of x.copy (table_named statement))
    → Mirrors a b (work_after x statement done) (work_after y statement done)
unfolding work_after
mirrors_step a b x y statement done m same kept = record {
  answers = ap (λ l. l ++ done.0 ∷ []) m.answers;
  ops = ap (λ l. with_op (is_op done.0) l statement) m.ops;
  touched = ap (λ l. l ++ table_named statement ∷ []) m.touched;
  first_size = size-with_table x.copy (table_named statement) done.1 ∙ m.first_size;
  second_size = size-with_table y.copy (table_named statement) done.1 ∙ m.second_size;
  written = written_step x.copy y.copy (is_op done.0) x.ops statement done.1 (m.first_size ∙ sym m.second_size) m.written;
  first_kept = kept_step a x.copy (is_op done.0) x.ops statement done.1 kept m.first_kept;
  second_kept = kept_step b y.copy (is_op done.0) x.ops statement done.1 (λ e. kept e ∙ same) m.second_kept;
}

same_at : (a b : PlainDb) (x y : Work) (i : ℕ) → Mirrors a b x y → at a i ≡ at b i → at x.copy i ≡ at y.copy i
same_at a b x y i m same =
    elim (cases_Bool (names (map table_named x.ops) i)) as (λ _. at x.copy i ≡ at y.copy i) [
      | inl named ↦ sym (m.written i named)
      | inr unnamed ↦ m.first_kept i unnamed ∙ same ∙ sym (m.second_kept i unnamed)
    ]

-- a transaction that goes to its end on the first database does so on the second
pub record Mirrored (a b : PlainDb) (statements : List Act) (y end : Work) : Type 0 where
  pub after : Work
  pub gives : after_acts (going y) statements ≡ going after
  pub mirrors : Mirrors a b end after

pub mirror : (a b : PlainDb) (statements : List Act) (x y end : Work)
    → after_acts (going x) statements ≡ going end → Mirrors a b x y
    → ((i : ℕ) → names end.touched i ≡ true → at a i ≡ at b i)
    → Mirrored a b statements y end
unfolding after_acts trial_after KeptUnlessOp work_of work_after table_of at
mirror a b [] x y end e m agree = record {
  after = y;
  gives = refl;
  mirrors = subst (λ trial. Mirrors a b (work_of trial) y) e m;
}
mirror a b (statement ∷ statements) x y end e m agree =
    let t : TableNo = table_named statement in
    elim (outcome_on (table_of x.copy t) statement) as (λ o.
    outcome_on (table_of x.copy t) statement ≡ o → KeptUnlessOp (table_of x.copy t) o
    → after_acts (trial_after x statement o) statements ≡ going end → Mirrored a b (statement ∷ statements) y end) [
      | None ↦ λ is kept e. absurd (stopped_never_goes t x statements end e)
      | Some done ↦ λ is kept e.
          let touched : names end.touched t.0 ≡ true =
          touched_stays statements (work_after x statement done) end t.0 e (names-last x.touched t t.0 (eq-eqb t.0 t.0 refl)) in
          let same : table_of x.copy t ≡ table_of y.copy t = same_at a b x y t.0 m (agree t.0 touched) in
          let rest : Mirrored a b statements (work_after y statement done) end =
          mirror a b statements (work_after x statement done) (work_after y statement done) end e
          (mirrors_step a b x y statement done m same kept) agree in
          record {
            after = rest.after;
            gives =
                ap (λ trial. after_acts trial statements) (step y statement ∙ ap (λ o. trial_after y statement o) (ap (λ table. outcome_on table statement) (sym same) ∙ is))
                ∙ rest.gives;
            mirrors = rest.mirrors;
          }
    ] refl (kept_unless_op (table_of x.copy t) statement) (ap (λ trial. after_acts trial statements) (sym (step x statement)) ∙ e)
