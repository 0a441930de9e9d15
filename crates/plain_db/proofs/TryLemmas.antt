-- A transaction that is being run, statement by statement.
use Rattle.std.proofs.Common.{◌≡◌, refl, sym, ◌∙◌, ap, subst, ℕ, zero, suc, ◌+◌, ◌<◌, ◌≤◌, Bool, true, false, List, [], ◌∷◌, ◌++◌, map, drop, length, get_or, Some, None, if◌then◌else◌, Option, is_some, not, arith}
use Rattle.std.proofs.lemmas.Bool.{true≢false, false≢true}
use Rattle.std.proofs.lemmas.List.{append-nil, map-append, at_drop_more, at_drop_all, get_or_past, get_or_read}
use Rattle.mope_base.specs.declared.numbers.TableNo.{TableNo}
use Rattle.workload.specs.declared.plain.PlainDb.{PlainDb}
use Rattle.workload.specs.declared.script.Act.{Act}
use Rattle.workload.specs.declared.script.Answer.{Answer}
use Rattle.workload.specs.declared.script.Piece.{Piece}
use Rattle.workload.specs.declared.script.Piece.TheVariants as piece
use Rattle.mope_base.specs.Lists.{Each}
use Rattle.workload.specs.Outcome.{Outcome, full, answered, outcome_of}
use Rattle.workload.specs.History.{effect_on}
use Rattle.workload.specs.Transaction.{Work, Trial, work_of, going, stopped, table_named, is_op, with_op, started, after_outcome, after_act, after_acts, trial_of}
use Rattle.plain_db.specs.declared.trying.Tried.{Tried}
use Rattle.plain_db.specs.Answerable.{IsAnswerable, outcome_shown}
use Rattle.plain_db.specs.Trying.{ShowsWork, Goes, Stops, AllNumbered, Fits, left_of, meets_full}
use Rattle.plain_db.specs.Running.{piece_after}
use Rattle.plain_db.proofs.TrialLemmas.{stopped-stays}
use Rattle.plain_db.proofs.NumberLemmas.{table-numbered, going-numbered}

pub try-full : (tried : Tried) (db new : PlainDb) (work : Work) (statement : Act) (t : TableNo) → ShowsWork tried work → db ≡ work.copy → t ≡ table_named statement
    → outcome_of db statement ≡ outcome_shown None new → Stops t tried (after_act (going work) statement)
unfolding after_act after_outcome outcome_shown
try-full tried db new work statement t shows copy named outcome = record {
  work = work;
  shows = shows;
  is =
      ap (λ o. after_outcome work statement o) (ap (λ d. outcome_of d statement) (sym copy) ∙ outcome)
      ∙ ap (λ n. stopped n work) (sym named);
}

ops-more : (is_one : Bool) (t : TableNo) (old : List TableNo) (ops : List Act) (statement : Act) → t ≡ table_named statement
    → old ≡ map table_named ops → old ++ (if is_one then t ∷ [] else []) ≡ map table_named (with_op is_one ops statement)
unfolding with_op
ops-more true t old ops statement named shows =
    ap (λ l. l ++ t ∷ []) shows ∙ ap (λ n. map table_named ops ++ n ∷ []) named ∙ sym (map-append table_named ops (statement ∷ []))
ops-more false t old ops statement named shows = append-nil old ∙ shows

pub try-goes : (tried next : Tried) (db new : PlainDb) (work : Work) (statement : Act) (t : TableNo) (a : Answer) → ShowsWork tried work → db ≡ work.copy → t ≡ table_named statement
    → outcome_of db statement ≡ outcome_shown (Some a) new
    → next.answers ≡ tried.answers ++ a ∷ []
    → next.ops ≡ tried.ops ++ (if is_op a then t ∷ [] else [])
    → next.touched ≡ tried.touched ++ t ∷ []
    → Goes next (after_act (going work) statement)
unfolding after_act after_outcome outcome_shown
try-goes tried next db new work statement t a shows copy named outcome answers ops touched = record {
  work = record {
    answers = work.answers ++ a ∷ [];
    copy = new;
    ops = with_op (is_op a) work.ops statement;
    touched = work.touched ++ table_named statement ∷ [];
  };
  shows = record {
    answers = answers ∙ ap (λ l. l ++ a ∷ []) shows.answers;
    ops = ops ∙ ops-more (is_op a) t tried.ops work.ops statement named shows.ops;
    touched = touched ∙ ap (λ l. l ++ t ∷ []) shows.touched ∙ ap (λ n. work.touched ++ n ∷ []) named;
  };
  is = ap (λ o. after_outcome work statement o) (ap (λ d. outcome_of d statement) (sym copy) ∙ outcome);
}

-- what an outcome leaves, and whether it met the full table

pub left-full : (db new : PlainDb) (statement : Act) → outcome_of db statement ≡ outcome_shown None new → new ≡ db → new ≡ left_of db (outcome_of db statement)
unfolding outcome_shown left_of
left-full db new statement outcome same = same ∙ sym (ap (left_of db) outcome)

pub left-answered : (db new : PlainDb) (statement : Act) (a : Answer) → outcome_of db statement ≡ outcome_shown (Some a) new → new ≡ left_of db (outcome_of db statement)
unfolding outcome_shown left_of
left-answered db new statement a outcome = sym (ap (left_of db) outcome)

pub left-shown : (db new : PlainDb) (statement : Act) (o : Option Answer) → outcome_of db statement ≡ outcome_shown o new → (o ≡ None → new ≡ db)
    → new ≡ left_of db (outcome_of db statement)
left-shown db new statement None outcome same = left-full db new statement outcome (same refl)
left-shown db new statement (Some a) outcome same = left-answered db new statement a outcome

pub full-shown : (db new : PlainDb) (statement : Act) (o : Option Answer) → outcome_of db statement ≡ outcome_shown o new
    → (none : Bool) → is_some o ≡ not none → none ≡ meets_full (outcome_of db statement)
unfolding outcome_shown meets_full
full-shown db new statement None outcome none is = is_true none (sym is) ∙ sym (ap meets_full outcome)
  where
    is_true : (b : Bool) → not b ≡ false → b ≡ true
    is_true true e = refl
    is_true false e = absurd (true≢false e)
full-shown db new statement (Some a) outcome none is = is_false none (sym is) ∙ sym (ap meets_full outcome)
  where
    is_false : (b : Bool) → not b ≡ true → b ≡ false
    is_false true e = absurd (false≢true e)
    is_false false e = refl

-- the statements from i on, after the work so far, which left this database, are the whole trial
pub record IsUnderWay (base : PlainDb) (acts : List Act) (i : ℕ) (db : PlainDb) : Type 0 where
  pub work : Work
  pub copy : db ≡ work.copy
  pub rest : after_acts (going work) (drop i acts) ≡ trial_of base acts
  pub numbered : AllNumbered db
  pub sizes : length db.tables ≡ length base.tables

pub way-start : (base : PlainDb) (acts : List Act) → AllNumbered base → IsUnderWay base acts 0 base
unfolding trial_of started
way-start base acts numbered = record { work = started base; copy = refl; rest = refl; numbered = numbered; sizes = refl }

each-read : (P : Act → Type 0) (acts : List Act) (i : ℕ) (d : Act) → i < length acts → Each P acts → P (get_or acts i d)
unfolding Each
each-read P [] i d within h = absurd (omega (arith, within))
each-read P (x ∷ acts) zero d within h = h.0
each-read P (x ∷ acts) (suc i) d within h = each-read P acts i d (omega (arith, within)) h.1

pub way-answerable : (base : PlainDb) (acts : List Act) (i : ℕ) (db : PlainDb) (statement : Act) → IsUnderWay base acts i db
    → Each (Fits (length base.tables)) acts → i < length acts → statement ≡ get_or acts i statement → IsAnswerable db statement
way-answerable base acts i db statement way fit within here =
    let fits : Fits (length base.tables) statement =
    subst (Fits (length base.tables)) (sym here) (each-read (Fits (length base.tables)) acts i statement within fit) in
    record {
      is_there = omega (arith, fits.is_there, way.sizes);
      numbered = table-numbered db (table_named statement) way.numbered;
      narrow = fits.narrow;
    }

way-step : (base : PlainDb) (acts : List Act) (i : ℕ) (db : PlainDb) (statement : Act) (way : IsUnderWay base acts i db)
    → i < length acts → statement ≡ get_or acts i statement
    → after_acts (after_act (going way.work) statement) (drop (i + 1) acts) ≡ trial_of base acts
unfolding after_acts
way-step base acts i db statement way within here =
    ap (λ s. after_acts (after_act (going way.work) s) (drop (i + 1) acts)) here
    ∙ sym (at_drop_more (λ l. after_acts (going way.work) l) acts i statement within)
    ∙ way.rest

left-outcome : (work : Work) (statement : Act) (o : Outcome) → left_of work.copy o ≡ (work_of (after_outcome work statement o)).copy
unfolding left_of after_outcome work_of
left-outcome work statement full = refl
left-outcome work statement (answered a db) = refl

-- what a statement leaves is what the work after it leaves
left-after : (db new : PlainDb) (work : Work) (statement : Act) → db ≡ work.copy → new ≡ left_of db (outcome_of db statement)
    → new ≡ (work_of (after_act (going work) statement)).copy
unfolding after_act
left-after db new work statement copy left =
    left ∙ ap (λ d. left_of d (outcome_of d statement)) copy ∙ left-outcome work statement (outcome_of work.copy statement)

pub way-goes : (base : PlainDb) (acts : List Act) (i : ℕ) (db new : PlainDb) (statement : Act) (way : IsUnderWay base acts i db) (work : Work)
    → i < length acts → statement ≡ get_or acts i statement → new ≡ left_of db (outcome_of db statement)
    → after_act (going way.work) statement ≡ going work → IsUnderWay base acts (i + 1) new
unfolding work_of
way-goes base acts i db new statement way work within here left is =
    let kept : AllNumbered work.copy × (length work.copy.tables ≡ length way.work.copy.tables) =
    going-numbered way.work work statement (subst AllNumbered way.copy way.numbered) is in
    let copy : new ≡ work.copy = left-after db new way.work statement way.copy left ∙ ap (λ trial. (work_of trial).copy) is in
    record {
      work = work;
      copy = copy;
      rest = ap (λ trial. after_acts trial (drop (i + 1) acts)) (sym is) ∙ way-step base acts i db statement way within here;
      numbered = subst AllNumbered (sym copy) kept.0;
      sizes =
          ap (λ (d : PlainDb). length d.tables) copy ∙ kept.1 ∙ ap (λ (d : PlainDb). length d.tables) (sym way.copy) ∙ way.sizes;
    }

-- a transaction that is being tried: besides, its answers and tables so far
pub record IsTrying (base : PlainDb) (acts : List Act) (i : ℕ) (db : PlainDb) (tried : Tried) : Type 0 where
  pub way : IsUnderWay base acts i db
  pub shows : ShowsWork tried way.work

pub trying-start : (base : PlainDb) (acts : List Act) (tried : Tried) → AllNumbered base → ShowsWork tried (started base) → IsTrying base acts 0 base tried
unfolding way-start started
trying-start base acts tried numbered shows = record { way = way-start base acts numbered; shows = shows }

pub trying-more : (base : PlainDb) (acts : List Act) (i : ℕ) (db new : PlainDb) (tried next : Tried) (statement : Act) (t : IsTrying base acts i db tried)
    → i < length acts → statement ≡ get_or acts i statement → new ≡ left_of db (outcome_of db statement)
    → Goes next (after_act (going t.way.work) statement) → IsTrying base acts (i + 1) new next
unfolding way-goes
trying-more base acts i db new tried next statement t within here left goes = record {
  way = way-goes base acts i db new statement t.way goes.work within here left goes.is;
  shows = goes.shows;
}

pub trying-stops : (base : PlainDb) (acts : List Act) (i : ℕ) (db : PlainDb) (tried next : Tried) (statement : Act) (t : TableNo) (trying : IsTrying base acts i db tried)
    → i < length acts → statement ≡ get_or acts i statement → Stops t next (after_act (going trying.way.work) statement) → Stops t next (trial_of base acts)
trying-stops base acts i db tried next statement t trying within here stops = record {
  work = stops.work;
  shows = stops.shows;
  is =
      sym (way-step base acts i db statement trying.way within here)
      ∙ ap (λ trial. after_acts trial (drop (i + 1) acts)) stops.is
      ∙ stopped-stays t stops.work (drop (i + 1) acts);
}

pub trying-ends : (base : PlainDb) (acts : List Act) (i : ℕ) (db : PlainDb) (tried : Tried) → IsTrying base acts i db tried → length acts ≤ i → Goes tried (trial_of base acts)
unfolding after_acts
trying-ends base acts i db tried trying past = record {
  work = trying.way.work;
  shows = trying.shows;
  is = sym trying.way.rest ∙ at_drop_all (λ l. after_acts (going trying.way.work) l) acts i past;
}

-- a transaction that is being done again

record IsGoing (trial : Trial) : Type 0 where
  pub work : Work
  pub is : trial ≡ going work

stays-going : (o : Outcome) (work : Work) (statement : Act) → meets_full o ≡ false → IsGoing (after_outcome work statement o)
unfolding meets_full after_outcome
stays-going full work statement e = absurd (true≢false e)
stays-going (answered a db) work statement e = record { work = _; is = refl }

met-full : (o : Outcome) (work : Work) (statement : Act) → meets_full o ≡ true → after_outcome work statement o ≡ stopped (table_named statement) work
unfolding meets_full after_outcome
met-full full work statement e = refl
met-full (answered a db) work statement e = absurd (false≢true e)

pub way-more : (base : PlainDb) (acts : List Act) (i : ℕ) (db new : PlainDb) (statement : Act) (way : IsUnderWay base acts i db)
    → i < length acts → statement ≡ get_or acts i statement → new ≡ left_of db (outcome_of db statement)
    → false ≡ meets_full (outcome_of db statement) → IsUnderWay base acts (i + 1) new
unfolding after_act
way-more base acts i db new statement way within here left on =
    let goes : IsGoing (after_act (going way.work) statement) =
    stays-going (outcome_of way.work.copy statement) way.work statement (ap (λ d. meets_full (outcome_of d statement)) (sym way.copy) ∙ sym on) in
    way-goes base acts i db new statement way goes.work within here left goes.is

pub way-stops : (base : PlainDb) (acts : List Act) (i : ℕ) (db new : PlainDb) (statement : Act) (way : IsUnderWay base acts i db)
    → i < length acts → statement ≡ get_or acts i statement → new ≡ left_of db (outcome_of db statement)
    → true ≡ meets_full (outcome_of db statement) → new ≡ (work_of (trial_of base acts)).copy
unfolding after_act
way-stops base acts i db new statement way within here left met =
    let is : after_act (going way.work) statement ≡ stopped (table_named statement) way.work =
    met-full (outcome_of way.work.copy statement) way.work statement (ap (λ d. meets_full (outcome_of d statement)) (sym way.copy) ∙ sym met) in
    left-after db new way.work statement way.copy left
    ∙ ap (λ trial. (work_of trial).copy) (
    is
    ∙ sym (stopped-stays (table_named statement) way.work (drop (i + 1) acts))
    ∙ ap (λ trial. after_acts trial (drop (i + 1) acts)) (sym is)
    ∙ way-step base acts i db statement way within here)

pub way-ends : (base : PlainDb) (acts : List Act) (i : ℕ) (db : PlainDb) → IsUnderWay base acts i db → length acts ≤ i → db ≡ (work_of (trial_of base acts)).copy
unfolding after_acts work_of
way-ends base acts i db way past =
    way.copy ∙ ap (λ trial. (work_of trial).copy) (sym (at_drop_all (λ l. after_acts (going way.work) l) acts i past) ∙ way.rest)

-- past the script's end there is nothing to do again
pub none-after : (script : List Piece) (ended : ℕ) (db : PlainDb) → length script ≤ ended → db ≡ effect_on (piece_after script ended) db
unfolding piece_after effect_on trial_of after_acts work_of started
none-after script ended db past = ap (λ p. effect_on p db) (sym (get_or_past script ended (piece.Txn [] true) past))

pub read-after : (script : List Piece) (ended : ℕ) (present : Piece) → ended < length script → present ≡ get_or script ended present → present ≡ piece_after script ended
unfolding piece_after
read-after script ended present within here = get_or_read script ended present within here (piece.Txn [] true)
