-- What a commit makes of the current database is what the transaction makes of it.
use Rattle.std.proofs.Common.{◌≡◌, refl, sym, ◌∙◌, ap, subst, ℕ, true, false, eqb, List, [], ◌∷◌, map, inl, inr}
use Rattle.std.proofs.lemmas.Bool.{cases_Bool, eqb-true, eqb-false, false≢true, or_cases, or_parts}
use Rattle.mope_base.specs.declared.numbers.TableNo.{TableNo}
use Rattle.workload.specs.declared.plain.PlainDb.{PlainDb}
use Rattle.workload.specs.declared.script.Act.{Act}
use Rattle.workload.specs.PlainDatabase.{table_of, with_table}
use Rattle.workload.specs.Transaction.{Work, going, table_named, started, trial_of}
use Rattle.workload.specs.Run.{names, merged}
use Rattle.plain_db.proofs.TableOutcomes.{at, size, size-with_table, at-other, at-put, with_table-same, same_databases}
use Rattle.plain_db.proofs.TrialLemmas.{Mirrors, Mirrored, mirror}

pub size-merged : (ops : List Act) (copy db : PlainDb) → size (merged ops copy db) ≡ size db
unfolding merged
size-merged [] copy db = refl
size-merged (op ∷ ops) copy db =
    size-merged ops copy (with_table db (table_named op) (table_of copy (table_named op)))
    ∙ size-with_table db (table_named op) (table_of copy (table_named op))

pub at-merged_other : (ops : List Act) (copy db : PlainDb) (i : ℕ) → names (map table_named ops) i ≡ false → at (merged ops copy db) i ≡ at db i
unfolding merged names
at-merged_other [] copy db i unnamed = refl
at-merged_other (op ∷ ops) copy db i unnamed =
    let parts : (eqb (table_named op).0 i ≡ false) × (names (map table_named ops) i ≡ false) = or_parts _ _ unnamed in
    at-merged_other ops copy (with_table db (table_named op) (table_of copy (table_named op))) i parts.1
    ∙ at-other db (table_named op) (table_of copy (table_named op)) i (λ e. eqb-false (table_named op).0 i parts.0 (sym e))

pub at-merged : (ops : List Act) (copy db : PlainDb) (i : ℕ) → size copy ≡ size db → names (map table_named ops) i ≡ true
    → at (merged ops copy db) i ≡ at copy i
unfolding merged names
at-merged [] copy db i sizes named = absurd (false≢true named)
at-merged (op ∷ ops) copy db i sizes named =
    let t : TableNo = table_named op in
    let next : PlainDb = with_table db t (table_of copy t) in
    elim (cases_Bool (names (map table_named ops) i)) as (λ _. at (merged ops copy next) i ≡ at copy i) [
      | inl later ↦ at-merged ops copy next i (sizes ∙ sym (size-with_table db t (table_of copy t))) later
      | inr last ↦
          let here : t.0 ≡ i = eqb-true t.0 i (elim (or_cases (eqb t.0 i) (names (map table_named ops) i) named) as (λ _. eqb t.0 i ≡ true) [
            | inl is ↦ is
            | inr later ↦ absurd (false≢true (sym last ∙ later))
          ]) in
          at-merged_other ops copy next i last
          ∙ subst (λ k. at next k ≡ at copy k) here (
          at-put db copy t (table_of copy t) (sym sizes)
          ∙ ap (λ d. at d t.0) (with_table-same copy t))
    ]

-- a transaction that was tried on a base repeats on a database with the same touched tables, and makes the merger of it
pub record RepeatsOn (work : Work) (db : PlainDb) (statements : List Act) : Type 0 where
  pub after : Work
  pub goes : trial_of db statements ≡ going after
  pub answers : after.answers ≡ work.answers
  pub makes : after.copy ≡ merged work.ops work.copy db

starts_mirrored : (base db : PlainDb) → size base ≡ size db → Mirrors base db (started base) (started db)
unfolding started names
starts_mirrored base db sizes = record {
  answers = refl;
  ops = refl;
  touched = refl;
  first_size = sizes;
  second_size = refl;
  written = λ i named. absurd (false≢true named);
  first_kept = λ i unnamed. refl;
  second_kept = λ i unnamed. refl;
}

mirrored_copy : (base db : PlainDb) (work after : Work) → Mirrors base db work after → after.copy ≡ merged work.ops work.copy db
mirrored_copy base db work after m =
    same_databases after.copy (merged work.ops work.copy db) (m.second_size ∙ sym (size-merged work.ops work.copy db)) (λ i.
    elim (cases_Bool (names (map table_named work.ops) i)) as (λ _. at after.copy i ≡ at (merged work.ops work.copy db) i) [
      | inl named ↦ m.written i named ∙ sym (at-merged work.ops work.copy db i m.first_size named)
      | inr unnamed ↦ m.second_kept i unnamed ∙ sym (at-merged_other work.ops work.copy db i unnamed)
    ])

pub repeats_on : (base db : PlainDb) (statements : List Act) (work : Work) → trial_of base statements ≡ going work
    → size base ≡ size db → ((i : ℕ) → names work.touched i ≡ true → at base i ≡ at db i)
    → RepeatsOn work db statements
unfolding trial_of
repeats_on base db statements work tried sizes agree =
    let m : Mirrored base db statements (started db) work =
    mirror base db statements (started base) (started db) work tried (starts_mirrored base db sizes) agree in
    record {
      after = m.after;
      goes = m.gives;
      answers = m.mirrors.answers;
      makes = mirrored_copy base db work m.after m.mirrors;
    }
