-- The lines of a generated text lead to a workload.
use Rattle.std.proofs.Common.{◌≡◌, ℕ, zero, suc, ◌+◌, ◌/◌, ◌^◌, ◌<◌, ◌≤◌, lit<, lit≤, Bool, true, false, nat_eq, nat_lt, List, [], ◌∷◌, ◌++◌, length, map, None, Some, Ok, if◌then◌else◌, refl, ap, sym, ◌∙◌, subst, arith, append_assoc, length-append, mod-lt}
use Rattle.std.proofs.lemmas.List.{map-append}
use Rattle.std.specs.List.{list_all}
use Rattle.mope_base.specs.Lists.{Each}
use Rattle.sql_text.specs.Canonical.{canonical}
use Rattle.sql_text.specs.Words.{is_allowed}
use Rattle.sql_text.specs.declared.statements.Stmt.{Stmt}
use Rattle.sql_text.specs.declared.statements.Stmt.TheVariants as stmt
use Rattle.workload.specs.declared.script.Act.{Act}
use Rattle.workload.specs.declared.script.Piece.{Piece}
use Rattle.workload.specs.declared.script.Workload.{Workload}
use Rattle.workload_file.specs.FileLines.{IsLine}
use Rattle.workload_file.specs.GeneratedLaws.{generated_table}
use Rattle.workload_file.specs.GeneratedText.{behind, count_above, count_between, delete_of, drawn, greatest_five, insert_of, least_below, next_state, of_kind, rebuild, transaction, transactions_of}
use Rattle.workload_file.specs.Resolving.{bound, both, columns_in, deleted, deleted_in, each_found, inserted, inserted_if, inserted_in, order_in, rebuild_of, rebuilt, rebuilt_in, rows_in, selected, selected_in, test_in, tests_in, verb_in}
use Rattle.workload_file.specs.Steps.{at, begun, closed, in_session, stated, take, take_at, with_act, with_rebuild, with_stage}
use Rattle.workload_file.specs.WorkloadFile.{Goes, Leads}
use Rattle.workload_file.specs.declared.draws.Draft.{Draft}
use Rattle.workload_file.specs.declared.lines.Line.{Line}
use Rattle.workload_file.specs.declared.lines.Line.TheVariants.{Stated}
use Rattle.workload_file.specs.declared.reader.Reader.{Reader}
use Rattle.workload_file.specs.declared.reader.Stage.TheVariants.{Session}
use Rattle.workload_file.proofs.CanonicalLines.{canonical_gives}
use Rattle.workload_file.proofs.CleanLines.{canonical_clean, return_kept}
use Rattle.workload_file.proofs.GeneratedStatements.{IsFine, fine_above, fine_begin, fine_between, fine_commit, fine_delete, fine_greatest, fine_insert, fine_least, fine_rebuild}

-- the lines lead to a workload of which something holds
pub record Reaches (F : Workload → Type 0) (n : ℕ) (reader : Reader) (lines : List (List ℕ)) : Type 0 where
  pub workload : Workload
  pub leads : Leads n reader lines (Ok workload)
  pub holds : F workload

pub line_on : (F : Workload → Type 0) (n : ℕ) (reader after : Reader) (line : List ℕ) (s : Line) (lines : List (List ℕ)) → list_all is_allowed line ≡ true → IsLine line s → take reader s ≡ Ok after
    → Reaches F (suc n) after lines → Reaches F n reader (line ∷ lines)
unfolding Leads Goes
line_on F n reader after line s lines clean is e r = record {
  workload = r.workload;
  leads = (Ok after, record { said = s; is_line = subst (λ (l : List ℕ). IsLine l s) (sym (return_kept line clean)) is; taken = sym e }, r.leads);
  holds = r.holds;
}

-- a session has begun, after these
abbrev pub going : List (List Piece) → List Piece → Reader
going sessions pieces = at (generated_table ∷ []) sessions (Session pieces None)

abbrev pub within : List (List Piece) → List Piece → List Act → Reader
within sessions pieces acts = at (generated_table ∷ []) sessions (Session pieces (Some acts))

statement_on : (F : Workload → Type 0) (n : ℕ) (reader after : Reader) (s : Stmt) (lines : List (List ℕ)) → IsFine s → take reader (Stated s) ≡ Ok after → Reaches F (suc n) after lines
    → Reaches F n reader (canonical s ∷ lines)
statement_on F n reader after s lines fine e r =
    line_on F n reader after (canonical s) (Stated s) lines (canonical_clean s fine.tokens) (canonical_gives s fine.statement fine.tokens fine.few) e r

-- the statements of a part of the text are a transaction
pub record IsTransaction (draft : Draft) : Type 1 where
  pub each : Each IsFine draft.statements
  pub few : length draft.statements ≤ 4
  pub on :
      (F : Workload → Type 0) (n : ℕ) (sessions : List (List Piece)) (pieces : List Piece) (lines : List (List ℕ)) → ((m : ℕ) (p : Piece) → Reaches F m (going sessions (pieces ++ p ∷ [])) lines)
      → Reaches F n (going sessions pieces) (map canonical draft.statements ++ lines)

-- a statement that is a transaction by itself
alone : (s : Stmt) (p : Piece) (x : ℕ) → IsFine s → ((sessions : List (List Piece)) (pieces : List Piece) → take (going sessions pieces) (Stated s) ≡ Ok (going sessions (pieces ++ p ∷ [])))
    → IsTransaction (record { statements = s ∷ []; state = x })
unfolding Each
alone s p x fine e = record {
  each = (fine, tt);
  few = omega arith;
  on = λ F n sessions pieces lines later. statement_on F n (going sessions pieces) (going sessions (pieces ++ p ∷ [])) s lines fine (e sessions pieces) (later (suc n) p);
}

insert_on : (p q x : ℕ) → p < 1000000 → q < 1000000 → IsTransaction (record { statements = insert_of p q ∷ []; state = x })
unfolding take take_at in_session with_stage stated with_act inserted inserted_in inserted_if insert_of
insert_on p q x small less = alone (insert_of p q) _ x (fine_insert p q small less) (λ sessions pieces. refl)

between_on : (p q x : ℕ) → p < 1000000 → q < 1000000 → IsTransaction (record { statements = count_between p q ∷ []; state = x })
unfolding take take_at in_session with_stage stated with_act selected selected_in verb_in tests_in test_in each_found both bound count_between
between_on p q x small less = alone (count_between p q) _ x (fine_between p q small less) (λ sessions pieces. refl)

greatest_on : (p x : ℕ) → p < 1000000 → IsTransaction (record { statements = greatest_five p ∷ []; state = x })
unfolding take take_at in_session with_stage stated with_act selected selected_in verb_in rows_in order_in columns_in tests_in test_in each_found both bound greatest_five
greatest_on p x small = alone (greatest_five p) _ x (fine_greatest p small) (λ sessions pieces. refl)

least_on : (p x : ℕ) → p < 1000000 → IsTransaction (record { statements = least_below p ∷ []; state = x })
unfolding take take_at in_session with_stage stated with_act selected selected_in verb_in tests_in test_in each_found both bound least_below
least_on p x small = alone (least_below p) _ x (fine_least p small) (λ sessions pieces. refl)

delete_on : (p x : ℕ) → p < 1000000 → IsTransaction (record { statements = delete_of p ∷ []; state = x })
unfolding take take_at in_session with_stage stated with_act deleted deleted_in tests_in test_in each_found both bound delete_of
delete_on p x small = alone (delete_of p) _ x (fine_delete p small) (λ sessions pieces. refl)

rebuild_on : (x : ℕ) → IsTransaction (record { statements = rebuild ∷ []; state = x })
unfolding take take_at in_session with_stage stated with_rebuild rebuilt rebuilt_in rebuild_of rebuild
rebuild_on x = alone rebuild _ x fine_rebuild (λ sessions pieces. refl)

enclosed_on : (p q x : ℕ) → p < 1000000 → q < 1000000 → IsTransaction (record { statements = stmt.Begin ∷ insert_of p q ∷ count_above q ∷ stmt.Commit ∷ []; state = x })
unfolding Each take take_at in_session with_stage stated begun closed with_act inserted inserted_in inserted_if selected selected_in verb_in tests_in test_in each_found both bound insert_of count_above
enclosed_on p q x small less = record {
  each = (fine_begin, (fine_insert p q small less, (fine_above q less, (fine_commit, tt))));
  few = omega arith;
  on = λ F n sessions pieces lines later.
      statement_on F n (going sessions pieces) (within sessions pieces []) stmt.Begin _ fine_begin refl
      (statement_on F (suc n) (within sessions pieces []) (within sessions pieces (_ ∷ [])) (insert_of p q) _ (fine_insert p q small less) refl
      (statement_on F (suc (suc n)) (within sessions pieces (_ ∷ [])) (within sessions pieces (_ ∷ _ ∷ [])) (count_above q) _ (fine_above q less) refl
      (statement_on F (suc (suc (suc n))) (within sessions pieces (_ ∷ _ ∷ [])) (going sessions (pieces ++ _ ∷ [])) stmt.Commit lines fine_commit refl (later (suc (suc (suc (suc n)))) _))));
}

drawn_below : (below x : ℕ) → 0 < below → below ≤ 1000000 → drawn below x < 1000000
unfolding drawn
drawn_below below x some few = (let less = mod-lt (x / 2 ^ 33) some in omega (arith, less, few))

chosen : (test : Bool) (a b : Draft) → IsTransaction a → IsTransaction b → IsTransaction (if test then a else b)
chosen true a b first second = first
chosen false a b first second = second

kind_on : (kind x : ℕ) → IsTransaction (of_kind kind x)
unfolding of_kind
kind_on kind x =
    let p : drawn 1000 (next_state x) < 1000000 = drawn_below 1000 (next_state x) (lit< tt) (lit≤ tt) in
    let q : drawn 1000000 (next_state (next_state x)) < 1000000 = drawn_below 1000000 (next_state (next_state x)) (lit< tt) (lit≤ tt) in
    let r : drawn 1000 (next_state (next_state x)) < 1000000 = drawn_below 1000 (next_state (next_state x)) (lit< tt) (lit≤ tt) in
    chosen (nat_lt kind 8) _ _ (insert_on _ _ _ p q)
    (chosen (nat_lt kind 10) _ _ (between_on _ _ _ p r)
    (chosen (nat_eq kind 10) _ _ (greatest_on _ _ p)
    (chosen (nat_eq kind 11) _ _ (least_on _ _ p)
    (chosen (nat_eq kind 12) _ _ (delete_on _ _ p)
    (chosen (nat_lt kind 15) _ _ (enclosed_on _ _ _ p q) (rebuild_on x))))))

pub transaction_on : (x : ℕ) → IsTransaction (transaction x)
unfolding transaction
transaction_on x = kind_on (drawn 16 (next_state x)) (next_state x)

split_lines : (front back : List Stmt) (lines : List (List ℕ)) → map canonical (front ++ back) ++ lines ≡ map canonical front ++ (map canonical back ++ lines)
split_lines front back lines = ap (λ (ls : List (List ℕ)). ls ++ lines) (map-append canonical front back) ∙ append_assoc (map canonical front) (map canonical back) lines

-- so many transactions
pub transactions_on : (F : Workload → Type 0) (k x n : ℕ) (sessions : List (List Piece)) (pieces : List Piece) (lines : List (List ℕ))
    → ((m : ℕ) (all : List Piece) → length all ≡ length pieces + k → Reaches F m (going sessions all) lines)
    → Reaches F n (going sessions pieces) (map canonical (transactions_of k x).statements ++ lines)
unfolding transactions_of behind
transactions_on F zero x n sessions pieces lines later = later n pieces (omega arith)
transactions_on F (suc k) x n sessions pieces lines later =
    let rest : Draft = transactions_of k (transaction x).state in
    subst (λ (ls : List (List ℕ)). Reaches F n (going sessions pieces) ls) (sym (split_lines (transaction x).statements rest.statements lines))
    ((transaction_on x).on F n sessions pieces (map canonical rest.statements ++ lines) (λ m p. transactions_on F k (transaction x).state m sessions (pieces ++ p ∷ []) lines
    (λ m2 all size. later m2 all (let more = length-append pieces (p ∷ []) in omega (arith, size, more)))))
