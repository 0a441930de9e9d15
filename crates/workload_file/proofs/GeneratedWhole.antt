-- A generated text, as a whole: it is cut into its lines, isn't too long, and leads to a workload.
use Rattle.std.proofs.Common.{◌≡◌, ℕ, zero, suc, ◌+◌, ◌*◌, ◌<◌, ◌≤◌, Bool, true, false, List, [], ◌∷◌, ◌++◌, length, map, Ok, Err, Result, if◌then◌else◌, codes, refl, ap, sym, ◌∙◌, subst, arith, append_assoc, length-append}
use Rattle.std.proofs.lemmas.Bool.{lt-leb}
use Rattle.std.specs.List.{list_all}
use Rattle.mope_base.specs.Lists.{Each}
use Rattle.sql_text.specs.Canonical.{canonical}
use Rattle.sql_text.specs.FrameLines.{IsFrameLine, frame_tokens}
use Rattle.sql_text.specs.Grammar.{joined, joined_after}
use Rattle.sql_text.specs.Lexing.{Placed, blank_or_token, first_token, number_at, symbol_at, token_at, tokens_from, with_first, word_at}
use Rattle.sql_text.specs.Words.{is_allowed, keyword_of, keywords}
use Rattle.sql_text.specs.declared.frames.Frame.TheVariants as frame
use Rattle.sql_text.specs.declared.marks.Mark.TheVariants as mark
use Rattle.sql_text.specs.declared.statements.Stmt.{Stmt}
use Rattle.sql_text.specs.declared.tokens.Token.{Token}
use Rattle.sql_text.specs.declared.tokens.Token.TheVariants.{Fixed, Named, Number}
use Rattle.workload.specs.declared.script.Piece.{Piece}
use Rattle.workload.specs.declared.script.Workload.{Workload}
use Rattle.workload_file.specs.GeneratedLaws.{SpellsSessions, generated_table}
use Rattle.workload_file.specs.GeneratedText.{a, b, behind, g, generated, generated_lines, session_lines, sessions_lines, text_of_lines, transaction, transactions_of}
use Rattle.workload_file.specs.Naming.{declared, declared_as, declared_unless, has_too_many, then_told, told_after, told_apart, with_table}
use Rattle.workload_file.specs.Steps.{at, at_stage, declaring, framed_in_session, in_session, is_last_session, next_session, opened, session_ended, start, take, take_at, with_tables}
use Rattle.workload_file.specs.WorkloadFile.{Leads, ended_at, lines_of}
use Rattle.workload_file.specs.declared.draws.Draft.{Draft}
use Rattle.workload_file.specs.declared.lines.Line.TheVariants.{Framed}
use Rattle.workload_file.specs.declared.reader.Reader.{Reader}
use Rattle.workload_file.specs.declared.reader.Stage.TheVariants.{Declaring, Ended}
use Rattle.workload_file.specs.declared.stops.FileReason.{FileReason}
use Rattle.workload_file.proofs.CleanLines.{canonical_clean, lines_again}
use Rattle.workload_file.proofs.FileLemmas.{not_long}
use Rattle.workload_file.proofs.GeneratedRun.{Reaches, going, line_on, transaction_on, transactions_on}
use Rattle.workload_file.proofs.GeneratedStatements.{IsFine}
use Rattle.workload_file.proofs.TextLemmas.{text_append}
use Rattle.workload_file.proofs.ValidActs.{each_push}
use Rattle.workload_file.proofs.ValidSteps.{read_is_valid}

placed : ℕ → Token → Placed
placed at token = record { at = at; token = token }

is_header : IsFrameLine (codes "mope 1") frame.Header
unfolding placed frame_tokens tokens_from blank_or_token first_token with_first token_at word_at number_at symbol_at keyword_of keywords
is_header = record { tokens = placed 0 (Fixed mark.Mope) ∷ placed 5 (Number 1) ∷ []; line_tokens = record { allowed = refl; lexed = refl }; right = tt; spelled = refl }

is_table : IsFrameLine (codes "TABLE g (a, b)") (frame.Table g (a ∷ b ∷ []))
unfolding placed frame_tokens joined joined_after tokens_from blank_or_token first_token with_first token_at word_at number_at symbol_at keyword_of keywords
is_table = record {
  tokens =
      placed 0 (Fixed mark.Table) ∷ placed 6 (Named g) ∷ placed 8 (Fixed mark.Open) ∷ placed 9 (Named a) ∷ placed 10 (Fixed mark.Comma) ∷ placed 12 (Named b) ∷ placed 13 (Fixed mark.Close) ∷ [];
  line_tokens = record { allowed = refl; lexed = refl };
  right = tt;
  spelled = refl;
}

is_session : IsFrameLine (codes "SESSION") frame.Session
unfolding placed frame_tokens tokens_from blank_or_token first_token with_first token_at word_at number_at symbol_at keyword_of keywords
is_session = record { tokens = placed 0 (Fixed mark.Session) ∷ []; line_tokens = record { allowed = refl; lexed = refl }; right = tt; spelled = refl }

is_end : IsFrameLine (codes "END") frame.End
unfolding placed frame_tokens tokens_from blank_or_token first_token with_first token_at word_at number_at symbol_at keyword_of keywords
is_end = record { tokens = placed 0 (Fixed mark.End) ∷ []; line_tokens = record { allowed = refl; lexed = refl }; right = tt; spelled = refl }

record Holds (total transactions : ℕ) (w : Workload) : Type 0 where
  table : w.tables ≡ generated_table ∷ []
  many : length w.sessions ≡ total
  each : Each (λ (script : List Piece). length script ≡ transactions) w.sessions

end_on : (F : Workload → Type 0) (n : ℕ) (reader : Reader) (sessions : List (List Piece)) → take reader (Framed frame.End) ≡ Ok (at (generated_table ∷ []) sessions Ended)
    → F (record { tables = generated_table ∷ []; sessions = sessions }) → Reaches F n reader (codes "END" ∷ [])
unfolding Leads ended_at
end_on F n reader sessions e holds =
    line_on F n reader (at (generated_table ∷ []) sessions Ended) (codes "END") (Framed frame.End) [] refl is_end e
    (record { workload = record { tables = generated_table ∷ []; sessions = sessions }; leads = refl; holds = holds })

not_last : (last : Bool) (why : FileReason) (reader : Reader) (r : Result Reader FileReason) → last ≡ false → r ≡ Ok reader → (if last then Err why else r) ≡ Ok reader
not_last true why reader r e is = absurd (let no : ⊥ = cc in no)
not_last false why reader r e is = is

session_step : (sessions : List (List Piece)) (pieces : List Piece) → length sessions < 63 → take (going sessions pieces) (Framed frame.Session) ≡ Ok (going (sessions ++ pieces ∷ []) [])
unfolding take take_at in_session framed_in_session next_session at_stage session_ended is_last_session
session_step sessions pieces few = not_last _ _ _ _ (lt-leb 63 (length sessions) few) refl

end_step : (sessions : List (List Piece)) (pieces : List Piece) → take (going sessions pieces) (Framed frame.End) ≡ Ok (at (generated_table ∷ []) (sessions ++ pieces ∷ []) Ended)
unfolding take take_at in_session framed_in_session at_stage session_ended
end_step sessions pieces = refl

as_lines : (own : List Stmt) (rest back : List (List ℕ)) → (codes "SESSION" ∷ (map canonical own ++ (rest ++ back))) ≡ ((codes "SESSION" ∷ map canonical own) ++ rest) ++ back
as_lines own rest back = ap (λ (ls : List (List ℕ)). codes "SESSION" ∷ ls) (sym (append_assoc (map canonical own) rest back))

-- a session is open, and so many more come
open_on : (t k x n total : ℕ) (sessions : List (List Piece)) (pieces : List Piece) → length sessions + suc k ≡ total → total ≤ 64 → Each (λ (script : List Piece). length script ≡ t) sessions → length pieces ≡ t
    → Reaches (Holds total t) n (going sessions pieces) (sessions_lines k t x ++ codes "END" ∷ [])
unfolding sessions_lines session_lines
open_on t zero x n total sessions pieces count few each own =
    end_on (Holds total t) n (going sessions pieces) (sessions ++ pieces ∷ []) (end_step sessions pieces)
    (record { table = refl; many = length-append sessions (pieces ∷ []) ∙ count; each = each_push (λ (script : List Piece). length script ≡ t) sessions pieces each own })
open_on t (suc k) x n total sessions pieces count few each own =
    let script : Draft = transactions_of t x in
    let rest : List (List ℕ) = sessions_lines k t script.state in
    let more = length-append sessions (pieces ∷ []) in
    subst (λ (ls : List (List ℕ)). Reaches (Holds total t) n (going sessions pieces) ls) (as_lines script.statements rest (codes "END" ∷ []))
    (line_on (Holds total t) n (going sessions pieces) (going (sessions ++ pieces ∷ []) []) (codes "SESSION") (Framed frame.Session) _ refl is_session (session_step sessions pieces (omega (arith, count, few)))
    (transactions_on (Holds total t) t x (suc n) (sessions ++ pieces ∷ []) [] (rest ++ codes "END" ∷ [])
    (λ m all size. open_on t k script.state m total (sessions ++ pieces ∷ []) all (omega (arith, count, more)) few (each_push (λ (script : List Piece). length script ≡ t) sessions pieces each own) (omega (arith, size)))))

declared_on : (t k x n : ℕ) → k ≤ 64 → Reaches (Holds k t) n (at (generated_table ∷ []) [] Declaring) (sessions_lines k t x ++ codes "END" ∷ [])
unfolding sessions_lines session_lines take take_at declaring Each
declared_on t zero x n few = end_on (Holds 0 t) n (at (generated_table ∷ []) [] Declaring) [] refl (record { table = refl; many = refl; each = tt })
declared_on t (suc k) x n few =
    let script : Draft = transactions_of t x in
    let rest : List (List ℕ) = sessions_lines k t script.state in
    subst (λ (ls : List (List ℕ)). Reaches (Holds (suc k) t) n (at (generated_table ∷ []) [] Declaring) ls) (as_lines script.statements rest (codes "END" ∷ []))
    (line_on (Holds (suc k) t) n (at (generated_table ∷ []) [] Declaring) (going [] []) (codes "SESSION") (Framed frame.Session) _ refl is_session refl
    (transactions_on (Holds (suc k) t) t x (suc n) [] [] (rest ++ codes "END" ∷ []) (λ m all size. open_on t k script.state m (suc k) [] all (omega arith) few tt (omega (arith, size)))))

table_step : take (at [] [] Declaring) (Framed (frame.Table g (a ∷ b ∷ []))) ≡ Ok (at (generated_table ∷ []) [] Declaring)
unfolding take take_at declaring with_tables declared declared_unless declared_as with_table told_apart told_after then_told has_too_many
table_step = refl

header_step : take start (Framed frame.Header) ≡ Ok (at [] [] Declaring)
unfolding start take take_at opened
header_step = refl

all_on : (number k t : ℕ) → k ≤ 64 → Reaches (Holds k t) 1 start (generated_lines number k t)
unfolding generated_lines
all_on number k t few =
    line_on (Holds k t) 1 start (at [] [] Declaring) (codes "mope 1") (Framed frame.Header) _ refl is_header header_step
    (line_on (Holds k t) 2 (at [] [] Declaring) (at (generated_table ∷ []) [] Declaring) (codes "TABLE g (a, b)") (Framed (frame.Table g (a ∷ b ∷ []))) _ refl is_table table_step (declared_on t k number 3 few))

-- the sizes of parts of the text
statements_size : (statements : List Stmt) → Each IsFine statements → length (text_of_lines (map canonical statements)) ≤ 100 * length statements
unfolding text_of_lines Each
statements_size [] fine = omega arith
statements_size (s ∷ statements) fine =
    let size = length-append (canonical s) (10 ∷ text_of_lines (map canonical statements)) in
    let one : length (canonical s) ≤ 99 = fine.0.short in
    let rest = statements_size statements fine.1 in
    omega (arith, size, one, rest)

parts_size : (front back : List (List ℕ)) (m n : ℕ) → length (text_of_lines front) ≤ m → length (text_of_lines back) ≤ n → length (text_of_lines (front ++ back)) ≤ m + n
parts_size front back m n h k =
    let size = ap length (text_append front back) ∙ length-append (text_of_lines front) (text_of_lines back) in
    omega (arith, size, h, k)

each_append : {A : Type 0} (P : A → Type 0) (xs ys : List A) → Each P xs → Each P ys → Each P (xs ++ ys)
unfolding Each
each_append P [] ys first second = second
each_append P (x ∷ xs) ys first second = (first.0, each_append P xs ys first.1 second)

-- the statements of so many transactions are read, and there are at most four to each
record AreFine (statements : List Stmt) (most : ℕ) : Type 0 where
  each : Each IsFine statements
  few : length statements ≤ 4 * most

fine_on : (k x : ℕ) → AreFine (transactions_of k x).statements k
unfolding transactions_of behind Each
fine_on zero x = record { each = tt; few = omega arith }
fine_on (suc k) x =
    let one = transaction_on x in
    let rest = fine_on k (transaction x).state in
    let size = length-append (transaction x).statements (transactions_of k (transaction x).state).statements in
    let few : length (transaction x).statements ≤ 4 = one.few in
    record { each = each_append IsFine (transaction x).statements (transactions_of k (transaction x).state).statements one.each rest.each; few = omega (arith, size, few, rest.few) }

session_size : (t x : ℕ) → t ≤ 1000 → length (text_of_lines (session_lines (transactions_of t x))) ≤ 400008
unfolding session_lines text_of_lines
session_size t x few =
    let fine = fine_on t x in
    let size = statements_size (transactions_of t x).statements fine.each in
    omega (arith, size, fine.few, few)

sessions_size : (k t x : ℕ) → t ≤ 1000 → length (text_of_lines (sessions_lines k t x)) ≤ 400008 * k
unfolding sessions_lines text_of_lines
sessions_size zero t x few = omega arith
sessions_size (suc k) t x few =
    let all = parts_size (session_lines (transactions_of t x)) (sessions_lines k t (transactions_of t x).state) 400008 (400008 * k) (session_size t x few) (sessions_size k t (transactions_of t x).state few) in
    omega (arith, all)

whole_size : (number k t : ℕ) → k ≤ 64 → t ≤ 1000 → length (generated number k t) ≤ 67108864
unfolding generated generated_lines text_of_lines
whole_size number k t few less =
    let all = parts_size (sessions_lines k t number) (codes "END" ∷ []) (400008 * k) 4 (sessions_size k t number less) (omega arith) in
    omega (arith, all, few)

abbrev IsClean : List ℕ → Type 0
IsClean line = list_all is_allowed line ≡ true

statements_clean : (statements : List Stmt) → Each IsFine statements → Each IsClean (map canonical statements)
unfolding Each
statements_clean [] fine = tt
statements_clean (s ∷ statements) fine = (canonical_clean s fine.0.tokens, statements_clean statements fine.1)

sessions_clean : (k t x : ℕ) → Each IsClean (sessions_lines k t x)
unfolding sessions_lines session_lines Each
sessions_clean zero t x = tt
sessions_clean (suc k) t x =
    each_append IsClean (session_lines (transactions_of t x)) (sessions_lines k t (transactions_of t x).state)
    (refl, statements_clean (transactions_of t x).statements (fine_on t x).each) (sessions_clean k t (transactions_of t x).state)

lines_clean : (number k t : ℕ) → Each IsClean (generated_lines number k t)
unfolding generated_lines Each
lines_clean number k t = (refl, (refl, each_append IsClean (sessions_lines k t number) (codes "END" ∷ []) (sessions_clean k t number) (refl, tt)))

pub generated_spells : (number k t : ℕ) → k ≤ 64 → t ≤ 1000 → SpellsSessions (generated number k t) k t
unfolding generated
generated_spells number k t few less =
    let all = all_on number k t few in
    let cut : lines_of (generated number k t) ≡ generated_lines number k t = lines_again (generated_lines number k t) (lines_clean number k t) in
    let spelled = not_long (generated number k t) (Ok all.workload) (whole_size number k t few less) (subst (λ (ls : List (List ℕ)). Leads 1 start ls (Ok all.workload)) (sym cut) all.leads) in
    record {
      workload = all.workload;
      spelled = spelled;
      valid = read_is_valid (generated number k t) all.workload spelled;
      table = all.holds.table;
      as_many_sessions = all.holds.many;
      as_many_transactions = all.holds.each;
    }
