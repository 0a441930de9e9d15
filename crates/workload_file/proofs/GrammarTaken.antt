-- Lines that say a valid workload lead to it.
use Rattle.std.proofs.Common.{◌≡◌, ℕ, suc, ◌+◌, ◌<◌, ◌≤◌, Bool, true, false, ◌||◌, nat_le, nat_lt, List, [], ◌∷◌, ◌++◌, length, map, Option, Some, None, Result, Ok, Err, if◌then◌else◌, refl, ap, sym, ◌∙◌, subst, arith, append_assoc, append-nil, length-append, inl, inr}
use Rattle.std.proofs.lemmas.Bool.{lt-leb, le-ltb, ltb-false}
use Rattle.std.proofs.lemmas.List.{map-append}
use Rattle.std.specs.Cmp.Lexicographic.{same_text}
use Rattle.mope_base.specs.Lists.{Each}
use Rattle.sql_text.specs.declared.Name.{Name}
use Rattle.sql_text.specs.declared.frames.Frame.TheVariants as frame
use Rattle.sql_text.specs.declared.statements.Stmt.{Stmt}
use Rattle.sql_text.specs.declared.statements.Stmt.TheVariants as stmt
use Rattle.workload.specs.Validity.{AreDistinct, IsValid, IsValidDecl}
use Rattle.workload.specs.declared.script.Act.{Act}
use Rattle.workload.specs.declared.script.Decl.{Decl}
use Rattle.workload.specs.declared.script.Piece.{Piece}
use Rattle.workload.specs.declared.script.Piece.TheVariants as piece
use Rattle.workload.specs.declared.script.Workload.{Workload}
use Rattle.workload_file.specs.FileLines.{IsLine, lines_of, without_return}
use Rattle.workload_file.specs.Naming.{declared, declared_as, declared_unless, has_too_many, is_same, names_of, stands_in, then_told, told_after, told_apart, with_table}
use Rattle.workload_file.specs.Steps.{after_end, at, at_stage, begun, closed, declaring, framed_in_session, in_session, is_last_session, next_session, opened, session_ended, start, stated, take, take_at, with_act, with_rebuild, with_stage, with_tables}
use Rattle.workload_file.specs.TwinFile.{Follows, SaidLine, Say}
use Rattle.workload_file.specs.WorkloadFile.{Goes, GivesUnless, IsWorkloadFile, Leads, ended_at, is_too_long}
use Rattle.workload_file.specs.WorkloadGrammar.{IsSpelledBy, SpellValidWorkload, SaySessions, SayActs, SaysAct, SaysPiece, SaysScript, SpellWorkload, end_of, table_lines}
use Rattle.workload_file.specs.declared.lines.Line.{Line}
use Rattle.workload_file.specs.declared.lines.Line.TheVariants.{Blank, Framed, Stated, Faulty}
use Rattle.workload_file.specs.declared.reader.Reader.{Reader}
use Rattle.workload_file.specs.declared.reader.Stage.{Stage}
use Rattle.workload_file.specs.declared.reader.Stage.TheVariants.{Opening, Declaring, Session, Ended}
use Rattle.workload_file.specs.declared.stops.FileReason.{FileReason}
use Rattle.workload_file.proofs.FileLemmas.{not_long}
use Rattle.workload_file.proofs.GrammarRead.{end_line}

-- these lines, none of them blank, lead from one reader to another
Run : Reader → List Line → Reader → Type 0
Run r [] final = r ≡ final
Run r (s ∷ said) final = (next : Reader) × (take r s ≡ Ok next) × Run next said final

run_one : (r next : Reader) (s : Line) → take r s ≡ Ok next → Run r (s ∷ []) next
unfolding Run
run_one r next s e = (next, e, refl)

run_append : (a b c : Reader) (xs ys : List Line) → Run a xs b → Run b ys c → Run a (xs ++ ys) c
unfolding Run
run_append a b c [] ys first second = subst (λ (r : Reader). Run r ys c) (sym first) second
run_append a b c (x ∷ xs) ys first second = (first.0, first.1, run_append first.0 b c xs ys first.2 second)

pub take_blank : (stage : Stage) (tables : List Decl) (sessions : List (List Piece)) → take_at stage tables sessions Blank ≡ Ok (at tables sessions stage)
unfolding take_at opened declaring in_session after_end
take_blank Opening tables sessions = refl
take_blank Declaring tables sessions = refl
take_blank (Session pieces unfinished) tables sessions = refl
take_blank Ended tables sessions = refl

leads_line : (n : ℕ) (r next : Reader) (line : List ℕ) (said : Line) (lines : List (List ℕ)) (w : Workload) → IsLine (without_return line) said → take r said ≡ Ok next → Leads (suc n) next lines (Ok w) → Leads n r (line ∷ lines) (Ok w)
unfolding Leads Goes
leads_line n r next line said lines w is e later = (Ok next, record { said = said; is_line = is; taken = sym e }, later)

abbrev said_of : SaidLine → Line
said_of line = line.said

line_leads : (n : ℕ) (line : List ℕ) (lines : List (List ℕ)) (all : List SaidLine) (r final : Reader) (w : Workload) (said : Line) → IsLine (without_return line) said → Follows said n (Say (suc n) lines) all → Run r (map said_of all) final
    → ((m : ℕ) (others : List SaidLine) (x : Reader) → Say m lines others → Run x (map said_of others) final → Leads m x lines (Ok w)) → Leads n r (line ∷ lines) (Ok w)
unfolding Follows Run take
line_leads n line lines all r final w Blank is follows run rest = leads_line n r r line Blank lines w is (take_blank r.stage r.tables r.sessions) (rest (suc n) all r follows run)
line_leads n line lines all r final w (Framed f) is follows run rest =
    let on = subst (λ (ls : List SaidLine). Run r (map said_of ls) final) follows.2 run in
    leads_line n r on.0 line (Framed f) lines w is on.1 (rest (suc n) follows.0 on.0 follows.1 on.2)
line_leads n line lines all r final w (Stated s) is follows run rest =
    let on = subst (λ (ls : List SaidLine). Run r (map said_of ls) final) follows.2 run in
    leads_line n r on.0 line (Stated s) lines w is on.1 (rest (suc n) follows.0 on.0 follows.1 on.2)
line_leads n line lines all r final w (Faulty f) is follows run rest =
    let on = subst (λ (ls : List SaidLine). Run r (map said_of ls) final) follows.2 run in
    leads_line n r on.0 line (Faulty f) lines w is on.1 (rest (suc n) follows.0 on.0 follows.1 on.2)

run_leads : (n : ℕ) (lines : List (List ℕ)) (all : List SaidLine) (r final : Reader) (w : Workload) → ((m : ℕ) → Ok w ≡ ended_at final.stage m final) → Say n lines all → Run r (map said_of all) final → Leads n r lines (Ok w)
unfolding Leads Say Run
run_leads n [] all r final w ends says run =
    let same : r ≡ final = subst (λ (ls : List SaidLine). Run r (map said_of ls) final) says run in
    subst (λ (x : Reader). Ok w ≡ ended_at x.stage n x) (sym same) (ends n)
run_leads n (line ∷ lines) all r final w ends says run =
    line_leads n line lines all r final w says.0 says.1 says.2 run (λ m others x. run_leads m lines others x final w ends)

-- a session has begun
abbrev going : List Decl → List (List Piece) → List Piece → Reader
going tables sessions pieces = at tables sessions (Session pieces None)

abbrev within : List Decl → List (List Piece) → List Piece → List Act → Reader
within tables sessions pieces acts = at tables sessions (Session pieces (Some acts))

act_taken : (tables : List Decl) (sessions : List (List Piece)) (pieces : List Piece) (s : Stmt) (a : Act) → SaysAct tables s a → take (going tables sessions pieces) (Stated s) ≡ Ok (going tables sessions (pieces ++ piece.Txn (a ∷ []) false ∷ []))
unfolding SaysAct take take_at in_session stated with_stage with_act
act_taken tables sessions pieces stmt.Begin a says = absurd says
act_taken tables sessions pieces stmt.Commit a says = absurd says
act_taken tables sessions pieces stmt.Rollback a says = absurd says
act_taken tables sessions pieces (stmt.Rebuild name column) a says = absurd says
act_taken tables sessions pieces (stmt.Insert name values) a says = ap (λ (r : Result Act FileReason). with_stage tables sessions (with_act pieces None r)) says
act_taken tables sessions pieces (stmt.Delete name conds) a says = ap (λ (r : Result Act FileReason). with_stage tables sessions (with_act pieces None r)) says
act_taken tables sessions pieces (stmt.Select what name conds order limit) a says = ap (λ (r : Result Act FileReason). with_stage tables sessions (with_act pieces None r)) says

inner_taken : (tables : List Decl) (sessions : List (List Piece)) (pieces : List Piece) (acts : List Act) (s : Stmt) (a : Act) → SaysAct tables s a
    → take (within tables sessions pieces acts) (Stated s) ≡ Ok (within tables sessions pieces (acts ++ a ∷ []))
unfolding SaysAct take take_at in_session stated with_stage with_act
inner_taken tables sessions pieces acts stmt.Begin a says = absurd says
inner_taken tables sessions pieces acts stmt.Commit a says = absurd says
inner_taken tables sessions pieces acts stmt.Rollback a says = absurd says
inner_taken tables sessions pieces acts (stmt.Rebuild name column) a says = absurd says
inner_taken tables sessions pieces acts (stmt.Insert name values) a says = ap (λ (r : Result Act FileReason). with_stage tables sessions (with_act pieces (Some acts) r)) says
inner_taken tables sessions pieces acts (stmt.Delete name conds) a says = ap (λ (r : Result Act FileReason). with_stage tables sessions (with_act pieces (Some acts) r)) says
inner_taken tables sessions pieces acts (stmt.Select what name conds order limit) a says = ap (λ (r : Result Act FileReason). with_stage tables sessions (with_act pieces (Some acts) r)) says

acts_run : (tables : List Decl) (sessions : List (List Piece)) (pieces : List Piece) (acts : List Act) (inner : List Stmt) (more : List Act) → SayActs tables inner more
    → Run (within tables sessions pieces acts) (map Stated inner) (within tables sessions pieces (acts ++ more))
unfolding SayActs Run
acts_run tables sessions pieces acts [] [] say = ap (λ (every : List Act). within tables sessions pieces every) (sym (append-nil acts))
acts_run tables sessions pieces acts [] (a ∷ more) say = absurd say
acts_run tables sessions pieces acts (s ∷ inner) [] say = absurd say
acts_run tables sessions pieces acts (s ∷ inner) (a ∷ more) say = (
  within tables sessions pieces (acts ++ a ∷ []),
  inner_taken tables sessions pieces acts s a say.0,
  subst (λ (every : List Act). Run (within tables sessions pieces (acts ++ a ∷ [])) (map Stated inner) (within tables sessions pieces every)) (append_assoc acts (a ∷ []) more)
      (acts_run tables sessions pieces (acts ++ a ∷ []) inner more say.1),
)

begin_taken : (tables : List Decl) (sessions : List (List Piece)) (pieces : List Piece) → take (going tables sessions pieces) (Stated stmt.Begin) ≡ Ok (within tables sessions pieces [])
unfolding take take_at in_session stated with_stage begun
begin_taken tables sessions pieces = refl

end_taken : (tables : List Decl) (sessions : List (List Piece)) (pieces : List Piece) (acts : List Act) (rollback : Bool)
    → take (within tables sessions pieces acts) (Stated (end_of rollback)) ≡ Ok (going tables sessions (pieces ++ piece.Txn acts rollback ∷ []))
unfolding take take_at in_session stated with_stage closed end_of
end_taken tables sessions pieces acts true = refl
end_taken tables sessions pieces acts false = refl

piece_run : (tables : List Decl) (sessions : List (List Piece)) (pieces : List Piece) (own : List Stmt) (p : Piece) → SaysPiece tables own p → Run (going tables sessions pieces) (map Stated own) (going tables sessions (pieces ++ p ∷ []))
unfolding SaysPiece Run take take_at in_session stated with_stage with_rebuild
piece_run tables sessions pieces own (piece.Rebuild t c) says =
    subst (λ (ss : List Stmt). Run (going tables sessions pieces) (map Stated ss) (going tables sessions (pieces ++ piece.Rebuild t c ∷ []))) (sym says.one)
    (run_one (going tables sessions pieces) (going tables sessions (pieces ++ piece.Rebuild t c ∷ [])) (Stated (stmt.Rebuild says.table says.column))
    (ap (λ (r : Result Piece FileReason). with_stage tables sessions (with_rebuild pieces None r)) says.numbered))
piece_run tables sessions pieces own (piece.Txn acts rollback) says =
    elim says [
      | inl enclosed ↦
          subst (λ (ss : List Stmt). Run (going tables sessions pieces) (map Stated ss) (going tables sessions (pieces ++ piece.Txn acts rollback ∷ []))) (sym enclosed.enclosed) (
            within tables sessions pieces [],
            begin_taken tables sessions pieces,
            subst (λ (ls : List Line). Run (within tables sessions pieces []) ls (going tables sessions (pieces ++ piece.Txn acts rollback ∷ []))) (sym (map-append Stated enclosed.inner (end_of rollback ∷ [])))
                (run_append (within tables sessions pieces []) (within tables sessions pieces acts) (going tables sessions (pieces ++ piece.Txn acts rollback ∷ [])) (map Stated enclosed.inner) (Stated (end_of rollback) ∷ [])
                (acts_run tables sessions pieces [] enclosed.inner acts enclosed.said)
                (run_one (within tables sessions pieces acts) (going tables sessions (pieces ++ piece.Txn acts rollback ∷ [])) (Stated (end_of rollback)) (end_taken tables sessions pieces acts rollback))),
          )
      | inr alone ↦
          subst (λ (ss : List Stmt). Run (going tables sessions pieces) (map Stated ss) (going tables sessions (pieces ++ piece.Txn acts rollback ∷ []))) (sym alone.one)
          (subst (λ (every : List Act). Run (going tables sessions pieces) (Stated alone.statement ∷ []) (going tables sessions (pieces ++ piece.Txn every rollback ∷ []))) (sym alone.acts_are)
          (subst (λ (b : Bool). Run (going tables sessions pieces) (Stated alone.statement ∷ []) (going tables sessions (pieces ++ piece.Txn (alone.act ∷ []) b ∷ []))) (sym alone.kept)
          (run_one (going tables sessions pieces) (going tables sessions (pieces ++ piece.Txn (alone.act ∷ []) false ∷ [])) (Stated alone.statement) (act_taken tables sessions pieces alone.statement alone.act alone.said))))
    ]

script_run : (tables : List Decl) (sessions : List (List Piece)) (pieces : List Piece) (statements : List Stmt) (own : List Piece) → SaysScript tables statements own
    → Run (going tables sessions pieces) (map Stated statements) (going tables sessions (pieces ++ own))
unfolding SaysScript Run
script_run tables sessions pieces statements [] says =
    subst (λ (ss : List Stmt). Run (going tables sessions pieces) (map Stated ss) (going tables sessions (pieces ++ []))) (sym says) (ap (λ (ps : List Piece). going tables sessions ps) (sym (append-nil pieces)))
script_run tables sessions pieces statements (p ∷ own) says =
    subst (λ (ss : List Stmt). Run (going tables sessions pieces) (map Stated ss) (going tables sessions (pieces ++ p ∷ own))) (sym says.2)
    (subst (λ (ls : List Line). Run (going tables sessions pieces) ls (going tables sessions (pieces ++ p ∷ own))) (sym (map-append Stated says.0 says.1))
    (run_append (going tables sessions pieces) (going tables sessions (pieces ++ p ∷ [])) (going tables sessions (pieces ++ p ∷ own)) (map Stated says.0) (map Stated says.1)
    (piece_run tables sessions pieces says.0 p says.3)
    (subst (λ (ps : List Piece). Run (going tables sessions (pieces ++ p ∷ [])) (map Stated says.1) (going tables sessions ps)) (append_assoc pieces (p ∷ []) own)
    (script_run tables sessions (pieces ++ p ∷ []) says.1 own says.4))))

not_last : (last : Bool) (why : FileReason) (reader : Reader) (r : Result Reader FileReason) → last ≡ false → r ≡ Ok reader → (if last then Err why else r) ≡ Ok reader
not_last true why reader r e is = absurd (let no : ⊥ = cc in no)
not_last false why reader r e is = is

session_taken : (tables : List Decl) (sessions : List (List Piece)) (pieces : List Piece) → length sessions < 63 → take (going tables sessions pieces) (Framed frame.Session) ≡ Ok (going tables (sessions ++ pieces ∷ []) [])
unfolding take take_at in_session framed_in_session next_session at_stage session_ended is_last_session
session_taken tables sessions pieces few = not_last _ _ _ _ (lt-leb 63 (length sessions) few) refl

last_taken : (tables : List Decl) (sessions : List (List Piece)) (pieces : List Piece) → take (going tables sessions pieces) (Framed frame.End) ≡ Ok (at tables (sessions ++ pieces ∷ []) Ended)
unfolding take take_at in_session framed_in_session at_stage session_ended
last_taken tables sessions pieces = refl

session_lines_are : (own : List Line) (rest : List Line) → ((Framed frame.Session ∷ own) ++ rest) ++ end_line ≡ Framed frame.Session ∷ (own ++ (rest ++ end_line))
session_lines_are own rest = ap (λ (ls : List Line). Framed frame.Session ∷ ls) (append_assoc own rest end_line)

sessions_run : (tables : List Decl) (sessions : List (List Piece)) (pieces : List Piece) (lines : List Line) (later : List (List Piece)) → length sessions + length later ≤ 63 → SaySessions tables lines later
    → Run (going tables sessions pieces) (lines ++ end_line) (at tables (sessions ++ pieces ∷ later) Ended)
unfolding SaySessions Run
sessions_run tables sessions pieces lines [] few says =
    subst (λ (ls : List Line). Run (going tables sessions pieces) (ls ++ end_line) (at tables (sessions ++ pieces ∷ []) Ended)) (sym says)
    (run_one (going tables sessions pieces) (at tables (sessions ++ pieces ∷ []) Ended) (Framed frame.End) (last_taken tables sessions pieces))
sessions_run tables sessions pieces lines (script ∷ later) few says =
    let size = length-append sessions (pieces ∷ []) in
    subst (λ (ls : List Line). Run (going tables sessions pieces) (ls ++ end_line) (at tables (sessions ++ pieces ∷ (script ∷ later)) Ended)) (sym says.2)
    (subst (λ (ls : List Line). Run (going tables sessions pieces) ls (at tables (sessions ++ pieces ∷ (script ∷ later)) Ended)) (sym (session_lines_are (map Stated says.0) says.1)) (
      going tables (sessions ++ pieces ∷ []) [],
      session_taken tables sessions pieces (omega (arith, few)),
      run_append (going tables (sessions ++ pieces ∷ []) []) (going tables (sessions ++ pieces ∷ []) script) (at tables (sessions ++ pieces ∷ (script ∷ later)) Ended) (map Stated says.0) (says.1 ++ end_line)
          (script_run tables (sessions ++ pieces ∷ []) [] says.0 script says.3)
          (subst (λ (ss : List (List Piece)). Run (going tables (sessions ++ pieces ∷ []) script) (says.1 ++ end_line) (at tables ss Ended)) (append_assoc sessions (pieces ∷ []) (script ∷ later))
          (sessions_run tables (sessions ++ pieces ∷ []) script says.1 later (omega (arith, few, size)) says.4)),
    ))

first_taken : (tables : List Decl) → take (at tables [] Declaring) (Framed frame.Session) ≡ Ok (going tables [] [])
unfolding take take_at declaring
first_taken tables = refl

none_taken : (tables : List Decl) → take (at tables [] Declaring) (Framed frame.End) ≡ Ok (at tables [] Ended)
unfolding take take_at declaring
none_taken tables = refl

declared_run : (tables : List Decl) (lines : List Line) (all : List (List Piece)) → length all ≤ 64 → SaySessions tables lines all → Run (at tables [] Declaring) (lines ++ end_line) (at tables all Ended)
unfolding SaySessions Run
declared_run tables lines [] few says =
    subst (λ (ls : List Line). Run (at tables [] Declaring) (ls ++ end_line) (at tables [] Ended)) (sym says) (run_one (at tables [] Declaring) (at tables [] Ended) (Framed frame.End) (none_taken tables))
declared_run tables lines (script ∷ later) few says =
    subst (λ (ls : List Line). Run (at tables [] Declaring) (ls ++ end_line) (at tables (script ∷ later) Ended)) (sym says.2)
    (subst (λ (ls : List Line). Run (at tables [] Declaring) ls (at tables (script ∷ later) Ended)) (sym (session_lines_are (map Stated says.0) says.1)) (
      going tables [] [],
      first_taken tables,
      run_append (going tables [] []) (going tables [] script) (at tables (script ∷ later) Ended) (map Stated says.0) (says.1 ++ end_line) (script_run tables [] [] says.0 script says.3)
          (sessions_run tables [] script says.1 later (omega (arith, few)) says.4),
    ))

-- names that differ
same_name : (name x : Name) → name.bytes ≡ x.bytes → name ≡ x
same_name name x e = ap (λ (bytes : List ℕ). let n : Name = record { bytes = bytes } in n) e

not_by : (same : Bool) (name x : Name) → is_same name x ≡ same → (x ≡ name → ⊥) → same ≡ false
not_by true name x e apart = absurd (apart (sym (same_name name x (same_text name.bytes x.bytes (sym e)))))
not_by false name x e apart = refl

neither : (a b : Bool) → a ≡ false → b ≡ false → (a || b) ≡ false
neither true b e f = absurd (let no : ⊥ = cc in no)
neither false b e f = f

each_at : {A : Type 0} (P : A → Type 0) (xs : List A) (x : A) (ys : List A) → Each P (xs ++ x ∷ ys) → P x
unfolding Each
each_at P [] x ys each = each.0
each_at P (y ∷ xs) x ys each = each_at P xs x ys each.1

-- a name that comes after some isn't one of them
absent : (before : List Name) (name : Name) (rest : List Name) → AreDistinct (before ++ name ∷ rest) → stands_in name before ≡ false
unfolding AreDistinct
absent [] name rest distinct = refl
absent (x ∷ before) name rest distinct =
    neither (is_same name x) (stands_in name before)
    (not_by (is_same name x) name x refl (λ e. each_at (λ (other : Name). other ≡ x → ⊥) before name rest distinct.0 (sym e)))
    (absent before name rest distinct.1)

told_by : (held : Bool) (later : Option (List Name)) → held ≡ false → then_told held later ≡ later
unfolding then_told
told_by true later e = absurd (let no : ⊥ = cc in no)
told_by false later e = refl

told_all : (before names : List Name) → AreDistinct (before ++ names) → told_after before names ≡ Some (before ++ names)
unfolding told_after
told_all before [] distinct = ap Some (sym (append-nil before))
told_all before (name ∷ names) distinct =
    told_by (stands_in name before) (told_after (before ++ name ∷ []) names) (absent before name names distinct)
    ∙ told_all (before ++ name ∷ []) names (subst AreDistinct (sym (append_assoc before (name ∷ []) names)) distinct)
    ∙ ap Some (append_assoc before (name ∷ []) names)

with_table_taken : (held : Bool) (tables : List Decl) (name : Name) (columns : List Name) → held ≡ false → with_table held tables name columns ≡ Ok (tables ++ record { name = name; columns = columns } ∷ [])
unfolding with_table
with_table_taken true tables name columns e = absurd (let no : ⊥ = cc in no)
with_table_taken false tables name columns e = refl

declared_as_taken : (told : Option (List Name)) (all : List Name) (tables : List Decl) (name : Name) (columns : List Name) → told ≡ Some all → stands_in name (names_of tables) ≡ false
    → declared_as told tables name columns ≡ Ok (tables ++ record { name = name; columns = columns } ∷ [])
unfolding declared_as
declared_as_taken None all tables name columns e new = absurd (let no : ⊥ = cc in no)
declared_as_taken (Some told) all tables name columns e new = with_table_taken (stands_in name (names_of tables)) tables name columns new

declared_unless_taken : (many : Bool) (tables : List Decl) (name : Name) (columns : List Name) → many ≡ false → declared_as (told_apart columns) tables name columns ≡ Ok (tables ++ record { name = name; columns = columns } ∷ [])
    → declared_unless many tables name columns ≡ Ok (tables ++ record { name = name; columns = columns } ∷ [])
unfolding declared_unless
declared_unless_taken true tables name columns e is = absurd (let no : ⊥ = cc in no)
declared_unless_taken false tables name columns e is = is

not_many : (tables columns : ℕ) → tables < 16 → columns ≤ 8 → has_too_many tables columns ≡ false
unfolding has_too_many
not_many tables columns few narrow = neither (nat_le 16 tables) (nat_lt 8 columns) (lt-leb 16 tables few) (le-ltb 8 columns narrow)

declared_taken : (tables : List Decl) (name : Name) (columns : List Name) → length tables < 16 → length columns ≤ 8 → AreDistinct columns → stands_in name (names_of tables) ≡ false
    → declared tables name columns ≡ Ok (tables ++ record { name = name; columns = columns } ∷ [])
unfolding declared told_apart
declared_taken tables name columns few narrow distinct new =
    declared_unless_taken (has_too_many (length tables) (length columns)) tables name columns (not_many (length tables) (length columns) few narrow)
    (declared_as_taken (told_after [] columns) columns tables name columns (told_all [] columns distinct) new)

table_taken : (tables : List Decl) (d : Decl) → length tables < 16 → IsValidDecl d → stands_in d.name (names_of tables) ≡ false
    → take (at tables [] Declaring) (Framed (frame.Table d.name d.columns)) ≡ Ok (at (tables ++ d ∷ []) [] Declaring)
unfolding take take_at declaring with_tables
table_taken tables d few valid new = ap (λ (r : Result (List Decl) FileReason). with_tables [] r) (declared_taken tables d.name d.columns few valid.few_columns valid.distinct new)

names_split : (tables : List Decl) (d : Decl) (new : List Decl) → names_of (tables ++ d ∷ new) ≡ names_of tables ++ d.name ∷ names_of new
names_split tables d new = map-append (λ (e : Decl). e.name) tables (d ∷ new)

tables_run : (tables new : List Decl) → length tables + length new ≤ 16 → Each IsValidDecl new → AreDistinct (names_of (tables ++ new)) → Run (at tables [] Declaring) (table_lines new) (at (tables ++ new) [] Declaring)
unfolding Run Each
tables_run tables [] few each distinct = ap (λ (ts : List Decl). at ts [] Declaring) (sym (append-nil tables))
tables_run tables (d ∷ new) few each distinct =
    let size = length-append tables (d ∷ []) in (
      at (tables ++ d ∷ []) [] Declaring,
      table_taken tables d (omega (arith, few)) each.0 (absent (names_of tables) d.name (names_of new) (subst AreDistinct (names_split tables d new) distinct)),
      subst (λ (ts : List Decl). Run (at (tables ++ d ∷ []) [] Declaring) (table_lines new) (at ts [] Declaring)) (append_assoc tables (d ∷ []) new)
          (tables_run (tables ++ d ∷ []) new (omega (arith, few, size)) each.1 (subst (λ (ts : List Decl). AreDistinct (names_of ts)) (sym (append_assoc tables (d ∷ []) new)) distinct)),
    )

header_taken : take start (Framed frame.Header) ≡ Ok (at [] [] Declaring)
unfolding start take take_at opened
header_taken = refl

workload_run : (lines : List Line) (w : Workload) → SpellWorkload lines w → IsValid w → Run start lines (at w.tables w.sessions Ended)
unfolding Run
workload_run lines w spelled valid =
    subst (λ (ls : List Line). Run start ls (at w.tables w.sessions Ended)) (sym spelled.whole) (
      at [] [] Declaring,
      header_taken,
      run_append (at [] [] Declaring) (at w.tables [] Declaring) (at w.tables w.sessions Ended) (table_lines w.tables) (spelled.sessions ++ end_line)
          (tables_run [] w.tables (omega (arith, valid.few_tables)) valid.tables valid.distinct)
          (declared_run w.tables spelled.sessions w.sessions valid.few_sessions spelled.said),
    )

ends_so : (w : Workload) (m : ℕ) → Ok w ≡ ended_at Ended m (at w.tables w.sessions Ended)
unfolding ended_at
ends_so w m = refl

pub spelled_leads : (lines : List (List ℕ)) (w : Workload) → IsSpelledBy lines w → IsValid w → Leads 1 start lines (Ok w)
spelled_leads lines w spelled valid =
    run_leads 1 lines spelled.all start (at w.tables w.sessions Ended) w (ends_so w) spelled.says (workload_run (map said_of spelled.all) w spelled.spelled valid)

short_of : (long : Bool) (bytes : List ℕ) (w : Workload) → nat_lt 67108864 (length bytes) ≡ long → GivesUnless long bytes (Ok w) → length bytes ≤ 67108864
unfolding GivesUnless
short_of true bytes w e gives = absurd (let no : ⊥ = cc in no)
short_of false bytes w e gives = ltb-false 67108864 (length bytes) e

pub read_short : (bytes : List ℕ) (w : Workload) → IsWorkloadFile bytes w → length bytes ≤ 67108864
unfolding is_too_long
read_short bytes w gives = short_of (nat_lt 67108864 (length bytes)) bytes w refl gives

pub spelled_read : (bytes : List ℕ) (w : Workload) → SpellValidWorkload bytes w → IsWorkloadFile bytes w
spelled_read bytes w says = not_long bytes (Ok w) says.short (spelled_leads (lines_of bytes) w says.spelled says.valid)
