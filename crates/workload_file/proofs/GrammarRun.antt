-- A run of lines that leads to a workload says that workload.
use Rattle.std.proofs.Common.{◌≡◌, ℕ, suc, Bool, true, false, List, [], ◌∷◌, ◌++◌, length, map, Option, Some, None, Result, Ok, Err, if◌then◌else◌, refl, ap, sym, ◌∙◌, subst}
use Rattle.sql_text.specs.declared.Name.{Name}
use Rattle.sql_text.specs.declared.frames.Frame.{Frame}
use Rattle.sql_text.specs.declared.frames.Frame.TheVariants as frame
use Rattle.sql_text.specs.declared.statements.Stmt.{Stmt}
use Rattle.sql_text.specs.declared.statements.Stmt.TheVariants as stmt
use Rattle.mope_base.specs.declared.numbers.ColNo.{ColNo}
use Rattle.mope_base.specs.declared.numbers.TableNo.{TableNo}
use Rattle.workload.specs.declared.script.Act.{Act}
use Rattle.workload.specs.declared.script.Decl.{Decl}
use Rattle.workload.specs.declared.script.Piece.{Piece}
use Rattle.workload.specs.declared.script.Piece.TheVariants as piece
use Rattle.workload.specs.declared.script.Workload.{Workload}
use Rattle.workload_file.specs.FileLines.{IsLine, lines_of, without_return}
use Rattle.workload_file.specs.Naming.{column_of, columns_of, declared, table_of}
use Rattle.workload_file.specs.Resolving.{deleted, inserted, rebuild_of, rebuilt, rebuilt_in, selected}
use Rattle.workload_file.specs.Steps.{after_end, at, at_stage, begun, closed, declaring, framed_in_session, in_session, is_last_session, next_session, opened, session_ended, start, stated, take, take_at, with_act, with_rebuild, with_stage, with_tables}
use Rattle.workload_file.specs.TwinFile.{Follows, SaidLine, Say}
use Rattle.workload_file.specs.WorkloadFile.{GivesUnless, IsWorkloadFile, Leads, ended_at, is_too_long}
use Rattle.workload_file.specs.WorkloadGrammar.{IsSpelledBy, SaysAct, SaysPiece, SpellWorkload, end_of}
use Rattle.workload_file.specs.declared.lines.Line.{Line}
use Rattle.workload_file.specs.declared.lines.Line.TheVariants.{Blank, Framed, Stated, Faulty}
use Rattle.workload_file.specs.declared.reader.Reader.{Reader}
use Rattle.workload_file.specs.declared.reader.Stage.{Stage}
use Rattle.workload_file.specs.declared.reader.Stage.TheVariants.{Opening, Declaring, Session, Ended}
use Rattle.workload_file.specs.declared.stops.FileReason.{FileReason}
use Rattle.workload_file.specs.declared.stops.FileReason.TheVariants as reason
use Rattle.workload_file.proofs.TwinEnds.{fault_taken, goes_on}
use Rattle.workload_file.proofs.GrammarRead.{Declares, RunsOn, RunsWithin, act_alone, act_within, first_session, header_on, no_session, rebuild_alone, session_last, session_on, table_on, transaction_begun, transaction_ended}

-- behind END
record IsDone (tables : List Decl) (sessions : List (List Piece)) (said : List Line) (w : Workload) : Type 0 where
  none : said ≡ []
  tables_are : w.tables ≡ tables
  sessions_are : w.sessions ≡ sessions

-- what the lines behind a stage say
Tail : Stage → List Decl → List (List Piece) → List Line → Workload → Type 0
Tail Opening tables sessions said w = tables ≡ [] → sessions ≡ [] → SpellWorkload said w
Tail Declaring tables sessions said w = sessions ≡ [] → Declares tables said w
Tail (Session pieces None) tables sessions said w = RunsOn tables sessions pieces said w
Tail (Session pieces (Some acts)) tables sessions said w = RunsWithin tables sessions pieces acts said w
Tail Ended tables sessions said w = IsDone tables sessions said w

abbrev TailOf : Reader → List Line → Workload → Type 0
TailOf reader said w = Tail reader.stage reader.tables reader.sessions said w

came_to : (tables : List Decl) (sessions : List (List Piece)) (stage : Stage) (next : Reader) (rest : List Line) (w : Workload) → ◌≡◌ {A = Result Reader FileReason} (Ok (at tables sessions stage)) (Ok next)
    → TailOf next rest w → Tail stage tables sessions rest w
came_to tables sessions stage next rest w e t = (let same : at tables sessions stage ≡ next = cc in subst (λ (r : Reader). TailOf r rest w) (sym same) t)

never : {A : Type 0} (why : FileReason) (next : Reader) → Err why ≡ Ok next → A
never why next e = absurd (let no : ⊥ = cc in no)

stops : {A : Type 0} (why : FileReason) (stage : Stage) → Err why ≡ Ok stage → A
stops why stage e = absurd (let no : ⊥ = cc in no)

opening_step : (tables : List Decl) (sessions : List (List Piece)) (f : Frame) (next : Reader) (rest : List Line) (w : Workload) → opened tables sessions (Framed f) ≡ Ok next → TailOf next rest w
    → Tail Opening tables sessions (Framed f ∷ rest) w
unfolding opened Tail
opening_step tables sessions frame.Header next rest w e t =
    let on = came_to tables sessions Declaring next rest w e t in
    λ none empty. header_on rest w (subst (λ (ts : List Decl). Declares ts rest w) none (on empty))
opening_step tables sessions (frame.Table name columns) next rest w e t = never reason.Syntax next e
opening_step tables sessions frame.Session next rest w e t = never reason.Syntax next e
opening_step tables sessions frame.End next rest w e t = never reason.Syntax next e

table_step : (tables : List Decl) (sessions : List (List Piece)) (name : Name) (columns : List Name) (r : Result (List Decl) FileReason) (next : Reader) (rest : List Line) (w : Workload) → declared tables name columns ≡ r
    → with_tables sessions r ≡ Ok next → TailOf next rest w → Tail Declaring tables sessions (Framed (frame.Table name columns) ∷ rest) w
unfolding with_tables Tail
table_step tables sessions name columns (Ok after) next rest w is e t =
    let on = came_to after sessions Declaring next rest w e t in
    λ empty. table_on tables after name columns rest w is (on empty)
table_step tables sessions name columns (Err why) next rest w is e t = never why next e

declaring_step : (tables : List Decl) (sessions : List (List Piece)) (f : Frame) (next : Reader) (rest : List Line) (w : Workload) → declaring tables sessions (Framed f) ≡ Ok next → TailOf next rest w
    → Tail Declaring tables sessions (Framed f ∷ rest) w
unfolding declaring Tail
declaring_step tables sessions frame.Header next rest w e t = never reason.Syntax next e
declaring_step tables sessions (frame.Table name columns) next rest w e t = table_step tables sessions name columns (declared tables name columns) next rest w refl e t
declaring_step tables sessions frame.Session next rest w e t =
    let on = came_to tables sessions (Session [] None) next rest w e t in
    λ empty. first_session tables rest w (subst (λ (ss : List (List Piece)). RunsOn tables ss [] rest w) empty on)
declaring_step tables sessions frame.End next rest w e t =
    let done = came_to tables sessions Ended next rest w e t in
    λ empty. subst (λ (ls : List Line). Declares tables (Framed frame.End ∷ ls) w) (sym done.none) (no_session tables w done.tables_are (done.sessions_are ∙ empty))

session_step : (last : Bool) (tables : List Decl) (sessions : List (List Piece)) (pieces : List Piece) (unfinished : Option (List Act)) (next : Reader) (rest : List Line) (w : Workload)
    → (if last then Err reason.TooMany else at_stage tables (Session [] None) (session_ended sessions pieces unfinished)) ≡ Ok next → TailOf next rest w
    → Tail (Session pieces unfinished) tables sessions (Framed frame.Session ∷ rest) w
unfolding at_stage session_ended Tail
session_step true tables sessions pieces unfinished next rest w e t = never reason.TooMany next e
session_step false tables sessions pieces None next rest w e t = session_on tables sessions pieces rest w (came_to tables (sessions ++ pieces ∷ []) (Session [] None) next rest w e t)
session_step false tables sessions pieces (Some acts) next rest w e t = never reason.Transaction next e

end_step : (tables : List Decl) (sessions : List (List Piece)) (pieces : List Piece) (unfinished : Option (List Act)) (next : Reader) (rest : List Line) (w : Workload)
    → at_stage tables Ended (session_ended sessions pieces unfinished) ≡ Ok next → TailOf next rest w → Tail (Session pieces unfinished) tables sessions (Framed frame.End ∷ rest) w
unfolding at_stage session_ended Tail
end_step tables sessions pieces None next rest w e t =
    let done = came_to tables (sessions ++ pieces ∷ []) Ended next rest w e t in
    subst (λ (ls : List Line). RunsOn tables sessions pieces (Framed frame.End ∷ ls) w) (sym done.none) (session_last tables sessions pieces w done.tables_are done.sessions_are)
end_step tables sessions pieces (Some acts) next rest w e t = never reason.Transaction next e

framed_step : (tables : List Decl) (sessions : List (List Piece)) (pieces : List Piece) (unfinished : Option (List Act)) (f : Frame) (next : Reader) (rest : List Line) (w : Workload)
    → framed_in_session tables sessions pieces unfinished f ≡ Ok next → TailOf next rest w → Tail (Session pieces unfinished) tables sessions (Framed f ∷ rest) w
unfolding framed_in_session next_session
framed_step tables sessions pieces unfinished frame.Header next rest w e t = never reason.Syntax next e
framed_step tables sessions pieces unfinished (frame.Table name columns) next rest w e t = never reason.Syntax next e
framed_step tables sessions pieces unfinished frame.Session next rest w e t = session_step (is_last_session (length sessions)) tables sessions pieces unfinished next rest w e t
framed_step tables sessions pieces unfinished frame.End next rest w e t = end_step tables sessions pieces unfinished next rest w e t

-- statements
stage_tail : (tables : List Decl) (sessions : List (List Piece)) (stage next : Stage) (rest : List Line) (w : Workload) → ◌≡◌ {A = Result Stage FileReason} (Ok stage) (Ok next) → Tail next tables sessions rest w → Tail stage tables sessions rest w
stage_tail tables sessions stage next rest w e t = (let same : stage ≡ next = cc in subst (λ (s : Stage). Tail s tables sessions rest w) (sym same) t)

act_step : (tables : List Decl) (sessions : List (List Piece)) (pieces : List Piece) (unfinished : Option (List Act)) (s : Stmt) (r : Result Act FileReason) (stage : Stage) (rest : List Line) (w : Workload)
    → ((a : Act) → r ≡ Ok a → SaysAct tables s a) → with_act pieces unfinished r ≡ Ok stage → Tail stage tables sessions rest w → Tail (Session pieces unfinished) tables sessions (Stated s ∷ rest) w
unfolding with_act Tail
act_step tables sessions pieces unfinished s (Err why) stage rest w says e t = stops why stage e
act_step tables sessions pieces None s (Ok a) stage rest w says e t =
    act_alone tables sessions pieces s a rest w (says a refl) (stage_tail tables sessions (Session (pieces ++ piece.Txn (a ∷ []) false ∷ []) None) stage rest w e t)
act_step tables sessions pieces (Some acts) s (Ok a) stage rest w says e t =
    act_within tables sessions pieces acts s a rest w (says a refl) (stage_tail tables sessions (Session pieces (Some (acts ++ a ∷ []))) stage rest w e t)

rebuild_kind : (tables : List Decl) (name column : Name) (t : TableNo) (o : Option ColNo) (p : Piece) → rebuilt tables name column ≡ Ok p → rebuild_of t o ≡ Ok p → SaysPiece tables (stmt.Rebuild name column ∷ []) p
unfolding rebuild_of SaysPiece
rebuild_kind tables name column t None p is e = absurd (let no : ⊥ = cc in no)
rebuild_kind tables name column t (Some c) (piece.Rebuild u d) is e = record { table = name; column = column; one = refl; numbered = is }
rebuild_kind tables name column t (Some c) (piece.Txn acts rollback) is e = absurd (let no : ⊥ = cc in no)

rebuilt_kind : (tables : List Decl) (name column : Name) (o : Option TableNo) (p : Piece) → rebuilt tables name column ≡ Ok p → rebuilt_in tables o column ≡ Ok p → SaysPiece tables (stmt.Rebuild name column ∷ []) p
unfolding rebuilt_in
rebuilt_kind tables name column None p is e = absurd (let no : ⊥ = cc in no)
rebuilt_kind tables name column (Some t) p is e = rebuild_kind tables name column t (column_of (columns_of tables t) column) p is e

rebuilt_says : (tables : List Decl) (name column : Name) (p : Piece) → rebuilt tables name column ≡ Ok p → SaysPiece tables (stmt.Rebuild name column ∷ []) p
unfolding rebuilt
rebuilt_says tables name column p e = rebuilt_kind tables name column (table_of tables name) p e e

rebuild_step : (tables : List Decl) (sessions : List (List Piece)) (pieces : List Piece) (unfinished : Option (List Act)) (name column : Name) (r : Result Piece FileReason) (stage : Stage) (rest : List Line) (w : Workload)
    → rebuilt tables name column ≡ r → with_rebuild pieces unfinished r ≡ Ok stage → Tail stage tables sessions rest w → Tail (Session pieces unfinished) tables sessions (Stated (stmt.Rebuild name column) ∷ rest) w
unfolding with_rebuild Tail
rebuild_step tables sessions pieces unfinished name column (Err why) stage rest w is e t = stops why stage e
rebuild_step tables sessions pieces None name column (Ok p) stage rest w is e t =
    rebuild_alone tables sessions pieces name column p rest w is (rebuilt_says tables name column p is) (stage_tail tables sessions (Session (pieces ++ p ∷ []) None) stage rest w e t)
rebuild_step tables sessions pieces (Some acts) name column (Ok p) stage rest w is e t = stops reason.Transaction stage e

closed_step : (rollback : Bool) (tables : List Decl) (sessions : List (List Piece)) (pieces : List Piece) (unfinished : Option (List Act)) (stage : Stage) (rest : List Line) (w : Workload)
    → closed rollback pieces unfinished ≡ Ok stage → Tail stage tables sessions rest w → Tail (Session pieces unfinished) tables sessions (Stated (end_of rollback) ∷ rest) w
unfolding closed Tail
closed_step rollback tables sessions pieces None stage rest w e t = stops reason.Transaction stage e
closed_step rollback tables sessions pieces (Some acts) stage rest w e t =
    transaction_ended tables sessions pieces acts rollback rest w (stage_tail tables sessions (Session (pieces ++ piece.Txn acts rollback ∷ []) None) stage rest w e t)

begun_step : (tables : List Decl) (sessions : List (List Piece)) (pieces : List Piece) (unfinished : Option (List Act)) (stage : Stage) (rest : List Line) (w : Workload)
    → begun pieces unfinished ≡ Ok stage → Tail stage tables sessions rest w → Tail (Session pieces unfinished) tables sessions (Stated stmt.Begin ∷ rest) w
unfolding begun Tail
begun_step tables sessions pieces None stage rest w e t = transaction_begun tables sessions pieces rest w (stage_tail tables sessions (Session pieces (Some [])) stage rest w e t)
begun_step tables sessions pieces (Some acts) stage rest w e t = stops reason.Transaction stage e

statement_step : (tables : List Decl) (sessions : List (List Piece)) (pieces : List Piece) (unfinished : Option (List Act)) (s : Stmt) (stage : Stage) (rest : List Line) (w : Workload)
    → stated tables pieces unfinished s ≡ Ok stage → Tail stage tables sessions rest w → Tail (Session pieces unfinished) tables sessions (Stated s ∷ rest) w
unfolding stated SaysAct end_of
statement_step tables sessions pieces unfinished stmt.Begin stage rest w e t = begun_step tables sessions pieces unfinished stage rest w e t
statement_step tables sessions pieces unfinished stmt.Commit stage rest w e t = closed_step false tables sessions pieces unfinished stage rest w e t
statement_step tables sessions pieces unfinished stmt.Rollback stage rest w e t = closed_step true tables sessions pieces unfinished stage rest w e t
statement_step tables sessions pieces unfinished (stmt.Rebuild name column) stage rest w e t = rebuild_step tables sessions pieces unfinished name column (rebuilt tables name column) stage rest w refl e t
statement_step tables sessions pieces unfinished (stmt.Insert name values) stage rest w e t =
    act_step tables sessions pieces unfinished (stmt.Insert name values) (inserted tables name values) stage rest w (λ a is. is) e t
statement_step tables sessions pieces unfinished (stmt.Delete name conds) stage rest w e t =
    act_step tables sessions pieces unfinished (stmt.Delete name conds) (deleted tables name conds) stage rest w (λ a is. is) e t
statement_step tables sessions pieces unfinished (stmt.Select what name conds order limit) stage rest w e t =
    act_step tables sessions pieces unfinished (stmt.Select what name conds order limit) (selected tables name what conds order limit) stage rest w (λ a is. is) e t

with_stage_step : (tables : List Decl) (sessions : List (List Piece)) (pieces : List Piece) (unfinished : Option (List Act)) (s : Stmt) (r : Result Stage FileReason) (next : Reader) (rest : List Line) (w : Workload)
    → stated tables pieces unfinished s ≡ r → with_stage tables sessions r ≡ Ok next → TailOf next rest w → Tail (Session pieces unfinished) tables sessions (Stated s ∷ rest) w
unfolding with_stage
with_stage_step tables sessions pieces unfinished s (Ok stage) next rest w is e t = statement_step tables sessions pieces unfinished s stage rest w is (came_to tables sessions stage next rest w e t)
with_stage_step tables sessions pieces unfinished s (Err why) next rest w is e t = never why next e

frame_step : (stage : Stage) (tables : List Decl) (sessions : List (List Piece)) (f : Frame) (next : Reader) (rest : List Line) (w : Workload) → take_at stage tables sessions (Framed f) ≡ Ok next → TailOf next rest w
    → Tail stage tables sessions (Framed f ∷ rest) w
unfolding take_at in_session after_end
frame_step Opening tables sessions f next rest w e t = opening_step tables sessions f next rest w e t
frame_step Declaring tables sessions f next rest w e t = declaring_step tables sessions f next rest w e t
frame_step (Session pieces unfinished) tables sessions f next rest w e t = framed_step tables sessions pieces unfinished f next rest w e t
frame_step Ended tables sessions f next rest w e t = never reason.TextAfterEnd next e

stated_step : (stage : Stage) (tables : List Decl) (sessions : List (List Piece)) (s : Stmt) (next : Reader) (rest : List Line) (w : Workload) → take_at stage tables sessions (Stated s) ≡ Ok next → TailOf next rest w
    → Tail stage tables sessions (Stated s ∷ rest) w
unfolding take_at opened declaring in_session after_end
stated_step Opening tables sessions s next rest w e t = never reason.Syntax next e
stated_step Declaring tables sessions s next rest w e t = never reason.Syntax next e
stated_step (Session pieces unfinished) tables sessions s next rest w e t = with_stage_step tables sessions pieces unfinished s (stated tables pieces unfinished s) next rest w refl e t
stated_step Ended tables sessions s next rest w e t = never reason.TextAfterEnd next e

blank_same : (stage : Stage) (tables : List Decl) (sessions : List (List Piece)) (next : Reader) (rest : List Line) (w : Workload) → take_at stage tables sessions Blank ≡ Ok next → TailOf next rest w → Tail stage tables sessions rest w
unfolding take_at opened declaring in_session after_end
blank_same Opening tables sessions next rest w e t = came_to tables sessions Opening next rest w e t
blank_same Declaring tables sessions next rest w e t = came_to tables sessions Declaring next rest w e t
blank_same (Session pieces unfinished) tables sessions next rest w e t = came_to tables sessions (Session pieces unfinished) next rest w e t
blank_same Ended tables sessions next rest w e t = came_to tables sessions Ended next rest w e t

-- what the lines of a run say
abbrev said_of : SaidLine → Line
said_of line = line.said

record Says (n : ℕ) (reader : Reader) (lines : List (List ℕ)) (w : Workload) : Type 0 where
  all : List SaidLine
  says : Say n lines all
  tail : TailOf reader (map said_of all) w

line_says : (n : ℕ) (line : List ℕ) (lines : List (List ℕ)) (reader next : Reader) (said : Line) (w : Workload) → IsLine (without_return line) said → take reader said ≡ Ok next → Says (suc n) next lines w → Says n reader (line ∷ lines) w
unfolding take Say Follows
line_says n line lines reader next Blank w is e later = record {
  all = later.all;
  says = (Blank, is, later.says);
  tail = blank_same reader.stage reader.tables reader.sessions next (map said_of later.all) w e later.tail;
}
line_says n line lines reader next (Framed f) w is e later = record {
  all = record { number = n; said = Framed f } ∷ later.all;
  says = (Framed f, is, (later.all, later.says, refl));
  tail = frame_step reader.stage reader.tables reader.sessions f next (map said_of later.all) w e later.tail;
}
line_says n line lines reader next (Stated s) w is e later = record {
  all = record { number = n; said = Stated s } ∷ later.all;
  says = (Stated s, is, (later.all, later.says, refl));
  tail = stated_step reader.stage reader.tables reader.sessions s next (map said_of later.all) w e later.tail;
}
line_says n line lines reader next (Faulty r) w is e later = absurd (fault_taken reader.stage reader.tables reader.sessions r next e)

ended_tail : (stage : Stage) (n : ℕ) (reader : Reader) (w : Workload) → Ok w ≡ ended_at stage n reader → Tail stage reader.tables reader.sessions [] w
unfolding ended_at Tail
ended_tail Opening n reader w e = absurd (let no : ⊥ = cc in no)
ended_tail Declaring n reader w e = absurd (let no : ⊥ = cc in no)
ended_tail (Session pieces unfinished) n reader w e = absurd (let no : ⊥ = cc in no)
ended_tail Ended n reader w e =
    let same : w ≡ record { tables = reader.tables; sessions = reader.sessions } = cc in
    record { none = refl; tables_are = ap (λ (v : Workload). v.tables) same; sessions_are = ap (λ (v : Workload). v.sessions) same }

run_says : (n : ℕ) (reader : Reader) (lines : List (List ℕ)) (w : Workload) → Leads n reader lines (Ok w) → Says n reader lines w
unfolding Leads Say
run_says n reader [] w leads = record { all = []; says = refl; tail = ended_tail reader.stage n reader w leads }
run_says n reader (line ∷ lines) w leads =
    let on = goes_on (λ after. Leads (suc n) after lines (Ok w)) n leads.0 w leads.2 in
    line_says n line lines reader on.0 leads.1.said w leads.1.is_line (sym leads.1.taken ∙ on.1) (run_says (suc n) on.0 lines w on.2)

pub run_is_spelled : (lines : List (List ℕ)) (w : Workload) → Leads 1 start lines (Ok w) → IsSpelledBy lines w
unfolding start Tail
run_is_spelled lines w leads =
    let says = run_says 1 start lines w leads in
    record { all = says.all; says = says.says; spelled = says.tail refl refl }

spelled_by : (long : Bool) (bytes : List ℕ) (w : Workload) → GivesUnless long bytes (Ok w) → IsSpelledBy (lines_of bytes) w
unfolding GivesUnless
spelled_by true bytes w gives = absurd (let no : ⊥ = cc in no)
spelled_by false bytes w gives = run_is_spelled (lines_of bytes) w gives

pub read_is_spelled : (bytes : List ℕ) (w : Workload) → IsWorkloadFile bytes w → IsSpelledBy (lines_of bytes) w
read_is_spelled bytes w gives = spelled_by (is_too_long bytes) bytes w gives
