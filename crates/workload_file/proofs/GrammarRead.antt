-- The lines of a workload that is read say the header, its tables, its sessions and END.
use Rattle.std.proofs.Common.{◌≡◌, Bool, true, false, List, [], ◌∷◌, ◌++◌, length, map, Option, Some, None, Ok, refl, ap, sym, ◌∙◌, subst, append_assoc, append-nil, inl, inr}
use Rattle.std.proofs.lemmas.List.{map-append}
use Rattle.sql_text.specs.declared.Name.{Name}
use Rattle.sql_text.specs.declared.frames.Frame.TheVariants as frame
use Rattle.sql_text.specs.declared.statements.Stmt.{Stmt}
use Rattle.sql_text.specs.declared.statements.Stmt.TheVariants as stmt
use Rattle.workload.specs.declared.script.Act.{Act}
use Rattle.workload.specs.declared.script.Decl.{Decl}
use Rattle.workload.specs.declared.script.Piece.{Piece}
use Rattle.workload.specs.declared.script.Piece.TheVariants as piece
use Rattle.workload.specs.declared.script.Workload.{Workload}
use Rattle.workload_file.specs.Naming.{declared, declared_as, declared_unless, has_too_many, names_of, stands_in, told_apart, with_table}
use Rattle.workload_file.specs.Resolving.{rebuilt}
use Rattle.workload_file.specs.WorkloadGrammar.{SaySessions, SayActs, SaysAct, SaysPiece, SaysScript, SpellWorkload, end_of, table_lines}
use Rattle.workload_file.specs.declared.lines.Line.{Line}
use Rattle.workload_file.specs.declared.lines.Line.TheVariants.{Framed, Stated}

abbrev pub end_line : List Line
end_line = Framed frame.End ∷ []

-- what follows in a session between transactions: these statements, and then these sessions
pub record RunsOn (tables : List Decl) (sessions : List (List Piece)) (pieces : List Piece) (said : List Line) (w : Workload) : Type 0 where
  pub statements : List Stmt
  pub own : List Piece
  pub back : List Line
  pub later : List (List Piece)
  pub lines_are : said ≡ map Stated statements ++ (back ++ end_line)
  pub script : SaysScript tables statements own
  pub rest : SaySessions tables back later
  pub tables_are : w.tables ≡ tables
  pub sessions_are : w.sessions ≡ sessions ++ (pieces ++ own) ∷ later

-- what follows inside a transaction
pub record RunsWithin (tables : List Decl) (sessions : List (List Piece)) (pieces : List Piece) (acts : List Act) (said : List Line) (w : Workload) : Type 0 where
  pub inner : List Stmt
  pub more : List Act
  pub rollback : Bool
  pub rest : List Line
  pub lines_are : said ≡ map Stated inner ++ Stated (end_of rollback) ∷ rest
  pub acts_said : SayActs tables inner more
  pub on : RunsOn tables sessions (pieces ++ piece.Txn (acts ++ more) rollback ∷ []) rest w

-- one more transaction
with_piece : (tables : List Decl) (sessions : List (List Piece)) (pieces : List Piece) (p : Piece) (own : List Stmt) (rest : List Line) (said : List Line) (w : Workload) → said ≡ map Stated own ++ rest → SaysPiece tables own p
    → RunsOn tables sessions (pieces ++ p ∷ []) rest w → RunsOn tables sessions pieces said w
unfolding SaysScript
with_piece tables sessions pieces p own rest said w cut says on = record {
  statements = own ++ on.statements;
  own = p ∷ on.own;
  back = on.back;
  later = on.later;
  lines_are =
      cut ∙ ap (λ (ls : List Line). map Stated own ++ ls) on.lines_are ∙ sym (append_assoc (map Stated own) (map Stated on.statements) (on.back ++ end_line))
      ∙ ap (λ (ls : List Line). ls ++ (on.back ++ end_line)) (sym (map-append Stated own on.statements));
  script = (own, on.statements, refl, says, on.script);
  rest = on.rest;
  tables_are = on.tables_are;
  sessions_are = on.sessions_are ∙ ap (λ (ps : List Piece). sessions ++ ps ∷ on.later) (append_assoc pieces (p ∷ []) on.own);
}

pub act_alone : (tables : List Decl) (sessions : List (List Piece)) (pieces : List Piece) (s : Stmt) (a : Act) (rest : List Line) (w : Workload) → SaysAct tables s a
    → RunsOn tables sessions (pieces ++ piece.Txn (a ∷ []) false ∷ []) rest w → RunsOn tables sessions pieces (Stated s ∷ rest) w
unfolding SaysPiece
act_alone tables sessions pieces s a rest w says on =
    with_piece tables sessions pieces (piece.Txn (a ∷ []) false) (s ∷ []) rest (Stated s ∷ rest) w refl
    (inr (record { statement = s; act = a; one = refl; acts_are = refl; kept = refl; said = says })) on

pub rebuild_alone : (tables : List Decl) (sessions : List (List Piece)) (pieces : List Piece) (name column : Name) (p : Piece) (rest : List Line) (w : Workload) → rebuilt tables name column ≡ Ok p
    → SaysPiece tables (stmt.Rebuild name column ∷ []) p
    → RunsOn tables sessions (pieces ++ p ∷ []) rest w → RunsOn tables sessions pieces (Stated (stmt.Rebuild name column) ∷ rest) w
rebuild_alone tables sessions pieces name column p rest w e says on =
    with_piece tables sessions pieces p (stmt.Rebuild name column ∷ []) rest (Stated (stmt.Rebuild name column) ∷ rest) w refl says on

enclosed_lines : (inner : List Stmt) (last : Stmt) (rest : List Line) → map Stated inner ++ Stated last ∷ rest ≡ map Stated (inner ++ last ∷ []) ++ rest
enclosed_lines [] last rest = refl
enclosed_lines (s ∷ inner) last rest = ap (λ (ls : List Line). Stated s ∷ ls) (enclosed_lines inner last rest)

pub transaction_begun : (tables : List Decl) (sessions : List (List Piece)) (pieces : List Piece) (rest : List Line) (w : Workload) → RunsWithin tables sessions pieces [] rest w
    → RunsOn tables sessions pieces (Stated stmt.Begin ∷ rest) w
unfolding SaysPiece
transaction_begun tables sessions pieces rest w within =
    with_piece tables sessions pieces (piece.Txn within.more within.rollback) ((stmt.Begin ∷ within.inner) ++ end_of within.rollback ∷ []) within.rest (Stated stmt.Begin ∷ rest) w
    (ap (λ (ls : List Line). Stated stmt.Begin ∷ ls) (within.lines_are ∙ enclosed_lines within.inner (end_of within.rollback) within.rest))
    (inl (record { inner = within.inner; enclosed = refl; said = within.acts_said })) within.on

pub act_within : (tables : List Decl) (sessions : List (List Piece)) (pieces : List Piece) (acts : List Act) (s : Stmt) (a : Act) (rest : List Line) (w : Workload) → SaysAct tables s a
    → RunsWithin tables sessions pieces (acts ++ a ∷ []) rest w → RunsWithin tables sessions pieces acts (Stated s ∷ rest) w
unfolding SayActs
act_within tables sessions pieces acts s a rest w says within = record {
  inner = s ∷ within.inner;
  more = a ∷ within.more;
  rollback = within.rollback;
  rest = within.rest;
  lines_are = ap (λ (ls : List Line). Stated s ∷ ls) within.lines_are;
  acts_said = (says, within.acts_said);
  on =
      subst (λ (all : List Act). RunsOn tables sessions (pieces ++ piece.Txn all within.rollback ∷ []) within.rest w) (append_assoc acts (a ∷ []) within.more) within.on;
}

pub transaction_ended : (tables : List Decl) (sessions : List (List Piece)) (pieces : List Piece) (acts : List Act) (rollback : Bool) (rest : List Line) (w : Workload)
    → RunsOn tables sessions (pieces ++ piece.Txn acts rollback ∷ []) rest w → RunsWithin tables sessions pieces acts (Stated (end_of rollback) ∷ rest) w
unfolding SayActs
transaction_ended tables sessions pieces acts rollback rest w on = record {
  inner = [];
  more = [];
  rollback = rollback;
  rest = rest;
  lines_are = refl;
  acts_said = tt;
  on = subst (λ (all : List Act). RunsOn tables sessions (pieces ++ piece.Txn all rollback ∷ []) rest w) (sym (append-nil acts)) on;
}

pub session_on : (tables : List Decl) (sessions : List (List Piece)) (pieces : List Piece) (rest : List Line) (w : Workload) → RunsOn tables (sessions ++ pieces ∷ []) [] rest w
    → RunsOn tables sessions pieces (Framed frame.Session ∷ rest) w
unfolding SaysScript SaySessions
session_on tables sessions pieces rest w on = record {
  statements = [];
  own = [];
  back = (Framed frame.Session ∷ map Stated on.statements) ++ on.back;
  later = on.own ∷ on.later;
  lines_are = ap (λ (ls : List Line). Framed frame.Session ∷ ls) (on.lines_are ∙ sym (append_assoc (map Stated on.statements) on.back end_line));
  script = refl;
  rest = (on.statements, on.back, refl, on.script, on.rest);
  tables_are = on.tables_are;
  sessions_are =
      on.sessions_are ∙ append_assoc sessions (pieces ∷ []) (on.own ∷ on.later) ∙ ap (λ (ps : List Piece). sessions ++ ps ∷ (on.own ∷ on.later)) (sym (append-nil pieces));
}

pub session_last : (tables : List Decl) (sessions : List (List Piece)) (pieces : List Piece) (w : Workload) → w.tables ≡ tables → w.sessions ≡ sessions ++ pieces ∷ []
    → RunsOn tables sessions pieces (Framed frame.End ∷ []) w
unfolding SaysScript SaySessions
session_last tables sessions pieces w e f = record {
  statements = [];
  own = [];
  back = [];
  later = [];
  lines_are = refl;
  script = refl;
  rest = refl;
  tables_are = e;
  sessions_are = f ∙ ap (λ (ps : List Piece). sessions ++ ps ∷ []) (sym (append-nil pieces));
}

-- what follows the header and some tables
pub record Declares (tables : List Decl) (said : List Line) (w : Workload) : Type 0 where
  pub new : List Decl
  pub sessions : List Line
  pub lines_are : said ≡ table_lines new ++ (sessions ++ end_line)
  pub tables_are : w.tables ≡ tables ++ new
  pub rest : SaySessions w.tables sessions w.sessions

with_table_adds : (held : Bool) (tables after : List Decl) (name : Name) (columns : List Name) → with_table held tables name columns ≡ Ok after → after ≡ tables ++ record { name = name; columns = columns } ∷ []
unfolding with_table
with_table_adds true tables after name columns e = absurd (let no : ⊥ = cc in no)
with_table_adds false tables after name columns e = (let same : tables ++ record { name = name; columns = columns } ∷ [] ≡ after = cc in sym same)

declared_as_adds : (told : Option (List Name)) (tables after : List Decl) (name : Name) (columns : List Name) → declared_as told tables name columns ≡ Ok after → after ≡ tables ++ record { name = name; columns = columns } ∷ []
unfolding declared_as
declared_as_adds None tables after name columns e = absurd (let no : ⊥ = cc in no)
declared_as_adds (Some told) tables after name columns e = with_table_adds (stands_in name (names_of tables)) tables after name columns e

declared_unless_adds : (many : Bool) (tables after : List Decl) (name : Name) (columns : List Name) → declared_unless many tables name columns ≡ Ok after → after ≡ tables ++ record { name = name; columns = columns } ∷ []
unfolding declared_unless
declared_unless_adds true tables after name columns e = absurd (let no : ⊥ = cc in no)
declared_unless_adds false tables after name columns e = declared_as_adds (told_apart columns) tables after name columns e

pub declared_adds : (tables after : List Decl) (name : Name) (columns : List Name) → declared tables name columns ≡ Ok after → after ≡ tables ++ record { name = name; columns = columns } ∷ []
unfolding declared
declared_adds tables after name columns e = declared_unless_adds (has_too_many (length tables) (length columns)) tables after name columns e

pub table_on : (tables after : List Decl) (name : Name) (columns : List Name) (rest : List Line) (w : Workload) → declared tables name columns ≡ Ok after → Declares after rest w
    → Declares tables (Framed (frame.Table name columns) ∷ rest) w
table_on tables after name columns rest w e on = record {
  new = record { name = name; columns = columns } ∷ on.new;
  sessions = on.sessions;
  lines_are = ap (λ (ls : List Line). Framed (frame.Table name columns) ∷ ls) on.lines_are;
  tables_are =
      on.tables_are ∙ ap (λ (ts : List Decl). ts ++ on.new) (declared_adds tables after name columns e) ∙ append_assoc tables (record { name = name; columns = columns } ∷ []) on.new;
  rest = on.rest;
}

pub first_session : (tables : List Decl) (rest : List Line) (w : Workload) → RunsOn tables [] [] rest w → Declares tables (Framed frame.Session ∷ rest) w
unfolding SaySessions
first_session tables rest w on = record {
  new = [];
  sessions = (Framed frame.Session ∷ map Stated on.statements) ++ on.back;
  lines_are = ap (λ (ls : List Line). Framed frame.Session ∷ ls) (on.lines_are ∙ sym (append_assoc (map Stated on.statements) on.back end_line));
  tables_are = on.tables_are ∙ sym (append-nil tables);
  rest =
      subst (λ (ts : List Decl). SaySessions ts ((Framed frame.Session ∷ map Stated on.statements) ++ on.back) w.sessions) (sym on.tables_are)
      (subst (λ (ss : List (List Piece)). SaySessions tables ((Framed frame.Session ∷ map Stated on.statements) ++ on.back) ss) (sym on.sessions_are)
      (on.statements, on.back, refl, on.script, on.rest));
}

pub no_session : (tables : List Decl) (w : Workload) → w.tables ≡ tables → w.sessions ≡ [] → Declares tables (Framed frame.End ∷ []) w
unfolding SaySessions
no_session tables w e f = record {
  new = [];
  sessions = [];
  lines_are = refl;
  tables_are = e ∙ sym (append-nil tables);
  rest = subst (λ (ss : List (List Piece)). SaySessions w.tables [] ss) (sym f) refl;
}

pub header_on : (rest : List Line) (w : Workload) → Declares [] rest w → SpellWorkload (Framed frame.Header ∷ rest) w
header_on rest w on = record {
  sessions = on.sessions;
  whole = ap (λ (ls : List Line). Framed frame.Header ∷ ls) (on.lines_are ∙ ap (λ (ts : List Decl). table_lines ts ++ (on.sessions ++ end_line)) (sym on.tables_are));
  said = on.rest;
}
