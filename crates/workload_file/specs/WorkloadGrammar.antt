-- What the lines of a workload's file say, in their order, told by the workload that they spell.
use Rattle.std.specs.Prelude.{◌≡◌, ◌↔◌, ◌⊎◌, ◌≤◌, ℕ, Bool, true, false, List, [], ◌∷◌, ◌++◌, length, map, Ok}
use Rattle.workload.specs.Validity.{IsValid}
use Rattle.sql_text.specs.declared.Name.{Name}
use Rattle.sql_text.specs.declared.frames.Frame.TheVariants as frame
use Rattle.sql_text.specs.declared.statements.Stmt.{Stmt}
use Rattle.sql_text.specs.declared.statements.Stmt.TheVariants as stmt
use Rattle.mope_base.specs.declared.numbers.ColNo.{ColNo}
use Rattle.mope_base.specs.declared.numbers.TableNo.{TableNo}
use Rattle.workload.specs.declared.script.Act.{Act}
use Rattle.workload.specs.declared.script.Decl.{Decl}
use Rattle.workload.specs.declared.script.Piece.{Piece}
use Rattle.workload.specs.declared.script.Piece.TheVariants as piece
use Rattle.workload.specs.declared.script.Workload.{Workload}
use Rattle.workload_file.specs.Resolving.{deleted, inserted, rebuilt, selected}
use Rattle.workload_file.specs.TwinFile.{SaidLine, Say}
use Rattle.workload_file.specs.WorkloadFile.{IsWorkloadFile, lines_of}
use Rattle.workload_file.specs.declared.lines.Line.{Line}
use Rattle.workload_file.specs.declared.lines.Line.TheVariants.{Framed, Stated}

-- an INSERT, a DELETE or a SELECT, with its table and columns numbered
unfoldable pub SaysAct : List Decl → Stmt → Act → Type 0
SaysAct tables stmt.Begin a = ⊥
SaysAct tables stmt.Commit a = ⊥
SaysAct tables stmt.Rollback a = ⊥
SaysAct tables (stmt.Rebuild name column) a = ⊥
SaysAct tables (stmt.Insert name values) a = inserted tables name values ≡ Ok a
SaysAct tables (stmt.Delete name conds) a = deleted tables name conds ≡ Ok a
SaysAct tables (stmt.Select what name conds order limit) a = selected tables name what conds order limit ≡ Ok a

-- one after another
unfoldable pub SayActs : List Decl → List Stmt → List Act → Type 0
SayActs tables [] [] = Unit {0}
SayActs tables [] (a ∷ acts) = ⊥
SayActs tables (s ∷ statements) [] = ⊥
SayActs tables (s ∷ statements) (a ∷ acts) = SaysAct tables s a × SayActs tables statements acts

unfoldable pub end_of : Bool → Stmt
end_of true = stmt.Rollback
end_of false = stmt.Commit

-- BEGIN, the statements of a transaction, and COMMIT or ROLLBACK
pub record IsEnclosed (tables : List Decl) (statements : List Stmt) (acts : List Act) (rollback : Bool) : Type 0 where
  pub inner : List Stmt
  pub enclosed : statements ≡ (stmt.Begin ∷ inner) ++ end_of rollback ∷ []
  pub said : SayActs tables inner acts

-- a statement that is a transaction by itself
pub record IsAlone (tables : List Decl) (statements : List Stmt) (acts : List Act) (rollback : Bool) : Type 0 where
  pub statement : Stmt
  pub act : Act
  pub one : statements ≡ statement ∷ []
  pub acts_are : acts ≡ act ∷ []
  pub kept : rollback ≡ false
  pub said : SaysAct tables statement act

pub record IsRebuild (tables : List Decl) (statements : List Stmt) (t : TableNo) (c : ColNo) : Type 0 where
  pub table : Name
  pub column : Name
  pub one : statements ≡ stmt.Rebuild table column ∷ []
  pub numbered : rebuilt tables table column ≡ Ok (piece.Rebuild t c)

-- the statements of one transaction
unfoldable pub SaysPiece : List Decl → List Stmt → Piece → Type 0
SaysPiece tables statements (piece.Txn acts rollback) = IsEnclosed tables statements acts rollback ⊎ IsAlone tables statements acts rollback
SaysPiece tables statements (piece.Rebuild t c) = IsRebuild tables statements t c

-- those of a session's script, one transaction after another
unfoldable pub SaysScript : List Decl → List Stmt → List Piece → Type 0
SaysScript tables statements [] = statements ≡ []
SaysScript tables statements (p ∷ pieces) =
    (own : List Stmt) × (rest : List Stmt) × (statements ≡ own ++ rest) × SaysPiece tables own p × SaysScript tables rest pieces

-- each session is the line SESSION and the statements of its script
unfoldable pub SaySessions : List Decl → List Line → List (List Piece) → Type 0
SaySessions tables lines [] = lines ≡ []
SaySessions tables lines (script ∷ sessions) =
    (statements : List Stmt) × (rest : List Line) × (lines ≡ (Framed frame.Session ∷ map Stated statements) ++ rest) × SaysScript tables statements script × SaySessions tables rest sessions

-- a TABLE line for each table
abbrev pub table_lines : List Decl → List Line
table_lines tables = map (λ (d : Decl). Framed (frame.Table d.name d.columns)) tables

-- the header, the tables, the sessions, and END
pub record SpellWorkload (lines : List Line) (w : Workload) : Type 0 where
  pub sessions : List Line
  pub whole : lines ≡ Framed frame.Header ∷ (table_lines w.tables ++ (sessions ++ Framed frame.End ∷ []))
  pub said : SaySessions w.tables sessions w.sessions

-- the lines that aren't blank say this
pub record IsSpelledBy (lines : List (List ℕ)) (w : Workload) : Type 0 where
  pub all : List SaidLine
  pub says : Say 1 lines all
  pub spelled : SpellWorkload (map (λ (line : SaidLine). line.said) all) w

-- the bytes aren't too many, their lines that aren't blank say the workload, and it is valid
pub record SpellValidWorkload (bytes : List ℕ) (w : Workload) : Type 0 where
  pub short : length bytes ≤ 67108864
  pub spelled : IsSpelledBy (lines_of bytes) w
  pub valid : IsValid w

-- a workload is read exactly where the lines say it and it is valid
abbrev pub WorkloadsAreReadAsSpelled : Type 0
WorkloadsAreReadAsSpelled = (bytes : List ℕ) (w : Workload) → IsWorkloadFile bytes w ↔ SpellValidWorkload bytes w
