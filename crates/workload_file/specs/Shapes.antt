-- The shape of a line, of a statement, and of a workload: what is left with 0 in place of each constant. A LIMIT's number is none.
use Rattle.std.specs.Prelude.{◌≡◌, ℕ, map}
use Rattle.mope_base.specs.declared.numbers.ColNo.{ColNo}
use Rattle.sql_text.specs.declared.Test.{Test}
use Rattle.sql_text.specs.declared.Test.TheVariants as test
use Rattle.sql_text.specs.declared.statements.Cond.{Cond}
use Rattle.sql_text.specs.declared.statements.Stmt.{Stmt}
use Rattle.sql_text.specs.declared.statements.Stmt.TheVariants as stmt
use Rattle.workload.specs.declared.script.Act.{Act}
use Rattle.workload.specs.declared.script.Act.TheVariants as act
use Rattle.workload.specs.declared.script.Piece.{Piece}
use Rattle.workload.specs.declared.script.Piece.TheVariants as piece
use Rattle.workload.specs.declared.script.Workload.{Workload}
use Rattle.workload_file.specs.declared.lines.Line.{Line}
use Rattle.workload_file.specs.declared.lines.Line.TheVariants.{Blank, Framed, Stated, Faulty}

abbrev pub zero_of : ℕ → ℕ
zero_of constant = 0

unfoldable pub test_shape : Test → Test
test_shape (test.Eq c) = test.Eq 0
test_shape (test.Lt c) = test.Lt 0
test_shape (test.Le c) = test.Le 0
test_shape (test.Gt c) = test.Gt 0
test_shape (test.Ge c) = test.Ge 0
test_shape (test.Between low high) = test.Between 0 0

abbrev pub cond_shape : Cond → Cond
cond_shape cond = record { column = cond.column; test = test_shape cond.test }

unfoldable pub statement_shape : Stmt → Stmt
statement_shape stmt.Begin = stmt.Begin
statement_shape stmt.Commit = stmt.Commit
statement_shape stmt.Rollback = stmt.Rollback
statement_shape (stmt.Rebuild table column) = stmt.Rebuild table column
statement_shape (stmt.Insert table values) = stmt.Insert table (map zero_of values)
statement_shape (stmt.Delete table conds) = stmt.Delete table (map cond_shape conds)
statement_shape (stmt.Select what table conds order limit) = stmt.Select what table (map cond_shape conds) order limit

-- what a line says, but for its constants
unfoldable pub line_shape : Line → Line
line_shape Blank = Blank
line_shape (Framed frame) = Framed frame
line_shape (Stated statement) = Stated (statement_shape statement)
line_shape (Faulty reason) = Faulty reason

abbrev pub condition_shape : ColNo × Test → ColNo × Test
condition_shape condition = (condition.0, test_shape condition.1)

unfoldable pub act_shape : Act → Act
act_shape (act.Insert t values) = act.Insert t (map zero_of values)
act_shape (act.Ask ask) = act.Ask (record { table = ask.table; verb = ask.verb; tests = map condition_shape ask.tests })

unfoldable pub piece_shape : Piece → Piece
piece_shape (piece.Txn statements rollback) = piece.Txn (map act_shape statements) rollback
piece_shape (piece.Rebuild t column) = piece.Rebuild t column

-- a workload, but for its constants
unfoldable pub workload_shape : Workload → Workload
workload_shape w = record { tables = w.tables; sessions = map (map piece_shape) w.sessions }

-- two workloads differ in their constants at most
abbrev pub HaveOneShape : Workload → Workload → Type 0
HaveOneShape v w = workload_shape v ≡ workload_shape w
