-- What has been read of a file, and what one more line makes of it, or the first reason why it may not stand there.
use Rattle.std.specs.Prelude.{ℕ, Bool, true, false, nat_le, List, [], ◌∷◌, ◌++◌, length, Option, Some, None, Result, Ok, Err, if◌then◌else◌}
use Rattle.sql_text.specs.declared.frames.Frame.{Frame}
use Rattle.sql_text.specs.declared.frames.Frame.TheVariants as frame
use Rattle.sql_text.specs.declared.parsing.Reason.{Reason}
use Rattle.sql_text.specs.declared.parsing.Reason.TheVariants as fault
use Rattle.sql_text.specs.declared.statements.Stmt.{Stmt}
use Rattle.sql_text.specs.declared.statements.Stmt.TheVariants as stmt
use Rattle.workload.specs.declared.script.Act.{Act}
use Rattle.workload.specs.declared.script.Decl.{Decl}
use Rattle.workload.specs.declared.script.Piece.{Piece}
use Rattle.workload.specs.declared.script.Piece.TheVariants as piece
use Rattle.workload_file.specs.Naming.{declared}
use Rattle.workload_file.specs.Resolving.{inserted, deleted, selected, rebuilt}
use Rattle.workload_file.specs.declared.lines.Line.{Line}
use Rattle.workload_file.specs.declared.lines.Line.TheVariants.{Blank, Framed, Stated, Faulty}
use Rattle.workload_file.specs.declared.reader.Reader.{Reader}
use Rattle.workload_file.specs.declared.reader.Stage.{Stage}
use Rattle.workload_file.specs.declared.reader.Stage.TheVariants.{Opening, Declaring, Session, Ended}
use Rattle.workload_file.specs.declared.stops.FileReason.{FileReason}
use Rattle.workload_file.specs.declared.stops.FileReason.TheVariants as reason

-- a reader at a stage
abbrev pub at : List Decl → List (List Piece) → Stage → Reader
at tables sessions stage = record { tables = tables; sessions = sessions; stage = stage }

unfoldable pub start : Reader
start = at [] [] Opening

-- the reason of a fault where no statement may stand: a statement with too many elements is one of syntax there
unfoldable pub outside : Reason → FileReason
outside fault.BadByte = reason.BadByte
outside fault.BadToken = reason.BadToken
outside fault.TooLarge = reason.TooLarge
outside fault.Syntax = reason.Syntax
outside fault.TooMany = reason.Syntax

-- the reason of a fault where one may stand
unfoldable pub inside : Reason → FileReason
inside fault.BadByte = reason.BadByte
inside fault.BadToken = reason.BadToken
inside fault.TooLarge = reason.TooLarge
inside fault.Syntax = reason.Syntax
inside fault.TooMany = reason.TooMany

-- the header comes
unfoldable pub opened : List Decl → List (List Piece) → Line → Result Reader FileReason
opened tables sessions Blank = Ok (at tables sessions Opening)
opened tables sessions (Framed frame.Header) = Ok (at tables sessions Declaring)
opened tables sessions (Framed (frame.Table name columns)) = Err reason.Syntax
opened tables sessions (Framed frame.Session) = Err reason.Syntax
opened tables sessions (Framed frame.End) = Err reason.Syntax
opened tables sessions (Stated s) = Err reason.Syntax
opened tables sessions (Faulty f) = Err (outside f)

unfoldable pub with_tables : List (List Piece) → Result (List Decl) FileReason → Result Reader FileReason
with_tables sessions (Ok tables) = Ok (at tables sessions Declaring)
with_tables sessions (Err why) = Err why

-- a table comes, or the first session, or the end
unfoldable pub declaring : List Decl → List (List Piece) → Line → Result Reader FileReason
declaring tables sessions Blank = Ok (at tables sessions Declaring)
declaring tables sessions (Framed frame.Header) = Err reason.Syntax
declaring tables sessions (Framed (frame.Table name columns)) = with_tables sessions (declared tables name columns)
declaring tables sessions (Framed frame.Session) = Ok (at tables sessions (Session [] None))
declaring tables sessions (Framed frame.End) = Ok (at tables sessions Ended)
declaring tables sessions (Stated s) = Err reason.Syntax
declaring tables sessions (Faulty f) = Err (outside f)

-- BEGIN, with these transactions before it: it may not stand inside a transaction
unfoldable pub begun : List Piece → Option (List Act) → Result Stage FileReason
begun pieces None = Ok (Session pieces (Some []))
begun pieces (Some statements) = Err reason.Transaction

-- COMMIT or ROLLBACK: it may not stand outside a transaction
unfoldable pub closed : Bool → List Piece → Option (List Act) → Result Stage FileReason
closed rollback pieces None = Err reason.Transaction
closed rollback pieces (Some statements) = Ok (Session (pieces ++ piece.Txn statements rollback ∷ []) None)

-- REBUILD: it may not stand inside a transaction
unfoldable pub with_rebuild : List Piece → Option (List Act) → Result Piece FileReason → Result Stage FileReason
with_rebuild pieces unfinished (Err why) = Err why
with_rebuild pieces None (Ok rebuild) = Ok (Session (pieces ++ rebuild ∷ []) None)
with_rebuild pieces (Some statements) (Ok rebuild) = Err reason.Transaction

-- a statement outside a transaction is one by itself
unfoldable pub with_act : List Piece → Option (List Act) → Result Act FileReason → Result Stage FileReason
with_act pieces unfinished (Err why) = Err why
with_act pieces None (Ok statement) = Ok (Session (pieces ++ piece.Txn (statement ∷ []) false ∷ []) None)
with_act pieces (Some statements) (Ok statement) = Ok (Session pieces (Some (statements ++ statement ∷ [])))

-- a statement of a session
unfoldable pub stated : List Decl → List Piece → Option (List Act) → Stmt → Result Stage FileReason
stated tables pieces unfinished stmt.Begin = begun pieces unfinished
stated tables pieces unfinished stmt.Commit = closed false pieces unfinished
stated tables pieces unfinished stmt.Rollback = closed true pieces unfinished
stated tables pieces unfinished (stmt.Rebuild name column) = with_rebuild pieces unfinished (rebuilt tables name column)
stated tables pieces unfinished (stmt.Insert name values) = with_act pieces unfinished (inserted tables name values)
stated tables pieces unfinished (stmt.Delete name conds) = with_act pieces unfinished (deleted tables name conds)
stated tables pieces unfinished (stmt.Select what name conds order limit) = with_act pieces unfinished (selected tables name what conds order limit)

-- a session ends where no transaction is open
unfoldable pub session_ended : List (List Piece) → List Piece → Option (List Act) → Result (List (List Piece)) FileReason
session_ended sessions pieces None = Ok (sessions ++ pieces ∷ [])
session_ended sessions pieces (Some statements) = Err reason.Transaction

-- besides the one that has begun so many sessions are all that a workload may have
unfoldable pub is_last_session : ℕ → Bool
is_last_session sessions = nat_le 63 sessions

unfoldable pub at_stage : List Decl → Stage → Result (List (List Piece)) FileReason → Result Reader FileReason
at_stage tables stage (Ok sessions) = Ok (at tables sessions stage)
at_stage tables stage (Err why) = Err why

-- SESSION, with these sessions before the one that has begun
unfoldable pub next_session : List Decl → List (List Piece) → List Piece → Option (List Act) → Result Reader FileReason
next_session tables sessions pieces unfinished =
    if is_last_session (length sessions) then Err reason.TooMany
    else at_stage tables (Session [] None) (session_ended sessions pieces unfinished)

-- a frame in a session
unfoldable pub framed_in_session : List Decl → List (List Piece) → List Piece → Option (List Act) → Frame → Result Reader FileReason
framed_in_session tables sessions pieces unfinished frame.Header = Err reason.Syntax
framed_in_session tables sessions pieces unfinished (frame.Table name columns) = Err reason.Syntax
framed_in_session tables sessions pieces unfinished frame.Session = next_session tables sessions pieces unfinished
framed_in_session tables sessions pieces unfinished frame.End = at_stage tables Ended (session_ended sessions pieces unfinished)

unfoldable pub with_stage : List Decl → List (List Piece) → Result Stage FileReason → Result Reader FileReason
with_stage tables sessions (Ok stage) = Ok (at tables sessions stage)
with_stage tables sessions (Err why) = Err why

-- a session has begun
unfoldable pub in_session : List Decl → List (List Piece) → List Piece → Option (List Act) → Line → Result Reader FileReason
in_session tables sessions pieces unfinished Blank = Ok (at tables sessions (Session pieces unfinished))
in_session tables sessions pieces unfinished (Framed f) = framed_in_session tables sessions pieces unfinished f
in_session tables sessions pieces unfinished (Stated s) = with_stage tables sessions (stated tables pieces unfinished s)
in_session tables sessions pieces unfinished (Faulty f) = Err (inside f)

-- only blank lines may come
unfoldable pub after_end : List Decl → List (List Piece) → Line → Result Reader FileReason
after_end tables sessions Blank = Ok (at tables sessions Ended)
after_end tables sessions (Framed f) = Err reason.TextAfterEnd
after_end tables sessions (Stated s) = Err reason.TextAfterEnd
after_end tables sessions (Faulty f) = Err reason.TextAfterEnd

unfoldable pub take_at : Stage → List Decl → List (List Piece) → Line → Result Reader FileReason
take_at Opening tables sessions line = opened tables sessions line
take_at Declaring tables sessions line = declaring tables sessions line
take_at (Session pieces unfinished) tables sessions line = in_session tables sessions pieces unfinished line
take_at Ended tables sessions line = after_end tables sessions line

-- what the next line makes of what has been read
unfoldable pub take : Reader → Line → Result Reader FileReason
take reader line = take_at reader.stage reader.tables reader.sessions line

-- END was read
unfoldable pub stage_ended : Stage → Bool
stage_ended Opening = false
stage_ended Declaring = false
stage_ended (Session pieces unfinished) = false
stage_ended Ended = true
