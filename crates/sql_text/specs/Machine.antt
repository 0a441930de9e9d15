-- Reading a statement token by token: what a token makes of what the tokens before it said, or that it can't follow them.
use Rattle.std.specs.Prelude.{ℕ, Bool, true, false, List, [], ◌∷◌, ◌++◌, Option, Some, None, Result, Ok, Err, if◌then◌else◌}
use Rattle.sql_text.specs.Lexing.{Placed}
use Rattle.sql_text.specs.declared.Name.{Name}
use Rattle.sql_text.specs.declared.Test.{Test}
use Rattle.sql_text.specs.declared.Test.TheVariants as test
use Rattle.sql_text.specs.declared.marks.Mark.{Mark}
use Rattle.sql_text.specs.declared.marks.Mark.TheVariants as mark
use Rattle.sql_text.specs.declared.states.Arranging.{Arranging}
use Rattle.sql_text.specs.declared.states.Arranging.TheVariants as arranging
use Rattle.sql_text.specs.declared.states.Extreme.{Extreme}
use Rattle.sql_text.specs.declared.states.Extreme.TheVariants.{Least, Greatest}
use Rattle.sql_text.specs.declared.states.Filtering.{Filtering}
use Rattle.sql_text.specs.declared.states.Filtering.TheVariants as filtering
use Rattle.sql_text.specs.declared.states.Inserting.{Inserting}
use Rattle.sql_text.specs.declared.states.Inserting.TheVariants as inserting
use Rattle.sql_text.specs.declared.states.Listing.{Listing}
use Rattle.sql_text.specs.declared.states.Operator.{Operator}
use Rattle.sql_text.specs.declared.states.Operator.TheVariants as operator
use Rattle.sql_text.specs.declared.states.Rebuilding.{Rebuilding}
use Rattle.sql_text.specs.declared.states.Rebuilding.TheVariants as rebuilding
use Rattle.sql_text.specs.declared.states.Rows.{Rows}
use Rattle.sql_text.specs.declared.states.Rows.TheVariants as rows
use Rattle.sql_text.specs.declared.states.Selecting.{Selecting}
use Rattle.sql_text.specs.declared.states.Selecting.TheVariants as selecting
use Rattle.sql_text.specs.declared.states.State.{State}
use Rattle.sql_text.specs.declared.states.State.TheVariants as state
use Rattle.sql_text.specs.declared.states.Subject.{Subject}
use Rattle.sql_text.specs.declared.states.Verb.{Verb}
use Rattle.sql_text.specs.declared.states.Verb.TheVariants as verb
use Rattle.sql_text.specs.declared.statements.Cond.{Cond}
use Rattle.sql_text.specs.declared.statements.Order.{Order}
use Rattle.sql_text.specs.declared.statements.Stmt.{Stmt}
use Rattle.sql_text.specs.declared.statements.Stmt.TheVariants as stmt
use Rattle.sql_text.specs.declared.statements.What.{What}
use Rattle.sql_text.specs.declared.statements.What.TheVariants as what
use Rattle.sql_text.specs.declared.tokens.Token.{Token}
use Rattle.sql_text.specs.declared.tokens.Token.TheVariants.{Fixed, Named, Number}
use Rattle.sql_text.specs.contracts.marks.Mark.{the_type}
use denote.Enum.Bare.{sameb}

abbrev pub is_mark : Mark → Mark → Bool
is_mark a b = sameb the_type a b

abbrev pub rows_what : Rows → What
rows_what rows.All = what.All
rows_what (rows.Columns names) = what.Columns names

abbrev pub extreme_what : Extreme → Name → What
extreme_what Least column = what.Min column
extreme_what Greatest column = what.Max column

abbrev pub listing_statement : Listing → Option Order → Option ℕ → Stmt
listing_statement listing order limit = stmt.Select (rows_what listing.rows) listing.table listing.conds order limit

abbrev pub verb_statement : Verb → Name → List Cond → Stmt
verb_statement verb.Delete table conds = stmt.Delete table conds
verb_statement verb.Count table conds = stmt.Select what.Count table conds None None
verb_statement (verb.Extreme which column) table conds = stmt.Select (extreme_what which column) table conds None None
verb_statement (verb.Rows rows) table conds = stmt.Select (rows_what rows) table conds None None

abbrev pub test_of : Operator → ℕ → Test
test_of operator.Equal n = test.Eq n
test_of operator.Less n = test.Lt n
test_of operator.LessEqual n = test.Le n
test_of operator.Greater n = test.Gt n
test_of operator.GreaterEqual n = test.Ge n

abbrev pub with_cond : Subject → Name → Test → Subject
with_cond subject column test = record { verb = subject.verb; table = subject.table; conds = subject.conds ++ (record { column = column; test = test }) ∷ [] }

abbrev pub listed : Rows → Name → List Cond → Listing
listed rows table conds = record { rows = rows; table = table; conds = conds }

abbrev pub start_mark : Mark → Option State
start_mark m = if is_mark m mark.Begin then Some (state.Done stmt.Begin) else if is_mark m mark.Commit then Some (state.Done stmt.Commit) else if is_mark m mark.Rollback then Some (state.Done stmt.Rollback) else if is_mark m mark.Rebuild then Some (state.Rebuild rebuilding.Table) else if is_mark m mark.Insert then Some (state.Insert inserting.Into) else if is_mark m mark.Delete then Some (state.From verb.Delete) else if is_mark m mark.Select then Some (state.Select selecting.What) else None

abbrev pub rebuild_mark : Rebuilding → Mark → Option State
rebuild_mark rebuilding.Table m = None
rebuild_mark (rebuilding.Open table) m = if is_mark m mark.Open then Some (state.Rebuild (rebuilding.Column table)) else None
rebuild_mark (rebuilding.Column table) m = None
rebuild_mark (rebuilding.Close table column) m = if is_mark m mark.Close then Some (state.Done (stmt.Rebuild table column)) else None

abbrev pub insert_mark : Inserting → Mark → Option State
insert_mark inserting.Into m = if is_mark m mark.Into then Some (state.Insert inserting.Table) else None
insert_mark inserting.Table m = None
insert_mark (inserting.Values table) m = if is_mark m mark.Values then Some (state.Insert (inserting.Open table)) else None
insert_mark (inserting.Open table) m = if is_mark m mark.Open then Some (state.Insert (inserting.Number table [])) else None
insert_mark (inserting.Number table values) m = None
insert_mark (inserting.More table values) m = if is_mark m mark.Comma then Some (state.Insert (inserting.Number table values)) else if is_mark m mark.Close then Some (state.Done (stmt.Insert table values)) else None

abbrev pub what_mark : Mark → Option State
what_mark m = if is_mark m mark.Star then Some (state.From (verb.Rows rows.All)) else if is_mark m mark.Count then Some (state.Select selecting.CountOpen) else if is_mark m mark.Min then Some (state.Select (selecting.ExtremeOpen Least)) else if is_mark m mark.Max then Some (state.Select (selecting.ExtremeOpen Greatest)) else None

abbrev pub select_mark : Selecting → Mark → Option State
select_mark selecting.What m = what_mark m
select_mark selecting.CountOpen m = if is_mark m mark.Open then Some (state.Select selecting.CountStar) else None
select_mark selecting.CountStar m = if is_mark m mark.Star then Some (state.Select selecting.CountClose) else None
select_mark selecting.CountClose m = if is_mark m mark.Close then Some (state.From verb.Count) else None
select_mark (selecting.ExtremeOpen which) m = if is_mark m mark.Open then Some (state.Select (selecting.ExtremeColumn which)) else None
select_mark (selecting.ExtremeColumn which) m = None
select_mark (selecting.ExtremeClose which column) m = if is_mark m mark.Close then Some (state.From (verb.Extreme which column)) else None
select_mark (selecting.More columns) m = if is_mark m mark.Comma then Some (state.Select (selecting.Column columns)) else if is_mark m mark.From then Some (state.Table (verb.Rows (rows.Columns columns))) else None
select_mark (selecting.Column columns) m = None

-- a semicolon
abbrev pub statement_end : Stmt → Mark → Option State
statement_end s m = if is_mark m mark.Semicolon then Some (state.Closed s) else None

-- LIMIT or a semicolon
abbrev pub limit_end : Listing → Option Order → Mark → Option State
limit_end listing order m = if is_mark m mark.Limit then Some (state.Arrange (arranging.Number listing order)) else statement_end (listing_statement listing order None) m

-- ORDER, LIMIT or a semicolon
abbrev pub listing_end : Listing → Mark → Option State
listing_end listing m = if is_mark m mark.Order then Some (state.Arrange (arranging.By listing)) else limit_end listing None m

-- what may follow the conditions
abbrev pub verb_end : Verb → Name → List Cond → Mark → Option State
verb_end verb.Delete table conds m = statement_end (stmt.Delete table conds) m
verb_end verb.Count table conds m = statement_end (stmt.Select what.Count table conds None None) m
verb_end (verb.Extreme which column) table conds m = statement_end (stmt.Select (extreme_what which column) table conds None None) m
verb_end (verb.Rows rows) table conds m = listing_end (listed rows table conds) m

abbrev pub test_mark : Subject → Name → Mark → Option State
test_mark subject column m = if is_mark m mark.Equal then Some (state.Filter (filtering.Number subject column operator.Equal)) else if is_mark m mark.Less then Some (state.Filter (filtering.Number subject column operator.Less)) else if is_mark m mark.LessEqual then Some (state.Filter (filtering.Number subject column operator.LessEqual)) else if is_mark m mark.Greater then Some (state.Filter (filtering.Number subject column operator.Greater)) else if is_mark m mark.GreaterEqual then Some (state.Filter (filtering.Number subject column operator.GreaterEqual)) else if is_mark m mark.Between then Some (state.Filter (filtering.Low subject column)) else None

abbrev pub filter_mark : Filtering → Mark → Option State
filter_mark (filtering.Where verb table) m = if is_mark m mark.Where then Some (state.Filter (filtering.Column (record { verb = verb; table = table; conds = [] }))) else verb_end verb table [] m
filter_mark (filtering.Column subject) m = None
filter_mark (filtering.Test subject column) m = test_mark subject column m
filter_mark (filtering.Number subject column operator) m = None
filter_mark (filtering.Low subject column) m = None
filter_mark (filtering.And subject column low) m = if is_mark m mark.And then Some (state.Filter (filtering.High subject column low)) else None
filter_mark (filtering.High subject column low) m = None
filter_mark (filtering.More subject) m = if is_mark m mark.And then Some (state.Filter (filtering.Column subject)) else verb_end subject.verb subject.table subject.conds m

abbrev pub ordered : Name → Bool → Order
ordered column down = record { column = column; down = down }

abbrev pub arrange_mark : Arranging → Mark → Option State
arrange_mark (arranging.By listing) m = if is_mark m mark.By then Some (state.Arrange (arranging.Column listing)) else None
arrange_mark (arranging.Column listing) m = None
arrange_mark (arranging.Direction listing column) m = if is_mark m mark.Asc then Some (state.Arrange (arranging.Limit listing (ordered column false))) else if is_mark m mark.Desc then Some (state.Arrange (arranging.Limit listing (ordered column true))) else limit_end listing (Some (ordered column false)) m
arrange_mark (arranging.Limit listing order) m = limit_end listing (Some order) m
arrange_mark (arranging.Number listing order) m = None

abbrev pub on_mark : State → Mark → Option State
on_mark state.Start m = start_mark m
on_mark (state.Rebuild at) m = rebuild_mark at m
on_mark (state.Insert at) m = insert_mark at m
on_mark (state.Select at) m = select_mark at m
on_mark (state.From verb) m = if is_mark m mark.From then Some (state.Table verb) else None
on_mark (state.Table verb) m = None
on_mark (state.Filter at) m = filter_mark at m
on_mark (state.Arrange at) m = arrange_mark at m
on_mark (state.Done s) m = statement_end s m
on_mark (state.Closed s) m = None

abbrev pub rebuild_name : Rebuilding → Name → Option State
rebuild_name rebuilding.Table name = Some (state.Rebuild (rebuilding.Open name))
rebuild_name (rebuilding.Open table) name = None
rebuild_name (rebuilding.Column table) name = Some (state.Rebuild (rebuilding.Close table name))
rebuild_name (rebuilding.Close table column) name = None

abbrev pub insert_name : Inserting → Name → Option State
insert_name inserting.Into name = None
insert_name inserting.Table name = Some (state.Insert (inserting.Values name))
insert_name (inserting.Values table) name = None
insert_name (inserting.Open table) name = None
insert_name (inserting.Number table values) name = None
insert_name (inserting.More table values) name = None

abbrev pub select_name : Selecting → Name → Option State
select_name selecting.What name = Some (state.Select (selecting.More (name ∷ [])))
select_name selecting.CountOpen name = None
select_name selecting.CountStar name = None
select_name selecting.CountClose name = None
select_name (selecting.ExtremeOpen which) name = None
select_name (selecting.ExtremeColumn which) name = Some (state.Select (selecting.ExtremeClose which name))
select_name (selecting.ExtremeClose which column) name = None
select_name (selecting.More columns) name = None
select_name (selecting.Column columns) name = Some (state.Select (selecting.More (columns ++ name ∷ [])))

abbrev pub filter_name : Filtering → Name → Option State
filter_name (filtering.Where verb table) name = None
filter_name (filtering.Column subject) name = Some (state.Filter (filtering.Test subject name))
filter_name (filtering.Test subject column) name = None
filter_name (filtering.Number subject column operator) name = None
filter_name (filtering.Low subject column) name = None
filter_name (filtering.And subject column low) name = None
filter_name (filtering.High subject column low) name = None
filter_name (filtering.More subject) name = None

abbrev pub arrange_name : Arranging → Name → Option State
arrange_name (arranging.By listing) name = None
arrange_name (arranging.Column listing) name = Some (state.Arrange (arranging.Direction listing name))
arrange_name (arranging.Direction listing column) name = None
arrange_name (arranging.Limit listing order) name = None
arrange_name (arranging.Number listing order) name = None

abbrev pub on_name : State → Name → Option State
on_name state.Start name = None
on_name (state.Rebuild at) name = rebuild_name at name
on_name (state.Insert at) name = insert_name at name
on_name (state.Select at) name = select_name at name
on_name (state.From verb) name = None
on_name (state.Table verb) name = Some (state.Filter (filtering.Where verb name))
on_name (state.Filter at) name = filter_name at name
on_name (state.Arrange at) name = arrange_name at name
on_name (state.Done s) name = None
on_name (state.Closed s) name = None

abbrev pub insert_number : Inserting → ℕ → Option State
insert_number inserting.Into n = None
insert_number inserting.Table n = None
insert_number (inserting.Values table) n = None
insert_number (inserting.Open table) n = None
insert_number (inserting.Number table values) n = Some (state.Insert (inserting.More table (values ++ n ∷ [])))
insert_number (inserting.More table values) n = None

abbrev pub filter_number : Filtering → ℕ → Option State
filter_number (filtering.Where verb table) n = None
filter_number (filtering.Column subject) n = None
filter_number (filtering.Test subject column) n = None
filter_number (filtering.Number subject column operator) n = Some (state.Filter (filtering.More (with_cond subject column (test_of operator n))))
filter_number (filtering.Low subject column) n = Some (state.Filter (filtering.And subject column n))
filter_number (filtering.And subject column low) n = None
filter_number (filtering.High subject column low) n = Some (state.Filter (filtering.More (with_cond subject column (test.Between low n))))
filter_number (filtering.More subject) n = None

abbrev pub arrange_number : Arranging → ℕ → Option State
arrange_number (arranging.By listing) n = None
arrange_number (arranging.Column listing) n = None
arrange_number (arranging.Direction listing column) n = None
arrange_number (arranging.Limit listing order) n = None
arrange_number (arranging.Number listing order) n = Some (state.Done (listing_statement listing order (Some n)))

abbrev pub on_number : State → ℕ → Option State
on_number state.Start n = None
on_number (state.Rebuild at) n = None
on_number (state.Insert at) n = insert_number at n
on_number (state.Select at) n = None
on_number (state.From verb) n = None
on_number (state.Table verb) n = None
on_number (state.Filter at) n = filter_number at n
on_number (state.Arrange at) n = arrange_number at n
on_number (state.Done s) n = None
on_number (state.Closed s) n = None

-- what a token makes of a state; none where it can't follow
unfoldable pub step : State → Token → Option State
step st (Fixed m) = on_mark st m
step st (Named name) = on_name st name
step st (Number n) = on_number st n

abbrev pub finished_filter : Filtering → Option Stmt
finished_filter (filtering.Where verb table) = Some (verb_statement verb table [])
finished_filter (filtering.Column subject) = None
finished_filter (filtering.Test subject column) = None
finished_filter (filtering.Number subject column operator) = None
finished_filter (filtering.Low subject column) = None
finished_filter (filtering.And subject column low) = None
finished_filter (filtering.High subject column low) = None
finished_filter (filtering.More subject) = Some (verb_statement subject.verb subject.table subject.conds)

abbrev pub finished_arrange : Arranging → Option Stmt
finished_arrange (arranging.By listing) = None
finished_arrange (arranging.Column listing) = None
finished_arrange (arranging.Direction listing column) = Some (listing_statement listing (Some (ordered column false)) None)
finished_arrange (arranging.Limit listing order) = Some (listing_statement listing (Some order) None)
finished_arrange (arranging.Number listing order) = None

-- the statement, where the line may end here
abbrev pub finished : State → Option Stmt
finished state.Start = None
finished (state.Rebuild at) = None
finished (state.Insert at) = None
finished (state.Select at) = None
finished (state.From verb) = None
finished (state.Table verb) = None
finished (state.Filter at) = finished_filter at
finished (state.Arrange at) = finished_arrange at
finished (state.Done s) = Some s
finished (state.Closed s) = Some s

unfoldable pub go_on : ℕ → Option State → (State → Result State ℕ) → Result State ℕ
go_on at None others = Err at
go_on at (Some next) others = others next

-- the state after the tokens, or the place of the first that can't follow those before it
unfoldable pub drive : State → List Placed → Result State ℕ
drive st [] = Ok st
drive st (first ∷ rest) = go_on first.at (step st first.token) (λ next. drive next rest)
