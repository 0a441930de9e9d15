-- The tokens that lead to a state, and that each token taken adds itself to them.
use Rattle.std.proofs.Common.{◌≡◌, Bool, true, List, [], ◌∷◌, ◌++◌, Some, map}
use Rattle.sql_text.proofs.Joining.{opened}
use Rattle.sql_text.specs.Grammar.{joined, name_tokens, number_tokens, cond_tokens, where_tokens, order_tokens, what_tokens, statement_tokens, HasSome, IsStatement}
use Rattle.sql_text.specs.Machine.{rows_what, extreme_what}
use Rattle.sql_text.specs.declared.Name.{Name}
use Rattle.sql_text.specs.declared.marks.Mark.{Mark}
use Rattle.sql_text.specs.declared.marks.Mark.TheVariants as mark
use Rattle.sql_text.specs.declared.states.Arranging.{Arranging}
use Rattle.sql_text.specs.declared.states.Arranging.TheVariants as arranging
use Rattle.sql_text.specs.declared.states.Extreme.{Extreme}
use Rattle.sql_text.specs.declared.states.Extreme.TheVariants.{Least, Greatest}
use Rattle.sql_text.specs.declared.states.Filtering.{Filtering}
use Rattle.sql_text.specs.declared.states.Filtering.TheVariants as filtering
use Rattle.sql_text.specs.declared.states.Inserting.{Inserting}
use Rattle.sql_text.specs.declared.states.Inserting.TheVariants as inserting
use Rattle.sql_text.specs.declared.states.Listing.{Listing}
use Rattle.sql_text.specs.declared.states.Operator.{Operator}
use Rattle.sql_text.specs.declared.states.Operator.TheVariants as operator
use Rattle.sql_text.specs.declared.states.Rebuilding.{Rebuilding}
use Rattle.sql_text.specs.declared.states.Rebuilding.TheVariants as rebuilding
use Rattle.sql_text.specs.declared.states.Rows.{Rows}
use Rattle.sql_text.specs.declared.states.Rows.TheVariants as rows
use Rattle.sql_text.specs.declared.states.Selecting.{Selecting}
use Rattle.sql_text.specs.declared.states.Selecting.TheVariants as selecting
use Rattle.sql_text.specs.declared.states.State.{State}
use Rattle.sql_text.specs.declared.states.State.TheVariants as state
use Rattle.sql_text.specs.declared.states.Subject.{Subject}
use Rattle.sql_text.specs.declared.states.Verb.{Verb}
use Rattle.sql_text.specs.declared.states.Verb.TheVariants as verb
use Rattle.sql_text.specs.declared.statements.Cond.{Cond}
use Rattle.sql_text.specs.declared.statements.What.TheVariants as what
use Rattle.sql_text.specs.declared.tokens.Token.{Token}
use Rattle.sql_text.specs.declared.tokens.Token.TheVariants.{Fixed, Named, Number}

abbrev pub verb_tokens : Verb → List Token
verb_tokens verb.Delete = Fixed mark.Delete ∷ []
verb_tokens verb.Count = Fixed mark.Select ∷ what_tokens what.Count
verb_tokens (verb.Extreme which column) = Fixed mark.Select ∷ what_tokens (extreme_what which column)
verb_tokens (verb.Rows rows) = Fixed mark.Select ∷ what_tokens (rows_what rows)

abbrev pub table_tokens : Verb → Name → List Token
table_tokens verb table = verb_tokens verb ++ Fixed mark.From ∷ Named table ∷ []

abbrev pub subject_tokens : Verb → Name → List Cond → List Token
subject_tokens verb table conds = table_tokens verb table ++ where_tokens conds

abbrev pub listing_tokens : Listing → List Token
listing_tokens listing = subject_tokens (verb.Rows listing.rows) listing.table listing.conds

-- up to where another condition begins
abbrev pub cond_front : Subject → List Token
cond_front subject = table_tokens subject.verb subject.table ++ Fixed mark.Where ∷ opened mark.And (map cond_tokens subject.conds)

abbrev pub operator_mark : Operator → Mark
operator_mark operator.Equal = mark.Equal
operator_mark operator.Less = mark.Less
operator_mark operator.LessEqual = mark.LessEqual
operator_mark operator.Greater = mark.Greater
operator_mark operator.GreaterEqual = mark.GreaterEqual

abbrev pub rebuild_tokens : Rebuilding → List Token
rebuild_tokens rebuilding.Table = Fixed mark.Rebuild ∷ []
rebuild_tokens (rebuilding.Open table) = Fixed mark.Rebuild ∷ Named table ∷ []
rebuild_tokens (rebuilding.Column table) = Fixed mark.Rebuild ∷ Named table ∷ Fixed mark.Open ∷ []
rebuild_tokens (rebuilding.Close table column) = Fixed mark.Rebuild ∷ Named table ∷ Fixed mark.Open ∷ Named column ∷ []

abbrev pub insert_tokens : Inserting → List Token
insert_tokens inserting.Into = Fixed mark.Insert ∷ []
insert_tokens inserting.Table = Fixed mark.Insert ∷ Fixed mark.Into ∷ []
insert_tokens (inserting.Values table) = Fixed mark.Insert ∷ Fixed mark.Into ∷ Named table ∷ []
insert_tokens (inserting.Open table) = Fixed mark.Insert ∷ Fixed mark.Into ∷ Named table ∷ Fixed mark.Values ∷ []
insert_tokens (inserting.Number table values) = Fixed mark.Insert ∷ Fixed mark.Into ∷ Named table ∷ Fixed mark.Values ∷ Fixed mark.Open ∷ opened mark.Comma (map number_tokens values)
insert_tokens (inserting.More table values) = Fixed mark.Insert ∷ Fixed mark.Into ∷ Named table ∷ Fixed mark.Values ∷ Fixed mark.Open ∷ joined mark.Comma (map number_tokens values)

abbrev pub extreme_mark : Extreme → Mark
extreme_mark Least = mark.Min
extreme_mark Greatest = mark.Max

abbrev pub select_tokens : Selecting → List Token
select_tokens selecting.What = Fixed mark.Select ∷ []
select_tokens selecting.CountOpen = Fixed mark.Select ∷ Fixed mark.Count ∷ []
select_tokens selecting.CountStar = Fixed mark.Select ∷ Fixed mark.Count ∷ Fixed mark.Open ∷ []
select_tokens selecting.CountClose = Fixed mark.Select ∷ Fixed mark.Count ∷ Fixed mark.Open ∷ Fixed mark.Star ∷ []
select_tokens (selecting.ExtremeOpen which) = Fixed mark.Select ∷ Fixed (extreme_mark which) ∷ []
select_tokens (selecting.ExtremeColumn which) = Fixed mark.Select ∷ Fixed (extreme_mark which) ∷ Fixed mark.Open ∷ []
select_tokens (selecting.ExtremeClose which column) = Fixed mark.Select ∷ Fixed (extreme_mark which) ∷ Fixed mark.Open ∷ Named column ∷ []
select_tokens (selecting.More columns) = Fixed mark.Select ∷ joined mark.Comma (map name_tokens columns)
select_tokens (selecting.Column columns) = Fixed mark.Select ∷ opened mark.Comma (map name_tokens columns)

abbrev pub filter_tokens : Filtering → List Token
filter_tokens (filtering.Where verb table) = table_tokens verb table
filter_tokens (filtering.Column subject) = cond_front subject
filter_tokens (filtering.Test subject column) = cond_front subject ++ Named column ∷ []
filter_tokens (filtering.Number subject column operator) = cond_front subject ++ Named column ∷ Fixed (operator_mark operator) ∷ []
filter_tokens (filtering.Low subject column) = cond_front subject ++ Named column ∷ Fixed mark.Between ∷ []
filter_tokens (filtering.And subject column low) = cond_front subject ++ Named column ∷ Fixed mark.Between ∷ Number low ∷ []
filter_tokens (filtering.High subject column low) = cond_front subject ++ Named column ∷ Fixed mark.Between ∷ Number low ∷ Fixed mark.And ∷ []
filter_tokens (filtering.More subject) = subject_tokens subject.verb subject.table subject.conds

-- the flag says whether a rising order was said by ASC
abbrev pub arrange_tokens : Bool → Arranging → List Token
arrange_tokens asc (arranging.By listing) = listing_tokens listing ++ Fixed mark.Order ∷ []
arrange_tokens asc (arranging.Column listing) = listing_tokens listing ++ Fixed mark.Order ∷ Fixed mark.By ∷ []
arrange_tokens asc (arranging.Direction listing column) = listing_tokens listing ++ Fixed mark.Order ∷ Fixed mark.By ∷ Named column ∷ []
arrange_tokens asc (arranging.Limit listing order) = listing_tokens listing ++ order_tokens true (Some order)
arrange_tokens asc (arranging.Number listing order) = listing_tokens listing ++ (order_tokens asc order ++ Fixed mark.Limit ∷ [])

abbrev pub state_tokens : Bool → State → List Token
state_tokens asc state.Start = []
state_tokens asc (state.Rebuild at) = rebuild_tokens at
state_tokens asc (state.Insert at) = insert_tokens at
state_tokens asc (state.Select at) = select_tokens at
state_tokens asc (state.From verb) = verb_tokens verb
state_tokens asc (state.Table verb) = verb_tokens verb ++ Fixed mark.From ∷ []
state_tokens asc (state.Filter at) = filter_tokens at
state_tokens asc (state.Arrange at) = arrange_tokens asc at
state_tokens asc (state.Done s) = statement_tokens asc s
state_tokens asc (state.Closed s) = statement_tokens asc s ++ Fixed mark.Semicolon ∷ []

-- what else is known of a state: lists that have an element
abbrev pub RowsSound : Rows → Type 0
RowsSound rows.All = Unit {0}
RowsSound (rows.Columns names) = HasSome names

abbrev pub VerbSound : Verb → Type 0
VerbSound verb.Delete = Unit {0}
VerbSound verb.Count = Unit {0}
VerbSound (verb.Extreme which column) = Unit {0}
VerbSound (verb.Rows rows) = RowsSound rows

abbrev pub InsertSound : Inserting → Type 0
InsertSound inserting.Into = Unit {0}
InsertSound inserting.Table = Unit {0}
InsertSound (inserting.Values table) = Unit {0}
InsertSound (inserting.Open table) = Unit {0}
InsertSound (inserting.Number table values) = Unit {0}
InsertSound (inserting.More table values) = HasSome values

abbrev pub SelectSound : Selecting → Type 0
SelectSound selecting.What = Unit {0}
SelectSound selecting.CountOpen = Unit {0}
SelectSound selecting.CountStar = Unit {0}
SelectSound selecting.CountClose = Unit {0}
SelectSound (selecting.ExtremeOpen which) = Unit {0}
SelectSound (selecting.ExtremeColumn which) = Unit {0}
SelectSound (selecting.ExtremeClose which column) = Unit {0}
SelectSound (selecting.More columns) = HasSome columns
SelectSound (selecting.Column columns) = Unit {0}

abbrev pub FilterSound : Filtering → Type 0
FilterSound (filtering.Where verb table) = VerbSound verb
FilterSound (filtering.Column subject) = VerbSound subject.verb
FilterSound (filtering.Test subject column) = VerbSound subject.verb
FilterSound (filtering.Number subject column operator) = VerbSound subject.verb
FilterSound (filtering.Low subject column) = VerbSound subject.verb
FilterSound (filtering.And subject column low) = VerbSound subject.verb
FilterSound (filtering.High subject column low) = VerbSound subject.verb
FilterSound (filtering.More subject) = VerbSound subject.verb × HasSome subject.conds

abbrev pub ArrangeSound : Arranging → Type 0
ArrangeSound (arranging.By listing) = RowsSound listing.rows
ArrangeSound (arranging.Column listing) = RowsSound listing.rows
ArrangeSound (arranging.Direction listing column) = RowsSound listing.rows
ArrangeSound (arranging.Limit listing order) = RowsSound listing.rows
ArrangeSound (arranging.Number listing order) = RowsSound listing.rows

abbrev pub Sound : State → Type 0
Sound state.Start = Unit {0}
Sound (state.Rebuild at) = Unit {0}
Sound (state.Insert at) = InsertSound at
Sound (state.Select at) = SelectSound at
Sound (state.From verb) = VerbSound verb
Sound (state.Table verb) = VerbSound verb
Sound (state.Filter at) = FilterSound at
Sound (state.Arrange at) = ArrangeSound at
Sound (state.Done s) = IsStatement s
Sound (state.Closed s) = IsStatement s

-- a token leads from a state to another, and adds itself to the tokens
pub record Adds (asc : Bool) (st : State) (token : Token) (next : State) : Type 0 where
  pub after : Bool
  pub tokens : state_tokens asc st ++ token ∷ [] ≡ state_tokens after next
  pub sound : Sound next
