-- Tokens that are taken begin a statement; with a token that isn't taken they begin none.
use Rattle.std.proofs.Common.{◌≡◌, ℕ, Bool, true, false, List, [], ◌∷◌, ◌++◌, Option, Some, None, refl, ap, sym, subst, ◌∙◌, append_assoc, codes, lit≤, lit<}
use Rattle.std.proofs.lemmas.List.{append-nil}
use Rattle.sql_text.proofs.AddingMarks.{none_taken, asked_rows, listing_spelled, verb_spelled, verb_sound}
use Rattle.sql_text.proofs.AddingWords.{adds}
use Rattle.sql_text.proofs.Running.{run, run_on, run-append, Ends, ends_cons, spelling_ends}
use Rattle.sql_text.proofs.Taking.{table_tokens, listing_tokens, state_tokens, Sound, FilterSound, ArrangeSound, Adds}
use Rattle.sql_text.specs.Grammar.{Spells, Begins, spelling, statement_tokens, end_tokens, order_tokens, direction_tokens, limit_tokens, where_tokens, IsStatement}
use Rattle.sql_text.specs.Lexing.{IsToken, AreTokens}
use Rattle.sql_text.specs.Machine.{listing_statement, verb_statement, ordered, finished, finished_filter, finished_arrange, step}
use Rattle.sql_text.specs.Words.{IsName, keyword_of, keywords}
use Rattle.sql_text.specs.declared.Name.{Name}
use Rattle.sql_text.specs.declared.marks.Mark.{Mark}
use Rattle.sql_text.specs.declared.marks.Mark.TheVariants as mark
use Rattle.sql_text.specs.declared.states.Arranging.{Arranging}
use Rattle.sql_text.specs.declared.states.Arranging.TheVariants as arranging
use Rattle.sql_text.specs.declared.states.Extreme.{Extreme}
use Rattle.sql_text.specs.declared.states.Filtering.{Filtering}
use Rattle.sql_text.specs.declared.states.Filtering.TheVariants as filtering
use Rattle.sql_text.specs.declared.states.Inserting.{Inserting}
use Rattle.sql_text.specs.declared.states.Inserting.TheVariants as inserting
use Rattle.sql_text.specs.declared.states.Listing.{Listing}
use Rattle.sql_text.specs.declared.states.Operator.{Operator}
use Rattle.sql_text.specs.declared.states.Operator.TheVariants as operator
use Rattle.sql_text.specs.declared.states.Rebuilding.{Rebuilding}
use Rattle.sql_text.specs.declared.states.Rebuilding.TheVariants as rebuilding
use Rattle.sql_text.specs.declared.states.Rows.TheVariants as rows
use Rattle.sql_text.specs.declared.states.Selecting.{Selecting}
use Rattle.sql_text.specs.declared.states.Selecting.TheVariants as selecting
use Rattle.sql_text.specs.declared.states.State.{State}
use Rattle.sql_text.specs.declared.states.State.TheVariants as state
use Rattle.sql_text.specs.declared.states.Subject.{Subject}
use Rattle.sql_text.specs.declared.states.Verb.{Verb}
use Rattle.sql_text.specs.declared.states.Verb.TheVariants as verb
use Rattle.sql_text.specs.declared.statements.Order.{Order}
use Rattle.sql_text.specs.declared.statements.Stmt.{Stmt}
use Rattle.sql_text.specs.declared.statements.Stmt.TheVariants as stmt
use Rattle.sql_text.specs.declared.tokens.Token.{Token}
use Rattle.sql_text.specs.declared.tokens.Token.TheVariants.{Fixed, Named, Number}

-- some tokens lead on to a statement
pub record Finishable (st : State) : Type 0 where
  pub rest : List Token
  pub lexical : AreTokens rest
  pub statement : Stmt
  pub ends : Ends st rest statement

before : (st : State) (token : Token) (next : State) → IsToken token → step st token ≡ Some next → Finishable next → Finishable st
before st token next lexical taken f = record { rest = token ∷ f.rest; lexical = (lexical, f.lexical); statement = f.statement; ends = ends_cons st token next f.rest f.statement taken f.ends }

abbrev any : Name
any = record { bytes = codes "t" }

any_name : IsName (codes "t")
unfolding keyword_of keywords
any_name = record { letter = refl; word = refl; short = lit≤ tt; free = refl }

by_mark : (st : State) (m : Mark) (next : State) → step st (Fixed m) ≡ Some next → Finishable next → Finishable st
by_mark st m next taken f = before st (Fixed m) next tt taken f

by_name : (st next : State) → step st (Named any) ≡ Some next → Finishable next → Finishable st
by_name st next taken f = before st (Named any) next any_name taken f

by_number : (st next : State) → step st (Number 0) ≡ Some next → Finishable next → Finishable st
by_number st next taken f = before st (Number 0) next (lit< tt) taken f

ended : (st : State) (s : Stmt) → finished st ≡ Some s → Finishable st
unfolding run
ended st s e = record { rest = []; lexical = tt; statement = s; ends = record { last = st; ran = refl; ended = e } }

rebuild_close : (table column : Name) → Finishable (state.Rebuild (rebuilding.Close table column))
unfolding step
rebuild_close table column = by_mark _ mark.Close (state.Done (stmt.Rebuild table column)) refl (ended _ _ refl)

rebuild_column : (table : Name) → Finishable (state.Rebuild (rebuilding.Column table))
unfolding step
rebuild_column table = by_name _ (state.Rebuild (rebuilding.Close table any)) refl (rebuild_close table any)

rebuild_open : (table : Name) → Finishable (state.Rebuild (rebuilding.Open table))
unfolding step
rebuild_open table = by_mark _ mark.Open (state.Rebuild (rebuilding.Column table)) refl (rebuild_column table)

finish_rebuild : (at : Rebuilding) → Finishable (state.Rebuild at)
unfolding step
finish_rebuild rebuilding.Table = by_name _ (state.Rebuild (rebuilding.Open any)) refl (rebuild_open any)
finish_rebuild (rebuilding.Open table) = rebuild_open table
finish_rebuild (rebuilding.Column table) = rebuild_column table
finish_rebuild (rebuilding.Close table column) = rebuild_close table column

insert_more : (table : Name) (values : List ℕ) → Finishable (state.Insert (inserting.More table values))
unfolding step
insert_more table values = by_mark _ mark.Close (state.Done (stmt.Insert table values)) refl (ended _ _ refl)

insert_number : (table : Name) (values : List ℕ) → Finishable (state.Insert (inserting.Number table values))
unfolding step
insert_number table values = by_number _ (state.Insert (inserting.More table (values ++ 0 ∷ []))) refl (insert_more table (values ++ 0 ∷ []))

insert_open : (table : Name) → Finishable (state.Insert (inserting.Open table))
unfolding step
insert_open table = by_mark _ mark.Open (state.Insert (inserting.Number table [])) refl (insert_number table [])

insert_values : (table : Name) → Finishable (state.Insert (inserting.Values table))
unfolding step
insert_values table = by_mark _ mark.Values (state.Insert (inserting.Open table)) refl (insert_open table)

insert_table : Finishable (state.Insert inserting.Table)
unfolding step
insert_table = by_name _ (state.Insert (inserting.Values any)) refl (insert_values any)

finish_insert : (at : Inserting) → Finishable (state.Insert at)
unfolding step
finish_insert inserting.Into = by_mark _ mark.Into (state.Insert inserting.Table) refl insert_table
finish_insert inserting.Table = insert_table
finish_insert (inserting.Values table) = insert_values table
finish_insert (inserting.Open table) = insert_open table
finish_insert (inserting.Number table values) = insert_number table values
finish_insert (inserting.More table values) = insert_more table values

finish_table : (verb : Verb) → Finishable (state.Table verb)
unfolding step
finish_table verb = by_name _ (state.Filter (filtering.Where verb any)) refl (ended _ _ refl)

finish_from : (verb : Verb) → Finishable (state.From verb)
unfolding step
finish_from verb = by_mark _ mark.From (state.Table verb) refl (finish_table verb)

count_close : Finishable (state.Select selecting.CountClose)
unfolding step
count_close = by_mark _ mark.Close (state.From verb.Count) refl (finish_from verb.Count)

count_star : Finishable (state.Select selecting.CountStar)
unfolding step
count_star = by_mark _ mark.Star (state.Select selecting.CountClose) refl count_close

extreme_close : (which : Extreme) (column : Name) → Finishable (state.Select (selecting.ExtremeClose which column))
unfolding step
extreme_close which column = by_mark _ mark.Close (state.From (verb.Extreme which column)) refl (finish_from (verb.Extreme which column))

extreme_column : (which : Extreme) → Finishable (state.Select (selecting.ExtremeColumn which))
unfolding step
extreme_column which = by_name _ (state.Select (selecting.ExtremeClose which any)) refl (extreme_close which any)

select_more : (columns : List Name) → Finishable (state.Select (selecting.More columns))
unfolding step
select_more columns = by_mark _ mark.From (state.Table (verb.Rows (rows.Columns columns))) refl (finish_table (verb.Rows (rows.Columns columns)))

finish_select : (at : Selecting) → Finishable (state.Select at)
unfolding step
finish_select selecting.What = by_mark _ mark.Star (state.From (verb.Rows rows.All)) refl (finish_from (verb.Rows rows.All))
finish_select selecting.CountOpen = by_mark _ mark.Open (state.Select selecting.CountStar) refl count_star
finish_select selecting.CountStar = count_star
finish_select selecting.CountClose = count_close
finish_select (selecting.ExtremeOpen which) = by_mark _ mark.Open (state.Select (selecting.ExtremeColumn which)) refl (extreme_column which)
finish_select (selecting.ExtremeColumn which) = extreme_column which
finish_select (selecting.ExtremeClose which column) = extreme_close which column
finish_select (selecting.More columns) = select_more columns
finish_select (selecting.Column columns) = by_name _ (state.Select (selecting.More (columns ++ any ∷ []))) refl (select_more (columns ++ any ∷ []))

filter_more : (subject : Subject) → Finishable (state.Filter (filtering.More subject))
filter_more subject = ended _ _ refl

filter_number : (subject : Subject) (column : Name) (operator : Operator) → Finishable (state.Filter (filtering.Number subject column operator))
unfolding step
filter_number subject column operator = by_number _ _ refl (filter_more _)

filter_high : (subject : Subject) (column : Name) (low : ℕ) → Finishable (state.Filter (filtering.High subject column low))
unfolding step
filter_high subject column low = by_number _ _ refl (filter_more _)

filter_and : (subject : Subject) (column : Name) (low : ℕ) → Finishable (state.Filter (filtering.And subject column low))
unfolding step
filter_and subject column low = by_mark _ mark.And (state.Filter (filtering.High subject column low)) refl (filter_high subject column low)

filter_test : (subject : Subject) (column : Name) → Finishable (state.Filter (filtering.Test subject column))
unfolding step
filter_test subject column = by_mark _ mark.Equal (state.Filter (filtering.Number subject column operator.Equal)) refl (filter_number subject column operator.Equal)

finish_filter : (at : Filtering) → Finishable (state.Filter at)
unfolding step
finish_filter (filtering.Where verb table) = ended _ _ refl
finish_filter (filtering.Column subject) = by_name _ (state.Filter (filtering.Test subject any)) refl (filter_test subject any)
finish_filter (filtering.Test subject column) = filter_test subject column
finish_filter (filtering.Number subject column operator) = filter_number subject column operator
finish_filter (filtering.Low subject column) = by_number _ (state.Filter (filtering.And subject column 0)) refl (filter_and subject column 0)
finish_filter (filtering.And subject column low) = filter_and subject column low
finish_filter (filtering.High subject column low) = filter_high subject column low
finish_filter (filtering.More subject) = filter_more subject

arrange_column : (listing : Listing) → Finishable (state.Arrange (arranging.Column listing))
unfolding step
arrange_column listing = by_name _ (state.Arrange (arranging.Direction listing any)) refl (ended _ _ refl)

finish_arrange : (at : Arranging) → Finishable (state.Arrange at)
unfolding step
finish_arrange (arranging.By listing) = by_mark _ mark.By (state.Arrange (arranging.Column listing)) refl (arrange_column listing)
finish_arrange (arranging.Column listing) = arrange_column listing
finish_arrange (arranging.Direction listing column) = ended _ _ refl
finish_arrange (arranging.Limit listing order) = ended _ _ refl
finish_arrange (arranging.Number listing order) = by_number _ (state.Done (listing_statement listing order (Some 0))) refl (ended _ _ refl)

-- from each state some tokens lead on to a statement
pub finish : (st : State) → Finishable st
unfolding step
finish state.Start = by_mark _ mark.Begin (state.Done stmt.Begin) refl (ended _ _ refl)
finish (state.Rebuild at) = finish_rebuild at
finish (state.Insert at) = finish_insert at
finish (state.Select at) = finish_select at
finish (state.From verb) = finish_from verb
finish (state.Table verb) = finish_table verb
finish (state.Filter at) = finish_filter at
finish (state.Arrange at) = finish_arrange at
finish (state.Done s) = ended _ _ refl
finish (state.Closed s) = ended _ _ refl

-- the tokens lead to the state
pub record Took (st : State) (tokens : List Token) : Type 0 where
  pub asc : Bool
  pub spelled : tokens ≡ state_tokens asc st
  pub sound : Sound st

took_by : (st : State) (tokens : List Token) (token : Token) (rest : List Token) (last : State) (o : Option State) → step st token ≡ o → Took st tokens → run_on o (λ n. run n rest) ≡ Some last → ((next : State) → Took next (tokens ++ token ∷ []) → run next rest ≡ Some last → Took last ((tokens ++ token ∷ []) ++ rest)) → Took last (tokens ++ token ∷ rest)
unfolding run_on
took_by st tokens token rest last None e took ran go = none_taken _ last ran
took_by st tokens token rest last (Some next) e took ran go =
    let added : Adds took.asc st token next = adds took.asc st token next took.sound e in
    let now : Took next (tokens ++ token ∷ []) = record { asc = added.after; spelled = ap (λ r. r ++ token ∷ []) took.spelled ∙ added.tokens; sound = added.sound } in
    subst (λ r. Took last r) (append_assoc tokens (token ∷ []) rest) (go next now ran)

took_run : (st : State) (tokens rest : List Token) (last : State) → Took st tokens → run st rest ≡ Some last → Took last (tokens ++ rest)
unfolding run
took_run st tokens [] last took ran =
    let e : st ≡ last = cc in
    subst (λ r. Took last r) (sym (append-nil tokens)) (subst (λ s. Took s tokens) e took)
took_run st tokens (token ∷ rest) last took ran = took_by st tokens token rest last (step st token) refl took ran (λ next now ran. took_run next (tokens ++ token ∷ []) rest last now ran)

took_all : (tokens : List Token) (last : State) → run state.Start tokens ≡ Some last → Took last tokens
took_all tokens last ran = took_run state.Start [] tokens last (record { asc = false; spelled = refl; sound = tt }) ran

spells_plain : (asc : Bool) (s other : Stmt) (tokens : List Token) → Some other ≡ Some s → tokens ≡ statement_tokens asc other → IsStatement other → Spells s tokens
unfolding spelling end_tokens
spells_plain asc s other tokens e spelled ok =
    let same : other ≡ s = cc in
    subst (λ x. Spells x tokens) same (record { statement = ok; style = record { asc = asc; semicolon = false }; spelled = spelled ∙ sym (append-nil (statement_tokens asc other)) })

spells_closed : (asc : Bool) (s other : Stmt) (tokens : List Token) → Some other ≡ Some s → tokens ≡ statement_tokens asc other ++ Fixed mark.Semicolon ∷ [] → IsStatement other → Spells s tokens
unfolding spelling end_tokens
spells_closed asc s other tokens e spelled ok =
    let same : other ≡ s = cc in
    subst (λ x. Spells x tokens) same (record { statement = ok; style = record { asc = asc; semicolon = true }; spelled = spelled })

none_ended : (P : Type 0) (s : Stmt) → None ≡ Some s → P
none_ended P s e = cc

filter_spells : (asc : Bool) (at : Filtering) (tokens : List Token) (s : Stmt) → tokens ≡ state_tokens asc (state.Filter at) → FilterSound at → finished_filter at ≡ Some s → Spells s tokens
unfolding where_tokens
filter_spells asc (filtering.Where verb table) tokens s spelled sound e = spells_plain asc s (verb_statement verb table []) tokens e (spelled ∙ sym (append-nil (table_tokens verb table)) ∙ sym (verb_spelled asc verb table [])) (verb_sound verb table [] sound)
filter_spells asc (filtering.Column subject) tokens s spelled sound e = none_ended _ s e
filter_spells asc (filtering.Test subject column) tokens s spelled sound e = none_ended _ s e
filter_spells asc (filtering.Number subject column operator) tokens s spelled sound e = none_ended _ s e
filter_spells asc (filtering.Low subject column) tokens s spelled sound e = none_ended _ s e
filter_spells asc (filtering.And subject column low) tokens s spelled sound e = none_ended _ s e
filter_spells asc (filtering.High subject column low) tokens s spelled sound e = none_ended _ s e
filter_spells asc (filtering.More subject) tokens s spelled sound e = spells_plain asc s (verb_statement subject.verb subject.table subject.conds) tokens e (spelled ∙ sym (verb_spelled asc subject.verb subject.table subject.conds)) (verb_sound subject.verb subject.table subject.conds sound.0)

without_limit : (asc : Bool) (listing : Listing) (order : Option Order) → listing_tokens listing ++ order_tokens asc order ≡ statement_tokens asc (listing_statement listing order None)
unfolding limit_tokens
without_limit asc listing order = ap (λ r. listing_tokens listing ++ r) (sym (append-nil (order_tokens asc order))) ∙ sym (listing_spelled asc listing order None)

arrange_spells : (asc : Bool) (at : Arranging) (tokens : List Token) (s : Stmt) → tokens ≡ state_tokens asc (state.Arrange at) → ArrangeSound at → finished_arrange at ≡ Some s → Spells s tokens
unfolding order_tokens direction_tokens
arrange_spells asc (arranging.By listing) tokens s spelled sound e = none_ended _ s e
arrange_spells asc (arranging.Column listing) tokens s spelled sound e = none_ended _ s e
arrange_spells asc (arranging.Direction listing column) tokens s spelled sound e = spells_plain false s (listing_statement listing (Some (ordered column false)) None) tokens e (spelled ∙ without_limit false listing (Some (ordered column false))) (asked_rows listing.rows (Some (ordered column false)) None sound)
arrange_spells asc (arranging.Limit listing order) tokens s spelled sound e = spells_plain true s (listing_statement listing (Some order) None) tokens e (spelled ∙ without_limit true listing (Some order)) (asked_rows listing.rows (Some order) None sound)
arrange_spells asc (arranging.Number listing order) tokens s spelled sound e = none_ended _ s e

took_spells : (asc : Bool) (st : State) (tokens : List Token) (s : Stmt) → tokens ≡ state_tokens asc st → Sound st → finished st ≡ Some s → Spells s tokens
took_spells asc state.Start tokens s spelled sound e = none_ended _ s e
took_spells asc (state.Rebuild at) tokens s spelled sound e = none_ended _ s e
took_spells asc (state.Insert at) tokens s spelled sound e = none_ended _ s e
took_spells asc (state.Select at) tokens s spelled sound e = none_ended _ s e
took_spells asc (state.From verb) tokens s spelled sound e = none_ended _ s e
took_spells asc (state.Table verb) tokens s spelled sound e = none_ended _ s e
took_spells asc (state.Filter at) tokens s spelled sound e = filter_spells asc at tokens s spelled sound e
took_spells asc (state.Arrange at) tokens s spelled sound e = arrange_spells asc at tokens s spelled sound e
took_spells asc (state.Done other) tokens s spelled sound e = spells_plain asc s other tokens e spelled sound
took_spells asc (state.Closed other) tokens s spelled sound e = spells_closed asc s other tokens e spelled sound

-- tokens that lead to a statement spell it
pub run_spells : (tokens : List Token) (last : State) (s : Stmt) → run state.Start tokens ≡ Some last → finished last ≡ Some s → Spells s tokens
run_spells tokens last s ran e =
    let took : Took last tokens = took_all tokens last ran in
    took_spells took.asc last tokens s took.spelled took.sound e

pub run_on_some : (o : Option State) (st : State) (xs : List Token) → o ≡ Some st → run_on o (λ n. run n xs) ≡ run st xs
unfolding run_on
run_on_some o st xs e = ap (λ x. run_on x (λ n. run n xs)) e

-- tokens that are taken begin a statement
pub run_begins : (tokens : List Token) (st : State) → run state.Start tokens ≡ Some st → Begins tokens
run_begins tokens st ran =
    let f : Finishable st = finish st in
    let all : run state.Start (tokens ++ f.rest) ≡ Some f.ends.last = run-append state.Start tokens f.rest ∙ run_on_some _ st f.rest ran ∙ f.ends.ran in
    record { rest = f.rest; lexical = f.lexical; statement = f.statement; spells = run_spells (tokens ++ f.rest) f.ends.last f.statement all f.ends.ended }

-- what spells a statement leads to it
pub spells_ends : (s : Stmt) (tokens : List Token) → Spells s tokens → Ends state.Start tokens s
spells_ends s tokens spells = subst (λ r. Ends state.Start r s) (sym spells.spelled) (spelling_ends spells.style s spells.statement)

pub refused_run : (st : State) (token : Token) (rest : List Token) → step st token ≡ None → run st (token ∷ rest) ≡ None
unfolding run run_on
refused_run st token rest e = ap (λ x. run_on x (λ n. run n rest)) e

-- with a token that isn't taken they begin none
pub refused_begins : (tokens : List Token) (st : State) (token : Token) → run state.Start tokens ≡ Some st → step st token ≡ None → Begins (tokens ++ token ∷ []) → ⊥
refused_begins tokens st token ran refused b =
    let ends : Ends state.Start ((tokens ++ token ∷ []) ++ b.rest) b.statement = spells_ends b.statement ((tokens ++ token ∷ []) ++ b.rest) b.spells in
    let none : run state.Start ((tokens ++ token ∷ []) ++ b.rest) ≡ None = ap (λ r. run state.Start r) (append_assoc tokens (token ∷ []) b.rest) ∙ run-append state.Start tokens (token ∷ b.rest) ∙ run_on_some _ st (token ∷ b.rest) ran ∙ refused_run st token b.rest refused in
    none_taken ⊥ ends.last (sym none ∙ ends.ran)

-- tokens that lead to no statement spell none
pub unfinished : (tokens : List Token) (st : State) (s : Stmt) → run state.Start tokens ≡ Some st → finished st ≡ None → Spells s tokens → ⊥
unfinished tokens st s ran open_ spells =
    let ends : Ends state.Start tokens s = spells_ends s tokens spells in
    let same : st ≡ ends.last = let both : Some st ≡ Some ends.last = sym ran ∙ ends.ran in cc in
    none_ended ⊥ s (sym open_ ∙ ap (λ x. finished x) same ∙ ends.ended)

-- tokens spell one statement at most
pub spells_once : (tokens : List Token) (s t : Stmt) → Spells s tokens → Spells t tokens → s ≡ t
spells_once tokens s t ss ts =
    let a : Ends state.Start tokens s = spells_ends s tokens ss in
    let b : Ends state.Start tokens t = spells_ends t tokens ts in
    let same : a.last ≡ b.last = let both : Some a.last ≡ Some b.last = sym a.ran ∙ b.ran in cc in
    let both : Some s ≡ Some t = sym a.ended ∙ ap (λ x. finished x) same ∙ b.ended in
    cc
