-- The tokens that spell a statement are all taken, and lead to that statement.
use Rattle.std.proofs.Common.{◌≡◌, ℕ, Bool, true, false, List, [], ◌∷◌, ◌++◌, Option, Some, None, map, refl, ap, sym, ◌∙◌, append_assoc}
use Rattle.std.proofs.lemmas.List.{append-nil}
use Rattle.sql_text.specs.Grammar.{Style, joined, joined_after, name_tokens, number_tokens, test_tokens, cond_tokens, where_tokens, direction_tokens, order_tokens, limit_tokens, what_tokens, statement_tokens, end_tokens, spelling, HasSome, IsAsked, IsStatement}
use Rattle.sql_text.specs.Machine.{extreme_what, listing_statement, with_cond, listed, ordered, finished, step}
use Rattle.sql_text.specs.declared.Name.{Name}
use Rattle.sql_text.specs.declared.Test.{Test}
use Rattle.sql_text.specs.declared.Test.TheVariants as test
use Rattle.sql_text.specs.declared.marks.Mark.TheVariants as mark
use Rattle.sql_text.specs.declared.states.Arranging.TheVariants as arranging
use Rattle.sql_text.specs.declared.states.Extreme.{Extreme}
use Rattle.sql_text.specs.declared.states.Extreme.TheVariants.{Least, Greatest}
use Rattle.sql_text.specs.declared.states.Filtering.TheVariants as filtering
use Rattle.sql_text.specs.declared.states.Inserting.TheVariants as inserting
use Rattle.sql_text.specs.declared.states.Listing.{Listing}
use Rattle.sql_text.specs.declared.states.Rows.{Rows}
use Rattle.sql_text.specs.declared.states.Rows.TheVariants as rows
use Rattle.sql_text.specs.declared.states.Selecting.TheVariants as selecting
use Rattle.sql_text.specs.declared.states.State.{State}
use Rattle.sql_text.specs.declared.states.State.TheVariants as state
use Rattle.sql_text.specs.declared.states.Subject.{Subject}
use Rattle.sql_text.specs.declared.states.Verb.{Verb}
use Rattle.sql_text.specs.declared.states.Verb.TheVariants as verb
use Rattle.sql_text.specs.declared.statements.Cond.{Cond}
use Rattle.sql_text.specs.declared.statements.Order.{Order}
use Rattle.sql_text.specs.declared.statements.Stmt.{Stmt}
use Rattle.sql_text.specs.declared.statements.Stmt.TheVariants as stmt
use Rattle.sql_text.specs.declared.statements.What.{What}
use Rattle.sql_text.specs.declared.statements.What.TheVariants as what
use Rattle.sql_text.specs.declared.tokens.Token.{Token}
use Rattle.sql_text.specs.declared.tokens.Token.TheVariants.{Fixed, Named, Number}

unfoldable pub run_on : Option State → (State → Option State) → Option State
run_on None others = None
run_on (Some next) others = others next

-- the state after tokens, all of which are taken
unfoldable pub run : State → List Token → Option State
run st [] = Some st
run st (token ∷ rest) = run_on (step st token) (λ next. run next rest)

run_through : (xs ys : List Token) (o : Option State) → ((n : State) → run n (xs ++ ys) ≡ run_on (run n xs) (λ m. run m ys)) → run_on o (λ n. run n (xs ++ ys)) ≡ run_on (run_on o (λ n. run n xs)) (λ m. run m ys)
unfolding run_on
run_through xs ys None after = refl
run_through xs ys (Some n) after = after n

pub run-append : (st : State) (xs ys : List Token) → run st (xs ++ ys) ≡ run_on (run st xs) (λ n. run n ys)
unfolding run run_on
run-append st [] ys = refl
run-append st (x ∷ xs) ys = run_through xs ys (step st x) (λ n. run-append n xs ys)

-- the tokens are all taken, and lead to the statement
pub record Ends (st : State) (rest : List Token) (s : Stmt) : Type 0 where
  pub last : State
  pub ran : run st rest ≡ Some last
  pub ended : finished last ≡ Some s

pub ends_cons : (st : State) (token : Token) (next : State) (rest : List Token) (s : Stmt) → step st token ≡ Some next → Ends next rest s → Ends st (token ∷ rest) s
unfolding run run_on
ends_cons st token next rest s e ends = record { last = ends.last; ran = ap (λ o. run_on o (λ n. run n rest)) e ∙ ends.ran; ended = ends.ended }

ends_same : (st other : State) (rest tokens : List Token) (s : Stmt) → run st rest ≡ run other tokens → Ends other tokens s → Ends st rest s
ends_same st other rest tokens s e ends = record { last = ends.last; ran = e ∙ ends.ran; ended = ends.ended }

values_run : (table : Name) (before values : List ℕ) (rest : List Token) → run (state.Insert (inserting.More table before)) (joined_after mark.Comma (map number_tokens values) ++ rest) ≡ run (state.Insert (inserting.More table (before ++ values))) rest
unfolding run run_on step joined joined_after where_tokens cond_tokens test_tokens what_tokens direction_tokens order_tokens limit_tokens end_tokens statement_tokens spelling
values_run table before [] rest = ap (λ b. run (state.Insert (inserting.More table b)) rest) (sym (append-nil before))
values_run table before (v ∷ vs) rest = values_run table (before ++ v ∷ []) vs rest ∙ ap (λ b. run (state.Insert (inserting.More table b)) rest) (append_assoc before (v ∷ []) vs)

columns_run : (before columns : List Name) (rest : List Token) → run (state.Select (selecting.More before)) (joined_after mark.Comma (map name_tokens columns) ++ rest) ≡ run (state.Select (selecting.More (before ++ columns))) rest
unfolding run run_on step joined joined_after where_tokens cond_tokens test_tokens what_tokens direction_tokens order_tokens limit_tokens end_tokens statement_tokens spelling
columns_run before [] rest = ap (λ b. run (state.Select (selecting.More b)) rest) (sym (append-nil before))
columns_run before (c ∷ cs) rest = columns_run (before ++ c ∷ []) cs rest ∙ ap (λ b. run (state.Select (selecting.More b)) rest) (append_assoc before (c ∷ []) cs)

cond_run : (subject : Subject) (column : Name) (test : Test) (rest : List Token) → run (state.Filter (filtering.Column subject)) (Named column ∷ (test_tokens test ++ rest)) ≡ run (state.Filter (filtering.More (with_cond subject column test))) rest
unfolding run run_on step joined joined_after where_tokens cond_tokens test_tokens what_tokens direction_tokens order_tokens limit_tokens end_tokens statement_tokens spelling
cond_run subject column (test.Eq n) rest = refl
cond_run subject column (test.Lt n) rest = refl
cond_run subject column (test.Le n) rest = refl
cond_run subject column (test.Gt n) rest = refl
cond_run subject column (test.Ge n) rest = refl
cond_run subject column (test.Between low high) rest = refl

abbrev with_conds : Verb → Name → List Cond → State
with_conds verb table conds = state.Filter (filtering.More (record { verb = verb; table = table; conds = conds }))

conds_run : (verb : Verb) (table : Name) (before conds : List Cond) (rest : List Token) → run (with_conds verb table before) (joined_after mark.And (map cond_tokens conds) ++ rest) ≡ run (with_conds verb table (before ++ conds)) rest
unfolding run run_on step joined joined_after where_tokens cond_tokens test_tokens what_tokens direction_tokens order_tokens limit_tokens end_tokens statement_tokens spelling
conds_run verb table before [] rest = ap (λ b. run (with_conds verb table b) rest) (sym (append-nil before))
conds_run verb table before (c ∷ cs) rest =
    let later : List Token = joined_after mark.And (map cond_tokens cs) in
    let subject : Subject = record { verb = verb; table = table; conds = before } in
    let first : run (with_conds verb table before) ((Fixed mark.And ∷ (cond_tokens c ++ later)) ++ rest) ≡ run (state.Filter (filtering.Column subject)) (cond_tokens c ++ (later ++ rest)) = ap (λ r. run (state.Filter (filtering.Column subject)) r) (append_assoc (cond_tokens c) later rest) in
    first ∙ cond_run subject c.column c.test (later ++ rest) ∙ conds_run verb table (before ++ c ∷ []) cs rest ∙ ap (λ b. run (with_conds verb table b) rest) (append_assoc before (c ∷ []) cs)

-- the state behind the conditions
abbrev after_conds : Verb → Name → List Cond → State
after_conds verb table [] = state.Filter (filtering.Where verb table)
after_conds verb table (c ∷ cs) = with_conds verb table (c ∷ cs)

where_run : (verb : Verb) (table : Name) (conds : List Cond) (rest : List Token) → run (state.Filter (filtering.Where verb table)) (where_tokens conds ++ rest) ≡ run (after_conds verb table conds) rest
unfolding run run_on step joined joined_after where_tokens cond_tokens test_tokens what_tokens direction_tokens order_tokens limit_tokens end_tokens statement_tokens spelling
where_run verb table [] rest = refl
where_run verb table (c ∷ cs) rest =
    let later : List Token = joined_after mark.And (map cond_tokens cs) in
    let subject : Subject = record { verb = verb; table = table; conds = [] } in
    let first : run (state.Filter (filtering.Where verb table)) ((Fixed mark.Where ∷ (cond_tokens c ++ later)) ++ rest) ≡ run (state.Filter (filtering.Column subject)) (cond_tokens c ++ (later ++ rest)) = ap (λ r. run (state.Filter (filtering.Column subject)) r) (append_assoc (cond_tokens c) later rest) in
    first ∙ cond_run subject c.column c.test (later ++ rest) ∙ conds_run verb table (c ∷ []) cs rest

done_ends : (s : Stmt) (semicolon : Bool) → Ends (state.Done s) (end_tokens semicolon) s
unfolding run run_on step joined joined_after where_tokens cond_tokens test_tokens what_tokens direction_tokens order_tokens limit_tokens end_tokens statement_tokens spelling
done_ends s true = record { last = state.Closed s; ran = refl; ended = refl }
done_ends s false = record { last = state.Done s; ran = refl; ended = refl }

-- a state that ends, with or without a semicolon
semicolon_ends : (st : State) (s : Stmt) (semicolon : Bool) → step st (Fixed mark.Semicolon) ≡ Some (state.Closed s) → finished st ≡ Some s → Ends st (end_tokens semicolon) s
unfolding run run_on step joined joined_after where_tokens cond_tokens test_tokens what_tokens direction_tokens order_tokens limit_tokens end_tokens statement_tokens spelling
semicolon_ends st s true closed ended = ends_cons st (Fixed mark.Semicolon) (state.Closed s) [] s closed (record { last = state.Closed s; ran = refl; ended = refl })
semicolon_ends st s false closed ended = record { last = st; ran = refl; ended = ended }

limit_ends : (st : State) (listing : Listing) (order : Option Order) (limit : Option ℕ) (semicolon : Bool) → step st (Fixed mark.Limit) ≡ Some (state.Arrange (arranging.Number listing order)) → step st (Fixed mark.Semicolon) ≡ Some (state.Closed (listing_statement listing order None)) → finished st ≡ Some (listing_statement listing order None) → Ends st (limit_tokens limit ++ end_tokens semicolon) (listing_statement listing order limit)
unfolding run run_on step joined joined_after where_tokens cond_tokens test_tokens what_tokens direction_tokens order_tokens limit_tokens end_tokens statement_tokens spelling
limit_ends st listing order None semicolon more closed ended = semicolon_ends st (listing_statement listing order None) semicolon closed ended
limit_ends st listing order (Some n) semicolon more closed ended =
    let s : Stmt = listing_statement listing order (Some n) in
    ends_cons st (Fixed mark.Limit) (state.Arrange (arranging.Number listing order)) (Number n ∷ end_tokens semicolon) s more (ends_cons (state.Arrange (arranging.Number listing order)) (Number n) (state.Done s) (end_tokens semicolon) s refl (done_ends s semicolon))

direction_ends : (asc down : Bool) (listing : Listing) (column : Name) (limit : Option ℕ) (semicolon : Bool) → Ends (state.Arrange (arranging.Direction listing column)) (direction_tokens asc down ++ (limit_tokens limit ++ end_tokens semicolon)) (listing_statement listing (Some (ordered column down)) limit)
unfolding run run_on step joined joined_after where_tokens cond_tokens test_tokens what_tokens direction_tokens order_tokens limit_tokens end_tokens statement_tokens spelling
direction_ends true true listing column limit semicolon = ends_cons _ (Fixed mark.Desc) (state.Arrange (arranging.Limit listing (ordered column true))) _ _ refl (limit_ends (state.Arrange (arranging.Limit listing (ordered column true))) listing (Some (ordered column true)) limit semicolon refl refl refl)
direction_ends false true listing column limit semicolon = ends_cons _ (Fixed mark.Desc) (state.Arrange (arranging.Limit listing (ordered column true))) _ _ refl (limit_ends (state.Arrange (arranging.Limit listing (ordered column true))) listing (Some (ordered column true)) limit semicolon refl refl refl)
direction_ends true false listing column limit semicolon = ends_cons _ (Fixed mark.Asc) (state.Arrange (arranging.Limit listing (ordered column false))) _ _ refl (limit_ends (state.Arrange (arranging.Limit listing (ordered column false))) listing (Some (ordered column false)) limit semicolon refl refl refl)
direction_ends false false listing column limit semicolon = limit_ends (state.Arrange (arranging.Direction listing column)) listing (Some (ordered column false)) limit semicolon refl refl refl

order_ends : (st : State) (listing : Listing) (asc : Bool) (order : Option Order) (limit : Option ℕ) (semicolon : Bool) → step st (Fixed mark.Order) ≡ Some (state.Arrange (arranging.By listing)) → step st (Fixed mark.Limit) ≡ Some (state.Arrange (arranging.Number listing None)) → step st (Fixed mark.Semicolon) ≡ Some (state.Closed (listing_statement listing None None)) → finished st ≡ Some (listing_statement listing None None) → Ends st (order_tokens asc order ++ (limit_tokens limit ++ end_tokens semicolon)) (listing_statement listing order limit)
unfolding run run_on step joined joined_after where_tokens cond_tokens test_tokens what_tokens direction_tokens order_tokens limit_tokens end_tokens statement_tokens spelling
order_ends st listing asc None limit semicolon by more closed ended = limit_ends st listing None limit semicolon more closed ended
order_ends st listing asc (Some order) limit semicolon by more closed ended =
    let s : Stmt = listing_statement listing (Some order) limit in
    let rest : List Token = direction_tokens asc order.down ++ (limit_tokens limit ++ end_tokens semicolon) in
    ends_cons st (Fixed mark.Order) (state.Arrange (arranging.By listing)) (Fixed mark.By ∷ Named order.column ∷ rest) s by (ends_cons (state.Arrange (arranging.By listing)) (Fixed mark.By) (state.Arrange (arranging.Column listing)) (Named order.column ∷ rest) s refl (ends_cons (state.Arrange (arranging.Column listing)) (Named order.column) (state.Arrange (arranging.Direction listing order.column)) rest s refl (direction_ends asc order.down listing order.column limit semicolon)))

rows_end : (rows : Rows) (table : Name) (conds : List Cond) (asc : Bool) (order : Option Order) (limit : Option ℕ) (semicolon : Bool) → Ends (after_conds (verb.Rows rows) table conds) (order_tokens asc order ++ (limit_tokens limit ++ end_tokens semicolon)) (listing_statement (listed rows table conds) order limit)
unfolding run run_on step joined joined_after where_tokens cond_tokens test_tokens what_tokens direction_tokens order_tokens limit_tokens end_tokens statement_tokens spelling
rows_end rows table [] asc order limit semicolon = order_ends (state.Filter (filtering.Where (verb.Rows rows) table)) (listed rows table []) asc order limit semicolon refl refl refl refl
rows_end rows table (c ∷ cs) asc order limit semicolon = order_ends (with_conds (verb.Rows rows) table (c ∷ cs)) (listed rows table (c ∷ cs)) asc order limit semicolon refl refl refl refl

delete_end : (table : Name) (conds : List Cond) (semicolon : Bool) → Ends (after_conds verb.Delete table conds) (end_tokens semicolon) (stmt.Delete table conds)
unfolding run run_on step joined joined_after where_tokens cond_tokens test_tokens what_tokens direction_tokens order_tokens limit_tokens end_tokens statement_tokens spelling
delete_end table [] semicolon = semicolon_ends (state.Filter (filtering.Where verb.Delete table)) (stmt.Delete table []) semicolon refl refl
delete_end table (c ∷ cs) semicolon = semicolon_ends (with_conds verb.Delete table (c ∷ cs)) (stmt.Delete table (c ∷ cs)) semicolon refl refl

count_end : (table : Name) (conds : List Cond) (semicolon : Bool) → Ends (after_conds verb.Count table conds) (end_tokens semicolon) (stmt.Select what.Count table conds None None)
unfolding run run_on step joined joined_after where_tokens cond_tokens test_tokens what_tokens direction_tokens order_tokens limit_tokens end_tokens statement_tokens spelling
count_end table [] semicolon = semicolon_ends (state.Filter (filtering.Where verb.Count table)) (stmt.Select what.Count table [] None None) semicolon refl refl
count_end table (c ∷ cs) semicolon = semicolon_ends (with_conds verb.Count table (c ∷ cs)) (stmt.Select what.Count table (c ∷ cs) None None) semicolon refl refl

extreme_end : (which : Extreme) (column table : Name) (conds : List Cond) (semicolon : Bool) → Ends (after_conds (verb.Extreme which column) table conds) (end_tokens semicolon) (stmt.Select (extreme_what which column) table conds None None)
unfolding run run_on step joined joined_after where_tokens cond_tokens test_tokens what_tokens direction_tokens order_tokens limit_tokens end_tokens statement_tokens spelling
extreme_end which column table [] semicolon = semicolon_ends (state.Filter (filtering.Where (verb.Extreme which column) table)) (stmt.Select (extreme_what which column) table [] None None) semicolon refl refl
extreme_end which column table (c ∷ cs) semicolon = semicolon_ends (with_conds (verb.Extreme which column) table (c ∷ cs)) (stmt.Select (extreme_what which column) table (c ∷ cs) None None) semicolon refl refl

abbrev verb_of : What → Verb
verb_of what.All = verb.Rows rows.All
verb_of (what.Columns names) = verb.Rows (rows.Columns names)
verb_of what.Count = verb.Count
verb_of (what.Min column) = verb.Extreme Least column
verb_of (what.Max column) = verb.Extreme Greatest column

what_run : (what : What) (order : Option Order) (limit : Option ℕ) (table : Name) (rest : List Token) → IsAsked what order limit → run state.Start (Fixed mark.Select ∷ (what_tokens what ++ (Fixed mark.From ∷ Named table ∷ rest))) ≡ run (state.Filter (filtering.Where (verb_of what) table)) rest
unfolding run run_on step joined joined_after where_tokens cond_tokens test_tokens what_tokens direction_tokens order_tokens limit_tokens end_tokens statement_tokens spelling
what_run what.All order limit table rest asked = refl
what_run (what.Columns []) order limit table rest asked = absurd asked
what_run (what.Columns (c ∷ cs)) order limit table rest asked = columns_run (c ∷ []) cs (Fixed mark.From ∷ Named table ∷ rest)
what_run what.Count order limit table rest asked = refl
what_run (what.Min column) order limit table rest asked = refl
what_run (what.Max column) order limit table rest asked = refl

-- without an order and a limit
bare_end : (asc : Bool) (st : State) (what : What) (table : Name) (conds : List Cond) (order : Option Order) (limit : Option ℕ) (semicolon : Bool) → order ≡ None → limit ≡ None → Ends st (end_tokens semicolon) (stmt.Select what table conds None None) → Ends st (order_tokens asc order ++ (limit_tokens limit ++ end_tokens semicolon)) (stmt.Select what table conds order limit)
unfolding order_tokens limit_tokens
bare_end asc st what table conds None None semicolon e f ends = ends
bare_end asc st what table conds None (Some n) semicolon e f ends = absurd (let no : ⊥ = cc in no)
bare_end asc st what table conds (Some o) limit semicolon e f ends = absurd (let no : ⊥ = cc in no)

select_end : (asc : Bool) (what : What) (table : Name) (conds : List Cond) (order : Option Order) (limit : Option ℕ) (semicolon : Bool) → IsAsked what order limit → Ends (after_conds (verb_of what) table conds) (order_tokens asc order ++ (limit_tokens limit ++ end_tokens semicolon)) (stmt.Select what table conds order limit)
select_end asc what.All table conds order limit semicolon asked = rows_end rows.All table conds asc order limit semicolon
select_end asc (what.Columns names) table conds order limit semicolon asked = rows_end (rows.Columns names) table conds asc order limit semicolon
select_end asc what.Count table conds order limit semicolon asked = bare_end asc _ what.Count table conds order limit semicolon asked.0 asked.1 (count_end table conds semicolon)
select_end asc (what.Min column) table conds order limit semicolon asked = bare_end asc _ (what.Min column) table conds order limit semicolon asked.0 asked.1 (extreme_end Least column table conds semicolon)
select_end asc (what.Max column) table conds order limit semicolon asked = bare_end asc _ (what.Max column) table conds order limit semicolon asked.0 asked.1 (extreme_end Greatest column table conds semicolon)

select_regrouped : (w c o l e : List Token) (table : Name) → (Fixed mark.Select ∷ (w ++ Fixed mark.From ∷ Named table ∷ (c ++ (o ++ l)))) ++ e ≡ Fixed mark.Select ∷ (w ++ (Fixed mark.From ∷ Named table ∷ (c ++ (o ++ (l ++ e)))))
select_regrouped w c o l e table = simp append_assoc

select_ends : (style : Style) (what : What) (table : Name) (conds : List Cond) (order : Option Order) (limit : Option ℕ) → IsAsked what order limit → Ends state.Start (spelling style (stmt.Select what table conds order limit)) (stmt.Select what table conds order limit)
unfolding statement_tokens spelling
select_ends style what table conds order limit asked =
    let o : List Token = order_tokens style.asc order in
    let l : List Token = limit_tokens limit in
    let e : List Token = end_tokens style.semicolon in
    ends_same state.Start (after_conds (verb_of what) table conds) _ (o ++ (l ++ e)) _ (ap (λ r. run state.Start r) (select_regrouped (what_tokens what) (where_tokens conds) o l e table) ∙ what_run what order limit table (where_tokens conds ++ (o ++ (l ++ e))) asked ∙ where_run (verb_of what) table conds (o ++ (l ++ e))) (select_end style.asc what table conds order limit style.semicolon asked)

insert_ends : (style : Style) (table : Name) (values : List ℕ) → HasSome values → Ends state.Start (spelling style (stmt.Insert table values)) (stmt.Insert table values)
unfolding run run_on step joined joined_after where_tokens cond_tokens test_tokens what_tokens direction_tokens order_tokens limit_tokens end_tokens statement_tokens spelling
insert_ends style table [] some = absurd some
insert_ends style table (v ∷ vs) some =
    let e : List Token = end_tokens style.semicolon in
    let later : List Token = joined_after mark.Comma (map number_tokens vs) in
    ends_same state.Start (state.Done (stmt.Insert table (v ∷ vs))) _ e _ (ap (λ r. run (state.Insert (inserting.More table (v ∷ []))) r) (append_assoc later (Fixed mark.Close ∷ []) e) ∙ values_run table (v ∷ []) vs (Fixed mark.Close ∷ e)) (done_ends (stmt.Insert table (v ∷ vs)) style.semicolon)

-- what spells a statement is taken, and leads to it
pub spelling_ends : (style : Style) (s : Stmt) → IsStatement s → Ends state.Start (spelling style s) s
unfolding run run_on step joined joined_after where_tokens cond_tokens test_tokens what_tokens direction_tokens order_tokens limit_tokens end_tokens statement_tokens spelling
spelling_ends style stmt.Begin ok = ends_same state.Start (state.Done stmt.Begin) _ (end_tokens style.semicolon) _ refl (done_ends stmt.Begin style.semicolon)
spelling_ends style stmt.Commit ok = ends_same state.Start (state.Done stmt.Commit) _ (end_tokens style.semicolon) _ refl (done_ends stmt.Commit style.semicolon)
spelling_ends style stmt.Rollback ok = ends_same state.Start (state.Done stmt.Rollback) _ (end_tokens style.semicolon) _ refl (done_ends stmt.Rollback style.semicolon)
spelling_ends style (stmt.Rebuild table column) ok = ends_same state.Start (state.Done (stmt.Rebuild table column)) _ (end_tokens style.semicolon) _ refl (done_ends (stmt.Rebuild table column) style.semicolon)
spelling_ends style (stmt.Insert table values) ok = insert_ends style table values ok
spelling_ends style (stmt.Delete table conds) ok = ends_same state.Start (after_conds verb.Delete table conds) _ (end_tokens style.semicolon) _ (where_run verb.Delete table conds (end_tokens style.semicolon)) (delete_end table conds style.semicolon)
spelling_ends style (stmt.Select what table conds order limit) ok = select_ends style what table conds order limit ok
