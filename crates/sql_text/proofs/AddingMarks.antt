-- A keyword or a symbol that is taken adds itself to the tokens of its state.
use Rattle.std.proofs.Common.{◌≡◌, ℕ, Bool, true, false, cond, List, [], ◌∷◌, ◌++◌, Option, Some, None, map, refl, ap, sym, subst, ◌∙◌, append_assoc, rules}
use Rattle.std.proofs.lemmas.List.{append-nil}
use Rattle.sql_text.proofs.Joining.{opened}
use Rattle.sql_text.proofs.Taking.{verb_tokens, table_tokens, subject_tokens, listing_tokens, cond_front, state_tokens, Sound, VerbSound, RowsSound, InsertSound, SelectSound, FilterSound, ArrangeSound, Adds}
use Rattle.sql_text.specs.Grammar.{joined, joined_after, test_tokens, cond_tokens, where_tokens, direction_tokens, order_tokens, limit_tokens, what_tokens, statement_tokens, HasSome, IsAsked, IsStatement}
use Rattle.sql_text.specs.Machine.{is_mark, rows_what, extreme_what, listing_statement, verb_statement, listed, ordered, start_mark, rebuild_mark, insert_mark, what_mark, select_mark, statement_end, limit_end, listing_end, verb_end, test_mark, filter_mark, arrange_mark, on_mark}
use Rattle.sql_text.specs.contracts.marks.Mark.{the_type}
use denote.Enum.Bare.{same_true}
use Rattle.sql_text.specs.declared.Name.{Name}
use Rattle.sql_text.specs.declared.marks.Mark.{Mark}
use Rattle.sql_text.specs.declared.marks.Mark.TheVariants as mark
use Rattle.sql_text.specs.declared.states.Arranging.{Arranging}
use Rattle.sql_text.specs.declared.states.Arranging.TheVariants as arranging
use Rattle.sql_text.specs.declared.states.Extreme.{Extreme}
use Rattle.sql_text.specs.declared.states.Extreme.TheVariants.{Least, Greatest}
use Rattle.sql_text.specs.declared.states.Filtering.{Filtering}
use Rattle.sql_text.specs.declared.states.Filtering.TheVariants as filtering
use Rattle.sql_text.specs.declared.states.Inserting.{Inserting}
use Rattle.sql_text.specs.declared.states.Inserting.TheVariants as inserting
use Rattle.sql_text.specs.declared.states.Listing.{Listing}
use Rattle.sql_text.specs.declared.states.Rebuilding.{Rebuilding}
use Rattle.sql_text.specs.declared.states.Rebuilding.TheVariants as rebuilding
use Rattle.sql_text.specs.declared.states.Rows.{Rows}
use Rattle.sql_text.specs.declared.states.Rows.TheVariants as rows
use Rattle.sql_text.specs.declared.states.Selecting.{Selecting}
use Rattle.sql_text.specs.declared.states.Selecting.TheVariants as selecting
use Rattle.sql_text.specs.declared.states.State.{State}
use Rattle.sql_text.specs.declared.states.State.TheVariants as state
use Rattle.sql_text.specs.declared.states.Subject.{Subject}
use Rattle.sql_text.specs.declared.states.Verb.{Verb}
use Rattle.sql_text.specs.declared.states.Verb.TheVariants as verb
use Rattle.sql_text.specs.declared.statements.Cond.{Cond}
use Rattle.sql_text.specs.declared.statements.Order.{Order}
use Rattle.sql_text.specs.declared.statements.Stmt.{Stmt}
use Rattle.sql_text.specs.declared.statements.Stmt.TheVariants as stmt
use Rattle.sql_text.specs.declared.statements.What.{What}
use Rattle.sql_text.specs.declared.statements.What.TheVariants as what
use Rattle.sql_text.specs.declared.tokens.Token.{Token}
use Rattle.sql_text.specs.declared.tokens.Token.TheVariants.{Fixed, Named, Number}

pub mark_is : (a b : Mark) → is_mark a b ≡ true → a ≡ b
mark_is a b e = same_true the_type (search rules) a b e

pub none_taken : {S : Type 0} (P : Type 0) (next : S) → None ≡ Some next → P
none_taken P next e = cc

taken : {S : Type 0} (P : Mark → S → Type 0) (b : Bool) (m k : Mark) (s next : S) (other : Option S) → (b ≡ true → m ≡ k) → cond b (Some s) other ≡ Some next → P k s → (other ≡ Some next → P m next) → P m next
taken P true m k s next other same e here there =
    let e2 : s ≡ next = cc in
    subst (λ n. P m n) e2 (subst (λ x. P x s) (sym (same refl)) here)
taken P false m k s next other same e here there = there e

-- a mark is taken by a test for it, or by those behind that test
pub if_mark : {S : Type 0} (P : Mark → S → Type 0) (m k : Mark) (s next : S) (other : Option S) → cond (is_mark m k) (Some s) other ≡ Some next → P k s → (other ≡ Some next → P m next) → P m next
if_mark P m k s next other e here there = taken P (is_mark m k) m k s next other (mark_is m k) e here there

pub asked_rows : (rows : Rows) (order : Option Order) (limit : Option ℕ) → RowsSound rows → IsAsked (rows_what rows) order limit
asked_rows rows.All order limit sound = tt
asked_rows (rows.Columns names) order limit sound = sound

pub asked_extreme : (which : Extreme) (column : Name) → IsAsked (extreme_what which column) None None
asked_extreme Least column = (refl, refl)
asked_extreme Greatest column = (refl, refl)

-- the tokens of a SELECT of rows
pub listing_spelled : (asc : Bool) (listing : Listing) (order : Option Order) (limit : Option ℕ) → statement_tokens asc (listing_statement listing order limit) ≡ listing_tokens listing ++ (order_tokens asc order ++ limit_tokens limit)
unfolding statement_tokens
listing_spelled asc listing order limit = sym (append_assoc (table_tokens (verb.Rows listing.rows) listing.table) (where_tokens listing.conds) (order_tokens asc order ++ limit_tokens limit) ∙ append_assoc (verb_tokens (verb.Rows listing.rows)) (Fixed mark.From ∷ Named listing.table ∷ []) (where_tokens listing.conds ++ (order_tokens asc order ++ limit_tokens limit)))

select_spelled : (asc : Bool) (what : What) (table : Name) (conds : List Cond) → statement_tokens asc (stmt.Select what table conds None None) ≡ ((Fixed mark.Select ∷ what_tokens what) ++ Fixed mark.From ∷ Named table ∷ []) ++ where_tokens conds
unfolding statement_tokens order_tokens limit_tokens
select_spelled asc what table conds = ap (λ r. Fixed mark.Select ∷ (what_tokens what ++ Fixed mark.From ∷ Named table ∷ r)) (append-nil (where_tokens conds)) ∙ sym (append_assoc (Fixed mark.Select ∷ what_tokens what) (Fixed mark.From ∷ Named table ∷ []) (where_tokens conds))

-- the tokens of a statement that ends with its conditions
pub verb_spelled : (asc : Bool) (verb : Verb) (table : Name) (conds : List Cond) → statement_tokens asc (verb_statement verb table conds) ≡ subject_tokens verb table conds
unfolding statement_tokens
verb_spelled asc verb.Delete table conds = refl
verb_spelled asc verb.Count table conds = select_spelled asc what.Count table conds
verb_spelled asc (verb.Extreme which column) table conds = select_spelled asc (extreme_what which column) table conds
verb_spelled asc (verb.Rows rows) table conds = select_spelled asc (rows_what rows) table conds

pub verb_sound : (verb : Verb) (table : Name) (conds : List Cond) → VerbSound verb → IsStatement (verb_statement verb table conds)
verb_sound verb.Delete table conds sound = tt
verb_sound verb.Count table conds sound = (refl, refl)
verb_sound (verb.Extreme which column) table conds sound = asked_extreme which column
verb_sound (verb.Rows rows) table conds sound = asked_rows rows None None sound

adds_start : (asc : Bool) (m : Mark) (next : State) → start_mark m ≡ Some next → Adds asc state.Start (Fixed m) next
unfolding opened joined joined_after where_tokens cond_tokens test_tokens what_tokens direction_tokens order_tokens limit_tokens statement_tokens
adds_start asc m next e =
    let P : Mark → State → Type 0 = λ m n. Adds asc state.Start (Fixed m) n in
    if_mark P m mark.Begin _ next _ e (record { after = asc; tokens = refl; sound = tt }) (λ e. if_mark P m mark.Commit _ next _ e (record { after = asc; tokens = refl; sound = tt }) (λ e. if_mark P m mark.Rollback _ next _ e (record { after = asc; tokens = refl; sound = tt }) (λ e. if_mark P m mark.Rebuild _ next _ e (record { after = asc; tokens = refl; sound = tt }) (λ e. if_mark P m mark.Insert _ next _ e (record { after = asc; tokens = refl; sound = tt }) (λ e. if_mark P m mark.Delete _ next _ e (record { after = asc; tokens = refl; sound = tt }) (λ e. if_mark P m mark.Select _ next _ e (record { after = asc; tokens = refl; sound = tt }) (λ e. none_taken _ next e)))))))

adds_rebuild : (asc : Bool) (at : Rebuilding) (m : Mark) (next : State) → rebuild_mark at m ≡ Some next → Adds asc (state.Rebuild at) (Fixed m) next
unfolding opened joined joined_after where_tokens cond_tokens test_tokens what_tokens direction_tokens order_tokens limit_tokens statement_tokens
adds_rebuild asc rebuilding.Table m next e = none_taken _ next e
adds_rebuild asc (rebuilding.Open table) m next e = if_mark (λ m n. Adds asc (state.Rebuild (rebuilding.Open table)) (Fixed m) n) m mark.Open _ next _ e (record { after = asc; tokens = refl; sound = tt }) (λ e. none_taken _ next e)
adds_rebuild asc (rebuilding.Column table) m next e = none_taken _ next e
adds_rebuild asc (rebuilding.Close table column) m next e = if_mark (λ m n. Adds asc (state.Rebuild (rebuilding.Close table column)) (Fixed m) n) m mark.Close _ next _ e (record { after = asc; tokens = refl; sound = tt }) (λ e. none_taken _ next e)

adds_values : (asc : Bool) (table : Name) (values : List ℕ) (m : Mark) (next : State) → HasSome values → insert_mark (inserting.More table values) m ≡ Some next → Adds asc (state.Insert (inserting.More table values)) (Fixed m) next
unfolding opened joined joined_after where_tokens cond_tokens test_tokens what_tokens direction_tokens order_tokens limit_tokens statement_tokens
adds_values asc table [] m next some e = absurd some
adds_values asc table (v ∷ vs) m next some e =
    let P : Mark → State → Type 0 = λ m n. Adds asc (state.Insert (inserting.More table (v ∷ vs))) (Fixed m) n in
    if_mark P m mark.Comma _ next _ e (record { after = asc; tokens = refl; sound = tt }) (λ e. if_mark P m mark.Close _ next _ e (record { after = asc; tokens = refl; sound = tt }) (λ e. none_taken _ next e))

adds_insert : (asc : Bool) (at : Inserting) (m : Mark) (next : State) → InsertSound at → insert_mark at m ≡ Some next → Adds asc (state.Insert at) (Fixed m) next
unfolding opened joined joined_after where_tokens cond_tokens test_tokens what_tokens direction_tokens order_tokens limit_tokens statement_tokens
adds_insert asc inserting.Into m next sound e = if_mark (λ m n. Adds asc (state.Insert inserting.Into) (Fixed m) n) m mark.Into _ next _ e (record { after = asc; tokens = refl; sound = tt }) (λ e. none_taken _ next e)
adds_insert asc inserting.Table m next sound e = none_taken _ next e
adds_insert asc (inserting.Values table) m next sound e = if_mark (λ m n. Adds asc (state.Insert (inserting.Values table)) (Fixed m) n) m mark.Values _ next _ e (record { after = asc; tokens = refl; sound = tt }) (λ e. none_taken _ next e)
adds_insert asc (inserting.Open table) m next sound e = if_mark (λ m n. Adds asc (state.Insert (inserting.Open table)) (Fixed m) n) m mark.Open _ next _ e (record { after = asc; tokens = refl; sound = tt }) (λ e. none_taken _ next e)
adds_insert asc (inserting.Number table values) m next sound e = none_taken _ next e
adds_insert asc (inserting.More table values) m next sound e = adds_values asc table values m next sound e

adds_columns : (asc : Bool) (columns : List Name) (m : Mark) (next : State) → HasSome columns → select_mark (selecting.More columns) m ≡ Some next → Adds asc (state.Select (selecting.More columns)) (Fixed m) next
unfolding opened joined joined_after where_tokens cond_tokens test_tokens what_tokens direction_tokens order_tokens limit_tokens statement_tokens
adds_columns asc [] m next some e = absurd some
adds_columns asc (c ∷ cs) m next some e =
    let P : Mark → State → Type 0 = λ m n. Adds asc (state.Select (selecting.More (c ∷ cs))) (Fixed m) n in
    if_mark P m mark.Comma _ next _ e (record { after = asc; tokens = refl; sound = tt }) (λ e. if_mark P m mark.From _ next _ e (record { after = asc; tokens = refl; sound = tt }) (λ e. none_taken _ next e))

adds_extreme : (asc : Bool) (which : Extreme) (column : Name) → Adds asc (state.Select (selecting.ExtremeClose which column)) (Fixed mark.Close) (state.From (verb.Extreme which column))
unfolding opened joined joined_after where_tokens cond_tokens test_tokens what_tokens direction_tokens order_tokens limit_tokens statement_tokens
adds_extreme asc Least column = record { after = asc; tokens = refl; sound = tt }
adds_extreme asc Greatest column = record { after = asc; tokens = refl; sound = tt }

adds_what : (asc : Bool) (m : Mark) (next : State) → what_mark m ≡ Some next → Adds asc (state.Select selecting.What) (Fixed m) next
unfolding opened joined joined_after where_tokens cond_tokens test_tokens what_tokens direction_tokens order_tokens limit_tokens statement_tokens
adds_what asc m next e =
    let P : Mark → State → Type 0 = λ m n. Adds asc (state.Select selecting.What) (Fixed m) n in
    if_mark P m mark.Star _ next _ e (record { after = asc; tokens = refl; sound = tt }) (λ e. if_mark P m mark.Count _ next _ e (record { after = asc; tokens = refl; sound = tt }) (λ e. if_mark P m mark.Min _ next _ e (record { after = asc; tokens = refl; sound = tt }) (λ e. if_mark P m mark.Max _ next _ e (record { after = asc; tokens = refl; sound = tt }) (λ e. none_taken _ next e))))

adds_select : (asc : Bool) (at : Selecting) (m : Mark) (next : State) → SelectSound at → select_mark at m ≡ Some next → Adds asc (state.Select at) (Fixed m) next
unfolding opened joined joined_after where_tokens cond_tokens test_tokens what_tokens direction_tokens order_tokens limit_tokens statement_tokens
adds_select asc selecting.What m next sound e = adds_what asc m next e
adds_select asc selecting.CountOpen m next sound e = if_mark (λ m n. Adds asc (state.Select selecting.CountOpen) (Fixed m) n) m mark.Open _ next _ e (record { after = asc; tokens = refl; sound = tt }) (λ e. none_taken _ next e)
adds_select asc selecting.CountStar m next sound e = if_mark (λ m n. Adds asc (state.Select selecting.CountStar) (Fixed m) n) m mark.Star _ next _ e (record { after = asc; tokens = refl; sound = tt }) (λ e. none_taken _ next e)
adds_select asc selecting.CountClose m next sound e = if_mark (λ m n. Adds asc (state.Select selecting.CountClose) (Fixed m) n) m mark.Close _ next _ e (record { after = asc; tokens = refl; sound = tt }) (λ e. none_taken _ next e)
adds_select asc (selecting.ExtremeOpen which) m next sound e = if_mark (λ m n. Adds asc (state.Select (selecting.ExtremeOpen which)) (Fixed m) n) m mark.Open _ next _ e (record { after = asc; tokens = refl; sound = tt }) (λ e. none_taken _ next e)
adds_select asc (selecting.ExtremeColumn which) m next sound e = none_taken _ next e
adds_select asc (selecting.ExtremeClose which column) m next sound e = if_mark (λ m n. Adds asc (state.Select (selecting.ExtremeClose which column)) (Fixed m) n) m mark.Close _ next _ e (adds_extreme asc which column) (λ e. none_taken _ next e)
adds_select asc (selecting.More columns) m next sound e = adds_columns asc columns m next sound e
adds_select asc (selecting.Column columns) m next sound e = none_taken _ next e

adds_end : (asc after : Bool) (st : State) (s : Stmt) (m : Mark) (next : State) → state_tokens asc st ≡ statement_tokens after s → IsStatement s → statement_end s m ≡ Some next → Adds asc st (Fixed m) next
adds_end asc after st s m next same sound e = if_mark (λ m n. Adds asc st (Fixed m) n) m mark.Semicolon _ next _ e (record { after = after; tokens = ap (λ r. r ++ Fixed mark.Semicolon ∷ []) same; sound = sound }) (λ e. none_taken _ next e)

adds_limit : (asc after : Bool) (st : State) (listing : Listing) (order : Option Order) (m : Mark) (next : State) → state_tokens asc st ≡ listing_tokens listing ++ order_tokens after order → RowsSound listing.rows → limit_end listing order m ≡ Some next → Adds asc st (Fixed m) next
unfolding limit_tokens
adds_limit asc after st listing order m next same sound e = if_mark (λ m n. Adds asc st (Fixed m) n) m mark.Limit _ next _ e (record { after = after; tokens = ap (λ r. r ++ Fixed mark.Limit ∷ []) same ∙ append_assoc (listing_tokens listing) (order_tokens after order) (Fixed mark.Limit ∷ []); sound = sound }) (λ e. adds_end asc after st (listing_statement listing order None) m next (same ∙ (ap (λ r. listing_tokens listing ++ r) (sym (append-nil (order_tokens after order))) ∙ sym (listing_spelled after listing order None))) (asked_rows listing.rows order None sound) e)

adds_listing : (asc : Bool) (st : State) (listing : Listing) (m : Mark) (next : State) → state_tokens asc st ≡ listing_tokens listing → RowsSound listing.rows → listing_end listing m ≡ Some next → Adds asc st (Fixed m) next
unfolding order_tokens
adds_listing asc st listing m next same sound e = if_mark (λ m n. Adds asc st (Fixed m) n) m mark.Order _ next _ e (record { after = asc; tokens = ap (λ r. r ++ Fixed mark.Order ∷ []) same; sound = sound }) (λ e. adds_limit asc asc st listing None m next (same ∙ sym (append-nil (listing_tokens listing))) sound e)

adds_verb : (asc : Bool) (st : State) (verb : Verb) (table : Name) (conds : List Cond) (m : Mark) (next : State) → state_tokens asc st ≡ subject_tokens verb table conds → VerbSound verb → verb_end verb table conds m ≡ Some next → Adds asc st (Fixed m) next
adds_verb asc st verb.Delete table conds m next same sound e = adds_end asc asc st (verb_statement verb.Delete table conds) m next (same ∙ sym (verb_spelled asc verb.Delete table conds)) (verb_sound verb.Delete table conds sound) e
adds_verb asc st verb.Count table conds m next same sound e = adds_end asc asc st (verb_statement verb.Count table conds) m next (same ∙ sym (verb_spelled asc verb.Count table conds)) (verb_sound verb.Count table conds sound) e
adds_verb asc st (verb.Extreme which column) table conds m next same sound e = adds_end asc asc st (verb_statement (verb.Extreme which column) table conds) m next (same ∙ sym (verb_spelled asc (verb.Extreme which column) table conds)) (verb_sound (verb.Extreme which column) table conds sound) e
adds_verb asc st (verb.Rows rows) table conds m next same sound e = adds_listing asc st (listed rows table conds) m next same sound e

adds_test : (asc : Bool) (subject : Subject) (column : Name) (m : Mark) (next : State) → VerbSound subject.verb → test_mark subject column m ≡ Some next → Adds asc (state.Filter (filtering.Test subject column)) (Fixed m) next
adds_test asc subject column m next sound e =
    let P : Mark → State → Type 0 = λ m n. Adds asc (state.Filter (filtering.Test subject column)) (Fixed m) n in
    let more : (k : Mark) → (cond_front subject ++ Named column ∷ []) ++ Fixed k ∷ [] ≡ cond_front subject ++ Named column ∷ Fixed k ∷ [] = λ k. append_assoc (cond_front subject) (Named column ∷ []) (Fixed k ∷ []) in
    if_mark P m mark.Equal _ next _ e (record { after = asc; tokens = more mark.Equal; sound = sound }) (λ e. if_mark P m mark.Less _ next _ e (record { after = asc; tokens = more mark.Less; sound = sound }) (λ e. if_mark P m mark.LessEqual _ next _ e (record { after = asc; tokens = more mark.LessEqual; sound = sound }) (λ e. if_mark P m mark.Greater _ next _ e (record { after = asc; tokens = more mark.Greater; sound = sound }) (λ e. if_mark P m mark.GreaterEqual _ next _ e (record { after = asc; tokens = more mark.GreaterEqual; sound = sound }) (λ e. if_mark P m mark.Between _ next _ e (record { after = asc; tokens = more mark.Between; sound = sound }) (λ e. none_taken _ next e))))))

and_again : (front : List Token) (conds : List Cond) → HasSome conds → (front ++ where_tokens conds) ++ Fixed mark.And ∷ [] ≡ front ++ Fixed mark.Where ∷ opened mark.And (map cond_tokens conds)
unfolding where_tokens opened
and_again front [] some = absurd some
and_again front (c ∷ cs) some = append_assoc front (Fixed mark.Where ∷ joined mark.And (map cond_tokens (c ∷ cs))) (Fixed mark.And ∷ [])

adds_filter : (asc : Bool) (at : Filtering) (m : Mark) (next : State) → FilterSound at → filter_mark at m ≡ Some next → Adds asc (state.Filter at) (Fixed m) next
unfolding where_tokens opened
adds_filter asc (filtering.Where verb table) m next sound e = if_mark (λ m n. Adds asc (state.Filter (filtering.Where verb table)) (Fixed m) n) m mark.Where _ next _ e (record { after = asc; tokens = refl; sound = sound }) (λ e. adds_verb asc (state.Filter (filtering.Where verb table)) verb table [] m next (sym (append-nil (table_tokens verb table))) sound e)
adds_filter asc (filtering.Column subject) m next sound e = none_taken _ next e
adds_filter asc (filtering.Test subject column) m next sound e = adds_test asc subject column m next sound e
adds_filter asc (filtering.Number subject column operator) m next sound e = none_taken _ next e
adds_filter asc (filtering.Low subject column) m next sound e = none_taken _ next e
adds_filter asc (filtering.And subject column low) m next sound e = if_mark (λ m n. Adds asc (state.Filter (filtering.And subject column low)) (Fixed m) n) m mark.And _ next _ e (record { after = asc; tokens = append_assoc (cond_front subject) (Named column ∷ Fixed mark.Between ∷ Number low ∷ []) (Fixed mark.And ∷ []); sound = sound }) (λ e. none_taken _ next e)
adds_filter asc (filtering.High subject column low) m next sound e = none_taken _ next e
adds_filter asc (filtering.More subject) m next sound e = if_mark (λ m n. Adds asc (state.Filter (filtering.More subject)) (Fixed m) n) m mark.And _ next _ e (record { after = asc; tokens = and_again (table_tokens subject.verb subject.table) subject.conds sound.1; sound = sound.0 }) (λ e. adds_verb asc (state.Filter (filtering.More subject)) subject.verb subject.table subject.conds m next refl sound.0 e)

adds_arrange : (asc : Bool) (at : Arranging) (m : Mark) (next : State) → ArrangeSound at → arrange_mark at m ≡ Some next → Adds asc (state.Arrange at) (Fixed m) next
unfolding order_tokens direction_tokens
adds_arrange asc (arranging.By listing) m next sound e = if_mark (λ m n. Adds asc (state.Arrange (arranging.By listing)) (Fixed m) n) m mark.By _ next _ e (record { after = asc; tokens = append_assoc (listing_tokens listing) (Fixed mark.Order ∷ []) (Fixed mark.By ∷ []); sound = sound }) (λ e. none_taken _ next e)
adds_arrange asc (arranging.Column listing) m next sound e = none_taken _ next e
adds_arrange asc (arranging.Direction listing column) m next sound e =
    let P : Mark → State → Type 0 = λ m n. Adds asc (state.Arrange (arranging.Direction listing column)) (Fixed m) n in
    if_mark P m mark.Asc _ next _ e (record { after = asc; tokens = append_assoc (listing_tokens listing) (Fixed mark.Order ∷ Fixed mark.By ∷ Named column ∷ []) (Fixed mark.Asc ∷ []); sound = sound }) (λ e. if_mark P m mark.Desc _ next _ e (record { after = asc; tokens = append_assoc (listing_tokens listing) (Fixed mark.Order ∷ Fixed mark.By ∷ Named column ∷ []) (Fixed mark.Desc ∷ []); sound = sound }) (λ e. adds_limit asc false (state.Arrange (arranging.Direction listing column)) listing (Some (ordered column false)) m next refl sound e))
adds_arrange asc (arranging.Limit listing order) m next sound e = adds_limit asc true (state.Arrange (arranging.Limit listing order)) listing (Some order) m next refl sound e
adds_arrange asc (arranging.Number listing order) m next sound e = none_taken _ next e

pub adds_mark : (asc : Bool) (st : State) (m : Mark) (next : State) → Sound st → on_mark st m ≡ Some next → Adds asc st (Fixed m) next
adds_mark asc state.Start m next sound e = adds_start asc m next e
adds_mark asc (state.Rebuild at) m next sound e = adds_rebuild asc at m next e
adds_mark asc (state.Insert at) m next sound e = adds_insert asc at m next sound e
adds_mark asc (state.Select at) m next sound e = adds_select asc at m next sound e
adds_mark asc (state.From verb) m next sound e = if_mark (λ m n. Adds asc (state.From verb) (Fixed m) n) m mark.From _ next _ e (record { after = asc; tokens = refl; sound = sound }) (λ e. none_taken _ next e)
adds_mark asc (state.Table verb) m next sound e = none_taken _ next e
adds_mark asc (state.Filter at) m next sound e = adds_filter asc at m next sound e
adds_mark asc (state.Arrange at) m next sound e = adds_arrange asc at m next sound e
adds_mark asc (state.Done s) m next sound e = adds_end asc asc (state.Done s) s m next refl sound e
adds_mark asc (state.Closed s) m next sound e = none_taken _ next e
