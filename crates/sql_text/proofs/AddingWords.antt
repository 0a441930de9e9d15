-- A name or a number that is taken adds itself to the tokens of its state, and so each token does.
use Rattle.std.proofs.Common.{◌≡◌, ℕ, Bool, cond, List, [], ◌∷◌, ◌++◌, Some, map, refl, ap, sym, subst, ◌∙◌, append_assoc}
use Rattle.std.proofs.lemmas.List.{map-append}
use Rattle.sql_text.proofs.AddingMarks.{none_taken, adds_mark, asked_rows, listing_spelled}
use Rattle.sql_text.proofs.Joining.{opened, joined-opened}
use Rattle.sql_text.proofs.Taking.{verb_tokens, table_tokens, listing_tokens, cond_front, operator_mark, Sound, InsertSound, SelectSound, FilterSound, ArrangeSound, Adds}
use Rattle.sql_text.specs.Grammar.{joined, joined_after, name_tokens, number_tokens, test_tokens, cond_tokens, where_tokens, direction_tokens, order_tokens, limit_tokens, what_tokens, statement_tokens, HasSome}
use Rattle.sql_text.specs.Machine.{test_of, rebuild_name, insert_name, select_name, filter_name, arrange_name, on_name, insert_number, filter_number, arrange_number, on_number, step}
use Rattle.sql_text.specs.declared.Name.{Name}
use Rattle.sql_text.specs.declared.Test.TheVariants as test
use Rattle.sql_text.specs.declared.marks.Mark.TheVariants as mark
use Rattle.sql_text.specs.declared.states.Arranging.{Arranging}
use Rattle.sql_text.specs.declared.states.Arranging.TheVariants as arranging
use Rattle.sql_text.specs.declared.states.Filtering.{Filtering}
use Rattle.sql_text.specs.declared.states.Filtering.TheVariants as filtering
use Rattle.sql_text.specs.declared.states.Inserting.{Inserting}
use Rattle.sql_text.specs.declared.states.Inserting.TheVariants as inserting
use Rattle.sql_text.specs.declared.states.Operator.{Operator}
use Rattle.sql_text.specs.declared.states.Operator.TheVariants as operator
use Rattle.sql_text.specs.declared.states.Rebuilding.{Rebuilding}
use Rattle.sql_text.specs.declared.states.Rebuilding.TheVariants as rebuilding
use Rattle.sql_text.specs.declared.states.Selecting.{Selecting}
use Rattle.sql_text.specs.declared.states.Selecting.TheVariants as selecting
use Rattle.sql_text.specs.declared.states.State.{State}
use Rattle.sql_text.specs.declared.states.State.TheVariants as state
use Rattle.sql_text.specs.declared.statements.Cond.{Cond}
use Rattle.sql_text.specs.declared.tokens.Token.{Token}
use Rattle.sql_text.specs.declared.tokens.Token.TheVariants.{Fixed, Named, Number}

pub some-snoc : {A : Type 0} (xs : List A) (x : A) → HasSome (xs ++ x ∷ [])
some-snoc [] x = tt
some-snoc (y ∷ ys) x = tt

pub some_taken : {S : Type 0} (P : S → Type 0) (s next : S) → Some s ≡ Some next → P s → P next
some_taken P s next e here = let e2 : s ≡ next = cc in subst P e2 here

-- one more element of a list of names or numbers
pub joined-more : {A : Type 0} (f : A → List Token) (xs : List A) (x : A) → joined mark.Comma (map f (xs ++ x ∷ [])) ≡ opened mark.Comma (map f xs) ++ f x
joined-more f xs x = ap (λ r. joined mark.Comma r) (map-append f xs (x ∷ [])) ∙ joined-opened mark.Comma (map f xs) (f x)

where-filled : (conds : List Cond) → HasSome conds → where_tokens conds ≡ Fixed mark.Where ∷ joined mark.And (map cond_tokens conds)
unfolding where_tokens
where-filled [] some = absurd some
where-filled (c ∷ cs) some = refl

-- one more condition
pub where-more : (conds : List Cond) (cond : Cond) → where_tokens (conds ++ cond ∷ []) ≡ Fixed mark.Where ∷ (opened mark.And (map cond_tokens conds) ++ cond_tokens cond)
where-more conds cond = where-filled (conds ++ cond ∷ []) (some-snoc conds cond) ∙ ap (λ r. Fixed mark.Where ∷ joined mark.And r) (map-append cond_tokens conds (cond ∷ [])) ∙ ap (λ r. Fixed mark.Where ∷ r) (joined-opened mark.And (map cond_tokens conds) (cond_tokens cond))

with_front : (front : List Token) (conds : List Cond) (cond : Cond) → (front ++ Fixed mark.Where ∷ opened mark.And (map cond_tokens conds)) ++ cond_tokens cond ≡ front ++ where_tokens (conds ++ cond ∷ [])
with_front front conds cond = append_assoc front (Fixed mark.Where ∷ opened mark.And (map cond_tokens conds)) (cond_tokens cond) ∙ ap (λ r. front ++ r) (sym (where-more conds cond))

adds_rebuild : (asc : Bool) (at : Rebuilding) (name : Name) (next : State) → Unit {0} → rebuild_name at name ≡ Some next → Adds asc (state.Rebuild at) (Named name) next
adds_rebuild asc rebuilding.Table name next sound e = some_taken (λ n. Adds asc (state.Rebuild rebuilding.Table) (Named name) n) _ next e (record { after = asc; tokens = refl; sound = tt })
adds_rebuild asc (rebuilding.Open table) name next sound e = none_taken _ next e
adds_rebuild asc (rebuilding.Column table) name next sound e = some_taken (λ n. Adds asc (state.Rebuild (rebuilding.Column table)) (Named name) n) _ next e (record { after = asc; tokens = refl; sound = tt })
adds_rebuild asc (rebuilding.Close table column) name next sound e = none_taken _ next e

adds_insert : (asc : Bool) (at : Inserting) (name : Name) (next : State) → InsertSound at → insert_name at name ≡ Some next → Adds asc (state.Insert at) (Named name) next
adds_insert asc inserting.Table name next sound e = some_taken (λ n. Adds asc (state.Insert inserting.Table) (Named name) n) _ next e (record { after = asc; tokens = refl; sound = tt })
adds_insert asc inserting.Into name next sound e = none_taken _ next e
adds_insert asc (inserting.Values table) name next sound e = none_taken _ next e
adds_insert asc (inserting.Open table) name next sound e = none_taken _ next e
adds_insert asc (inserting.Number table values) name next sound e = none_taken _ next e
adds_insert asc (inserting.More table values) name next sound e = none_taken _ next e

adds_select : (asc : Bool) (at : Selecting) (name : Name) (next : State) → SelectSound at → select_name at name ≡ Some next → Adds asc (state.Select at) (Named name) next
unfolding opened joined joined_after where_tokens cond_tokens test_tokens what_tokens direction_tokens order_tokens limit_tokens statement_tokens
adds_select asc selecting.What name next sound e = some_taken (λ n. Adds asc (state.Select selecting.What) (Named name) n) _ next e (record { after = asc; tokens = refl; sound = tt })
adds_select asc (selecting.ExtremeColumn which) name next sound e = some_taken (λ n. Adds asc (state.Select (selecting.ExtremeColumn which)) (Named name) n) _ next e (record { after = asc; tokens = refl; sound = tt })
adds_select asc (selecting.Column columns) name next sound e = some_taken (λ n. Adds asc (state.Select (selecting.Column columns)) (Named name) n) _ next e (record { after = asc; tokens = ap (λ r. Fixed mark.Select ∷ r) (sym (joined-more name_tokens columns name)); sound = some-snoc columns name })
adds_select asc selecting.CountOpen name next sound e = none_taken _ next e
adds_select asc selecting.CountStar name next sound e = none_taken _ next e
adds_select asc selecting.CountClose name next sound e = none_taken _ next e
adds_select asc (selecting.ExtremeOpen which) name next sound e = none_taken _ next e
adds_select asc (selecting.ExtremeClose which column) name next sound e = none_taken _ next e
adds_select asc (selecting.More columns) name next sound e = none_taken _ next e

adds_filter : (asc : Bool) (at : Filtering) (name : Name) (next : State) → FilterSound at → filter_name at name ≡ Some next → Adds asc (state.Filter at) (Named name) next
adds_filter asc (filtering.Column subject) name next sound e = some_taken (λ n. Adds asc (state.Filter (filtering.Column subject)) (Named name) n) _ next e (record { after = asc; tokens = refl; sound = sound })
adds_filter asc (filtering.Where verb table) name next sound e = none_taken _ next e
adds_filter asc (filtering.Test subject column) name next sound e = none_taken _ next e
adds_filter asc (filtering.Number subject column operator) name next sound e = none_taken _ next e
adds_filter asc (filtering.Low subject column) name next sound e = none_taken _ next e
adds_filter asc (filtering.And subject column low) name next sound e = none_taken _ next e
adds_filter asc (filtering.High subject column low) name next sound e = none_taken _ next e
adds_filter asc (filtering.More subject) name next sound e = none_taken _ next e

adds_arrange : (asc : Bool) (at : Arranging) (name : Name) (next : State) → ArrangeSound at → arrange_name at name ≡ Some next → Adds asc (state.Arrange at) (Named name) next
adds_arrange asc (arranging.Column listing) name next sound e = some_taken (λ n. Adds asc (state.Arrange (arranging.Column listing)) (Named name) n) _ next e (record { after = asc; tokens = append_assoc (listing_tokens listing) (Fixed mark.Order ∷ Fixed mark.By ∷ []) (Named name ∷ []); sound = sound })
adds_arrange asc (arranging.By listing) name next sound e = none_taken _ next e
adds_arrange asc (arranging.Direction listing column) name next sound e = none_taken _ next e
adds_arrange asc (arranging.Limit listing order) name next sound e = none_taken _ next e
adds_arrange asc (arranging.Number listing order) name next sound e = none_taken _ next e

adds_name : (asc : Bool) (st : State) (name : Name) (next : State) → Sound st → on_name st name ≡ Some next → Adds asc st (Named name) next
adds_name asc (state.Rebuild at) name next sound e = adds_rebuild asc at name next sound e
adds_name asc (state.Insert at) name next sound e = adds_insert asc at name next sound e
adds_name asc (state.Select at) name next sound e = adds_select asc at name next sound e
adds_name asc (state.Table verb) name next sound e = some_taken (λ n. Adds asc (state.Table verb) (Named name) n) _ next e (record { after = asc; tokens = append_assoc (verb_tokens verb) (Fixed mark.From ∷ []) (Named name ∷ []); sound = sound })
adds_name asc (state.Filter at) name next sound e = adds_filter asc at name next sound e
adds_name asc (state.Arrange at) name next sound e = adds_arrange asc at name next sound e
adds_name asc state.Start name next sound e = none_taken _ next e
adds_name asc (state.From verb) name next sound e = none_taken _ next e
adds_name asc (state.Done s) name next sound e = none_taken _ next e
adds_name asc (state.Closed s) name next sound e = none_taken _ next e

insert_number_adds : (asc : Bool) (at : Inserting) (n : ℕ) (next : State) → InsertSound at → insert_number at n ≡ Some next → Adds asc (state.Insert at) (Number n) next
insert_number_adds asc (inserting.Number table values) n next sound e = some_taken (λ x. Adds asc (state.Insert (inserting.Number table values)) (Number n) x) _ next e (record { after = asc; tokens = ap (λ r. Fixed mark.Insert ∷ Fixed mark.Into ∷ Named table ∷ Fixed mark.Values ∷ Fixed mark.Open ∷ r) (sym (joined-more number_tokens values n)); sound = some-snoc values n })
insert_number_adds asc inserting.Into n next sound e = none_taken _ next e
insert_number_adds asc inserting.Table n next sound e = none_taken _ next e
insert_number_adds asc (inserting.Values table) n next sound e = none_taken _ next e
insert_number_adds asc (inserting.Open table) n next sound e = none_taken _ next e
insert_number_adds asc (inserting.More table values) n next sound e = none_taken _ next e

operator_spelled : (operator : Operator) (column : Name) (n : ℕ) → Named column ∷ Fixed (operator_mark operator) ∷ Number n ∷ [] ≡ cond_tokens (record { column = column; test = test_of operator n })
unfolding cond_tokens test_tokens
operator_spelled operator.Equal column n = refl
operator_spelled operator.Less column n = refl
operator_spelled operator.LessEqual column n = refl
operator_spelled operator.Greater column n = refl
operator_spelled operator.GreaterEqual column n = refl

filter_number_adds : (asc : Bool) (at : Filtering) (n : ℕ) (next : State) → FilterSound at → filter_number at n ≡ Some next → Adds asc (state.Filter at) (Number n) next
unfolding cond_tokens test_tokens
filter_number_adds asc (filtering.Number subject column operator) n next sound e = some_taken (λ x. Adds asc (state.Filter (filtering.Number subject column operator)) (Number n) x) _ next e (record { after = asc; tokens = append_assoc (cond_front subject) (Named column ∷ Fixed (operator_mark operator) ∷ []) (Number n ∷ []) ∙ ap (λ r. cond_front subject ++ r) (operator_spelled operator column n) ∙ with_front (table_tokens subject.verb subject.table) subject.conds (record { column = column; test = test_of operator n }); sound = (sound, some-snoc subject.conds (record { column = column; test = test_of operator n })) })
filter_number_adds asc (filtering.Low subject column) n next sound e = some_taken (λ x. Adds asc (state.Filter (filtering.Low subject column)) (Number n) x) _ next e (record { after = asc; tokens = append_assoc (cond_front subject) (Named column ∷ Fixed mark.Between ∷ []) (Number n ∷ []); sound = sound })
filter_number_adds asc (filtering.High subject column low) n next sound e = some_taken (λ x. Adds asc (state.Filter (filtering.High subject column low)) (Number n) x) _ next e (record { after = asc; tokens = append_assoc (cond_front subject) (Named column ∷ Fixed mark.Between ∷ Number low ∷ Fixed mark.And ∷ []) (Number n ∷ []) ∙ with_front (table_tokens subject.verb subject.table) subject.conds (record { column = column; test = test.Between low n }); sound = (sound, some-snoc subject.conds (record { column = column; test = test.Between low n })) })
filter_number_adds asc (filtering.Where verb table) n next sound e = none_taken _ next e
filter_number_adds asc (filtering.Column subject) n next sound e = none_taken _ next e
filter_number_adds asc (filtering.Test subject column) n next sound e = none_taken _ next e
filter_number_adds asc (filtering.And subject column low) n next sound e = none_taken _ next e
filter_number_adds asc (filtering.More subject) n next sound e = none_taken _ next e

arrange_number_adds : (asc : Bool) (at : Arranging) (n : ℕ) (next : State) → ArrangeSound at → arrange_number at n ≡ Some next → Adds asc (state.Arrange at) (Number n) next
unfolding limit_tokens
arrange_number_adds asc (arranging.Number listing order) n next sound e = some_taken (λ x. Adds asc (state.Arrange (arranging.Number listing order)) (Number n) x) _ next e (record { after = asc; tokens = append_assoc (listing_tokens listing) (order_tokens asc order ++ Fixed mark.Limit ∷ []) (Number n ∷ []) ∙ ap (λ r. listing_tokens listing ++ r) (append_assoc (order_tokens asc order) (Fixed mark.Limit ∷ []) (Number n ∷ [])) ∙ sym (listing_spelled asc listing order (Some n)); sound = asked_rows listing.rows order (Some n) sound })
arrange_number_adds asc (arranging.By listing) n next sound e = none_taken _ next e
arrange_number_adds asc (arranging.Column listing) n next sound e = none_taken _ next e
arrange_number_adds asc (arranging.Direction listing column) n next sound e = none_taken _ next e
arrange_number_adds asc (arranging.Limit listing order) n next sound e = none_taken _ next e

adds_number : (asc : Bool) (st : State) (n : ℕ) (next : State) → Sound st → on_number st n ≡ Some next → Adds asc st (Number n) next
adds_number asc (state.Insert at) n next sound e = insert_number_adds asc at n next sound e
adds_number asc (state.Filter at) n next sound e = filter_number_adds asc at n next sound e
adds_number asc (state.Arrange at) n next sound e = arrange_number_adds asc at n next sound e
adds_number asc state.Start n next sound e = none_taken _ next e
adds_number asc (state.Rebuild at) n next sound e = none_taken _ next e
adds_number asc (state.Select at) n next sound e = none_taken _ next e
adds_number asc (state.From verb) n next sound e = none_taken _ next e
adds_number asc (state.Table verb) n next sound e = none_taken _ next e
adds_number asc (state.Done s) n next sound e = none_taken _ next e
adds_number asc (state.Closed s) n next sound e = none_taken _ next e

-- each token that is taken adds itself to the tokens of its state
pub adds : (asc : Bool) (st : State) (token : Token) (next : State) → Sound st → step st token ≡ Some next → Adds asc st token next
unfolding step
adds asc st (Fixed m) next sound e = adds_mark asc st m next sound e
adds asc st (Named name) next sound e = adds_name asc st name next sound e
adds asc st (Number n) next sound e = adds_number asc st n next sound e
