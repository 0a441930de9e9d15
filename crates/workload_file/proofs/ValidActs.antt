-- Statements whose tables and columns were numbered are valid.
use Rattle.std.proofs.Common.{◌≡◌, ℕ, zero, suc, ◌<◌, ◌≤◌, Bool, true, false, nat_eq, nat_lt, cond, List, [], ◌∷◌, ◌++◌, length, map, get_or, Option, Some, None, Ok, refl, ap, ◌∙◌, subst, arith}
use Rattle.std.proofs.lemmas.Bool.{ltb-true, eqb-true}
use Rattle.std.proofs.lemmas.List.{length-map, length-append}
use Rattle.std.specs.List.{position, position_or_len}
use Rattle.std.specs.Option.{option_map}
use Rattle.mope_base.specs.Lists.{Each}
use Rattle.mope_base.specs.declared.numbers.ColNo.{ColNo}
use Rattle.mope_base.specs.declared.numbers.TableNo.{TableNo}
use Rattle.sql_text.specs.declared.Name.{Name}
use Rattle.sql_text.specs.declared.Test.{Test}
use Rattle.sql_text.specs.declared.statements.Cond.{Cond}
use Rattle.sql_text.specs.declared.statements.Order.{Order}
use Rattle.sql_text.specs.declared.statements.What.{What}
use Rattle.sql_text.specs.declared.statements.What.TheVariants as what
use Rattle.workload.specs.Validity.{column_count, IsColumn, IsNumber, HasNumbers, IsValidTest, IsOrderColumn, IsLimit, IsValidVerb, IsValidAct, IsValidPiece, inserted_numbers, numbers_inserted}
use Rattle.workload.specs.declared.script.Act.{Act}
use Rattle.workload.specs.declared.script.Act.TheVariants as act
use Rattle.workload.specs.declared.script.Decl.{Decl}
use Rattle.workload.specs.declared.script.Piece.{Piece}
use Rattle.workload.specs.declared.script.Piece.TheVariants as piece
use Rattle.workload.specs.declared.script.Verb.{Verb}
use Rattle.workload.specs.declared.script.Verb.TheVariants as verb
use Rattle.workload_file.proofs.ValidLines.{CondsRead, WhatRead}
use Rattle.workload_file.specs.Naming.{is_same, names_of, table_of, columns_of, column_of, place_of}
use Rattle.workload_file.specs.Resolving.{both, each_found, columns_in, test_in, tests_in, first_columns, order_in, rows_in, verb_in, bound, inserted, inserted_in, inserted_if, deleted, deleted_in, selected, selected_in, rebuilt, rebuilt_in, rebuild_of}

record Mapped {A B : Type 0} (f : A → B) (o : Option A) (y : B) : Type 0 where
  from : A
  is : o ≡ Some from
  gives : f from ≡ y

mapped : {A B : Type 0} (f : A → B) (o : Option A) (y : B) → option_map f o ≡ Some y → Mapped f o y
mapped f None y e = absurd (let no : ⊥ = cc in no)
mapped f (Some x) y e = record { from = x; is = refl; gives = (let same : f x ≡ y = cc in same) }

within_by : (b : Bool) (m n i : ℕ) → nat_lt m n ≡ b → cond b (Some m) None ≡ Some i → i < n
within_by true m n i less e = let same : m ≡ i = cc in subst (λ (k : ℕ). k < n) same (ltb-true m n less)
within_by false m n i less e = absurd (let no : ⊥ = cc in no)

position_within : {A : Type 0} (test : A → Bool) (xs : List A) (i : ℕ) → position test xs ≡ Some i → i < length xs
position_within test xs i e = within_by (nat_lt (position_or_len test xs) (length xs)) (position_or_len test xs) (length xs) i refl e

table_within : (tables : List Decl) (name : Name) (t : TableNo) → table_of tables name ≡ Some t → t.0 < length tables
table_within tables name t e =
    let m = mapped _ (place_of name (names_of tables)) t e in
    let below : m.from < length (names_of tables) = position_within (is_same name) (names_of tables) m.from m.is in
    let same : m.from ≡ t.0 = ap (λ (u : TableNo). u.0) m.gives in
    let size : length (names_of tables) ≡ length tables = length-map tables _ in
    omega (arith, below, same, size)

column_within : (columns : List Name) (name : Name) (c : ColNo) (n : ℕ) → length columns ≡ n → column_of columns name ≡ Some c → c.0 < n
column_within columns name c n size e =
    let m = mapped _ (place_of name columns) c e in
    let below : m.from < length columns = position_within (is_same name) columns m.from m.is in
    let same : m.from ≡ c.0 = ap (λ (u : ColNo). u.0) m.gives in
    omega (arith, below, same, size)

count_at : (tables : List Decl) (i : ℕ) → length (get_or (map (λ (d : Decl). d.columns) tables) i []) ≡ get_or (map (λ (d : Decl). length d.columns) tables) i 0
count_at [] i = refl
count_at (d ∷ tables) zero = refl
count_at (d ∷ tables) (suc i) = count_at tables i

count_of : (tables : List Decl) (t : TableNo) → length (columns_of tables t) ≡ column_count tables t
unfolding column_count
count_of tables t = count_at tables t.0

record Both {A : Type 0} (x : Option A) (rest : Option (List A)) (all : List A) : Type 0 where
  first : A
  others : List A
  first_is : x ≡ Some first
  others_are : rest ≡ Some others
  together : first ∷ others ≡ all

both_some : {A : Type 0} (x : Option A) (rest : Option (List A)) (all : List A) → both x rest ≡ Some all → Both x rest all
unfolding both
both_some None rest all e = absurd (let no : ⊥ = cc in no)
both_some (Some x) None all e = absurd (let no : ⊥ = cc in no)
both_some (Some x) (Some rest) all e = record { first = x; others = rest; first_is = refl; others_are = refl; together = (let same : x ∷ rest ≡ all = cc in same) }

found_each : {A B : Type 0} (find : A → Option B) (P : A → Type 0) (Q : B → Type 0) → ((x : A) (y : B) → P x → find x ≡ Some y → Q y)
    → (xs : List A) (ys : List B) → Each P xs → each_found find xs ≡ Some ys → Each Q ys × (length ys ≡ length xs)
unfolding each_found Each
found_each {B = B} find P Q one [] ys each e =
    let same : [] ≡ ys = cc in subst (λ (l : List B). Each Q l × (length l ≡ 0)) same (tt, refl)
found_each {B = B} find P Q one (x ∷ xs) ys each e =
    let b = both_some (find x) (each_found find xs) ys e in
    let later = found_each find P Q one xs b.others each.1 b.others_are in
    subst (λ (l : List B). Each Q l × (length l ≡ suc (length xs))) b.together ((one x b.first each.0 b.first_is, later.0), ap suc later.1)

any_each : {A : Type 0} (xs : List A) → Each (λ (x : A). Unit {0}) xs
unfolding Each
any_each [] = tt
any_each (x ∷ xs) = (tt, any_each xs)

test_valid : (tables : List Decl) (t : TableNo) (condition : Cond) (x : ColNo × Test) → HasNumbers condition.test → test_in (columns_of tables t) condition ≡ Some x → IsValidTest tables t x
unfolding test_in
test_valid tables t condition x has e =
    let m = mapped _ (column_of (columns_of tables t) condition.column) x e in
    subst (λ (y : ColNo × Test). IsValidTest tables t y) m.gives (column_within (columns_of tables t) condition.column m.from (column_count tables t) (count_of tables t) m.is, has)

tests_valid : (tables : List Decl) (t : TableNo) (conds : List Cond) (tests : List (ColNo × Test)) → CondsRead conds → tests_in (columns_of tables t) conds ≡ Some tests
    → (length tests ≤ 8) × Each (IsValidTest tables t) tests
unfolding tests_in
tests_valid tables t conds tests read e =
    let f = found_each (test_in (columns_of tables t)) (λ (c : Cond). HasNumbers c.test) (IsValidTest tables t) (λ c x has is. test_valid tables t c x has is) conds tests read.0 e in
    (omega (arith, f.1, read.1), f.0)

pub each_push : {A : Type 0} (P : A → Type 0) (xs : List A) (x : A) → Each P xs → P x → Each P (xs ++ x ∷ [])
unfolding Each
each_push P [] x each is = (is, tt)
each_push P (y ∷ xs) x each is = (each.0, each_push P xs x each.1 is)

first_columns_below : (n m : ℕ) → n ≤ m → Each (λ (c : ColNo). c.0 < m) (first_columns n) × (length (first_columns n) ≡ n)
unfolding first_columns Each
first_columns_below zero m below = (tt, refl)
first_columns_below (suc n) m below =
    let before = first_columns_below n m (omega (arith, below)) in (
      each_push (λ (c : ColNo). c.0 < m) (first_columns n) (record { 0 = n }) before.0 (omega (arith, below)),
      length-append (first_columns n) (record { 0 = n } ∷ []) ∙ omega (arith, before.1),
    )

order_valid : (tables : List Decl) (t : TableNo) (order : Option Order) (found : Option (ColNo × Bool)) → order_in (columns_of tables t) order ≡ Some found → IsOrderColumn tables t found
unfolding order_in
order_valid tables t None found e = let same : None ≡ found = cc in subst (λ (o : Option (ColNo × Bool)). IsOrderColumn tables t o) same tt
order_valid tables t (Some order) found e =
    let m = mapped _ (column_of (columns_of tables t) order.column) found e in
    subst (λ (o : Option (ColNo × Bool)). IsOrderColumn tables t o) m.gives (column_within (columns_of tables t) order.column m.from (column_count tables t) (count_of tables t) m.is)

abbrev ListHolds : List Decl → TableNo → List ColNo → Type 0
ListHolds tables t columns = (0 < length columns) × (length columns ≤ 8) × Each (IsColumn tables t) columns

rows_valid : (tables : List Decl) (t : TableNo) (listed : Option (List ColNo)) (order : Option (Option (ColNo × Bool))) (limit : Option ℕ) (v : Verb)
    → ((columns : List ColNo) → listed ≡ Some columns → ListHolds tables t columns)
    → ((found : Option (ColNo × Bool)) → order ≡ Some found → IsOrderColumn tables t found)
    → IsLimit limit → rows_in listed order limit ≡ Some v → IsValidVerb tables t v
unfolding rows_in
rows_valid tables t None order limit v lists orders is e = absurd (let no : ⊥ = cc in no)
rows_valid tables t (Some columns) None limit v lists orders is e = absurd (let no : ⊥ = cc in no)
rows_valid tables t (Some columns) (Some order) limit v lists orders is e =
    let same : verb.Rows columns order limit ≡ v = cc in
    let l = lists columns refl in
    subst (λ (u : Verb). IsValidVerb tables t u) same (l.0, l.1, l.2, orders order refl, is)

all_hold : (tables : List Decl) (t : TableNo) → 0 < length (columns_of tables t) → length (columns_of tables t) ≤ 8 → ListHolds tables t (first_columns (length (columns_of tables t)))
all_hold tables t some few =
    let n : ℕ = length (columns_of tables t) in
    let same : n ≡ column_count tables t = count_of tables t in
    let f = first_columns_below n (column_count tables t) (omega (arith, same)) in
    (omega (arith, f.1, some), omega (arith, f.1, few), f.0)

listed_hold : (tables : List Decl) (t : TableNo) (names : List Name) (columns : List ColNo) → 0 < length names → length names ≤ 8 → columns_in (columns_of tables t) names ≡ Some columns → ListHolds tables t columns
unfolding columns_in
listed_hold tables t names columns some few e =
    let f = found_each (column_of (columns_of tables t)) (λ (n : Name). Unit {0}) (IsColumn tables t) (λ name c _ is. column_within (columns_of tables t) name c (column_count tables t) (count_of tables t) is) names columns (any_each names) e in
    (omega (arith, f.1, some), omega (arith, f.1, few), f.0)

one_column : (tables : List Decl) (t : TableNo) (name : Name) (made : ColNo → Verb) (v : Verb) → ((c : ColNo) → IsColumn tables t c → IsValidVerb tables t (made c))
    → option_map made (column_of (columns_of tables t) name) ≡ Some v → IsValidVerb tables t v
one_column tables t name made v valid e =
    let m = mapped made (column_of (columns_of tables t) name) v e in
    subst (λ (u : Verb). IsValidVerb tables t u) m.gives (valid m.from (column_within (columns_of tables t) name m.from (column_count tables t) (count_of tables t) m.is))

verb_valid : (tables : List Decl) (t : TableNo) (w : What) (order : Option Order) (limit : Option ℕ) (v : Verb)
    → 0 < length (columns_of tables t) → length (columns_of tables t) ≤ 8 → WhatRead w → IsLimit limit
    → verb_in (columns_of tables t) w order limit ≡ Some v → IsValidVerb tables t v
unfolding verb_in
verb_valid tables t what.All order limit v some few read is e =
    rows_valid tables t (Some (first_columns (length (columns_of tables t)))) (order_in (columns_of tables t) order) limit v
    (λ columns same. let equal : first_columns (length (columns_of tables t)) ≡ columns = cc in subst (λ (l : List ColNo). ListHolds tables t l) equal (all_hold tables t some few))
    (λ found same. order_valid tables t order found same) is e
verb_valid tables t (what.Columns names) order limit v some few read is e =
    rows_valid tables t (columns_in (columns_of tables t) names) (order_in (columns_of tables t) order) limit v
    (λ columns same. listed_hold tables t names columns read.0 read.1 same)
    (λ found same. order_valid tables t order found same) is e
verb_valid tables t what.Count order limit v some few read is e = let same : verb.Count ≡ v = cc in subst (λ (u : Verb). IsValidVerb tables t u) same tt
verb_valid tables t (what.Min name) order limit v some few read is e = one_column tables t name verb.Min v (λ c below. below) e
verb_valid tables t (what.Max name) order limit v some few read is e = one_column tables t name verb.Max v (λ c below. below) e

bound_valid : (tables : List Decl) (t : TableNo) (v : Option Verb) (tests : Option (List (ColNo × Test))) (a : Act) → t.0 < length tables
    → ((u : Verb) → v ≡ Some u → IsValidVerb tables t u)
    → ((l : List (ColNo × Test)) → tests ≡ Some l → (length l ≤ 8) × Each (IsValidTest tables t) l)
    → bound t v tests ≡ Ok a → IsValidAct tables a
unfolding bound
bound_valid tables t None tests a within verbs testing e = absurd (let no : ⊥ = cc in no)
bound_valid tables t (Some v) None a within verbs testing e = absurd (let no : ⊥ = cc in no)
bound_valid tables t (Some v) (Some tests) a within verbs testing e =
    let same : act.Ask (record { table = t; verb = v; tests = tests }) ≡ a = cc in
    let l = testing tests refl in
    subst (λ (b : Act). IsValidAct tables b) same (within, l.0, l.1, verbs v refl)

-- a table that is declared has 1 to 8 columns
abbrev pub WidthsHold : List Decl → Type 0
WidthsHold tables = (t : TableNo) → t.0 < length tables → (0 < length (columns_of tables t)) × (length (columns_of tables t) ≤ 8)

inserted_by : (wide : Bool) (tables : List Decl) (t : TableNo) (values : List ℕ) (a : Act) → nat_eq (length values) (length (columns_of tables t)) ≡ wide
    → t.0 < length tables → Each IsNumber values → inserted_if wide t values ≡ Ok a → IsValidAct tables a
unfolding inserted_if
inserted_by true tables t values a wide within numbers e =
    let same : act.Insert t values ≡ a = cc in
    let width : length values ≡ length (columns_of tables t) = eqb-true (length values) (length (columns_of tables t)) wide in
    subst (λ (b : Act). IsValidAct tables b) same (within, width ∙ count_of tables t, numbers)
inserted_by false tables t values a wide within numbers e = absurd (let no : ⊥ = cc in no)

inserted_found : (tables : List Decl) (name : Name) (found : Option TableNo) (values : List ℕ) (a : Act) → table_of tables name ≡ found → Each IsNumber values
    → inserted_in tables found values ≡ Ok a → IsValidAct tables a
unfolding inserted_in
inserted_found tables name None values a is numbers e = absurd (let no : ⊥ = cc in no)
inserted_found tables name (Some t) values a is numbers e =
    inserted_by (nat_eq (length values) (length (columns_of tables t))) tables t values a refl (table_within tables name t is) numbers e

pub inserted_valid : (tables : List Decl) (name : Name) (values : List ℕ) (a : Act) → Each IsNumber values → inserted tables name values ≡ Ok a → IsValidAct tables a
unfolding inserted
inserted_valid tables name values a numbers e = inserted_found tables name (table_of tables name) values a refl numbers e

deleted_found : (tables : List Decl) (name : Name) (found : Option TableNo) (conds : List Cond) (a : Act) → table_of tables name ≡ found → CondsRead conds
    → deleted_in tables found conds ≡ Ok a → IsValidAct tables a
unfolding deleted_in
deleted_found tables name None conds a is read e = absurd (let no : ⊥ = cc in no)
deleted_found tables name (Some t) conds a is read e =
    bound_valid tables t (Some verb.Delete) (tests_in (columns_of tables t) conds) a (table_within tables name t is)
    (λ u same. let equal : verb.Delete ≡ u = cc in subst (λ (v : Verb). IsValidVerb tables t v) equal tt)
    (λ l same. tests_valid tables t conds l read same) e

pub deleted_valid : (tables : List Decl) (name : Name) (conds : List Cond) (a : Act) → CondsRead conds → deleted tables name conds ≡ Ok a → IsValidAct tables a
unfolding deleted
deleted_valid tables name conds a read e = deleted_found tables name (table_of tables name) conds a refl read e

selected_found : (tables : List Decl) (name : Name) (found : Option TableNo) (w : What) (conds : List Cond) (order : Option Order) (limit : Option ℕ) (a : Act)
    → table_of tables name ≡ found → WidthsHold tables → WhatRead w → CondsRead conds → IsLimit limit
    → selected_in tables found w conds order limit ≡ Ok a → IsValidAct tables a
unfolding selected_in
selected_found tables name None w conds order limit a is widths asked read few e = absurd (let no : ⊥ = cc in no)
selected_found tables name (Some t) w conds order limit a is widths asked read few e =
    let within : t.0 < length tables = table_within tables name t is in
    let width = widths t within in
    bound_valid tables t (verb_in (columns_of tables t) w order limit) (tests_in (columns_of tables t) conds) a within
    (λ u same. verb_valid tables t w order limit u width.0 width.1 asked few same)
    (λ l same. tests_valid tables t conds l read same) e

pub selected_valid : (tables : List Decl) (name : Name) (w : What) (conds : List Cond) (order : Option Order) (limit : Option ℕ) (a : Act)
    → WidthsHold tables → WhatRead w → CondsRead conds → IsLimit limit
    → selected tables name w conds order limit ≡ Ok a → IsValidAct tables a
unfolding selected
selected_valid tables name w conds order limit a widths asked read few e = selected_found tables name (table_of tables name) w conds order limit a refl widths asked read few e

rebuild_by : (tables : List Decl) (t : TableNo) (name : Name) (c : Option ColNo) (p : Piece) → t.0 < length tables → column_of (columns_of tables t) name ≡ c
    → rebuild_of t c ≡ Ok p → IsValidPiece tables p × (numbers_inserted p ≡ 0)
unfolding rebuild_of numbers_inserted
rebuild_by tables t name None p within has e = absurd (let no : ⊥ = cc in no)
rebuild_by tables t name (Some c) p within has e =
    let same : piece.Rebuild t c ≡ p = cc in
    subst (λ (q : Piece). IsValidPiece tables q × (numbers_inserted q ≡ 0)) same ((within, column_within (columns_of tables t) name c (column_count tables t) (count_of tables t) has), refl)

rebuild_found : (tables : List Decl) (name column : Name) (found : Option TableNo) (p : Piece) → table_of tables name ≡ found
    → rebuilt_in tables found column ≡ Ok p → IsValidPiece tables p × (numbers_inserted p ≡ 0)
unfolding rebuilt_in
rebuild_found tables name column None p is e = absurd (let no : ⊥ = cc in no)
rebuild_found tables name column (Some t) p is e =
    rebuild_by tables t column (column_of (columns_of tables t) column) p (table_within tables name t is) refl e

pub rebuilt_valid : (tables : List Decl) (name column : Name) (p : Piece) → rebuilt tables name column ≡ Ok p → IsValidPiece tables p × (numbers_inserted p ≡ 0)
unfolding rebuilt
rebuilt_valid tables name column p e = rebuild_found tables name column (table_of tables name) p refl e

-- so an INSERT has at most eight numbers
pub act_numbers : (tables : List Decl) (a : Act) → WidthsHold tables → IsValidAct tables a → inserted_numbers a ≤ 8
unfolding inserted_numbers
act_numbers tables (act.Insert t values) widths is =
    let width = (widths t is.0).1 in
    let same : length (columns_of tables t) ≡ column_count tables t = count_of tables t in
    omega (arith, width, same, is.1)
act_numbers tables (act.Ask ask) widths is = omega arith
