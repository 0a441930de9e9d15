-- A ninth element has a token in the line.
use Rattle.std.proofs.Common.{◌≡◌, ℕ, zero, suc, ◌<◌, ◌≤◌, ◌+◌, Bool, true, false, nat_lt, List, [], ◌∷◌, ◌++◌, length, take, map, Option, Some, None, cond, refl, ap, arith, length-append, ltb-true}
use Rattle.std.proofs.lemmas.List.{length-map}
use Rattle.sql_text.proofs.Sizes.{joined_len, take-map}
use Rattle.sql_text.specs.Grammar.{Style, joined, name_tokens, cond_tokens, where_tokens, order_tokens, limit_tokens, what_tokens, statement_tokens, end_tokens, spelling, ninth_from, ninth_in, ninth, ninth_column, first_of, HasSome}
use Rattle.sql_text.specs.Marked.{marked_len}
use Rattle.sql_text.specs.declared.Name.{Name}
use Rattle.sql_text.specs.declared.marks.Mark.{Mark}
use Rattle.sql_text.specs.declared.marks.Mark.TheVariants as mark
use Rattle.sql_text.specs.declared.statements.Cond.{Cond}
use Rattle.sql_text.specs.declared.statements.Stmt.{Stmt}
use Rattle.sql_text.specs.declared.statements.Stmt.TheVariants.{Begin, Commit, Rollback, Rebuild, Insert, Delete, Select}
use Rattle.sql_text.specs.declared.statements.What.{What}
use Rattle.sql_text.specs.declared.statements.What.TheVariants.{All, Columns, Count, Min, Max}
use Rattle.sql_text.specs.declared.tokens.Token.{Token}
use Rattle.sql_text.specs.declared.tokens.Token.TheVariants.{Fixed, Named}

marked_take : {A : Type 0} (f : A → List Token) (n : ℕ) (xs : List A) → ((x : A) → 1 ≤ length (f x)) → n < length xs → marked_len (map f (take n xs)) + 2 ≤ marked_len (map f xs)
unfolding marked_len
marked_take f n [] some h = absurd (omega arith)
marked_take f zero (x ∷ xs) some h = let one : 1 ≤ length (f x) = some x in omega arith
marked_take f (suc n) (x ∷ xs) some h = let later : marked_len (map f (take n xs)) + 2 ≤ marked_len (map f xs) = marked_take f n xs some (omega arith) in omega arith

chosen : (b : Bool) (m n : ℕ) → cond b (Some m) None ≡ Some n → (b ≡ true) × (m ≡ n)
chosen true m n e = (refl, cc)
chosen false m n e = absurd (let no : ⊥ = cc in no)

some_first : {A : Type 0} (f : A → List Token) (k : ℕ) (xs : List A) → 0 < length xs → HasSome (map f (take (suc k) xs)) × HasSome (map f xs)
some_first f k [] h = absurd (omega arith)
some_first f k (x ∷ xs) h = (tt, tt)

-- the ninth element begins within the list
within_list : {A : Type 0} (f : A → List Token) (front : ℕ) (m : Mark) (xs : List A) (n : ℕ) → ((x : A) → 1 ≤ length (f x)) → ninth_from front m (map f xs) ≡ Some n → (n < front + length (joined m (map f xs))) × (8 < length xs)
within_list f front m xs n some e =
    let c : (nat_lt 8 (length (map f xs)) ≡ true) × (front + length (joined m (take 8 (map f xs))) + 1 ≡ n) = chosen _ _ n e in
    let size : length (map f xs) ≡ length xs = length-map xs f in
    let many : 8 < length xs = omega (arith, ltb-true 8 (length (map f xs)) c.0) in
    let has : HasSome (map f (take 8 xs)) × HasSome (map f xs) = some_first f 7 xs (omega arith) in
    let first : length (joined m (map f (take 8 xs))) + 1 ≡ marked_len (map f (take 8 xs)) = joined_len m (map f (take 8 xs)) has.0 in
    let all : length (joined m (map f xs)) + 1 ≡ marked_len (map f xs) = joined_len m (map f xs) has.1 in
    let more : marked_len (map f (take 8 xs)) + 2 ≤ marked_len (map f xs) = marked_take f 8 xs some many in
    let same : length (joined m (take 8 (map f xs))) ≡ length (joined m (map f (take 8 xs))) = ap (λ r. length (joined m r)) (take-map f 8 xs) in
    let place : front + length (joined m (take 8 (map f xs))) + 1 ≡ n = c.1 in
    (omega arith, many)

cond_some : (c : Cond) → 1 ≤ length (cond_tokens c)
unfolding cond_tokens
cond_some c = omega arith

name_some : (n : Name) → 1 ≤ length (name_tokens n)
name_some n = omega arith

where_len : (conds : List Cond) → 0 < length conds → length (where_tokens conds) ≡ 1 + length (joined mark.And (map cond_tokens conds))
unfolding where_tokens
where_len [] h = absurd (omega arith)
where_len (c ∷ cs) h = omega arith

select_len : (w c o l e : List Token) (table : Name) → length ((Fixed mark.Select ∷ (w ++ Fixed mark.From ∷ Named table ∷ (c ++ (o ++ l)))) ++ e) ≡ 3 + length w + length c + length o + length l + length e
select_len w c o l e table = omega (arith, length-append (Fixed mark.Select ∷ (w ++ Fixed mark.From ∷ Named table ∷ (c ++ (o ++ l)))) e, length-append w (Fixed mark.From ∷ Named table ∷ (c ++ (o ++ l))), length-append c (o ++ l), length-append o l)

front_len : (w : List Token) (table : Name) → length (Fixed mark.Select ∷ (w ++ Fixed mark.From ∷ Named table ∷ Fixed mark.Where ∷ [])) ≡ 4 + length w
front_len w table = omega (arith, length-append w (Fixed mark.From ∷ Named table ∷ Fixed mark.Where ∷ []))

never : (n : ℕ) (P : Type 0) → None ≡ Some n → P
never n P e = cc

column_within : (what : What) (n : ℕ) → ninth_column what ≡ Some n → n < 1 + length (what_tokens what)
unfolding ninth_column ninth_in what_tokens
column_within All n e = never n _ e
column_within (Columns names) n e = (within_list name_tokens 1 mark.Comma names n name_some e).0
column_within Count n e = never n _ e
column_within (Min column) n e = never n _ e
column_within (Max column) n e = never n _ e

first_by : (o other : Option ℕ) (n : ℕ) (P : Type 0) → first_of o other ≡ Some n → (o ≡ Some n → P) → (other ≡ Some n → P) → P
unfolding first_of
first_by None other n P e here there = there e
first_by (Some m) other n P e here there = here e

pub ninth_within : (style : Style) (s : Stmt) (n : ℕ) → ninth s ≡ Some n → n < length (spelling style s)
unfolding ninth ninth_in spelling statement_tokens
ninth_within style Begin n e = never n _ e
ninth_within style Commit n e = never n _ e
ninth_within style Rollback n e = never n _ e
ninth_within style (Rebuild table column) n e = never n _ e
ninth_within style (Insert table values) n e = never n _ e
ninth_within style (Delete table conds) n e =
    let w : (n < 4 + length (joined mark.And (map cond_tokens conds))) × (8 < length conds) = within_list cond_tokens 4 mark.And conds n cond_some e in
    let below : n < 4 + length (joined mark.And (map cond_tokens conds)) = w.0 in
    let many : 8 < length conds = w.1 in
    let len : length (where_tokens conds) ≡ 1 + length (joined mark.And (map cond_tokens conds)) = where_len conds (omega arith) in
    omega (arith, length-append (where_tokens conds) (end_tokens style.semicolon))
ninth_within style (Select what table conds order limit) n e =
    let total = select_len (what_tokens what) (where_tokens conds) (order_tokens style.asc order) (limit_tokens limit) (end_tokens style.semicolon) table in
    first_by _ _ n _ e
    (λ here. let below : n < 1 + length (what_tokens what) = column_within what n here in omega (arith, total))
    (λ there.
    let w : (n < length (Fixed mark.Select ∷ (what_tokens what ++ Fixed mark.From ∷ Named table ∷ Fixed mark.Where ∷ [])) + length (joined mark.And (map cond_tokens conds))) × (8 < length conds) = within_list cond_tokens _ mark.And conds n cond_some there in
    let below : n < length (Fixed mark.Select ∷ (what_tokens what ++ Fixed mark.From ∷ Named table ∷ Fixed mark.Where ∷ [])) + length (joined mark.And (map cond_tokens conds)) = w.0 in
    let many : 8 < length conds = w.1 in
    let len : length (where_tokens conds) ≡ 1 + length (joined mark.And (map cond_tokens conds)) = where_len conds (omega arith) in
    omega (arith, total, front_len (what_tokens what) table))
