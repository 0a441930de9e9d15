-- How many tokens lists have, and where their ninth elements begin.
use Rattle.std.proofs.Common.{◌≡◌, ℕ, zero, suc, ◌<◌, ◌≤◌, ◌+◌, ◌-◌, ◌*◌, List, [], ◌∷◌, ◌++◌, length, take, map, Option, cond, refl, ap, sym, ◌∙◌, arith, length-append, get_or, drop, drop-cons}
use Rattle.std.proofs.lemmas.List.{length-map, length-take-le, drop_all}
use Rattle.sql_text.specs.Grammar.{joined, joined_after, name_tokens, cond_tokens, test_tokens, what_tokens, ninth_from, ninth_in, ninth, ninth_select, ninth_column, first_of, HasSome}
use Rattle.sql_text.specs.Marked.{marked_len}
use Rattle.sql_text.specs.declared.Name.{Name}
use Rattle.sql_text.specs.declared.marks.Mark.{Mark}
use Rattle.sql_text.specs.declared.marks.Mark.TheVariants as mark
use Rattle.sql_text.specs.declared.statements.Cond.{Cond}
use Rattle.sql_text.specs.declared.statements.Order.{Order}
use Rattle.sql_text.specs.declared.statements.Stmt.TheVariants.{Select}
use Rattle.sql_text.specs.declared.statements.What.{What}
use Rattle.sql_text.specs.declared.tokens.Token.{Token}
use Rattle.sql_text.specs.declared.tokens.Token.TheVariants.{Fixed, Named}

after_len : (m : Mark) (xs : List (List Token)) → length (joined_after m xs) ≡ marked_len xs
unfolding joined_after marked_len
after_len m [] = refl
after_len m (x ∷ xs) = omega (arith, length-append x (joined_after m xs), after_len m xs)

pub joined_len : (m : Mark) (xs : List (List Token)) → HasSome xs → length (joined m xs) + 1 ≡ marked_len xs
unfolding joined marked_len
joined_len m [] some = absurd some
joined_len m (x ∷ xs) some = omega (arith, length-append x (joined_after m xs), after_len m xs)

pub take-map : {A B : Type 0} (f : A → B) (n : ℕ) (xs : List A) → take n (map f xs) ≡ map f (take n xs)
take-map f zero xs = refl
take-map f (suc n) [] = refl
take-map f (suc n) (x ∷ xs) = ap (λ r. f x ∷ r) (take-map f n xs)

names_marked : (names : List Name) → marked_len (map name_tokens names) ≡ 2 * length names
unfolding marked_len
names_marked [] = refl
names_marked (n ∷ ns) = omega (arith, names_marked ns)

-- a name each, and commas between them
pub names_size : (names : List Name) → length (joined mark.Comma (map name_tokens names)) ≡ 2 * length names - 1
unfolding joined
names_size [] = refl
names_size (n ∷ ns) = omega (arith, joined_len mark.Comma (map name_tokens (n ∷ ns)) tt, names_marked (n ∷ ns))

pub length_names : (names : List Name) → length (map name_tokens names) ≡ length names
length_names names = length-map names name_tokens

pub length_conds : (conds : List Cond) → length (map cond_tokens conds) ≡ length conds
length_conds conds = length-map conds cond_tokens

pub names_ninth : (names : List Name) → 8 < length names → length (joined mark.Comma (take 8 (map name_tokens names))) ≡ 15
names_ninth names h = ap (λ r. length (joined mark.Comma r)) (take-map name_tokens 8 names) ∙ names_size (take 8 names) ∙ ap (λ n. 2 * n - 1) (length-take-le 8 names (omega arith))

filled : {A B : Type 0} (f : A → B) (n : ℕ) (xs : List A) → 0 < length xs → HasSome (map f (take (suc n) xs))
filled f n [] h = absurd (omega arith)
filled f n (x ∷ xs) h = tt

pub conds_ninth : (conds : List Cond) → 8 < length conds → length (joined mark.And (take 8 (map cond_tokens conds))) + 1 ≡ marked_len (map cond_tokens (take 8 conds))
conds_ninth conds h = ap (λ r. length (joined mark.And r) + 1) (take-map cond_tokens 8 conds) ∙ joined_len mark.And (map cond_tokens (take 8 conds)) (filled cond_tokens 7 conds (omega arith))

-- one more condition of the rest
pub marked_step : (conds : List Cond) (i : ℕ) (c : Cond) → i < length conds → c ≡ get_or conds i c → marked_len (map cond_tokens (drop i conds)) ≡ length (cond_tokens c) + 1 + marked_len (map cond_tokens (drop (i + 1) conds))
unfolding marked_len
marked_step conds i c h is =
    let cut : drop i conds ≡ get_or conds i c ∷ drop (suc i) conds = drop-cons conds i c h in
    let next : suc i ≡ i + 1 = omega arith in
    ap (λ r. marked_len (map cond_tokens r)) (cut ∙ ap (λ x. x ∷ drop (suc i) conds) (sym is) ∙ ap (λ n. c ∷ drop n conds) next)

pub marked_start : (conds : List Cond) → marked_len (map cond_tokens (drop 0 conds)) ≡ marked_len (map cond_tokens conds)
marked_start conds = refl

pub marked_end : (conds : List Cond) (i : ℕ) → length conds ≤ i → marked_len (map cond_tokens (drop i conds)) ≡ 0
unfolding marked_len
marked_end conds i h = ap (λ r. marked_len (map cond_tokens r)) (drop_all i conds h)

pub cond_len : (cond : Cond) → length (cond_tokens cond) ≡ 1 + length (test_tokens cond.test)
unfolding cond_tokens
cond_len cond = omega arith

-- the tokens before the first condition of a SELECT
front_len : (w : List Token) (table : Name) → 4 + length w ≡ length (Fixed mark.Select ∷ (w ++ Fixed mark.From ∷ Named table ∷ Fixed mark.Where ∷ []))
front_len w table = omega (arith, length-append w (Fixed mark.From ∷ Named table ∷ Fixed mark.Where ∷ []))

pub select_ninth : (what : What) (table : Name) (conds : List Cond) (order : Option Order) (limit : Option ℕ) → ninth_select what conds ≡ ninth (Select what table conds order limit)
unfolding ninth ninth_select ninth_in
select_ninth what table conds order limit = ap (λ n. first_of (ninth_column what) (ninth_from n mark.And (map cond_tokens conds))) (front_len (what_tokens what) table)
