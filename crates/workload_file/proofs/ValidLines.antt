-- What a line that is read has: names that are names, numbers of 64 bits, and lists of at most eight elements.
use Rattle.std.proofs.Common.{◌≡◌, ℕ, ◌<◌, ◌≤◌, Bool, true, false, nat_lt, List, [], ◌∷◌, ◌++◌, length, map, Option, Some, None, refl, subst, arith, if◌then◌else◌}
use Rattle.std.proofs.lemmas.Bool.{ltb-false}
use Rattle.std.proofs.lemmas.List.{length-map, append_assoc}
use Rattle.mope_base.specs.Lists.{Each}
use Rattle.sql_text.proofs.PrintedLexed.{lexed_are_tokens}
use Rattle.sql_text.specs.Faults.{Gives}
use Rattle.sql_text.specs.FrameLines.{IsFrameLine, frame_tokens}
use Rattle.sql_text.specs.Grammar.{joined, joined_after, name_tokens, number_tokens, cond_tokens, test_tokens, where_tokens, order_tokens, limit_tokens, end_tokens, spelling, statement_tokens, what_tokens, HasSome, IsAsked, IsStatement, Style, ninth, ninth_from, ninth_in, first_of, ninth_column}
use Rattle.sql_text.specs.Lexing.{AreTokens}
use Rattle.sql_text.specs.Words.{IsName}
use Rattle.sql_text.specs.declared.Name.{Name}
use Rattle.sql_text.specs.declared.Test.{Test}
use Rattle.sql_text.specs.declared.Test.TheVariants as test
use Rattle.sql_text.specs.declared.frames.Frame.TheVariants as frame
use Rattle.sql_text.specs.declared.marks.Mark.{Mark}
use Rattle.sql_text.specs.declared.marks.Mark.TheVariants as mark
use Rattle.sql_text.specs.declared.statements.Cond.{Cond}
use Rattle.sql_text.specs.declared.statements.Order.{Order}
use Rattle.sql_text.specs.declared.statements.Stmt.{Stmt}
use Rattle.sql_text.specs.declared.statements.Stmt.TheVariants as stmt
use Rattle.sql_text.specs.declared.statements.What.{What}
use Rattle.sql_text.specs.declared.statements.What.TheVariants as what
use Rattle.sql_text.specs.declared.tokens.Token.{Token}
use Rattle.sql_text.specs.declared.tokens.Token.TheVariants.{Fixed, Named}
use Rattle.workload.specs.Validity.{IsNumber, HasNumbers, IsLimit}

abbrev mark_close : List Token
mark_close = Fixed mark.Close ∷ []

abbrev pub NamesHold : List Name → Type 0
NamesHold names = Each (λ (name : Name). IsName name.bytes) names

names_after : (names : List Name) (rest : List Token) → AreTokens (joined_after mark.Comma (map name_tokens names) ++ rest) → NamesHold names
unfolding joined_after Each
names_after [] rest are = tt
names_after (name ∷ names) rest are = (are.1.0, names_after names rest are.1.1)

names_joined : (names : List Name) (rest : List Token) → AreTokens (joined mark.Comma (map name_tokens names) ++ rest) → NamesHold names
unfolding joined Each
names_joined [] rest are = tt
names_joined (name ∷ names) rest are = (are.0, names_after names rest are.1)

numbers_after : (numbers : List ℕ) (rest : List Token) → AreTokens (joined_after mark.Comma (map number_tokens numbers) ++ rest) → Each IsNumber numbers
unfolding joined_after Each
numbers_after [] rest are = tt
numbers_after (n ∷ numbers) rest are = (are.1.0, numbers_after numbers rest are.1.1)

numbers_joined : (numbers : List ℕ) (rest : List Token) → AreTokens (joined mark.Comma (map number_tokens numbers) ++ rest) → Each IsNumber numbers
unfolding joined Each
numbers_joined [] rest are = tt
numbers_joined (n ∷ numbers) rest are = (are.0, numbers_after numbers rest are.1)

-- a table that is declared
pub record DeclRead (name : Name) (columns : List Name) : Type 0 where
  pub named : IsName name.bytes
  pub columns_named : NamesHold columns
  pub some : 0 < length columns

some_of : (names : List Name) → HasSome names → 0 < length names
some_of [] has = absurd has
some_of (name ∷ names) has = omega arith

pub decl_read : (line : List ℕ) (name : Name) (columns : List Name) → IsFrameLine line (frame.Table name columns) → DeclRead name columns
unfolding frame_tokens
decl_read line name columns is =
    let are : AreTokens (frame_tokens (frame.Table name columns)) = subst AreTokens is.spelled (lexed_are_tokens line is.tokens is.line_tokens.lexed) in
    record { named = are.1.0; columns_named = names_joined columns _ are.1.1.1; some = some_of columns is.right }

test_holds : (t : Test) (rest : List Token) → AreTokens (test_tokens t ++ rest) → HasNumbers t × AreTokens rest
unfolding test_tokens HasNumbers
test_holds (test.Eq n) rest are = (are.1.0, are.1.1)
test_holds (test.Lt n) rest are = (are.1.0, are.1.1)
test_holds (test.Le n) rest are = (are.1.0, are.1.1)
test_holds (test.Gt n) rest are = (are.1.0, are.1.1)
test_holds (test.Ge n) rest are = (are.1.0, are.1.1)
test_holds (test.Between low high) rest are = ((are.1.0, are.1.1.1.0), are.1.1.1.1)

abbrev NumbersHold : List Cond → Type 0
NumbersHold conds = Each (λ (cond : Cond). HasNumbers cond.test) conds

conds_after : (conds : List Cond) (rest : List Token) → AreTokens (joined_after mark.And (map cond_tokens conds) ++ rest) → NumbersHold conds × AreTokens rest
unfolding joined_after cond_tokens Each
conds_after [] rest are = (tt, are)
conds_after (cond ∷ conds) rest are =
    let more : List Token = joined_after mark.And (map cond_tokens conds) in
    let here = test_holds cond.test (more ++ rest) (subst AreTokens (append_assoc (test_tokens cond.test) more rest) are.1.1) in
    let later = conds_after conds rest here.1 in
    ((here.0, later.0), later.1)

where_holds : (conds : List Cond) (rest : List Token) → AreTokens (where_tokens conds ++ rest) → NumbersHold conds × AreTokens rest
unfolding where_tokens joined cond_tokens Each
where_holds [] rest are = (tt, are)
where_holds (cond ∷ conds) rest are =
    let more : List Token = joined_after mark.And (map cond_tokens conds) in
    let here = test_holds cond.test (more ++ rest) (subst AreTokens (append_assoc (test_tokens cond.test) more rest) are.1.1) in
    let later = conds_after conds rest here.1 in
    ((here.0, later.0), later.1)

are_behind : (front rest : List Token) → AreTokens (front ++ rest) → AreTokens rest
are_behind [] rest are = are
are_behind (t ∷ front) rest are = are_behind front rest are.1

limit_holds : (limit : Option ℕ) (rest : List Token) → AreTokens (limit_tokens limit ++ rest) → IsLimit limit
unfolding limit_tokens
limit_holds None rest are = tt
limit_holds (Some n) rest are = are.1.0

few_of : (many : Bool) (n : ℕ) → (if many then Some n else None) ≡ None → many ≡ false
few_of true n e = absurd (let no : ⊥ = cc in no)
few_of false n e = refl

few_elements : (front : ℕ) (m : Mark) (elements : List (List Token)) → ninth_from front m elements ≡ None → length elements ≤ 8
few_elements front m elements e = ltb-false 8 (length elements) (few_of (nat_lt 8 (length elements)) _ e)

few_conds : (front : ℕ) (conds : List Cond) → ninth_from front mark.And (map cond_tokens conds) ≡ None → length conds ≤ 8
few_conds front conds e = subst (λ (n : ℕ). n ≤ 8) (length-map conds cond_tokens) (few_elements front mark.And (map cond_tokens conds) e)

neither : (a b : Option ℕ) → first_of a b ≡ None → (a ≡ None) × (b ≡ None)
unfolding first_of
neither (Some n) b e = absurd (let no : ⊥ = cc in no)
neither None b e = (refl, e)

abbrev pub CondsRead : List Cond → Type 0
CondsRead conds = NumbersHold conds × (length conds ≤ 8)

abbrev pub WhatRead : What → Type 0
WhatRead what.All = Unit {0}
WhatRead (what.Columns names) = (0 < length names) × (length names ≤ 8)
WhatRead what.Count = Unit {0}
WhatRead (what.Min name) = Unit {0}
WhatRead (what.Max name) = Unit {0}

what_read : (w : What) (order : Option Order) (limit : Option ℕ) → IsAsked w order limit → ninth_column w ≡ None → WhatRead w
unfolding ninth_column ninth_in
what_read what.All order limit asked few = tt
what_read (what.Columns names) order limit asked few =
    (some_of names asked, subst (λ (n : ℕ). n ≤ 8) (length-map names name_tokens) (few_elements _ mark.Comma (map name_tokens names) few))
what_read what.Count order limit asked few = tt
what_read (what.Min name) order limit asked few = tt
what_read (what.Max name) order limit asked few = tt

-- a statement's numbers are of 64 bits, and its lists have at most eight elements
abbrev pub StmtRead : Stmt → Type 0
StmtRead stmt.Begin = Unit {0}
StmtRead stmt.Commit = Unit {0}
StmtRead stmt.Rollback = Unit {0}
StmtRead (stmt.Rebuild table column) = Unit {0}
StmtRead (stmt.Insert table values) = Each IsNumber values
StmtRead (stmt.Delete table conds) = CondsRead conds
StmtRead (stmt.Select w table conds order limit) = WhatRead w × CondsRead conds × IsLimit limit

tokens_read : (s : Stmt) (style : Style) → AreTokens (spelling style s) → IsStatement s → ninth s ≡ None → StmtRead s
unfolding spelling statement_tokens ninth ninth_in
tokens_read stmt.Begin style are is few = tt
tokens_read stmt.Commit style are is few = tt
tokens_read stmt.Rollback style are is few = tt
tokens_read (stmt.Rebuild table column) style are is few = tt
tokens_read (stmt.Insert table values) style are is few =
    numbers_joined values (mark_close ++ end_tokens style.semicolon) (subst AreTokens (append_assoc (joined mark.Comma (map number_tokens values)) mark_close (end_tokens style.semicolon)) are.1.1.1.1.1)
tokens_read (stmt.Delete table conds) style are is few = ((where_holds conds (end_tokens style.semicolon) are.1.1.1).0, few_conds _ conds few)
tokens_read (stmt.Select w table conds order limit) style are is few =
    let wheres : List Token = where_tokens conds in
    let orders : List Token = order_tokens style.asc order in
    let limits : List Token = limit_tokens limit in
    let ends : List Token = end_tokens style.semicolon in
    let back : List Token = Fixed mark.From ∷ Named table ∷ (wheres ++ (orders ++ limits)) in
    let behind_what : AreTokens (back ++ ends) = are_behind (what_tokens w) (back ++ ends) (subst AreTokens (append_assoc (what_tokens w) back ends) are.1) in
    let at_where = where_holds conds ((orders ++ limits) ++ ends) (subst AreTokens (append_assoc wheres (orders ++ limits) ends) behind_what.1.1) in
    let at_limit : AreTokens (limits ++ ends) = are_behind orders (limits ++ ends) (subst AreTokens (append_assoc orders limits ends) at_where.1) in
    let none = neither _ _ few in
    (what_read w order limit is none.0, (at_where.0, few_conds _ conds none.1), limit_holds limit ends at_limit)

pub stmt_read : (line : List ℕ) (s : Stmt) → Gives line s → StmtRead s
stmt_read line s g =
    tokens_read s g.spells.style (subst AreTokens g.spells.spelled (lexed_are_tokens line g.tokens g.line_tokens.lexed)) g.spells.statement g.few
