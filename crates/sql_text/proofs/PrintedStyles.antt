-- A statement's tokens without ASC and semicolon are tokens, where those of one of its spellings are.
use Rattle.std.proofs.Common.{Bool, true, false, List, [], ◌∷◌, ◌++◌, Option, Some, None}
use Rattle.sql_text.specs.Grammar.{Style, direction_tokens, end_tokens, limit_tokens, order_tokens, spelling, statement_tokens, what_tokens, where_tokens}
use Rattle.sql_text.specs.Lexing.{AreTokens}
use Rattle.sql_text.specs.declared.marks.Mark.TheVariants as mark
use Rattle.sql_text.specs.declared.statements.Order.{Order}
use Rattle.sql_text.specs.declared.statements.Stmt.{Stmt}
use Rattle.sql_text.specs.declared.statements.Stmt.TheVariants.{Begin, Commit, Rollback, Rebuild, Insert, Delete, Select}
use Rattle.sql_text.specs.declared.tokens.Token.{Token}
use Rattle.sql_text.specs.declared.tokens.Token.TheVariants.{Fixed, Named}

pub tokens_parts : (xs ys : List Token) → AreTokens (xs ++ ys) → AreTokens xs × AreTokens ys
tokens_parts [] ys are = (tt, are)
tokens_parts (x ∷ xs) ys are =
    let parts = tokens_parts xs ys are.1 in
    ((are.0, parts.0), parts.1)

pub tokens_append : (xs ys : List Token) → AreTokens xs → AreTokens ys → AreTokens (xs ++ ys)
tokens_append [] ys front back = back
tokens_append (x ∷ xs) ys front back = (front.0, tokens_append xs ys front.1 back)

direction_plain : (down : Bool) → AreTokens (direction_tokens false down)
unfolding direction_tokens
direction_plain true = (tt, tt)
direction_plain false = tt

order_plain : (asc : Bool) (order : Option Order) → AreTokens (order_tokens asc order) → AreTokens (order_tokens false order)
unfolding order_tokens
order_plain asc None are = tt
order_plain asc (Some order) are = (tt, (tt, (are.1.1.0, direction_plain order.down)))

statement_plain : (asc : Bool) (s : Stmt) → AreTokens (statement_tokens asc s) → AreTokens (statement_tokens false s)
unfolding statement_tokens
statement_plain asc Begin are = are
statement_plain asc Commit are = are
statement_plain asc Rollback are = are
statement_plain asc (Rebuild table column) are = are
statement_plain asc (Insert table values) are = are
statement_plain asc (Delete table conds) are = are
statement_plain asc (Select what table conds order limit) are =
    let front = tokens_parts (what_tokens what) (Fixed mark.From ∷ Named table ∷ (where_tokens conds ++ (order_tokens asc order ++ limit_tokens limit))) are.1 in
    let middle = tokens_parts (where_tokens conds) (order_tokens asc order ++ limit_tokens limit) front.1.1.1 in
    let back = tokens_parts (order_tokens asc order) (limit_tokens limit) middle.1 in
    let ending = tokens_append (order_tokens false order) (limit_tokens limit) (order_plain asc order back.0) back.1 in
    (tt, tokens_append (what_tokens what) (Fixed mark.From ∷ Named table ∷ (where_tokens conds ++ (order_tokens false order ++ limit_tokens limit))) front.0 (tt, (front.1.1.0, tokens_append (where_tokens conds) (order_tokens false order ++ limit_tokens limit) middle.0 ending)))

pub spelled_plain : (style : Style) (s : Stmt) → AreTokens (spelling style s) → AreTokens (statement_tokens false s)
unfolding spelling
spelled_plain style s are = statement_plain style.asc s (tokens_parts (statement_tokens style.asc s) (end_tokens style.semicolon) are).0
