-- The tokens that spell a statement.
use Rattle.std.specs.Prelude.{◌≡◌, ℕ, ◌+◌, Bool, true, false, nat_lt, List, [], ◌∷◌, ◌++◌, length, map, take, Option, Some, None, if◌then◌else◌}
use Rattle.sql_text.specs.Lexing.{AreTokens}
use Rattle.sql_text.specs.declared.Name.{Name}
use Rattle.sql_text.specs.declared.Test.{Test}
use Rattle.sql_text.specs.declared.Test.TheVariants as test
use Rattle.sql_text.specs.declared.marks.Mark.{Mark}
use Rattle.sql_text.specs.declared.marks.Mark.TheVariants as mark
use Rattle.sql_text.specs.declared.statements.Cond.{Cond}
use Rattle.sql_text.specs.declared.statements.Order.{Order}
use Rattle.sql_text.specs.declared.statements.Stmt.{Stmt}
use Rattle.sql_text.specs.declared.statements.Stmt.TheVariants.{Begin, Commit, Rollback, Rebuild, Insert, Delete, Select}
use Rattle.sql_text.specs.declared.statements.What.{What}
use Rattle.sql_text.specs.declared.statements.What.TheVariants.{All, Columns, Count, Min, Max}
use Rattle.sql_text.specs.declared.tokens.Token.{Token}
use Rattle.sql_text.specs.declared.tokens.Token.TheVariants.{Fixed, Named, Number}

-- the elements of a list, each with a mark before it
unfoldable pub joined_after : Mark → List (List Token) → List Token
joined_after mark [] = []
joined_after mark (element ∷ rest) = Fixed mark ∷ (element ++ joined_after mark rest)

-- the elements of a list, with a mark between them
unfoldable pub joined : Mark → List (List Token) → List Token
joined mark [] = []
joined mark (element ∷ rest) = element ++ joined_after mark rest

abbrev pub name_tokens : Name → List Token
name_tokens name = Named name ∷ []

abbrev pub number_tokens : ℕ → List Token
number_tokens number = Number number ∷ []

unfoldable pub test_tokens : Test → List Token
test_tokens (test.Eq n) = Fixed mark.Equal ∷ Number n ∷ []
test_tokens (test.Lt n) = Fixed mark.Less ∷ Number n ∷ []
test_tokens (test.Le n) = Fixed mark.LessEqual ∷ Number n ∷ []
test_tokens (test.Gt n) = Fixed mark.Greater ∷ Number n ∷ []
test_tokens (test.Ge n) = Fixed mark.GreaterEqual ∷ Number n ∷ []
test_tokens (test.Between low high) = Fixed mark.Between ∷ Number low ∷ Fixed mark.And ∷ Number high ∷ []

unfoldable pub cond_tokens : Cond → List Token
cond_tokens cond = Named cond.column ∷ test_tokens cond.test

unfoldable pub where_tokens : List Cond → List Token
where_tokens [] = []
where_tokens (cond ∷ rest) = Fixed mark.Where ∷ joined mark.And (map cond_tokens (cond ∷ rest))

-- rising order is said by ASC or by nothing
unfoldable pub direction_tokens : Bool → Bool → List Token
direction_tokens asc true = Fixed mark.Desc ∷ []
direction_tokens true false = Fixed mark.Asc ∷ []
direction_tokens false false = []

unfoldable pub order_tokens : Bool → Option Order → List Token
order_tokens asc None = []
order_tokens asc (Some order) = Fixed mark.Order ∷ Fixed mark.By ∷ Named order.column ∷ direction_tokens asc order.down

unfoldable pub limit_tokens : Option ℕ → List Token
limit_tokens None = []
limit_tokens (Some limit) = Fixed mark.Limit ∷ Number limit ∷ []

unfoldable pub what_tokens : What → List Token
what_tokens All = Fixed mark.Star ∷ []
what_tokens (Columns names) = joined mark.Comma (map name_tokens names)
what_tokens Count = Fixed mark.Count ∷ Fixed mark.Open ∷ Fixed mark.Star ∷ Fixed mark.Close ∷ []
what_tokens (Min column) = Fixed mark.Min ∷ Fixed mark.Open ∷ Named column ∷ Fixed mark.Close ∷ []
what_tokens (Max column) = Fixed mark.Max ∷ Fixed mark.Open ∷ Named column ∷ Fixed mark.Close ∷ []

-- the tokens of a statement; the flag says whether a rising order is said by ASC
unfoldable pub statement_tokens : Bool → Stmt → List Token
statement_tokens asc Begin = Fixed mark.Begin ∷ []
statement_tokens asc Commit = Fixed mark.Commit ∷ []
statement_tokens asc Rollback = Fixed mark.Rollback ∷ []
statement_tokens asc (Rebuild table column) = Fixed mark.Rebuild ∷ Named table ∷ Fixed mark.Open ∷ Named column ∷ Fixed mark.Close ∷ []
statement_tokens asc (Insert table values) = Fixed mark.Insert ∷ Fixed mark.Into ∷ Named table ∷ Fixed mark.Values ∷ Fixed mark.Open ∷ (joined mark.Comma (map number_tokens values) ++ Fixed mark.Close ∷ [])
statement_tokens asc (Delete table conds) = Fixed mark.Delete ∷ Fixed mark.From ∷ Named table ∷ where_tokens conds
statement_tokens asc (Select what table conds order limit) = Fixed mark.Select ∷ (what_tokens what ++ Fixed mark.From ∷ Named table ∷ (where_tokens conds ++ (order_tokens asc order ++ limit_tokens limit)))

-- at most one semicolon
unfoldable pub end_tokens : Bool → List Token
end_tokens true = Fixed mark.Semicolon ∷ []
end_tokens false = []

-- how a statement is spelled, where there is a choice: with an ASC that says nothing, and with a semicolon
pub record Style : Type 0 where
  pub asc : Bool
  pub semicolon : Bool

unfoldable pub spelling : Style → Stmt → List Token
spelling style s = statement_tokens style.asc s ++ end_tokens style.semicolon

abbrev pub HasSome : {T : Type 0} → List T → Type 0
HasSome [] = ⊥
HasSome (x ∷ rest) = Unit {0}

-- a SELECT of rows lists some columns or all; another has neither an order nor a limit
abbrev pub IsAsked : What → Option Order → Option ℕ → Type 0
IsAsked All order limit = Unit {0}
IsAsked (Columns names) order limit = HasSome names
IsAsked Count order limit = (order ≡ None) × (limit ≡ None)
IsAsked (Min column) order limit = (order ≡ None) × (limit ≡ None)
IsAsked (Max column) order limit = (order ≡ None) × (limit ≡ None)

-- a value that is a statement: an INSERT has some values, and a SELECT asks for something
abbrev pub IsStatement : Stmt → Type 0
IsStatement Begin = Unit {0}
IsStatement Commit = Unit {0}
IsStatement Rollback = Unit {0}
IsStatement (Rebuild table column) = Unit {0}
IsStatement (Insert table values) = HasSome values
IsStatement (Delete table conds) = Unit {0}
IsStatement (Select what table conds order limit) = IsAsked what order limit

-- the tokens spell the statement
pub record Spells (s : Stmt) (tokens : List Token) : Type 0 where
  pub statement : IsStatement s
  pub style : Style
  pub spelled : tokens ≡ spelling style s

-- the spelling of some statement goes on from the tokens
pub record Begins (tokens : List Token) : Type 0 where
  pub rest : List Token
  pub lexical : AreTokens rest
  pub statement : Stmt
  pub spells : Spells statement (tokens ++ rest)

-- where the ninth element of a list begins, in tokens, after so many before the list
abbrev pub ninth_from : ℕ → Mark → List (List Token) → Option ℕ
ninth_from front mark elements = if nat_lt 8 (length elements) then Some (front + length (joined mark (take 8 elements)) + 1) else None

unfoldable pub ninth_in : List Token → Mark → List (List Token) → Option ℕ
ninth_in front mark elements = ninth_from (length front) mark elements

unfoldable pub first_of : Option ℕ → Option ℕ → Option ℕ
first_of (Some place) other = Some place
first_of None other = other

unfoldable pub ninth_column : What → Option ℕ
ninth_column All = None
ninth_column (Columns names) = ninth_in (Fixed mark.Select ∷ []) mark.Comma (map name_tokens names)
ninth_column Count = None
ninth_column (Min column) = None
ninth_column (Max column) = None

unfoldable pub ninth_select : What → List Cond → Option ℕ
ninth_select what conds = first_of (ninth_column what) (ninth_from (4 + length (what_tokens what)) mark.And (map cond_tokens conds))

-- where the first ninth element of a statement begins, in tokens: of the columns of a SELECT, or else of the conditions
unfoldable pub ninth : Stmt → Option ℕ
ninth Begin = None
ninth Commit = None
ninth Rollback = None
ninth (Rebuild table column) = None
ninth (Insert table values) = None
ninth (Delete table conds) = ninth_in (Fixed mark.Delete ∷ Fixed mark.From ∷ Named table ∷ Fixed mark.Where ∷ []) mark.And (map cond_tokens conds)
ninth (Select what table conds order limit) = first_of (ninth_column what) (ninth_in (Fixed mark.Select ∷ (what_tokens what ++ Fixed mark.From ∷ Named table ∷ Fixed mark.Where ∷ [])) mark.And (map cond_tokens conds))
