-- The text of a workload that is drawn from a number. The same number gives the same text.
use Rattle.std.specs.Prelude.{ℕ, zero, suc, ◌+◌, ◌*◌, ◌/◌, ◌%◌, ◌^◌, nat_eq, nat_lt, true, List, [], ◌∷◌, ◌++◌, map, Some, None, codes, if◌then◌else◌}
use Rattle.sql_text.specs.Canonical.{canonical}
use Rattle.sql_text.specs.declared.Name.{Name}
use Rattle.sql_text.specs.declared.Test.{Test}
use Rattle.sql_text.specs.declared.Test.TheVariants as test
use Rattle.sql_text.specs.declared.statements.Cond.{Cond}
use Rattle.sql_text.specs.declared.statements.Stmt.{Stmt}
use Rattle.sql_text.specs.declared.statements.Stmt.TheVariants as stmt
use Rattle.sql_text.specs.declared.statements.What.{What}
use Rattle.sql_text.specs.declared.statements.What.TheVariants as what
use Rattle.workload_file.specs.declared.draws.Draft.{Draft}

-- the state after a draw
unfoldable pub next_state : ℕ → ℕ
next_state x = (x * 6364136223846793005 + 1442695040888963407) % 2 ^ 64

-- the number below another that a draw gives, from the state after it
unfoldable pub drawn : ℕ → ℕ → ℕ
drawn below x = x / 2 ^ 33 % below

-- the table and its columns
abbrev pub g : Name
g = record { bytes = codes "g" }

abbrev pub a : Name
a = record { bytes = codes "a" }

abbrev pub b : Name
b = record { bytes = codes "b" }

abbrev pub where_is : Name → Test → List Cond
where_is column test = record { column = column; test = test } ∷ []

-- a SELECT of one value or of a count, of the rows that meet one test
abbrev pub select_where : What → Name → Test → Stmt
select_where w column test = stmt.Select w g (where_is column test) None None

-- INSERT INTO g VALUES (p, q)
unfoldable pub insert_of : ℕ → ℕ → Stmt
insert_of p q = stmt.Insert g (p ∷ q ∷ [])

-- SELECT COUNT(*) FROM g WHERE a BETWEEN p AND q
unfoldable pub count_between : ℕ → ℕ → Stmt
count_between p q = select_where what.Count a (test.Between p q)

-- SELECT a, b FROM g WHERE a >= p ORDER BY b DESC LIMIT 5
unfoldable pub greatest_five : ℕ → Stmt
greatest_five p = stmt.Select (what.Columns (a ∷ b ∷ [])) g (where_is a (test.Ge p)) (Some (record { column = b; down = true })) (Some 5)

-- SELECT MIN(b) FROM g WHERE a < p
unfoldable pub least_below : ℕ → Stmt
least_below p = select_where (what.Min b) a (test.Lt p)

-- DELETE FROM g WHERE a = p
unfoldable pub delete_of : ℕ → Stmt
delete_of p = stmt.Delete g (where_is a (test.Eq p))

-- SELECT COUNT(*) FROM g WHERE b > q
unfoldable pub count_above : ℕ → Stmt
count_above q = select_where what.Count b (test.Gt q)

-- REBUILD g (a)
unfoldable pub rebuild : Stmt
rebuild = stmt.Rebuild g a

-- statements after one draw below 1000
abbrev pub by_one : (ℕ → List Stmt) → ℕ → Draft
by_one script x = record { statements = script (drawn 1000 (next_state x)); state = next_state x }

-- statements after a draw below 1000 and then one below another number
abbrev pub by_two : ℕ → (ℕ → ℕ → List Stmt) → ℕ → Draft
by_two below script x = record {
  statements = script (drawn 1000 (next_state x)) (drawn below (next_state (next_state x)));
  state = next_state (next_state x);
}

-- a transaction of a kind from 0 to 15, from the state before its own draws
unfoldable pub of_kind : ℕ → ℕ → Draft
of_kind kind x =
    if nat_lt kind 8 then by_two 1000000 (λ p q. insert_of p q ∷ []) x
    else if nat_lt kind 10 then by_two 1000 (λ p q. count_between p q ∷ []) x
    else if nat_eq kind 10 then by_one (λ p. greatest_five p ∷ []) x
    else if nat_eq kind 11 then by_one (λ p. least_below p ∷ []) x
    else if nat_eq kind 12 then by_one (λ p. delete_of p ∷ []) x
    else if nat_lt kind 15 then by_two 1000000 (λ p q. stmt.Begin ∷ insert_of p q ∷ count_above q ∷ stmt.Commit ∷ []) x
    else record { statements = rebuild ∷ []; state = x }

-- a transaction: its kind is drawn first
unfoldable pub transaction : ℕ → Draft
transaction x = of_kind (drawn 16 (next_state x)) (next_state x)

unfoldable pub behind : List Stmt → Draft → Draft
behind front later = record { statements = front ++ later.statements; state = later.state }

-- so many transactions, each from the state that the one before it left
unfoldable pub transactions_of : ℕ → ℕ → Draft
transactions_of zero x = record { statements = []; state = x }
transactions_of (suc n) x = behind (transaction x).statements (transactions_of n (transaction x).state)

-- each line ends with a line feed
unfoldable pub text_of_lines : List (List ℕ) → List ℕ
text_of_lines [] = []
text_of_lines (line ∷ lines) = line ++ 10 ∷ text_of_lines lines

-- a session of so many transactions
unfoldable pub session_lines : Draft → List (List ℕ)
session_lines script = codes "SESSION" ∷ map canonical script.statements

-- so many sessions, each from the state that the one before it left
unfoldable pub sessions_lines : ℕ → ℕ → ℕ → List (List ℕ)
sessions_lines zero transactions x = []
sessions_lines (suc n) transactions x =
    session_lines (transactions_of transactions x) ++ sessions_lines n transactions (transactions_of transactions x).state

-- the lines that are drawn from a number
unfoldable pub generated_lines : ℕ → ℕ → ℕ → List (List ℕ)
generated_lines number sessions transactions =
    codes "mope 1" ∷ codes "TABLE g (a, b)" ∷ (sessions_lines sessions transactions number ++ codes "END" ∷ [])

-- their text
unfoldable pub generated : ℕ → ℕ → ℕ → List ℕ
generated number sessions transactions = text_of_lines (generated_lines number sessions transactions)
