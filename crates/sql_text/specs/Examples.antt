-- Worked examples of tokens, faults and canonical lines.
use Rattle.std.specs.Prelude.{◌≡◌, ℕ, true, false, List, [], ◌∷◌, Option, Some, None, Ok, Err, codes}
use Rattle.sql_text.specs.Canonical.{canonical}
use Rattle.sql_text.specs.Grammar.{spelling}
use Rattle.sql_text.specs.Lexing.{Placed, Fault, tokens_of, first_bad_byte}
use Rattle.sql_text.specs.declared.Name.{Name}
use Rattle.sql_text.specs.declared.marks.Mark.TheVariants as mark
use Rattle.sql_text.specs.declared.parsing.Reason.{Reason}
use Rattle.sql_text.specs.declared.parsing.Reason.TheVariants.{BadToken, TooLarge}
use Rattle.sql_text.specs.declared.statements.Order.{Order}
use Rattle.sql_text.specs.declared.statements.Stmt.TheVariants.{Rebuild, Select}
use Rattle.sql_text.specs.declared.statements.What.TheVariants.{All, Columns, Count}
use Rattle.sql_text.specs.declared.tokens.Token.{Token}
use Rattle.sql_text.specs.declared.tokens.Token.TheVariants.{Fixed, Named, Number}

abbrev pub placed : ℕ → Token → Placed
placed at token = record { at = at; token = token }

abbrev pub fault : ℕ → Reason → Fault
fault at reason = record { at = at; reason = reason }

abbrev pub name : List ℕ → Name
name bytes = record { bytes = bytes }

abbrev pub rising : Option Order
rising = Some (record { column = name (codes "b"); down = false })

pub record WorkedExamples : Type 0 where
  pub any_case : tokens_of (codes " begIN;") ≡ Ok (placed 1 (Fixed mark.Begin) ∷ placed 6 (Fixed mark.Semicolon) ∷ [])
  pub longest_symbol : tokens_of (codes "a<=7") ≡ Ok (placed 0 (Named (name (codes "a"))) ∷ placed 1 (Fixed mark.LessEqual) ∷ placed 3 (Number 7) ∷ [])
  pub greatest : tokens_of (codes "18446744073709551615") ≡ Ok (placed 0 (Number 18446744073709551615) ∷ [])
  pub above_the_greatest : tokens_of (codes "< 18446744073709551616") ≡ Err (fault 2 TooLarge)
  pub zero_in_front : tokens_of (codes "a<=07") ≡ Err (fault 3 BadToken)
  pub letter_behind : tokens_of (codes "= 7a") ≡ Err (fault 2 BadToken)
  pub no_token : tokens_of (codes "a = ?") ≡ Err (fault 4 BadToken)
  pub long_name : tokens_of (codes "a23456789_123456789_123456789_12") ≡ Ok (placed 0 (Named (name (codes "a23456789_123456789_123456789_12"))) ∷ [])
  pub longer_name : tokens_of (codes "a23456789_123456789_123456789_123") ≡ Err (fault 0 BadToken)
  pub bad_byte : first_bad_byte (97 ∷ 9 ∷ 32 ∷ 126 ∷ 127 ∷ 31 ∷ []) ≡ Some 4
  pub rebuild : canonical (Rebuild (name (codes "t")) (name (codes "a"))) ≡ codes "REBUILD t (a)"
  pub count : canonical (Select Count (name (codes "t")) [] None None) ≡ codes "SELECT COUNT(*) FROM t"
  pub columns : canonical (Select (Columns (name (codes "a") ∷ name (codes "b") ∷ [])) (name (codes "t")) [] rising None) ≡ codes "SELECT a, b FROM t ORDER BY b"
  pub two_styles : spelling (record { asc = true; semicolon = true }) (Select All (name (codes "t")) [] rising None) ≡ Fixed mark.Select ∷ Fixed mark.Star ∷ Fixed mark.From ∷ Named (name (codes "t")) ∷ Fixed mark.Order ∷ Fixed mark.By ∷ Named (name (codes "b")) ∷ Fixed mark.Asc ∷ Fixed mark.Semicolon ∷ []
