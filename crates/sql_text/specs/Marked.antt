-- How many tokens elements have, with a mark behind each.
use Rattle.std.specs.Prelude.{ℕ, ◌+◌, List, [], ◌∷◌, length}
use Rattle.sql_text.specs.declared.tokens.Token.{Token}

unfoldable pub marked_len : List (List Token) → ℕ
marked_len [] = 0
marked_len (element ∷ rest) = length element + 1 + marked_len rest
