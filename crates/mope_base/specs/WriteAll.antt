-- How the writing of a whole text ends. The bytes that were written before and after are known or not.
use Rattle.std.specs.Prelude.{◌≡◌, ℕ, Option, ◌<◌, List, ◌++◌, length}
use Rattle.std.specs.Io.KnownBytes.{Appends}

-- a proper front of the text was appended
pub record AppendsFront (old new : Option (List ℕ)) (text : List ℕ) : Type 0 where
  pub taken : List ℕ
  pub rest : List ℕ
  pub whole : taken ++ rest ≡ text
  pub short : 0 < length rest
  pub appended : Appends old new taken
