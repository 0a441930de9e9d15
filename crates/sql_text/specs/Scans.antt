-- Tokens as the program sees them at the front of bytes, without a copy of a name.
use Rattle.std.specs.Prelude.{◌≡◌, ◌<◌, ◌≤◌, ℕ, ◌+◌, Bool, List, length, take, drop, slice_index, Option, Some, None, Result, Ok, Err}
use Rattle.sql_text.specs.Lexing.{Found, Placed, Fault, tokens_from, with_first}
use Rattle.sql_text.specs.Words.{is_blank}
use Rattle.sql_text.specs.declared.parsing.Reason.{Reason}
use Rattle.sql_text.specs.declared.scanning.Kind.{Kind}
use Rattle.sql_text.specs.declared.scanning.Kind.TheVariants as kind
use Rattle.sql_text.specs.declared.scanning.Scan.{Scan}
use Rattle.sql_text.specs.declared.tokens.Token.{Token}
use Rattle.sql_text.specs.declared.tokens.Token.TheVariants.{Fixed, Named, Number}

abbrev pub token_of : Kind → List ℕ → Token
token_of (kind.Fixed mark) text = Fixed mark
token_of kind.Named text = Named (record { bytes = text })
token_of (kind.Number number) text = Number number

abbrev pub seen : List ℕ → Result Scan Reason → Result Found Reason
seen bytes (Ok scan) = Ok (record { token = token_of scan.kind (take scan.size bytes); size = scan.size })
seen bytes (Err reason) = Err reason

-- the tokens of a line from a place on, at which none is still going on
abbrev pub tokens_at : List ℕ → ℕ → Result (List Placed) Fault
tokens_at line at = tokens_from at 0 (drop at line)

abbrev pub fault_of : Result (List Placed) Fault → Option (ℕ × Reason)
fault_of (Ok tokens) = None
fault_of (Err fault) = Some (fault.at, fault.reason)

-- a blank stands at the place
abbrev pub is_blank_at : List ℕ → ℕ → Bool
is_blank_at line at = is_blank (slice_index line at)

-- the token that was seen stands at the place, and then those after it
pub record IsSeen (line : List ℕ) (at : ℕ) (scan : Scan) : Type 0 where
  pub some : 0 < scan.size
  pub within : at + scan.size ≤ length line
  pub tokens : tokens_at line at ≡ with_first (record { at = at; token = token_of scan.kind (take scan.size (drop at line)) }) (tokens_at line (at + scan.size))

-- the token stands at the place and takes so many bytes, or none starts there
pub record IsTokenAt (line : List ℕ) (at : ℕ) (token : Token) (size : ℕ) : Type 0 where
  pub some : 0 < size
  pub within : at + size ≤ length line
  pub tokens : tokens_at line at ≡ with_first (record { at = at; token = token }) (tokens_at line (at + size))

abbrev pub IsNext : List ℕ → ℕ → Option (Token × ℕ) → Type 0
IsNext line at (Some next) = IsTokenAt line at next.0 next.1
IsNext line at None = (fault : Fault) × (tokens_at line at ≡ Err fault)
