-- What a line gives: a statement, or the first reason why it gives none.
use Rattle.std.specs.Prelude.{◌≡◌, ◌⊎◌, ℕ, List, [], ◌∷◌, ◌++◌, length, Some, None, Result, Ok, Err, slice_get}
use Rattle.sql_text.specs.Grammar.{Spells, Begins, ninth}
use Rattle.sql_text.specs.Lexing.{Placed, tokens_of, first_bad_byte, bare}
use Rattle.sql_text.specs.declared.parsing.ParseStop.{ParseStop}
use Rattle.sql_text.specs.declared.parsing.ParseStop.TheVariants.{Bad, OutOfMemory}
use Rattle.sql_text.specs.declared.parsing.Reason.{Reason}
use Rattle.sql_text.specs.declared.parsing.Reason.TheVariants.{BadByte, BadToken, TooLarge, Syntax, TooMany}
use Rattle.sql_text.specs.declared.statements.Stmt.{Stmt}

-- every byte of the line may stand in it, and its tokens have no fault
pub record HasTokens (line : List ℕ) (tokens : List Placed) : Type 0 where
  pub allowed : first_bad_byte line ≡ None
  pub lexed : tokens_of line ≡ Ok tokens

-- the tokens of the line spell the statement
pub record IsSpelled (line : List ℕ) (s : Stmt) : Type 0 where
  pub tokens : List Placed
  pub line_tokens : HasTokens line tokens
  pub spells : Spells s (bare tokens)

-- the line spells the statement, which has at most eight conditions and at most eight columns in its list
pub record Gives (line : List ℕ) (s : Stmt) : Type 0 where
  pub tokens : List Placed
  pub line_tokens : HasTokens line tokens
  pub spells : Spells s (bare tokens)
  pub few : ninth s ≡ None

-- the first token fault from the left
pub record IsTokenFault (line : List ℕ) (at : ℕ) (reason : Reason) : Type 0 where
  pub allowed : first_bad_byte line ≡ None
  pub lexed : tokens_of line ≡ Err (record { at = at; reason = reason })

-- the first token that no statement has after the tokens before it
pub record IsWrongToken (tokens : List Placed) (at : ℕ) : Type 0 where
  pub front : List Placed
  pub wrong : Placed
  pub back : List Placed
  pub cut : tokens ≡ front ++ wrong ∷ back
  pub place : wrong.at ≡ at
  pub begun : Begins (bare front)
  pub none : Begins (bare (front ++ wrong ∷ [])) → ⊥

-- a statement is begun, and not ended
pub record IsUnfinished (tokens : List Placed) : Type 0 where
  pub begun : Begins (bare tokens)
  pub none : (s : Stmt) → Spells s (bare tokens) → ⊥

pub record IsSyntaxFault (line : List ℕ) (at : ℕ) : Type 0 where
  pub tokens : List Placed
  pub line_tokens : HasTokens line tokens
  pub fault : IsWrongToken tokens at ⊎ ((at ≡ length line) × IsUnfinished tokens)

-- the line spells a statement, and a token of it begins its first ninth element
pub record IsTooMany (line : List ℕ) (at : ℕ) : Type 0 where
  pub tokens : List Placed
  pub line_tokens : HasTokens line tokens
  pub statement : Stmt
  pub spells : Spells statement (bare tokens)
  pub number : ℕ
  pub many : ninth statement ≡ Some number
  pub element : Placed
  pub found : slice_get tokens number ≡ Some element
  pub place : element.at ≡ at

-- the line gives no statement, and this is the first reason, at this byte
abbrev pub IsFault : List ℕ → ℕ → Reason → Type 0
IsFault line at BadByte = first_bad_byte line ≡ Some at
IsFault line at BadToken = IsTokenFault line at BadToken
IsFault line at TooLarge = IsTokenFault line at TooLarge
IsFault line at Syntax = IsSyntaxFault line at
IsFault line at TooMany = IsTooMany line at

-- a right answer other than a statement: a fault of the line, or want of memory, which has no cause in it
abbrev pub IsStop : List ℕ → ParseStop → Type 0
IsStop line (Bad at reason) = IsFault line at reason
IsStop line OutOfMemory = Unit {0}

-- the statement was read, unless memory did not suffice
abbrev pub IsReadAs : Stmt → Result Stmt ParseStop → Type 0
IsReadAs s (Ok read) = read ≡ s
IsReadAs s (Err stop) = stop ≡ OutOfMemory
