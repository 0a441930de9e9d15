-- Where the rest of a line leads.
use Rattle.std.specs.Prelude.{ℕ, List, Option, Some, None, Result, Ok, Err, slice_get}
use Rattle.std.specs.Option.{option_map}
use Rattle.sql_text.specs.Lexing.{Placed, Fault}
use Rattle.sql_text.specs.Machine.{drive}
use Rattle.sql_text.specs.declared.states.State.{State}

-- where tokens without a fault lead from a state
unfoldable pub driven : State → Result (List Placed) Fault → Option (Result State ℕ)
driven st (Ok tokens) = Some (drive st tokens)
driven st (Err fault) = None

-- the place of the token with a number, in tokens without a fault
unfoldable pub place_in : ℕ → Result (List Placed) Fault → Option ℕ
place_in number (Ok tokens) = option_map (λ p. p.at) (slice_get tokens number)
place_in number (Err fault) = None
