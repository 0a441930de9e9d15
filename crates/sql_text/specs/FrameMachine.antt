-- Reading a frame token by token: what a token makes of what the tokens before it said, or that it can't follow them.
use Rattle.std.specs.Prelude.{ℕ, ◌==◌, List, [], ◌∷◌, ◌++◌, Option, Some, None, Result, Ok, Err, if◌then◌else◌}
use Rattle.sql_text.specs.Lexing.{Placed, Fault, bare}
use Rattle.sql_text.specs.Machine.{is_mark}
use Rattle.sql_text.specs.declared.Name.{Name}
use Rattle.sql_text.specs.declared.frame_steps.Framing.{Framing}
use Rattle.sql_text.specs.declared.frame_steps.Framing.TheVariants as framing
use Rattle.sql_text.specs.declared.frames.Frame.{Frame}
use Rattle.sql_text.specs.declared.frames.Frame.TheVariants as frame
use Rattle.sql_text.specs.declared.marks.Mark.{Mark}
use Rattle.sql_text.specs.declared.marks.Mark.TheVariants as mark
use Rattle.sql_text.specs.declared.tokens.Token.{Token}
use Rattle.sql_text.specs.declared.tokens.Token.TheVariants.{Fixed, Named, Number}

abbrev pub frame_start : Mark → Option Framing
frame_start m = if is_mark m mark.Mope then Some framing.Version else if is_mark m mark.Table then Some framing.Table else if is_mark m mark.Session then Some (framing.Done frame.Session) else if is_mark m mark.End then Some (framing.Done frame.End) else None

abbrev pub frame_mark : Framing → Mark → Option Framing
frame_mark framing.Start m = frame_start m
frame_mark framing.Version m = None
frame_mark framing.Table m = None
frame_mark (framing.Open table) m = if is_mark m mark.Open then Some (framing.Column table []) else None
frame_mark (framing.Column table columns) m = None
frame_mark (framing.More table columns) m = if is_mark m mark.Comma then Some (framing.Column table columns) else if is_mark m mark.Close then Some (framing.Done (frame.Table table columns)) else None
frame_mark (framing.Done frame) m = None

abbrev pub frame_name : Framing → Name → Option Framing
frame_name framing.Start name = None
frame_name framing.Version name = None
frame_name framing.Table name = Some (framing.Open name)
frame_name (framing.Open table) name = None
frame_name (framing.Column table columns) name = Some (framing.More table (columns ++ name ∷ []))
frame_name (framing.More table columns) name = None
frame_name (framing.Done frame) name = None

abbrev pub frame_number : Framing → ℕ → Option Framing
frame_number framing.Start n = None
frame_number framing.Version n = if n == 1 then Some (framing.Done frame.Header) else None
frame_number framing.Table n = None
frame_number (framing.Open table) n = None
frame_number (framing.Column table columns) n = None
frame_number (framing.More table columns) n = None
frame_number (framing.Done frame) n = None

-- what a token makes of a state; none where it can't follow
unfoldable pub frame_step : Framing → Token → Option Framing
frame_step st (Fixed m) = frame_mark st m
frame_step st (Named name) = frame_name st name
frame_step st (Number n) = frame_number st n

unfoldable pub walk_on : Option Framing → (Framing → Option Framing) → Option Framing
walk_on None others = None
walk_on (Some next) others = others next

-- the state after tokens, all of which are taken
unfoldable pub walk : Framing → List Token → Option Framing
walk st [] = Some st
walk st (token ∷ rest) = walk_on (frame_step st token) (λ next. walk next rest)

-- the same for the tokens of a line, none of which is at fault
unfoldable pub walked : Framing → Result (List Placed) Fault → Option Framing
walked st (Ok tokens) = walk st (bare tokens)
walked st (Err fault) = None

-- the frame, where the line may end here
abbrev pub framed : Framing → Option Frame
framed framing.Start = None
framed framing.Version = None
framed framing.Table = None
framed (framing.Open table) = None
framed (framing.Column table columns) = None
framed (framing.More table columns) = None
framed (framing.Done frame) = Some frame
