-- What right words order: a command with the values of its own options.
use Rattle.std.specs.Prelude.{◌≡◌, ◌≤◌, ◌==◌, ◌||◌, ℕ, Bool, true, not, List, [], ◌∷◌, length, codes, Option, None, Some, Ok, is_some, if◌then◌else◌}
use Rattle.std.specs.Fmt.{decimal}
use Rattle.std.specs.List.{list_all, list_any, slice_split}
use Rattle.std.specs.Str.{bytes_eq}
use Rattle.hex.specs.Hex.{decode_of}
use Rattle.mope_base.specs.declared.numbers.Mode.{Mode}
use Rattle.mope_base.specs.declared.numbers.Mode.TheVariants as mode
use Rattle.mope_base.specs.declared.numbers.SessionNo.{SessionNo}
use Rattle.value_cipher.specs.declared.Key.{Key}
use Rattle.command_words.specs.Grammar.{Known, Text, Use, command_name, has, options, spelled, value_of}
use Rattle.command_words.specs.declared.order.Generating.{Generating}
use Rattle.command_words.specs.declared.order.Order.{Order}
use Rattle.command_words.specs.declared.order.Order.TheVariants.{Replay, Plain, Generate}
use Rattle.command_words.specs.declared.order.Replaying.{Replaying}
use Rattle.command_words.specs.declared.order.Schedule.{Schedule}
use Rattle.command_words.specs.declared.order.Schedule.TheVariants.{Round, Listed}

-- the option stands among the uses: with its value, or as a flag
abbrev pub stands : Known → List Use → Bool
stands k uses = if k.takes_value then is_some (value_of k.name uses) else has k.name uses

-- each option that stands is one of these
abbrev pub takes_only : List Text → List Use → Bool
takes_only own uses = list_all (λ k. list_any (λ name. bytes_eq name k.name) own || not (stands k uses)) options

-- the text is 64 hexadecimal digits of either case, which spell the key's bytes, the high digit of each byte first
pub record SpellsKey (digits : Text) (key : Key) : Type 0 where
  pub count : length digits ≡ 64
  pub value : decode_of digits ≡ Ok key.bytes

-- the text is a number in decimal digits without a sign or a leading zero, within both ends
abbrev pub SpellsNumber : ℕ → ℕ → Text → ℕ → Type 0
SpellsNumber low high digits n = (low ≤ n) × (n ≤ high) × (digits ≡ decimal n)

-- the number that an option gives, or another where the option doesn't stand
abbrev pub NumberOr : ℕ → ℕ → ℕ → Option Text → ℕ → Type 0
NumberOr low high other None n = n ≡ other
NumberOr low high other (Some digits) n = SpellsNumber low high digits n

-- the texts are the numbers of these sessions, from 1 to 64
unfoldable pub AreSessions : List Text → List SessionNo → Type 0
AreSessions [] [] = Unit {0}
AreSessions [] (s ∷ sessions) = ⊥
AreSessions (digits ∷ texts) [] = ⊥
AreSessions (digits ∷ texts) (s ∷ sessions) = SpellsNumber 1 64 digits s.0 × AreSessions texts sessions

-- the text is the numbers of these sessions, joined by single commas
abbrev pub SpellsTurns : Text → List SessionNo → Type 0
SpellsTurns text turns = AreSessions (slice_split (λ byte. byte == 44) text) turns

-- the turns that an option gives, or none where the option doesn't stand
abbrev pub TurnsOr : Option Text → List SessionNo → Type 0
TurnsOr None turns = turns ≡ []
TurnsOr (Some text) turns = SpellsTurns text turns

-- the name of a mode
abbrev pub mode_name : Mode → Text
mode_name mode.Ordinary = codes "ordinary"
mode_name mode.SameTime = codes "same-time"

-- the mode that an option names, or the ordinary one where the option doesn't stand
abbrev pub ModeOr : Option Text → Mode → Type 0
ModeOr None m = m ≡ mode.Ordinary
ModeOr (Some text) m = text ≡ mode_name m

-- the text is the word `round`, or the numbers of a list of sessions
abbrev pub SpellsSchedule : Text → Schedule → Type 0
SpellsSchedule text Round = text ≡ codes "round"
SpellsSchedule text (Listed sessions) = SpellsTurns text sessions

-- the schedule that an option gives, or the empty list where the option doesn't stand
abbrev pub ScheduleOr : Option Text → Schedule → Type 0
ScheduleOr None schedule = schedule ≡ Listed []
ScheduleOr (Some text) schedule = SpellsSchedule text schedule

-- the options of the command `replay`
abbrev pub replay_options : List Text
replay_options = codes "key" ∷ codes "first-nonce" ∷ codes "mode" ∷ codes "schedule" ∷ codes "view" ∷ []

-- the command `replay`, with `--key` and other options of its own
pub record IsReplay (uses : List Use) (r : Replaying) : Type 0 where
  pub digits : Text
  pub command : value_of command_name uses ≡ Some (codes "replay")
  pub own : takes_only replay_options uses ≡ true
  pub given : value_of (codes "key") uses ≡ Some digits
  pub spells : SpellsKey digits r.key
  pub first_nonce : NumberOr 0 9223372036854775808 0 (value_of (codes "first-nonce") uses) r.first_nonce
  pub mode : ModeOr (value_of (codes "mode") uses) r.mode
  pub schedule : ScheduleOr (value_of (codes "schedule") uses) r.schedule
  pub view : r.view ≡ has (codes "view") uses

-- the command `plain`, with the option `--turns` or none
pub record IsPlain (uses : List Use) (turns : List SessionNo) : Type 0 where
  pub command : value_of command_name uses ≡ Some (codes "plain")
  pub own : takes_only (codes "turns" ∷ []) uses ≡ true
  pub given : TurnsOr (value_of (codes "turns") uses) turns

-- the options of the command `generate`
abbrev pub generate_options : List Text
generate_options = codes "number" ∷ codes "sessions" ∷ codes "transactions" ∷ codes "mode" ∷ codes "text" ∷ []

-- the command `generate` with `--number`, and with other options of its own
pub record IsGenerate (uses : List Use) (g : Generating) : Type 0 where
  pub command : value_of command_name uses ≡ Some (codes "generate")
  pub own : takes_only generate_options uses ≡ true
  pub digits : Text
  pub number_given : value_of (codes "number") uses ≡ Some digits
  pub number_is : SpellsNumber 0 18446744073709551615 digits g.number
  pub sessions_given : NumberOr 1 64 4 (value_of (codes "sessions") uses) g.sessions
  pub transactions_given : NumberOr 1 1000 50 (value_of (codes "transactions") uses) g.transactions
  pub mode : ModeOr (value_of (codes "mode") uses) g.mode
  pub as_text : g.text ≡ has (codes "text") uses

abbrev pub IsOrder : List Use → Order → Type 0
IsOrder uses (Replay r) = IsReplay uses r
IsOrder uses (Plain turns) = IsPlain uses turns
IsOrder uses (Generate g) = IsGenerate uses g

-- the words are right and order this
pub record AreWords (words : List Text) (order : Order) : Type 0 where
  pub uses : List Use
  pub spelled_uses : spelled options words ≡ Some uses
  pub ordered : IsOrder uses order

-- the words order nothing
abbrev pub AreNoWords : List Text → Type 0
AreNoWords words = (order : Order) → ¬ AreWords words order

-- words have one order at most
abbrev pub WordsHaveOneOrder : Type 0
WordsHaveOneOrder = (words : List Text) (first second : Order) → AreWords words first → AreWords words second → first ≡ second
