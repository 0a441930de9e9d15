-- The grammar of the words of a command line: one command and options in any order. An option is `--name` or `--name=value`,
-- or `--name` and its value in the word after it. After the word `--` no word is an option.
use Rattle.std.specs.Prelude.{◌==◌, ◌&&◌, ℕ, Bool, true, false, not, List, [], ◌∷◌, map, codes, Option, Some, None}
use Rattle.std.specs.Prelude.{if◌then◌else◌, find, option_and_then, is_some, String}
use Rattle.std.specs.List.{list_any, before_first, after_first}
use Rattle.std.specs.Str.{bytes_eq}
use Rattle.std.specs.String.{string_bytes}

abbrev pub Text : Type 0
Text = List ℕ

-- the bytes of the words
abbrev pub texts : {A : Type 0} → List (String A) → List Text
texts words = map (λ word. string_bytes word) words

-- ---- one word

pub data Word : Type 0 where
  -- `--`
  end_of_options : Word
  -- `--name` or `--name=value`
  option : Text → Option Text → Word
  -- a hyphen and more, which is no option
  stray : Word
  -- any other word, and `-` alone
  plain : Word

-- the byte is `=`
abbrev pub is_equals : ℕ → Bool
is_equals byte = byte == 61

-- what follows the first `=`
abbrev pub value_in : Text → Option Text
value_in text = if list_any is_equals text then Some (after_first is_equals text) else None

-- a word by what follows two hyphens
abbrev pub after_two_hyphens : Text → Word
after_two_hyphens [] = end_of_options
after_two_hyphens (x ∷ xs) = option (before_first is_equals (x ∷ xs)) (value_in (x ∷ xs))

-- a word by what follows one hyphen
abbrev pub after_hyphen : Text → Word
after_hyphen [] = plain
after_hyphen (x ∷ xs) = if x == 45 then after_two_hyphens xs else stray

abbrev pub word_of : Text → Word
word_of [] = plain
word_of (x ∷ xs) = if x == 45 then after_hyphen xs else plain

-- ---- what words use

-- an option that a program knows, and whether it has a value
pub record Known : Type 0 where
  pub name : Text
  pub takes_value : Bool

-- a use of an option or of the command, by its name, with its value where it has one
abbrev pub Use : Type 0
Use = Text × Option Text

-- the name under which the command stands among the uses
abbrev pub command_name : Text
command_name = codes "command"

abbrev pub find_known : List Known → Text → Option Known
find_known known name = find (λ k. bytes_eq k.name name) known

-- a use before what the rest uses
abbrev pub before : Use → Option (List Use) → Option (List Use)
before u None = None
before u (Some uses) = Some (u ∷ uses)

-- the rest by whether `--` has stood, and by the option that waits for a value
abbrev pub Rest : Type 0
Rest = Bool → Option Text → Option (List Use)

-- an option that the program knows, by whether it has a value and whether one is attached
abbrev pub known_uses : Bool → Text → Option Text → Rest → Option (List Use)
known_uses true name (Some value) rest = before (name, Some value) (rest false None)
known_uses true name None rest = rest false (Some name)
known_uses false name (Some value) rest = None
known_uses false name None rest = before (name, None) (rest false None)

abbrev pub option_uses : Option Known → Option Text → Rest → Option (List Use)
option_uses None value rest = None
option_uses (Some k) value rest = known_uses k.takes_value k.name value rest

-- a word where no option waits for a value
abbrev pub word_uses : List Known → Word → Text → Rest → Option (List Use)
word_uses known end_of_options word rest = rest true None
word_uses known (option name value) word rest = option_uses (find_known known name) value rest
word_uses known stray word rest = None
word_uses known plain word rest = before (command_name, Some word) (rest false None)

-- a word where the option of this name waits for its value
abbrev pub value_uses : Text → Word → Text → Rest → Option (List Use)
value_uses name plain word rest = before (name, Some word) (rest false None)
value_uses name end_of_options word rest = None
value_uses name (option other value) word rest = None
value_uses name stray word rest = None

abbrev pub next_uses : List Known → Bool → Option Text → Text → Rest → Option (List Use)
next_uses known true waits word rest = before (command_name, Some word) (rest true None)
next_uses known false None word rest = word_uses known (word_of word) word rest
next_uses known false (Some name) word rest = value_uses name (word_of word) word rest

-- no option may wait at the end
abbrev pub ends : Option Text → Option (List Use)
ends None = Some []
ends (Some name) = None

-- what the words use, in their order; None where they break a rule
unfoldable pub uses_of : List Known → Bool → Option Text → List Text → Option (List Use)
uses_of known ended waits [] = ends waits
uses_of known ended waits (word ∷ words) = next_uses known ended waits word (λ ended waits. uses_of known ended waits words)

-- ---- each name once, and a command

abbrev pub has : Text → List Use → Bool
has name uses = list_any (λ u. bytes_eq u.0 name) uses

-- no name is used twice
unfoldable pub distinct : List Use → Bool
distinct [] = true
distinct (u ∷ uses) = not (has u.0 uses) && distinct uses

-- the value of a name
abbrev pub value_of : Text → List Use → Option Text
value_of name uses = option_and_then (λ u. u.1) (find (λ u. bytes_eq u.0 name) uses)

abbrev pub once : Option (List Use) → Option (List Use)
once None = None
once (Some uses) = if distinct uses && is_some (value_of command_name uses) then Some uses else None

-- what right words use; None for any other words
abbrev pub spelled : List Known → List Text → Option (List Use)
spelled known words = once (uses_of known false None words)

-- ---- the options of the program

abbrev pub valued : Text → Known
valued name = record { name = name; takes_value = true }

abbrev pub flag : Text → Known
flag name = record { name = name; takes_value = false }

abbrev pub options : List Known
options = valued (codes "key") ∷ valued (codes "first-nonce") ∷ valued (codes "mode") ∷ valued (codes "schedule")
    ∷ valued (codes "turns") ∷ valued (codes "number") ∷ valued (codes "sessions") ∷ valued (codes "transactions")
    ∷ flag (codes "view") ∷ flag (codes "text") ∷ []
