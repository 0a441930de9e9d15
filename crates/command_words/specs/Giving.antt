-- How the words of a command line come through clap: the command that is handed to it, and the words that it gives back.
use Rattle.std.specs.Prelude.{◌≡◌, Bool, true, false, List, [], ◌∷◌, map, codes, Option, Some, None, option_map}
use Rattle.std.specs.Borrow.{Bor}
use Rattle.clap.specs.Walk.{Row, Rule, rows_of}
use Rattle.clap.specs.Simple.{App, new_rule, new_shape}
use Rattle.clap.specs.Matches.{found_of}
use Rattle.clap.specs.declared.builder.action.ArgAction.TheVariants.{Set}
use Rattle.clap.specs.declared.builder.range.ValueRange.{ValueRange}
use Rattle.clap.specs.declared.builder.value_parser.Reading.TheVariants.{AsWritten}
use Rattle.clap.specs.declared.parser.matches.ArgMatches.{ArgMatches}
use Rattle.clap.specs.declared.parser.matches.ValueSource.TheVariants.{CommandLine}
use Rattle.command_words.specs.Grammar.{Known, Text, Use, command_name, distinct, has, options, spelled, uses_of, value_of}
use Rattle.command_words.specs.declared.given.Given.{Given}

-- ---- what clap is asked

-- a flag takes no value; clap itself gives each other option one
abbrev pub range_asked : Bool → Option ValueRange
range_asked true = None
range_asked false = Some (record { start_inclusive = 0; end_inclusive = 0 })

abbrev pub option_asked : Known → Rule
option_asked k = record (new_rule k.name) { long = Some k.name; action = Some Set; range = range_asked k.takes_value }

abbrev pub command_asked : Rule
command_asked = record (new_rule command_name) { action = Some Set }

-- the command, and no name of a program, no help and no version
abbrev pub program_asked : App
program_asked = record {
  top = record (new_shape (codes "mope")) {
    rules = command_asked ∷ map option_asked options;
    no_binary_name = true;
    disable_help_flag = true;
  };
  subs = [];
}

-- ---- what clap gives back

abbrev pub values_listed : Option Text → List Text
values_listed None = []
values_listed (Some v) = v ∷ []

abbrev pub row_for : Use → Row
row_for u = record {
  id = u.0;
  values = values_listed u.1;
  count = None;
  source = Some CommandLine;
  reading = AsWritten;
}

abbrev pub rows_for : List Use → List Row
rows_for = map row_for

-- clap found the uses of these words, each name once
pub record Finds (words : List Text) (m : ArgMatches) : Type 0 where
  pub uses : List Use
  pub uses_are : uses_of options false None words ≡ Some uses
  pub each_once : distinct uses ≡ true
  pub rows : rows_of (found_of m) ≡ rows_for uses

abbrev pub text_of : Option (Bor Text) → Option Text
text_of = option_map (λ s. s.now)

-- the fields are the values of their names, and whether the flags stand
pub record IsGiven (given : Given) (uses : List Use) : Type 0 where
  pub command : value_of command_name uses ≡ Some given.command.now
  pub key : text_of given.key ≡ value_of (codes "key") uses
  pub first_nonce : text_of given.first_nonce ≡ value_of (codes "first-nonce") uses
  pub mode : text_of given.mode ≡ value_of (codes "mode") uses
  pub schedule : text_of given.schedule ≡ value_of (codes "schedule") uses
  pub turns : text_of given.turns ≡ value_of (codes "turns") uses
  pub number : text_of given.number ≡ value_of (codes "number") uses
  pub sessions : text_of given.sessions ≡ value_of (codes "sessions") uses
  pub transactions : text_of given.transactions ≡ value_of (codes "transactions") uses
  pub view : given.view ≡ has (codes "view") uses
  pub text : given.text ≡ has (codes "text") uses

-- the words are right, and give this
pub record Gives (words : List Text) (given : Given) : Type 0 where
  pub uses : List Use
  pub spelled_uses : spelled options words ≡ Some uses
  pub is_given : IsGiven given uses
