-- The program's own command: what clap faults and finds on all words of a command line.
use Rattle.std.proofs.Common.{◌≡◌, ◌∙◌, Bool, true, false, List, [], ◌∷◌, Option, Some, None, is_some, refl, sym, ap, ap₂, subst, inl, inr, cond, ◌&&◌, ◌||◌, option_map}
use Rattle.std.specs.Prelude.{String, find, option_and_then, slice_get}
use Rattle.std.specs.Str.{bytes_eq}
use Rattle.std.specs.List.{list_any}
use Rattle.std.proofs.lemmas.Str.{IsUtf8-string_bytes}
use Rattle.clap.specs.Kinds.{HasKind, IsAmong, Kinds}
use Rattle.clap.specs.Faults.{fault_of, is_simple_and_free, level_fault}
use Rattle.clap.specs.Walk.{Row, first_of, nothing_held}
use Rattle.clap.specs.Simple.{App, HasMatchesOf, app_of, built, is_simple, matches_of, with_rule}
use Rattle.clap.specs.Built.{AddsArg}
use Rattle.clap.specs.Matches.{first_value, found_of, matched_of}
use Rattle.clap.specs.Values.{kind_of}
use Rattle.clap.specs.Walk.{Rule, rule_of}
use Rattle.clap.specs.declared.builder.arg.Arg.{Arg}
use Rattle.clap.specs.declared.builder.command.Command.{Command}
use Rattle.clap.specs.declared.error.Error.{Error}
use Rattle.clap.specs.declared.error.kind.ErrorKind.TheVariants.{OutOfMemory}
use Rattle.clap.specs.declared.parser.matches.ArgMatches.{ArgMatches}
use Rattle.clap.proofs.WalkLemmas.{find-map, find_row, first_value-rows}
use Rattle.clap.proofs.FaultLemmas.{leaf_fault}
use Rattle.command_words.specs.Grammar.{Text, Use, command_name, distinct, find_known, has, once, options, spelled, texts, uses_of, value_of}
use Rattle.command_words.specs.Giving.{Finds, program_asked, row_for, rows_for, values_listed}
use Rattle.command_words.proofs.UseLemmas.{with}
use Rattle.command_words.proofs.RuleLemmas.{IsFault, shape_for}
use Rattle.command_words.proofs.StepLemmas.{nothing}
use Rattle.command_words.proofs.WalkLemmas.{Agrees, EachUtf8, agrees}

pub each_utf8 : {A : Type 0} (words : List (String A)) → EachUtf8 (texts words)
each_utf8 [] = tt
each_utf8 (word ∷ words) = (IsUtf8-string_bytes word, each_utf8 words)

no_option_is_command : find_known options command_name ≡ None
no_option_is_command = refl

built_is : (built program_asked).top ≡ shape_for options
built_is = refl

pub program_is_simple : is_simple program_asked ≡ true
program_is_simple = refl

pub program_is_free : is_simple_and_free program_asked ≡ true
program_is_free = refl

with_nothing : (m : Option (List Use)) → with [] m ≡ m
with_nothing None = refl
with_nothing (Some uses) = refl

pub agrees_program : (words : List Text) → EachUtf8 words → Agrees (fault_of program_asked words) (matches_of program_asked words) (uses_of options false None words)
unfolding distinct
agrees_program words valid =
    subst (λ (k : Kinds). Agrees k (matches_of program_asked words) (uses_of options false None words)) (sym (leaf_fault (built program_asked) nothing_held words refl))
    (subst (λ (m : Option (List Use)). Agrees (level_fault (shape_for options) [] nothing_held words false []) (matches_of program_asked words) m) (with_nothing (uses_of options false None words))
    (agrees options no_option_is_command words valid false false [] nothing tt tt refl refl))

-- ---- building the command

pub adds : (old new : Command) (a : Arg) (app : App) (r : Rule) → AddsArg old a new → a.global ≡ false → app_of old ≡ app → rule_of a ≡ r → app_of new ≡ with_rule app r
adds old new a app r added local is rule = added.shape local ∙ ap₂ with_rule is rule

-- ---- what a parse of the program's command gives

no_fault : (k : Kinds) → k ≡ [] → IsFault k → ⊥
no_fault [] e wrong = wrong
no_fault (k ∷ ks) e wrong = subst IsFault e wrong

pub finds_in : (app : App) (words : List Text) (m : ArgMatches) → app ≡ program_asked → EachUtf8 words → HasMatchesOf app words m
    → (is_simple_and_free app ≡ true → fault_of app words ≡ []) → Finds words m
finds_in app words m is valid matches kinds = go (uses_of options false None words) refl (agrees_program words valid)
  where
    none : fault_of program_asked words ≡ []
    none = ap (λ (a : App). fault_of a words) (sym is) ∙ kinds (ap is_simple_and_free is ∙ program_is_free)

    go : (o : Option (List Use)) → uses_of options false None words ≡ o → Agrees (fault_of program_asked words) (matches_of program_asked words) o → Finds words m
    go None e wrong = absurd (no_fault _ none wrong)
    go (Some all) e (inl (passes, rows, d)) = record {
      uses = all;
      uses_are = e;
      each_once = d;
      rows = (matches (ap is_simple is ∙ program_is_simple)).0 ∙ (ap (λ (a : App). matches_of a words) is ∙ rows);
    }
    go (Some all) e (inr (wrong, again)) = absurd (no_fault _ none wrong)

pub refuses_in : (app : App) (words : List Text) (e : Error) → app ≡ program_asked → EachUtf8 words → (kind_of e ≡ OutOfMemory → ⊥)
    → (is_simple_and_free app ≡ true → HasKind (fault_of app words) e) → spelled options words ≡ None
refuses_in app words e is valid memory kinds = go (uses_of options false None words) (agrees_program words valid)
  where
    among : IsAmong (kind_of e) (fault_of program_asked words)
    among = elim (subst (λ (a : App). HasKind (fault_of a words) e) is (kinds (ap is_simple_and_free is ∙ program_is_free))) [ inl m ↦ absurd (memory m) | inr h ↦ h ]

    nowhere : (k : Kinds) → k ≡ [] → IsAmong (kind_of e) k → ⊥
    nowhere k is_nil h = subst (λ (l : Kinds). IsAmong (kind_of e) l) is_nil h

    go : (o : Option (List Use)) → Agrees (fault_of program_asked words) (matches_of program_asked words) o → once o ≡ None
    go None wrong = refl
    go (Some all) (inl (passes, rows, d)) = absurd (nowhere _ passes among)
    go (Some all) (inr (wrong, again)) = ap (λ b. cond (b && is_some (value_of command_name all)) (Some all) None) again

-- ---- reading the matches

first_listed : (id : Text) (uses : List Use) → first_of id (rows_for uses) ≡ value_of id uses
first_listed id uses =
    ap (option_and_then (λ (r : Row). slice_get r.values 0)) (sym (find-map (λ r. bytes_eq r.id id) row_for uses)) ∙ go (find (λ u. bytes_eq u.0 id) uses)
  where
    first : (v : Option Text) → slice_get (values_listed v) 0 ≡ v
    first None = refl
    first (Some v) = refl

    go : (o : Option Use) → option_and_then (λ (r : Row). slice_get r.values 0) (option_map row_for o) ≡ option_and_then (λ (u : Use). u.1) o
    go None = refl
    go (Some u) = first u.1

pub value_found : (words : List Text) (m : ArgMatches) (f : Finds words m) (id : Text) → first_value (found_of m) id ≡ value_of id f.uses
value_found words m f id = first_value-rows (found_of m) id ∙ (ap (first_of id) f.rows ∙ first_listed id f.uses)

some_found : {X : Type 0} (p : X → Bool) (xs : List X) → is_some (find p xs) ≡ list_any p xs
some_found p [] = refl
some_found p (x ∷ xs) = go (p x) (some_found p xs)
  where
    go : (b : Bool) → is_some (find p xs) ≡ list_any p xs → is_some (cond b (Some x) (find p xs)) ≡ (b || list_any p xs)
    go true rest = refl
    go false rest = rest

some_mapped : {X Y : Type 0} (f : X → Y) (o : Option X) → is_some (option_map f o) ≡ is_some o
some_mapped f None = refl
some_mapped f (Some x) = refl

pub flag_found : (words : List Text) (m : ArgMatches) (f : Finds words m) (id : Text) → is_some (matched_of (found_of m) id) ≡ has id f.uses
flag_found words m f id =
    some_mapped _ (find (λ e. bytes_eq e.0.now id) (found_of m).entries.items)
    ∙ (sym (some_mapped _ (find (λ e. bytes_eq e.0.now id) (found_of m).entries.items))
    ∙ (ap (λ o. is_some o) (sym (find_row (found_of m).entries.items id))
    ∙ (ap (λ (rows : List Row). is_some (find (λ r. bytes_eq r.id id) rows)) f.rows
    ∙ (ap (λ o. is_some o) (sym (find-map (λ r. bytes_eq r.id id) row_for f.uses))
    ∙ (some_mapped row_for (find (λ u. bytes_eq u.0 id) f.uses) ∙ some_found (λ u. bytes_eq u.0 id) f.uses)))))

pub spelled_once : (words : List Text) (m : ArgMatches) (f : Finds words m) → is_some (value_of command_name f.uses) ≡ true → spelled options words ≡ Some f.uses
spelled_once words m f command =
    ap once f.uses_are ∙ ap₂ (λ b c. cond (b && c) (Some f.uses) None) f.each_once command

pub no_command : (words : List Text) (m : ArgMatches) (f : Finds words m) → value_of command_name f.uses ≡ None → spelled options words ≡ None
no_command words m f none =
    ap once f.uses_are ∙ ap₂ (λ (b : Bool) (v : Option Text). cond (b && is_some v) (Some f.uses) None) f.each_once none
