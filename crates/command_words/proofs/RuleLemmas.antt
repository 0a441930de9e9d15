-- The rules of a command with options that are each used once, and what clap looks up in them.
use Rattle.std.proofs.Common.{◌≡◌, ◌⊎◌, ◌∙◌, ◌&&◌, ◌||◌, ℕ, Bool, true, false, not, List, [], ◌∷◌, ◌++◌, map, Option, Some, None, is_some, refl, sym, ap, subst, cond, inl, inr, true≢false, option_map}
use Rattle.std.specs.Prelude.{codes, find, ⊤}
use Rattle.std.specs.List.{fold, list_any}
use Rattle.std.specs.Str.{bytes_eq}
use Rattle.std.proofs.lemmas.Slice.Eq.{bytes_eq-Decides}
use Rattle.clap.specs.Walk.{Row, Rule, arg_by_id, arg_by_index, arg_by_long, arg_by_short, has_row, more_values, used, with_default, with_values, without}
use Rattle.clap.specs.Simple.{Shape, new_rule, new_shape}
use Rattle.clap.specs.Kinds.{Kinds, or_else}
use Rattle.clap.specs.Faults.{check_fault, defaults_fault, use_fault}
use Rattle.clap.specs.declared.builder.action.ArgAction.TheVariants.{Set}
use Rattle.clap.specs.declared.builder.value_parser.ValueParser.TheVariants as vp
use Rattle.clap.specs.declared.builder.value_parser.Reading.TheVariants.{AsWritten}
use Rattle.clap.specs.declared.error.kind.ErrorKind.TheVariants as kind
use Rattle.clap.specs.declared.parser.matches.ValueSource.TheVariants.{CommandLine}
use Rattle.clap.proofs.WalkLemmas.{find-map, list_any-map}
use Rattle.command_words.specs.Grammar.{Known, Text, Use, command_name, find_known, has}
use Rattle.command_words.specs.Giving.{row_for, rows_for, values_listed}

-- ---- the rules

abbrev pub rule_with : Text → Option Text → Option ℕ → ℕ → Rule
rule_with name long index values = record (new_rule name) {
  long = long;
  index = index;
  action = Some Set;
  range = Some (record { start_inclusive = values; end_inclusive = values });
  parser = Some vp.String;
}

abbrev pub command_rule : Rule
command_rule = rule_with command_name None (Some 1) 1

abbrev pub values_taken : Bool → ℕ
values_taken true = 1
values_taken false = 0

abbrev pub option_rule : Known → Rule
option_rule k = rule_with k.name (Some k.name) None (values_taken k.takes_value)

abbrev pub rules_for : List Known → List Rule
rules_for known = command_rule ∷ map option_rule known

-- the built command
abbrev pub shape_for : List Known → Shape
shape_for known = record (new_shape (codes "mope")) {
  rules = rules_for known;
  no_binary_name = true;
  disable_help_flag = true;
  disable_help_subcommand = true;
  is_built = true;
}

-- ---- looking rules up

pub find_passes : (known : List Known) (name : Text) (k : Known) → find_known known name ≡ Some k → k.name ≡ name
find_passes [] name k e = absurd (none_some e)
  where
    none_some : ◌≡◌ {A = Option Known} None (Some k) → ⊥
    none_some f = true≢false (sym (ap is_some f))
find_passes (x ∷ xs) name k e = go (bytes_eq x.name name) refl (λ f. find_passes xs name k f) e
  where
    unwrapped : Known → Option Known → Known
    unwrapped d None = d
    unwrapped d (Some y) = y

    go : (b : Bool) → bytes_eq x.name name ≡ b → (find_known xs name ≡ Some k → k.name ≡ name) → cond b (Some x) (find_known xs name) ≡ Some k → k.name ≡ name
    go true same rest f = ap (λ o. (unwrapped x o).name) (sym f) ∙ (bytes_eq-Decides x.name name).0 same
    go false same rest f = rest f

pub long_found : (known : List Known) (name : Text) → arg_by_long (rules_for known) name ≡ option_map option_rule (find_known known name)
long_found [] name = refl
long_found (k ∷ ks) name = go (bytes_eq k.name name) (long_found ks name)
  where
    go : (b : Bool) → arg_by_long (rules_for ks) name ≡ option_map option_rule (find_known ks name)
        → cond (b || false) (Some (option_rule k)) (arg_by_long (rules_for ks) name) ≡ option_map option_rule (cond b (Some k) (find_known ks name))
    go true rest = refl
    go false rest = rest

pub no_short : (known : List Known) (c : ℕ) → arg_by_short (rules_for known) c ≡ None
no_short [] c = refl
no_short (k ∷ ks) c = no_short ks c

pub no_second : (known : List Known) → arg_by_index (rules_for known) 2 ≡ None
no_second [] = refl
no_second (k ∷ ks) = no_second ks

-- an option's rule is found by its name, where no option has the command's name
pub id_found : (known : List Known) (name : Text) (k : Known) → find_known known command_name ≡ None → find_known known name ≡ Some k
    → arg_by_id (rules_for known) k.name ≡ Some (option_rule k)
id_found known name k free e =
    ap (λ b. cond b (Some command_rule) (find (λ a. bytes_eq a.id k.name) (map option_rule known))) (other (bytes_eq command_name k.name) refl)
    ∙ (sym (find-map (λ a. bytes_eq a.id k.name) option_rule known) ∙ ap (option_map option_rule) own)
  where
    own : find_known known k.name ≡ Some k
    own = ap (find_known known) (find_passes known name k e) ∙ e

    other : (b : Bool) → bytes_eq command_name k.name ≡ b → bytes_eq command_name k.name ≡ false
    other false same = same
    other true same =
        let is : command_name ≡ k.name = (bytes_eq-Decides command_name k.name).0 same in
        absurd (true≢false (sym (ap is_some (sym free ∙ (ap (find_known known) is ∙ own)))))

-- ---- rows

pub row_stands : (name : Text) (uses : List Use) → has_row name (rows_for uses) ≡ has name uses
row_stands name uses = sym (list_any-map (λ r. bytes_eq r.id name) row_for uses)

pub without_new : (name : Text) (uses : List Use) → has name uses ≡ false → without name (rows_for uses) ≡ rows_for uses
without_new name [] e = refl
without_new name (u ∷ us) e = go (bytes_eq u.0 name) (λ f. without_new name us f) e
  where
    go : (b : Bool) → (has name us ≡ false → without name (rows_for us) ≡ rows_for us) → (b || has name us) ≡ false
        → cond b ([] ++ rows_for us) (row_for u ∷ without name (rows_for us)) ≡ row_for u ∷ rows_for us
    go true rest f = absurd (true≢false f)
    go false rest f = ap (λ rs. row_for u ∷ rs) (rest f)

pub with_new : (name : Text) (v : Option Text) (uses : List Use) → has name uses ≡ false
    → with_values name AsWritten CommandLine (values_listed v) (rows_for uses) ≡ rows_for (uses ++ (name, v) ∷ [])
with_new name v [] e = refl
with_new name v (u ∷ us) e = go (bytes_eq u.0 name) (λ f. with_new name v us f) e
  where
    go : (b : Bool) → (has name us ≡ false → with_values name AsWritten CommandLine (values_listed v) (rows_for us) ≡ rows_for (us ++ (name, v) ∷ []))
        → (b || has name us) ≡ false
        → cond b (more_values CommandLine (values_listed v) (row_for u) ++ rows_for us) (row_for u ∷ with_values name AsWritten CommandLine (values_listed v) (rows_for us))
        ≡ row_for u ∷ rows_for (us ++ (name, v) ∷ [])
    go true rest f = absurd (true≢false f)
    go false rest f = ap (λ rs. row_for u ∷ rs) (rest f)

-- a first use adds its row
pub used_new : (name : Text) (long : Option Text) (index : Option ℕ) (values : ℕ) (v : Option Text) (uses : List Use) → has name uses ≡ false
    → used (rule_with name long index values) (values_listed v) (rows_for uses) ≡ rows_for (uses ++ (name, v) ∷ [])
used_new name long index values None uses e =
    ap (with_values name AsWritten CommandLine []) (without_new name uses e) ∙ with_new name None uses e
used_new name long index values (Some v) uses e =
    ap (with_values name AsWritten CommandLine (v ∷ [])) (without_new name uses e) ∙ with_new name (Some v) uses e

-- ---- faults

abbrev pub IsFault : Kinds → Type 0
IsFault [] = ⊥
IsFault (k ∷ ks) = ⊤

pub fault_first : (a b : Kinds) → IsFault a → IsFault (or_else a b)
fault_first [] b f = absurd f
fault_first (k ∷ ks) b f = f

pub is_fault : (a b : Kinds) → a ≡ b → IsFault b → IsFault a
is_fault a b e f = subst IsFault (sym e) f

-- a use faults exactly where the name has stood
abbrev pub Repeats : Kinds → List Use → Text → Option Text → Type 0
Repeats fault uses name v = ((fault ≡ []) × (has name uses ≡ false)) ⊎ (IsFault fault × (has name uses ≡ true))

abbrev repeat_kinds : Bool → Kinds
repeat_kinds again = or_else (cond (again && true) (kind.ArgumentConflict ∷ []) []) []

by_repeat : (uses : List Use) (name : Text) (v : Option Text) (b : Bool) → has name uses ≡ b → Repeats (repeat_kinds (has_row name (rows_for uses))) uses name v
by_repeat uses name v false e = inl (ap repeat_kinds (row_stands name uses ∙ e), e)
by_repeat uses name v true e = inr (is_fault _ _ (ap repeat_kinds (row_stands name uses ∙ e)) tt, e)

pub value_use : (name : Text) (long : Option Text) (index : Option ℕ) (v : Text) (uses : List Use)
    → Repeats (use_fault false (rule_with name long index 1) (v ∷ []) (rows_for uses)) uses name (Some v)
value_use name long index v uses = by_repeat uses name (Some v) (has name uses) refl

pub flag_use : (name : Text) (long : Option Text) (index : Option ℕ) (uses : List Use)
    → Repeats (use_fault false (rule_with name long index 0) [] (rows_for uses)) uses name None
flag_use name long index uses = by_repeat uses name None (has name uses) refl

-- ---- after the walk

default_kept : (rows : List Row) (k : Known) → with_default rows (option_rule k) ≡ rows
default_kept rows k = go (has_row k.name rows)
  where
    go : (b : Bool) → cond b rows rows ≡ rows
    go true = refl
    go false = refl

defaults_kept : (rows : List Row) (known : List Known) → fold with_default rows (map option_rule known) ≡ rows
defaults_kept rows [] = refl
defaults_kept rows (k ∷ ks) = ap (λ r. fold with_default r (map option_rule ks)) (default_kept rows k) ∙ defaults_kept rows ks

command_kept : (rows : List Row) → with_default rows command_rule ≡ rows
command_kept rows = go (has_row command_name rows)
  where
    go : (b : Bool) → cond b rows rows ≡ rows
    go true = refl
    go false = refl

pub finished_rows : (rows : List Row) (known : List Known) → fold with_default rows (rules_for known) ≡ rows
finished_rows rows known = ap (λ r. fold with_default r (map option_rule known)) (command_kept rows) ∙ defaults_kept rows known

no_default : (rows : List Row) (b : Bool) → ◌≡◌ {A = Kinds} (cond (b || true) [] []) []
no_default rows true = refl
no_default rows false = refl

options_default : (rows : List Row) (known : List Known) → defaults_fault rows (map option_rule known) ≡ []
unfolding defaults_fault
options_default rows [] = refl
options_default rows (k ∷ ks) =
    ap (λ x. or_else x (defaults_fault (with_default rows (option_rule k)) (map option_rule ks))) (no_default rows (has_row k.name rows))
    ∙ options_default (with_default rows (option_rule k)) ks

pub no_defaults : (rows : List Row) (known : List Known) → defaults_fault rows (rules_for known) ≡ []
unfolding defaults_fault
no_defaults rows known =
    ap (λ x. or_else x (defaults_fault (with_default rows command_rule) (map option_rule known))) (no_default rows (has_row command_name rows))
    ∙ options_default (with_default rows command_rule) known

no_required : (rows : List Row) (known : List Known) → list_any (λ a. a.required && not (is_some (find (λ (r : Row). bytes_eq r.id a.id) rows))) (map option_rule known) ≡ false
no_required rows [] = refl
no_required rows (k ∷ ks) = no_required rows ks

pub no_check : (rows : List Row) (known : List Known) → check_fault (shape_for known) rows false ≡ []
no_check rows [] = refl
no_check rows (k ∷ ks) = no_check rows ks
