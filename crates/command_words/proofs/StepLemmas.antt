-- clap's walk over the words, one word at a time, in step with the grammar.
use Rattle.std.proofs.Common.{◌≡◌, ◌⊎◌, ◌∙◌, ◌&&◌, ◌||◌, ℕ, Bool, true, false, List, [], ◌∷◌, ◌++◌, length, Option, Some, None, refl, sym, ap, subst, cond, inl, inr}
use Rattle.std.specs.Prelude.{drop, encode_utf8, ⊤, slice_get, nat_lt}
use Rattle.std.specs.Option.{option_map_or}
use Rattle.std.specs.Str.{bytes_eq, chars}
use Rattle.clap.specs.Lexer.{long_of, short_of}
use Rattle.clap.specs.Walk.{Held, Row, Rule, Waiting, Walk, after_flag, after_step, arg_by_id, arg_by_index, arg_by_long, idle, is_pending, long_met, long_or_other, option_word, pushed, reacted, settled, short_or_plain, next, positional, subcommand_met, subcommand_or_other, to_positional, trailing, used, used_by_id, value, walked}
use Rattle.clap.specs.Walk.{option as walk_option}
use Rattle.clap.specs.Kinds.{Kinds, or_else}
use Rattle.clap.specs.Faults.{bundle_fault, bundle_step_fault, flag_word_fault, flags_fault, long_fault, other_fault, positional_fault, react_fault, settle_fault, short_fault, step_fault, turn_fault, use_fault}
use Rattle.clap.specs.declared.error.kind.ErrorKind.TheVariants as kind
use Rattle.command_words.specs.Grammar.{Known, Text, Use, command_name, distinct}
use Rattle.command_words.specs.Giving.{rows_for, values_listed}
use Rattle.command_words.proofs.UseLemmas.{eq_self, repeats, still_repeats, stays_distinct}
use Rattle.command_words.proofs.WordLemmas.{hyphens}
use Rattle.command_words.proofs.RuleLemmas.{IsFault, Repeats, command_rule, fault_first, flag_use, is_fault, no_second, no_short, rule_with, rules_for, shape_for, used_new, value_use}

-- ---- where the walk stands

-- what is kept of the last word: nothing, an argument with its value, or an option that wants one
pub data Kept : Type 0 where
  nothing : Kept
  full : Text → Text → Kept
  wants : Text → Kept

abbrev pub pending_for : Kept → Option (Text × List Text)
pending_for nothing = None
pending_for (full id v) = Some (id, v ∷ [])
pending_for (wants id) = Some (id, [])

abbrev pub waiting_for : Kept → Waiting
waiting_for nothing = idle
waiting_for (full id v) = idle
waiting_for (wants id) = walk_option id

abbrev pub waits_for : Kept → Option Text
waits_for nothing = None
waits_for (full id v) = None
waits_for (wants id) = Some id

-- the uses so far, with what is kept
abbrev pub all_of : List Use → Kept → List Use
all_of uses nothing = uses
all_of uses (full id v) = uses ++ (id, Some v) ∷ []
all_of uses (wants id) = uses

abbrev pub held_at : List Use → Kept → Held
held_at uses kept = record { rows = rows_for uses; pending = pending_for kept; skip = 0 }

abbrev pub place_at : Bool → ℕ
place_at true = 2
place_at false = 1

abbrev pub walk_at : Bool → Bool → List Use → Kept → Walk
walk_at ended taken uses kept = record {
  held = held_at uses kept;
  waiting = waiting_for kept;
  position = place_at taken;
  is_trailing = ended;
  stopped = None;
}

-- a fault, exactly where the list repeats a name; else clap holds these uses
abbrev pub Settles : Kinds → Held → List Use → Type 0
Settles fault after all = ((fault ≡ []) × (after ≡ held_at all nothing) × (distinct all ≡ true)) ⊎ (IsFault fault × (distinct all ≡ false))

module _ (known : List Known) where
  abbrev pub rules : List Rule
  rules = rules_for known

  -- the id is an argument's that takes one value
  abbrev pub Takes : Text → Type 0
  Takes id = (long : Option Text) × (index : Option ℕ) × (arg_by_id rules id ≡ Some (rule_with id long index 1))

  abbrev pub IsKept : Kept → Type 0
  IsKept nothing = ⊤
  IsKept (full id v) = Takes id
  IsKept (wants id) = Takes id × (bytes_eq id command_name ≡ false)

  -- ---- settling what is kept

  first_use : (uses : List Use) (name : Text) (long : Option Text) (index : Option ℕ) (values : ℕ) (v : Option Text) (fault : Kinds) → distinct uses ≡ true
      → Repeats fault uses name v
      → Settles fault (record { rows = used (rule_with name long index values) (values_listed v) (rows_for uses); pending = None; skip = 0 }) (uses ++ (name, v) ∷ [])
  first_use uses name long index values v fault d (inl (none, new)) =
      inl (none, ap (λ (rows : List Row). record { rows = rows; pending = None; skip = 0 }) (used_new name long index values v uses new), stays_distinct name uses v d new)
  first_use uses name long index values v fault d (inr (wrong, again)) = inr (wrong, repeats name uses v [] again)

  pub settles_nothing : (uses : List Use) → distinct uses ≡ true → Settles (settle_fault rules false (held_at uses nothing)) (settled rules (held_at uses nothing)) uses
  settles_nothing uses d = inl (refl, refl, d)

  pub settles_full : (uses : List Use) (id v : Text) → Takes id → distinct uses ≡ true
      → Settles (settle_fault rules false (held_at uses (full id v))) (settled rules (held_at uses (full id v))) (uses ++ (id, Some v) ∷ [])
  settles_full uses id v (long, index, found) d =
      subst (λ (o : Option Rule). Settles (option_map_or (λ a. use_fault false a (v ∷ []) (rows_for uses)) o []) (record { rows = used_by_id o (v ∷ []) (rows_for uses); pending = None; skip = 0 }) (uses ++ (id, Some v) ∷ []))
      (sym found)
      (first_use uses id long index 1 (Some v) _ d (value_use id long index v uses))

  pub settles_wants : (uses : List Use) (id : Text) → Takes id → IsFault (settle_fault rules false (held_at uses (wants id)))
  settles_wants uses id (long, index, found) = is_fault _ _ (ap (λ (o : Option Rule). option_map_or (λ a. use_fault false a [] (rows_for uses)) o []) found) tt

  -- one more use, after what is kept
  reacts : (h : Held) (all : List Use) (name : Text) (long : Option Text) (index : Option ℕ) (values : ℕ) (v : Option Text)
      → ((uses : List Use) → Repeats (use_fault false (rule_with name long index values) (values_listed v) (rows_for uses)) uses name v)
      → Settles (settle_fault rules false h) (settled rules h) all
      → Settles (react_fault rules false (rule_with name long index values) (values_listed v) h) (reacted rules (rule_with name long index values) (values_listed v) h) (all ++ (name, v) ∷ [])
  reacts h all name long index values v fits (inl (none, after, d)) =
      let a = rule_with name long index values in
      let fault : react_fault rules false a (values_listed v) h ≡ use_fault false a (values_listed v) (rows_for all) =
      λ i. or_else (none i) (use_fault false a (values_listed v) (after i).rows) in
      let held : reacted rules a (values_listed v) h ≡ record { rows = used a (values_listed v) (rows_for all); pending = None; skip = 0 } =
      ap (λ (x : Held). record x { rows = used a (values_listed v) x.rows; pending = None }) after in
      let here = first_use all name long index values v _ d (fits all) in
      subst (λ (k : Kinds). Settles k (reacted rules a (values_listed v) h) (all ++ (name, v) ∷ [])) (sym fault)
      (subst (λ (x : Held). Settles (use_fault false a (values_listed v) (rows_for all)) x (all ++ (name, v) ∷ [])) (sym held) here)
  reacts h all name long index values v fits (inr (wrong, again)) = inr (fault_first _ _ wrong, still_repeats all _ again)

  pub reacts_value : (h : Held) (all : List Use) (name : Text) (long : Option Text) (index : Option ℕ) (v : Text) → Settles (settle_fault rules false h) (settled rules h) all
      → Settles (react_fault rules false (rule_with name long index 1) (v ∷ []) h) (reacted rules (rule_with name long index 1) (v ∷ []) h) (all ++ (name, Some v) ∷ [])
  reacts_value h all name long index v s = reacts h all name long index 1 (Some v) (λ uses. value_use name long index v uses) s

  pub reacts_flag : (h : Held) (all : List Use) (name : Text) (long : Option Text) (index : Option ℕ) → Settles (settle_fault rules false h) (settled rules h) all
      → Settles (react_fault rules false (rule_with name long index 0) [] h) (reacted rules (rule_with name long index 0) [] h) (all ++ (name, None) ∷ [])
  reacts_flag h all name long index s = reacts h all name long index 0 None (λ uses. flag_use name long index uses) s

  -- ---- the turn of one word

  abbrev pub stand : Held → Waiting → ℕ → Bool → Walk
  stand h waiting position ended = record { held = h; waiting = waiting; position = position; is_trailing = ended; stopped = None }

  no_subcommand : (waiting : Waiting) (word : Text) → subcommand_met [] waiting word ≡ None
  no_subcommand idle word = refl
  no_subcommand (walk_option id) word = refl
  no_subcommand positional word = refl

  -- a word before `--`, where no subcommand is met
  abbrev fault_of_word : Option Text → Held → Waiting → ℕ → Text → Kinds
  fault_of_word o h waiting position word =
      or_else (other_fault (shape_for known) o word h)
      (step_fault (shape_for known) position (subcommand_or_other rules o waiting position word h).0 (subcommand_or_other rules o waiting position word h).1)

  abbrev after_word : Option Text → Held → Waiting → ℕ → Text → Walk
  after_word o h waiting position word =
      after_step rules word (stand h waiting position false) (subcommand_or_other rules o waiting position word h).0 (subcommand_or_other rules o waiting position word h).1

  word_turn : (h : Held) (waiting : Waiting) (position : ℕ) (word : Text)
      → turn_fault (shape_for known) [] (stand h waiting position false) word ≡ fault_of_word None h waiting position word
  word_turn h waiting position word = ap (λ o. fault_of_word o h waiting position word) (no_subcommand waiting word)

  word_walked : (h : Held) (waiting : Waiting) (position : ℕ) (word : Text) → walked rules [] (stand h waiting position false) word ≡ after_word None h waiting position word
  unfolding walked
  word_walked h waiting position word = ap (λ o. after_word o h waiting position word) (no_subcommand waiting word)

  abbrev pub Turns : Walk → Text → Kinds → Walk → Type 0
  Turns w word fault then = (turn_fault (shape_for known) [] w word ≡ fault) × (walked rules [] w word ≡ then)

  -- `--`
  pub end_turn : (h : Held) (waiting : Waiting) (position : ℕ) (word : Text) → bytes_eq word hyphens ≡ true
      → Turns (stand h waiting position false) word [] (stand h waiting position true)
  end_turn h waiting position word e = (
    word_turn h waiting position word ∙ (λ i. or_else (cond (e i) [] (flag_word_fault rules false (long_of word) word h))
        (step_fault (shape_for known) position (cond (e i) (h, trailing position) (long_or_other rules waiting word (long_of word) h)).0 (cond (e i) (h, trailing position) (long_or_other rules waiting word (long_of word) h)).1)),
    word_walked h waiting position word ∙ (λ i. after_step rules word (stand h waiting position false)
        (cond (e i) (h, trailing position) (long_or_other rules waiting word (long_of word) h)).0 (cond (e i) (h, trailing position) (long_or_other rules waiting word (long_of word) h)).1),
  )

  -- an option, by the rule of its name
  abbrev pub option_kinds : Option Rule → Held → Waiting → ℕ → Text → Option Text → Kinds
  option_kinds o h waiting position word v = or_else (long_fault rules false o v h)
      (step_fault (shape_for known) position (after_flag rules waiting word (long_met rules o v h).0 (long_met rules o v h).1).0 (after_flag rules waiting word (long_met rules o v h).0 (long_met rules o v h).1).1)

  abbrev pub option_walked : Option Rule → Held → Waiting → ℕ → Text → Option Text → Walk
  option_walked o h waiting position word v = after_step rules word (stand h waiting position false)
      (after_flag rules waiting word (long_met rules o v h).0 (long_met rules o v h).1).0 (after_flag rules waiting word (long_met rules o v h).0 (long_met rules o v h).1).1

  pub option_turn : (h : Held) (waiting : Waiting) (position : ℕ) (word name : Text) (v : Option Text) (o : Option Rule) → bytes_eq word hyphens ≡ false
      → long_of word ≡ Some (name, v) → arg_by_long rules name ≡ o
      → Turns (stand h waiting position false) word (option_kinds o h waiting position word v) (option_walked o h waiting position word v)
  option_turn h waiting position word name v o e l found = (
    word_turn h waiting position word
        ∙ ((λ i. or_else (cond (e i) [] (flag_word_fault rules false (l i) word h))
        (step_fault (shape_for known) position (cond (e i) (h, trailing position) (long_or_other rules waiting word (l i) h)).0 (cond (e i) (h, trailing position) (long_or_other rules waiting word (l i) h)).1))
        ∙ ap (λ r. option_kinds r h waiting position word v) found),
    word_walked h waiting position word
        ∙ ((λ i. after_step rules word (stand h waiting position false)
        (cond (e i) (h, trailing position) (long_or_other rules waiting word (l i) h)).0 (cond (e i) (h, trailing position) (long_or_other rules waiting word (l i) h)).1)
        ∙ ap (λ r. option_walked r h waiting position word v) found),
  )

  -- a plain word, by what a plain word comes to
  abbrev pub plain_kinds : Held → Waiting → ℕ → Text → Kinds
  plain_kinds h waiting position word = step_fault (shape_for known) position (short_or_plain rules waiting word None h).0 (short_or_plain rules waiting word None h).1

  pub plain_turn : (h : Held) (waiting : Waiting) (position : ℕ) (word : Text) → bytes_eq word hyphens ≡ false → long_of word ≡ None → short_of word ≡ None
      → Turns (stand h waiting position false) word (plain_kinds h waiting position word)
      (after_step rules word (stand h waiting position false) (short_or_plain rules waiting word None h).0 (short_or_plain rules waiting word None h).1)
  plain_turn h waiting position word e l s = (
    word_turn h waiting position word
        ∙ ((λ i. or_else (cond (e i) [] (flag_word_fault rules false (l i) word h))
        (step_fault (shape_for known) position (cond (e i) (h, trailing position) (long_or_other rules waiting word (l i) h)).0 (cond (e i) (h, trailing position) (long_or_other rules waiting word (l i) h)).1))
        ∙ ap (λ t. or_else (option_map_or (λ flags. bundle_fault rules false flags h) t [])
        (step_fault (shape_for known) position (short_or_plain rules waiting word t h).0 (short_or_plain rules waiting word t h).1)) s),
    word_walked h waiting position word
        ∙ ((λ i. after_step rules word (stand h waiting position false)
        (cond (e i) (h, trailing position) (long_or_other rules waiting word (l i) h)).0 (cond (e i) (h, trailing position) (long_or_other rules waiting word (l i) h)).1)
        ∙ ap (λ t. after_step rules word (stand h waiting position false) (short_or_plain rules waiting word t h).0 (short_or_plain rules waiting word t h).1) s),
  )

  -- `-x`: no option has a short name
  bundle_refused : (h : Held) (x : ℕ) (xs : Text) (c : ℕ) → slice_get (chars (x ∷ xs)) 0 ≡ Some c → h.skip ≡ 0 → IsFault (bundle_fault rules false (x ∷ xs) h)
  unfolding flags_fault
  bundle_refused h x xs c first none =
      is_fault _ _ (
      (λ i. bundle_step_fault rules false (first i) (x ∷ xs) (none i) (record h { skip = 0 }) (flags_fault rules false (length xs)))
      ∙ ap (λ (o : Option Rule). short_fault rules false o (drop (length (encode_utf8 c)) (x ∷ xs)) (record h { skip = 0 }) (flags_fault rules false (length xs) (drop (length (encode_utf8 c)) (x ∷ xs)) 0)) (no_short known c)
      ) tt

  pub stray_turn : (h : Held) (waiting : Waiting) (position : ℕ) (word : Text) (x : ℕ) (xs : Text) (c : ℕ) → h.skip ≡ 0 → bytes_eq word hyphens ≡ false → long_of word ≡ None
      → short_of word ≡ Some (x ∷ xs) → slice_get (chars (x ∷ xs)) 0 ≡ Some c → IsFault (turn_fault (shape_for known) [] (stand h waiting position false) word)
  stray_turn h waiting position word x xs c none e l s first =
      is_fault _ _ (
      word_turn h waiting position word
      ∙ (λ i. or_else (cond (e i) [] (flag_word_fault rules false (l i) word h))
      (step_fault (shape_for known) position (cond (e i) (h, trailing position) (long_or_other rules waiting word (l i) h)).0 (cond (e i) (h, trailing position) (long_or_other rules waiting word (l i) h)).1))
      ∙ ap (λ t. or_else (option_map_or (λ flags. bundle_fault rules false flags h) t [])
      (step_fault (shape_for known) position (short_or_plain rules waiting word t h).0 (short_or_plain rules waiting word t h).1)) s
      ) (fault_first _ _ (bundle_refused h x xs c first none))

  -- ---- the command

  and_false : (b : Bool) → (b && false) ≡ false
  and_false true = refl
  and_false false = refl

  or_false : (b : Bool) → (b || false) ≡ b
  or_false true = refl
  or_false false = refl

  -- a word for the positional, where the command has not stood
  pub command_fault : (h : Held) → step_fault (shape_for known) 1 h value ≡ settle_fault rules false h
  command_fault h = ap (λ b. cond b [] (settle_fault rules false h)) (and_false (is_pending command_rule h.pending))

  pub command_walked : (h : Held) (ended : Bool) (word : Text) (all : List Use) → settled rules h ≡ held_at all nothing
      → to_positional rules (arg_by_index rules 1) word (stand h idle 1 ended) h ≡ walk_at ended true all (full command_name word)
  command_walked h ended word all after =
      (λ i. stand (pushed command_name word (cond (and_false (is_pending command_rule h.pending) i) h (settled rules h))) idle 2 (or_false ended i))
      ∙ ap (λ (x : Held). stand (pushed command_name word x) idle 2 ended) after

  pub second_command : (h : Held) → IsFault (step_fault (shape_for known) 2 h value)
  second_command h = is_fault _ _ (ap (λ o. option_map_or (λ a. positional_fault rules false a h) o (kind.UnknownArgument ∷ [])) (no_second known)) tt

  -- the awaited value of an option
  pub value_pushed : (uses : List Use) (id word : Text) → Takes id
      → (short_or_plain rules (walk_option id) word None (held_at uses (wants id)) ≡ (held_at uses (full id word), next idle))
  value_pushed uses id word (long, index, found) =
      ap (λ o. ((option_word o id word (held_at uses (wants id))).0, next (option_word o id word (held_at uses (wants id))).1)) found
      ∙ ap (λ b. (held_at uses (full id word), next (cond (nat_lt (cond b 1 0) 1) (walk_option id) idle))) (eq_self id)
