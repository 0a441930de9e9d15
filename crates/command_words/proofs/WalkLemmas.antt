-- clap takes the words exactly where the grammar spells them, and then has its uses.
use Rattle.std.proofs.Common.{◌≡◌, ◌⊎◌, ◌∙◌, ◌||◌, Bool, true, false, List, [], ◌∷◌, ◌++◌, Option, Some, None, is_some, refl, sym, ap, ap₂, subst, inl, inr, true≢false, option_map}
use Rattle.std.specs.Prelude.{⊤}
use Rattle.std.specs.List.{fold}
use Rattle.std.specs.Str.{IsUtf8, bytes_eq}
use Rattle.std.proofs.lemmas.List.{append-nil}
use Rattle.std.proofs.lemmas.Slice.Eq.{bytes_eq-Decides}
use Rattle.clap.specs.Walk.{Held, Row, Waiting, Walk, after_step, arg_by_id, arg_by_index, idle, settled, to_positional, value, walked, with_default}
use Rattle.clap.specs.Walk.{option as walk_option}
use Rattle.clap.specs.Kinds.{Kinds, or_else}
use Rattle.clap.specs.Faults.{check_fault, defaults_fault, settle_fault, step_fault, turn_fault, walk_fault}
use Rattle.command_words.specs.Grammar.{Known, Rest, Text, Use, Word, before, command_name, distinct, end_of_options, find_known, has, known_uses, option, option_uses, plain, stray, uses_of, value_uses, word_of, word_uses}
use Rattle.command_words.specs.Giving.{rows_for}
use Rattle.command_words.proofs.UseLemmas.{has-append, has_last, repeats, still_repeats, with, with-before}
use Rattle.command_words.proofs.WordLemmas.{Reads, reads}
use Rattle.command_words.proofs.RuleLemmas.{IsFault, fault_first, find_passes, finished_rows, id_found, is_fault, long_found, no_check, no_defaults, option_rule, rule_with, rules_for, shape_for, values_taken}
use Rattle.command_words.proofs.StepLemmas.{IsKept, Kept, Settles, Takes, Turns, all_of, command_fault, command_walked, end_turn, full, held_at, nothing, option_kinds, option_turn, option_walked, place_at, plain_turn, reacts_flag, reacts_value, second_command, settles_full, settles_nothing, settles_wants, stand, stray_turn, value_pushed, waiting_for, waits_for, walk_at, wants}

-- the texts are UTF-8
abbrev pub EachUtf8 : List Text → Type 0
EachUtf8 [] = ⊤
EachUtf8 (word ∷ words) = IsUtf8 word × EachUtf8 words

-- what clap faults and finds, where the grammar gives this
abbrev pub Agrees : Kinds → List Row → Option (List Use) → Type 0
Agrees fault rows None = IsFault fault
Agrees fault rows (Some all) = ((fault ≡ []) × (rows ≡ rows_for all) × (distinct all ≡ true)) ⊎ (IsFault fault × (distinct all ≡ false))

-- a list that repeats a name already is refused, whatever follows
repeated : (fault : Kinds) (rows : List Row) (all : List Use) (rest : Option (List Use)) → IsFault fault → distinct all ≡ false → Agrees fault rows (with all rest)
repeated fault rows all None wrong again = wrong
repeated fault rows all (Some more) wrong again = inr (wrong, still_repeats all more again)

module _ (known : List Known) (free : find_known known command_name ≡ None) where
  abbrev pub end_kinds : Held → Kinds
  end_kinds end = or_else (settle_fault (rules_for known) false end)
      (or_else (defaults_fault (settled (rules_for known) end).rows (rules_for known))
      (check_fault (shape_for known) (fold with_default (settled (rules_for known) end).rows (rules_for known)) false))

  abbrev pub kinds_from : Walk → List Text → Kinds
  kinds_from w words = or_else (walk_fault (shape_for known) [] w words) (end_kinds (fold (walked (rules_for known) []) w words).held)

  abbrev pub rows_from : Walk → List Text → List Row
  rows_from w words = fold with_default (settled (rules_for known) (fold (walked (rules_for known) []) w words).held).rows (rules_for known)

  -- a word that faults ends it
  stops : (w : Walk) (word : Text) (words : List Text) → IsFault (turn_fault (shape_for known) [] w word) → IsFault (kinds_from w (word ∷ words))
  unfolding walk_fault
  stops w word words wrong = fault_first _ _ (fault_first _ _ wrong)

  -- a word that passes leaves it to the rest
  goes_on : (w after : Walk) (word : Text) (words : List Text) (m : Option (List Use)) → Turns known w word [] after
      → Agrees (kinds_from after words) (rows_from after words) m → Agrees (kinds_from w (word ∷ words)) (rows_from w (word ∷ words)) m
  unfolding walk_fault
  goes_on w after word words m (none, steps) rest =
      subst (λ (k : Kinds). Agrees k (rows_from w (word ∷ words)) m)
      (sym (λ i. or_else (or_else (none i) (walk_fault (shape_for known) [] (steps i) words)) (end_kinds (fold (walked (rules_for known) []) (steps i) words).held)))
      (subst (λ (r : List Row). Agrees (kinds_from after words) r m)
      (sym (ap (λ (x : Walk). rows_from x words) steps)) rest)

  -- a use before the rest is one more in the front
  with_use : (w : Walk) (word : Text) (words : List Text) (all : List Use) (u : Use) (rest : Option (List Use))
      → Agrees (kinds_from w (word ∷ words)) (rows_from w (word ∷ words)) (with (all ++ u ∷ []) rest)
      → Agrees (kinds_from w (word ∷ words)) (rows_from w (word ∷ words)) (with all (before u rest))
  with_use w word words all u rest =
      subst (λ (m : Option (List Use)). Agrees (kinds_from w (word ∷ words)) (rows_from w (word ∷ words)) m) (sym (with-before all u rest))

  -- ---- the end

  ended_settled : (h : Held) (all : List Use) → Settles (settle_fault (rules_for known) false h) (settled (rules_for known) h) all
      → Agrees (end_kinds h) (fold with_default (settled (rules_for known) h).rows (rules_for known)) (Some (all ++ []))
  ended_settled h all (inl (none, after, d)) = inl (
    ap (λ k. or_else k (or_else (defaults_fault (settled (rules_for known) h).rows (rules_for known)) (check_fault (shape_for known) (fold with_default (settled (rules_for known) h).rows (rules_for known)) false))) none
        ∙ (ap (λ k. or_else k (check_fault (shape_for known) (fold with_default (settled (rules_for known) h).rows (rules_for known)) false)) (no_defaults (settled (rules_for known) h).rows known)
        ∙ no_check (fold with_default (settled (rules_for known) h).rows (rules_for known)) known),
    finished_rows (settled (rules_for known) h).rows known ∙ (ap (λ (x : Held). x.rows) after ∙ ap rows_for (sym (append-nil all))),
    ap distinct (append-nil all) ∙ d,
  )
  ended_settled h all (inr (wrong, again)) = inr (fault_first _ _ wrong, still_repeats all [] again)

  -- ---- the rest of the words, from any state

  abbrev Reaches : Bool → Kept → Type 0
  Reaches true (wants id) = ⊥
  Reaches true nothing = ⊤
  Reaches true (full id v) = ⊤
  Reaches false kept = ⊤

  reached : (ended : Bool) (id v : Text) → Reaches ended (full id v)
  reached true id v = tt
  reached false id v = tt

  abbrev pub AgreesFrom : List Text → Type 0
  AgreesFrom words = (ended taken : Bool) (uses : List Use) (kept : Kept) → IsKept known kept → Reaches ended kept → distinct uses ≡ true
      → has command_name (all_of uses kept) ≡ taken
      → Agrees (kinds_from (walk_at ended taken uses kept) words) (rows_from (walk_at ended taken uses kept) words) (with (all_of uses kept) (uses_of known ended (waits_for kept) words))

  abbrev rest_of : List Text → Rest
  rest_of words ended waits = uses_of known ended waits words

  -- ---- a word for the positional

  abbrev Settled : Held → List Use → Type 0
  Settled h all = Settles (settle_fault (rules_for known) false h) (settled (rules_for known) h) all

  abbrev ToPositional : Held → Bool → Bool → Text → Type 0
  ToPositional h ended taken word = Turns known (stand known h idle (place_at taken) ended) word (step_fault (shape_for known) (place_at taken) h value)
      (to_positional (rules_for known) (arg_by_index (rules_for known) (place_at taken)) word (stand known h idle (place_at taken) ended) h)

  command_word : (h : Held) (ended taken : Bool) (word : Text) (words : List Text) (all : List Use) → AgreesFrom words → Settled h all → has command_name all ≡ taken
      → ToPositional h ended taken word
      → Agrees (kinds_from (stand known h idle (place_at taken) ended) (word ∷ words)) (rows_from (stand known h idle (place_at taken) ended) (word ∷ words))
      (with all (before (command_name, Some word) (rest_of words ended None)))
  command_word h ended true word words all rest s t turn =
      with_use (stand known h idle 2 ended) word words all (command_name, Some word) _
      (repeated _ _ _ _ (stops _ word words (is_fault _ _ turn.0 (second_command known h))) (repeats command_name all (Some word) [] t))
  command_word h ended false word words all rest (inr (wrong, again)) t turn =
      repeated _ _ _ _ (stops _ word words (is_fault _ _ (turn.0 ∙ command_fault known h) wrong)) again
  command_word h ended false word words all rest (inl (none, after, d)) t turn =
      with_use (stand known h idle 1 ended) word words all (command_name, Some word) _
      (goes_on (stand known h idle 1 ended) (walk_at ended true all (full command_name word)) word words _ (turn.0 ∙ (command_fault known h ∙ none), turn.1 ∙ command_walked known h ended word all after)
      (rest ended true all (full command_name word) (None, Some 1, refl) (reached ended command_name word) d (has_last command_name all (Some word) [])))

  -- ---- an option

  -- after a use that clap makes at once
  used_word : (w : Walk) (word : Text) (words : List Text) (taken : Bool) (all : List Use) (u : Use) (fault : Kinds) (after : Held) → AgreesFrom words
      → Settles fault after (all ++ u ∷ []) → has command_name (all ++ u ∷ []) ≡ taken
      → Turns known w word (or_else fault []) (stand known after idle (place_at taken) false)
      → Agrees (kinds_from w (word ∷ words)) (rows_from w (word ∷ words)) (with all (before u (rest_of words false None)))
  used_word w word words taken all u fault after rest (inl (none, held, d)) t turn =
      with_use w word words all u _
      (goes_on w (walk_at false taken (all ++ u ∷ []) nothing) word words _
      (turn.0 ∙ ap (λ k. or_else k []) none, turn.1 ∙ ap (λ (x : Held). stand known x idle (place_at taken) false) held)
      (rest false taken (all ++ u ∷ []) nothing tt tt d t))
  used_word w word words taken all u fault after rest (inr (wrong, again)) t turn =
      with_use w word words all u _
      (repeated _ _ _ _ (stops w word words (is_fault _ _ turn.0 (fault_first _ _ wrong))) again)

  not_command : (all : List Use) (name : Text) (v : Option Text) (taken : Bool) → bytes_eq name command_name ≡ false → has command_name all ≡ taken
      → has command_name (all ++ (name, v) ∷ []) ≡ taken
  not_command all name v taken other t = has-append command_name all ((name, v) ∷ []) ∙ (ap₂ (λ a b. a || (b || false)) t other ∙ or_false taken)
    where
      or_false : (b : Bool) → (b || false) ≡ b
      or_false true = refl
      or_false false = refl

  known_word : (h : Held) (taken : Bool) (word : Text) (words : List Text) (all : List Use) (name : Text) (takes : Bool) (v : Option Text) → AgreesFrom words → Settled h all
      → has command_name all ≡ taken → bytes_eq name command_name ≡ false → arg_by_id (rules_for known) name ≡ Some (rule_with name (Some name) None (values_taken takes))
      → Turns known (stand known h idle (place_at taken) false) word (option_kinds known (Some (rule_with name (Some name) None (values_taken takes))) h idle (place_at taken) word v)
      (option_walked known (Some (rule_with name (Some name) None (values_taken takes))) h idle (place_at taken) word v)
      → Agrees (kinds_from (stand known h idle (place_at taken) false) (word ∷ words)) (rows_from (stand known h idle (place_at taken) false) (word ∷ words))
      (with all (known_uses takes name v (rest_of words)))
  known_word h taken word words all name true (Some v) rest s t other found turn =
      used_word _ word words taken all (name, Some v) _ _ rest (reacts_value known h all name (Some name) None v s) (not_command all name (Some v) taken other t) turn
  known_word h taken word words all name true None rest (inl (none, after, d)) t other found turn =
      goes_on _ (walk_at false taken all (wants name)) word words _
      (turn.0 ∙ ap (λ k. or_else k []) none, turn.1 ∙ ap (λ (x : Held). stand known (record x { pending = Some (name, []) }) (walk_option name) (place_at taken) false) after)
      (rest false taken all (wants name) ((Some name, None, found), other) tt d t)
  known_word h taken word words all name true None rest (inr (wrong, again)) t other found turn =
      repeated _ _ _ _ (stops _ word words (is_fault _ _ turn.0 (fault_first _ _ wrong))) again
  known_word h taken word words all name false (Some v) rest s t other found turn = stops _ word words (is_fault _ _ turn.0 tt)
  known_word h taken word words all name false None rest s t other found turn =
      used_word _ word words taken all (name, None) _ _ rest (reacts_flag known h all name (Some name) None s) (not_command all name None taken other t) turn

  -- an option's name isn't the command's
  other_name : (name : Text) (k : Known) → find_known known name ≡ Some k → bytes_eq k.name command_name ≡ false
  other_name name k found = go (bytes_eq k.name command_name) refl
    where
      own : find_known known k.name ≡ Some k
      own = ap (find_known known) (find_passes known name k found) ∙ found

      go : (b : Bool) → bytes_eq k.name command_name ≡ b → bytes_eq k.name command_name ≡ false
      go false same = same
      go true same =
          let is : k.name ≡ command_name = (bytes_eq-Decides k.name command_name).0 same in
          absurd (true≢false (sym (ap is_some (sym free ∙ (ap (find_known known) (sym is) ∙ own)))))

  option_word : (h : Held) (taken : Bool) (word : Text) (words : List Text) (all : List Use) (name : Text) (v : Option Text) (o : Option Known) → AgreesFrom words → Settled h all
      → has command_name all ≡ taken → find_known known name ≡ o
      → Turns known (stand known h idle (place_at taken) false) word (option_kinds known (option_map option_rule o) h idle (place_at taken) word v)
      (option_walked known (option_map option_rule o) h idle (place_at taken) word v)
      → Agrees (kinds_from (stand known h idle (place_at taken) false) (word ∷ words)) (rows_from (stand known h idle (place_at taken) false) (word ∷ words))
      (with all (option_uses o v (rest_of words)))
  option_word h taken word words all name v None rest s t found turn = stops _ word words (is_fault _ _ turn.0 tt)
  option_word h taken word words all name v (Some k) rest s t found turn =
      known_word h taken word words all k.name k.takes_value v rest s t (other_name name k found) (id_found known name k free found) turn

  -- ---- a word where nothing is awaited

  abbrev is_idle : Waiting → Bool
  is_idle idle = true
  is_idle _ = false

  ready_word : (w : Word) (taken : Bool) (uses : List Use) (kept : Kept) (word : Text) (words : List Text) → AgreesFrom words → IsKept known kept → waiting_for kept ≡ idle
      → Settled (held_at uses kept) (all_of uses kept) → distinct uses ≡ true → has command_name (all_of uses kept) ≡ taken → Reads word w
      → Agrees (kinds_from (stand known (held_at uses kept) idle (place_at taken) false) (word ∷ words)) (rows_from (stand known (held_at uses kept) idle (place_at taken) false) (word ∷ words))
      (with (all_of uses kept) (word_uses known w word (rest_of words)))
  ready_word end_of_options taken uses nothing word words rest k ready s d t r =
      goes_on _ (walk_at true taken uses nothing) word words _ (end_turn known (held_at uses nothing) idle (place_at taken) word r) (rest true taken uses nothing k tt d t)
  ready_word end_of_options taken uses (full id v) word words rest k ready s d t r =
      goes_on _ (walk_at true taken uses (full id v)) word words _ (end_turn known (held_at uses (full id v)) idle (place_at taken) word r) (rest true taken uses (full id v) k tt d t)
  ready_word end_of_options taken uses (wants id) word words rest k ready s d t r =
      absurd (true≢false (sym (ap is_idle ready)))
  ready_word (option name v) taken uses kept word words rest k ready s d t r =
      option_word (held_at uses kept) taken word words (all_of uses kept) name v (find_known known name) rest s t refl
      (option_turn known (held_at uses kept) idle (place_at taken) word name v _ r.0 r.1 (long_found known name))
  ready_word stray taken uses kept word words rest k ready s d t r =
      stops _ word words (stray_turn known (held_at uses kept) idle (place_at taken) word r.2.0 r.2.1 r.2.3 refl r.0 r.1 r.2.2 r.2.4)
  ready_word plain taken uses kept word words rest k ready s d t r =
      command_word (held_at uses kept) false taken word words (all_of uses kept) rest s t (plain_turn known (held_at uses kept) idle (place_at taken) word r.0 r.1 r.2)

  -- ---- a word where an option awaits its value

  -- after `--` it gets none
  lost : (taken : Bool) (uses : List Use) (id : Text) (words : List Text) → Takes known id → IsFault (kinds_from (walk_at true taken uses (wants id)) words)
  unfolding walk_fault
  lost taken uses id [] k = fault_first _ _ (settles_wants known uses id k)
  lost true uses id (word ∷ words) k = stops (walk_at true true uses (wants id)) word words (second_command known (held_at uses (wants id)))
  lost false uses id (word ∷ words) k = stops (walk_at true false uses (wants id)) word words (is_fault _ _ (command_fault known (held_at uses (wants id))) (settles_wants known uses id k))

  -- an option in the place of a value faults
  instead : (uses : List Use) (id : Text) (taken : Bool) (word : Text) (v : Option Text) (o : Option Known) → Takes known id
      → IsFault (option_kinds known (option_map option_rule o) (held_at uses (wants id)) (walk_option id) (place_at taken) word v)
  instead uses id taken word v None k = tt
  instead uses id taken word v (Some x) k = go x.takes_value v
    where
      go : (takes : Bool) (v : Option Text) → IsFault (option_kinds known (Some (rule_with x.name (Some x.name) None (values_taken takes))) (held_at uses (wants id)) (walk_option id) (place_at taken) word v)
      go true (Some v) = fault_first _ _ (fault_first _ _ (settles_wants known uses id k))
      go true None = fault_first _ _ (settles_wants known uses id k)
      go false (Some v) = tt
      go false None = fault_first _ _ (fault_first _ _ (settles_wants known uses id k))

  waited_word : (w : Word) (taken : Bool) (uses : List Use) (id : Text) (word : Text) (words : List Text) → AgreesFrom words → IsKept known (wants id)
      → distinct uses ≡ true → has command_name uses ≡ taken → Reads word w
      → Agrees (kinds_from (walk_at false taken uses (wants id)) (word ∷ words)) (rows_from (walk_at false taken uses (wants id)) (word ∷ words))
      (with uses (value_uses id w word (rest_of words)))
  waited_word end_of_options taken uses id word words rest k d t r =
      goes_on _ (walk_at true taken uses (wants id)) word words None (end_turn known (held_at uses (wants id)) (walk_option id) (place_at taken) word r) (lost taken uses id words k.0)
  waited_word (option name v) taken uses id word words rest k d t r =
      let turn = option_turn known (held_at uses (wants id)) (walk_option id) (place_at taken) word name v _ r.0 r.1 (long_found known name) in
      stops _ word words (is_fault _ _ turn.0 (instead uses id taken word v (find_known known name) k.0))
  waited_word stray taken uses id word words rest k d t r =
      stops _ word words (stray_turn known (held_at uses (wants id)) (walk_option id) (place_at taken) word r.2.0 r.2.1 r.2.3 refl r.0 r.1 r.2.2 r.2.4)
  waited_word plain taken uses id word words rest k d t r =
      let turn = plain_turn known (held_at uses (wants id)) (walk_option id) (place_at taken) word r.0 r.1 r.2 in
      let pushed = value_pushed known uses id word k.0 in
      with_use (walk_at false taken uses (wants id)) word words uses (id, Some word) _
      (goes_on _ (walk_at false taken uses (full id word)) word words _ (
        turn.0 ∙ ap (λ p. step_fault (shape_for known) (place_at taken) p.0 p.1) pushed,
        turn.1 ∙ ap (λ p. after_step (rules_for known) word (walk_at false taken uses (wants id)) p.0 p.1) pushed,
      ) (rest false taken uses (full id word) k.0 tt d (not_command uses id (Some word) taken k.1 t)))

  -- ---- all words

  pub agrees : (words : List Text) → EachUtf8 words → AgreesFrom words
  unfolding uses_of walk_fault walked
  agrees [] valid ended taken uses nothing k reach d t = ended_settled (held_at uses nothing) uses (settles_nothing known uses d)
  agrees [] valid ended taken uses (full id v) k reach d t = ended_settled (held_at uses (full id v)) (uses ++ (id, Some v) ∷ []) (settles_full known uses id v k d)
  agrees [] valid ended taken uses (wants id) k reach d t = fault_first _ _ (settles_wants known uses id k.0)
  agrees (word ∷ words) valid true taken uses nothing k reach d t =
      command_word (held_at uses nothing) true taken word words uses (agrees words valid.1) (settles_nothing known uses d) t (refl, refl)
  agrees (word ∷ words) valid true taken uses (full id v) k reach d t =
      command_word (held_at uses (full id v)) true taken word words (uses ++ (id, Some v) ∷ []) (agrees words valid.1) (settles_full known uses id v k d) t (refl, refl)
  agrees (word ∷ words) valid true taken uses (wants id) k reach d t = absurd reach
  agrees (word ∷ words) valid false taken uses nothing k reach d t =
      ready_word (word_of word) taken uses nothing word words (agrees words valid.1) k refl (settles_nothing known uses d) d t (reads word valid.0)
  agrees (word ∷ words) valid false taken uses (full id v) k reach d t =
      ready_word (word_of word) taken uses (full id v) word words (agrees words valid.1) k refl (settles_full known uses id v k d) d t (reads word valid.0)
  agrees (word ∷ words) valid false taken uses (wants id) k reach d t =
      waited_word (word_of word) taken uses id word words (agrees words valid.1) k d t (reads word valid.0)
