-- The order of a command and its values.
use Rattle.std.proofs.Common.{◌≡◌, ◌∙◌, ◌↔◌, ◌<◌, ◌^◌, ◌&&◌, ◌||◌, ℕ, Bool, true, false, not, List, [], ◌∷◌, length, get_or, Option, None, Some, is_some, IsSome, Result, Ok, Err, refl, sym, ap, subst, arith, IfSome, MatchOption}
use Rattle.std.specs.Prelude.{unwrap_or, codes}
use Rattle.std.specs.Borrow.{Bor}
use Rattle.std.specs.Char.{IsAsciiDigit}
use Rattle.std.specs.List.{AllPass}
use Rattle.std.proofs.lemmas.Bool.{false≢true}
use Rattle.std.proofs.lemmas.Fmt.{decimal_nonempty}
use Rattle.hex.specs.Hex.{decode_of, is_hex_digit}
use Rattle.hex.proofs.HexLemmas.{decode_of-ok}
use Rattle.value_cipher.specs.declared.Key.{Key}
use Rattle.mope_base.specs.declared.numbers.Mode.{Mode}
use Rattle.mope_base.specs.declared.numbers.Mode.TheVariants as mode
use Rattle.mope_base.specs.declared.numbers.SessionNo.{SessionNo}
use Rattle.command_words.specs.Grammar.{Text, Use, command_name, value_of}
use Rattle.command_words.specs.Giving.{text_of}
use Rattle.command_words.specs.Orders.{AreSessions, AreWords, IsGenerate, IsOrder, IsPlain, IsReplay, ModeOr, ScheduleOr, SpellsKey, SpellsNumber, SpellsTurns, mode_name}
use Rattle.command_words.proofs.DecimalLemmas.{decimal_digits}
use Rattle.command_words.proofs.NumberLemmas.{number-same, number_or-same, turns-same}
use Rattle.command_words.specs.declared.order.Generating.{Generating}
use Rattle.command_words.specs.declared.order.Order.{Order}
use Rattle.command_words.specs.declared.order.Order.TheVariants.{Replay, Plain, Generate}
use Rattle.command_words.specs.declared.order.Replaying.{Replaying}
use Rattle.command_words.specs.declared.order.Schedule.{Schedule}
use Rattle.command_words.specs.declared.order.Schedule.TheVariants.{Round, Listed}

inside : (a b : Text) → ◌≡◌ {A = Option Text} (Some a) (Some b) → a ≡ b
inside a b e = ap (λ o. unwrap_or o a) e

-- two words for the command are one
pub command-same : (uses : List Use) (a b : Text) → value_of command_name uses ≡ Some a → value_of command_name uses ≡ Some b → a ≡ b
command-same uses a b x y = inside a b (sym x ∙ y)

-- a command orders only what is its own

other : (uses : List Use) (a b : Text) → value_of command_name uses ≡ Some a → value_of command_name uses ≡ Some b → (length a ≡ length b → ⊥) → ⊥
other uses a b x y differ = differ (ap (λ (t : Text). length t) (command-same uses a b x y))

pub only_replay : (uses : List Use) → value_of command_name uses ≡ Some (codes "replay") → ((r : Replaying) → ¬ IsReplay uses r)
    → (order : Order) → ¬ IsOrder uses order
only_replay uses is none (Replay r) o = none r o
only_replay uses is none (Plain turns) o = other uses (codes "replay") (codes "plain") is o.command (λ e. omega (arith, e))
only_replay uses is none (Generate g) o = other uses (codes "replay") (codes "generate") is o.command (λ e. omega (arith, e))

pub only_plain : (uses : List Use) → value_of command_name uses ≡ Some (codes "plain") → ((turns : List SessionNo) → ¬ IsPlain uses turns)
    → (order : Order) → ¬ IsOrder uses order
only_plain uses is none (Replay r) o = other uses (codes "plain") (codes "replay") is o.command (λ e. omega (arith, e))
only_plain uses is none (Plain turns) o = none turns o
only_plain uses is none (Generate g) o = other uses (codes "plain") (codes "generate") is o.command (λ e. omega (arith, e))

pub only_generate : (uses : List Use) → value_of command_name uses ≡ Some (codes "generate") → ((g : Generating) → ¬ IsGenerate uses g)
    → (order : Order) → ¬ IsOrder uses order
only_generate uses is none (Replay r) o = other uses (codes "generate") (codes "replay") is o.command (λ e. omega (arith, e))
only_generate uses is none (Plain turns) o = other uses (codes "generate") (codes "plain") is o.command (λ e. omega (arith, e))
only_generate uses is none (Generate g) o = none g o

pub no_command : (uses : List Use) (word : Text) → value_of command_name uses ≡ Some word
    → (word ≡ codes "replay" → ⊥) → (word ≡ codes "plain" → ⊥) → (word ≡ codes "generate" → ⊥) → (order : Order) → ¬ IsOrder uses order
no_command uses word is replay plain generate (Replay r) o = replay (command-same uses word (codes "replay") is o.command)
no_command uses word is replay plain generate (Plain turns) o = plain (command-same uses word (codes "plain") is o.command)
no_command uses word is replay plain generate (Generate g) o = generate (command-same uses word (codes "generate") is o.command)

-- an option has one value at most

key-same : (digits : Text) (a b : Key) → SpellsKey digits a → SpellsKey digits b → a ≡ b
key-same digits a b x y =
    let bytes : a.bytes ≡ b.bytes = ap (λ r. ok_bytes r) (sym x.value ∙ y.value) in
    ap (λ l. let k : Key = record { bytes = l } in k) bytes
  where
    ok_bytes : {E : Type 0} → Result (List ℕ) E → List ℕ
    ok_bytes (Ok l) = l
    ok_bytes (Err e) = []

names-same : (a b : Mode) → mode_name a ≡ mode_name b → a ≡ b
names-same mode.Ordinary mode.Ordinary e = refl
names-same mode.Ordinary mode.SameTime e = absurd (omega (arith, ap (λ (t : Text). length t) e))
names-same mode.SameTime mode.Ordinary e = absurd (omega (arith, ap (λ (t : Text). length t) e))
names-same mode.SameTime mode.SameTime e = refl

mode-same : (word : Option Text) (a b : Mode) → ModeOr word a → ModeOr word b → a ≡ b
mode-same None a b x y = x ∙ sym y
mode-same (Some text) a b x y = names-same a b (sym x ∙ y)

round_is_none : (n : ℕ) → ¬ SpellsNumber 1 64 (codes "round") n
round_is_none n spells =
    let fits : n < 2 ^ 64 = omega (arith, spells.1) in
    let digit = subst (λ (t : Text). IsAsciiDigit (get_or t 0 0)) (sym spells.2) (decimal_digits n fits 0 (decimal_nonempty n fits)) in
    omega (arith, digit.1)

round_none : ¬ SpellsTurns (codes "round") []
unfolding AreSessions
round_none spells = spells

round_first : (s : SessionNo) (sessions : List SessionNo) → SpellsTurns (codes "round") (s ∷ sessions) → SpellsNumber 1 64 (codes "round") s.0
unfolding AreSessions
round_first s sessions spells = spells.0

-- the word `round` is no list of sessions
pub round_lists_none : (text : Text) (sessions : List SessionNo) → text ≡ codes "round" → ¬ SpellsTurns text sessions
round_lists_none text sessions is spells = no_sessions sessions (subst (λ t. SpellsTurns t sessions) is spells)
  where
    no_sessions : (sessions : List SessionNo) → ¬ SpellsTurns (codes "round") sessions
    no_sessions [] spells = round_none spells
    no_sessions (s ∷ sessions) spells = round_is_none s.0 (round_first s sessions spells)

schedule-same : (word : Option Text) (a b : Schedule) → ScheduleOr word a → ScheduleOr word b → a ≡ b
schedule-same None a b x y = x ∙ sym y
schedule-same (Some text) Round Round x y = refl
schedule-same (Some text) Round (Listed t) x y = absurd (round_lists_none text t x y)
schedule-same (Some text) (Listed s) Round x y = absurd (round_lists_none text s y x)
schedule-same (Some text) (Listed s) (Listed t) x y = ap (λ l. let schedule : Schedule = Listed l in schedule) (turns-same (Some text) s t x y)

-- uses have one order at most

abbrev replaying : Key → ℕ → Mode → Schedule → Bool → Order
replaying key first_nonce mode schedule view =
    Replay (record { key = key; first_nonce = first_nonce; mode = mode; schedule = schedule; view = view })

replay-same : (uses : List Use) (r s : Replaying) → IsReplay uses r → IsReplay uses s → ◌≡◌ {A = Order} (Replay r) (Replay s)
replay-same uses r s x y =
    let digits : x.digits ≡ y.digits = inside x.digits y.digits (sym x.given ∙ y.given) in
    let key : r.key ≡ s.key = key-same y.digits r.key s.key (rw digits at x.spells) y.spells in
    let first_nonce : r.first_nonce ≡ s.first_nonce = number_or-same 0 9223372036854775808 0 (value_of (codes "first-nonce") uses) r.first_nonce s.first_nonce (omega arith) x.first_nonce y.first_nonce in
    let mode : r.mode ≡ s.mode = mode-same (value_of (codes "mode") uses) r.mode s.mode x.mode y.mode in
    let schedule : r.schedule ≡ s.schedule = schedule-same (value_of (codes "schedule") uses) r.schedule s.schedule x.schedule y.schedule in
    let view : r.view ≡ s.view = x.view ∙ sym y.view in
    λ i. replaying (key i) (first_nonce i) (mode i) (schedule i) (view i)

abbrev generating : ℕ → ℕ → ℕ → Mode → Bool → Order
generating number sessions transactions mode text =
    Generate (record { number = number; sessions = sessions; transactions = transactions; mode = mode; text = text })

generate-same : (uses : List Use) (g h : Generating) → IsGenerate uses g → IsGenerate uses h → ◌≡◌ {A = Order} (Generate g) (Generate h)
generate-same uses g h x y =
    let digits : x.digits ≡ y.digits = inside x.digits y.digits (sym x.number_given ∙ y.number_given) in
    let number : g.number ≡ h.number = number-same 0 18446744073709551615 y.digits g.number h.number (omega arith) (rw digits at x.number_is) y.number_is in
    let sessions : g.sessions ≡ h.sessions = number_or-same 1 64 4 (value_of (codes "sessions") uses) g.sessions h.sessions (omega arith) x.sessions_given y.sessions_given in
    let transactions : g.transactions ≡ h.transactions = number_or-same 1 1000 50 (value_of (codes "transactions") uses) g.transactions h.transactions (omega arith) x.transactions_given y.transactions_given in
    let mode : g.mode ≡ h.mode = mode-same (value_of (codes "mode") uses) g.mode h.mode x.mode y.mode in
    let text : g.text ≡ h.text = x.as_text ∙ sym y.as_text in
    λ i. generating (number i) (sessions i) (transactions i) (mode i) (text i)

pub order-same : (uses : List Use) (a b : Order) → IsOrder uses a → IsOrder uses b → a ≡ b
order-same uses (Replay r) (Replay s) x y = replay-same uses r s x y
order-same uses (Plain s) (Plain t) x y =
    ap (λ turns. let o : Order = Plain turns in o) (turns-same (value_of (codes "turns") uses) s t x.given y.given)
order-same uses (Generate g) (Generate h) x y = generate-same uses g h x y
order-same uses (Replay r) (Plain t) x y = absurd (other uses (codes "replay") (codes "plain") x.command y.command (λ e. omega (arith, e)))
order-same uses (Replay r) (Generate h) x y = absurd (other uses (codes "replay") (codes "generate") x.command y.command (λ e. omega (arith, e)))
order-same uses (Plain s) (Replay r) x y = absurd (other uses (codes "plain") (codes "replay") x.command y.command (λ e. omega (arith, e)))
order-same uses (Plain s) (Generate h) x y = absurd (other uses (codes "plain") (codes "generate") x.command y.command (λ e. omega (arith, e)))
order-same uses (Generate g) (Replay r) x y = absurd (other uses (codes "generate") (codes "replay") x.command y.command (λ e. omega (arith, e)))
order-same uses (Generate g) (Plain t) x y = absurd (other uses (codes "generate") (codes "plain") x.command y.command (λ e. omega (arith, e)))

-- words have one order at most
pub words-same : (words : List Text) (a b : Order) → AreWords words a → AreWords words b → a ≡ b
words-same words a b x y =
    let uses : x.uses ≡ y.uses = ap (λ o. unwrap_or o x.uses) (sym x.spelled_uses ∙ y.spelled_uses) in
    order-same y.uses a b (rw uses at x.ordered) y.ordered

-- the key that is read of a word is the one that its digits spell
pub key_read : (given : Option (Bor Text)) (word : Bor Text) (digits : Text) (read : Option Key) → given ≡ Some word → digits ≡ word.now
    → (IsSome read ↔ ((length digits ≡ 64) × AllPass is_hex_digit digits)) → IfSome read (λ key. decode_of digits ≡ Ok key.bytes)
    → MatchOption read ((spelled : Text) (key : Key) → text_of given ≡ Some spelled → ¬ SpellsKey spelled key)
    (λ key. (spelled : Text) × (text_of given ≡ Some spelled) × SpellsKey spelled key)
key_read given word digits None stands same found value = λ spelled key one spells.
    let is : digits ≡ spelled = same ∙ inside word.now spelled (sym (ap text_of stands) ∙ one) in
    false≢true (found.1 (ap (λ (d : Text). length d) is ∙ spells.count, rw is (decode_of-ok spelled key.bytes spells.value).1))
key_read given word digits (Some key) stands same found value =
    (digits, ap text_of stands ∙ ap (λ (d : Text). Some d) (sym same), record { count = (found.0 refl).0; value = value })

-- whether a word was given for an option
pub stands_as : (o : Option (Bor Text)) (v : Option Text) → text_of o ≡ v → is_some o ≡ is_some v
stands_as None v e = ap is_some e
stands_as (Some word) v e = ap is_some e

-- none of nine stands
pub none_of : (a b c d e f g h i : Bool) → not (((((((a || b) || c) || d) || e) || f) || g) || (h || i))
    ≡ (not a && (not b && (not c && (not d && (not e && (not f && (not g && (not h && (not i && true)))))))))
none_of true b c d e f g h i = refl
none_of false true c d e f g h i = refl
none_of false false true d e f g h i = refl
none_of false false false true e f g h i = refl
none_of false false false false true f g h i = refl
none_of false false false false false true g h i = refl
none_of false false false false false false true h i = refl
none_of false false false false false false false true i = refl
none_of false false false false false false false false true = refl
none_of false false false false false false false false false = refl

-- none of five stands
pub none_of_five : (a b c d e : Bool) → not ((((a || b) || c) || d) || e) ≡ (not a && (not b && (not c && (not d && (not e && true)))))
none_of_five true b c d e = refl
none_of_five false true c d e = refl
none_of_five false false true d e = refl
none_of_five false false false true e = refl
none_of_five false false false false true = refl
none_of_five false false false false false = refl
