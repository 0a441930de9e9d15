-- Numbers, and lists of them joined by commas.
use Rattle.std.proofs.Common.{◌≡◌, ◌∙◌, ◌++◌, ◌+◌, ◌<◌, ◌≤◌, ◌^◌, ℕ, List, [], ◌∷◌, length, drop, get_or, Option, Some, None, refl, sym, ap, subst, arith}
use Rattle.std.specs.Fmt.{decimal}
use Rattle.std.proofs.lemmas.Fmt.{decimal_injective}
use Rattle.std.proofs.lemmas.List.{append-nil, append_assoc, drop_more, drop_all}
use Rattle.mope_base.specs.declared.numbers.SessionNo.{SessionNo}
use Rattle.command_words.specs.Grammar.{Text}
use Rattle.command_words.specs.Orders.{AreSessions, NumberOr, SpellsNumber, TurnsOr}

-- a text is one number at most

pub number-same : (low high : ℕ) (digits : Text) (m n : ℕ) → high < 2 ^ 64 → SpellsNumber low high digits m → SpellsNumber low high digits n → m ≡ n
number-same low high digits m n fits a b =
    decimal_injective m n (omega (arith, a.1, fits)) (omega (arith, b.1, fits)) (sym a.2 ∙ b.2)

pub number_or-same : (low high other : ℕ) (word : Option Text) (m n : ℕ) → high < 2 ^ 64 → NumberOr low high other word m → NumberOr low high other word n → m ≡ n
number_or-same low high other None m n fits a b = a ∙ sym b
number_or-same low high other (Some digits) m n fits a b = number-same low high digits m n fits a b

-- a text of a number that isn't within both ends spells none that is
pub number-beyond : (low high : ℕ) (digits : Text) (number : ℕ) → number < 2 ^ 64 → high < 2 ^ 64 → digits ≡ decimal number
    → (low ≤ number → number ≤ high → ⊥) → (n : ℕ) → ¬ SpellsNumber low high digits n
number-beyond low high digits number fits high_fits is beyond n spells =
    let same : n ≡ number = decimal_injective n number (omega (arith, spells.1, high_fits)) fits (sym spells.2 ∙ is) in
    beyond (omega (arith, spells.0, same)) (omega (arith, spells.1, same))

pub sessions-same : (texts : List Text) (a b : List SessionNo) → AreSessions texts a → AreSessions texts b → a ≡ b
unfolding AreSessions
sessions-same [] [] [] x y = refl
sessions-same [] [] (t ∷ b) x y = absurd y
sessions-same [] (s ∷ a) b x y = absurd x
sessions-same (digits ∷ texts) [] b x y = absurd x
sessions-same (digits ∷ texts) (s ∷ a) [] x y = absurd y
sessions-same (digits ∷ texts) (s ∷ a) (t ∷ b) x y =
    let number : s.0 ≡ t.0 = number-same 1 64 digits s.0 t.0 (omega arith) x.0 y.0 in
    ap (λ n. let one : SessionNo = record { 0 = n } in one ∷ a) number ∙ ap (λ l. t ∷ l) (sessions-same texts a b x.1 y.1)

pub turns-same : (word : Option Text) (a b : List SessionNo) → TurnsOr word a → TurnsOr word b → a ≡ b
turns-same None a b x y = x ∙ sym y
turns-same (Some text) a b x y = sessions-same _ a b x y

-- the texts before i are these sessions: sessions of all the texts are those and sessions of the texts from i on
pub record IsReading (texts : List Text) (i : ℕ) (sessions : List SessionNo) : Type 0 where
  pub on : (more : List SessionNo) → AreSessions (drop i texts) more → AreSessions texts (sessions ++ more)
  pub back : (all : List SessionNo) → AreSessions texts all → (more : List SessionNo) × (all ≡ sessions ++ more) × AreSessions (drop i texts) more

pub reading-start : (texts : List Text) (sessions : List SessionNo) → sessions ≡ [] → IsReading texts 0 sessions
reading-start texts sessions none = record {
  on = λ more are. subst (λ l. AreSessions texts (l ++ more)) (sym none) are;
  back = λ all are. (all, ap (λ l. l ++ all) (sym none), are);
}

-- sessions of a text and of more texts begin with one of the first text
record Begins (digits : Text) (texts : List Text) (all : List SessionNo) : Type 0 where
  pub first : SessionNo
  pub more : List SessionNo
  pub is : all ≡ first ∷ more
  pub spells : SpellsNumber 1 64 digits first.0
  pub rest : AreSessions texts more

begins : (digits : Text) (texts : List Text) (all : List SessionNo) → AreSessions (digits ∷ texts) all → Begins digits texts all
unfolding AreSessions
begins digits texts [] are = absurd are
begins digits texts (s ∷ more) are = record { first = s; more = more; is = refl; spells = are.0; rest = are.1 }

one-more : (digits : Text) (texts : List Text) (s : SessionNo) (more : List SessionNo) → SpellsNumber 1 64 digits s.0 → AreSessions texts more
    → AreSessions (digits ∷ texts) (s ∷ more)
unfolding AreSessions
one-more digits texts s more spells are = (spells, are)

begins-at : (texts : List Text) (i : ℕ) (d : Text) (all : List SessionNo) → i < length texts → AreSessions (drop i texts) all
    → Begins (get_or texts i d) (drop (i + 1) texts) all
begins-at texts i d all within are =
    begins (get_or texts i d) (drop (i + 1) texts) all (subst (λ l. AreSessions l all) (drop_more texts i d within) are)

pub reading-more : (texts : List Text) (i : ℕ) (d : Text) (sessions : List SessionNo) (s : SessionNo) → IsReading texts i sessions → i < length texts
    → SpellsNumber 1 64 (get_or texts i d) s.0 → IsReading texts (i + 1) (sessions ++ s ∷ [])
reading-more texts i d sessions s reading within spells = record {
  on = λ more are.
      subst (AreSessions texts) (sym (append_assoc sessions (s ∷ []) more))
      (reading.on (s ∷ more) (subst (λ l. AreSessions l (s ∷ more)) (sym (drop_more texts i d within)) (one-more (get_or texts i d) (drop (i + 1) texts) s more spells are)));
  back = λ all are.
      let found = reading.back all are in
      let first : Begins (get_or texts i d) (drop (i + 1) texts) found.0 = begins-at texts i d found.0 within found.2 in
      let same : first.first.0 ≡ s.0 = number-same 1 64 (get_or texts i d) first.first.0 s.0 (omega arith) first.spells spells in (
        first.more,
        found.1
            ∙ ap (λ l. sessions ++ l) first.is
            ∙ ap (λ n. let one : SessionNo = record { 0 = n } in sessions ++ one ∷ first.more) same
            ∙ sym (append_assoc sessions (s ∷ []) first.more),
        first.rest,
      );
}

pub reading-stops : (texts : List Text) (i : ℕ) (d : Text) (sessions : List SessionNo) → IsReading texts i sessions → i < length texts
    → ((n : ℕ) → ¬ SpellsNumber 1 64 (get_or texts i d) n) → (all : List SessionNo) → ¬ AreSessions texts all
reading-stops texts i d sessions reading within none all are =
    let found = reading.back all are in
    let first : Begins (get_or texts i d) (drop (i + 1) texts) found.0 = begins-at texts i d found.0 within found.2 in
    none first.first.0 first.spells

pub reading-ends : (texts : List Text) (i : ℕ) (sessions : List SessionNo) → IsReading texts i sessions → length texts ≤ i → AreSessions texts sessions
unfolding AreSessions
reading-ends texts i sessions reading past =
    subst (AreSessions texts) (append-nil sessions) (reading.on [] (subst (λ l. AreSessions l []) (sym (drop_all i texts past)) tt))
