-- A turn keeps what holds of a run: its session stands elsewhere, and at most one transaction more is finished.
use Rattle.std.proofs.Common.{◌≡◌, refl, sym, ◌∙◌, ap, subst, ℕ, zero, suc, ◌+◌, ◌<◌, Bool, true, false, eqb, List, [], ◌∷◌, ◌++◌, length, get_or, set, Option, Some, None, inl, inr, arith}
use Rattle.std.proofs.lemmas.Bool.{cases_lt, cases_eq, true≢false, ne_eqb}
use Rattle.std.proofs.lemmas.List.{append-nil, length-set, get_or_past, get_or-set_same, get_or-set_other}
use Rattle.workload.specs.declared.script.DoneTxn.{DoneTxn}
use Rattle.workload.specs.declared.script.Workload.{Workload}
use Rattle.workload.specs.Run.{Run, Position, ready, committing, installing, number_of, position_at, with_position}
use Rattle.workload.specs.History.{places_of}
use Rattle.mope_base.specs.Lists.{Each}
use Rattle.plain_db.proofs.EachLemmas.{each-append, each-weaker}
use Rattle.plain_db.proofs.RankLemmas.{Pairs, places-others}
use Rattle.plain_db.proofs.ChainLemmas.{is_number, is_number-none, is_number-same, is_number-other, count_of}
use Rattle.plain_db.proofs.RunInvariant.{Extends, TxnHolds, StoreHolds, place_in, base_in, Doing, IsBehind, SessionHolds, RunHolds, txn_later, doing_later, base_later}

-- a session that stands there has ended
unfoldable pub is_over : Position → Bool
is_over (ready place []) = true
is_over (ready place (p ∷ rest)) = false
is_over (committing place base work rest) = false
is_over (installing place base t column rest) = false

pub position-own : (positions : List Position) (s : ℕ) (p : Position) → is_over (position_at positions s) ≡ false
    → position_at (with_position positions s p) s ≡ p
unfolding position_at with_position is_over
position-own positions zero p e = absurd (true≢false e)
position-own positions (suc i) p e =
    elim (cases_lt i (length positions)) as (λ _. get_or (set positions i p) i (ready 1 []) ≡ p) [
      | inl within ↦ get_or-set_same positions i p (ready 1 []) within
      | inr past ↦ absurd (true≢false (ap is_over (sym (get_or_past positions i (ready 1 []) past)) ∙ e))
    ]

pub position-other : (positions : List Position) (s k : ℕ) (p : Position) → (k ≡ s → ⊥)
    → position_at (with_position positions s p) k ≡ position_at positions k
unfolding position_at with_position
position-other positions zero k p other = refl
position-other positions (suc i) zero p other = refl
position-other positions (suc i) (suc k) p other =
    get_or-set_other positions i k p (ready 1 []) (λ e. other (ap suc e))

pub length-with_position : (positions : List Position) (s : ℕ) (p : Position) → length (with_position positions s p) ≡ length positions
unfolding with_position
length-with_position positions zero p = refl
length-with_position positions (suc i) p = length-set positions i p

-- a turn of a session: it stands at p afterwards, and these transactions are finished more
pub record Step (r next : Run) (s : ℕ) (p : Position) (ended : List DoneTxn) : Type 0 where
  pub later : Extends r next
  pub positions : next.positions ≡ with_position r.positions s p
  pub done : next.done ≡ r.done ++ ended
  pub own : Each (λ (t : DoneTxn). t.session.0 ≡ s) ended

session_other : (w : Workload) (r next : Run) (s k : ℕ) (p q : Position) (ended : List DoneTxn) → Step r next s p ended → (k ≡ s → ⊥)
    → SessionHolds w r k q → SessionHolds w next k q
session_other w r next s k p q ended step other h = record {
  finished = h.finished;
  pieces = h.pieces;
  script = h.script;
  place = h.place;
  places =
      ap (λ l. places_of k l) step.done
      ∙ places-others k r.done ended
      (each-weaker (λ (t : DoneTxn). t.session.0 ≡ s) (λ (t : DoneTxn). eqb t.session.0 k ≡ false) ended (λ t own. ne_eqb t.session.0 k (λ e. other (sym e ∙ own))) step.own)
      ∙ h.places;
  behind =
      subst (λ l. Each (λ (t : DoneTxn). t.session.0 ≡ k → IsBehind (base_in (number_of next) q) (place_in q) t) l) (sym step.done)
      (each-append (λ (t : DoneTxn). t.session.0 ≡ k → IsBehind (base_in (number_of next) q) (place_in q) t) r.done ended
      (each-weaker _ (λ (t : DoneTxn). t.session.0 ≡ k → IsBehind (base_in (number_of next) q) (place_in q) t) r.done (λ t behind same.
      let b : IsBehind (base_in (number_of r) q) (place_in q) t = behind same in
      (omega (arith, b.0, base_later (number_of r) (number_of next) q step.later.grows), b.1)) h.behind)
      (each-weaker (λ (t : DoneTxn). t.session.0 ≡ s) (λ (t : DoneTxn). t.session.0 ≡ k → IsBehind (base_in (number_of next) q) (place_in q) t) ended
      (λ t own same. absurd (other (sym same ∙ own))) step.own));
  doing = doing_later r next q h.pieces step.later h.doing;
}

pub sessions_after : (w : Workload) (r next : Run) (s : ℕ) (p : Position) (ended : List DoneTxn) → RunHolds w r → Step r next s p ended
    → is_over (position_at r.positions s) ≡ false → SessionHolds w next s p
    → (k : ℕ) → SessionHolds w next k (position_at next.positions k)
sessions_after w r next s p ended holds step here own k =
    elim (cases_eq k s) as (λ _. SessionHolds w next k (position_at next.positions k)) [
      | inl same ↦
          let stands : position_at next.positions s ≡ p = ap (λ l. position_at l s) step.positions ∙ position-own r.positions s p here in
          subst (λ j. SessionHolds w next j (position_at next.positions j)) (sym same) (subst (λ q. SessionHolds w next s q) (sym stands) own)
      | inr other ↦
          let stands : position_at next.positions k ≡ position_at r.positions k = ap (λ l. position_at l k) step.positions ∙ position-other r.positions s k p other in
          subst (λ q. SessionHolds w next k q) (sym stands) (session_other w r next s k p (position_at r.positions k) ended step other (holds.sessions k))
    ]

-- a begin after which a commit or an install is owed
pub begins : (w : Workload) (r next : Run) (s : ℕ) (p : Position) (session : SessionHolds w r s (position_at r.positions s))
    → RunHolds w r → Step r next s p [] → is_over (position_at r.positions s) ≡ false
    → place_in p ≡ place_in (position_at r.positions s) → base_in (number_of next) p ≡ base_in (number_of r) (position_at r.positions s)
    → number_of next ≡ number_of r → Doing next p session.pieces → StoreHolds w next
    → RunHolds w next
begins w r next s p session holds step here place base number doing store =
    let done : next.done ≡ r.done = step.done ∙ append-nil r.done in
    let own : SessionHolds w next s p = record {
      finished = session.finished;
      pieces = session.pieces;
      script = session.script;
      place = place ∙ session.place;
      places = ap (λ l. places_of s l) done ∙ session.places;
      behind =
          subst (λ l. Each (λ (t : DoneTxn). t.session.0 ≡ s → IsBehind (base_in (number_of next) p) (place_in p) t) l) (sym done)
          (each-weaker _ (λ (t : DoneTxn). t.session.0 ≡ s → IsBehind (base_in (number_of next) p) (place_in p) t) r.done (λ t behind same.
          let b : IsBehind (base_in (number_of r) (position_at r.positions s)) (place_in (position_at r.positions s)) t = behind same in
          (omega (arith, b.0, base), omega (arith, b.1, place))) session.behind);
      doing = doing;
    } in
    record {
      store = store;
      txns = subst (λ l. Each (TxnHolds w next) l) (sym done) (each-weaker (TxnHolds w r) (TxnHolds w next) r.done (λ t h. txn_later w r next t step.later h) holds.txns);
      once = λ n below. ap (λ l. count_of (suc n) l) done ∙ holds.once n (omega (arith, below, number));
      none = λ n above. ap (λ l. count_of n l) done ∙ holds.none n (omega (arith, above, number));
      pairs = subst Pairs (sym done) holds.pairs;
      size = ap length step.positions ∙ length-with_position r.positions s p ∙ holds.size;
      sessions = sessions_after w r next s p [] holds step here own;
    }

-- a transaction without a number makes no version, one with a number makes that of the number
unfoldable pub MakesVersion : Option ℕ → ℕ → ℕ → Type 0
MakesVersion None current later = later ≡ current
MakesVersion (Some number) current later = (later ≡ suc current) × (number ≡ suc current)

pub once_more : (number : Option ℕ) (current later : ℕ) (counts : ℕ → ℕ) → MakesVersion number current later
    → ((n : ℕ) → n < current → counts (suc n) ≡ 1) → ((n : ℕ) → current < n → counts n ≡ 0)
    → (n : ℕ) → n < later → counts (suc n) + (is_number (suc n) number + 0) ≡ 1
unfolding MakesVersion
once_more None current later counts makes once none n below =
    omega (arith, once n (omega (arith, makes, below)), is_number-none (suc n))
once_more (Some number) current later counts makes once none n below =
    elim (cases_eq n current) as (λ _. counts (suc n) + (is_number (suc n) (Some number) + 0) ≡ 1) [
      | inl last ↦ omega (arith, none (suc n) (omega (arith, last)), is_number-same (suc n) number (omega (arith, makes.1, last)))
      | inr earlier ↦
          omega (arith, once n (omega (arith, makes.0, below, earlier)), is_number-other (suc n) number (λ e. omega (arith, e, makes.1, earlier)))
    ]

pub none_more : (number : Option ℕ) (current later : ℕ) (counts : ℕ → ℕ) → MakesVersion number current later
    → ((n : ℕ) → current < n → counts n ≡ 0)
    → (n : ℕ) → later < n → counts n + (is_number n number + 0) ≡ 0
unfolding MakesVersion
none_more None current later counts makes none n above =
    omega (arith, none n (omega (arith, makes, above)), is_number-none n)
none_more (Some number) current later counts makes none n above =
    omega (arith, none n (omega (arith, makes.0, above)), is_number-other n number (λ e. omega (arith, e, makes.0, makes.1, above)))
