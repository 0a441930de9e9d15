-- What holds of a run after each turn.
use Rattle.std.proofs.Common.{◌≡◌, sym, ◌∙◌, ap, ℕ, suc, ◌*◌, ◌<◌, ◌≤◌, Bool, true, List, ◌∷◌, ◌++◌, length, Option, Some, None, arith}
use Rattle.std.specs.List.{list_any}
use Rattle.std.proofs.lemmas.List.{append_assoc}
use Rattle.mope_base.specs.declared.numbers.TableNo.{TableNo}
use Rattle.mope_base.specs.declared.numbers.ColNo.{ColNo}
use Rattle.workload.specs.declared.plain.PlainDb.{PlainDb}
use Rattle.workload.specs.declared.script.Act.{Act}
use Rattle.workload.specs.declared.script.DoneTxn.{DoneTxn}
use Rattle.workload.specs.declared.script.End.{End}
use Rattle.workload.specs.declared.script.End.TheVariants as end
use Rattle.workload.specs.declared.script.Piece.{Piece}
use Rattle.workload.specs.declared.script.Piece.TheVariants as piece
use Rattle.workload.specs.declared.script.Workload.{Workload}
use Rattle.workload.specs.PlainDatabase.{empty_database}
use Rattle.workload.specs.Transaction.{Work, going, trial_of}
use Rattle.workload.specs.Run.{Run, Turn, TurnKind, Position, ready, committing, installing, number_of, version_of, position_at}
use Rattle.workload.specs.History.{number_got, rank_of, piece_at, script_of, answers_on, full_on, effect_on, IsVersion, Repeats, places_of, places_from, writes, lays, IsShown, HasCause}
use Rattle.plain_db.proofs.TableOutcomes.{at, size}
use Rattle.plain_db.proofs.StampLemmas.{stamps_at}
use Rattle.mope_base.specs.Lists.{Each}
use Rattle.plain_db.proofs.RankLemmas.{Pairs}
use Rattle.plain_db.proofs.ChainLemmas.{seen_by, seen, Numbered, count_of}

-- a later state of a run: its versions and turns stay
pub record Extends (r next : Run) : Type 0 where
  pub grows : number_of r ≤ number_of next
  pub versions : (m : ℕ) → m ≤ number_of r → version_of next m ≡ version_of r m
  pub more : List Turn
  pub turns : next.turns ≡ r.turns ++ more

-- what holds of a finished transaction
pub record TxnHolds (w : Workload) (r : Run) (t : DoneTxn) : Type 0 where
  pub numbered : Numbered (number_of r) (number_got t.end) t.base
  pub repeats : Repeats w r (version_of r (seen t)) t
  pub cause : HasCause r t t.end

-- what holds of versions and stamps: a table is unchanged since the version that its stamp names, and turns gave the stamps
pub record StoreHolds (w : Workload) (r : Run) : Type 0 where
  pub sizes : (m : ℕ) → size (version_of r m) ≡ length r.stamps
  pub unchanged : (i m : ℕ) → (stamps_at r.stamps i).written ≤ m → at (version_of r m) i ≡ at r.current i
  pub first : version_of r 0 ≡ empty_database w.tables
  pub written : (t : TableNo) → 0 < (stamps_at r.stamps t.0).written
      → list_any (λ (turn : Turn). writes t (stamps_at r.stamps t.0).written turn.kind) r.turns ≡ true
  pub laid : (t : TableNo) → 0 < (stamps_at r.stamps t.0).laid
      → list_any (λ (turn : Turn). lays t (stamps_at r.stamps t.0).laid turn.kind) r.turns ≡ true

-- the place of a session's next or present transaction
unfoldable pub place_in : Position → ℕ
place_in (ready place rest) = place
place_in (committing place base work rest) = place
place_in (installing place base t column rest) = place

-- the version that it begins from
unfoldable pub base_in : ℕ → Position → ℕ
base_in current (ready place rest) = current
base_in current (committing place base work rest) = base
base_in current (installing place base t column rest) = base

-- a transaction between its begin and its commit was tried on its base
pub record IsTried (r : Run) (base : ℕ) (work : Work) (rest pieces : List Piece) : Type 0 where
  pub statements : List Act
  pub rollback : Bool
  pub is : pieces ≡ piece.Txn statements rollback ∷ rest
  pub tried : trial_of (version_of r base) statements ≡ going work
  pub within : base ≤ number_of r

pub record IsRebuilding (r : Run) (base : ℕ) (t : TableNo) (column : ColNo) (rest pieces : List Piece) : Type 0 where
  pub is : pieces ≡ piece.Rebuild t column ∷ rest
  pub within : base ≤ number_of r

-- what a position says of the pieces that aren't finished
unfoldable pub Doing : Run → Position → List Piece → Type 0
Doing r (ready place rest) pieces = pieces ≡ rest
Doing r (committing place base work rest) pieces = IsTried r base work rest pieces
Doing r (installing place base t column rest) pieces = IsRebuilding r base t column rest pieces

-- a transaction stands in the history no later than those of a base, at a lower place
abbrev pub IsBehind : ℕ → ℕ → DoneTxn → Type 0
IsBehind base place t = (rank_of t ≤ 2 * base) × (t.place < place)

-- what holds of a session: the first pieces of its script are finished, in order
pub record SessionHolds (w : Workload) (r : Run) (s : ℕ) (p : Position) : Type 0 where
  pub finished : List Piece
  pub pieces : List Piece
  pub script : script_of w s ≡ finished ++ pieces
  pub place : place_in p ≡ suc (length finished)
  pub places : places_of s r.done ≡ places_from 1 finished
  pub behind : Each (λ (t : DoneTxn). t.session.0 ≡ s → IsBehind (base_in (number_of r) p) (place_in p) t) r.done
  pub doing : Doing r p pieces

pub record RunHolds (w : Workload) (r : Run) : Type 0 where
  pub store : StoreHolds w r
  pub txns : Each (TxnHolds w r) r.done
  pub once : (n : ℕ) → n < number_of r → count_of (suc n) r.done ≡ 1
  pub none : (n : ℕ) → number_of r < n → count_of n r.done ≡ 0
  pub pairs : Pairs r.done
  pub size : length r.positions ≡ length w.sessions
  pub sessions : (s : ℕ) → SessionHolds w r s (position_at r.positions s)

-- what a later state keeps

numbered_later : (current later : ℕ) (number : Option ℕ) (base : ℕ) → current ≤ later → Numbered current number base → Numbered later number base
unfolding Numbered
numbered_later current later None base grows h = omega (arith, h)
numbered_later current later (Some number) base grows h = (h.0, omega (arith, h.1))

seen_within : (current : ℕ) (number : Option ℕ) (base : ℕ) → Numbered current number base → seen_by number base ≤ current
unfolding Numbered seen_by
seen_within current None base h = h
seen_within current (Some number) base h = omega (arith, h.1)

version_later : (r next : Run) (number : Option ℕ) (base : ℕ) (db other : PlainDb) → Extends r next → Numbered (number_of r) number base
    → other ≡ db → IsVersion r number db → IsVersion next number other
unfolding Numbered
version_later r next None base db other later h same is = tt
version_later r next (Some number) base db other later h same is = same ∙ is ∙ sym (later.versions number h.1)

shown_later : (r next : Run) (t : DoneTxn) (kind : TurnKind) (cause : TurnKind → Bool) → Extends r next → IsShown r t kind cause → IsShown next t kind cause
shown_later r next t kind cause later shown =
    let own : Turn = record { session = t.session; place = t.place; kind = kind } in
    record {
      before = shown.before;
      after = shown.after ++ later.more;
      own = later.turns ∙ ap (λ l. l ++ later.more) shown.own ∙ append_assoc shown.before (own ∷ shown.after) later.more;
      caused = shown.caused;
    }

cause_later : (r next : Run) (t : DoneTxn) (e : End) → Extends r next → HasCause r t e → HasCause next t e
unfolding HasCause
cause_later r next t end.Read later h = tt
cause_later r next t (end.Committed number) later h = tt
cause_later r next t end.RolledBack later h = tt
cause_later r next t (end.Full table) later h = tt
cause_later r next t (end.Conflict table number) later h = (h.0, shown_later r next t _ _ later h.1)
cause_later r next t (end.Installed number) later h = tt
cause_later r next t (end.Stale table number) later h = (h.0, shown_later r next t _ _ later h.1)

repeats_later : (w : Workload) (r next : Run) (t : DoneTxn) → Extends r next → Numbered (number_of r) (number_got t.end) t.base
    → Repeats w r (version_of r (seen t)) t → Repeats w next (version_of next (seen t)) t
unfolding seen
repeats_later w r next t later numbered repeats =
    let same : version_of next (seen t) ≡ version_of r (seen t) = later.versions (seen t) (seen_within (number_of r) (number_got t.end) t.base numbered) in
    record {
      answers = ap (λ db. answers_on (piece_at w t.session t.place) db) same ∙ repeats.answers;
      full_table = ap (λ db. full_on (piece_at w t.session t.place) db) same ∙ repeats.full_table;
      version =
          version_later r next (number_got t.end) t.base _ _ later numbered (ap (λ db. effect_on (piece_at w t.session t.place) db) same) repeats.version;
    }

pub txn_later : (w : Workload) (r next : Run) (t : DoneTxn) → Extends r next → TxnHolds w r t → TxnHolds w next t
txn_later w r next t later h = record {
  numbered = numbered_later (number_of r) (number_of next) (number_got t.end) t.base later.grows h.numbered;
  repeats = repeats_later w r next t later h.numbered h.repeats;
  cause = cause_later r next t t.end later h.cause;
}

pub doing_later : (r next : Run) (p : Position) (pieces : List Piece) → Extends r next → Doing r p pieces → Doing next p pieces
unfolding Doing
doing_later r next (ready place rest) pieces later doing = doing
doing_later r next (committing place base work rest) pieces later doing = record {
  statements = doing.statements;
  rollback = doing.rollback;
  is = doing.is;
  tried = ap (λ db. trial_of db doing.statements) (later.versions base doing.within) ∙ doing.tried;
  within = omega (arith, doing.within, later.grows);
}
doing_later r next (installing place base t column rest) pieces later doing = record {
  is = doing.is;
  within = omega (arith, doing.within, later.grows);
}

pub base_later : (current later : ℕ) (p : Position) → current ≤ later → base_in current p ≤ base_in later p
unfolding base_in
base_later current later (ready place rest) grows = grows
base_later current later (committing place base work rest) grows = let h : base ≤ base = omega arith in h
base_later current later (installing place base t column rest) grows = let h : base ≤ base = omega arith in h
