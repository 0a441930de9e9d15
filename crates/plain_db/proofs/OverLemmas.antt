-- At the end of a run every session has ended.
use Rattle.std.proofs.Common.{◌≡◌, refl, sym, ◌∙◌, ap, subst, ℕ, zero, suc, ◌+◌, ◌<◌, ◌≤◌, Bool, true, false, List, [], ◌∷◌, length, Option, Some, None, inl, inr, arith}
use Rattle.std.proofs.lemmas.Bool.{cases_lt, cases_eq}
use Rattle.std.proofs.lemmas.List.{get_or_past}
use Rattle.mope_base.specs.declared.numbers.TableNo.{TableNo}
use Rattle.mope_base.specs.declared.numbers.ColNo.{ColNo}
use Rattle.mope_base.specs.declared.numbers.SessionNo.{SessionNo}
use Rattle.workload.specs.declared.script.Piece.{Piece}
use Rattle.workload.specs.declared.script.Piece.TheVariants as piece
use Rattle.workload.specs.declared.script.Workload.{Workload}
use Rattle.workload.specs.Transaction.{Work, Wish, ends, commits}
use Rattle.workload.specs.Run.{Run, Position, ready, committing, installing, position_at, moved, with_done, begun, begin_turn, lowest_newer, committed_unless, commit_turn, installed_unless, install_turn, turn_from, take_turn, settled_from, settled, unbegun, finished_pieces, finished_session, finished_sessions, session_numbers}
use Rattle.plain_db.proofs.RunInvariant.{RunHolds}
use Rattle.plain_db.proofs.StepLemmas.{is_over, position-own, position-other}
use Rattle.plain_db.proofs.CommitLemmas.{commit_holds}
use Rattle.plain_db.proofs.RebuildLemmas.{install_holds}
use Rattle.plain_db.proofs.FinishLemmas.{take_turn_holds}

-- a session stands before these pieces
pub record IsReady (positions : List Position) (s : ℕ) (rest : List Piece) : Type 0 where
  pub place : ℕ
  pub stands : position_at positions s ≡ ready place rest

-- a turn leaves the other sessions where they stand

begun-others : (wish : Wish) (r : Run) (s : SessionNo) (place : ℕ) (work : Work) (rest : List Piece) (k : ℕ) → (k ≡ s.0 → ⊥)
    → position_at (begun wish r s place work rest).positions k ≡ position_at r.positions k
unfolding begun moved with_done
begun-others (ends e) r s place work rest k other = position-other r.positions s.0 k _ other
begun-others commits r s place work rest k other = position-other r.positions s.0 k _ other

begin-others : (r : Run) (s : SessionNo) (place : ℕ) (present : Piece) (rest : List Piece) (k : ℕ) → (k ≡ s.0 → ⊥)
    → position_at (begin_turn r s place present rest).positions k ≡ position_at r.positions k
unfolding begin_turn moved
begin-others r s place (piece.Txn statements rollback) rest k other = begun-others _ r s place _ rest k other
begin-others r s place (piece.Rebuild t column) rest k other = position-other r.positions s.0 k _ other

committed-others : (found : Option (TableNo × ℕ)) (r : Run) (s : SessionNo) (place base : ℕ) (work : Work) (rest : List Piece) (k : ℕ)
    → (k ≡ s.0 → ⊥) → position_at (committed_unless found r s place base work rest).positions k ≡ position_at r.positions k
unfolding committed_unless moved with_done
committed-others None r s place base work rest k other = position-other r.positions s.0 k _ other
committed-others (Some newer) r s place base work rest k other = position-other r.positions s.0 k _ other

installed-others : (stale : Bool) (r : Run) (s : SessionNo) (place base : ℕ) (t : TableNo) (column : ColNo) (rest : List Piece) (k : ℕ)
    → (k ≡ s.0 → ⊥) → position_at (installed_unless stale r s place base t column rest).positions k ≡ position_at r.positions k
unfolding installed_unless moved with_done
installed-others true r s place base t column rest k other = position-other r.positions s.0 k _ other
installed-others false r s place base t column rest k other = position-other r.positions s.0 k _ other

turn-others : (p : Position) (r : Run) (s : SessionNo) (k : ℕ) → (k ≡ s.0 → ⊥)
    → position_at (turn_from p r s).positions k ≡ position_at r.positions k
unfolding turn_from commit_turn install_turn
turn-others (ready place []) r s k other = refl
turn-others (ready place (present ∷ rest)) r s k other = begin-others r s place present rest k other
turn-others (committing place base work rest) r s k other = committed-others _ r s place base work rest k other
turn-others (installing place base t column rest) r s k other = installed-others _ r s place base t column rest k other

settled-others : (p : Position) (r : Run) (s : SessionNo) (k : ℕ) → (k ≡ s.0 → ⊥)
    → position_at (settled_from p r s).positions k ≡ position_at r.positions k
unfolding settled_from commit_turn install_turn
settled-others (ready place rest) r s k other = refl
settled-others (committing place base work rest) r s k other = committed-others _ r s place base work rest k other
settled-others (installing place base t column rest) r s k other = installed-others _ r s place base t column rest k other

pieces-others : (pieces : List Piece) (r : Run) (s : SessionNo) (k : ℕ) → (k ≡ s.0 → ⊥)
    → position_at (finished_pieces pieces r s).positions k ≡ position_at r.positions k
unfolding finished_pieces take_turn settled
pieces-others [] r s k other = refl
pieces-others (present ∷ pieces) r s k other =
    pieces-others pieces (settled (take_turn r s) s) s k other
    ∙ settled-others (position_at (take_turn r s).positions s.0) (take_turn r s) s k other
    ∙ turn-others (position_at r.positions s.0) r s k other

session-others : (r : Run) (s : SessionNo) (k : ℕ) → (k ≡ s.0 → ⊥) → position_at (finished_session r s).positions k ≡ position_at r.positions k
unfolding finished_session settled
session-others r s k other =
    pieces-others (unbegun (position_at r.positions s.0)) (settled r s) s k other
    ∙ settled-others (position_at r.positions s.0) r s k other

-- and moves its own

committed-own : (found : Option (TableNo × ℕ)) (r : Run) (s : SessionNo) (place base : ℕ) (work : Work) (rest : List Piece)
    → is_over (position_at r.positions s.0) ≡ false
    → position_at (committed_unless found r s place base work rest).positions s.0 ≡ ready (suc place) rest
unfolding committed_unless moved with_done
committed-own None r s place base work rest here = position-own r.positions s.0 _ here
committed-own (Some newer) r s place base work rest here = position-own r.positions s.0 _ here

installed-own : (stale : Bool) (r : Run) (s : SessionNo) (place base : ℕ) (t : TableNo) (column : ColNo) (rest : List Piece)
    → is_over (position_at r.positions s.0) ≡ false
    → position_at (installed_unless stale r s place base t column rest).positions s.0 ≡ ready (suc place) rest
unfolding installed_unless moved with_done
installed-own true r s place base t column rest here = position-own r.positions s.0 _ here
installed-own false r s place base t column rest here = position-own r.positions s.0 _ here

pub settled-own : (p : Position) (r : Run) (s : SessionNo) → position_at r.positions s.0 ≡ p
    → IsReady (settled_from p r s).positions s.0 (unbegun p)
unfolding settled_from unbegun commit_turn install_turn is_over
settled-own (ready place rest) r s here = record { place = place; stands = here }
settled-own (committing place base work rest) r s here =
    record { place = suc place; stands = committed-own (lowest_newer 0 r.stamps base work.touched) r s place base work rest (ap is_over here) }
settled-own (installing place base t column rest) r s here =
    record { place = suc place; stands = installed-own _ r s place base t column rest (ap is_over here) }

begun-own : (wish : Wish) (r : Run) (s : SessionNo) (place : ℕ) (work : Work) (rest : List Piece)
    → is_over (position_at r.positions s.0) ≡ false
    → unbegun (position_at (begun wish r s place work rest).positions s.0) ≡ rest
unfolding begun moved with_done unbegun
begun-own (ends e) r s place work rest here = ap unbegun (position-own r.positions s.0 _ here)
begun-own commits r s place work rest here = ap unbegun (position-own r.positions s.0 _ here)

begin-own : (r : Run) (s : SessionNo) (place : ℕ) (present : Piece) (rest : List Piece)
    → is_over (position_at r.positions s.0) ≡ false
    → unbegun (position_at (begin_turn r s place present rest).positions s.0) ≡ rest
unfolding begin_turn moved unbegun
begin-own r s place (piece.Txn statements rollback) rest here = begun-own _ r s place _ rest here
begin-own r s place (piece.Rebuild t column) rest here = ap unbegun (position-own r.positions s.0 _ here)

pub turn-own : (r : Run) (s : SessionNo) (present : Piece) (rest : List Piece) → IsReady r.positions s.0 (present ∷ rest)
    → unbegun (position_at (take_turn r s).positions s.0) ≡ rest
unfolding take_turn turn_from is_over
turn-own r s present rest h =
    ap (λ p. unbegun (position_at (turn_from p r s).positions s.0)) h.stands
    ∙ begin-own r s h.place present rest (ap is_over h.stands)

pieces-own : (pieces : List Piece) (r : Run) (s : SessionNo) → IsReady r.positions s.0 pieces
    → IsReady (finished_pieces pieces r s).positions s.0 []
unfolding finished_pieces settled
pieces-own [] r s h = h
pieces-own (present ∷ pieces) r s h =
    let turned : Run = take_turn r s in
    pieces-own pieces (settled turned s) s
    (subst (λ l. IsReady (settled turned s).positions s.0 l) (turn-own r s present pieces h)
    (settled-own (position_at turned.positions s.0) turned s refl))

session-own : (r : Run) (s : SessionNo) → IsReady (finished_session r s).positions s.0 []
unfolding finished_session settled
session-own r s =
    pieces-own (unbegun (position_at r.positions s.0)) (settled r s) s (settled-own (position_at r.positions s.0) r s refl)

-- so each session ends, and stays ended

over_stays : (r : Run) (sessions : List SessionNo) (k : ℕ) → IsReady r.positions k [] → IsReady (finished_sessions r sessions).positions k []
unfolding finished_sessions
over_stays r [] k h = h
over_stays r (s ∷ sessions) k h =
    over_stays (finished_session r s) sessions k
    (elim (cases_eq k s.0) as (λ _. IsReady (finished_session r s).positions k []) [
      | inl same ↦ subst (λ j. IsReady (finished_session r s).positions j []) (sym same) (session-own r s)
      | inr other ↦ record { place = h.place; stands = session-others r s k other ∙ h.stands }
    ])

over_gets : (n : ℕ) (scripts : List (List Piece)) (r : Run) (k : ℕ) → n ≤ k → k < n + length scripts
    → IsReady (finished_sessions r (session_numbers n scripts)).positions k []
unfolding finished_sessions session_numbers
over_gets n [] r k low high = absurd (omega (arith, low, high))
over_gets n (script ∷ scripts) r k low high =
    let s : SessionNo = record { 0 = n } in
    elim (cases_eq k n) as (λ _. IsReady (finished_sessions (finished_session r s) (session_numbers (suc n) scripts)).positions k []) [
      | inl same ↦
          over_stays (finished_session r s) (session_numbers (suc n) scripts) k
          (subst (λ j. IsReady (finished_session r s).positions j []) (sym same) (session-own r s))
      | inr other ↦ over_gets (suc n) scripts (finished_session r s) k (omega (arith, low, other)) (omega (arith, high))
    ]

pub all_over : (w : Workload) (r : Run) → length r.positions ≡ length w.sessions → (k : ℕ)
    → IsReady (finished_sessions r (session_numbers 1 w.sessions)).positions k []
unfolding position_at
all_over w r sizes zero = record { place = 1; stands = refl }
all_over w r sizes (suc i) =
    elim (cases_lt i (length w.sessions)) as (λ _. IsReady (finished_sessions r (session_numbers 1 w.sessions)).positions (suc i) []) [
      | inl within ↦ over_gets 1 w.sessions r (suc i) (omega arith) (omega (arith, within))
      | inr past ↦
          over_stays r (session_numbers 1 w.sessions) (suc i)
          (record { place = 1; stands = get_or_past r.positions i (ready 1 []) (omega (arith, sizes, past)) })
    ]

-- and what holds of a run holds of its end

settled_from_holds : (w : Workload) (r : Run) (s : SessionNo) (p : Position) → position_at r.positions s.0 ≡ p → RunHolds w r → RunHolds w (settled_from p r s)
unfolding settled_from
settled_from_holds w r s (ready place rest) here holds = holds
settled_from_holds w r s (committing place base work rest) here holds = commit_holds w r s place base work rest here holds
settled_from_holds w r s (installing place base t column rest) here holds = install_holds w r s place base t column rest here holds

pub settled_holds : (w : Workload) (r : Run) (s : SessionNo) → RunHolds w r → RunHolds w (settled r s)
unfolding settled
settled_holds w r s holds = settled_from_holds w r s (position_at r.positions s.0) refl holds

pieces_hold : (w : Workload) (pieces : List Piece) (r : Run) (s : SessionNo) → RunHolds w r → RunHolds w (finished_pieces pieces r s)
unfolding finished_pieces
pieces_hold w [] r s holds = holds
pieces_hold w (present ∷ pieces) r s holds =
    pieces_hold w pieces (settled (take_turn r s) s) s (settled_holds w (take_turn r s) s (take_turn_holds w r s holds))

pub sessions_hold : (w : Workload) (r : Run) (sessions : List SessionNo) → RunHolds w r → RunHolds w (finished_sessions r sessions)
unfolding finished_sessions finished_session
sessions_hold w r [] holds = holds
sessions_hold w r (s ∷ sessions) holds =
    sessions_hold w (finished_session r s) sessions
    (pieces_hold w (unbegun (position_at r.positions s.0)) (settled r s) s (settled_holds w r s holds))
