-- Runs turn by turn, and the sessions' finish piece by piece.
use Rattle.std.proofs.Common.{◌≡◌, refl, sym, ◌∙◌, ap, subst, ℕ, zero, suc, ◌+◌, ◌<◌, ◌≤◌, List, [], ◌∷◌, ◌++◌, map, drop, take, length, get_or, replicate, ◌⊎◌, inl, inr, Result, Ok, Err, OnOk, arith}
use Rattle.std.proofs.lemmas.Result.{on_ok_weaker}
use Rattle.std.proofs.lemmas.List.{get_or_past, get_or_read, get_or-replicate, length-replicate, length-map, drop_more, drop_all, take_more}
use Rattle.mope_base.specs.declared.numbers.SessionNo.{SessionNo}
use Rattle.workload.specs.declared.plain.PlainDb.{PlainDb}
use Rattle.workload.specs.declared.script.DoneTxn.{DoneTxn}
use Rattle.workload.specs.declared.script.Piece.{Piece}
use Rattle.workload.specs.declared.script.Workload.{Workload}
use Rattle.workload.specs.PlainDatabase.{empty_table, empty_database}
use Rattle.workload.specs.Selection.{ordered}
use Rattle.workload.specs.History.{comes_before, history_of, history}
use Rattle.workload.specs.Run.{Run, Stamps, unstamped, number_of, run, turns_taken, Position, ready, committing, installing, initial, position_at, turn_from, take_turn, take_turns, settled, unbegun, finished_pieces, finished_session, finished_sessions, session_numbers}
use Rattle.plain_db.specs.declared.state.Place.{Place}
use Rattle.plain_db.specs.declared.state.Standing.{Standing}
use Rattle.plain_db.specs.declared.state.Standing.TheVariants as standing
use Rattle.plain_db.specs.declared.state.State.{State}
use Rattle.plain_db.specs.Running.{ShowsStanding, ShowsPlaces, ShowsRun, SettledBy, first_place}
use Rattle.plain_db.proofs.FinishLemmas.{initial_position}
use Rattle.plain_db.specs.Turned.{TurnedBy}
use Rattle.plain_db.specs.Reached.{IsReached, by_turn, by_settling}
use Rattle.plain_db.proofs.OverLemmas.{IsReady, settled-own, turn-own}
use Rattle.plain_db.proofs.ShowingLemmas.{position-here, no_place, shows-turned, shows-settled}
use Rattle.plain_db.proofs.FitLemmas.{reached_holds}
use Rattle.plain_db.proofs.StateLemmas.{place-count}

-- a session that doesn't exist takes no turn
no_turn : (r : Run) (s : SessionNo) → position_at r.positions s.0 ≡ ready 1 [] → take_turn r s ≡ r
unfolding take_turn turn_from
no_turn r s e = ap (λ p. turn_from p r s) e

position-beyond : (positions : List Position) (n : ℕ) → (n ≡ 0) ⊎ (length positions < n) → position_at positions n ≡ ready 1 []
unfolding position_at
position-beyond positions zero h = refl
position-beyond positions (suc i) (inl none) = absurd (omega (arith, none))
position-beyond positions (suc i) (inr past) = get_or_past positions i (ready 1 []) (omega (arith, past))

either-count : (m n k : ℕ) → m ≡ n → (k ≡ 0) ⊎ (m < k) → (k ≡ 0) ⊎ (n < k)
either-count m n k e (inl none) = inl none
either-count m n k e (inr past) = inr (omega (arith, e, past))

pub skipped : (w : Workload) (state : State) (r : Run) (s : SessionNo) → ShowsRun w state r → (s.0 ≡ 0) ⊎ (length state.places < s.0) → ShowsRun w state (take_turn r s)
skipped w state r s h none =
    subst (ShowsRun w state) (sym (no_turn r s (position-beyond r.positions s.0 (either-count (length state.places) (length r.positions) s.0 h.places.sizes none)))) h

-- turns, one more

turns-push : (r : Run) (turns : List SessionNo) (s : SessionNo) → take_turns r (turns ++ s ∷ []) ≡ take_turn (take_turns r turns) s
unfolding take_turns
turns-push r [] s = refl
turns-push r (t ∷ turns) s = turns-push (take_turn r t) turns s

pub turns-more : (r : Run) (turns : List SessionNo) (i : ℕ) (d : SessionNo) → i < length turns
    → take_turn (take_turns r (take i turns)) (get_or turns i d) ≡ take_turns r (take (i + 1) turns)
turns-more r turns i d within =
    sym (ap (λ l. take_turns r l) (take_more turns i d within) ∙ turns-push r (take i turns) (get_or turns i d))

pub turns-reached : (w : Workload) (r : Run) (turns : List SessionNo) → IsReached w r → IsReached w (take_turns r turns)
unfolding take_turns
turns-reached w r [] reached = reached
turns-reached w r (s ∷ turns) reached = turns-reached w (take_turn r s) turns (by_turn r reached s)

-- a session that finishes, after some of its pieces

pub record IsFinishing (w : Workload) (state : State) (s : SessionNo) (left : List Piece) (all : Run) : Type 0 where
  pub now : Run
  pub shows : ShowsRun w state now
  pub reached : IsReached w now
  pub stands : IsReady now.positions s.0 left
  pub rest : finished_pieces left now s ≡ all

-- a session that stands ready by the definition does so by the program
ready-standing : (script : List Piece) (ended : ℕ) (stands : Standing) (p : Position) (place : ℕ) (left : List Piece) → p ≡ ready place left
    → ShowsStanding script ended stands p → left ≡ drop ended script
unfolding ShowsStanding unbegun
ready-standing script ended standing.Ready p place left e is = ap unbegun (sym e ∙ is)
ready-standing script ended (standing.Committing base work) p place left e is = let h : ready place left ≡ committing (suc ended) base is.work (drop (suc ended) script) = sym e ∙ is.stands in cc
ready-standing script ended (standing.Installing base t) p place left e is = let h : ready place left ≡ installing (suc ended) base t is.column (drop (suc ended) script) = sym e ∙ is.stands in cc

pub left-pieces : (w : Workload) (state : State) (r : Run) (s : SessionNo) (k : ℕ) (d : Place) (left : List Piece) → ShowsRun w state r → s.0 ≡ suc k → k < length state.places
    → IsReady r.positions s.0 left → left ≡ drop (get_or state.places k d).ended (get_or w.sessions k [])
left-pieces w state r s k d left h session here is =
    ready-standing (get_or w.sessions k []) (get_or state.places k d).ended (get_or state.places k d).standing (position_at r.positions s.0) is.place left is.stands
    (position-here w state r s k d h session here)

pub finish-start : (w : Workload) (state : State) (r : Run) (s : SessionNo) → ShowsRun w state (settled r s) → IsReached w r
    → IsFinishing w state s (unbegun (position_at r.positions s.0)) (finished_session r s)
unfolding finished_session settled
finish-start w state r s shows reached = record {
  now = settled r s;
  shows = shows;
  reached = by_settling r reached s;
  stands = settled-own (position_at r.positions s.0) r s refl;
  rest = refl;
}

pub finish-more : (w : Workload) (state next : State) (s : SessionNo) (present : Piece) (left : List Piece) (all : Run)
    (finishing : IsFinishing w state s (present ∷ left) all) → ShowsRun w next (settled (take_turn finishing.now s) s)
    → IsFinishing w next s left all
unfolding finished_pieces settled
finish-more w state next s present left all finishing shows =
    let turned : Run = take_turn finishing.now s in
    record {
      now = settled turned s;
      shows = shows;
      reached = by_settling turned (by_turn finishing.now finishing.reached s) s;
      stands =
          subst (λ l. IsReady (settled turned s).positions s.0 l) (turn-own finishing.now s present left finishing.stands)
          (settled-own (position_at turned.positions s.0) turned s refl);
      rest = finishing.rest;
    }

pub finish-end : (w : Workload) (state : State) (s : SessionNo) (left : List Piece) (all : Run) → left ≡ [] → IsFinishing w state s left all → ShowsRun w state all
unfolding finished_pieces
finish-end w state s left all none finishing =
    subst (ShowsRun w state) (sym (ap (λ l. finished_pieces l finishing.now s) none) ∙ finishing.rest) finishing.shows

-- a session's finish is made of turns and settlements
pieces-reached : (w : Workload) (pieces : List Piece) (r : Run) (s : SessionNo) → IsReached w r → IsReached w (finished_pieces pieces r s)
unfolding finished_pieces
pieces-reached w [] r s reached = reached
pieces-reached w (p ∷ pieces) r s reached =
    pieces-reached w pieces (settled (take_turn r s) s) s (by_settling (take_turn r s) (by_turn r reached s) s)

pub session-reached : (w : Workload) (r : Run) (s : SessionNo) → IsReached w r → IsReached w (finished_session r s)
unfolding finished_session
session-reached w r s reached =
    pieces-reached w (unbegun (position_at r.positions s.0)) (settled r s) s (by_settling r reached s)

-- the sessions that finish, after some of them
pub record AreFinishing (w : Workload) (state : State) (k : ℕ) (all : Run) : Type 0 where
  pub now : Run
  pub shows : ShowsRun w state now
  pub reached : IsReached w now
  pub rest : finished_sessions now (session_numbers (suc k) (drop k w.sessions)) ≡ all

pub sessions-start : (w : Workload) (state : State) (r : Run) → ShowsRun w state r → IsReached w r
    → AreFinishing w state 0 (finished_sessions r (session_numbers 1 w.sessions))
sessions-start w state r shows reached = record { now = r; shows = shows; reached = reached; rest = refl }

pub sessions-more : (w : Workload) (state next : State) (k n : ℕ) (s : SessionNo) (all : Run) (finishing : AreFinishing w state k all) → k < length w.sessions
    → s.0 ≡ suc k → n ≡ suc k → ShowsRun w next (finished_session finishing.now s) → AreFinishing w next n all
unfolding finished_sessions session_numbers
sessions-more w state next k n s all finishing within session count shows =
    let same : s ≡ record { 0 = suc k } = ap (λ m. let t : SessionNo = record { 0 = m } in t) session in
    let plus : k + 1 ≡ suc k = omega arith in
    record {
      now = finished_session finishing.now s;
      shows = shows;
      reached = session-reached w finishing.now s finishing.reached;
      rest =
          ap (λ m. finished_sessions (finished_session finishing.now s) (session_numbers (suc m) (drop m w.sessions))) count
          ∙ ap (λ t. finished_sessions (finished_session finishing.now t) (session_numbers (suc (suc k)) (drop (suc k) w.sessions))) same
          ∙ ap (λ m. finished_sessions (finished_session finishing.now (record { 0 = suc k })) (session_numbers (suc (suc k)) (drop m w.sessions))) (sym plus)
          ∙ sym (ap (λ l. finished_sessions finishing.now (session_numbers (suc k) l)) (drop_more w.sessions k [] within))
          ∙ finishing.rest;
    }

pub sessions-end : (w : Workload) (state : State) (k : ℕ) (all : Run) → length w.sessions ≤ k → AreFinishing w state k all → ShowsRun w state all
unfolding finished_sessions session_numbers
sessions-end w state k all past finishing =
    subst (ShowsRun w state) (sym (ap (λ l. finished_sessions finishing.now (session_numbers (suc k) l)) (drop_all k w.sessions past)) ∙ finishing.rest) finishing.shows

-- the script that the program reads
pub script-read : (w : Workload) (all : List (List Piece)) (k : ℕ) (script : List Piece) → all ≡ w.sessions → script ≡ get_or all k script → k < length w.sessions
    → script ≡ get_or w.sessions k []
script-read w all k script same here within = get_or_read w.sessions k script within (here ∙ ap (λ l. get_or l k script) same) []

-- a claim for each place that stands past the last

on_ok_places : {T E : Type 0} (r : Result T E) (Q : Place → Type 0) → ((d : Place) → OnOk r (Q d)) → OnOk r ((d : Place) → Q d)
on_ok_places (Ok x) Q h = λ d. h d
on_ok_places (Err e) Q h = tt

pub on_ok_turned : {T E : Type 0} (result : Result T E) (w : Workload) (state new : State) (r : Run) (s : SessionNo) (k : ℕ) → ShowsRun w state r → IsReached w r → s.0 ≡ suc k → k < length state.places
    → ((d : Place) → OnOk result (TurnedBy (get_or w.sessions k []) (get_or state.places k d).standing state new s k (get_or state.places k d).ended))
    → OnOk result (ShowsRun w new (take_turn r s))
on_ok_turned result w state new r s k h reached session here by =
    on_ok_weaker result (λ turned. shows-turned w state new r s k h (reached_holds w r reached) session here turned) (on_ok_places result _ by)

pub on_ok_settled : {T E : Type 0} (result : Result T E) (w : Workload) (state new : State) (r : Run) (s : SessionNo) (k : ℕ) → ShowsRun w state r → IsReached w r → s.0 ≡ suc k → k < length state.places
    → ((d : Place) → OnOk result (SettledBy (get_or w.sessions k []) (get_or state.places k d).standing state new s k (get_or state.places k d).ended))
    → OnOk result (ShowsRun w new (settled r s))
on_ok_settled result w state new r s k h reached session here by =
    on_ok_weaker result (λ settled. shows-settled w state new r s k h (reached_holds w r reached) session here settled) (on_ok_places result _ by)

-- after what the session owed is settled, the pieces are left that the program hasn't ended
pub finish-begin : (w : Workload) (state : State) (r : Run) (s : SessionNo) (k first : ℕ) → ShowsRun w state (settled r s) → IsReached w r
    → s.0 ≡ suc k → k < length w.sessions → first ≡ (get_or state.places k no_place).ended
    → IsFinishing w state s (drop first (get_or w.sessions k [])) (finished_session r s)
unfolding settled
finish-begin w state r s k first shows reached session here count =
    let here_too : k < length state.places = omega (arith, here, place-count w state (settled r s) shows (by_settling r reached s)) in
    let left : unbegun (position_at r.positions s.0) ≡ drop first (get_or w.sessions k []) =
    left-pieces w state (settled r s) s k no_place (unbegun (position_at r.positions s.0)) shows session here_too
    (settled-own (position_at r.positions s.0) r s refl)
    ∙ ap (λ n. drop n (get_or w.sessions k [])) (sym count) in
    subst (λ l. IsFinishing w state s l (finished_session r s)) left (finish-start w state r s shows reached)

-- before the first turn

map-same : {A B : Type 0} (y : B) (xs : List A) → map (λ (_ : A). y) xs ≡ replicate (length xs) y
map-same y [] = refl
map-same y (x ∷ xs) = ap (λ l. y ∷ l) (map-same y xs)

map-twice : {A B C : Type 0} (y : B) (f : B → C) (xs : List A) → map f (map (λ (_ : A). y) xs) ≡ replicate (length xs) (f y)
map-twice y f [] = refl
map-twice y f (x ∷ xs) = ap (λ l. f y ∷ l) (map-twice y f xs)

starts-places : (w : Workload) (places : List Place) → places ≡ replicate (length w.sessions) first_place → ShowsPlaces w places (map (λ (pieces : List Piece). ready 1 pieces) w.sessions)
unfolding ShowsStanding first_place
starts-places w places is = record {
  sizes = ap length is ∙ length-replicate (length w.sessions) first_place ∙ sym (length-map w.sessions (λ (pieces : List Piece). ready 1 pieces));
  each = λ i d within.
      let place : get_or places i d ≡ first_place =
      ap (λ l. get_or l i d) is ∙ get_or-replicate (length w.sessions) i first_place d (omega (arith, within, ap length is, length-replicate (length w.sessions) first_place)) in
      subst (λ (p : Place). ShowsStanding (get_or w.sessions i []) p.ended p.standing (get_or (map (λ (pieces : List Piece). ready 1 pieces) w.sessions) i (ready 1 [])))
      (sym place) (initial_position w.sessions i);
}

pub starts : (w : Workload) (state : State) → state.version ≡ 0 → state.current.tables ≡ replicate (length w.tables) empty_table
    → state.written ≡ replicate (length w.tables) 0 → state.laid ≡ replicate (length w.tables) 0 → state.places ≡ replicate (length w.sessions) first_place
    → state.taken ≡ [] → state.done ≡ [] → ShowsRun w state (initial w)
unfolding initial number_of empty_database unstamped
starts w state version tables written laid places taken done = record {
  version = version;
  current = ap (λ l. let db : PlainDb = record { tables = l } in db) (tables ∙ sym (map-same empty_table w.tables));
  written = written ∙ sym (map-twice unstamped (λ (s : Stamps). s.written) w.tables);
  laid = laid ∙ sym (map-twice unstamped (λ (s : Stamps). s.laid) w.tables);
  places = starts-places w state.places places;
  taken = taken;
  done = done;
}

-- what the program gives at the end

pub gives-turns : (w : Workload) (turns : List SessionNo) (state : State) → ShowsRun w state (run w turns) → state.taken ≡ turns_taken (run w turns)
unfolding turns_taken
gives-turns w turns state h = h.taken

pub gives-history : (w : Workload) (turns : List SessionNo) (state : State) (sorted : List DoneTxn) → ShowsRun w state (run w turns)
    → sorted ≡ ordered comes_before state.done → sorted ≡ history (run w turns)
unfolding history history_of
gives-history w turns state sorted h is = is ∙ ap (λ l. ordered comes_before l) h.done
