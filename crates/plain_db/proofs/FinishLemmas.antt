-- What holds of a run holds of its end, where every session has ended; so its history is serial.
use Rattle.std.proofs.Common.{◌≡◌, refl, sym, ◌∙◌, ap, subst, ℕ, zero, suc, ◌<◌, List, [], ◌∷◌, map, get_or, arith}
use Rattle.std.proofs.lemmas.List.{length-map}
use Rattle.mope_base.specs.declared.numbers.SessionNo.{SessionNo}
use Rattle.workload.specs.declared.script.Decl.{Decl}
use Rattle.workload.specs.declared.script.Piece.{Piece}
use Rattle.workload.specs.declared.script.Workload.{Workload}
use Rattle.workload.specs.PlainDatabase.{empty_table, empty_database}
use Rattle.workload.specs.Run.{Run, Position, ready, committing, installing, Stamps, unstamped, number_of, version_of, initial, position_at, turn_from, take_turn, take_turns}
use Rattle.workload.specs.History.{script_of, places_of, places_from}
use Rattle.plain_db.proofs.TableOutcomes.{at, size}
use Rattle.plain_db.proofs.StampLemmas.{stamps_at}
use Rattle.mope_base.specs.Lists.{Each}
use Rattle.plain_db.proofs.RankLemmas.{Pairs}
use Rattle.plain_db.proofs.ChainLemmas.{count_of}
use Rattle.plain_db.proofs.RunInvariant.{StoreHolds, place_in, Doing, SessionHolds, RunHolds}
use Rattle.plain_db.proofs.BeginLemmas.{begin_holds}
use Rattle.plain_db.proofs.CommitLemmas.{commit_holds}
use Rattle.plain_db.proofs.RebuildLemmas.{install_holds}

turn_from_holds : (w : Workload) (r : Run) (s : SessionNo) (p : Position) → position_at r.positions s.0 ≡ p → RunHolds w r → RunHolds w (turn_from p r s)
unfolding turn_from
turn_from_holds w r s (ready place []) here holds = holds
turn_from_holds w r s (ready place (present ∷ rest)) here holds = begin_holds w r s place present rest here holds
turn_from_holds w r s (committing place base work rest) here holds = commit_holds w r s place base work rest here holds
turn_from_holds w r s (installing place base t column rest) here holds = install_holds w r s place base t column rest here holds

pub take_turn_holds : (w : Workload) (r : Run) (s : SessionNo) → RunHolds w r → RunHolds w (take_turn r s)
unfolding take_turn
take_turn_holds w r s holds = turn_from_holds w r s (position_at r.positions s.0) refl holds

pub take_turns_holds : (w : Workload) (r : Run) (turns : List SessionNo) → RunHolds w r → RunHolds w (take_turns r turns)
unfolding take_turns
take_turns_holds w r [] holds = holds
take_turns_holds w r (s ∷ turns) holds = take_turns_holds w (take_turn r s) turns (take_turn_holds w r s holds)

-- before the first turn

unstamped-map : (declarations : List Decl) (i : ℕ) → get_or (map (λ (_ : Decl). unstamped) declarations) i unstamped ≡ unstamped
unstamped-map [] i = refl
unstamped-map (d ∷ declarations) zero = refl
unstamped-map (d ∷ declarations) (suc i) = unstamped-map declarations i

initial_version : (w : Workload) (m : ℕ) → get_or (empty_database w.tables ∷ []) m (empty_database w.tables) ≡ empty_database w.tables
initial_version w zero = refl
initial_version w (suc m) = refl

initial_store : (w : Workload) → StoreHolds w (initial w)
unfolding initial version_of size stamps_at empty_database unstamped
initial_store w =
    let same : (m : ℕ) → version_of (initial w) m ≡ empty_database w.tables = initial_version w in
    record {
      sizes = λ m. ap size (same m) ∙ length-map w.tables (λ _. empty_table) ∙ sym (length-map w.tables (λ (_ : Decl). unstamped));
      unchanged = λ i m above. ap (λ db. at db i) (same m);
      first = refl;
      written = λ t positive. absurd (unstamped_never (ap (λ (s : Stamps). s.written) (unstamped-map w.tables t.0)) positive);
      laid = λ t positive. absurd (unstamped_never (ap (λ (s : Stamps). s.laid) (unstamped-map w.tables t.0)) positive);
    }
  where
    unstamped_never : {n : ℕ} → n ≡ 0 → 0 < n → ⊥
    unstamped_never e positive = omega (arith, e, positive)

pub initial_position : (scripts : List (List Piece)) (i : ℕ) → get_or (map (λ (pieces : List Piece). ready 1 pieces) scripts) i (ready 1 []) ≡ ready 1 (get_or scripts i [])
initial_position [] i = refl
initial_position (script ∷ scripts) zero = refl
initial_position (script ∷ scripts) (suc i) = initial_position scripts i

initial_stands : (w : Workload) (s : ℕ) → position_at (initial w).positions s ≡ ready 1 (script_of w s)
unfolding initial position_at script_of
initial_stands w zero = refl
initial_stands w (suc i) = initial_position w.sessions i

initial_session : (w : Workload) (s : ℕ) → SessionHolds w (initial w) s (ready 1 (script_of w s))
unfolding initial place_in Doing places_of places_from Each
initial_session w s = record {
  finished = [];
  pieces = script_of w s;
  script = refl;
  place = refl;
  places = refl;
  behind = tt;
  doing = refl;
}

pub initial_holds : (w : Workload) → RunHolds w (initial w)
unfolding initial number_of count_of Each Pairs
initial_holds w = record {
  store = initial_store w;
  txns = tt;
  once = λ n below. absurd (omega (arith, below));
  none = λ n above. refl;
  pairs = tt;
  size = length-map w.sessions (λ pieces. ready 1 pieces);
  sessions = λ s. subst (λ p. SessionHolds w (initial w) s p) (sym (initial_stands w s)) (initial_session w s);
}
