-- The plain run is inside that of the world.
use Rattle.std.proofs.Common.{◌≡◌, List, [], ◌∷◌, refl, ap, ◌∙◌, sym}
use Rattle.mope_base.specs.declared.numbers.SessionNo.{SessionNo}
use Rattle.workload.specs.declared.script.Piece.{Piece}
use Rattle.workload.specs.declared.script.Workload.{Workload}
use Rattle.workload.specs.Run.{Run, Position, ready, committing, installing, position_at, turn_from, take_turn, take_turns, settled_from, settled, unbegun, finished_pieces, finished_session, finished_sessions, session_numbers, run}
use Rattle.run_laws.specs.Worlds.{RunSetting}
use Rattle.run_laws.specs.WorldRuns.{WorldRun, first_run, next_from, next_turn, after_taken, world_turn, world_turns, world_settled_from, world_settled, world_finished_pieces, world_finished_session, world_finished, world_run}
use Rattle.run_laws.specs.RunLaws.{IsInside}

taken-plain : (s : RunSetting) (r : WorldRun) (n : SessionNo) (p : Position) → position_at r.plain.positions n.0 ≡ p → (after_taken (next_from s r n p) r n).plain ≡ take_turn r.plain n
unfolding after_taken next_from take_turn turn_from
taken-plain s r n (ready place []) at = ap (λ (q : Position). turn_from q r.plain n) (sym at)
taken-plain s r n (ready place (p ∷ rest)) at = refl
taken-plain s r n (committing place base work rest) at = refl
taken-plain s r n (installing place base t column rest) at = refl

pub turn-inside : (s : RunSetting) (r : WorldRun) (n : SessionNo) → (world_turn s r n).plain ≡ take_turn r.plain n
unfolding world_turn next_turn
turn-inside s r n = taken-plain s r n (position_at r.plain.positions n.0) refl

pub turns-inside : (s : RunSetting) (r : WorldRun) (sessions : List SessionNo) → (world_turns s r sessions).plain ≡ take_turns r.plain sessions
unfolding world_turns take_turns
turns-inside s r [] = refl
turns-inside s r (n ∷ sessions) = turns-inside s (world_turn s r n) sessions ∙ ap (λ (plain : Run). take_turns plain sessions) (turn-inside s r n)

settled-by : (s : RunSetting) (r : WorldRun) (n : SessionNo) (p : Position) → position_at r.plain.positions n.0 ≡ p → (world_settled_from p s r n).plain ≡ settled_from p r.plain n
unfolding world_settled_from settled_from take_turn turn_from
settled-by s r n (ready place rest) at = refl
settled-by s r n (committing place base work rest) at = turn-inside s r n ∙ ap (λ (q : Position). turn_from q r.plain n) at
settled-by s r n (installing place base t column rest) at = turn-inside s r n ∙ ap (λ (q : Position). turn_from q r.plain n) at

pub settled-inside : (s : RunSetting) (r : WorldRun) (n : SessionNo) → (world_settled s r n).plain ≡ settled r.plain n
unfolding world_settled settled
settled-inside s r n = settled-by s r n (position_at r.plain.positions n.0) refl

pieces-inside : (s : RunSetting) (r : WorldRun) (n : SessionNo) (pieces : List Piece) → (world_finished_pieces pieces s r n).plain ≡ finished_pieces pieces r.plain n
unfolding world_finished_pieces finished_pieces
pieces-inside s r n [] = refl
pieces-inside s r n (p ∷ pieces) =
    pieces-inside s (world_settled s (world_turn s r n) n) n pieces
    ∙ ap (λ (plain : Run). finished_pieces pieces plain n) (settled-inside s (world_turn s r n) n ∙ ap (λ (plain : Run). settled plain n) (turn-inside s r n))

pub finished-inside : (s : RunSetting) (r : WorldRun) (sessions : List SessionNo) → (world_finished s r sessions).plain ≡ finished_sessions r.plain sessions
unfolding world_finished finished_sessions world_finished_session finished_session
finished-inside s r [] = refl
finished-inside s r (n ∷ sessions) =
    finished-inside s (world_finished_session s r n) sessions
    ∙ ap (λ (plain : Run). finished_sessions plain sessions)
    (pieces-inside s (world_settled s r n) n (unbegun (position_at r.plain.positions n.0)) ∙ ap (λ (plain : Run). finished_pieces (unbegun (position_at r.plain.positions n.0)) plain n) (settled-inside s r n))

pub plain_run_inside : (s : RunSetting) (w : Workload) (turns : List SessionNo) → IsInside s w turns
unfolding first_run world_run run
plain_run_inside s w turns = record {
  after_turns = turns-inside s (first_run s w) turns;
  finished = finished-inside s (world_turns s (first_run s w) turns) (session_numbers 1 w.sessions)
      ∙ ap (λ (plain : Run). finished_sessions plain (session_numbers 1 w.sessions)) (turns-inside s (first_run s w) turns);
}
