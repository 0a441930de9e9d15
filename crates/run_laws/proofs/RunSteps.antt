-- What each turn keeps, every run has.
use Rattle.std.proofs.Common.{List, [], ◌∷◌}
use Rattle.mope_base.specs.declared.numbers.SessionNo.{SessionNo}
use Rattle.workload.specs.declared.script.Piece.{Piece}
use Rattle.workload.specs.declared.script.Workload.{Workload}
use Rattle.workload.specs.Run.{Position, ready, committing, installing, position_at, unbegun, session_numbers}
use Rattle.run_laws.specs.Worlds.{RunSetting}
use Rattle.run_laws.specs.WorldRuns.{WorldRun, first_run, world_turn, world_turns, world_settled_from, world_settled, world_finished_pieces, world_finished_session, world_finished, world_run}

module _ (s : RunSetting) (P : WorldRun → Type 0) (keeps : (r : WorldRun) (n : SessionNo) → P r → P (world_turn s r n)) where
  pub through-turns : (r : WorldRun) (sessions : List SessionNo) → P r → P (world_turns s r sessions)
  unfolding world_turns
  through-turns r [] has = has
  through-turns r (n ∷ sessions) has = through-turns (world_turn s r n) sessions (keeps r n has)

  settled-from : (r : WorldRun) (n : SessionNo) (p : Position) → P r → P (world_settled_from p s r n)
  unfolding world_settled_from
  settled-from r n (ready place rest) has = has
  settled-from r n (committing place base work rest) has = keeps r n has
  settled-from r n (installing place base t column rest) has = keeps r n has

  pub through-settled : (r : WorldRun) (n : SessionNo) → P r → P (world_settled s r n)
  unfolding world_settled
  through-settled r n has = settled-from r n (position_at r.plain.positions n.0) has

  through-pieces : (r : WorldRun) (n : SessionNo) (left : List Piece) → P r → P (world_finished_pieces left s r n)
  unfolding world_finished_pieces
  through-pieces r n [] has = has
  through-pieces r n (p ∷ left) has = through-pieces (world_settled s (world_turn s r n) n) n left (through-settled (world_turn s r n) n (keeps r n has))

  pub through-finished : (r : WorldRun) (sessions : List SessionNo) → P r → P (world_finished s r sessions)
  unfolding world_finished world_finished_session
  through-finished r [] has = has
  through-finished r (n ∷ sessions) has =
      through-finished (world_finished_session s r n) sessions (through-pieces (world_settled s r n) n (unbegun (position_at r.plain.positions n.0)) (through-settled r n has))

  pub through-run : (w : Workload) (turns : List SessionNo) → P (first_run s w) → P (world_run s w turns)
  unfolding world_run
  through-run w turns has = through-finished (world_turns s (first_run s w) turns) (session_numbers 1 w.sessions) (through-turns (first_run s w) turns has)
