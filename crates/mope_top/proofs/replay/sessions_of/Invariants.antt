use Rattle.std.proofs.Common.{◌≡◌, map, take}
use Rattle.versions.specs.declared.turn.Turn.{Turn}
use Rattle.mope_top.proofs.replay.sessions_of.Given as goal

abbrev pub invariant-turns : goal.invariant-turns
invariant-turns l = l.sessions.items ≡ map (λ (turn : Turn). turn.session) (take l.i l.turns)
