use Rattle.std.proofs.Common.{◌∙◌, List, None, ap}
use Rattle.proxy.specs.Party.{Party, party_of, told}
use Rattle.workload.specs.declared.script.Piece.{Piece}
use Rattle.step_core.specs.Inside.{sitting_of}
use Rattle.step_core.specs.Sittings.{first_sitting}
use Rattle.step_core.proofs.Started.{as-sitting}
use Rattle.step_core.proofs.starting.first_seat.Goals as goal

pub returns-clause-sitting : goal.returns-clause-sitting
unfolding sitting_of first_sitting
returns-clause-sitting c =
    as-sitting c.next.new.self (told None (party_of c.args.settings c.args.session c.args.script.now)) c.new.result
    (c.in_ok-said.ensures.moves
    ∙ ap (λ (p : Party). told None p) (c.new-proxy.ensures ∙ ap (λ (l : List Piece). party_of c.args.settings c.args.session l) c.in_ok-script.ensures))
    c.new.ensures
