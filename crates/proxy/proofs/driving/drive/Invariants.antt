use Rattle.std.proofs.Common.{◌≡◌, ◌++◌, List, Some}
use Rattle.walk_proto.specs.declared.messages.Exchange.{Exchange}
use Rattle.proxy.specs.Party.{said}
use Rattle.proxy.proofs.DriveLemmas.{Comes, work_in}
use Rattle.proxy.proofs.driving.drive.Given as goal

abbrev pub invariant-exchanges : goal.invariant-exchanges
invariant-exchanges g l =
    (log : List Exchange) × (g.L.Link.exchanges l.link ≡ g.L.Link.exchanges l.fn.link ++ log)
    × Comes l.proxy.phase l.fn.proxy l.proxy log × (said l.proxy.phase ≡ Some l.step)

abbrev pub decreases-exchanges : goal.decreases-exchanges
decreases-exchanges g l = work_in l.proxy
