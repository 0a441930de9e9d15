use Rattle.std.proofs.Common.{◌∙◌, Some, ap}
use Rattle.proxy.proofs.DriveLemmas.{said_ends}
use Rattle.proxy.proofs.tests.ended.Goals as goal

pub finish-done-requires : goal.finish-done-requires
finish-done-requires c = said_ends c.next.new.self.phase (c.in_ok-step.ensures.says ∙ ap (λ s. Some s) c.in-Done.is)
