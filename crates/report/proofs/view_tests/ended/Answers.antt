-- A table of 0 fits each way to end.
use Rattle.std.proofs.Common.{ℕ, IsTrue, refl}
use Rattle.walk_proto.specs.declared.messages.How.{How}
use Rattle.walk_proto.specs.declared.messages.How.TheVariants as how
use Rattle.walk_proto.specs.Rules.{is_ended}
use Rattle.walk_proto.specs.Spelling.{how_byte}
use Rattle.report.proofs.view_tests.ended.Goals as goal

fits : (h : How) → IsTrue (is_ended (how_byte h) 0)
unfolding is_ended
fits how.Began = refl
fits how.Closed = refl
fits how.Committed = refl
fits how.Conflict = refl
fits how.Installed = refl
fits how.Stale = refl

pub returns : goal.returns
returns c = fits c.args.how
