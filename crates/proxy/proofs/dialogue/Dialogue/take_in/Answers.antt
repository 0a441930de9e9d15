use Rattle.proxy.proofs.AnswerLemmas.{heard_nothing}
use Rattle.proxy.proofs.StandingLemmas.{tasks_closing}
use Rattle.proxy.proofs.dialogue.Dialogue.take_in.Goals as goal

pub take_end-requires-clause-tasks : goal.take_end-requires-clause-tasks
take_end-requires-clause-tasks c = tasks_closing c.args.self.now c.in-Closing.is

pub returns-in-Nothing : goal.returns-in-Nothing
returns-in-Nothing c = heard_nothing c.args.self.now c.args.reply.now c.in-Nothing.is c.requires.fits
