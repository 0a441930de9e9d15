use Rattle.std.proofs.Common.{◌∙◌}
use Rattle.command_words.specs.Grammar.{texts}
use Rattle.command_words.proofs.ProgramLemmas.{each_utf8, finds_in, refuses_in}
use Rattle.command_words.proofs.given.parse.Goals as goal

pub returns-in-Ok : goal.returns-in-Ok
returns-in-Ok c =
    finds_in _ (texts c.args.words.now) c.in-Ok.matches c.in_ok-program.ensures (each_utf8 c.args.words.now) c.in-Ok.ensures.matches c.in-Ok.ensures.kinds

pub returns : goal.returns
returns c =
    refuses_in _ (texts c.args.words.now) c.in-Err.error c.in_ok-program.ensures (each_utf8 c.args.words.now)
    (λ memory. c.in_default.not-OutOfMemory (c.kind.ensures ∙ memory)) c.in-Err.ensures.kinds
