use Rattle.std.proofs.Common.{◌≡◌, ◌∙◌, ap, sym, ◌&&◌}
use Rattle.proxy.specs.Allowed.{allowed, is_spelled}
use Rattle.proxy.proofs.dialogue.Dialogue.allows.Goals as goal

pub returns-then-fits_task : goal.returns-then-fits_task
unfolding allowed
returns-then-fits_task c =
    c.is_spelled.ensures ∙ ap (λ b. b && is_spelled c.args.reply.now) (sym (sym c.fits_task.ensures ∙ c.if-fits_task.true))

pub returns-else-fits_task : goal.returns-else-fits_task
unfolding allowed
returns-else-fits_task c =
    c.if-fits_task.false ∙ ap (λ b. b && is_spelled c.args.reply.now) (sym (sym c.fits_task.ensures ∙ c.if-fits_task.false))
