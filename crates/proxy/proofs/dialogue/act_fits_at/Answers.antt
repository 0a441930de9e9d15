use Rattle.std.proofs.Common.{◌≡◌, ◌∙◌, [], ◌∷◌, ap, sym, subst, length, get_or, ◌<◌, ◌≤◌}
use Rattle.proxy.specs.Allowed.{fits_first}
use Rattle.proxy.specs.Tasks.{acts_of, last_task}
use Rattle.proxy.proofs.StandingLemmas.{acts_at-some, acts_at-none}
use Rattle.proxy.proofs.dialogue.act_fits_at.Goals as goal

pub returns-then-act-acts : goal.returns-then-act-acts
unfolding fits_first
returns-then-act-acts c stop =
    ap (λ l. fits_first stop l c.args.reply.now)
    (acts_at-some (acts_of c.args.piece.now) c.args.act c.index-acts-act.result (last_task c.args.piece.now ∷ [])
    (subst (λ l. c.args.act < length l) c.acts_in-acts.ensures c.if-act-acts.true)
    (subst (λ l. c.index-acts-act.result ≡ get_or l c.args.act c.index-acts-act.result) c.acts_in-acts.ensures c.index-acts-act.is))
    ∙ c.act_fits.ensures stop

pub returns-else-act-acts : goal.returns-else-act-acts
unfolding fits_first
returns-else-act-acts c stop =
    ap (λ l. fits_first stop l c.args.reply.now)
    (acts_at-none (acts_of c.args.piece.now) c.args.act (last_task c.args.piece.now ∷ [])
    (subst (λ l. length l ≤ c.args.act) c.acts_in-acts.ensures c.if-act-acts.false))
    ∙ c.last_fits.ensures stop
