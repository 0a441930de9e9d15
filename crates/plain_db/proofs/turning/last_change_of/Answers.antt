use Rattle.std.proofs.Common.{◌∙◌, ap, max, get_or}
use Rattle.plain_db.specs.Running.{changed_in}
use Rattle.plain_db.proofs.TurningLemmas.{changed-left, changed-right}
use Rattle.plain_db.proofs.turning.last_change_of.Goals as goal

pub returns-then-laid-written : goal.returns-then-laid-written
unfolding changed_in
returns-then-laid-written c =
    changed-left c.stamp_of-written.result c.stamp_of-laid.result c.if-laid-written.true
    ∙ ap (λ n. max n c.stamp_of-laid.result) (c.stamp_of-written.ensures ∙ ap (λ l. get_or l c.args.t.0 0) c.as_slice.ensures)
    ∙ ap (λ n. max (get_or c.args.state.now.written c.args.t.0 0) n) (c.stamp_of-laid.ensures ∙ ap (λ l. get_or l c.args.t.0 0) c.as_slice-2.ensures)

pub returns-else-laid-written : goal.returns-else-laid-written
unfolding changed_in
returns-else-laid-written c =
    changed-right c.stamp_of-written.result c.stamp_of-laid.result c.if-laid-written.false
    ∙ ap (λ n. max n c.stamp_of-laid.result) (c.stamp_of-written.ensures ∙ ap (λ l. get_or l c.args.t.0 0) c.as_slice.ensures)
    ∙ ap (λ n. max (get_or c.args.state.now.written c.args.t.0 0) n) (c.stamp_of-laid.ensures ∙ ap (λ l. get_or l c.args.t.0 0) c.as_slice-2.ensures)
