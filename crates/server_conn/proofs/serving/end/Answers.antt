use Rattle.std.proofs.Common.{◌∙◌, ◌==◌, List, length, ap, sym}
use Rattle.versions.specs.declared.op.Op.{Op}
use Rattle.server_conn.proofs.Effects.{end-none, end-empty, end-waits, end-ready}
use Rattle.server_conn.proofs.serving.end.Goals as goal

pub returns-then-not-commit-clause-step : goal.returns-then-not-commit-clause-step
returns-then-not-commit-clause-step c = end-none c.args.txn.now c.args.commit _ c.if-not-commit.true c.closed.ensures.step

pub returns-then-is_empty-clause-step : goal.returns-then-is_empty-clause-step
returns-then-is_empty-clause-step c =
    end-empty c.args.txn.now c.args.commit _ c.if-not-commit.false (sym (c.if-is_empty.ensures ∙ ap (λ (os : List Op). length os == 0) c.as_slice.ensures.value)) c.closed-then-is_empty.ensures.step

pub returns-then-is_empty-clause-ready : goal.returns-then-is_empty-clause-ready
returns-then-is_empty-clause-ready c = c.closed-then-is_empty.ensures.ready

pub returns-clause-step : goal.returns-clause-step
returns-clause-step c = end-waits c.args.txn.now c.args.commit c.if-not-commit.false (sym (c.if-is_empty.ensures ∙ ap (λ (os : List Op). length os == 0) c.as_slice.ensures.value))

pub returns-clause-ready : goal.returns-clause-ready
returns-clause-ready c = end-ready c.args.txn.now (sym (c.if-is_empty.ensures ∙ ap (λ (os : List Op). length os == 0) c.as_slice.ensures.value))
