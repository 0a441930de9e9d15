use Rattle.std.proofs.Common.{◌∙◌, ◌==◌, List, length, ap, sym}
use Rattle.mope_base.specs.declared.numbers.TableNo.{TableNo}
use Rattle.versions.specs.declared.op.Op.{Op}
use Rattle.server_conn.specs.declared.txn.Mark.{Mark}
use Rattle.server_conn.proofs.Judging.{is-fresh-marks, is-fresh-ops, is-fresh-rest}
use Rattle.server_conn.proofs.checks.is_fresh.Goals as goal

pub returns-then-not-is_empty : goal.returns-then-not-is_empty
returns-then-not-is_empty c = is-fresh-marks c.args.txn.now (sym (c.if-not-is_empty.ensures ∙ ap (λ (ms : List Mark). length ms == 0) c.as_slice.ensures.value))

pub returns-then-not-is_empty-2 : goal.returns-then-not-is_empty-2
returns-then-not-is_empty-2 c =
    is-fresh-ops c.args.txn.now (sym (c.if-not-is_empty.ensures ∙ ap (λ (ms : List Mark). length ms == 0) c.as_slice.ensures.value))
    (sym (c.if-not-is_empty-2.ensures ∙ ap (λ (os : List Op). length os == 0) c.as_slice-2.ensures.value))

pub returns : goal.returns
returns c =
    c.is_empty-3.ensures ∙ ap (λ (ts : List TableNo). length ts == 0) c.as_slice-3.ensures.value
    ∙ is-fresh-rest c.args.txn.now (sym (c.if-not-is_empty.ensures ∙ ap (λ (ms : List Mark). length ms == 0) c.as_slice.ensures.value))
    (sym (c.if-not-is_empty-2.ensures ∙ ap (λ (os : List Op). length os == 0) c.as_slice-2.ensures.value))
