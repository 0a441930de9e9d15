use Rattle.std.proofs.Common.{◌≡◌, ◌∙◌, ◌-◌, ◌==◌, ◌&&◌, ℕ, Bool, List, true, false, length, ap, sym, map, arith}
use Rattle.std.specs.List.{range_with_len}
use Rattle.server_conn.specs.declared.txn.Mark.{Mark}
use Rattle.server_conn.specs.Checks.{own, are_of, fits_row}
use Rattle.server_conn.specs.Inside.{held_in, mark_of}
use Rattle.server_conn.proofs.Judging.{fits-no, fits-yes}
use Rattle.server_conn.proofs.checks.fits_row.Goals as goal

pub returns-then-not-are_of_columns : goal.returns-then-not-are_of_columns
returns-then-not-are_of_columns c =
    fits-no c.args.txn.now c.args.table c.args.bodies.now c.width-width.result c.width-width.ensures
    (sym (c.if-not-are_of_columns.ensures ∙ ap (λ (ms : List Mark). are_of c.args.table.0 (range_with_len 0 (c.width-width.result - 0)) (map mark_of ms)) c.as_slice.ensures.value))

pub returns : goal.returns
returns c =
    fits-yes c.args.txn.now c.args.table c.args.bodies.now c.width-width.result c.width-width.ensures
    (sym (c.if-not-are_of_columns.ensures ∙ ap (λ (ms : List Mark). are_of c.args.table.0 (range_with_len 0 (c.width-width.result - 0)) (map mark_of ms)) c.as_slice.ensures.value))
