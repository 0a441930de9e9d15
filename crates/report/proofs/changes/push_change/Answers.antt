use Rattle.std.proofs.Common.{◌∙◌, ap, sym, ◌++◌, refl}
use Rattle.report.proofs.Appends.{twice}
use Rattle.report.proofs.ChangedColumns.{lines-changed, none_printed}
use Rattle.report.proofs.changes.push_change.Goals as goal

pub returns-then-is_empty : goal.returns-then-is_empty
returns-then-is_empty c = none_printed c.args.w.now c.args.text.now.items c.args.change.now (c.if-is_empty.ensures.0 refl)

pub returns : goal.returns
returns c =
    twice _ _ _ c.in_ok-push_column_line.ensures c.in_ok-push_summary.ensures
    ∙ ap (λ l. c.args.text.now.items ++ l) (sym (lines-changed c.args.w.now c.args.change.now (λ e. cc (c.if-is_empty.ensures.1 e))))
