use Rattle.std.proofs.Common.{false, true, refl, ap, sym, ◌∙◌, ◌++◌, List, ◌≡◌, []}
use Rattle.std.proofs.lemmas.List.{append-nil}
use Rattle.path_code.specs.Sums.{Sum}
use Rattle.versions.specs.declared.change.ColumnChange.{ColumnChange}
use Rattle.versions.specs.Changes.{listed}
use Rattle.versions.proofs.Listed.{listed-unchanged, listed-changed}
use Rattle.versions.proofs.listing.push_change.Goals as goal

pub returns-then-is_empty : goal.returns-then-is_empty
returns-then-is_empty c =
    sym (ap (λ (s : Sum). c.args.changes.now.items ++ listed c.args.table.0 c.args.column.0 s []) (c.if-is_empty.ensures.0 refl)
    ∙ ap (λ (l : List ColumnChange). c.args.changes.now.items ++ l) (listed-unchanged c.args.table.0 c.args.column.0 []) ∙ append-nil c.args.changes.now.items)

pub returns : goal.returns
returns c =
    c.in_ok-push.ensures.items
    ∙ ap (λ (l : List ColumnChange). c.args.changes.now.items ++ l) (sym (listed-changed c.args.table.0 c.args.column.0 c.args.summary (λ same. let h : false ≡ true = c.if-is_empty.ensures.1 same in cc h)))
