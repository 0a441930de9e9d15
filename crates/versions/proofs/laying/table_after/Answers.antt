use Rattle.std.proofs.Common.{◌++◌, ◌∷◌, [], List, eqb, ap, sym, ◌∙◌, false}
use Rattle.std.proofs.lemmas.List.{append-nil}
use Rattle.mope_base.specs.declared.body.Body.{Body}
use Rattle.tree_model.specs.Columns.{Operation, Lay}
use Rattle.table_model.specs.Steps.{only}
use Rattle.table_model.specs.Operations.{shelf_at}
use Rattle.versions.specs.declared.change.ColumnChange.{ColumnChange}
use Rattle.versions.specs.Changes.{column_changes}
use Rattle.versions.proofs.Listed.{no-steps}
use Rattle.versions.proofs.Tables.{stays-unlaid, steps-there, steps-if-true, eqb-turned}
use Rattle.versions.proofs.laying.table_after.Goals as goal

pub returns-then-eq-clause-changes : goal.returns-then-eq-clause-changes
returns-then-eq-clause-changes c =
    c.in_ok-share.ensures.changes
    ∙ ap (λ (steps : List (List (Operation Body))). c.args.changes.now.items ++ column_changes c.args.version.now.same_time c.args.at.0 0 steps (shelf_at c.args.version.now.shelves c.args.at.0).columns)
    (sym (steps-if-true (eqb c.args.at.0 c.args.table.0) (only c.args.column.0 (Lay ∷ [])) (sym c.if-eq.ensures)))

pub returns-clause-value : goal.returns-clause-value
returns-clause-value c = c.in_ok-share-2.ensures.value ∙ stays-unlaid c.args.version.now c.args.table.0 c.args.column.0 c.args.at.0 (eqb-turned c.args.at.0 c.args.table.0 false (sym c.if-eq.ensures))

pub returns-clause-changes : goal.returns-clause-changes
returns-clause-changes c =
    sym (ap (λ (l : List ColumnChange). c.args.changes.now.items ++ l)
    (ap (λ (steps : List (List (Operation Body))). column_changes c.args.version.now.same_time c.args.at.0 0 steps (shelf_at c.args.version.now.shelves c.args.at.0).columns) (steps-there (eqb c.args.at.0 c.args.table.0) (only c.args.column.0 (Lay ∷ [])) (sym c.if-eq.ensures)) ∙ no-steps c.args.version.now.same_time c.args.at.0 0 (shelf_at c.args.version.now.shelves c.args.at.0).columns)
    ∙ append-nil c.args.changes.now.items)
