-- Each column gives one body more.
use Rattle.std.proofs.Common.{◌∙◌, Option, IsSome, sym, subst}
use Rattle.std.proofs.lemmas.List.{append-nil}
use Rattle.mope_base.specs.declared.body.Body.{Body}
use Rattle.sql_plan.proofs.RowCodes.{facts-of}
use Rattle.server_conn.specs.Asking.{bodies_by}
use Rattle.server_conn.proofs.Chosen.{body-there, row-more}
use Rattle.server_conn.proofs.selecting.push_row.Goals as goal

pub columns-init : goal.columns-init
unfolding bodies_by
columns-init c = sym (append-nil c.args.bodies.now.items)

pub unwrap-requires : goal.unwrap-requires
unwrap-requires c =
    subst (λ (o : Option Body). IsSome o) (sym c.body.ensures)
    (body-there c.args.table.now.shelf c.args.row _ (facts-of c.args.table.now c.columns-width.ensures.table) c.requires.row (c.requires.columns c.columns.column-index 0 c.columns-test.true))

pub columns-preserved : goal.columns-preserved
columns-preserved c =
    row-more c.args.table.now.shelf c.args.columns.now c.args.row c.columns.column-index c.args.bodies.now.items c.columns.bodies.items c.push.new.self.items c.unwrap.result c.columns-test.true (sym c.body.ensures ∙ c.unwrap.ensures) c.columns.invariant c.in_ok-push.ensures.items
