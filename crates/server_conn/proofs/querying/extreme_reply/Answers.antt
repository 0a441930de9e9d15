-- One row, or none.
use Rattle.std.proofs.Common.{◌∙◌, ◌++◌, ◌∷◌, [], List, Option, IsSome, ap, sym, subst, refl}
use Rattle.mope_base.specs.declared.body.Body.{Body}
use Rattle.walk_proto.specs.declared.messages.Reply.TheVariants as reply
use Rattle.sql_plan.proofs.RowCodes.{facts-of}
use Rattle.server_conn.proofs.Chosen.{body-there, extreme-none, extreme-one, extreme-held}
use Rattle.server_conn.proofs.querying.extreme_reply.Goals as goal
use Rattle.server_conn.proofs.querying.extreme_reply.Goals.{in-None, in-Some+in_ok-push-in-Some}

pub extreme-requires-clause-bounds : goal.extreme-requires-clause-bounds
extreme-requires-clause-bounds c = c.requires.bounds

pub extreme-requires-clause-column : goal.extreme-requires-clause-column
extreme-requires-clause-column c = c.requires.column

pub unwrap-requires : goal.unwrap-requires
unwrap-requires c =
    let facts = facts-of c.args.table.now c.columns-width.ensures.table in
    subst (λ (o : Option Body). IsSome o) (sym c.body.ensures)
    (body-there c.args.table.now.shelf c.in-Some.row c.args.column facts (extreme-held c.args.table.now.shelf c.args.query.now.bounds c.args.column c.in-Some.row c.args.greatest facts c.in-Some.ensures) c.requires.column)

pub same-bodies : goal.same-bodies
same-bodies c = refl

pub returns : goal.returns
returns c =
    ap (reply.Rows 1)
    (elim c.match-extreme.branch [
      | in-None w ↦ w.bodies-is ∙ c.new-bodies.ensures ∙ sym (extreme-none c.args.table.now.shelf c.args.query.now.bounds c.args.column c.args.greatest w.in-None.ensures)
      | in-Some+in_ok-push-in-Some w ↦ w.bodies-is ∙ w.in_ok-push-in-Some.ensures.ok ∙ ap (λ (bs : List Body). bs ++ w.unwrap.result ∷ []) c.new-bodies.ensures
          ∙ sym (extreme-one c.args.table.now.shelf c.args.query.now.bounds c.args.column w.in-Some.row c.args.greatest w.unwrap.result w.in-Some.ensures (sym w.body.ensures ∙ w.unwrap.ensures))
    ])
