-- The rows that are found are rows of the table.
use Rattle.std.proofs.Common.{◌∙◌, ◌≡◌, ℕ, List, ap, sym, subst, true}
use Rattle.std.specs.List.{All}
use Rattle.table_model.specs.Soundness.{kept_numbers}
use Rattle.tree_model.specs.Places.{holds}
use Rattle.sql_plan.proofs.RowCodes.{facts-of}
use Rattle.server_conn.proofs.Chosen.{found-held}
use Rattle.server_conn.proofs.querying.rows_reply.Goals as goal

pub bodies_of-requires-clause-rows : goal.bodies_of-requires-clause-rows
bodies_of-requires-clause-rows c =
    subst (λ (ns : List ℕ). All (λ (row : ℕ). holds row (kept_numbers c.args.table.now.shelf.kept) ≡ true) ns) (sym (c.as_slice.ensures ∙ c.in_ok-numbers.ensures))
    (found-held c.args.table.now.shelf c.args.query.now (facts-of c.args.table.now c.columns-width.ensures.table))
