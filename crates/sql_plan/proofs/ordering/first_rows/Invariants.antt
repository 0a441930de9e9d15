use Rattle.std.proofs.Common.{◌≡◌, ◌≤◌, ◌-◌, take, vec_len}
use Rattle.table_model.specs.Soundness.{kept_numbers}
use Rattle.sql_plan.proofs.ordering.first_rows.Given as goal

abbrev pub invariant-pages : goal.invariant-pages
invariant-pages l = record { few : vec_len l.rows ≤ l.count; so_far : l.rows.items ≡ take (vec_len l.rows) (kept_numbers l.table.shelf.kept) }

abbrev pub decreases-pages : goal.decreases-pages
decreases-pages l = l.count - vec_len l.rows
