-- The query's parts, each as it is asked.
use Rattle.std.proofs.Common.{◌∙◌, ◌++◌, ℕ, List, [], ap}
use Rattle.sql_plan.specs.declared.bounds.Bound.{Bound}
use Rattle.server_conn.specs.Serving.{tests_of}
use Rattle.server_conn.specs.Asking.{bounds_by, codes_in}
use Rattle.server_conn.proofs.Coding.{query-is}
use Rattle.server_conn.proofs.selecting.query_of.Goals as goal

pub returns : goal.returns
returns c =
    let codes = codes_in c.args.table.now.shelf c.args.marks.now in
    query-is c.args.asked.now codes c.from_vec.result c.order_of.result
    (c.from_vec.ensures ∙ c.in_ok-push_bounds.ensures ∙ ap (λ (bs : List Bound). bs ++ bounds_by (tests_of c.as_slice.result.now codes)) c.new-bounds.ensures.items ∙ ap (λ (conds : List (ℕ × ℕ)). [] ++ bounds_by (tests_of conds codes)) c.as_slice.ensures) c.order_of.ensures
