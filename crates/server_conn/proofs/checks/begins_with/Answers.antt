use Rattle.std.proofs.Common.{◌∙◌, ◌&&◌, Bool, ap, sym, map, drop}
use Rattle.server_conn.specs.Checks.{are_of}
use Rattle.server_conn.specs.Inside.{mark_of}
use Rattle.server_conn.proofs.Ordering.{first-none, first-some}
use Rattle.server_conn.proofs.checks.begins_with.Goals as goal

pub returns-in-empty-clause-first : goal.returns-in-empty-clause-first
returns-in-empty-clause-first c = λ columns. first-none c.args.table.0 c.args.column c.args.marks.now columns c.in-empty.len_below

pub returns-in-len1-up-clause-first : goal.returns-in-len1-up-clause-first
returns-in-len1-up-clause-first c = λ columns.
    first-some c.args.table.0 c.args.column c.args.marks.now columns _ c.in-len1-up.len_at_least
    ∙ ap (λ (b : Bool). b && are_of c.args.table.0 columns (map mark_of (drop 1 c.args.marks.now))) (sym c.is_of.ensures)
