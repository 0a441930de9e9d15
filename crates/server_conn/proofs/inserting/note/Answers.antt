-- The operation comes last, and its table is touched.
use Rattle.std.proofs.Common.{◌∙◌}
use Rattle.server_conn.proofs.inserting.note.Goals as goal

pub returns : goal.returns
returns c =
    let noted = c.in_ok-touch.ensures in
    record { base = noted.base; own = noted.own; touched = noted.touched; ops_are = noted.ops_are ∙ c.in_ok-push.ensures.items; marks = noted.marks; walk = noted.walk }
