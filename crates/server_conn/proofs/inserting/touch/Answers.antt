-- A table more is touched, and no place is kept.
use Rattle.std.proofs.Common.{refl}
use Rattle.server_conn.proofs.inserting.touch.Goals as goal

pub returns : goal.returns
returns c = record { base = refl; own = refl; touched = c.in_ok-push.ensures.items; ops_are = refl; marks = c.clear.ensures.items; walk = refl }
