use Rattle.std.proofs.Common.{sym, ◌∙◌}
use Rattle.server_conn.proofs.Awaiting.{may-be-stale}
use Rattle.server_conn.proofs.end_tests.stale.Goals as goal

pub ended-requires : goal.ended-requires
ended-requires c = may-be-stale _ _ c.serve.new.self _ _ _ c.in_ok-serve.ensures.conn (sym c.in_ok-serve.ensures.served ∙ c.in-Install.is)
