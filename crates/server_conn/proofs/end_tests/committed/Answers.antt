use Rattle.std.proofs.Common.{sym, ◌∙◌}
use Rattle.server_conn.proofs.Awaiting.{may-commit}
use Rattle.server_conn.proofs.end_tests.committed.Goals as goal

pub ended-requires : goal.ended-requires
ended-requires c = may-commit _ _ c.serve.new.self c.in_ok-serve.ensures.conn (sym c.in_ok-serve.ensures.served ∙ c.in-Commit.is)
