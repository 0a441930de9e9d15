-- Exchanges between the turns of a connection: each reply is what the connection answers at once.
use Rattle.std.specs.Prelude.{◌≡◌, List, [], ◌∷◌}
use Rattle.walk_proto.specs.declared.messages.Exchange.{Exchange}
use Rattle.server_conn.specs.Connections.{Conn, replies}
use Rattle.server_conn.specs.Serving.{serve}

-- the replies of a log are those of the connection to its requests
unfoldable pub Answers : Conn → List Exchange → Type 0
Answers k [] = Unit {0}
Answers k (e ∷ log) = ((serve e.request k).served ≡ replies e.reply) × Answers (serve e.request k).conn log

-- the connection after the requests of a log
unfoldable pub conn_after : Conn → List Exchange → Conn
conn_after k [] = k
conn_after k (e ∷ log) = conn_after (serve e.request k).conn log
