-- A client and a connection that exchange messages between two turns. The definition is our own.
use Rattle.std.specs.Prelude.{◌≡◌, List, length, None}
use Rattle.walk_proto.specs.declared.messages.Exchange.{Exchange}
use Rattle.proxy.specs.Client.{Setting, Client}
use Rattle.proxy.specs.Tasks.{Task}
use Rattle.proxy.specs.Talk.{Talk, AllAllowed, client_after}
use Rattle.server_conn.specs.Connections.{Conn}
use Rattle.server_conn.specs.Logs.{Answers, conn_after}

-- over a log: the requests are those that the client wants, the replies those that the connection gives, and the client allows them all;
-- and what both are afterwards
pub record Meets (s : Setting) (c : Client) (k : Conn) (log : List Exchange) (client : Client) (conn : Conn) : Type 0 where
  pub talk : Talk s c log
  pub allows : AllAllowed s c log
  pub answers : Answers k log
  pub client_is : client_after s c log ≡ client
  pub conn_is : conn_after k log ≡ conn

-- the client with these tasks, and no walk begun
unfoldable pub doing : List Task → Client → Client
doing tasks c = record c { tasks = tasks; looking = None }

-- neither side has a choice: two logs of one length between the same client and connection are one
abbrev pub LogsAreOne : Type 0
LogsAreOne = (s : Setting) (c : Client) (k : Conn) (one other : List Exchange) → Talk s c one → Answers k one → Talk s c other → Answers k other → length one ≡ length other → one ≡ other
