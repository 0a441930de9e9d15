-- What holds of every request to every connection: the statements of laws that this crate's functions without a body prove.
use Rattle.std.specs.Prelude.{◌≡◌, ℕ, suc}
use Rattle.walk_proto.specs.declared.messages.Reply.TheVariants as reply
use Rattle.walk_proto.specs.declared.messages.Request.{Request}
use Rattle.server_conn.specs.Connections.{Held, commit, install, Conn, idle, begins, awaits, Served, replies, wants_begin, wants_commit, wants_install}
use Rattle.server_conn.specs.Serving.{serve}

-- a refusal for another reason than a full table changes nothing
abbrev pub RefusalsChangeNothing : Type 0
RefusalsChangeNothing = (r : Request) (k : Conn) (reason value : ℕ) → (serve r k).served ≡ replies (reply.No (suc reason) value) → (serve r k).conn ≡ k

-- after that of a full table there is no transaction
abbrev pub FullEndsTransaction : Type 0
FullEndsTransaction = (r : Request) (k : Conn) (value : ℕ) → (serve r k).served ≡ replies (reply.No 0 value) → (serve r k).conn ≡ idle

-- a turn that is asked for is the one that the connection waits for
unfoldable pub IsAwaited : Served → Conn → Type 0
IsAwaited (replies answer) k = Unit {0}
IsAwaited wants_begin k = k ≡ begins
IsAwaited wants_commit k = (h : Held) × (k ≡ awaits h commit)
IsAwaited (wants_install t column) k = (h : Held) × (k ≡ awaits h (install t column))

abbrev pub AskedTurnsAreAwaited : Type 0
AskedTurnsAreAwaited = (r : Request) (k : Conn) → IsAwaited (serve r k).served (serve r k).conn
