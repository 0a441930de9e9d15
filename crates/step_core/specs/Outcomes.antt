-- What comes of a request at last: its connection answers, or asks for a turn, which is taken on the current version. The definition is our own.
use Rattle.std.specs.Prelude.{◌≡◌, List, [], ◌∷◌, ◌++◌, Option, Some, None, option_map}
use Rattle.mope_base.specs.declared.numbers.SessionNo.{SessionNo}
use Rattle.versions.specs.declared.turn.Turn.{Turn}
use Rattle.versions.specs.declared.turn.TurnKind.{TurnKind}
use Rattle.versions.specs.declared.turn.TurnKind.TheVariants as kind
use Rattle.versions.specs.Databases.{Database}
use Rattle.versions.specs.Turns.{after_turn}
use Rattle.walk_proto.specs.declared.messages.How.TheVariants as how
use Rattle.walk_proto.specs.declared.messages.Reply.{Reply}
use Rattle.walk_proto.specs.declared.messages.Reply.TheVariants as reply
use Rattle.walk_proto.specs.declared.messages.Request.{Request}
use Rattle.server_conn.specs.Connections.{commit, install, Conn, idle, begins, holds, awaits, held_on, Served, replies, wants_begin, wants_commit, wants_install}
use Rattle.server_conn.specs.Handling.{Seen, running, asked_by}
use Rattle.server_conn.specs.Serving.{serve}
use Rattle.server_conn.specs.declared.receipt.Receipt.{Receipt as Exchanged}
use Rattle.server_conn.specs.declared.receipt.Served.{Served as Answered}
use Rattle.server_conn.specs.declared.receipt.Served.TheVariants as answered
use Rattle.txn_core.specs.Courses.{Course}
use Rattle.txn_core.specs.Outcomes.{commit_kind, install_kind, turn_on}

-- the reply, the connection after it, and the turns that were taken: none, or one
pub record Outcome : Type 0 where
  pub reply : Reply
  pub conn : Conn
  pub turns : List Turn

-- the turn that a connection waits for, as it is on the current version
unfoldable pub turn_asked : Conn → Database → Option TurnKind
turn_asked idle d = None
turn_asked begins d = Some (kind.Began d.number)
turn_asked (holds h) d = None
turn_asked (awaits h commit) d = Some (commit_kind d h.base.number h.touched h.ops)
turn_asked (awaits h (install t column)) d = Some (install_kind d h.base.number t column)

-- the reply that tells of a turn
unfoldable pub reply_for : TurnKind → Reply
reply_for (kind.Began number) = reply.Ended how.Began 0 number
reply_for (kind.Committed number ops) = reply.Ended how.Committed 0 number
reply_for (kind.Conflict table number) = reply.Ended how.Conflict table.0 number
reply_for (kind.Installed number table column) = reply.Ended how.Installed 0 number
reply_for (kind.Stale table number) = reply.Ended how.Stale table.0 number

-- the connection after a turn: a begin opens a transaction on the current version, every other turn ends one
unfoldable pub conn_after_turn : TurnKind → Database → Conn
conn_after_turn (kind.Began number) d = holds (held_on d)
conn_after_turn (kind.Committed number ops) d = idle
conn_after_turn (kind.Conflict table number) d = idle
conn_after_turn (kind.Installed number table column) d = idle
conn_after_turn (kind.Stale table number) d = idle

unfoldable pub turn_outcome : SessionNo → Database → TurnKind → Outcome
turn_outcome n d what = record { reply = reply_for what; conn = conn_after_turn what d; turns = turn_on n what d ∷ [] }

-- by what comes of the request: none where a turn is asked for and none is awaited, which is never so
unfoldable pub outcome_by : SessionNo → Database → Served → Conn → Option Outcome
outcome_by n d (replies answer) k = Some (record { reply = answer; conn = k; turns = [] })
outcome_by n d wants_begin k = option_map (turn_outcome n d) (turn_asked k d)
outcome_by n d wants_commit k = option_map (turn_outcome n d) (turn_asked k d)
outcome_by n d (wants_install t column) k = option_map (turn_outcome n d) (turn_asked k d)

-- of a session's request
unfoldable pub outcome : SessionNo → Database → Request → Conn → Option Outcome
outcome n d r k = outcome_by n d (serve r k).served (serve r k).conn

-- ---- a turn that is taken

-- a turn was taken as the connection waited for it: the receipt tells it, the connection is left so, and the state has it
pub record TakesTurn (n : SessionNo) (what : TurnKind) (asked : Conn) (old new : Course) (left : Seen) (x : Exchanged) : Type 0 where
  pub request : x.request ≡ asked_by asked
  pub reply : x.reply ≡ reply_for what
  pub conn : left ≡ running (conn_after_turn what old.current)
  pub turns : new.turns ≡ old.turns ++ turn_on n what old.current ∷ []
  pub current : new.current ≡ after_turn what old.current
  pub first : new.first ≡ old.first

-- a receipt that was handed out is given back, and nothing changes; or the turn is taken
unfoldable pub Settles : SessionNo → Answered → Seen → Seen → Course → Course → Exchanged → Type 0
Settles n (answered.Reply x) before left old new given = (given ≡ x) × (left ≡ before) × (new ≡ old)
Settles n answered.Begin before left old new given = (what : TurnKind) × (turn_asked before.conn old.current ≡ Some what) × TakesTurn n what before.conn old new left given
Settles n answered.Commit before left old new given = (what : TurnKind) × (turn_asked before.conn old.current ≡ Some what) × TakesTurn n what before.conn old new left given
Settles n (answered.Install t column) before left old new given = (what : TurnKind) × (turn_asked before.conn old.current ≡ Some what) × TakesTurn n what before.conn old new left given
