-- One exchange of a session: when it can be made, and what comes of it. The definition is our own.
use Rattle.std.specs.Prelude.{◌≡◌, ◌≤◌, ◌<◌, ◌^◌, ℕ, zero, suc, length, List, [], ◌∷◌, ◌++◌, set, Some, None, true}
use Rattle.std.specs.List.{sum_by}
use Rattle.workload.specs.Validity.{numbers_inserted}
use Rattle.workload.specs.declared.script.Decl.{Decl}
use Rattle.mope_base.specs.declared.numbers.SessionNo.{SessionNo}
use Rattle.walk_proto.specs.Rules.{IsRequest, IsReply}
use Rattle.walk_proto.specs.declared.messages.Reply.{Reply}
use Rattle.walk_proto.specs.declared.messages.Request.{Request}
use Rattle.workload.specs.declared.script.Piece.{Piece}
use Rattle.proxy.specs.declared.outcomes.Finished.{Finished}
use Rattle.proxy.specs.declared.outcomes.Settings.{Settings}
use Rattle.proxy.specs.Allowed.{allowed}
use Rattle.proxy.specs.Party.{Phase, fresh, waits, finished, stuck, spent, told, party_of}
use Rattle.server_conn.specs.Connections.{Conn, idle, begins, awaits, Held, commit, install, Served, replies, wants_begin, wants_commit, wants_install}
use Rattle.server_conn.specs.Handling.{running}
use Rattle.server_conn.specs.Serving.{serve}
use Rattle.txn_core.specs.Courses.{Course, IsPast}
use Rattle.versions.specs.Turns.{replay}
use Rattle.step_core.specs.Cores.{Sitting}
use Rattle.step_core.specs.Outcomes.{Outcome, outcome}

-- a connection that asks for a turn waits for it, and the version of a transaction that is to end was the current one
unfoldable pub AsksOn : Course → Served → Conn → Type 0
AsksOn c (replies answer) k = Unit {0}
AsksOn c wants_begin k = k ≡ begins
AsksOn c wants_commit k = (h : Held) × (k ≡ awaits h commit) × IsPast c h.base
AsksOn c (wants_install t column) k = (h : Held) × (k ≡ awaits h (install t column)) × IsPast c h.base

-- a session's request can be sent: some bytes give it and the reply, a turn that is asked for can be taken, and the client allows what
-- comes of it
pub record CanGo (n : SessionNo) (c : Course) (x : Sitting) (r : Request) (came : Outcome) : Type 0 where
  pub readable : IsRequest r
  pub comes : outcome n c.current r x.conn.conn ≡ Some came
  pub answer : IsReply came.reply
  pub allows : allowed x.party.client came.reply ≡ true
  pub asks : AsksOn c (serve r x.conn.conn).served (serve r x.conn.conn).conn

-- a session between two exchanges: it wants to send a request, which can be sent, or has finished
unfoldable pub IsOpenBy : Phase → SessionNo → Course → Sitting → Type 0
IsOpenBy fresh n c x = ⊥
IsOpenBy (waits r) n c x = (came : Outcome) × CanGo n c x r came
IsOpenBy finished n c x = Unit {0}
IsOpenBy (stuck want got) n c x = ⊥
IsOpenBy spent n c x = ⊥

abbrev pub IsOpen : SessionNo → Course → Sitting → Type 0
IsOpen n c x = IsOpenBy x.party.phase n c x × (x.conn ≡ running x.conn.conn)

-- it made its exchange: its client heard the reply, and the turn, if one was asked for, was taken
pub record Went (before after : Course) (x y : Sitting) (came : Outcome) : Type 0 where
  pub party : y.party ≡ told (Some came.reply) x.party
  pub conn : y.conn ≡ running came.conn
  pub turns : after.turns ≡ before.turns ++ came.turns
  pub current : after.current ≡ replay came.turns before.current
  pub first : after.first ≡ before.first

-- it stands at this place, counted from 0
unfoldable pub StandsAt : ℕ → Sitting → List Sitting → Type 0
StandsAt i x [] = ⊥
StandsAt zero x (y ∷ sittings) = y ≡ x
StandsAt (suc i) x (y ∷ sittings) = StandsAt i x sittings

-- the session at a place has heard a reply to its request, and the others are as they were
pub record HasHeard (i : ℕ) (before after : List Sitting) : Type 0 where
  pub old : Sitting
  pub new : Sitting
  pub request : Request
  pub reply : Reply
  pub stood : StandsAt i old before
  pub asked : old.party.phase ≡ waits request
  pub heard : new.party ≡ told (Some reply) old.party
  pub stands : after ≡ set before i new

-- by the session's number; sessions count from 1
unfoldable pub HeardBy : SessionNo → List Sitting → List Sitting → Type 0
HeardBy n before after = (i : ℕ) × (n.0 ≡ suc i) × HasHeard i before after

-- ---- before the first exchange

-- a table has 1 to 8 columns
abbrev pub IsNarrow : Decl → Type 0
IsNarrow d = (1 ≤ length d.columns) × (length d.columns ≤ 8)

-- a script has fewer pieces, and inserts fewer numbers, than there are nonces of a session
abbrev pub IsShort : List Piece → Type 0
IsShort script = (length script < 2 ^ 32) × (sum_by numbers_inserted script < 2 ^ 32)

-- the proxy wants what its client wants first, and the connection has no transaction
unfoldable pub first_sitting : Settings → SessionNo → List Piece → Sitting
first_sitting settings n script = record { party = told None (party_of settings n script); conn = running idle }

-- the sessions of these scripts, from a number on
unfoldable pub first_sittings : Settings → ℕ → List (List Piece) → List Sitting
first_sittings settings number [] = []
first_sittings settings number (script ∷ scripts) = first_sitting settings (record { 0 = number }) script ∷ first_sittings settings (suc number) scripts

-- ---- at the end

-- what a script came to
unfoldable pub finished_of : Sitting → Finished
finished_of x = record { txns = x.party.client.done; log = x.party.log }

abbrev pub HasFinished : Sitting → Type 0
HasFinished x = x.party.phase ≡ finished
