-- The run of the world of all sessions under a list of turns, and what the server saw of it. The plain run is inside. The definition is our own.
use Rattle.std.specs.Prelude.{ℕ, zero, suc, Bool, true, false, not, ltb, List, [], ◌∷◌, ◌++◌, map, get_or, set, Option, Some, None}
use Rattle.mope_base.specs.declared.numbers.TableNo.{TableNo}
use Rattle.mope_base.specs.declared.numbers.ColNo.{ColNo}
use Rattle.mope_base.specs.declared.numbers.SessionNo.{SessionNo}
use Rattle.versions.specs.declared.turn.Turn.{Turn}
use Rattle.versions.specs.declared.turn.TurnKind.TheVariants.{Began, Committed, Conflict, Installed, Stale}
use Rattle.walk_proto.specs.declared.messages.Exchange.{Exchange}
use Rattle.walk_proto.specs.declared.messages.How.TheVariants as how
use Rattle.walk_proto.specs.declared.messages.Reply.TheVariants as reply
use Rattle.walk_proto.specs.declared.messages.Request.TheVariants as request
use Rattle.workload.specs.declared.script.Act.{Act}
use Rattle.workload.specs.declared.script.Piece.{Piece}
use Rattle.workload.specs.declared.script.Piece.TheVariants as piece
use Rattle.workload.specs.declared.script.Workload.{Workload}
use Rattle.workload.specs.Run.{Run, Position, ready, committing, installing, initial, position_at, take_turn, unbegun, session_numbers, lowest_newer, last_change, stamps_of}
use Rattle.workload.specs.Transaction.{Trial, going, stopped, Wish, ends, commits, wish_after}
use Rattle.transaction_laws.specs.Standing.{World}
use Rattle.transaction_laws.specs.Transactions.{Tried, tried_on, acts_tried, acts_log, kept_ops}
use Rattle.transaction_laws.specs.Walks.{exchanged}
use Rattle.run_laws.specs.Worlds.{RunSetting, session_setting, first_world, world_with_ops, world_with_install, commit_sums, install_sums}

-- a session: its transaction, or the last one that it had, as it was tried on the version that it began from; and its exchanges
pub record Session : Type 0 where
  pub tried : Tried
  pub log : List Exchange

-- the state of a run: the plain run; the versions of the world before the current one, by number, and the current one; the sessions in
-- order; and the turns that were taken, each with its sums
pub record WorldRun : Type 0 where
  pub plain : Run
  pub older : List World
  pub current : World
  pub sessions : List Session
  pub turns : List Turn

-- a session before its first turn
unfoldable pub new_session : Session
new_session = record { tried = tried_on [] 0; log = [] }

-- the state before the first turn
unfoldable pub first_run : RunSetting → Workload → WorldRun
first_run s w = record {
  plain = initial w;
  older = [];
  current = first_world s w;
  sessions = map (λ (_ : List Piece). new_session) w.sessions;
  turns = [];
}

-- the version of a number
unfoldable pub world_at : WorldRun → ℕ → World
world_at r number = get_or (r.older ++ r.current ∷ []) number r.current

-- a session; sessions count from 1
unfoldable pub session_at : List Session → ℕ → Session
session_at sessions zero = new_session
session_at sessions (suc i) = get_or sessions i new_session

unfoldable pub with_session : List Session → ℕ → Session → List Session
with_session sessions zero session = sessions
with_session sessions (suc i) session = set sessions i session

-- ---- one turn

-- what a turn does: what it is, with its sums; the version that it makes, if it makes one; and its session after it
pub record Taken : Type 0 where
  pub turn : Turn
  pub made : Option World
  pub session : Session

-- the exchange that ends a transaction at once; a commit waits for its turn
unfoldable pub closing : Bool → ℕ → Wish → List Exchange
closing rollback base (ends e) = exchanged (request.End (not rollback)) (reply.Ended how.Closed 0 base) ∷ []
closing rollback base commits = []

-- after a full table nothing follows
unfoldable pub closing_by : Bool → ℕ → Trial → List Exchange
closing_by rollback base (stopped t work) = []
closing_by rollback base (going work) = closing rollback base (wish_after rollback work.ops)

-- the exchanges of a begin turn: BEGIN, those of the statements, and the end, unless it waits
unfoldable pub begin_log : RunSetting → SessionNo → List Act → Bool → World → Tried → List Exchange
begin_log s n acts rollback w from =
    exchanged request.Begin (reply.Ended how.Began 0 w.number)
    ∷ acts_log (session_setting s n) w.same_time acts from ++ closing_by rollback w.number (acts_tried (session_setting s n) w.same_time acts from).plain

-- a begin: the statements are tried on the current version
unfoldable pub begin_taken : RunSetting → World → SessionNo → Session → Piece → Taken
begin_taken s w n session (piece.Txn acts rollback) = record {
  turn = record { session = n; what = Began w.number; changes = [] };
  made = None;
  session = record {
    tried = acts_tried (session_setting s n) w.same_time acts (tried_on w.stores session.tried.seals);
    log = session.log ++ begin_log s n acts rollback w (tried_on w.stores session.tried.seals);
  };
}
begin_taken s w n session (piece.Rebuild t column) = record {
  turn = record { session = n; what = Began w.number; changes = [] };
  made = None;
  session = record { tried = session.tried; log = session.log ++ exchanged request.Begin (reply.Ended how.Began 0 w.number) ∷ [] };
}

-- a session with one exchange more
unfoldable pub having_said : Session → Exchange → Session
having_said session e = record { tried = session.tried; log = session.log ++ e ∷ [] }

-- a commit, by whether a table that it touched was written after its base: the operations, at the places by the base, on the current version
unfoldable pub commit_taken : RunSetting → World → World → SessionNo → Session → Option (TableNo × ℕ) → Taken
commit_taken s base w n session (Some newer) = record {
  turn = record { session = n; what = Conflict newer.0 newer.1; changes = [] };
  made = None;
  session = having_said session (exchanged (request.End true) (reply.Ended how.Conflict newer.0.0 newer.1));
}
commit_taken s base w n session None = record {
  turn = record {
    session = n;
    what = Committed (suc w.number) (kept_ops s.key w.same_time session.tried.ops base.stores);
    changes = commit_sums session.tried.ops w;
  };
  made = Some (world_with_ops session.tried.ops w);
  session = having_said session (exchanged (request.End true) (reply.Ended how.Committed 0 (suc w.number)));
}

-- an install, by whether its table was changed after its base, by the version of that number
unfoldable pub install_taken : World → SessionNo → Session → TableNo → ColNo → Bool → ℕ → Taken
install_taken w n session t column true newer = record {
  turn = record { session = n; what = Stale t newer; changes = [] };
  made = None;
  session = having_said session (exchanged (request.Rebuild t column) (reply.Ended how.Stale t.0 newer));
}
install_taken w n session t column false newer = record {
  turn = record { session = n; what = Installed (suc w.number) t column; changes = install_sums t.0 column.0 w };
  made = Some (world_with_install t.0 column.0 w);
  session = having_said session (exchanged (request.Rebuild t column) (reply.Ended how.Installed 0 (suc w.number)));
}

-- the next turn of a session that stands there in the plain run; one that has ended takes none
unfoldable pub next_from : RunSetting → WorldRun → SessionNo → Position → Option Taken
next_from s r n (ready place []) = None
next_from s r n (ready place (p ∷ rest)) = Some (begin_taken s r.current n (session_at r.sessions n.0) p)
next_from s r n (committing place base work rest) =
    Some (commit_taken s (world_at r base) r.current n (session_at r.sessions n.0) (lowest_newer 0 r.plain.stamps base work.touched))
next_from s r n (installing place base t column rest) =
    Some (install_taken r.current n (session_at r.sessions n.0) t column (ltb base (last_change (stamps_of r.plain t))) (last_change (stamps_of r.plain t)))

unfoldable pub next_turn : RunSetting → WorldRun → SessionNo → Option Taken
next_turn s r n = next_from s r n (position_at r.plain.positions n.0)

-- the versions after a turn
unfoldable pub older_with : Option World → List World → World → List World
older_with None older current = older
older_with (Some made) older current = older ++ current ∷ []

unfoldable pub current_with : Option World → World → World
current_with None current = current
current_with (Some made) current = made

-- a turn was taken
unfoldable pub after_taken : Option Taken → WorldRun → SessionNo → WorldRun
after_taken None r n = r
after_taken (Some taken) r n = record {
  plain = take_turn r.plain n;
  older = older_with taken.made r.older r.current;
  current = current_with taken.made r.current;
  sessions = with_session r.sessions n.0 taken.session;
  turns = r.turns ++ taken.turn ∷ [];
}

-- the next turn of a session
unfoldable pub world_turn : RunSetting → WorldRun → SessionNo → WorldRun
world_turn s r n = after_taken (next_turn s r n) r n

-- the turns that a list of sessions takes
unfoldable pub world_turns : RunSetting → WorldRun → List SessionNo → WorldRun
world_turns s r [] = r
world_turns s r (n ∷ sessions) = world_turns s (world_turn s r n) sessions

-- ---- finishing

-- the commit or install that a session still owes
unfoldable pub world_settled_from : Position → RunSetting → WorldRun → SessionNo → WorldRun
world_settled_from (ready place rest) s r n = r
world_settled_from (committing place base work rest) s r n = world_turn s r n
world_settled_from (installing place base t column rest) s r n = world_turn s r n

unfoldable pub world_settled : RunSetting → WorldRun → SessionNo → WorldRun
world_settled s r n = world_settled_from (position_at r.plain.positions n.0) s r n

-- each of these transactions of a session begins, and settles
unfoldable pub world_finished_pieces : List Piece → RunSetting → WorldRun → SessionNo → WorldRun
world_finished_pieces [] s r n = r
world_finished_pieces (p ∷ pieces) s r n = world_finished_pieces pieces s (world_settled s (world_turn s r n) n) n

-- a session finishes
unfoldable pub world_finished_session : RunSetting → WorldRun → SessionNo → WorldRun
world_finished_session s r n = world_finished_pieces (unbegun (position_at r.plain.positions n.0)) s (world_settled s r n) n

unfoldable pub world_finished : RunSetting → WorldRun → List SessionNo → WorldRun
world_finished s r [] = r
world_finished s r (n ∷ sessions) = world_finished s (world_finished_session s r n) sessions

-- ---- the run

-- a list of sessions takes turns, then sessions 1, 2 and so on finish
unfoldable pub world_run : RunSetting → Workload → List SessionNo → WorldRun
world_run s w turns = world_finished s (world_turns s (first_run s w) turns) (session_numbers 1 w.sessions)

-- what the server saw: each session's exchanges, every cell standing as its seal; and the turns, each with its changes
pub record View : Type 0 where
  pub sessions : List (List Exchange)
  pub turns : List Turn

unfoldable pub seen_in : WorldRun → View
seen_in r = record { sessions = map (λ (session : Session). session.log) r.sessions; turns = r.turns }

unfoldable pub view : RunSetting → Workload → List SessionNo → View
view s w turns = seen_in (world_run s w turns)
