-- The turns that a run of the world has taken lead to it, and each let its session take its next turn.
use Rattle.std.proofs.Common.{◌≡◌, refl, sym, ◌∙◌, ap, ℕ, Bool, true, false, List, [], ◌∷◌, ◌++◌, map, Option, Some, None}
use Rattle.std.proofs.lemmas.List.{append-nil, append_assoc, map-append}
use Rattle.mope_base.specs.declared.numbers.TableNo.{TableNo}
use Rattle.mope_base.specs.declared.numbers.ColNo.{ColNo}
use Rattle.mope_base.specs.declared.numbers.SessionNo.{SessionNo}
use Rattle.versions.specs.declared.turn.Turn.{Turn}
use Rattle.workload.specs.declared.script.Piece.{Piece}
use Rattle.workload.specs.declared.script.Piece.TheVariants as piece
use Rattle.workload.specs.Transaction.{Work, Wish, ends, commits}
use Rattle.workload.specs.Run.{Run, Turn as PlainTurn, Position, ready, committing, installing, position_at, moved, with_done, begun, begin_turn, lowest_newer, committed_unless, commit_turn, installed_unless, install_turn, last_change, stamps_of, turn_from, take_turn, take_turns, settled_from, settled, unbegun, finished_pieces, finished_session, finished_sessions, turns_taken}
use Rattle.run_laws.specs.Worlds.{RunSetting}
use Rattle.run_laws.specs.WorldRuns.{WorldRun, Session, Taken, session_at, world_at, begin_taken, commit_taken, install_taken, next_from, next_turn, after_taken, world_turn, world_turns, world_settled_from, world_settled, world_finished_pieces, world_finished_session, world_finished}
use Rattle.run_laws.specs.Honesty.{sessions_of}

-- ---- the plain run inside

plain-from : (s : RunSetting) (r : WorldRun) (n : SessionNo) (p : Position) → position_at r.plain.positions n.0 ≡ p → (after_taken (next_from s r n p) r n).plain ≡ take_turn r.plain n
unfolding next_from after_taken take_turn turn_from
plain-from s r n (ready place []) here = sym (ap (λ (q : Position). turn_from q r.plain n) here)
plain-from s r n (ready place (p ∷ rest)) here = refl
plain-from s r n (committing place base work rest) here = refl
plain-from s r n (installing place base t column rest) here = refl

pub plain-turn : (s : RunSetting) (r : WorldRun) (n : SessionNo) → (world_turn s r n).plain ≡ take_turn r.plain n
unfolding world_turn next_turn
plain-turn s r n = plain-from s r n (position_at r.plain.positions n.0) refl

pub plain-turns : (s : RunSetting) (r : WorldRun) (turns : List SessionNo) → (world_turns s r turns).plain ≡ take_turns r.plain turns
unfolding world_turns take_turns
plain-turns s r [] = refl
plain-turns s r (n ∷ turns) = plain-turns s (world_turn s r n) turns ∙ ap (λ (q : Run). take_turns q turns) (plain-turn s r n)

settled-at : (p : Position) (s : RunSetting) (r : WorldRun) (n : SessionNo) → position_at r.plain.positions n.0 ≡ p → (world_settled_from p s r n).plain ≡ settled_from p r.plain n
unfolding world_settled_from settled_from take_turn turn_from
settled-at (ready place rest) s r n here = refl
settled-at (committing place base work rest) s r n here = plain-turn s r n ∙ ap (λ (q : Position). turn_from q r.plain n) here
settled-at (installing place base t column rest) s r n here = plain-turn s r n ∙ ap (λ (q : Position). turn_from q r.plain n) here

pub plain-settled : (s : RunSetting) (r : WorldRun) (n : SessionNo) → (world_settled s r n).plain ≡ settled r.plain n
unfolding world_settled settled
plain-settled s r n = settled-at (position_at r.plain.positions n.0) s r n refl

plain-pieces : (pieces : List Piece) (s : RunSetting) (r : WorldRun) (n : SessionNo) → (world_finished_pieces pieces s r n).plain ≡ finished_pieces pieces r.plain n
unfolding world_finished_pieces finished_pieces
plain-pieces [] s r n = refl
plain-pieces (p ∷ pieces) s r n =
    plain-pieces pieces s (world_settled s (world_turn s r n) n) n
    ∙ ap (λ (q : Run). finished_pieces pieces q n) (plain-settled s (world_turn s r n) n ∙ ap (λ (q : Run). settled q n) (plain-turn s r n))

plain-session : (s : RunSetting) (r : WorldRun) (n : SessionNo) → (world_finished_session s r n).plain ≡ finished_session r.plain n
unfolding world_finished_session finished_session
plain-session s r n =
    plain-pieces (unbegun (position_at r.plain.positions n.0)) s (world_settled s r n) n
    ∙ ap (λ (q : Run). finished_pieces (unbegun (position_at r.plain.positions n.0)) q n) (plain-settled s r n)

pub plain-finished : (s : RunSetting) (r : WorldRun) (sessions : List SessionNo) → (world_finished s r sessions).plain ≡ finished_sessions r.plain sessions
unfolding world_finished finished_sessions
plain-finished s r [] = refl
plain-finished s r (n ∷ sessions) = plain-finished s (world_finished_session s r n) sessions ∙ ap (λ (q : Run). finished_sessions q sessions) (plain-session s r n)

-- ---- turns that lead from one state to another

-- these turns lead there, and each of them was taken, in the world's run as in the plain one
pub record AreTurned (s : RunSetting) (r next : WorldRun) (turns : List SessionNo) : Type 0 where
  pub lead : world_turns s r turns ≡ next
  pub taken : sessions_of next.turns ≡ sessions_of r.turns ++ turns
  pub plain : turns_taken next.plain ≡ turns_taken r.plain ++ turns

-- some turns do so
pub record IsTurned (s : RunSetting) (r next : WorldRun) : Type 0 where
  pub turns : List SessionNo
  pub are : AreTurned s r next turns

pub world-append : (s : RunSetting) (r : WorldRun) (earlier later : List SessionNo) → world_turns s r (earlier ++ later) ≡ world_turns s (world_turns s r earlier) later
unfolding world_turns
world-append s r [] later = refl
world-append s r (n ∷ earlier) later = world-append s (world_turn s r n) earlier later

pub turned_nowhere : (s : RunSetting) (r : WorldRun) → IsTurned s r r
unfolding world_turns
turned_nowhere s r = record { turns = []; are = record { lead = refl; taken = sym (append-nil (sessions_of r.turns)); plain = sym (append-nil (turns_taken r.plain)) } }

pub turned_on : (s : RunSetting) (r middle next : WorldRun) → IsTurned s r middle → IsTurned s middle next → IsTurned s r next
turned_on s r middle next earlier later = record {
  turns = earlier.turns ++ later.turns;
  are = record {
    lead = world-append s r earlier.turns later.turns ∙ ap (λ (q : WorldRun). world_turns s q later.turns) earlier.are.lead ∙ later.are.lead;
    taken = later.are.taken ∙ ap (λ (l : List SessionNo). l ++ later.turns) earlier.are.taken ∙ append_assoc (sessions_of r.turns) earlier.turns later.turns;
    plain = later.are.plain ∙ ap (λ (l : List SessionNo). l ++ later.turns) earlier.are.plain ∙ append_assoc (turns_taken r.plain) earlier.turns later.turns;
  };
}

-- ---- one turn

plain-moved : (r : Run) (t : PlainTurn) → map (λ (u : PlainTurn). u.session) (r.turns ++ t ∷ []) ≡ turns_taken r ++ t.session ∷ []
unfolding turns_taken
plain-moved r t = map-append (λ (u : PlainTurn). u.session) r.turns (t ∷ [])

begun-taken : (wish : Wish) (r : Run) (n : SessionNo) (place : ℕ) (work : Work) (rest : List Piece) → turns_taken (begun wish r n place work rest) ≡ turns_taken r ++ n ∷ []
unfolding begun moved with_done turns_taken
begun-taken (ends e) r n place work rest = plain-moved r _
begun-taken commits r n place work rest = plain-moved r _

begin-taken : (r : Run) (n : SessionNo) (place : ℕ) (p : Piece) (rest : List Piece) → turns_taken (begin_turn r n place p rest) ≡ turns_taken r ++ n ∷ []
unfolding begin_turn moved turns_taken
begin-taken r n place (piece.Txn acts rollback) rest = begun-taken _ r n place _ rest
begin-taken r n place (piece.Rebuild t column) rest = plain-moved r _

committed-taken : (found : Option (TableNo × ℕ)) (r : Run) (n : SessionNo) (place base : ℕ) (work : Work) (rest : List Piece) → turns_taken (committed_unless found r n place base work rest) ≡ turns_taken r ++ n ∷ []
unfolding committed_unless moved with_done turns_taken
committed-taken None r n place base work rest = plain-moved r _
committed-taken (Some newer) r n place base work rest = plain-moved r _

installed-taken : (stale : Bool) (r : Run) (n : SessionNo) (place base : ℕ) (t : TableNo) (column : ColNo) (rest : List Piece) → turns_taken (installed_unless stale r n place base t column rest) ≡ turns_taken r ++ n ∷ []
unfolding installed_unless moved with_done turns_taken
installed-taken true r n place base t column rest = plain-moved r _
installed-taken false r n place base t column rest = plain-moved r _

begin-session : (s : RunSetting) (r : WorldRun) (n : SessionNo) (session : Session) (p : Piece) → (begin_taken s r.current n session p).turn.session ≡ n
unfolding begin_taken
begin-session s r n session (piece.Txn acts rollback) = refl
begin-session s r n session (piece.Rebuild t column) = refl

commit-session : (s : RunSetting) (r : WorldRun) (base : ℕ) (n : SessionNo) (session : Session) (newer : Option (TableNo × ℕ)) → (commit_taken s (world_at r base) r.current n session newer).turn.session ≡ n
unfolding commit_taken
commit-session s r base n session None = refl
commit-session s r base n session (Some newer) = refl

install-session : (r : WorldRun) (n : SessionNo) (session : Session) (t : TableNo) (column : ColNo) (stale : Bool) (newer : ℕ) → (install_taken r.current n session t column stale newer).turn.session ≡ n
unfolding install_taken
install-session r n session t column true newer = refl
install-session r n session t column false newer = refl

one-turned : (s : RunSetting) (r : WorldRun) (n : SessionNo) (taken : Taken) → world_turn s r n ≡ after_taken (Some taken) r n → taken.turn.session ≡ n → turns_taken (take_turn r.plain n) ≡ turns_taken r.plain ++ n ∷ [] → IsTurned s r (after_taken (Some taken) r n)
unfolding world_turns after_taken sessions_of
one-turned s r n taken is same plain = record {
  turns = n ∷ [];
  are = record {
    lead = is;
    taken = map-append (λ (turn : Turn). turn.session) r.turns (taken.turn ∷ []) ∙ ap (λ (x : SessionNo). sessions_of r.turns ++ x ∷ []) same;
    plain = plain;
  };
}

from-turned : (s : RunSetting) (r : WorldRun) (n : SessionNo) (p : Position) → position_at r.plain.positions n.0 ≡ p → IsTurned s r (after_taken (next_from s r n p) r n)
unfolding next_from world_turn next_turn take_turn turn_from commit_turn install_turn after_taken
from-turned s r n (ready place []) here = turned_nowhere s r
from-turned s r n (ready place (p ∷ rest)) here =
    one-turned s r n (begin_taken s r.current n (session_at r.sessions n.0) p) (ap (λ (q : Position). after_taken (next_from s r n q) r n) here) (begin-session s r n (session_at r.sessions n.0) p)
    (ap (λ (q : Position). turns_taken (turn_from q r.plain n)) here ∙ begin-taken r.plain n place p rest)
from-turned s r n (committing place base work rest) here =
    one-turned s r n (commit_taken s (world_at r base) r.current n (session_at r.sessions n.0) (lowest_newer 0 r.plain.stamps base work.touched)) (ap (λ (q : Position). after_taken (next_from s r n q) r n) here)
    (commit-session s r base n (session_at r.sessions n.0) (lowest_newer 0 r.plain.stamps base work.touched))
    (ap (λ (q : Position). turns_taken (turn_from q r.plain n)) here ∙ committed-taken (lowest_newer 0 r.plain.stamps base work.touched) r.plain n place base work rest)
from-turned s r n (installing place base t column rest) here =
    one-turned s r n (install_taken r.current n (session_at r.sessions n.0) t column _ (last_change (stamps_of r.plain t))) (ap (λ (q : Position). after_taken (next_from s r n q) r n) here)
    (install-session r n (session_at r.sessions n.0) t column _ (last_change (stamps_of r.plain t)))
    (ap (λ (q : Position). turns_taken (turn_from q r.plain n)) here ∙ installed-taken _ r.plain n place base t column rest)

pub turn-turned : (s : RunSetting) (r : WorldRun) (n : SessionNo) → IsTurned s r (world_turn s r n)
unfolding world_turn next_turn
turn-turned s r n = from-turned s r n (position_at r.plain.positions n.0) refl

-- ---- the turns in which sessions finish

settled_from-turned : (p : Position) (s : RunSetting) (r : WorldRun) (n : SessionNo) → IsTurned s r (world_settled_from p s r n)
unfolding world_settled_from
settled_from-turned (ready place rest) s r n = turned_nowhere s r
settled_from-turned (committing place base work rest) s r n = turn-turned s r n
settled_from-turned (installing place base t column rest) s r n = turn-turned s r n

settled-turned : (s : RunSetting) (r : WorldRun) (n : SessionNo) → IsTurned s r (world_settled s r n)
unfolding world_settled
settled-turned s r n = settled_from-turned (position_at r.plain.positions n.0) s r n

pieces-turned : (pieces : List Piece) (s : RunSetting) (r : WorldRun) (n : SessionNo) → IsTurned s r (world_finished_pieces pieces s r n)
unfolding world_finished_pieces
pieces-turned [] s r n = turned_nowhere s r
pieces-turned (p ∷ pieces) s r n =
    let turned : WorldRun = world_turn s r n in
    turned_on s r turned _ (turn-turned s r n) (turned_on s turned (world_settled s turned n) _ (settled-turned s turned n) (pieces-turned pieces s (world_settled s turned n) n))

session-turned : (s : RunSetting) (r : WorldRun) (n : SessionNo) → IsTurned s r (world_finished_session s r n)
unfolding world_finished_session
session-turned s r n = turned_on s r (world_settled s r n) _ (settled-turned s r n) (pieces-turned (unbegun (position_at r.plain.positions n.0)) s (world_settled s r n) n)

pub finished-turned : (s : RunSetting) (r : WorldRun) (sessions : List SessionNo) → IsTurned s r (world_finished s r sessions)
unfolding world_finished
finished-turned s r [] = turned_nowhere s r
finished-turned s r (n ∷ sessions) = turned_on s r (world_finished_session s r n) _ (session-turned s r n) (finished-turned s (world_finished_session s r n) sessions)
