-- Where a session rests stays when another one takes a turn.
use Rattle.std.proofs.Common.{◌≡◌, refl, sym, ◌∙◌, ap, subst, ℕ, zero, suc, ◌≤◌, false, List, [], ◌∷◌, ◌++◌, length, arith}
use Rattle.std.proofs.lemmas.List.{append-nil, length-append, take-append-le, get_or-set_other}
use Rattle.mope_base.specs.declared.numbers.TableNo.{TableNo}
use Rattle.mope_base.specs.declared.numbers.ColNo.{ColNo}
use Rattle.mope_base.specs.declared.numbers.SessionNo.{SessionNo}
use Rattle.versions.specs.declared.turn.Turn.{Turn}
use Rattle.versions.specs.Databases.{Database}
use Rattle.versions.specs.Turns.{replay}
use Rattle.workload.specs.declared.script.DoneTxn.{DoneTxn}
use Rattle.workload.specs.declared.script.Piece.{Piece}
use Rattle.workload.specs.declared.script.Piece.TheVariants as piece
use Rattle.workload.specs.declared.script.Workload.{Workload}
use Rattle.workload.specs.Transaction.{Work}
use Rattle.workload.specs.Run.{Position, ready, committing, installing, position_at}
use Rattle.proxy.specs.Tasks.{closes, rebuilds}
use Rattle.server_conn.specs.Connections.{holds}
use Rattle.plain_db.proofs.StepLemmas.{position-other}
use Rattle.transaction_laws.specs.Standing.{World}
use Rattle.transaction_laws.specs.Transactions.{Tried, held_in, CommitTurns}
use Rattle.run_laws.specs.Worlds.{RunSetting, session_setting, first_version}
use Rattle.run_laws.specs.WorldRuns.{WorldRun, Session, new_session, session_at, with_session, world_at, world_turn}
use Rattle.run_laws.specs.Seats.{Seat, client_closing, done_by, IsEarlier, IsBase, IsReady, IsCommitting, IsInstalling, RestsAt, Rests}
use Rattle.run_laws.specs.SeatLaws.{OthersStay}
use Rattle.run_laws.proofs.Moves.{done-append, Moves, none-taken, begin-moves, rebuild-moves, commit-moves, install-moves}

pub earlier-grows : (first : Database) (turns more : List Turn) (d : Database) → IsEarlier first turns d → IsEarlier first (turns ++ more) d
earlier-grows first turns more d earlier = record {
  taken = earlier.taken;
  within = omega (arith, earlier.within, length-append turns more);
  leads = earlier.leads ∙ ap (λ (l : List Turn). replay l first) (sym (take-append-le earlier.taken turns more earlier.within));
}

session-other : (sessions : List Session) (k m : ℕ) (session : Session) → (m ≡ k → ⊥) → session_at (with_session sessions k session) m ≡ session_at sessions m
unfolding session_at with_session
session-other sessions zero m session other = refl
session-other sessions (suc i) zero session other = refl
session-other sessions (suc i) (suc k) session other = get_or-set_other sessions i k session new_session (λ e. other (ap suc e))

-- what stays for one session when a run goes on
pub record Keeps (r next : WorldRun) (m : ℕ) : Type 0 where
  pub position : position_at next.plain.positions m ≡ position_at r.plain.positions m
  pub done : done_by m next.plain.done ≡ done_by m r.plain.done
  pub session : session_at next.sessions m ≡ session_at r.sessions m
  pub more : List Turn
  pub turns : next.turns ≡ r.turns ++ more
  pub worlds : (base : ℕ) → base ≤ length r.older → world_at next base ≡ world_at r base
  pub longer : length r.older ≤ length next.older

pub keeps-itself : (r : WorldRun) (m : ℕ) → Keeps r r m
keeps-itself r m = record { position = refl; done = refl; session = refl; more = []; turns = sym (append-nil r.turns); worlds = λ base within. refl; longer = omega arith }

pub moves-keep : (r next : WorldRun) (n : SessionNo) (session : Session) (p : Position) (ended : List DoneTxn) (turn : Turn) (m : ℕ) → Moves r next n session p ended turn → (m ≡ n.0 → ⊥) → Keeps r next m
moves-keep r next n session p ended turn m moves other = record {
  position = ap (λ (l : List Position). position_at l m) moves.positions ∙ position-other r.plain.positions n.0 m p other;
  done =
      ap (λ (l : List DoneTxn). done_by m l) moves.done
      ∙ done-append m r.plain.done ended
      ∙ ap (λ (l : List DoneTxn). done_by m r.plain.done ++ l) (moves.own.others m other)
      ∙ append-nil (done_by m r.plain.done);
  session = ap (λ (l : List Session). session_at l m) moves.sessions ∙ session-other r.sessions n.0 m session other;
  more = turn ∷ [];
  turns = moves.turns;
  worlds = moves.worlds;
  longer = moves.longer;
}

pub base-kept : (s : RunSetting) (w : Workload) (r next : WorldRun) (base : ℕ) (d : Database) (more : List Turn) → next.turns ≡ r.turns ++ more → length r.older ≤ length next.older → IsBase s w r base d → IsBase s w next base d
base-kept s w r next base d more turns longer begun = record {
  earlier = subst (λ (l : List Turn). IsEarlier (first_version s w) l d) (sym turns) (earlier-grows (first_version s w) r.turns more d begun.earlier);
  within = omega (arith, begun.within, longer);
  number = begun.number;
  mode = begun.mode;
}

committing-kept : (s : RunSetting) (w : Workload) (r next : WorldRun) (m : SessionNo) (place base : ℕ) (work : Work) (rest : List Piece) (tried : Tried) (seat : Seat) → Keeps r next m.0 → IsCommitting s w r m place base work rest tried seat → IsCommitting s w next m place base work rest tried seat
committing-kept s w r next m place base work rest tried seat keeps rests =
    let world : world_at r base ≡ world_at next base = sym (keeps.worlds base rests.begun.within) in
    record {
      acts = rests.acts;
      version = rests.version;
      begun = base-kept s w r next base rests.version keeps.more keeps.turns keeps.longer rests.begun;
      plain = rests.plain;
      turns =
          subst (λ (x : World). CommitTurns (session_setting s m) rests.acts work.touched (client_closing (closes false rests.acts) place base work.answers rest tried.seals (done_by m.0 next.plain.done)) (held_in s.key rests.version x.stores tried)) world
          (subst (λ (done : List DoneTxn). CommitTurns (session_setting s m) rests.acts work.touched (client_closing (closes false rests.acts) place base work.answers rest tried.seals done) (held_in s.key rests.version (world_at r base).stores tried)) (sym keeps.done) rests.turns);
      client = rests.client ∙ ap (λ (done : List DoneTxn). client_closing (closes false rests.acts) place base work.answers rest tried.seals done) (sym keeps.done);
      conn = rests.conn ∙ ap (λ (x : World). holds (held_in s.key rests.version x.stores tried)) world;
    }

installing-kept : (s : RunSetting) (w : Workload) (r next : WorldRun) (m : SessionNo) (place base : ℕ) (t : TableNo) (column : ColNo) (rest : List Piece) (seals : ℕ) (seat : Seat) → Keeps r next m.0 → IsInstalling s w r m place base t column rest seals seat → IsInstalling s w next m place base t column rest seals seat
installing-kept s w r next m place base t column rest seals seat keeps rests = record {
  version = rests.version;
  begun = base-kept s w r next base rests.version keeps.more keeps.turns keeps.longer rests.begun;
  there = rests.there;
  client = rests.client ∙ ap (λ (done : List DoneTxn). client_closing (rebuilds t column) place base [] rest seals done) (sym keeps.done);
  conn = rests.conn;
}

at-kept : (s : RunSetting) (w : Workload) (r next : WorldRun) (m : SessionNo) (p : Position) (seat : Seat) → Keeps r next m.0 → RestsAt s w r m p seat → RestsAt s w next m p seat
unfolding RestsAt
at-kept s w r next m (ready place script) seat keeps rests =
    subst (λ (x : Session). IsReady place script x.tried.seals (done_by m.0 next.plain.done) seat) (sym keeps.session)
    (subst (λ (done : List DoneTxn). IsReady place script (session_at r.sessions m.0).tried.seals done seat) (sym keeps.done) rests)
at-kept s w r next m (committing place base work rest) seat keeps rests =
    subst (λ (x : Session). IsCommitting s w next m place base work rest x.tried seat) (sym keeps.session) (committing-kept s w r next m place base work rest (session_at r.sessions m.0).tried seat keeps rests)
at-kept s w r next m (installing place base t column rest) seat keeps rests =
    subst (λ (x : Session). IsInstalling s w next m place base t column rest x.tried.seals seat) (sym keeps.session) (installing-kept s w r next m place base t column rest (session_at r.sessions m.0).tried.seals seat keeps rests)

pub rests-kept : (s : RunSetting) (w : Workload) (r next : WorldRun) (m : SessionNo) (seat : Seat) → Keeps r next m.0 → Rests s w r m seat → Rests s w next m seat
unfolding Rests
rests-kept s w r next m seat keeps rests =
    subst (λ (p : Position). RestsAt s w next m p seat) (sym keeps.position) (at-kept s w r next m (position_at r.plain.positions m.0) seat keeps rests)

-- ---- a turn of another session

pub turn-keeps : (s : RunSetting) (r : WorldRun) (n : SessionNo) (p : Position) (m : ℕ) → position_at r.plain.positions n.0 ≡ p → (m ≡ n.0 → ⊥) → Keeps r (world_turn s r n) m
turn-keeps s r n (ready place []) m here other = subst (λ (next : WorldRun). Keeps r next m) (sym (none-taken s r n place here)) (keeps-itself r m)
turn-keeps s r n (ready place (piece.Txn acts rollback ∷ rest)) m here other = moves-keep r (world_turn s r n) n _ _ _ _ m (begin-moves s r n place acts rollback rest here) other
turn-keeps s r n (ready place (piece.Rebuild t column ∷ rest)) m here other = moves-keep r (world_turn s r n) n _ _ _ _ m (rebuild-moves s r n place t column rest here) other
turn-keeps s r n (committing place base work rest) m here other = moves-keep r (world_turn s r n) n _ _ _ _ m (commit-moves s r n place base work rest here) other
turn-keeps s r n (installing place base t column rest) m here other = moves-keep r (world_turn s r n) n _ _ _ _ m (install-moves s r n place base t column rest here) other

pub others_stay : OthersStay
others_stay s w r n m seat other rests = rests-kept s w r (world_turn s r n) m seat (turn-keeps s r n (position_at r.plain.positions n.0) m.0 refl other) rests
