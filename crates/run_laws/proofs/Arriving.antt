-- Where a session rests after its own turn.
use Rattle.std.proofs.Common.{◌≡◌, sym, ◌∙◌, ap, subst, ℕ, zero, suc, ◌≤◌, false, List, [], ◌∷◌, ◌++◌, length, get_or, arith}
use Rattle.std.proofs.lemmas.List.{length-append, get_or-set_same}
use Rattle.std.proofs.Math.Seq.{take-append_seam, get_or-append_seam}
use Rattle.mope_base.specs.declared.numbers.TableNo.{TableNo}
use Rattle.mope_base.specs.declared.numbers.ColNo.{ColNo}
use Rattle.mope_base.specs.declared.numbers.SessionNo.{SessionNo}
use Rattle.versions.specs.declared.turn.Turn.{Turn}
use Rattle.versions.specs.Turns.{replay}
use Rattle.workload.specs.declared.script.DoneTxn.{DoneTxn}
use Rattle.workload.specs.declared.script.Piece.{Piece}
use Rattle.workload.specs.declared.script.Workload.{Workload}
use Rattle.workload.specs.Transaction.{Work}
use Rattle.workload.specs.Run.{Position, ready, committing, installing, position_at, number_of}
use Rattle.plain_db.proofs.StepLemmas.{is_over, position-own}
use Rattle.transaction_laws.specs.Transactions.{Tried}
use Rattle.run_laws.specs.Worlds.{RunSetting, first_version}
use Rattle.run_laws.specs.WorldRuns.{WorldRun, Session, new_session, session_at, with_session, world_at}
use Rattle.run_laws.specs.Seats.{Seat, done_by, IsEarlier, IsBase, IsReady, IsCommitting, IsInstalling, RestsAt, Rests}
use Rattle.run_laws.specs.SeatLaws.{IsSession}
use Rattle.run_laws.specs.TellingLaws.{version_now}
use Rattle.run_laws.proofs.Moves.{done-append, Moves}
use Rattle.run_laws.proofs.Paces.{KeepsPace}

session-own : (sessions : List Session) (k : ℕ) (session : Session) → 1 ≤ k → k ≤ length sessions → session_at (with_session sessions k session) k ≡ session
unfolding session_at with_session
session-own sessions zero session from to = absurd (omega (arith, from))
session-own sessions (suc i) session from to = get_or-set_same sessions i session new_session (omega (arith, to))

-- the session itself after its turn
pub record Arrives (r next : WorldRun) (n : ℕ) (after : Session) (p : Position) (ended : List DoneTxn) : Type 0 where
  pub position : position_at next.plain.positions n ≡ p
  pub session : session_at next.sessions n ≡ after
  pub done : done_by n next.plain.done ≡ done_by n r.plain.done ++ ended

pub arrives : (s : RunSetting) (w : Workload) (r next : WorldRun) (n : SessionNo) (session : Session) (p here : Position) (ended : List DoneTxn) (turn : Turn) → KeepsPace s w r → IsSession w n → position_at r.plain.positions n.0 ≡ here → is_over here ≡ false → Moves r next n session p ended turn → Arrives r next n.0 session p ended
arrives s w r next n session p here ended turn pace known stands goes moves = record {
  position = ap (λ (l : List Position). position_at l n.0) moves.positions ∙ position-own r.plain.positions n.0 p (ap is_over stands ∙ goes);
  session = ap (λ (l : List Session). session_at l n.0) moves.sessions ∙ session-own r.sessions n.0 session known.from (omega (arith, known.to, pace.sessions));
  done =
      ap (λ (l : List DoneTxn). done_by n.0 l) moves.done
      ∙ done-append n.0 r.plain.done ended
      ∙ ap (λ (l : List DoneTxn). done_by n.0 r.plain.done ++ l) moves.own.own;
}

-- ---- where it rests

pub rest-ready : (s : RunSetting) (w : Workload) (next : WorldRun) (n : SessionNo) (place : ℕ) (script : List Piece) (seals : ℕ) (done : List DoneTxn) (seat : Seat) → position_at next.plain.positions n.0 ≡ ready place script → (session_at next.sessions n.0).tried.seals ≡ seals → done_by n.0 next.plain.done ≡ done
    → IsReady place script seals done seat → Rests s w next n seat
unfolding Rests RestsAt
rest-ready s w next n place script seals done seat position sealed ended rests =
    subst (λ (p : Position). RestsAt s w next n p seat) (sym position)
    (subst (λ (k : ℕ). IsReady place script k (done_by n.0 next.plain.done) seat) (sym sealed)
    (subst (λ (l : List DoneTxn). IsReady place script seals l seat) (sym ended) rests))

pub rest-committing : (s : RunSetting) (w : Workload) (next : WorldRun) (n : SessionNo) (place base : ℕ) (work : Work) (rest : List Piece) (tried : Tried) (seat : Seat) → position_at next.plain.positions n.0 ≡ committing place base work rest → (session_at next.sessions n.0).tried ≡ tried
    → IsCommitting s w next n place base work rest tried seat → Rests s w next n seat
unfolding Rests RestsAt
rest-committing s w next n place base work rest tried seat position same rests =
    subst (λ (p : Position). RestsAt s w next n p seat) (sym position) (subst (λ (t : Tried). IsCommitting s w next n place base work rest t seat) (sym same) rests)

pub rest-installing : (s : RunSetting) (w : Workload) (next : WorldRun) (n : SessionNo) (place base : ℕ) (t : TableNo) (column : ColNo) (rest : List Piece) (seals : ℕ) (seat : Seat) → position_at next.plain.positions n.0 ≡ installing place base t column rest → (session_at next.sessions n.0).tried.seals ≡ seals
    → IsInstalling s w next n place base t column rest seals seat → Rests s w next n seat
unfolding Rests RestsAt
rest-installing s w next n place base t column rest seals seat position sealed rests =
    subst (λ (p : Position). RestsAt s w next n p seat) (sym position) (subst (λ (k : ℕ). IsInstalling s w next n place base t column rest k seat) (sym sealed) rests)

-- ---- the version that it begins on

pub number-now : (s : RunSetting) (w : Workload) (r : WorldRun) → KeepsPace s w r → (version_now s w r).number ≡ number_of r.plain
number-now s w r pace = pace.stands.number ∙ pace.number

pub mode-now : (s : RunSetting) (w : Workload) (r : WorldRun) → KeepsPace s w r → (version_now s w r).same_time ≡ s.same_time
mode-now s w r pace = pace.stands.mode ∙ pace.mode

pub base-begins : (s : RunSetting) (w : Workload) (r next : WorldRun) (n : SessionNo) (session : Session) (p : Position) (ended : List DoneTxn) (turn : Turn) → KeepsPace s w r → Moves r next n session p ended turn → IsBase s w next (number_of r.plain) (version_now s w r)
unfolding version_now
base-begins s w r next n session p ended turn pace moves = record {
  earlier =
      subst (λ (l : List Turn). IsEarlier (first_version s w) l (version_now s w r)) (sym moves.turns)
      (record {
        taken = length r.turns;
        within = omega (arith, length-append r.turns (turn ∷ []));
        leads = ap (λ (l : List Turn). replay l (first_version s w)) (sym (take-append_seam r.turns (turn ∷ [])));
      });
  within = omega (arith, moves.longer, pace.older);
  number = number-now s w r pace;
  mode = mode-now s w r pace;
}

pub world-begins : (s : RunSetting) (w : Workload) (r next : WorldRun) (n : SessionNo) (session : Session) (p : Position) (ended : List DoneTxn) (turn : Turn) → KeepsPace s w r → Moves r next n session p ended turn → world_at next (number_of r.plain) ≡ r.current
unfolding world_at
world-begins s w r next n session p ended turn pace moves =
    moves.worlds (number_of r.plain) (omega (arith, pace.older))
    ∙ ap (λ (k : ℕ). get_or (r.older ++ r.current ∷ []) k r.current) (sym pace.older)
    ∙ get_or-append_seam r.older r.current [] r.current
