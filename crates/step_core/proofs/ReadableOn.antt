-- A step of a run under way leaves exchanges that some bytes give.
use Rattle.std.proofs.Common.{◌≡◌, ap, refl, sym, subst, ℕ, Bool, List, [], ◌∷◌, inl, inr, arith}
use Rattle.std.proofs.lemmas.Bool.{cases_eq}
use Rattle.mope_base.specs.Lists.{Each}
use Rattle.mope_base.specs.declared.numbers.SessionNo.{SessionNo}
use Rattle.versions.specs.Databases.{Database}
use Rattle.walk_proto.specs.Rules.{is_ended}
use Rattle.walk_proto.specs.declared.messages.Exchange.{Exchange}
use Rattle.workload.specs.declared.script.Act.{Act}
use Rattle.workload.specs.declared.script.Piece.{Piece}
use Rattle.workload.specs.declared.script.Piece.TheVariants as piece
use Rattle.workload.specs.declared.script.Workload.{Workload}
use Rattle.workload.specs.Run.{Position, ready, committing, installing, position_at}
use Rattle.workload.specs.Transaction.{Trial, going, stopped, Wish, ends, commits, wish_after}
use Rattle.workload.specs.Validity.{IsValid, IsValidAct}
use Rattle.proxy.specs.Client.{Client, starts, taking_up}
use Rattle.transaction_laws.specs.Readable.{IsReadable}
use Rattle.transaction_laws.specs.Transactions.{MayRun, tried_on, acts_tried, acts_log}
use Rattle.transaction_laws.specs.Walks.{exchanged}
use Rattle.transaction_laws.proofs.Reading.{messages_are_readable}
use Rattle.transaction_laws.proofs.StandingVersions.{standing_runs}
use Rattle.transaction_laws.proofs.Statements.{each-append}
use Rattle.run_laws.specs.Worlds.{RunSetting, session_setting}
use Rattle.run_laws.specs.WorldRuns.{WorldRun, session_at, closing, closing_by}
use Rattle.run_laws.specs.Schedules.{Underway, due_at, with_due, due_after_begin, due_from, stepped}
use Rattle.run_laws.specs.Seats.{Seat}
use Rattle.run_laws.specs.SeatLaws.{IsSession, IsUpheld}
use Rattle.run_laws.specs.TellingLaws.{version_now}
use Rattle.run_laws.proofs.Paces.{KeepsPace}
use Rattle.run_laws.proofs.PaceOfRun.{pace}
use Rattle.run_laws.proofs.Upholding.{due-own, due-other, due-step, turn-step}

-- ---- after a begin

closing-readable : (rollback : Bool) (base : ℕ) (wish : Wish) → Each IsReadable (closing rollback base wish)
unfolding closing exchanged Each is_ended
closing-readable rollback base (ends e) = (record { request = tt; reply = refl }, tt)
closing-readable rollback base commits = tt

closings-readable : (rollback : Bool) (base : ℕ) (t : Trial) → Each IsReadable (closing_by rollback base t)
unfolding closing_by Each
closings-readable rollback base (stopped t work) = tt
closings-readable rollback base (going work) = closing-readable rollback base (wish_after rollback work.ops)

-- a client without answers, after so many seals
client-after : ℕ → Client
client-after seals = record (starts []) { seals = seals }

statements-readable : (s : RunSetting) (w : Workload) (r : WorldRun) (n : SessionNo) (acts : List Act) (seals : ℕ) → KeepsPace s w r → IsValid w → Each (IsValidAct w.tables) acts
    → Each IsReadable (acts_log (session_setting s n) r.current.same_time acts (tried_on r.current.stores seals))
unfolding client-after starts taking_up session_setting
statements-readable s w r n acts seals keeps valid valid_acts =
    let d : Database = version_now s w r in
    let may : MayRun (session_setting s n) w.tables d r.current.stores = standing_runs (session_setting s n) w.tables d r.current keeps.stands keeps.limit valid.tables keeps.declared in
    subst (λ (mode : Bool). Each IsReadable (acts_log (session_setting s n) mode acts (tried_on r.current.stores seals))) keeps.stands.mode
    (messages_are_readable (session_setting s n) w.tables acts (client-after seals) d r.current.stores may valid_acts refl)

begin-readable : (s : RunSetting) (w : Workload) (r : WorldRun) (n : SessionNo) (place : ℕ) (p : Piece) (rest : List Piece) → KeepsPace s w r → IsValid w → position_at r.plain.positions n.0 ≡ ready place (p ∷ rest)
    → Each IsReadable (due_after_begin s r.current n (session_at r.sessions n.0) p)
unfolding due_after_begin Each
begin-readable s w r n place (piece.Txn acts rollback) rest keeps valid here =
    let seals : ℕ = (session_at r.sessions n.0).tried.seals in
    each-append IsReadable _ _
    (statements-readable s w r n acts seals keeps valid (keeps.valid n place (piece.Txn acts rollback) rest here).0)
    (closings-readable rollback r.current.number (acts_tried (session_setting s n) r.current.same_time acts (tried_on r.current.stores seals)).plain)
begin-readable s w r n place (piece.Rebuild t column) rest keeps valid here = tt

-- ---- after any step

from-readable : (s : RunSetting) (w : Workload) (r : WorldRun) (n : SessionNo) (p : Position) → KeepsPace s w r → IsValid w → position_at r.plain.positions n.0 ≡ p → Each IsReadable (due_from s r n p)
unfolding due_from Each
from-readable s w r n (ready place []) keeps valid here = tt
from-readable s w r n (ready place (p ∷ rest)) keeps valid here = begin-readable s w r n place p rest keeps valid here
from-readable s w r n (committing place base work rest) keeps valid here = tt
from-readable s w r n (installing place base t column rest) keeps valid here = tt

-- what a step leaves to a session is some log, and what it leaves to the others is what they had
pub record Leaves (s : RunSetting) (u : Underway) (n : SessionNo) : Type 0 where
  pub log : List Exchange
  pub readable : Each IsReadable log
  pub due : (stepped s u n).due ≡ with_due u.due n.0 log

leaves : (s : RunSetting) (w : Workload) (u : Underway) (n : SessionNo) (log : List Exchange) → KeepsPace s w u.run → IsValid w → due_at u.due n.0 ≡ log → Each IsReadable log → Leaves s u n
unfolding Each
leaves s w u n (e ∷ log) keeps valid due readable = record { log = log; readable = readable.1; due = ap (λ (v : Underway). v.due) (due-step s u n e log due) }
leaves s w u n [] keeps valid due readable = record {
  log = due_from s u.run n (position_at u.run.plain.positions n.0);
  readable = from-readable s w u.run n (position_at u.run.plain.positions n.0) keeps valid refl;
  due = ap (λ (v : Underway). v.due) (turn-step s u n (position_at u.run.plain.positions n.0) due refl);
}

due-readable : (s : RunSetting) (w : Workload) (u : Underway) (d : Database) (seats : List Seat) (n m : SessionNo) → IsUpheld s w u d seats → IsSession w n → IsSession w m → Leaves s u n → Each IsReadable (due_at u.due m.0) → Each IsReadable (due_at (stepped s u n).due m.0)
due-readable s w u d seats n m upheld known there left readable =
    subst (λ (due : List (List Exchange)). Each IsReadable (due_at due m.0)) (sym left.due)
    (elim (cases_eq m.0 n.0) as (λ _. Each IsReadable (due_at (with_due u.due n.0 left.log) m.0)) [
      | inl same ↦
          subst (λ (k : ℕ). Each IsReadable (due_at (with_due u.due n.0 left.log) k)) (sym same)
          (subst (λ (l : List Exchange). Each IsReadable l) (sym (due-own u.due n.0 left.log known.from (omega (arith, known.to, upheld.many_due)))) left.readable)
      | inr other ↦ subst (λ (l : List Exchange). Each IsReadable l) (sym (due-other u.due n.0 m.0 left.log other)) readable
    ])

-- where some bytes give each exchange that remains, it is so after a step
pub readable-on : (s : RunSetting) (w : Workload) (u : Underway) (d : Database) (seats : List Seat) (n : SessionNo) → IsValid w → IsUpheld s w u d seats → IsSession w n
    → ((m : SessionNo) → IsSession w m → Each IsReadable (due_at u.due m.0)) → (m : SessionNo) → IsSession w m → Each IsReadable (due_at (stepped s u n).due m.0)
readable-on s w u d seats n valid upheld known readable m there =
    due-readable s w u d seats n m upheld known there (leaves s w u n (due_at u.due n.0) (pace s w u.run valid upheld.reached) valid refl (readable n known)) (readable m there)
