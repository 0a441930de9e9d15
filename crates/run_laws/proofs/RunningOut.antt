-- Steps of a session run out.
use Rattle.std.proofs.Common.{◌≡◌, refl, sym, ◌∙◌, ap, ℕ, zero, suc, ◌*◌, ◌<◌, ◌≤◌, List, [], ◌∷◌, length, get_or, set, inl, inr, arith}
use Rattle.std.proofs.lemmas.Bool.{cases_lt}
use Rattle.std.proofs.lemmas.List.{get_or_past, get_or-set_same}
use Rattle.mope_base.specs.declared.numbers.SessionNo.{SessionNo}
use Rattle.walk_proto.specs.declared.messages.Exchange.{Exchange}
use Rattle.workload.specs.declared.script.Piece.{Piece}
use Rattle.workload.specs.Run.{Run, Position, ready, committing, installing, position_at, turn_from, take_turn, settled_from, unbegun}
use Rattle.plain_db.proofs.OverLemmas.{IsReady, settled-own, turn-own}
use Rattle.run_laws.specs.Worlds.{RunSetting}
use Rattle.run_laws.specs.WorldRuns.{WorldRun, world_turn}
use Rattle.run_laws.specs.Schedules.{Underway, due_at, with_due, stepped_by, stepped}
use Rattle.run_laws.specs.ScheduleLaws.{HasNothingLeft, turns_left, RunsOut, StepsRunOut}
use Rattle.run_laws.proofs.WorldTurned.{plain-turn}

some-due : (log more : List Exchange) (e : Exchange) → log ≡ [] → log ≡ e ∷ more → ⊥
some-due log more e none some = omega (arith, ap length (sym none ∙ some))

due-less : (due : List (List Exchange)) (k : ℕ) (e : Exchange) (log : List Exchange) → due_at due k ≡ e ∷ log → due_at (with_due due k log) k ≡ log
unfolding due_at with_due
due-less due zero e log is = absurd (some-due [] log e refl is)
due-less due (suc i) e log is =
    elim (cases_lt i (length due)) as (λ _. get_or (set due i log) i [] ≡ log) [
      | inl within ↦ get_or-set_same due i log [] within
      | inr past ↦ absurd (some-due (get_or due i []) log e (get_or_past due i [] past) is)
    ]

left-most : (p : Position) → turns_left p ≤ suc (2 * length (unbegun p))
unfolding turns_left unbegun
left-most (ready place rest) = omega arith
left-most (committing place base work rest) = omega arith
left-most (installing place base t column rest) = omega arith

-- a begin leaves one piece fewer to begin
begin-less : (s : RunSetting) (r : WorldRun) (n : SessionNo) (place : ℕ) (p : Piece) (rest : List Piece) → position_at r.plain.positions n.0 ≡ ready place (p ∷ rest) → turns_left (position_at (world_turn s r n).plain.positions n.0) < turns_left (ready place (p ∷ rest))
unfolding turns_left
begin-less s r n place p rest here =
    let next : Position = position_at (world_turn s r n).plain.positions n.0 in
    let left : unbegun next ≡ rest = ap (λ (q : Run). unbegun (position_at q.positions n.0)) (plain-turn s r n) ∙ turn-own r.plain n p rest (record { place = place; stands = here }) in
    let most : turns_left next ≤ suc (2 * length (unbegun next)) = left-most next in
    let count : length (unbegun next) ≡ length rest = ap length left in
    omega (arith, most, count)

-- after a commit or an install its session is ready
settled-less : (s : RunSetting) (r : WorldRun) (n : SessionNo) (p : Position) → position_at r.plain.positions n.0 ≡ p → turn_from p r.plain n ≡ settled_from p r.plain n → turns_left (position_at (world_turn s r n).plain.positions n.0) ≡ 2 * length (unbegun p)
unfolding take_turn turns_left
settled-less s r n p here is =
    let ready_there : IsReady (settled_from p r.plain n).positions n.0 (unbegun p) = settled-own p r.plain n here in
    let turned : (world_turn s r n).plain ≡ settled_from p r.plain n = plain-turn s r n ∙ ap (λ (q : Position). turn_from q r.plain n) here ∙ is in
    ap (λ (q : Run). turns_left (position_at q.positions n.0)) turned ∙ ap turns_left ready_there.stands

turn-less : (s : RunSetting) (r : WorldRun) (n : SessionNo) (p : Position) → position_at r.plain.positions n.0 ≡ p → ((place : ℕ) → p ≡ ready place [] → ⊥) → turns_left (position_at (world_turn s r n).plain.positions n.0) < turns_left p
unfolding turns_left turn_from settled_from unbegun
turn-less s r n (ready place []) here goes = absurd (goes place refl)
turn-less s r n (ready place (p ∷ rest)) here goes = begin-less s r n place p rest here
turn-less s r n (committing place base work rest) here goes =
    let is : turns_left (position_at (world_turn s r n).plain.positions n.0) ≡ 2 * length rest = settled-less s r n (committing place base work rest) here refl in omega (arith, is)
turn-less s r n (installing place base t column rest) here goes =
    let is : turns_left (position_at (world_turn s r n).plain.positions n.0) ≡ 2 * length rest = settled-less s r n (installing place base t column rest) here refl in omega (arith, is)

by-less : (s : RunSetting) (log : List Exchange) (u : Underway) (n : SessionNo) → due_at u.due n.0 ≡ log → (HasNothingLeft u n → ⊥) → RunsOut log u (stepped_by s log u n) n
unfolding stepped_by RunsOut
by-less s [] u n rests goes =
    turn-less s u.run n (position_at u.run.plain.positions n.0) refl (λ (place : ℕ) (over : position_at u.run.plain.positions n.0 ≡ ready place []). goes (record { rests = rests; place = place; over = over }))
by-less s (e ∷ log) u n rests goes = (due-less u.due n.0 e log rests, refl)

pub steps_run_out : StepsRunOut
unfolding stepped
steps_run_out s u n goes = by-less s (due_at u.due n.0) u n refl goes
