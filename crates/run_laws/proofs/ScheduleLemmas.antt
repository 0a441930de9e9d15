-- Laws of schedules: their turns are complete, and a step is one on its session's way to its end.
use Rattle.std.proofs.Common.{◌≡◌, refl, sym, ◌∙◌, ap, subst, ℕ, zero, suc, List, [], ◌∷◌, length, set}
use Rattle.std.proofs.lemmas.List.{set-get_or}
use Rattle.mope_base.specs.declared.numbers.SessionNo.{SessionNo}
use Rattle.walk_proto.specs.declared.messages.Exchange.{Exchange}
use Rattle.workload.specs.declared.script.Piece.{Piece}
use Rattle.workload.specs.declared.script.Workload.{Workload}
use Rattle.workload.specs.Run.{Run, Position, ready, committing, installing, initial, position_at, take_turns, unbegun, settled, finished_sessions, session_numbers, turns_taken, SkipsNone, LeavesNone, run}
use Rattle.plain_db.proofs.RunInvariant.{RunHolds}
use Rattle.plain_db.proofs.FinishLemmas.{initial_holds, take_turns_holds}
use Rattle.plain_db.proofs.OverLemmas.{IsReady, all_over, settled-own, turn-own}
use Rattle.plain_db.proofs.Taken.{exact-complete}
use Rattle.run_laws.specs.Worlds.{RunSetting}
use Rattle.run_laws.specs.WorldRuns.{WorldRun, first_run, next_from, next_turn, after_taken, world_turn, world_turns, world_settled_from, world_settled, world_finished_pieces, world_finished_session, world_finished, world_run}
use Rattle.run_laws.specs.Honesty.{sessions_of}
use Rattle.run_laws.specs.Schedules.{Underway, due_at, with_due, first_underway, due_from, stepped_by, stepped, scheduled, run_under, turns_under}
use Rattle.run_laws.specs.ScheduleLaws.{TurnsUnderAreComplete, TurnsUnderGiveRun, EndedStays, EndedIsFinished, StepsFinish}
use Rattle.run_laws.proofs.WorldTurned.{plain-turn, plain-turns, plain-settled, plain-finished, IsTurned, turned_nowhere, turned_on, turn-turned, finished-turned}

-- ---- the turns of a schedule

by-turned : (s : RunSetting) (log : List Exchange) (u : Underway) (n : SessionNo) → IsTurned s u.run (stepped_by s log u n).run
unfolding stepped_by
by-turned s [] u n = turn-turned s u.run n
by-turned s (e ∷ log) u n = turned_nowhere s u.run

pub step-turned : (s : RunSetting) (u : Underway) (n : SessionNo) → IsTurned s u.run (stepped s u n).run
unfolding stepped
step-turned s u n = by-turned s (due_at u.due n.0) u n

pub scheduled-turned : (s : RunSetting) (u : Underway) (schedule : List SessionNo) → IsTurned s u.run (scheduled s u schedule).run
unfolding scheduled
scheduled-turned s u [] = turned_nowhere s u.run
scheduled-turned s u (n ∷ schedule) = turned_on s u.run (stepped s u n).run _ (step-turned s u n) (scheduled-turned s (stepped s u n) schedule)

under-turned : (s : RunSetting) (w : Workload) (schedule : List SessionNo) → IsTurned s (first_run s w) (run_under s w schedule)
unfolding run_under first_underway
under-turned s w schedule =
    let last : WorldRun = (scheduled s (first_underway s w) schedule).run in
    turned_on s (first_run s w) last _ (scheduled-turned s (first_underway s w) schedule) (finished-turned s last (session_numbers 1 w.sessions))

under-lead : (s : RunSetting) (w : Workload) (schedule : List SessionNo) → world_turns s (first_run s w) (turns_under s w schedule) ≡ run_under s w schedule
unfolding turns_under first_run sessions_of
under-lead s w schedule =
    let turned : IsTurned s (first_run s w) (run_under s w schedule) = under-turned s w schedule in
    ap (λ (l : List SessionNo). world_turns s (first_run s w) l) turned.are.taken ∙ turned.are.lead

-- ---- every session has ended

size-of : (s : RunSetting) (w : Workload) (r : WorldRun) → IsTurned s (first_run s w) r → length r.plain.positions ≡ length w.sessions
unfolding first_run
size-of s w r turned =
    let plain : r.plain ≡ take_turns (initial w) turned.turns = ap (λ (q : WorldRun). q.plain) (sym turned.are.lead) ∙ plain-turns s (first_run s w) turned.turns in
    let holds : RunHolds w (take_turns (initial w) turned.turns) = take_turns_holds w (initial w) turned.turns (initial_holds w) in
    ap (λ (q : Run). length q.positions) plain ∙ holds.size

all-ended : (s : RunSetting) (w : Workload) (schedule : List SessionNo) (k : ℕ) → IsReady (run_under s w schedule).plain.positions k []
unfolding run_under first_underway
all-ended s w schedule k =
    let last : WorldRun = (scheduled s (first_underway s w) schedule).run in
    subst (λ (q : Run). IsReady q.positions k []) (sym (plain-finished s last (session_numbers 1 w.sessions)))
    (all_over w last.plain (size-of s w last (scheduled-turned s (first_underway s w) schedule)) k)

over-session : (s : RunSetting) (r : WorldRun) (n : SessionNo) → IsReady r.plain.positions n.0 [] → world_finished_session s r n ≡ r
unfolding world_finished_session world_settled world_settled_from unbegun world_finished_pieces
over-session s r n over = ap (λ (p : Position). world_finished_pieces (unbegun p) s (world_settled_from p s r n) n) over.stands

over-sessions : (s : RunSetting) (r : WorldRun) (sessions : List SessionNo) → ((k : ℕ) → IsReady r.plain.positions k []) → world_finished s r sessions ≡ r
unfolding world_finished
over-sessions s r [] over = refl
over-sessions s r (n ∷ sessions) over = ap (λ (q : WorldRun). world_finished s q sessions) (over-session s r n (over n.0)) ∙ over-sessions s r sessions over

pub turns_under_give_run : TurnsUnderGiveRun
unfolding world_run
turns_under_give_run s w schedule =
    ap (λ (q : WorldRun). world_finished s q (session_numbers 1 w.sessions)) (under-lead s w schedule)
    ∙ over-sessions s (run_under s w schedule) (session_numbers 1 w.sessions) (all-ended s w schedule)

-- ---- complete

-- in the plain run
plain-lead : (s : RunSetting) (w : Workload) (schedule : List SessionNo) → take_turns (initial w) (turns_under s w schedule) ≡ (run_under s w schedule).plain
unfolding first_run
plain-lead s w schedule = sym (plain-turns s (first_run s w) (turns_under s w schedule)) ∙ ap (λ (q : WorldRun). q.plain) (under-lead s w schedule)

pub plain-run : (s : RunSetting) (w : Workload) (turns : List SessionNo) → (world_run s w turns).plain ≡ run w turns
unfolding world_run run first_run
plain-run s w turns =
    plain-finished s (world_turns s (first_run s w) turns) (session_numbers 1 w.sessions)
    ∙ ap (λ (q : Run). finished_sessions q (session_numbers 1 w.sessions)) (plain-turns s (first_run s w) turns)

under-taken : (s : RunSetting) (w : Workload) (schedule : List SessionNo) → turns_taken (run_under s w schedule).plain ≡ turns_under s w schedule
unfolding turns_under first_run sessions_of turns_taken initial
under-taken s w schedule =
    let turned : IsTurned s (first_run s w) (run_under s w schedule) = under-turned s w schedule in
    turned.are.plain ∙ sym turned.are.taken

pub turns_under_are_complete : TurnsUnderAreComplete
turns_under_are_complete s w schedule =
    let turns : List SessionNo = turns_under s w schedule in
    let lead : take_turns (initial w) turns ≡ (run_under s w schedule).plain = plain-lead s w schedule in
    let skips : SkipsNone w turns = ap turns_taken lead ∙ under-taken s w schedule in
    let leaves : LeavesNone w turns = sym (plain-run s w turns) ∙ ap (λ (q : WorldRun). q.plain) (turns_under_give_run s w schedule) ∙ sym lead in
    exact-complete w turns skips leaves

-- ---- sessions that have ended

next-over : (s : RunSetting) (r : WorldRun) (n : SessionNo) (place : ℕ) → position_at r.plain.positions n.0 ≡ ready place [] → world_turn s r n ≡ r
unfolding world_turn next_turn next_from after_taken
next-over s r n place over = ap (λ (p : Position). after_taken (next_from s r n p) r n) over

due-again : (due : List (List Exchange)) (k : ℕ) → due_at due k ≡ [] → with_due due k [] ≡ due
unfolding due_at with_due
due-again due zero none = refl
due-again due (suc i) none = ap (λ (log : List Exchange). set due i log) (sym none) ∙ set-get_or due i []

ended-step : (s : RunSetting) (u : Underway) (n : SessionNo) (place : ℕ) → due_at u.due n.0 ≡ [] → position_at u.run.plain.positions n.0 ≡ ready place [] → stepped_by s [] u n ≡ u
unfolding stepped_by due_from
ended-step s u n place rests over =
    let log : due_from s u.run n (position_at u.run.plain.positions n.0) ≡ [] = ap (λ (p : Position). due_from s u.run n p) over in
    ap (λ (r : WorldRun). underway r (with_due u.due n.0 (due_from s u.run n (position_at u.run.plain.positions n.0)))) (next-over s u.run n place over)
    ∙ ap (λ (l : List Exchange). underway u.run (with_due u.due n.0 l)) log
    ∙ ap (λ (d : List (List Exchange)). underway u.run d) (due-again u.due n.0 rests)
  where
    underway : WorldRun → List (List Exchange) → Underway
    underway r due = record { run = r; due = due }

pub ended_stays : EndedStays
unfolding stepped
ended_stays s u n left = ap (λ (l : List Exchange). stepped_by s l u n) left.rests ∙ ended-step s u n left.place left.rests left.over

pub ended_is_finished : EndedIsFinished
ended_is_finished s u n left = over-session s u.run n (record { place = left.place; stands = left.over })

-- ---- steps on the way to the end

pieces-from : (pieces : List Piece) (s : RunSetting) (r : WorldRun) (n : SessionNo) (p : Position) → position_at r.plain.positions n.0 ≡ p → unbegun p ≡ pieces → world_finished_session s r n ≡ world_finished_pieces pieces s (world_settled s r n) n
unfolding world_finished_session
pieces-from pieces s r n p here left = ap (λ (q : Position). world_finished_pieces (unbegun q) s (world_settled s r n) n) here ∙ ap (λ (l : List Piece). world_finished_pieces l s (world_settled s r n) n) left

-- after a begin the session owes what it owes, and then its other pieces
begin-finish : (s : RunSetting) (r : WorldRun) (n : SessionNo) (place : ℕ) (p : Piece) (rest : List Piece) → position_at r.plain.positions n.0 ≡ ready place (p ∷ rest) → world_finished_session s (world_turn s r n) n ≡ world_finished_session s r n
unfolding world_settled world_settled_from unbegun world_finished_pieces
begin-finish s r n place p rest here =
    let turned : WorldRun = world_turn s r n in
    let left : unbegun (position_at turned.plain.positions n.0) ≡ rest =
    ap (λ (q : Run). unbegun (position_at q.positions n.0)) (plain-turn s r n) ∙ turn-own r.plain n p rest (record { place = place; stands = here }) in
    let after : world_finished_session s turned n ≡ world_finished_pieces rest s (world_settled s turned n) n = pieces-from rest s turned n (position_at turned.plain.positions n.0) refl left in
    let settled : world_settled s r n ≡ r = ap (λ (q : Position). world_settled_from q s r n) here in
    let before : world_finished_session s r n ≡ world_finished_pieces (p ∷ rest) s (world_settled s r n) n = pieces-from (p ∷ rest) s r n (ready place (p ∷ rest)) here refl in
    after ∙ sym (before ∙ ap (λ (q : WorldRun). world_finished_pieces (p ∷ rest) s q n) settled)

-- after a commit or an install it owes nothing
settled-finish : (s : RunSetting) (r : WorldRun) (n : SessionNo) → world_settled s r n ≡ world_turn s r n → world_finished_session s (world_turn s r n) n ≡ world_finished_session s r n
unfolding world_finished_session world_settled world_settled_from unbegun settled
settled-finish s r n is =
    let turned : WorldRun = world_turn s r n in
    let here : Position = position_at r.plain.positions n.0 in
    let plain : IsReady (world_settled s r n).plain.positions n.0 (unbegun here) =
    subst (λ (q : Run). IsReady q.positions n.0 (unbegun here)) (sym (plain-settled s r n)) (settled-own here r.plain n refl) in
    let own : IsReady turned.plain.positions n.0 (unbegun here) = subst (λ (q : WorldRun). IsReady q.plain.positions n.0 (unbegun here)) is plain in
    ap (λ (q : Position). world_finished_pieces (unbegun q) s (world_settled_from q s turned n) n) own.stands
    ∙ ap (λ (q : WorldRun). world_finished_pieces (unbegun here) s q n) (sym is)

turn-finish : (s : RunSetting) (r : WorldRun) (n : SessionNo) (p : Position) → position_at r.plain.positions n.0 ≡ p → world_finished_session s (world_turn s r n) n ≡ world_finished_session s r n
unfolding world_settled world_settled_from
turn-finish s r n (ready place []) here = ap (λ (q : WorldRun). world_finished_session s q n) (next-over s r n place here)
turn-finish s r n (ready place (p ∷ rest)) here = begin-finish s r n place p rest here
turn-finish s r n (committing place base work rest) here = settled-finish s r n (ap (λ (q : Position). world_settled_from q s r n) here)
turn-finish s r n (installing place base t column rest) here = settled-finish s r n (ap (λ (q : Position). world_settled_from q s r n) here)

by-finish : (s : RunSetting) (log : List Exchange) (u : Underway) (n : SessionNo) → world_finished_session s (stepped_by s log u n).run n ≡ world_finished_session s u.run n
unfolding stepped_by
by-finish s [] u n = turn-finish s u.run n (position_at u.run.plain.positions n.0) refl
by-finish s (e ∷ log) u n = refl

pub steps_finish : StepsFinish
unfolding stepped
steps_finish s u n = by-finish s (due_at u.due n.0) u n
