-- What a session does next, by what its client wants and what its connection answers.
use Rattle.std.proofs.Common.{◌≡◌, sym, ◌∙◌, ap, subst, true, List, [], ◌∷◌, Option, Some, None}
use Rattle.mope_base.specs.declared.numbers.SessionNo.{SessionNo}
use Rattle.versions.specs.Databases.{Database}
use Rattle.walk_proto.specs.declared.messages.Exchange.{Exchange}
use Rattle.walk_proto.specs.declared.messages.Request.{Request}
use Rattle.walk_proto.specs.declared.messages.Request.TheVariants as request
use Rattle.workload.specs.declared.script.Workload.{Workload}
use Rattle.workload.specs.Run.{Position, ready, committing, installing, position_at}
use Rattle.proxy.specs.Client.{wants}
use Rattle.server_conn.specs.Connections.{Served, replies, wants_begin, wants_commit, wants_install, Step}
use Rattle.server_conn.specs.Serving.{serve}
use Rattle.transaction_laws.specs.Walks.{exchanged}
use Rattle.run_laws.specs.Worlds.{RunSetting, session_setting}
use Rattle.run_laws.specs.Schedules.{Underway, due_at}
use Rattle.run_laws.specs.Seats.{Seat, seat_at}
use Rattle.run_laws.specs.SteppingLaws.{IsAtEnd, NextBy, StepBy, StepsAreShown, EndIsSeated}
use Rattle.run_laws.proofs.PaceOfRun.{steps_uphold}

wanted_or : Request → Option Request → Request
wanted_or other None = other
wanted_or other (Some r) = r

IsWanted : Option Request → Type 0
IsWanted None = ⊥
IsWanted (Some r) = Unit {0}

same-wanted : (o : Option Request) (r q : Request) → o ≡ Some r → o ≡ Some q → r ≡ q
unfolding wanted_or
same-wanted o r q one other = ap (λ (x : Option Request). wanted_or r x) (sym one ∙ other)

never : {A : Type 0} (o : Option Request) (r : Request) → o ≡ None → o ≡ Some r → A
unfolding IsWanted
never o r none some = absurd (subst IsWanted (sym (sym none ∙ some)) tt)

-- a step by another request is one by the request that is wanted
as-shown : (s : RunSetting) (w : Workload) (u : Underway) (d : Database) (seats : List Seat) (n : SessionNo) (asked r : Request) (served : Served) → wants (session_setting s n) (seat_at seats n.0).client ≡ Some asked → wants (session_setting s n) (seat_at seats n.0).client ≡ Some r
    → (serve asked (seat_at seats n.0).conn).served ≡ served → StepBy s w u d seats n asked served → StepBy s w u d seats n r (serve r (seat_at seats n.0).conn).served
as-shown s w u d seats n asked r served wanted wants_r answered step =
    subst (λ (q : Request). StepBy s w u d seats n q (serve q (seat_at seats n.0).conn).served) (same-wanted (wants (session_setting s n) (seat_at seats n.0).client) asked r wanted wants_r)
    (subst (λ (x : Served). StepBy s w u d seats n asked x) (sym answered) step)

shown-by : (s : RunSetting) (w : Workload) (u : Underway) (d : Database) (seats : List Seat) (n : SessionNo) (log : List Exchange) (p : Position) (r : Request) → NextBy s w u d seats n log p → wants (session_setting s n) (seat_at seats n.0).client ≡ Some r
    → StepBy s w u d seats n r (serve r (seat_at seats n.0).conn).served
unfolding NextBy StepBy exchanged
shown-by s w u d seats n (e ∷ log) p r next wanted = as-shown s w u d seats n e.request r (replies e.reply) next.wanted wanted next.answered next
shown-by s w u d seats n [] (ready place []) r next wanted = never (wants (session_setting s n) (seat_at seats n.0).client) r next.ended wanted
shown-by s w u d seats n [] (ready place (p ∷ rest)) r next wanted = as-shown s w u d seats n request.Begin r wants_begin next.meets.wanted wanted (ap (λ (x : Step). x.served) next.meets.asked) next
shown-by s w u d seats n [] (committing place base work rest) r next wanted = as-shown s w u d seats n (request.End true) r wants_commit next.takes.meets.wanted wanted (ap (λ (x : Step). x.served) next.takes.meets.asked) next
shown-by s w u d seats n [] (installing place base t column rest) r next wanted = as-shown s w u d seats n (request.Rebuild t column) r (wants_install t column) next.takes.meets.wanted wanted (ap (λ (x : Step). x.served) next.takes.meets.asked) next

pub steps_are_shown : StepsAreShown
steps_are_shown s w u d seats n valid upheld known r wanted =
    shown-by s w u d seats n (due_at u.due n.0) (position_at u.run.plain.positions n.0) r (steps_uphold s w u d seats n valid upheld known) wanted

end-by : (s : RunSetting) (w : Workload) (u : Underway) (d : Database) (seats : List Seat) (n : SessionNo) (log : List Exchange) (p : Position) → NextBy s w u d seats n log p → wants (session_setting s n) (seat_at seats n.0).client ≡ None → IsAtEnd s u seats n
unfolding NextBy
end-by s w u d seats n (e ∷ log) p next none = never (wants (session_setting s n) (seat_at seats n.0).client) e.request none next.wanted
end-by s w u d seats n [] (ready place []) next none = next
end-by s w u d seats n [] (ready place (p ∷ rest)) next none = never (wants (session_setting s n) (seat_at seats n.0).client) request.Begin none next.meets.wanted
end-by s w u d seats n [] (committing place base work rest) next none = never (wants (session_setting s n) (seat_at seats n.0).client) (request.End true) none next.takes.meets.wanted
end-by s w u d seats n [] (installing place base t column rest) next none = never (wants (session_setting s n) (seat_at seats n.0).client) (request.Rebuild t column) none next.takes.meets.wanted

pub end_is_seated : EndIsSeated
end_is_seated s w u d seats n valid upheld known none =
    end-by s w u d seats n (due_at u.due n.0) (position_at u.run.plain.positions n.0) (steps_uphold s w u d seats n valid upheld known) none
