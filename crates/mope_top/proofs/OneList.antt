-- Once every session has ended, entries more change nothing, so all counts of rounds after which each has ended lead to one run.
use Rattle.std.proofs.Common.{◌≡◌, refl, sym, ◌∙◌, ap, subst, ℕ, zero, suc, List, [], ◌∷◌, ◌++◌}
use Rattle.command_words.specs.declared.order.Schedule.TheVariants.{Round, Listed}
use Rattle.mope_base.specs.declared.numbers.SessionNo.{SessionNo}
use Rattle.mope_top.specs.Replays.{rounds}
use Rattle.mope_top.specs.RoundLaws.{RoundTurnsAreOneList, ScheduleGivesOneList}
use Rattle.mope_top.proofs.RoundsOnLemmas.{scheduled-append}
use Rattle.run_laws.specs.Honesty.{sessions_of}
use Rattle.run_laws.specs.ScheduleLaws.{HasNothingLeft}
use Rattle.run_laws.specs.Schedules.{Underway, first_underway, scheduled, turns_under, run_under}
use Rattle.run_laws.specs.Worlds.{RunSetting}
use Rattle.run_laws.specs.WorldRuns.{world_finished}
use Rattle.run_laws.proofs.ScheduleLemmas.{ended_stays}
use Rattle.workload.specs.declared.script.Workload.{Workload}
use Rattle.workload.specs.Run.{session_numbers}

abbrev AllEnded : Underway → Type 0
AllEnded u = (n : SessionNo) → HasNothingLeft u n

stays : (s : RunSetting) (u : Underway) (schedule : List SessionNo) → AllEnded u → scheduled s u schedule ≡ u
unfolding scheduled
stays s u [] ended = refl
stays s u (n ∷ schedule) ended = ap (λ (v : Underway). scheduled s v schedule) (ended_stays s u n (ended n)) ∙ stays s u schedule ended

-- two counts of rounds, after each of which all have ended, come to the same
meet : (s : RunSetting) (u : Underway) (count other : ℕ) (sessions : List SessionNo) → AllEnded (scheduled s u (rounds count sessions)) → AllEnded (scheduled s u (rounds other sessions))
    → scheduled s u (rounds count sessions) ≡ scheduled s u (rounds other sessions)
unfolding rounds scheduled
meet s u zero other sessions ended over = sym (stays s u (rounds other sessions) ended)
meet s u (suc count) zero sessions ended over = stays s u (rounds (suc count) sessions) over
meet s u (suc count) (suc other) sessions ended over =
    let v : Underway = scheduled s u sessions in
    let first : scheduled s u (sessions ++ rounds count sessions) ≡ scheduled s v (rounds count sessions) = scheduled-append s u sessions (rounds count sessions) in
    let second : scheduled s u (sessions ++ rounds other sessions) ≡ scheduled s v (rounds other sessions) = scheduled-append s u sessions (rounds other sessions) in
    first ∙ meet s v count other sessions (subst AllEnded first ended) (subst AllEnded second over) ∙ sym second

-- the turns under a schedule are those of the run to which its entries lead
same-turns : (s : RunSetting) (w : Workload) (schedule other : List SessionNo) → scheduled s (first_underway s w) schedule ≡ scheduled s (first_underway s w) other → turns_under s w schedule ≡ turns_under s w other
unfolding turns_under run_under
same-turns s w schedule other same = ap (λ (u : Underway). sessions_of (world_finished s u.run (session_numbers 1 w.sessions)).turns) same

pub round_turns_are_one_list : RoundTurnsAreOneList
round_turns_are_one_list s w turns others are were =
    are.are
    ∙ same-turns s w _ _ (meet s (first_underway s w) are.count were.count (session_numbers 1 w.sessions) are.ended were.ended)
    ∙ sym were.are

pub schedule_gives_one_list : ScheduleGivesOneList
schedule_gives_one_list s w Round turns others are were = round_turns_are_one_list s w turns others are were
schedule_gives_one_list s w (Listed sessions) turns others are were = are ∙ sym were
