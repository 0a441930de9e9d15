-- A number that is none of the sessions' has nothing to do.
use Rattle.std.proofs.Common.{◌≡◌, refl, sym, ◌∙◌, ap, ℕ, zero, suc, ◌≤◌, List, [], ◌∷◌, length, get_or, inl, inr, arith}
use Rattle.std.proofs.lemmas.Bool.{cases_lt}
use Rattle.std.proofs.lemmas.List.{get_or_past}
use Rattle.walk_proto.specs.declared.messages.Exchange.{Exchange}
use Rattle.workload.specs.declared.script.Workload.{Workload}
use Rattle.workload.specs.Run.{Run, Position, ready, initial, position_at, take_turns}
use Rattle.plain_db.proofs.RunInvariant.{RunHolds}
use Rattle.plain_db.proofs.FinishLemmas.{initial_holds, take_turns_holds}
use Rattle.run_laws.specs.Worlds.{RunSetting}
use Rattle.run_laws.specs.WorldRuns.{WorldRun, first_run}
use Rattle.run_laws.specs.Schedules.{due_at, stepped, scheduled}
use Rattle.run_laws.specs.ScheduleLaws.{EntriesGoOn}
use Rattle.run_laws.specs.TellingLaws.{IsReached}
use Rattle.run_laws.specs.SteppingLaws.{NoneIsSkipped}
use Rattle.run_laws.proofs.WorldTurned.{plain-turns}
use Rattle.run_laws.proofs.ScheduleLemmas.{ended_stays}

pub entries_go_on : EntriesGoOn
unfolding scheduled
entries_go_on s u [] n = refl
entries_go_on s u (first ∷ schedule) n = entries_go_on s (stepped s u first) schedule n

no-due : (due : List (List Exchange)) (k count : ℕ) → length due ≡ count → (1 ≤ k → k ≤ count → ⊥) → due_at due k ≡ []
unfolding due_at
no-due due zero count many none = refl
no-due due (suc i) count many none =
    elim (cases_lt i (length due)) as (λ _. get_or due i [] ≡ []) [
      | inl within ↦ absurd (none (omega arith) (omega (arith, within, many)))
      | inr past ↦ get_or_past due i [] past
    ]

no-position : (positions : List Position) (k count : ℕ) → length positions ≡ count → (1 ≤ k → k ≤ count → ⊥) → position_at positions k ≡ ready 1 []
unfolding position_at
no-position positions zero count many none = refl
no-position positions (suc i) count many none =
    elim (cases_lt i (length positions)) as (λ _. get_or positions i (ready 1 []) ≡ ready 1 []) [
      | inl within ↦ absurd (none (omega arith) (omega (arith, within, many)))
      | inr past ↦ get_or_past positions i (ready 1 []) past
    ]

reached-size : (s : RunSetting) (w : Workload) (r : WorldRun) → IsReached s w r → length r.plain.positions ≡ length w.sessions
unfolding first_run
reached-size s w r reached =
    let plain : r.plain ≡ take_turns (initial w) reached.turns = ap (λ (q : WorldRun). q.plain) (sym reached.lead) ∙ plain-turns s (first_run s w) reached.turns in
    let holds : RunHolds w (take_turns (initial w) reached.turns) = take_turns_holds w (initial w) reached.turns (initial_holds w) in
    ap (λ (q : Run). length q.positions) plain ∙ holds.size

pub none_is_skipped : NoneIsSkipped
none_is_skipped s w u d seats n upheld none =
    let no : 1 ≤ n.0 → n.0 ≤ length w.sessions → ⊥ = λ (from : 1 ≤ n.0) (to : n.0 ≤ length w.sessions). none (record { from = from; to = to }) in
    ended_stays s u n (record {
      rests = no-due u.due n.0 (length w.sessions) upheld.many_due no;
      place = 1;
      over = no-position u.run.plain.positions n.0 (length w.sessions) (reached-size s w u.run upheld.reached) no;
    })
