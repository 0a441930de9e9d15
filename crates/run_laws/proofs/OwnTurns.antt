-- The turns of a run are honest.
use Rattle.std.proofs.Common.{◌≡◌, List, [], ◌∷◌, ◌++◌, Option, Some, None, refl, ap, ◌∙◌, sym, subst}
use Rattle.mope_base.specs.declared.numbers.SessionNo.{SessionNo}
use Rattle.versions.specs.declared.turn.Turn.{Turn}
use Rattle.workload.specs.declared.script.Workload.{Workload}
use Rattle.workload.specs.Validity.{IsValid}
use Rattle.run_laws.specs.Worlds.{RunSetting}
use Rattle.run_laws.specs.WorldRuns.{WorldRun, Taken, first_run, next_turn, after_taken, world_turn, world_turns, world_run}
use Rattle.run_laws.specs.Honesty.{sessions_of, HonestFrom, Honest}
use Rattle.run_laws.specs.RunLaws.{OwnTurns}
use Rattle.run_laws.proofs.Lasting.{sessions-more}
use Rattle.run_laws.proofs.HonestTurns.{next-own, turns-after, next_is_honest}
use Rattle.run_laws.proofs.RunSteps.{through-turns, through-run}

turns-one : (s : RunSetting) (r : WorldRun) (sessions : List SessionNo) (n : SessionNo) → world_turns s r (sessions ++ n ∷ []) ≡ world_turn s (world_turns s r sessions) n
unfolding world_turns
turns-one s r [] n = refl
turns-one s r (first ∷ sessions) n = turns-one s (world_turn s r first) sessions n

by-taken : (s : RunSetting) (w : Workload) (r : WorldRun) (n : SessionNo) (o : Option Taken) → IsValid w → next_turn s r n ≡ o → OwnTurns s w r → OwnTurns s w (world_turn s r n)
unfolding world_turn after_taken
by-taken s w r n None valid is own = subst (λ (x : WorldRun). OwnTurns s w x) (sym (ap (λ (o : Option Taken). after_taken o r n) is)) own
by-taken s w r n (Some taken) valid is own =
    let first : WorldRun = first_run s w in
    let turns : (world_turn s r n).turns ≡ r.turns ++ taken.turn ∷ [] = turns-after s r n taken is in
    let mine : taken.turn.session ≡ n = next-own s r n taken is in
    record {
      lead = ap (λ (l : List Turn). world_turns s first (sessions_of l)) turns
          ∙ ap (world_turns s first) (sessions-more r.turns taken.turn ∙ ap (λ (k : SessionNo). sessions_of r.turns ++ k ∷ []) mine)
          ∙ turns-one s first (sessions_of r.turns) n ∙ ap (λ (x : WorldRun). world_turn s x n) own.lead;
      honest = subst (λ (l : List Turn). Honest s w l) (sym turns)
          (next_is_honest s w valid r.turns own.honest taken.turn taken (ap (λ (x : WorldRun). next_turn s x taken.turn.session) own.lead ∙ ap (λ (k : SessionNo). next_turn s r k) mine ∙ is) refl);
    }

own-first : (s : RunSetting) (w : Workload) → OwnTurns s w (first_run s w)
unfolding first_run sessions_of world_turns HonestFrom
own-first s w = record { lead = refl; honest = tt }

own-turn : (s : RunSetting) (w : Workload) → IsValid w → (r : WorldRun) (n : SessionNo) → OwnTurns s w r → OwnTurns s w (world_turn s r n)
own-turn s w valid r n own = by-taken s w r n (next_turn s r n) valid refl own

pub turns_are_honest : (s : RunSetting) (w : Workload) → IsValid w → (turns : List SessionNo) → OwnTurns s w (world_turns s (first_run s w) turns)
turns_are_honest s w valid turns = through-turns s (OwnTurns s w) (own-turn s w valid) (first_run s w) turns (own-first s w)

pub run_is_honest : (s : RunSetting) (w : Workload) → IsValid w → (turns : List SessionNo) → OwnTurns s w (world_run s w turns)
run_is_honest s w valid turns = through-run s (OwnTurns s w) (own-turn s w valid) w turns (own-first s w)
