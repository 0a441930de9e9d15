-- The run of a valid workload keeps pace with the server's version, and so its sessions' steps and their turns are those of the run.
use Rattle.std.proofs.Common.{refl, sym, subst}
use Rattle.mope_base.specs.declared.numbers.SessionNo.{SessionNo}
use Rattle.versions.specs.Databases.{Database}
use Rattle.workload.specs.declared.script.Workload.{Workload}
use Rattle.workload.specs.Run.{position_at}
use Rattle.workload.specs.Validity.{IsValid}
use Rattle.run_laws.specs.Worlds.{RunSetting}
use Rattle.run_laws.specs.WorldRuns.{WorldRun, first_run, world_turn}
use Rattle.run_laws.specs.Schedules.{due_at}
use Rattle.run_laws.specs.TellingLaws.{IsReached, version_now, BeginTells, CommitTells, InstallTells}
use Rattle.run_laws.specs.SeatLaws.{IsUpheld}
use Rattle.run_laws.specs.SteppingLaws.{NextBy, StepsUphold}
use Rattle.run_laws.proofs.Deciding.{lasts-decides}
use Rattle.run_laws.proofs.Lasting.{Lasts, first-lasts}
use Rattle.run_laws.proofs.TurnCases.{turns-last}
use Rattle.run_laws.proofs.Turning.{current-past, piece-valid}
use Rattle.run_laws.proofs.Paces.{KeepsPace}
use Rattle.run_laws.proofs.Upholding.{turn-reached}
use Rattle.run_laws.proofs.NextSteps.{next-by}
use Rattle.run_laws.proofs.ToldTurns.{begin-told, commit-told, install-told}

lasts-pace : (s : RunSetting) (w : Workload) (r : WorldRun) → IsValid w → Lasts s w r → KeepsPace s w r
unfolding version_now
lasts-pace s w r valid lasts =
    let now = current-past s w r lasts in
    let decides = lasts-decides s w r lasts in
    record {
      told = lasts.told;
      stands = lasts.stands;
      limit = now.limit;
      mode = now.mode;
      declared = now.declared;
      plain = now.plain;
      older = lasts.versions;
      number = now.numbered;
      newer = decides.conflict;
      changed = decides.stale;
      sessions = lasts.sessions;
      positions = lasts.holds.size;
      valid = λ n place p rest here. piece-valid s w r n place p rest valid lasts here;
    }

pub pace : (s : RunSetting) (w : Workload) (r : WorldRun) → IsValid w → IsReached s w r → KeepsPace s w r
pace s w r valid reached = lasts-pace s w r valid (subst (λ (q : WorldRun). Lasts s w q) reached.lead (turns-last s w (first_run s w) reached.turns valid (first-lasts s w)))

pub pace-later : (s : RunSetting) (w : Workload) (r : WorldRun) (n : SessionNo) → IsValid w → IsReached s w r → KeepsPace s w (world_turn s r n)
pace-later s w r n valid reached = pace s w (world_turn s r n) valid (turn-reached s w r n reached)

pub begin_tells : BeginTells
begin_tells s w r n place p rest valid reached here = begin-told s w r n place p rest (pace s w r valid reached) here

pub commit_tells : CommitTells
commit_tells s w r n place base work rest valid reached here = commit-told s w r n place base work rest (pace s w r valid reached) (pace-later s w r n valid reached) here

pub install_tells : InstallTells
install_tells s w r n place base t column rest valid reached here = install-told s w r n place base t column rest (pace s w r valid reached) (pace-later s w r n valid reached) here

pub steps_uphold : StepsUphold
steps_uphold s w u d seats n valid upheld known =
    let now : IsUpheld s w u (version_now s w u.run) seats = subst (λ (x : Database). IsUpheld s w u x seats) upheld.leads upheld in
    subst (λ (x : Database). NextBy s w u x seats n (due_at u.due n.0) (position_at u.run.plain.positions n.0)) (sym upheld.leads)
    (next-by s w u seats n (due_at u.due n.0) (position_at u.run.plain.positions n.0) now known valid (pace s w u.run valid upheld.reached) (pace-later s w u.run n valid upheld.reached) refl refl (upheld.seated n known))
