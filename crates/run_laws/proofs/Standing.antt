-- After any turns the version that they lead to stands for the world.
use Rattle.std.proofs.Common.{List}
use Rattle.mope_base.specs.declared.numbers.SessionNo.{SessionNo}
use Rattle.workload.specs.declared.script.Workload.{Workload}
use Rattle.workload.specs.Validity.{IsValid}
use Rattle.run_laws.specs.Worlds.{RunSetting}
use Rattle.run_laws.specs.WorldRuns.{WorldRun, first_run, world_turns, world_run}
use Rattle.run_laws.specs.RunLaws.{RunStands}
use Rattle.run_laws.proofs.Lasting.{Lasts, first-lasts}
use Rattle.run_laws.proofs.Turning.{current-past}
use Rattle.run_laws.proofs.TurnCases.{turns-last, run-lasts}

pub lasts-stands : (s : RunSetting) (w : Workload) (r : WorldRun) → Lasts s w r → RunStands s w r
lasts-stands s w r lasts =
    let current = current-past s w r lasts in
    record { stands = lasts.stands; told = lasts.told; plain = current.plain; number = current.numbered; declared = current.declared; sessions = lasts.taken }

pub turns_stand : (s : RunSetting) (w : Workload) → IsValid w → (turns : List SessionNo) → RunStands s w (world_turns s (first_run s w) turns)
turns_stand s w valid turns = lasts-stands s w (world_turns s (first_run s w) turns) (turns-last s w (first_run s w) turns valid (first-lasts s w))

pub run_stands : (s : RunSetting) (w : Workload) → IsValid w → (turns : List SessionNo) → RunStands s w (world_run s w turns)
run_stands s w valid turns = lasts-stands s w (world_run s w turns) (run-lasts s w turns valid)
