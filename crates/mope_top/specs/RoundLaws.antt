-- Laws of the turns that a schedule gives: statements.
use Rattle.std.specs.Prelude.{◌≡◌, List}
use Rattle.command_words.specs.declared.order.Schedule.{Schedule}
use Rattle.mope_base.specs.declared.numbers.SessionNo.{SessionNo}
use Rattle.mope_top.specs.Replays.{AreRoundTurns, AreTurnsBy}
use Rattle.run_laws.specs.Worlds.{RunSetting}
use Rattle.workload.specs.declared.script.Workload.{Workload}

-- the turns of rounds are one list: two counts of rounds, after each of which every session has ended, give the same turns
abbrev pub RoundTurnsAreOneList : Type 0
RoundTurnsAreOneList = (s : RunSetting) (w : Workload) (turns others : List SessionNo) → AreRoundTurns s w turns → AreRoundTurns s w others → turns ≡ others

-- so the turns that a schedule gives are one list
abbrev pub ScheduleGivesOneList : Type 0
ScheduleGivesOneList = (s : RunSetting) (w : Workload) (schedule : Schedule) (turns others : List SessionNo) → AreTurnsBy s w schedule turns → AreTurnsBy s w schedule others → turns ≡ others
