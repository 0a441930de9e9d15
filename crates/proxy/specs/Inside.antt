-- A proxy as the value of its parts.
use Rattle.std.specs.Prelude.{◌≡◌, Bool, List, Option}
use Rattle.walk_proto.specs.declared.messages.Exchange.{Exchange}
use Rattle.walk_proto.specs.declared.messages.Request.{Request}
use Rattle.proxy.specs.declared.dialogue.Dialogue.{Dialogue}
use Rattle.proxy.specs.declared.turning.Stage.{Stage}
use Rattle.proxy.specs.declared.turning.Stage.TheVariants as stage
use Rattle.proxy.specs.Client.{wants}
use Rattle.proxy.specs.Party.{Party, Phase, fresh, stuck, spent, phase_for}
use Rattle.proxy.specs.Standing.{Fits, setting_in, client_in}

unfoldable pub phase_in : Stage → Option Request → Phase
phase_in stage.Fresh wanted = fresh
phase_in stage.Talking wanted = phase_for wanted
phase_in (stage.Stuck want got) wanted = stuck want got
phase_in stage.Spent wanted = spent

unfoldable pub party_by : Dialogue → Bool → List Exchange → Stage → Party
party_by d keep log stage = record {
  setting = setting_in d;
  keep = keep;
  client = client_in d;
  log = log;
  phase = phase_in stage (wants (setting_in d) (client_in d));
}

-- what holds of a proxy, unless memory did not suffice
unfoldable pub Holds : Stage → Dialogue → Type 0
Holds stage.Fresh d = Fits d
Holds stage.Talking d = Fits d
Holds (stage.Stuck want got) d = Fits d
Holds stage.Spent d = Unit {0}

-- it has begun, and memory sufficed
unfoldable pub IsRunning : Stage → Type 0
IsRunning stage.Fresh = ⊥
IsRunning stage.Talking = Unit {0}
IsRunning (stage.Stuck want got) = Unit {0}
IsRunning stage.Spent = ⊥
