-- A workload that is run over sealed values on one thread: the turns that a schedule gives, and the texts of the run. The definition is our own.
use Rattle.std.specs.Prelude.{◌≡◌, ℕ, zero, suc, Bool, true, false, List, [], ◌∷◌, ◌++◌, map, length, replicate}
use Rattle.command_words.specs.declared.order.Generating.{Generating}
use Rattle.command_words.specs.declared.order.Replaying.{Replaying}
use Rattle.command_words.specs.declared.order.Schedule.{Schedule}
use Rattle.command_words.specs.declared.order.Schedule.TheVariants.{Round, Listed}
use Rattle.mope_base.specs.declared.numbers.SessionNo.{SessionNo}
use Rattle.proxy.specs.declared.outcomes.Settings.{Settings}
use Rattle.proxy.specs.declared.outcomes.View.{View}
use Rattle.report.specs.SummaryText.{summary_text_of}
use Rattle.report.specs.ViewText.{view_text_of}
use Rattle.run_laws.specs.CellLaws.{SealsCells}
use Rattle.run_laws.specs.ScheduleLaws.{HasNothingLeft}
use Rattle.run_laws.specs.Schedules.{first_underway, scheduled, turns_under}
use Rattle.run_laws.specs.Worlds.{RunSetting}
use Rattle.run_laws.specs.WorldRuns.{WorldRun, session_at, world_run}
use Rattle.server_conn.specs.declared.receipt.Receipt.{Receipt}
use Rattle.step_core.specs.Cores.{run_setting}
use Rattle.step_core.specs.Shown.{AreAll, shown_as}
use Rattle.versions.specs.declared.turn.Turn.{Turn}
use Rattle.walk_proto.specs.declared.messages.Exchange.{Exchange}
use Rattle.workload.specs.declared.script.Workload.{Workload}
use Rattle.workload.specs.History.{Serial, history}
use Rattle.workload.specs.PlainDatabase.{table_of}
use Rattle.workload.specs.Report.{report}
use Rattle.workload.specs.Run.{IsComplete, run, session_numbers, turns_taken}
use Rattle.workload_file.specs.GeneratedText.{generated}
use Rattle.workload_file.specs.WorkloadFile.{IsWorkloadFile}

-- ---- schedules

-- these sessions, so many times over
unfoldable pub rounds : ℕ → List SessionNo → List SessionNo
rounds zero sessions = []
rounds (suc count) sessions = sessions ++ rounds count sessions

-- the turns of a run in which all sessions make exchanges round after round, until each has ended
pub record AreRoundTurns (s : RunSetting) (w : Workload) (turns : List SessionNo) : Type 0 where
  pub count : ℕ
  pub ended : (n : SessionNo) → HasNothingLeft (scheduled s (first_underway s w) (rounds count (session_numbers 1 w.sessions))) n
  pub are : turns ≡ turns_under s w (rounds count (session_numbers 1 w.sessions))

-- the turns that a schedule gives
abbrev pub AreTurnsBy : RunSetting → Workload → Schedule → List SessionNo → Type 0
AreTurnsBy s w Round turns = AreRoundTurns s w turns
AreTurnsBy s w (Listed sessions) turns = turns ≡ turns_under s w sessions

-- ---- one history

-- what the report of a run prints is one history: its turns are a complete list for the workload, and its transactions, in the order in
-- which they stand, are those that a single thread could have made
pub record IsOneHistory (w : Workload) (turns : List SessionNo) : Type 0 where
  pub complete : IsComplete w (turns_taken (run w turns))
  pub serial : Serial w (run w turns) (history (run w turns))

-- ---- the text of a replay

-- what the runs of a replay are given; with a view each exchange is kept
unfoldable pub replay_settings : Replaying → Settings
replay_settings r = record { key = r.key; first = r.first_nonce; mode = r.mode; keep = r.view }

-- the exchanges of each session of a run
unfoldable pub logs_of : Workload → WorldRun → List (List Exchange)
logs_of w r = map (λ (n : SessionNo). (session_at r.sessions n.0).log) (session_numbers 1 w.sessions)

-- what a server saw of a run under these turns
unfoldable pub view_under : Settings → Workload → List SessionNo → View Turn
view_under settings w turns = record {
  mode = settings.mode;
  logs = logs_of w (world_run (run_setting settings) w turns);
  turns = (world_run (run_setting settings) w turns).turns;
}

unfoldable pub if_asked : Bool → List ℕ → List ℕ
if_asked true text = text
if_asked false text = []

-- the report of the run under these turns, and its view if that is asked for
unfoldable pub replay_text_of : Replaying → Workload → List SessionNo → List ℕ
replay_text_of r w turns = report r.first_nonce w turns ++ if_asked r.view (view_text_of w (view_under (replay_settings r) w turns))

-- a text is that of the replay of the workload that the bytes spell, under the turns that the schedule gives, which are those that it
-- prints. What it prints is one history; and all bodies that the server saw seal cells of the workload, each under a nonce of its own
pub record Reports (r : Replaying) (bytes text : List ℕ) : Type 0 where
  pub w : Workload
  pub spelled : IsWorkloadFile bytes w
  pub turns : List SessionNo
  pub by : AreTurnsBy (run_setting (replay_settings r)) w r.schedule turns
  pub printed : turns_taken (run w turns) ≡ turns
  pub text_is : text ≡ replay_text_of r w turns
  pub one_history : IsOneHistory w turns
  pub seals : SealsCells (run_setting (replay_settings r)) w (world_run (run_setting (replay_settings r)) w turns)

-- a watch was shown each exchange of this replay, those of each session in order, under the key and the nonces of the order
pub record IsShown (r : Replaying) (bytes : List ℕ) (before after : List (SessionNo × Receipt) → Type 0) : Type 0 where
  pub w : Workload
  pub spelled : IsWorkloadFile bytes w
  pub turns : List SessionNo
  pub by : AreTurnsBy (run_setting (replay_settings r)) w r.schedule turns
  pub shown : List (SessionNo × Exchange)
  pub all : AreAll w (world_run (run_setting (replay_settings r)) w turns) shown
  pub tells : (earlier : List (SessionNo × Receipt)) → before earlier → after (earlier ++ map shown_as shown)

-- ---- the summary of a workload that was drawn

-- it is run under the key of 32 zero bytes and from the first nonce 0
unfoldable pub summed_settings : Generating → Settings
summed_settings g = record { key = record { bytes = replicate 32 0 }; first = 0; mode = g.mode; keep = false }

-- how many rows the first table has at the end
unfoldable pub rows_at_end : Workload → List SessionNo → ℕ
rows_at_end w turns = length (table_of (run w turns).current (record { 0 = 0 })).rows

-- a text sums up the run, in rounds, of the workload that is drawn
pub record SumsUp (g : Generating) (text : List ℕ) : Type 0 where
  pub w : Workload
  pub spelled : IsWorkloadFile (generated g.number g.sessions g.transactions) w
  pub turns : List SessionNo
  pub by : AreTurnsBy (run_setting (summed_settings g)) w Round turns
  pub text_is : text ≡ summary_text_of g.number g.sessions (length turns) (history (run w turns)) (rows_at_end w turns)
