-- The text of a workload's replay, by what its scripts came to and the turns that were taken.
use Rattle.std.proofs.Common.{◌≡◌, refl, sym, ap, subst, ◌∙◌, ℕ, suc, Bool, true, false, List, [], ◌∷◌, ◌++◌, map, flat_map, length, Some}
use Rattle.std.proofs.lemmas.List.{append-nil}
use Rattle.std.proofs.lemmas.List.Folds.{flat_map-map}
use Rattle.std.specs.Prelude.{◌^◌, ◌+◌, ◌*◌}
use Rattle.command_words.specs.declared.order.Replaying.{Replaying}
use Rattle.command_words.specs.declared.order.Schedule.{Schedule}
use Rattle.command_words.specs.declared.order.Schedule.TheVariants.{Round, Listed}
use Rattle.mope_base.specs.Lists.{Each}
use Rattle.mope_base.specs.declared.numbers.SessionNo.{SessionNo}
use Rattle.mope_top.specs.Ran.{Ran}
use Rattle.mope_top.specs.Replays.{AreTurnsBy, IsOneHistory, IsShown, Reports, if_asked, logs_of, replay_settings, replay_text_of, rounds, view_under}
use Rattle.mope_top.proofs.Merging.{merged-history, scripts_done}
use Rattle.plain_db.proofs.FinishLemmas.{initial_holds, take_turns_holds}
use Rattle.plain_db.proofs.OverLemmas.{sessions_hold}
use Rattle.plain_db.proofs.RunInvariant.{RunHolds}
use Rattle.plain_db.proofs.SerialLemmas.{serial}
use Rattle.plain_db.proofs.Taken.{taken-complete}
use Rattle.proxy.specs.declared.outcomes.Finished.{Finished}
use Rattle.proxy.specs.declared.outcomes.Settings.{Settings}
use Rattle.proxy.specs.declared.outcomes.View.{View}
use Rattle.report.specs.ViewText.{IsWritable, view_text_of}
use Rattle.report.specs.WholeText.{text_of}
use Rattle.report.proofs.ReportLaws.{text-report}
use Rattle.run_laws.specs.Honesty.{sessions_of}
use Rattle.run_laws.specs.RunLaws.{RunStands}
use Rattle.run_laws.specs.Seats.{done_by}
use Rattle.run_laws.specs.Worlds.{RunSetting}
use Rattle.run_laws.specs.WorldRuns.{WorldRun, session_at, world_run}
use Rattle.run_laws.proofs.ScheduleLemmas.{plain-run, turns_under_are_complete}
use Rattle.run_laws.proofs.SealingRuns.{run_seals_cells}
use Rattle.run_laws.proofs.Standing.{run_stands}
use Rattle.server_conn.specs.declared.receipt.Receipt.{Receipt}
use Rattle.step_core.specs.Cores.{HasReadable, finished_in, kept_if, run_setting}
use Rattle.transaction_laws.specs.Readable.{IsReadable}
use Rattle.txn_core.specs.Courses.{Course}
use Rattle.versions.specs.declared.turn.Turn.{Turn}
use Rattle.walk_proto.specs.declared.messages.Exchange.{Exchange}
use Rattle.workload.specs.declared.script.DoneTxn.{DoneTxn}
use Rattle.workload.specs.declared.script.Workload.{Workload}
use Rattle.workload.specs.History.{history, history_of}
use Rattle.workload.specs.Report.{next_free_nonce, report}
use Rattle.workload.specs.Run.{IsComplete, initial, run, session_numbers, take_turns, turns_taken}
use Rattle.workload.specs.Validity.{IsValid}
use Rattle.workload_file.specs.WorkloadFile.{IsWorkloadFile}

-- ---- turns by a schedule

-- they are a complete list
pub turns-complete : (s : RunSetting) (w : Workload) (schedule : Schedule) (turns : List SessionNo) → AreTurnsBy s w schedule turns → IsComplete w turns
turns-complete s w Round turns by = subst (IsComplete w) (sym by.are) (turns_under_are_complete s w (rounds by.count (session_numbers 1 w.sessions)))
turns-complete s w (Listed sessions) turns by = subst (IsComplete w) (sym by) (turns_under_are_complete s w sessions)

-- ---- the transactions of all scripts

run-holds : (w : Workload) (turns : List SessionNo) → RunHolds w (run w turns)
unfolding run
run-holds w turns = sessions_hold w (take_turns (initial w) turns) (session_numbers 1 w.sessions) (take_turns_holds w (initial w) turns (initial_holds w))

-- those of a run
pub scripts-txns : (keep : Bool) (r : WorldRun) (w : Workload) → flat_map (λ (f : Finished). f.txns) (map (finished_in keep r) (session_numbers 1 w.sessions)) ≡ scripts_done 1 w.sessions r.plain.done
unfolding finished_in
scripts-txns keep r w = flat_map-map (λ (f : Finished). f.txns) (finished_in keep r) (session_numbers 1 w.sessions)

-- they stand in the order of the history as those of the run do
pub scripts-history : (keep : Bool) (s : RunSetting) (w : Workload) (turns : List SessionNo) → history_of (flat_map (λ (f : Finished). f.txns) (map (finished_in keep (world_run s w turns)) (session_numbers 1 w.sessions))) ≡ history (run w turns)
unfolding history
scripts-history keep s w turns =
    ap history_of (scripts-txns keep (world_run s w turns) w)
    ∙ merged-history w (world_run s w turns).plain (subst (RunHolds w) (sym (plain-run s w turns)) (run-holds w turns))
    ∙ ap (λ r. history_of r.done) (plain-run s w turns)

-- the sessions of the turns are those that the plain run takes
pub sessions-taken : (s : RunSetting) (w : Workload) (turns : List SessionNo) → IsValid w → map (λ (turn : Turn). turn.session) (world_run s w turns).turns ≡ turns_taken (run w turns)
unfolding sessions_of
sessions-taken s w turns valid = (run_stands s w valid turns).sessions ∙ ap turns_taken (plain-run s w turns)

-- ---- the exchanges

map-map : {A B C : Type 0} (f : A → B) (g : B → C) (xs : List A) → map g (map f xs) ≡ map (λ x. g (f x)) xs
map-map f g [] = refl
map-map f g (x ∷ xs) = ap (λ l. g (f x) ∷ l) (map-map f g xs)

-- where they are kept
pub logs-kept : (keep : Bool) (r : WorldRun) (w : Workload) → keep ≡ true → map (λ (f : Finished). f.log) (map (finished_in keep r) (session_numbers 1 w.sessions)) ≡ logs_of w r
unfolding finished_in kept_if logs_of
logs-kept keep r w kept =
    map-map (finished_in keep r) (λ (f : Finished). f.log) (session_numbers 1 w.sessions)
    ∙ ap (λ b. map (λ (n : SessionNo). kept_if b (session_at r.sessions n.0).log) (session_numbers 1 w.sessions)) kept

readable-log : (log : List Exchange) → Each IsReadable log → Each IsWritable log
unfolding Each
readable-log [] all = tt
readable-log (e ∷ log) all = (record { request = all.0.request; reply = all.0.reply }, readable-log log all.1)

pub readable-logs : (finished : List Finished) → Each HasReadable finished → Each (Each IsWritable) (map (λ (f : Finished). f.log) finished)
unfolding Each
readable-logs [] all = tt
readable-logs (f ∷ finished) all = (readable-log f.log all.0, readable-logs finished all.1)

-- ---- the whole

-- the view that is told, from what the scripts came to
view-told : (b : Bool) (r : Replaying) (w : Workload) (turns : List SessionNo) (finished : List Finished) (taken : List Turn) → r.view ≡ b
    → finished ≡ map (finished_in r.view (world_run (run_setting (replay_settings r)) w turns)) (session_numbers 1 w.sessions)
    → taken ≡ (world_run (run_setting (replay_settings r)) w turns).turns
    → if_asked b (view_text_of w (record { mode = r.mode; logs = map (λ (f : Finished). f.log) finished; turns = taken })) ≡ if_asked b (view_text_of w (view_under (replay_settings r) w turns))
unfolding if_asked view_under replay_settings
view-told false r w turns finished taken asked scripts told = refl
view-told true r w turns finished taken asked scripts told =
    let world : WorldRun = world_run (run_setting (replay_settings r)) w turns in
    ap (λ (l : List Finished). view_text_of w (record { mode = r.mode; logs = map (λ (f : Finished). f.log) l; turns = taken })) scripts
    ∙ ap (λ (l : List (List Exchange)). view_text_of w (record { mode = r.mode; logs = l; turns = taken })) (logs-kept r.view world w asked)
    ∙ ap (λ (l : List Turn). view_text_of w (record { mode = r.mode; logs = logs_of w world; turns = l })) told

-- what is told of a run, from what its scripts came to
unfoldable pub told_of : Replaying → Workload → List Finished → List Turn → List ℕ
told_of r w finished taken =
    text_of w (map (λ (turn : Turn). turn.session) taken) (history_of (flat_map (λ (f : Finished). f.txns) finished)) (Some (next_free_nonce r.first_nonce w))
    ++ if_asked r.view (view_text_of w (record { mode = r.mode; logs = map (λ (f : Finished). f.log) finished; turns = taken }))

told-text : (r : Replaying) (w : Workload) (turns : List SessionNo) (finished : List Finished) (taken : List Turn) → IsValid w
    → finished ≡ map (finished_in r.view (world_run (run_setting (replay_settings r)) w turns)) (session_numbers 1 w.sessions)
    → taken ≡ (world_run (run_setting (replay_settings r)) w turns).turns
    → told_of r w finished taken ≡ replay_text_of r w turns
unfolding told_of replay_text_of
told-text r w turns finished taken valid scripts told =
    let s : RunSetting = run_setting (replay_settings r) in
    let next : ℕ = next_free_nonce r.first_nonce w in
    let view : List ℕ = if_asked r.view (view_text_of w (record { mode = r.mode; logs = map (λ (f : Finished). f.log) finished; turns = taken })) in
    ap (λ (l : List Turn). text_of w (map (λ (turn : Turn). turn.session) l) (history_of (flat_map (λ (f : Finished). f.txns) finished)) (Some next) ++ view) told
    ∙ ap (λ (l : List SessionNo). text_of w l (history_of (flat_map (λ (f : Finished). f.txns) finished)) (Some next) ++ view) (sessions-taken s w turns valid)
    ∙ ap (λ (l : List Finished). text_of w (turns_taken (run w turns)) (history_of (flat_map (λ (f : Finished). f.txns) l)) (Some next) ++ view) scripts
    ∙ ap (λ (l : List DoneTxn). text_of w (turns_taken (run w turns)) l (Some next) ++ view) (scripts-history r.view s w turns)
    ∙ ap (λ (l : List ℕ). l ++ view) (text-report r.first_nonce w turns)
    ∙ ap (λ (l : List ℕ). report r.first_nonce w turns ++ l) (view-told r.view r w turns finished taken refl scripts told)

-- it is the replay's report
pub reported : (r : Replaying) (w : Workload) (bytes text : List ℕ) (finished : List Finished) (state : Course) (before after : List (SessionNo × Receipt) → Type 0) → IsValid w → IsWorkloadFile bytes w
    → Ran (replay_settings r) w r.schedule finished state before after → text ≡ told_of r w finished state.turns → Reports r bytes text
unfolding replay_settings
reported r w bytes text finished state before after valid spelled ran told =
    let s : RunSetting = run_setting (replay_settings r) in
    record {
      w = w;
      spelled = spelled;
      turns = ran.turns;
      by = ran.by;
      printed = turns-complete s w r.schedule ran.turns ran.by;
      text_is = told ∙ told-text r w ran.turns finished state.turns valid ran.scripts ran.taken;
      one_history = record { complete = taken-complete w ran.turns; serial = serial w ran.turns };
      seals = run_seals_cells s w valid ran.turns;
    }

-- and the watch was shown its exchanges
pub was-shown : (r : Replaying) (w : Workload) (bytes : List ℕ) (finished : List Finished) (state : Course) (before after : List (SessionNo × Receipt) → Type 0) → IsWorkloadFile bytes w
    → Ran (replay_settings r) w r.schedule finished state before after → IsShown r bytes before after
was-shown r w bytes finished state before after spelled ran = record {
  w = w;
  spelled = spelled;
  turns = ran.turns;
  by = ran.by;
  shown = ran.shows.more;
  all = ran.shows.holds;
  tells = ran.shows.tells;
}
