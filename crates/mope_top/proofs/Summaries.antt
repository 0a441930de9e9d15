-- The summary of a run, by what its scripts came to and the state at its end.
use Rattle.std.proofs.Common.{◌≡◌, refl, sym, ap, subst, ◌∙◌, ℕ, zero, suc, ◌<◌, ◌≤◌, Bool, true, false, List, [], ◌∷◌, map, flat_map, length, Err, arith}
use Rattle.std.proofs.lemmas.List.{length-map}
use Rattle.command_words.specs.declared.order.Generating.{Generating}
use Rattle.command_words.specs.declared.order.Schedule.TheVariants.{Round}
use Rattle.mope_base.specs.declared.body.Body.{Body}
use Rattle.mope_base.specs.declared.numbers.SessionNo.{SessionNo}
use Rattle.mope_top.specs.Ran.{Ran}
use Rattle.mope_top.specs.Replays.{SumsUp, rows_at_end, summed_settings}
use Rattle.mope_top.proofs.Reporting.{scripts-history, sessions-taken, turns-complete}
use Rattle.proxy.specs.declared.outcomes.Finished.{Finished}
use Rattle.report.specs.SummaryText.{summary_text_of}
use Rattle.run_laws.specs.RunLaws.{RunStands}
use Rattle.run_laws.specs.TellingLaws.{version_now}
use Rattle.run_laws.specs.Worlds.{RunSetting}
use Rattle.run_laws.specs.WorldRuns.{WorldRun, world_run}
use Rattle.run_laws.proofs.ScheduleLemmas.{plain-run}
use Rattle.run_laws.proofs.Standing.{run_stands}
use Rattle.server_conn.specs.declared.receipt.Receipt.{Receipt}
use Rattle.step_core.specs.Cores.{run_setting}
use Rattle.table_model.specs.Operations.{shelf_at}
use Rattle.table_model.specs.Stores.{Kept, Row, Shelf, Store, empty_shelf, kept_of, map_kept, map_shelf, shelf_of}
use Rattle.transaction_laws.specs.Transactions.{plain_database, plain_row, plain_table}
use Rattle.txn_core.specs.Courses.{Course}
use Rattle.value_cipher.specs.Cipher.{Cell, sealed, value_of}
use Rattle.versions.specs.Databases.{Database}
use Rattle.versions.specs.declared.turn.Turn.{Turn}
use Rattle.workload.specs.declared.plain.PlainDb.{PlainDb}
use Rattle.workload.specs.declared.script.DoneTxn.{DoneTxn}
use Rattle.workload.specs.declared.script.Workload.{Workload}
use Rattle.workload.specs.History.{history, history_of}
use Rattle.workload.specs.PlainDatabase.{empty_table, table_of}
use Rattle.workload.specs.Run.{Run, run, turns_taken}
use Rattle.workload.specs.Validity.{IsValid}
use Rattle.workload_file.specs.GeneratedText.{generated}
use Rattle.workload_file.specs.GeneratedLaws.{SpellsSessions}
use Rattle.workload_file.specs.WorkloadFile.{IsReadAs, IsWorkloadFile}
use Rattle.workload_file.specs.declared.stops.FileReason.{FileReason}
use Rattle.workload_file.specs.declared.stops.FileStop.{FileStop}
use Rattle.workload_file.specs.declared.stops.FileStop.TheVariants as stop
use Rattle.workload_file.proofs.GeneratedWhole.{generated_spells}

-- ---- the rows of the first table

-- the server's are as many as the world's
first-rows : (key : List ℕ) (stores : List (Store Cell)) → length (shelf_at (map (map_shelf (sealed key)) (map (shelf_of value_of) stores)) 0).kept ≡ length (table_of (plain_database stores) (record { 0 = 0 })).rows
unfolding shelf_at empty_shelf table_of plain_database empty_table map_shelf shelf_of plain_table
first-rows key [] = refl
first-rows key (t ∷ stores) =
    length-map (map (kept_of value_of t.columns) t.rows) (map_kept (sealed key))
    ∙ length-map t.rows (kept_of value_of t.columns)
    ∙ sym (length-map t.rows plain_row)

rows-end : (s : RunSetting) (w : Workload) (turns : List SessionNo) → IsValid w → length (shelf_at (version_now s w (world_run s w turns)).shelves 0).kept ≡ rows_at_end w turns
unfolding version_now rows_at_end
rows-end s w turns valid =
    let r : WorldRun = world_run s w turns in
    let stands : RunStands s w r = run_stands s w valid turns in
    ap (λ (l : List (Shelf Body)). length (shelf_at l 0).kept) stands.stands.tables.same
    ∙ first-rows s.key r.current.stores
    ∙ ap (λ (db : PlainDb). length (table_of db (record { 0 = 0 })).rows) stands.plain
    ∙ ap (λ (q : Run). length (table_of q.current (record { 0 = 0 })).rows) (plain-run s w turns)

-- a version of no tables has no rows there
pub no-rows : (shelves : List (Shelf Body)) → (0 < length shelves → ⊥) → 0 ≡ length (shelf_at shelves 0).kept
unfolding shelf_at empty_shelf
no-rows [] none = refl
no-rows (shelf ∷ shelves) none = absurd (none (omega arith))

-- ---- the text that is drawn

IsStop : FileStop → Type 0
IsStop (stop.Bad line why) = ⊥
IsStop stop.OutOfMemory = Unit {0}

-- it has no fault
pub never-bad : (g : Generating) (text : List ℕ) (line : ℕ) (why : FileReason) → g.sessions ≤ 64 → g.transactions ≤ 1000 → text ≡ generated g.number g.sessions g.transactions
    → ((w : Workload) → IsWorkloadFile text w → IsReadAs w (Err (stop.Bad line why))) → ⊥
unfolding IsStop
never-bad g text line why few less is complete =
    let spells : SpellsSessions (generated g.number g.sessions g.transactions) g.sessions g.transactions = generated_spells g.number g.sessions g.transactions few less in
    subst IsStop (sym (complete spells.workload (subst (λ (l : List ℕ). IsWorkloadFile l spells.workload) (sym is) spells.spelled))) tt

-- ---- the turns

turns-many : (s : RunSetting) (w : Workload) (turns : List SessionNo) → IsValid w → turns_taken (run w turns) ≡ turns → length (world_run s w turns).turns ≡ length turns
turns-many s w turns valid complete =
    sym (length-map (world_run s w turns).turns (λ (turn : Turn). turn.session))
    ∙ ap (λ (l : List SessionNo). length l) (sessions-taken s w turns valid ∙ complete)

-- ---- the whole

pub summed : (g : Generating) (w : Workload) (text : List ℕ) (finished : List Finished) (state : Course) (before after : List (SessionNo × Receipt) → Type 0) (rows : ℕ) → IsValid w → IsWorkloadFile (generated g.number g.sessions g.transactions) w
    → Ran (summed_settings g) w Round finished state before after → rows ≡ length (shelf_at state.current.shelves 0).kept
    → text ≡ summary_text_of g.number g.sessions (length state.turns) (history_of (flat_map (λ (f : Finished). f.txns) finished)) rows → SumsUp g text
unfolding summed_settings
summed g w text finished state before after rows valid spelled ran counted told =
    let s : RunSetting = run_setting (summed_settings g) in
    record {
      w = w;
      spelled = spelled;
      turns = ran.turns;
      by = ran.by;
      text_is =
          told
          ∙ ap (λ (n : ℕ). summary_text_of g.number g.sessions n (history_of (flat_map (λ (f : Finished). f.txns) finished)) rows) (ap (λ (l : List Turn). length l) ran.taken ∙ turns-many s w ran.turns valid (turns-complete s w Round ran.turns ran.by))
          ∙ ap (λ (l : List Finished). summary_text_of g.number g.sessions (length ran.turns) (history_of (flat_map (λ (f : Finished). f.txns) l)) rows) ran.scripts
          ∙ ap (λ (l : List DoneTxn). summary_text_of g.number g.sessions (length ran.turns) l rows) (scripts-history false s w ran.turns)
          ∙ ap (λ (n : ℕ). summary_text_of g.number g.sessions (length ran.turns) (history (run w ran.turns)) n) (counted ∙ ap (λ (d : Database). length (shelf_at d.shelves 0).kept) ran.current ∙ rows-end s w ran.turns valid);
    }
