-- The begin turn of a session: its client and connection meet it, and go on to where the session rests.
use Rattle.std.proofs.Common.{◌≡◌, refl, sym, ◌∙◌, ap, subst, ℕ, suc, ◌<◌, Bool, false, List, [], ◌∷◌, ◌++◌, length, append-nil, arith}
use Rattle.mope_base.specs.declared.numbers.TableNo.{TableNo}
use Rattle.mope_base.specs.declared.numbers.ColNo.{ColNo}
use Rattle.mope_base.specs.declared.numbers.SessionNo.{SessionNo}
use Rattle.table_model.specs.Stores.{Store}
use Rattle.table_model.specs.Operations.{ValueOp}
use Rattle.value_cipher.specs.Cipher.{Cell}
use Rattle.versions.specs.Databases.{Database}
use Rattle.walk_proto.specs.declared.messages.Exchange.{Exchange}
use Rattle.walk_proto.specs.declared.messages.How.TheVariants as how
use Rattle.walk_proto.specs.declared.messages.Reply.{Reply}
use Rattle.walk_proto.specs.declared.messages.Reply.TheVariants as reply
use Rattle.walk_proto.specs.declared.messages.Request.{Request}
use Rattle.walk_proto.specs.declared.messages.Request.TheVariants as request
use Rattle.workload.specs.declared.plain.PlainDb.{PlainDb}
use Rattle.workload.specs.declared.script.Act.{Act}
use Rattle.workload.specs.declared.script.DoneTxn.{DoneTxn}
use Rattle.workload.specs.declared.script.End.{End}
use Rattle.workload.specs.declared.script.Piece.{Piece}
use Rattle.workload.specs.declared.script.Piece.TheVariants as piece
use Rattle.workload.specs.declared.script.Workload.{Workload}
use Rattle.workload.specs.Run.{ready, committing, installing, position_at, number_of}
use Rattle.workload.specs.Transaction.{Work, Trial, going, trial_of, work_of, Wish, ends, commits, wish_of}
use Rattle.workload.specs.Validity.{IsValid, IsValidPiece}
use Rattle.proxy.specs.Client.{Setting, Client, hears, taking_up, ending}
use Rattle.proxy.specs.Tasks.{closes, rebuilds, acts_then}
use Rattle.server_conn.specs.Connections.{Held, held_on, Conn, idle, begins, holds, Served, wants_begin, Step}
use Rattle.server_conn.specs.Serving.{began}
use Rattle.plain_db.proofs.StepLemmas.{is_over}
use Rattle.transaction_laws.specs.Constants.{store_at}
use Rattle.transaction_laws.specs.Ends.{MeetsTurn, begun_on, HasColumnOf}
use Rattle.transaction_laws.specs.Meetings.{doing}
use Rattle.transaction_laws.specs.Standing.{World}
use Rattle.transaction_laws.specs.Walks.{exchanged}
use Rattle.transaction_laws.specs.Transactions.{Tried, tried_on, acts_tried, acts_log, client_in, held_in, CommitTurns, MayRun, TransactionGoes, RebuildGoes}
use Rattle.transaction_laws.proofs.Meeting.{meets_nothing}
use Rattle.transaction_laws.proofs.Querying.{declared-tables, declared-columns}
use Rattle.transaction_laws.proofs.Shown.{shown-table, shown-column}
use Rattle.transaction_laws.proofs.StandingVersions.{standing_runs}
use Rattle.transaction_laws.proofs.Transacting.{transaction_meets, rebuild_meets}
use Rattle.run_laws.specs.Worlds.{RunSetting, session_setting}
use Rattle.run_laws.specs.WorldRuns.{WorldRun, Session, session_at, world_at, closing_by, begin_log, begin_taken, world_turn}
use Rattle.run_laws.specs.Schedules.{due_after_begin}
use Rattle.run_laws.specs.Seats.{seat_of, IsSeated, client_ready, client_closing, done_by, IsBase, IsCommitting, IsInstalling, Rests}
use Rattle.run_laws.specs.SeatLaws.{IsSession}
use Rattle.run_laws.specs.TellingLaws.{version_now}
use Rattle.run_laws.proofs.Moves.{Moves, begun_place, begun_ended, begin-moves, rebuild-moves}
use Rattle.run_laws.proofs.Paces.{KeepsPace}
use Rattle.run_laws.proofs.Arriving.{Arrives, arrives, rest-ready, rest-committing, rest-installing, number-now, base-begins, world-begins}
use Rattle.run_laws.proofs.Beginning.{meets-seated, tried_of, Waits, LeadsTo, begun-seated}

-- the turn, with the client after its reply
pub as_heard : (s : Setting) (c : Client) (k : Conn) (r : Request) (asks : Served) (waiting : Conn) (answer : Reply) (step : Step) (client : Client) (conn : Conn) → MeetsTurn s c k r asks waiting answer step client conn → MeetsTurn s c k r asks waiting answer step (hears s c answer) conn
as_heard s c k r asks waiting answer step client conn meets = record { wanted = meets.wanted; asked = meets.asked; answered = meets.answered; allows = meets.allows; client_is = refl }

unfoldable pub began_reply : Database → Reply
began_reply d = reply.Ended how.Began 0 d.number

-- a ready client meets its begin's turn, and these exchanges lead to where its session rests
pub record Begins (s : RunSetting) (w : Workload) (r : WorldRun) (n : SessionNo) (c : Client) (d : Database) (due : List Exchange) : Type 0 where
  pub meets : MeetsTurn (session_setting s n) c idle request.Begin wants_begin begins (began_reply d) (began d) (hears (session_setting s n) c (began_reply d)) (holds (held_on d))
  pub logged : (session_at (world_turn s r n).sessions n.0).log ≡ (session_at r.sessions n.0).log ++ exchanged request.Begin (began_reply d) ∷ due
  pub seated : IsSeated (session_setting s n) due (Rests s w (world_turn s r n) n) (seat_of (hears (session_setting s n) c (began_reply d)) (holds (held_on d)))

began-log : (s : RunSetting) (w : Workload) (r : WorldRun) (n : SessionNo) (p : Piece) → KeepsPace s w r → (begin_taken s r.current n (session_at r.sessions n.0) p).session.log ≡ (session_at r.sessions n.0).log ++ exchanged request.Begin (began_reply (version_now s w r)) ∷ due_after_begin s r.current n (session_at r.sessions n.0) p
unfolding begin_taken begin_log due_after_begin began_reply
began-log s w r n (piece.Txn acts rollback) pace = ap (λ (k : ℕ). (session_at r.sessions n.0).log ++ exchanged request.Begin (reply.Ended how.Began 0 k) ∷ due_after_begin s r.current n (session_at r.sessions n.0) (piece.Txn acts rollback)) (sym pace.stands.number)
began-log s w r n (piece.Rebuild t column) pace = ap (λ (k : ℕ). (session_at r.sessions n.0).log ++ exchanged request.Begin (reply.Ended how.Began 0 k) ∷ []) (sym pace.stands.number)

-- the client before it
unfoldable pub client_now : WorldRun → SessionNo → ℕ → List Piece → Client
client_now r n place script = client_ready place script (session_at r.sessions n.0).tried.seals (done_by n.0 r.plain.done)

-- ---- a transaction

-- what its turn moves, by its trial and the number of its base
unfoldable pub TrialMoves : RunSetting → WorldRun → SessionNo → ℕ → List Act → Bool → List Piece → Trial → ℕ → Type 0
TrialMoves s r n place acts rollback rest trial number =
    Moves r (world_turn s r n) n (begin_taken s r.current n (session_at r.sessions n.0) (piece.Txn acts rollback)).session (begun_place (wish_of rollback trial) place number (work_of trial) rest) (begun_ended (wish_of rollback trial) n place number (work_of trial)) (begin_taken s r.current n (session_at r.sessions n.0) (piece.Txn acts rollback)).turn

trial-moves : (s : RunSetting) (w : Workload) (r : WorldRun) (n : SessionNo) (place : ℕ) (acts : List Act) (rollback : Bool) (rest : List Piece) (trial : Trial) → KeepsPace s w r → position_at r.plain.positions n.0 ≡ ready place (piece.Txn acts rollback ∷ rest) → trial ≡ trial_of r.plain.current acts → TrialMoves s r n place acts rollback rest trial (version_now s w r).number
unfolding TrialMoves
trial-moves s w r n place acts rollback rest trial pace here same =
    subst (λ (x : Trial). TrialMoves s r n place acts rollback rest x (version_now s w r).number) (sym same)
    (subst (λ (k : ℕ). TrialMoves s r n place acts rollback rest (trial_of r.plain.current acts) k) (sym (number-now s w r pace)) (begin-moves s r n place acts rollback rest here))

-- where its session arrives
unfoldable pub TrialArrives : RunSetting → WorldRun → SessionNo → ℕ → List Act → Bool → List Piece → Trial → ℕ → Type 0
TrialArrives s r n place acts rollback rest trial number =
    Arrives r (world_turn s r n) n.0 (begin_taken s r.current n (session_at r.sessions n.0) (piece.Txn acts rollback)).session (begun_place (wish_of rollback trial) place number (work_of trial) rest) (begun_ended (wish_of rollback trial) n place number (work_of trial))

trial-arrives : (s : RunSetting) (w : Workload) (r : WorldRun) (n : SessionNo) (place : ℕ) (acts : List Act) (rollback : Bool) (rest : List Piece) (trial : Trial) (number : ℕ) → KeepsPace s w r → IsSession w n → position_at r.plain.positions n.0 ≡ ready place (piece.Txn acts rollback ∷ rest) → TrialMoves s r n place acts rollback rest trial number → TrialArrives s r n place acts rollback rest trial number
unfolding TrialMoves TrialArrives is_over
trial-arrives s w r n place acts rollback rest trial number pace known here moves = arrives s w r (world_turn s r n) n _ _ (ready place (piece.Txn acts rollback ∷ rest)) _ _ pace known here refl moves

trial-session : (s : RunSetting) (r : WorldRun) (n : SessionNo) (place : ℕ) (acts : List Act) (rollback : Bool) (rest : List Piece) (trial : Trial) (number : ℕ) → TrialArrives s r n place acts rollback rest trial number → session_at (world_turn s r n).sessions n.0 ≡ (begin_taken s r.current n (session_at r.sessions n.0) (piece.Txn acts rollback)).session
unfolding TrialArrives
trial-session s r n place acts rollback rest trial number arr = arr.session

-- the transaction as it was tried
unfoldable pub tried_now : RunSetting → WorldRun → SessionNo → List Act → Bool → Tried
tried_now s r n acts mode = acts_tried (session_setting s n) mode acts (tried_on r.current.stores (session_at r.sessions n.0).tried.seals)

arrived-tried : (s : RunSetting) (w : Workload) (r : WorldRun) (n : SessionNo) (place : ℕ) (acts : List Act) (rollback : Bool) (rest : List Piece) (trial : Trial) (number : ℕ) → KeepsPace s w r → TrialArrives s r n place acts rollback rest trial number → (session_at (world_turn s r n).sessions n.0).tried ≡ tried_now s r n acts (version_now s w r).same_time
unfolding TrialArrives begin_taken tried_now
arrived-tried s w r n place acts rollback rest trial number pace arr =
    ap (λ (x : Session). x.tried) arr.session ∙ ap (λ (mode : Bool). acts_tried (session_setting s n) mode acts (tried_on r.current.stores (session_at r.sessions n.0).tried.seals)) (sym pace.stands.mode)

txn-ended : (s : RunSetting) (w : Workload) (r : WorldRun) (n : SessionNo) (place : ℕ) (acts : List Act) (rollback : Bool) (rest : List Piece) (t : Tried) (number : ℕ) (e : End) → (session_at (world_turn s r n).sessions n.0).tried ≡ t → TrialArrives s r n place acts rollback rest t.plain number → wish_of rollback t.plain ≡ ends e
    → Rests s w (world_turn s r n) n (seat_of (client_ready (suc place) rest t.seals (done_by n.0 r.plain.done ++ record { session = n; place = place; base = number; end = e; answers = (work_of t.plain).answers } ∷ [])) idle)
unfolding TrialArrives begun_place begun_ended seat_of
txn-ended s w r n place acts rollback rest t number e same arr wish =
    let txn : DoneTxn = record { session = n; place = place; base = number; end = e; answers = (work_of t.plain).answers } in
    rest-ready s w (world_turn s r n) n (suc place) rest t.seals (done_by n.0 r.plain.done ++ txn ∷ []) (seat_of (client_ready (suc place) rest t.seals (done_by n.0 r.plain.done ++ txn ∷ [])) idle)
    (arr.position ∙ ap (λ (x : Wish). begun_place x place number (work_of t.plain) rest) wish)
    (ap (λ (x : Tried). x.seals) same)
    (arr.done ∙ ap (λ (x : Wish). done_by n.0 r.plain.done ++ begun_ended x n place number (work_of t.plain)) wish)
    (record { client = refl; conn = refl })

-- the commit's turns, for the client that has its last task left
turns-closing : (s : Setting) (acts : List Act) (place number : ℕ) (work : Work) (p : Piece) (rest : List Piece) (done : List DoneTxn) (before : ℕ) (stores : List (Store Cell)) (ops : List (ValueOp Cell)) (seals : ℕ) (h : Held)
    → CommitTurns s acts work.touched (client_in [] (begun_on number (client_ready place (p ∷ rest) before done)) (tried_of (going work) stores ops seals)) h → CommitTurns s acts work.touched (client_closing (closes false acts) place number work.answers rest seals done) h
unfolding client_in begun_on client_ready taking_up client_closing doing tried_of work_of ending
turns-closing s acts place number work p rest done before stores ops seals h turns = record { commits_as = turns.commits_as; conflicts = turns.conflicts }

client-closing : (acts : List Act) (rollback : Bool) (place number : ℕ) (work : Work) (p : Piece) (rest : List Piece) (done : List DoneTxn) (before : ℕ) (stores : List (Store Cell)) (ops : List (ValueOp Cell)) (seals : ℕ) → rollback ≡ false
    → client_in (closes rollback acts ∷ []) (begun_on number (client_ready place (p ∷ rest) before done)) (tried_of (going work) stores ops seals) ≡ client_closing (closes false acts) place number work.answers rest seals done
unfolding client_in begun_on client_ready taking_up client_closing tried_of work_of
client-closing acts rollback place number work p rest done before stores ops seals keeps = ap (λ (b : Bool). client_closing (closes b acts) place number work.answers rest seals done) keeps

txn-waits : (s : RunSetting) (w : Workload) (r : WorldRun) (n : SessionNo) (place : ℕ) (acts : List Act) (rollback : Bool) (rest : List Piece) (t : Tried) (work : Work) → KeepsPace s w r → (session_at (world_turn s r n).sessions n.0).tried ≡ t
    → TrialMoves s r n place acts rollback rest t.plain (version_now s w r).number → TrialArrives s r n place acts rollback rest t.plain (version_now s w r).number → t.plain ≡ going work
    → Waits (session_setting s n) acts rollback (begun_on (version_now s w r).number (client_now r n place (piece.Txn acts rollback ∷ rest))) (version_now s w r) r.current.stores work t.stores t.ops t.seals
    → Rests s w (world_turn s r n) n (seat_of (client_in (closes rollback acts ∷ []) (begun_on (version_now s w r).number (client_now r n place (piece.Txn acts rollback ∷ rest))) (tried_of (going work) t.stores t.ops t.seals)) (holds (held_in s.key (version_now s w r) r.current.stores (tried_of (going work) t.stores t.ops t.seals))))
unfolding TrialMoves TrialArrives begun_place begun_ended seat_of client_now tried_of wish_of session_setting work_of
txn-waits s w r n place acts rollback rest t work pace same moves arr is waits =
    let next : WorldRun = world_turn s r n in
    let d : Database = version_now s w r in
    let p : Piece = piece.Txn acts rollback in
    let seals : ℕ = (session_at r.sessions n.0).tried.seals in
    let done : List DoneTxn = done_by n.0 r.plain.done in
    let tg : Tried = tried_of (going work) t.stores t.ops t.seals in
    let wish : wish_of rollback t.plain ≡ commits = ap (λ (x : Trial). wish_of rollback x) is ∙ waits.wish in
    let same_done : done ≡ done_by n.0 next.plain.done = sym (arr.done ∙ ap (λ (x : Wish). done ++ begun_ended x n place d.number (work_of t.plain)) wish ∙ append-nil done) in
    let world : r.current ≡ world_at next d.number =
    sym (ap (λ (k : ℕ). world_at next k) (number-now s w r pace) ∙ world-begins s w r next n _ _ _ _ pace moves) in
    let turns : CommitTurns (session_setting s n) acts work.touched (client_closing (closes false acts) place d.number work.answers rest t.seals done) (held_in s.key d r.current.stores tg) =
    turns-closing (session_setting s n) acts place d.number work p rest done seals t.stores t.ops t.seals (held_in s.key d r.current.stores tg) waits.turns in
    let rests : IsCommitting s w next n place d.number work rest tg (seat_of (client_in (closes rollback acts ∷ []) (begun_on d.number (client_ready place (p ∷ rest) seals done)) tg) (holds (held_in s.key d r.current.stores tg))) =
    record {
      acts = acts;
      version = d;
      begun = subst (λ (k : ℕ). IsBase s w next k d) (sym (number-now s w r pace)) (base-begins s w r next n _ _ _ _ pace moves);
      plain = refl;
      turns =
          subst (λ (l : List DoneTxn). CommitTurns (session_setting s n) acts work.touched (client_closing (closes false acts) place d.number work.answers rest t.seals l) (held_in s.key d (world_at next d.number).stores tg)) same_done
          (subst (λ (x : World). CommitTurns (session_setting s n) acts work.touched (client_closing (closes false acts) place d.number work.answers rest t.seals done) (held_in s.key d x.stores tg)) world turns);
      client =
          client-closing acts rollback place d.number work p rest done seals t.stores t.ops t.seals waits.keeps
          ∙ ap (λ (l : List DoneTxn). client_closing (closes false acts) place d.number work.answers rest t.seals l) same_done;
      conn = ap (λ (x : World). holds (held_in s.key d x.stores tg)) world;
    } in
    rest-committing s w next n place d.number work rest tg (seat_of (client_in (closes rollback acts ∷ []) (begun_on d.number (client_ready place (p ∷ rest) seals done)) tg) (holds (held_in s.key d r.current.stores tg)))
    (arr.position ∙ ap (λ (x : Wish). begun_place x place d.number (work_of t.plain) rest) wish ∙ ap (λ (x : Trial). committing place d.number (work_of x) rest) is)
    (same ∙ ap (λ (x : Trial). tried_of x t.stores t.ops t.seals) is) rests

txn-leads : (s : RunSetting) (w : Workload) (r : WorldRun) (n : SessionNo) (place : ℕ) (acts : List Act) (rollback : Bool) (rest : List Piece) (t : Tried) → KeepsPace s w r → IsSession w n → position_at r.plain.positions n.0 ≡ ready place (piece.Txn acts rollback ∷ rest) → t ≡ tried_now s r n acts (version_now s w r).same_time → t.plain ≡ trial_of r.plain.current acts
    → LeadsTo (session_setting s n) acts rollback (begun_on (version_now s w r).number (client_now r n place (piece.Txn acts rollback ∷ rest))) (version_now s w r) r.current.stores t.plain t.stores t.ops t.seals (Rests s w (world_turn s r n) n)
unfolding begun_on client_now client_ready taking_up session_setting
txn-leads s w r n place acts rollback rest t pace known here now same =
    let number : ℕ = (version_now s w r).number in
    let moves : TrialMoves s r n place acts rollback rest t.plain number = trial-moves s w r n place acts rollback rest t.plain pace here same in
    let arr : TrialArrives s r n place acts rollback rest t.plain number = trial-arrives s w r n place acts rollback rest t.plain number pace known here moves in
    let arrived : (session_at (world_turn s r n).sessions n.0).tried ≡ t = arrived-tried s w r n place acts rollback rest t.plain number pace arr ∙ sym now in
    record {
      ended = λ e wish. txn-ended s w r n place acts rollback rest t number e arrived arr wish;
      waits = λ work is waits. txn-waits s w r n place acts rollback rest t work pace arrived moves arr is waits;
    }

may-run : (s : RunSetting) (w : Workload) (r : WorldRun) (n : SessionNo) → KeepsPace s w r → IsValid w → MayRun (session_setting s n) w.tables (version_now s w r) r.current.stores
unfolding session_setting
may-run s w r n pace valid = standing_runs (session_setting s n) w.tables (version_now s w r) r.current pace.stands pace.limit valid.tables pace.declared

-- the exchanges that remain, by the world's mode and number and by the version's
due-now : (s : RunSetting) (w : Workload) (r : WorldRun) (n : SessionNo) (acts : List Act) (rollback : Bool) → KeepsPace s w r
    → acts_log (session_setting s n) (version_now s w r).same_time acts (tried_on r.current.stores (session_at r.sessions n.0).tried.seals) ++ closing_by rollback (version_now s w r).number (tried_now s r n acts (version_now s w r).same_time).plain
    ≡ due_after_begin s r.current n (session_at r.sessions n.0) (piece.Txn acts rollback)
unfolding due_after_begin tried_now
due-now s w r n acts rollback pace =
    ap (λ (mode : Bool). acts_log (session_setting s n) mode acts (tried_on r.current.stores (session_at r.sessions n.0).tried.seals) ++ closing_by rollback (version_now s w r).number (tried_now s r n acts mode).plain) pace.stands.mode
    ∙ ap (λ (number : ℕ). acts_log (session_setting s n) r.current.same_time acts (tried_on r.current.stores (session_at r.sessions n.0).tried.seals) ++ closing_by rollback number (tried_now s r n acts r.current.same_time).plain) pace.stands.number

pub txn-begins : (s : RunSetting) (w : Workload) (r : WorldRun) (n : SessionNo) (place : ℕ) (acts : List Act) (rollback : Bool) (rest : List Piece) → KeepsPace s w r → IsValid w → IsSession w n → position_at r.plain.positions n.0 ≡ ready place (piece.Txn acts rollback ∷ rest)
    → Begins s w r n (client_now r n place (piece.Txn acts rollback ∷ rest)) (version_now s w r) (due_after_begin s r.current n (session_at r.sessions n.0) (piece.Txn acts rollback))
unfolding client_now client_ready taking_up doing began_reply tried_now tried_of session_setting
txn-begins s w r n place acts rollback rest pace valid known here =
    let one : Setting = session_setting s n in
    let p : Piece = piece.Txn acts rollback in
    let d : Database = version_now s w r in
    let c : Client = client_now r n place (p ∷ rest) in
    let t : Tried = tried_now s r n acts d.same_time in
    let begun : Client = begun_on d.number c in
    let first : Client = doing (acts_then acts (closes rollback acts ∷ [])) begun in
    let log : List Exchange = acts_log one d.same_time acts (tried_on r.current.stores (session_at r.sessions n.0).tried.seals) in
    let goes : TransactionGoes one acts rollback c d r.current.stores t = transaction_meets one w.tables acts rollback c d r.current.stores (may-run s w r n pace valid) (pace.valid n place p rest here).0 refl in
    let same : t.plain ≡ trial_of r.plain.current acts = goes.plain ∙ ap (λ (db : PlainDb). trial_of db acts) pace.plain in
    let seated : IsSeated one (log ++ closing_by rollback d.number t.plain) (Rests s w (world_turn s r n) n) (seat_of first (holds (held_on d))) =
    begun-seated one acts rollback begun d r.current.stores t.plain t.stores t.ops t.seals first (holds (held_on d)) log (Rests s w (world_turn s r n) n) goes.goes goes.ends_as (txn-leads s w r n place acts rollback rest t pace known here refl same) in
    let moves : TrialMoves s r n place acts rollback rest t.plain d.number = trial-moves s w r n place acts rollback rest t.plain pace here same in
    record {
      meets = as_heard one c idle request.Begin wants_begin begins (began_reply d) (began d) first (holds (held_on d)) goes.starts;
      logged = ap (λ (x : Session). x.log) (trial-session s r n place acts rollback rest t.plain d.number (trial-arrives s w r n place acts rollback rest t.plain d.number pace known here moves)) ∙ began-log s w r n p pace;
      seated =
          subst (λ (x : Client). IsSeated one (due_after_begin s r.current n (session_at r.sessions n.0) p) (Rests s w (world_turn s r n) n) (seat_of x (holds (held_on d)))) (sym goes.starts.client_is)
          (subst (λ (l : List Exchange). IsSeated one l (Rests s w (world_turn s r n) n) (seat_of first (holds (held_on d)))) (due-now s w r n acts rollback pace) seated);
    }

-- ---- a REBUILD

has-column : (s : RunSetting) (w : Workload) (r : WorldRun) (n : SessionNo) (t : TableNo) (column : ColNo) → KeepsPace s w r → MayRun (session_setting s n) w.tables (version_now s w r) r.current.stores → IsValidPiece w.tables (piece.Rebuild t column) → HasColumnOf t column (version_now s w r)
has-column s w r n t column pace may valid =
    let d : Database = version_now s w r in
    let stores : List (Store Cell) = r.current.stores in
    let there : t.0 < length stores = omega (arith, valid.0, declared-tables w.tables stores may.declared) in
    let in_table : column.0 < length (store_at stores t).columns = subst (λ (k : ℕ). column.0 < k) (declared-columns w.tables stores t may.declared there) valid.1 in
    record { has_table = shown-table (session_setting s n).key stores (held_on d) t may.shows there; has_column = shown-column (session_setting s n).key stores (held_on d) t column may.shows in_table }

pub rebuild-begins : (s : RunSetting) (w : Workload) (r : WorldRun) (n : SessionNo) (place : ℕ) (t : TableNo) (column : ColNo) (rest : List Piece) → KeepsPace s w r → IsValid w → IsSession w n → position_at r.plain.positions n.0 ≡ ready place (piece.Rebuild t column ∷ rest)
    → Begins s w r n (client_now r n place (piece.Rebuild t column ∷ rest)) (version_now s w r) (due_after_begin s r.current n (session_at r.sessions n.0) (piece.Rebuild t column))
unfolding client_now client_ready taking_up doing began_reply due_after_begin begin_taken begun_on client_closing is_over seat_of
rebuild-begins s w r n place t column rest pace valid known here =
    let one : Setting = session_setting s n in
    let next : WorldRun = world_turn s r n in
    let p : Piece = piece.Rebuild t column in
    let d : Database = version_now s w r in
    let seals : ℕ = (session_at r.sessions n.0).tried.seals in
    let done : List DoneTxn = done_by n.0 r.plain.done in
    let c : Client = client_now r n place (p ∷ rest) in
    let first : Client = doing (rebuilds t column ∷ []) (begun_on d.number c) in
    let may : MayRun one w.tables d r.current.stores = may-run s w r n pace valid in
    let goes : RebuildGoes one t column c d = rebuild_meets one w.tables t column c d r.current.stores may (pace.valid n place p rest here) in
    let moves = rebuild-moves s r n place t column rest here in
    let arr = arrives s w r next n _ _ (ready place (p ∷ rest)) _ _ pace known here refl moves in
    let number : number_of r.plain ≡ d.number = sym (number-now s w r pace) in
    let rests : IsInstalling s w next n place d.number t column rest seals (seat_of first (holds (held_on d))) =
    record {
      version = d;
      begun = subst (λ (k : ℕ). IsBase s w next k d) number (base-begins s w r next n _ _ _ _ pace moves);
      there = has-column s w r n t column pace may (pace.valid n place p rest here);
      client = ap (λ (l : List DoneTxn). client_closing (rebuilds t column) place d.number [] rest seals l) (sym (arr.done ∙ append-nil done));
      conn = refl;
    } in
    let seated : IsSeated one [] (Rests s w next n) (seat_of first (holds (held_on d))) =
    meets-seated one [] (Rests s w next n) first first (holds (held_on d)) (holds (held_on d)) (meets_nothing one first (holds (held_on d)))
    (rest-installing s w next n place d.number t column rest seals (seat_of first (holds (held_on d))) (arr.position ∙ ap (λ (k : ℕ). installing place k t column rest) number) (ap (λ (x : Session). x.tried.seals) arr.session) rests) in
    record {
      meets = as_heard one c idle request.Begin wants_begin begins (began_reply d) (began d) first (holds (held_on d)) goes.starts;
      logged = ap (λ (x : Session). x.log) arr.session ∙ began-log s w r n p pace;
      seated = subst (λ (x : Client). IsSeated one [] (Rests s w next n) (seat_of x (holds (held_on d)))) (sym goes.starts.client_is) seated;
    }
