-- The commit's or the install's turn of a session: its client and connection meet it, and the session is ready again.
use Rattle.std.proofs.Common.{◌≡◌, refl, sym, ◌∙◌, ap, ap₂, subst, ℕ, suc, Bool, true, false, ltb, ◌&&◌, List, [], ◌∷◌, ◌++◌, Option, Some, None}
use Rattle.std.proofs.lemmas.Bool.{true≢false}
use Rattle.mope_base.specs.declared.numbers.TableNo.{TableNo}
use Rattle.mope_base.specs.declared.numbers.ColNo.{ColNo}
use Rattle.mope_base.specs.declared.numbers.SessionNo.{SessionNo}
use Rattle.versions.specs.Databases.{Database, stamps_at}
use Rattle.versions.specs.Newer.{lowest_newer, last_change}
use Rattle.walk_proto.specs.declared.messages.Reply.{Reply}
use Rattle.walk_proto.specs.declared.messages.Request.{Request}
use Rattle.walk_proto.specs.declared.messages.Request.TheVariants as request
use Rattle.workload.specs.declared.script.Act.{Act}
use Rattle.workload.specs.declared.script.Answer.{Answer}
use Rattle.workload.specs.declared.script.DoneTxn.{DoneTxn}
use Rattle.workload.specs.declared.script.End.{End}
use Rattle.workload.specs.declared.script.Piece.{Piece}
use Rattle.workload.specs.declared.script.Workload.{Workload}
use Rattle.workload.specs.Run.{ready, committing, installing, position_at, number_of, Stamps, stamps_of, names, this_or, lowest_newer as plain_newer, last_change as plain_change}
use Rattle.workload.specs.Transaction.{Work, Trial, work_of}
use Rattle.proxy.specs.Client.{Setting, Client, hears, ending}
use Rattle.proxy.specs.Tasks.{Task, closes, rebuilds}
use Rattle.server_conn.specs.Connections.{Held, held_on, commit, install, Conn, idle, holds, awaits, Served, wants_commit, wants_install, Step}
use Rattle.plain_db.proofs.StepLemmas.{is_over}
use Rattle.transaction_laws.specs.Ends.{MeetsTurn, HasColumnOf}
use Rattle.transaction_laws.specs.Meetings.{doing}
use Rattle.transaction_laws.specs.Standing.{World}
use Rattle.transaction_laws.specs.Walks.{exchanged}
use Rattle.transaction_laws.specs.Transactions.{Tried, held_in, CommitTurns}
use Rattle.transaction_laws.proofs.Ending.{install_meets, stale_meets}
use Rattle.transaction_laws.proofs.Meeting.{meets_nothing}
use Rattle.run_laws.specs.Worlds.{RunSetting, session_setting}
use Rattle.run_laws.specs.WorldRuns.{WorldRun, Session, session_at, world_at, having_said, commit_taken, install_taken, world_turn}
use Rattle.run_laws.specs.Seats.{Seat, seat_of, IsSeated, client_ready, client_closing, done_by, IsCommitting, IsInstalling, Rests}
use Rattle.run_laws.specs.SeatLaws.{IsSession}
use Rattle.run_laws.specs.SteppingLaws.{commit_reply, commit_step, install_reply, install_step}
use Rattle.run_laws.specs.TellingLaws.{version_now}
use Rattle.run_laws.proofs.Moves.{commit_end, install_end, ended_txn, commit-moves, install-moves}
use Rattle.run_laws.proofs.Paces.{KeepsPace}
use Rattle.run_laws.proofs.Arriving.{Arrives, arrives, rest-ready, number-now}
use Rattle.run_laws.proofs.Beginning.{meets-seated}
use Rattle.run_laws.proofs.BeginSteps.{as_heard}
use Rattle.run_laws.proofs.ToldTurns.{newer-now, changed-now}

-- ---- the table of a conflict is a touched one

and-left : (a b : Bool) → (a && b) ≡ true → a ≡ true
and-left true b e = refl
and-left false b e = absurd (true≢false (sym e))

found_or : (TableNo × ℕ) → Option (TableNo × ℕ) → (TableNo × ℕ)
found_or other None = other
found_or other (Some newer) = newer

IsFound : Option (TableNo × ℕ) → Type 0
IsFound None = ⊥
IsFound (Some newer) = Unit {0}

this-named : (here : Bool) (i written : ℕ) (other : Option (TableNo × ℕ)) (touched : List TableNo) (newer : TableNo × ℕ) → (here ≡ true → names touched i ≡ true) → (other ≡ Some newer → names touched newer.0.0 ≡ true) → this_or here i written other ≡ Some newer → names touched newer.0.0 ≡ true
unfolding this_or found_or
this-named true i written other touched newer named later is = subst (λ (x : TableNo × ℕ). names touched x.0.0 ≡ true) (ap (λ (o : Option (TableNo × ℕ)). found_or newer o) is) (named refl)
this-named false i written other touched newer named later is = later is

newer-named : (i : ℕ) (stamps : List Stamps) (base : ℕ) (touched : List TableNo) (newer : TableNo × ℕ) → plain_newer i stamps base touched ≡ Some newer → names touched newer.0.0 ≡ true
unfolding plain_newer IsFound
newer-named i [] base touched newer is = absurd (subst IsFound (sym is) tt)
newer-named i (stamp ∷ stamps) base touched newer is =
    this-named (names touched i && ltb base stamp.written) i stamp.written (plain_newer (suc i) stamps base touched) touched newer (λ e. and-left (names touched i) (ltb base stamp.written) e) (λ e. newer-named (suc i) stamps base touched newer e) is

-- ---- a commit

commit-meets : (s : Setting) (acts : List Act) (touched : List TableNo) (c : Client) (h : Held) (found : Option (TableNo × ℕ)) (number : ℕ) → CommitTurns s acts touched c h → ((newer : TableNo × ℕ) → found ≡ Some newer → names touched newer.0.0 ≡ true)
    → MeetsTurn s (doing (closes false acts ∷ []) c) (holds h) (request.End true) wants_commit (awaits h commit) (commit_reply found (suc number)) (commit_step found (suc number)) (ending s (commit_end found number) c) idle
unfolding commit_reply commit_step commit_end
commit-meets s acts touched c h None number turns named = turns.commits_as (suc number)
commit-meets s acts touched c h (Some newer) number turns named = turns.conflicts newer.0 newer.1 (named newer refl)

commit-tried : (s : RunSetting) (base world : World) (n : SessionNo) (session : Session) (found : Option (TableNo × ℕ)) → (commit_taken s base world n session found).session.tried ≡ session.tried
unfolding commit_taken having_said
commit-tried s base world n session None = refl
commit-tried s base world n session (Some newer) = refl

closing-ends : (s : RunSetting) (n : SessionNo) (task : Task) (place base : ℕ) (answers : List Answer) (rest : List Piece) (seals : ℕ) (done : List DoneTxn) (e : End) → ending (session_setting s n) e (client_closing task place base answers rest seals done) ≡ client_ready (suc place) rest seals (done ++ ended_txn n place base e answers ∷ [])
unfolding ending client_closing client_ready session_setting ended_txn
closing-ends s n task place base answers rest seals done e = refl

commit-log : (s : RunSetting) (base world : World) (n : SessionNo) (session : Session) (found : Option (TableNo × ℕ)) → (commit_taken s base world n session found).session.log ≡ session.log ++ exchanged (request.End true) (commit_reply found (suc world.number)) ∷ []
unfolding commit_taken having_said commit_reply
commit-log s base world n session None = refl
commit-log s base world n session (Some newer) = refl

-- a client and a connection that rest before their last turn meet it, and their session is ready again
pub record Ends (s : RunSetting) (w : Workload) (r : WorldRun) (n : SessionNo) (c : Client) (k : Conn) (asked : Request) (asks : Served) (waiting : Conn) (answer : Reply) (step : Step) : Type 0 where
  pub meets : MeetsTurn (session_setting s n) c k asked asks waiting answer step (hears (session_setting s n) c answer) idle
  pub logged : (session_at (world_turn s r n).sessions n.0).log ≡ (session_at r.sessions n.0).log ++ exchanged asked answer ∷ []
  pub seated : IsSeated (session_setting s n) [] (Rests s w (world_turn s r n) n) (seat_of (hears (session_setting s n) c answer) idle)

-- where its session arrives
ends-by : (s : RunSetting) (w : Workload) (r : WorldRun) (n : SessionNo) (task : Task) (place base : ℕ) (answers : List Answer) (rest : List Piece) (seals : ℕ) (k : Conn) (asked : Request) (asks : Served) (waiting : Conn) (answer : Reply) (step : Step) (e : End) (session : Session)
    → (let c : Client = client_closing task place base answers rest seals (done_by n.0 r.plain.done) in
    MeetsTurn (session_setting s n) c k asked asks waiting answer step (ending (session_setting s n) e c) idle)
    → Arrives r (world_turn s r n) n.0 session (ready (suc place) rest) (ended_txn n place base e answers ∷ []) → session.tried.seals ≡ seals → session.log ≡ (session_at r.sessions n.0).log ++ exchanged asked answer ∷ []
    → Ends s w r n (client_closing task place base answers rest seals (done_by n.0 r.plain.done)) k asked asks waiting answer step
unfolding seat_of
ends-by s w r n task place base answers rest seals k asked asks waiting answer step e session meets arr sealed said =
    let one : Setting = session_setting s n in
    let done : List DoneTxn = done_by n.0 r.plain.done in
    let c : Client = client_closing task place base answers rest seals done in
    let last : Client = client_ready (suc place) rest seals (done ++ ended_txn n place base e answers ∷ []) in
    let heard : hears one c answer ≡ last = meets.client_is ∙ closing-ends s n task place base answers rest seals done e in
    let rests : Rests s w (world_turn s r n) n (seat_of last idle) =
    rest-ready s w (world_turn s r n) n (suc place) rest seals (done ++ ended_txn n place base e answers ∷ []) (seat_of last idle) arr.position (ap (λ (x : Session). x.tried.seals) arr.session ∙ sealed) arr.done (record { client = refl; conn = refl }) in
    record {
      meets = as_heard one c k asked asks waiting answer step (ending one e c) idle meets;
      logged = ap (λ (x : Session). x.log) arr.session ∙ said;
      seated =
          subst (λ (x : Client). IsSeated one [] (Rests s w (world_turn s r n) n) (seat_of x idle)) (sym heard)
          (meets-seated one [] (Rests s w (world_turn s r n) n) last last idle idle (meets_nothing one last idle) rests);
    }

pub commit-ends : (s : RunSetting) (w : Workload) (r : WorldRun) (n : SessionNo) (place base : ℕ) (work : Work) (rest : List Piece) (tried : Tried) (seat : Seat) → KeepsPace s w r → IsSession w n → position_at r.plain.positions n.0 ≡ committing place base work rest → (session_at r.sessions n.0).tried ≡ tried → (rests : IsCommitting s w r n place base work rest tried seat)
    → (let held : Held = held_in s.key rests.version (world_at r base).stores tried in
    let found : Option (TableNo × ℕ) = lowest_newer 0 (version_now s w r).stamps held.base.number held.touched in
    let number : ℕ = suc (version_now s w r).number in
    Ends s w r n (client_closing (closes false rests.acts) place base work.answers rest tried.seals (done_by n.0 r.plain.done)) (holds held) (request.End true) wants_commit (awaits held commit) (commit_reply found number) (commit_step found number))
unfolding held_in client_closing doing is_over work_of
commit-ends s w r n place base work rest tried seat pace known here same rests =
    let one : Setting = session_setting s n in
    let done : List DoneTxn = done_by n.0 r.plain.done in
    let held : Held = held_in s.key rests.version (world_at r base).stores tried in
    let d : Database = version_now s w r in
    let session : Session = session_at r.sessions n.0 in
    let plain : Option (TableNo × ℕ) = plain_newer 0 r.plain.stamps base work.touched in
    let found : Option (TableNo × ℕ) = lowest_newer 0 d.stamps held.base.number held.touched in
    let touched : held.touched ≡ work.touched = ap (λ (x : Trial). (work_of x).touched) rests.plain in
    let is : found ≡ plain =
    ap₂ (λ (k : ℕ) (tables : List TableNo). lowest_newer 0 d.stamps k tables) rests.begun.number touched ∙ newer-now s w r base work.touched pace in
    let e : commit_end found d.number ≡ commit_end plain (number_of r.plain) = ap₂ commit_end is (number-now s w r pace) in
    let taken : Session = (commit_taken s (world_at r base) r.current n session plain).session in
    let arr : Arrives r (world_turn s r n) n.0 taken (ready (suc place) rest) (ended_txn n place base (commit_end plain (number_of r.plain)) work.answers ∷ []) =
    arrives s w r (world_turn s r n) n taken (ready (suc place) rest) (committing place base work rest) _ _ pace known here refl (commit-moves s r n place base work rest here) in
    ends-by s w r n (closes false rests.acts) place base work.answers rest tried.seals (holds held) (request.End true) wants_commit (awaits held commit) (commit_reply found (suc d.number)) (commit_step found (suc d.number)) (commit_end found d.number) taken
    (commit-meets one rests.acts work.touched (client_closing (closes false rests.acts) place base work.answers rest tried.seals done) held found d.number rests.turns (λ (newer : TableNo × ℕ) (some : found ≡ Some newer). newer-named 0 r.plain.stamps base work.touched newer (sym is ∙ some)))
    (subst (λ (x : End). Arrives r (world_turn s r n) n.0 taken (ready (suc place) rest) (ended_txn n place base x work.answers ∷ [])) (sym e) arr)
    (ap (λ (x : Tried). x.seals) (commit-tried s (world_at r base) r.current n session plain ∙ same))
    (commit-log s (world_at r base) r.current n session plain
    ∙ ap₂ (λ (x : Option (TableNo × ℕ)) (k : ℕ). session.log ++ exchanged (request.End true) (commit_reply x (suc k)) ∷ []) (sym is) (sym pace.stands.number))

-- ---- an install

install-meets : (s : Setting) (t : TableNo) (column : ColNo) (c : Client) (d : Database) (stale : Bool) (newer number : ℕ) → HasColumnOf t column d
    → MeetsTurn s (doing (rebuilds t column ∷ []) c) (holds (held_on d)) (request.Rebuild t column) (wants_install t column) (awaits (held_on d) (install t column)) (install_reply t stale newer (suc number)) (install_step t stale newer (suc number)) (ending s (install_end t stale newer number) c) idle
unfolding install_reply install_step install_end
install-meets s t column c d true newer number there = stale_meets s t column [] c d newer there
install-meets s t column c d false newer number there = install_meets s t column [] c d (suc number) there

install-tried : (world : World) (n : SessionNo) (session : Session) (t : TableNo) (column : ColNo) (stale : Bool) (newer : ℕ) → (install_taken world n session t column stale newer).session.tried ≡ session.tried
unfolding install_taken having_said
install-tried world n session t column true newer = refl
install-tried world n session t column false newer = refl

install-log : (world : World) (n : SessionNo) (session : Session) (t : TableNo) (column : ColNo) (stale : Bool) (newer : ℕ) → (install_taken world n session t column stale newer).session.log ≡ session.log ++ exchanged (request.Rebuild t column) (install_reply t stale newer (suc world.number)) ∷ []
unfolding install_taken having_said install_reply
install-log world n session t column true newer = refl
install-log world n session t column false newer = refl

pub install-ends : (s : RunSetting) (w : Workload) (r : WorldRun) (n : SessionNo) (place base : ℕ) (t : TableNo) (column : ColNo) (rest : List Piece) (seals : ℕ) (seat : Seat) → KeepsPace s w r → IsSession w n → position_at r.plain.positions n.0 ≡ installing place base t column rest → (session_at r.sessions n.0).tried.seals ≡ seals → (rests : IsInstalling s w r n place base t column rest seals seat)
    → (let newer : ℕ = last_change (stamps_at (version_now s w r).stamps t.0) in
    let stale : Bool = ltb rests.version.number newer in
    let number : ℕ = suc (version_now s w r).number in
    Ends s w r n (client_closing (rebuilds t column) place base [] rest seals (done_by n.0 r.plain.done)) (holds (held_on rests.version)) (request.Rebuild t column) (wants_install t column) (awaits (held_on rests.version) (install t column)) (install_reply t stale newer number) (install_step t stale newer number))
unfolding client_closing doing is_over
install-ends s w r n place base t column rest seals seat pace known here same rests =
    let one : Setting = session_setting s n in
    let done : List DoneTxn = done_by n.0 r.plain.done in
    let d : Database = version_now s w r in
    let session : Session = session_at r.sessions n.0 in
    let change : ℕ = plain_change (stamps_of r.plain t) in
    let newer : ℕ = last_change (stamps_at d.stamps t.0) in
    let stale : Bool = ltb rests.version.number newer in
    let is : newer ≡ change = changed-now s w r t pace in
    let e : install_end t stale newer d.number ≡ install_end t (ltb base change) change (number_of r.plain) =
    ap (λ (k : ℕ). install_end t (ltb k newer) newer d.number) rests.begun.number
    ∙ ap₂ (λ (k m : ℕ). install_end t (ltb base k) k m) is (number-now s w r pace) in
    let taken : Session = (install_taken r.current n session t column (ltb base change) change).session in
    let arr : Arrives r (world_turn s r n) n.0 taken (ready (suc place) rest) (ended_txn n place base (install_end t (ltb base change) change (number_of r.plain)) [] ∷ []) =
    arrives s w r (world_turn s r n) n taken (ready (suc place) rest) (installing place base t column rest) _ _ pace known here refl (install-moves s r n place base t column rest here) in
    ends-by s w r n (rebuilds t column) place base [] rest seals (holds (held_on rests.version)) (request.Rebuild t column) (wants_install t column) (awaits (held_on rests.version) (install t column)) (install_reply t stale newer (suc d.number)) (install_step t stale newer (suc d.number)) (install_end t stale newer d.number) taken
    (install-meets one t column (client_closing (rebuilds t column) place base [] rest seals done) rests.version stale newer d.number rests.there)
    (subst (λ (x : End). Arrives r (world_turn s r n) n.0 taken (ready (suc place) rest) (ended_txn n place base x [] ∷ [])) (sym e) arr)
    (ap (λ (x : Tried). x.seals) (install-tried r.current n session t column (ltb base change) change) ∙ same)
    (install-log r.current n session t column (ltb base change) change
    ∙ ap₂ (λ (x k : ℕ). session.log ++ exchanged (request.Rebuild t column) (install_reply t (ltb base x) x (suc k)) ∷ []) (sym is) (sym pace.stands.number)
    ∙ ap (λ (k : ℕ). session.log ++ exchanged (request.Rebuild t column) (install_reply t (ltb k newer) newer (suc d.number)) ∷ []) (sym rests.begun.number))
