-- A turn that a connection waits for, and what it leaves: over plain values.
use Rattle.std.specs.Option.{IsSome}
use Rattle.std.proofs.Common.{◌≡◌, ◌∙◌, ◌++◌, ◌<◌, ℕ, suc, Bool, true, false, ltb, List, [], ◌∷◌, length, Option, Some, None, refl, sym, ap, subst}
use Rattle.mope_base.specs.declared.body.Body.{Body}
use Rattle.mope_base.specs.declared.numbers.ColNo.{ColNo}
use Rattle.mope_base.specs.declared.numbers.SessionNo.{SessionNo}
use Rattle.mope_base.specs.declared.numbers.TableNo.{TableNo}
use Rattle.table_model.specs.Operations.{RankOp}
use Rattle.versions.specs.declared.op.Op.{Op}
use Rattle.versions.specs.declared.turn.Turn.{Turn}
use Rattle.versions.specs.declared.turn.TurnKind.{TurnKind}
use Rattle.versions.specs.declared.turn.TurnKind.TheVariants as kind
use Rattle.versions.specs.Databases.{Database}
use Rattle.versions.specs.Operations.{HasColumn, rank_ops}
use Rattle.versions.specs.Turns.{after_turn}
use Rattle.walk_proto.specs.declared.messages.How.{How}
use Rattle.walk_proto.specs.declared.messages.How.TheVariants as how
use Rattle.walk_proto.specs.declared.messages.Reply.{Reply}
use Rattle.walk_proto.specs.declared.messages.Reply.TheVariants as reply
use Rattle.walk_proto.specs.declared.messages.Request.{Request}
use Rattle.server_conn.specs.declared.receipt.Receipt.{Receipt as Exchanged}
use Rattle.server_conn.specs.declared.receipt.Served.{Served as Answered}
use Rattle.server_conn.specs.declared.receipt.Served.TheVariants as answered
use Rattle.server_conn.specs.Connections.{Held, Due, commit, install, Conn, idle, begins, holds, awaits, held_on, Served, replies, wants_begin, wants_commit, wants_install, Step}
use Rattle.server_conn.specs.Handling.{Seen, running, asked_by, held_by, handed, CanEnd, EndsSo, IsDueBy, IsReady, AllTouched}
use Rattle.server_conn.specs.Serving.{began, ended, step_to}
use Rattle.txn_core.specs.Courses.{Course, IsPast}
use Rattle.txn_core.specs.Courses.{AllTouched as AreTouched}
use Rattle.txn_core.specs.declared.outcome.Committed.{Committed}
use Rattle.txn_core.specs.declared.outcome.Committed.TheVariants as committed
use Rattle.txn_core.specs.declared.outcome.Installed.{Installed}
use Rattle.txn_core.specs.declared.outcome.Installed.TheVariants as installed
use Rattle.txn_core.specs.Outcomes.{answer_or, commit_answer, commit_kind, committed_or, conflict_on, changed_by, install_answer, install_kind, stale_answer_if, stale_if, turn_on}
use Rattle.step_core.specs.Outcomes.{TakesTurn, Settles, turn_asked, reply_for, conn_after_turn}
use Rattle.step_core.specs.Sittings.{AsksOn}

-- ---- what a connection is left as

reply_of : Served → Reply
reply_of (replies answer) = answer
reply_of wants_begin = reply.Placed
reply_of wants_commit = reply.Placed
reply_of (wants_install t column) = reply.Placed

left-running : (s : Seen) (k : Conn) → s.conn ≡ k → s.spent ≡ false → s ≡ running k
unfolding running
left-running s k conn fresh =
    ap (λ (c : Conn). let o : Seen = record { conn = c; spent = s.spent } in o) conn
    ∙ ap (λ (b : Bool). let o : Seen = record { conn = k; spent = b } in o) fresh

pub begin-takes : (n : SessionNo) (asked : Conn) (old new : Course) (left : Seen) (x : Exchanged) (snapshot : Database) → snapshot ≡ old.current
    → x.request ≡ asked_by asked → began snapshot ≡ step_to x.reply left.conn → left.spent ≡ false
    → new.turns ≡ old.turns ++ turn_on n (kind.Began old.current.number) old.current ∷ [] → new.current ≡ old.current → new.first ≡ old.first
    → TakesTurn n (kind.Began old.current.number) asked old new left x
unfolding began step_to reply_for conn_after_turn after_turn reply_of
begin-takes n asked old new left x snapshot is request step fresh turns current first = record {
  request = request;
  reply = sym (ap (λ (s : Step). reply_of s.served) step) ∙ ap (λ (d : Database). let o : Reply = reply.Ended how.Began 0 d.number in o) is;
  conn = left-running left (holds (held_on old.current)) (sym (ap (λ (s : Step). s.conn) step) ∙ ap (λ (d : Database). holds (held_on d)) is) fresh;
  turns = turns;
  current = current;
  first = first;
}

-- every other turn ends a transaction
pub end-takes : (n : SessionNo) (what : TurnKind) (asked : Conn) (old new : Course) (left : Seen) (x : Exchanged) (h : How) (table number : ℕ)
    → x.request ≡ asked_by asked → ended h table number ≡ step_to x.reply left.conn → left.spent ≡ false
    → reply.Ended h table number ≡ reply_for what → conn_after_turn what old.current ≡ idle
    → new.turns ≡ old.turns ++ turn_on n what old.current ∷ [] → new.current ≡ after_turn what old.current → new.first ≡ old.first
    → TakesTurn n what asked old new left x
unfolding ended step_to reply_of
end-takes n what asked old new left x h table number request step fresh tells over turns current first = record {
  request = request;
  reply = sym (ap (λ (s : Step). reply_of s.served) step) ∙ tells;
  conn = left-running left (conn_after_turn what old.current) (sym (ap (λ (s : Step). s.conn) step) ∙ sym over) fresh;
  turns = turns;
  current = current;
  first = first;
}

-- ---- two names of a turn

pub turn-same : (n : SessionNo) (old : Course) (turns : List Turn) (one other : TurnKind) → one ≡ other → turns ≡ old.turns ++ turn_on n one old.current ∷ []
    → turns ≡ old.turns ++ turn_on n other old.current ∷ []
turn-same n old turns one other same is = subst (λ (what : TurnKind). turns ≡ old.turns ++ turn_on n what old.current ∷ []) same is

pub current-same : (old : Course) (d : Database) (one other : TurnKind) → one ≡ other → d ≡ after_turn one old.current → d ≡ after_turn other old.current
current-same old d one other same is = subst (λ (what : TurnKind). d ≡ after_turn what old.current) same is

-- ---- a transaction that has ended has been held

IsFalse : Bool → Type 0
IsFalse false = Unit {0}
IsFalse true = ⊥

pub not-true : false ≡ true → ⊥
unfolding IsFalse
not-true is = subst IsFalse is tt

pub some-held : (k : Conn) (h : Held) (due : Due) → k ≡ awaits h due → IsSome (held_by k)
unfolding held_by
some-held k h due is = subst (λ (c : Conn). IsSome (held_by c)) (sym is) refl

pub is-held : (k : Conn) (h : Held) (due : Due) → k ≡ awaits h due → held_by k ≡ Some h
unfolding held_by
is-held k h due is = ap held_by is

-- ---- a commit

committed-over : (newer : Option (TableNo × ℕ)) (number : ℕ) (ops : List Op) (d : Database) → conn_after_turn (committed_or newer number ops) d ≡ idle
unfolding committed_or conn_after_turn
committed-over None number ops d = refl
committed-over (Some newer) number ops d = refl

pub commit-over : (d : Database) (base : ℕ) (touched : List TableNo) (ops : List Op) → conn_after_turn (commit_kind d base touched ops) d ≡ idle
unfolding commit_kind
commit-over d base touched ops = committed-over (conflict_on d base touched) (suc d.number) ops d

-- how an answer is told
told_commit : Committed → Reply
told_commit (committed.Committed number) = reply.Ended how.Committed 0 number
told_commit (committed.Conflict t number) = reply.Ended how.Conflict t.0 number

told-or : (newer : Option (TableNo × ℕ)) (number : ℕ) (ops : List Op) → told_commit (answer_or newer number) ≡ reply_for (committed_or newer number ops)
unfolding told_commit answer_or committed_or reply_for
told-or None number ops = refl
told-or (Some newer) number ops = refl

pub commit-told : (d base : Database) (h : Held) (touched : List TableNo) (number : ℕ) → base ≡ h.base → touched ≡ h.touched → committed.Committed number ≡ commit_answer d base.number touched
    → reply.Ended how.Committed 0 number ≡ reply_for (commit_kind d h.base.number h.touched h.ops)
unfolding told_commit commit_answer commit_kind
commit-told d base h touched number same names answer =
    ap told_commit answer
    ∙ ap (λ (b : Database). told_commit (commit_answer d b.number touched)) same
    ∙ ap (λ (l : List TableNo). told_commit (commit_answer d h.base.number l)) names
    ∙ told-or (conflict_on d h.base.number h.touched) (suc d.number) h.ops

pub conflict-told : (d base : Database) (h : Held) (touched : List TableNo) (t : TableNo) (number : ℕ) → base ≡ h.base → touched ≡ h.touched → committed.Conflict t number ≡ commit_answer d base.number touched
    → reply.Ended how.Conflict t.0 number ≡ reply_for (commit_kind d h.base.number h.touched h.ops)
unfolding told_commit commit_answer commit_kind
conflict-told d base h touched t number same names answer =
    ap told_commit answer
    ∙ ap (λ (b : Database). told_commit (commit_answer d b.number touched)) same
    ∙ ap (λ (l : List TableNo). told_commit (commit_answer d h.base.number l)) names
    ∙ told-or (conflict_on d h.base.number h.touched) (suc d.number) h.ops

-- of what a transaction hands over, the turn is that of the transaction
pub commit-same : (d base : Database) (h : Held) (touched : List TableNo) (ops : List Op) → base ≡ h.base → touched ≡ h.touched → ops ≡ h.ops
    → commit_kind d base.number touched ops ≡ commit_kind d h.base.number h.touched h.ops
commit-same d base h touched ops same names done =
    ap (λ (b : Database). commit_kind d b.number touched ops) same
    ∙ ap (λ (l : List TableNo). commit_kind d h.base.number l ops) names
    ∙ ap (λ (l : List Op). commit_kind d h.base.number h.touched l) done

pub can-commit : (k : Conn) (h : Held) → k ≡ awaits h commit → CanEnd k how.Committed 0
unfolding CanEnd EndsSo
can-commit k h is = subst (λ (c : Conn). CanEnd c how.Committed 0) (sym is) refl

pub can-conflict : (k : Conn) (h : Held) (table : ℕ) → k ≡ awaits h commit → CanEnd k how.Conflict table
unfolding CanEnd EndsSo
can-conflict k h table is = subst (λ (c : Conn). CanEnd c how.Conflict table) (sym is) tt

pub all-touched : (touched : List TableNo) (ops : List (RankOp Body)) → AllTouched touched ops → AreTouched touched ops
unfolding AllTouched AreTouched
all-touched touched [] all = tt
all-touched touched (op ∷ ops) all = (all.0, all-touched touched ops all.1)

pub touched-as : (touched names : List TableNo) (ops done : List Op) → touched ≡ names → ops ≡ done → AllTouched names (rank_ops done) → AreTouched touched (rank_ops ops)
touched-as touched names ops done same is all =
    subst (λ (l : List TableNo). AreTouched l (rank_ops ops)) (sym same)
    (subst (λ (l : List Op). AreTouched names (rank_ops l)) (sym is) (all-touched names (rank_ops done) all))

pub has-ops : (k : Conn) (h : Held) → k ≡ awaits h commit → IsDueBy k → 0 < length h.ops
unfolding IsDueBy IsReady
has-ops k h is due = subst IsDueBy is due

-- ---- an install

stale-over : (stale : Bool) (newer number : ℕ) (t : TableNo) (column : ColNo) (d : Database) → conn_after_turn (stale_if stale newer number t column) d ≡ idle
unfolding stale_if conn_after_turn
stale-over true newer number t column d = refl
stale-over false newer number t column d = refl

pub install-over : (d : Database) (base : ℕ) (t : TableNo) (column : ColNo) → conn_after_turn (install_kind d base t column) d ≡ idle
unfolding install_kind
install-over d base t column = stale-over (ltb base (changed_by d t)) (changed_by d t) (suc d.number) t column d

told_install : Installed → Reply
told_install (installed.Installed number) = reply.Ended how.Installed 0 number
told_install (installed.Stale t number) = reply.Ended how.Stale t.0 number

told-if : (stale : Bool) (newer number : ℕ) (t : TableNo) (column : ColNo) → told_install (stale_answer_if stale newer number t) ≡ reply_for (stale_if stale newer number t column)
unfolding told_install stale_answer_if stale_if reply_for
told-if true newer number t column = refl
told-if false newer number t column = refl

install-is-told : (d base : Database) (h : Held) (t : TableNo) (column : ColNo) (answer : Installed) → base ≡ h.base → answer ≡ install_answer d base.number t
    → told_install answer ≡ reply_for (install_kind d h.base.number t column)
unfolding install_answer install_kind
install-is-told d base h t column answer same is =
    ap told_install is
    ∙ ap (λ (b : Database). told_install (install_answer d b.number t)) same
    ∙ told-if (ltb h.base.number (changed_by d t)) (changed_by d t) (suc d.number) t column

pub install-told : (d base : Database) (h : Held) (t : TableNo) (column : ColNo) (number : ℕ) → base ≡ h.base → installed.Installed number ≡ install_answer d base.number t
    → reply.Ended how.Installed 0 number ≡ reply_for (install_kind d h.base.number t column)
unfolding told_install
install-told d base h t column number same is = install-is-told d base h t column (installed.Installed number) same is

pub stale-told : (d base : Database) (h : Held) (t : TableNo) (column : ColNo) (table : TableNo) (number : ℕ) → base ≡ h.base → installed.Stale table number ≡ install_answer d base.number t
    → reply.Ended how.Stale table.0 number ≡ reply_for (install_kind d h.base.number t column)
unfolding told_install
stale-told d base h t column table number same is = install-is-told d base h t column (installed.Stale table number) same is

pub install-same : (d base : Database) (h : Held) (t : TableNo) (column : ColNo) → base ≡ h.base → install_kind d base.number t column ≡ install_kind d h.base.number t column
install-same d base h t column same = ap (λ (b : Database). install_kind d b.number t column) same

pub can-install : (k : Conn) (h : Held) (t : TableNo) (column : ColNo) → k ≡ awaits h (install t column) → CanEnd k how.Installed 0
unfolding CanEnd EndsSo
can-install k h t column is = subst (λ (c : Conn). CanEnd c how.Installed 0) (sym is) refl

pub can-be-stale : (k : Conn) (h : Held) (t : TableNo) (column : ColNo) (table : ℕ) → k ≡ awaits h (install t column) → CanEnd k how.Stale table
unfolding CanEnd EndsSo
can-be-stale k h t column table is = subst (λ (c : Conn). CanEnd c how.Stale table) (sym is) tt

pub has-column : (k : Conn) (h : Held) (t : TableNo) (column : ColNo) → k ≡ awaits h (install t column) → IsDueBy k → HasColumn t.0 column.0 h.base
unfolding IsDueBy IsReady
has-column k h t column is due = subst IsDueBy is due

-- ---- what was handed out

pub asks-begin : (c : Course) (r : Request) (came : Served) (k : Conn) → answered.Begin ≡ handed r came → AsksOn c came k → k ≡ begins
unfolding handed AsksOn
asks-begin c r (replies answer) k is asks = cc
asks-begin c r wants_begin k is asks = asks
asks-begin c r wants_commit k is asks = cc
asks-begin c r (wants_install t column) k is asks = cc

pub asks-commit : (c : Course) (r : Request) (came : Served) (k : Conn) → answered.Commit ≡ handed r came → AsksOn c came k → (h : Held) × (k ≡ awaits h commit) × IsPast c h.base
unfolding handed AsksOn
asks-commit c r (replies answer) k is asks = cc
asks-commit c r wants_begin k is asks = cc
asks-commit c r wants_commit k is asks = asks
asks-commit c r (wants_install t column) k is asks = cc

AsksInstall : Course → Conn → Answered → Type 0
AsksInstall c k (answered.Reply x) = Unit {0}
AsksInstall c k answered.Begin = Unit {0}
AsksInstall c k answered.Commit = Unit {0}
AsksInstall c k (answered.Install t column) = (h : Held) × (k ≡ awaits h (install t column)) × IsPast c h.base

asks-this : (c : Course) (r : Request) (came : Served) (k : Conn) → AsksOn c came k → AsksInstall c k (handed r came)
unfolding handed AsksOn AsksInstall
asks-this c r (replies answer) k asks = tt
asks-this c r wants_begin k asks = tt
asks-this c r wants_commit k asks = tt
asks-this c r (wants_install t column) k asks = asks

pub asks-install : (c : Course) (r : Request) (came : Served) (k : Conn) (t : TableNo) (column : ColNo) → answered.Install t column ≡ handed r came → AsksOn c came k
    → (h : Held) × (k ≡ awaits h (install t column)) × IsPast c h.base
unfolding AsksInstall
asks-install c r came k t column is asks = subst (AsksInstall c k) (sym is) (asks-this c r came k asks)

pub settles-reply : (n : SessionNo) (served : Answered) (before : Seen) (old : Course) (x : Exchanged) → served ≡ answered.Reply x → Settles n served before before old old x
unfolding Settles
settles-reply n served before old x came = subst (λ (v : Answered). Settles n v before before old old x) (sym came) (refl, refl, refl)

pub settles-begin : (n : SessionNo) (served : Answered) (before left : Seen) (old new : Course) (given : Exchanged) → served ≡ answered.Begin → before.conn ≡ begins
    → TakesTurn n (kind.Began old.current.number) before.conn old new left given → Settles n served before left old new given
unfolding Settles turn_asked
settles-begin n served before left old new given came is takes =
    subst (λ (v : Answered). Settles n v before left old new given) (sym came) (kind.Began old.current.number, ap (λ (k : Conn). turn_asked k old.current) is, takes)

pub settles-commit : (n : SessionNo) (served : Answered) (before left : Seen) (old new : Course) (given : Exchanged) (h : Held) → served ≡ answered.Commit → before.conn ≡ awaits h commit
    → TakesTurn n (commit_kind old.current h.base.number h.touched h.ops) before.conn old new left given → Settles n served before left old new given
unfolding Settles turn_asked
settles-commit n served before left old new given h came is takes =
    subst (λ (v : Answered). Settles n v before left old new given) (sym came)
    (commit_kind old.current h.base.number h.touched h.ops, ap (λ (k : Conn). turn_asked k old.current) is, takes)

pub settles-install : (n : SessionNo) (served : Answered) (before left : Seen) (old new : Course) (given : Exchanged) (h : Held) (t : TableNo) (column : ColNo) → served ≡ answered.Install t column → before.conn ≡ awaits h (install t column)
    → TakesTurn n (install_kind old.current h.base.number t column) before.conn old new left given → Settles n served before left old new given
unfolding Settles turn_asked
settles-install n served before left old new given h t column came is takes =
    subst (λ (v : Answered). Settles n v before left old new given) (sym came)
    (install_kind old.current h.base.number t column, ap (λ (k : Conn). turn_asked k old.current) is, takes)
