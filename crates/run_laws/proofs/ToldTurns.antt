-- The turn that a server takes on its version is the one that the run of the world tells.
use Rattle.std.proofs.Common.{◌≡◌, refl, sym, ◌∙◌, ap, subst, ℕ, suc, Bool, true, false, ltb, List, [], ◌∷◌, ◌++◌, Option, Some, None}
use Rattle.mope_base.specs.declared.numbers.TableNo.{TableNo}
use Rattle.mope_base.specs.declared.numbers.ColNo.{ColNo}
use Rattle.mope_base.specs.declared.numbers.SessionNo.{SessionNo}
use Rattle.versions.specs.declared.change.ColumnChange.{ColumnChange}
use Rattle.versions.specs.declared.op.Op.{Op}
use Rattle.versions.specs.declared.turn.Turn.{Turn}
use Rattle.versions.specs.declared.turn.TurnKind.TheVariants.{Began, Committed, Installed}
use Rattle.versions.specs.Databases.{Database, stamps_at}
use Rattle.versions.specs.Operations.{rank_ops}
use Rattle.versions.specs.Changes.{ops_changes, install_changes}
use Rattle.versions.specs.Newer.{lowest_newer, last_change}
use Rattle.versions.specs.Turns.{after_turn, replay, changes_by, IsTold, AreTold}
use Rattle.workload.specs.declared.script.Piece.{Piece}
use Rattle.workload.specs.declared.script.Piece.TheVariants as piece
use Rattle.workload.specs.declared.script.Workload.{Workload}
use Rattle.workload.specs.Run.{ready, committing, installing, position_at, stamps_of, lowest_newer as plain_newer, last_change as plain_change}
use Rattle.workload.specs.Transaction.{Work}
use Rattle.transaction_laws.specs.Transactions.{kept_ops}
use Rattle.transaction_laws.specs.Standing.{World}
use Rattle.run_laws.specs.Worlds.{RunSetting, first_version}
use Rattle.run_laws.specs.WorldRuns.{WorldRun, Session, session_at, world_at, begin_taken, commit_taken, install_taken, world_turn}
use Rattle.run_laws.specs.TellingLaws.{version_now, begin_told, commit_told, install_told}
use Rattle.run_laws.proofs.Moves.{begin-moves, rebuild-moves, commit-moves, install-moves}
use Rattle.run_laws.proofs.Paces.{KeepsPace}

pub replay-last : (turns : List Turn) (turn : Turn) (d : Database) → replay (turns ++ turn ∷ []) d ≡ after_turn turn.what (replay turns d)
unfolding replay
replay-last [] turn d = refl
replay-last (first ∷ turns) turn d = replay-last turns turn (after_turn first.what d)

told-last : (turns : List Turn) (turn : Turn) (d : Database) → AreTold (turns ++ turn ∷ []) d → IsTold turn (replay turns d)
unfolding AreTold replay
told-last [] turn d told = told.0
told-last (first ∷ turns) turn d told = told-last turns turn (after_turn first.what d) told.1

turn-told : (s : RunSetting) (w : Workload) (r next : WorldRun) (turn : Turn) → KeepsPace s w next → next.turns ≡ r.turns ++ turn ∷ [] → IsTold turn (version_now s w r)
unfolding version_now
turn-told s w r next turn pace turns = told-last r.turns turn (first_version s w) (subst (λ (l : List Turn). AreTold l (first_version s w)) turns pace.told)

told-as : (r next : WorldRun) (turn other : Turn) → next.turns ≡ r.turns ++ turn ∷ [] → turn ≡ other → next.turns ≡ r.turns ++ other ∷ []
told-as r next turn other turns same = turns ∙ ap (λ (x : Turn). r.turns ++ x ∷ []) same

-- ---- a begin

began-told : (s : RunSetting) (world : World) (n : SessionNo) (session : Session) (p : Piece) (d : Database) → world.number ≡ d.number → (begin_taken s world n session p).turn ≡ begin_told n d
unfolding begin_taken begin_told
began-told s world n session (piece.Txn acts rollback) d number = ap (λ (k : ℕ). let turn : Turn = record { session = n; what = Began k; changes = [] } in turn) number
began-told s world n session (piece.Rebuild t column) d number = ap (λ (k : ℕ). let turn : Turn = record { session = n; what = Began k; changes = [] } in turn) number

pub begin-told : (s : RunSetting) (w : Workload) (r : WorldRun) (n : SessionNo) (place : ℕ) (p : Piece) (rest : List Piece) → KeepsPace s w r → position_at r.plain.positions n.0 ≡ ready place (p ∷ rest) → (world_turn s r n).turns ≡ r.turns ++ begin_told n (version_now s w r) ∷ []
begin-told s w r n place (piece.Txn acts rollback) rest pace here =
    told-as r (world_turn s r n) _ (begin_told n (version_now s w r)) (begin-moves s r n place acts rollback rest here).turns (began-told s r.current n (session_at r.sessions n.0) (piece.Txn acts rollback) (version_now s w r) (sym pace.stands.number))
begin-told s w r n place (piece.Rebuild t column) rest pace here =
    told-as r (world_turn s r n) _ (begin_told n (version_now s w r)) (rebuild-moves s r n place t column rest here).turns (began-told s r.current n (session_at r.sessions n.0) (piece.Rebuild t column) (version_now s w r) (sym pace.stands.number))

-- ---- a commit

unfoldable pub committed_turn : SessionNo → ℕ → List Op → List ColumnChange → Turn
committed_turn n number ops changes = record { session = n; what = Committed number ops; changes = changes }

committed-told : (s : RunSetting) (base world : World) (n : SessionNo) (session : Session) (found : Option (TableNo × ℕ)) (d : Database) (mode : Bool) → d.number ≡ world.number → world.same_time ≡ mode → IsTold (commit_taken s base world n session found).turn d
    → (commit_taken s base world n session found).turn ≡ commit_told n found (kept_ops s.key mode session.tried.ops base.stores) d
unfolding commit_taken commit_told changes_by committed_turn
committed-told s base world n session (Some newer) d mode number same told = refl
committed-told s base world n session None d mode number same told =
    let ops : List Op = kept_ops s.key world.same_time session.tried.ops base.stores in
    ap (λ (changes : List ColumnChange). committed_turn n (suc world.number) ops changes) told.changes
    ∙ ap (λ (m : Bool). let kept : List Op = kept_ops s.key m session.tried.ops base.stores in committed_turn n (suc world.number) kept (ops_changes (rank_ops kept) d)) same
    ∙ ap (λ (k : ℕ). let kept : List Op = kept_ops s.key mode session.tried.ops base.stores in committed_turn n (suc k) kept (ops_changes (rank_ops kept) d)) (sym number)

-- whether a table was written since, by the server's stamps
pub newer-now : (s : RunSetting) (w : Workload) (r : WorldRun) (base : ℕ) (touched : List TableNo) → KeepsPace s w r → lowest_newer 0 (version_now s w r).stamps base touched ≡ plain_newer 0 r.plain.stamps base touched
newer-now s w r base touched pace = pace.newer base touched

pub commit-told : (s : RunSetting) (w : Workload) (r : WorldRun) (n : SessionNo) (place base : ℕ) (work : Work) (rest : List Piece) → KeepsPace s w r → KeepsPace s w (world_turn s r n) → position_at r.plain.positions n.0 ≡ committing place base work rest
    → (world_turn s r n).turns ≡ r.turns ++ commit_told n (lowest_newer 0 (version_now s w r).stamps base work.touched) (kept_ops s.key s.same_time (session_at r.sessions n.0).tried.ops (world_at r base).stores) (version_now s w r) ∷ []
commit-told s w r n place base work rest pace later here =
    let d : Database = version_now s w r in
    let moves = commit-moves s r n place base work rest here in
    let ops : List Op = kept_ops s.key s.same_time (session_at r.sessions n.0).tried.ops (world_at r base).stores in
    let found : Option (TableNo × ℕ) = plain_newer 0 r.plain.stamps base work.touched in
    told-as r (world_turn s r n) _ (commit_told n found ops d) moves.turns (committed-told s (world_at r base) r.current n (session_at r.sessions n.0) found d s.same_time pace.stands.number pace.mode (turn-told s w r (world_turn s r n) _ later moves.turns))
    ∙ ap (λ (x : Option (TableNo × ℕ)). r.turns ++ commit_told n x ops d ∷ []) (sym (newer-now s w r base work.touched pace))

-- ---- an install

unfoldable pub installed_turn : SessionNo → ℕ → TableNo → ColNo → List ColumnChange → Turn
installed_turn n number t column changes = record { session = n; what = Installed number t column; changes = changes }

installed-told : (world : World) (n : SessionNo) (session : Session) (t : TableNo) (column : ColNo) (stale : Bool) (newer : ℕ) (d : Database) → d.number ≡ world.number → IsTold (install_taken world n session t column stale newer).turn d → (install_taken world n session t column stale newer).turn ≡ install_told n t column stale newer d
unfolding install_taken install_told changes_by installed_turn
installed-told world n session t column true newer d number told = refl
installed-told world n session t column false newer d number told =
    ap (λ (changes : List ColumnChange). installed_turn n (suc world.number) t column changes) told.changes
    ∙ ap (λ (k : ℕ). installed_turn n (suc k) t column (install_changes t.0 column.0 d)) (sym number)

pub changed-now : (s : RunSetting) (w : Workload) (r : WorldRun) (t : TableNo) → KeepsPace s w r → last_change (stamps_at (version_now s w r).stamps t.0) ≡ plain_change (stamps_of r.plain t)
changed-now s w r t pace = pace.changed t

pub install-told : (s : RunSetting) (w : Workload) (r : WorldRun) (n : SessionNo) (place base : ℕ) (t : TableNo) (column : ColNo) (rest : List Piece) → KeepsPace s w r → KeepsPace s w (world_turn s r n) → position_at r.plain.positions n.0 ≡ installing place base t column rest
    → (world_turn s r n).turns ≡ r.turns ++ install_told n t column (ltb base (last_change (stamps_at (version_now s w r).stamps t.0))) (last_change (stamps_at (version_now s w r).stamps t.0)) (version_now s w r) ∷ []
install-told s w r n place base t column rest pace later here =
    let d : Database = version_now s w r in
    let moves = install-moves s r n place base t column rest here in
    let newer : ℕ = plain_change (stamps_of r.plain t) in
    told-as r (world_turn s r n) _ (install_told n t column (ltb base newer) newer d) moves.turns (installed-told r.current n (session_at r.sessions n.0) t column (ltb base newer) newer d pace.stands.number (turn-told s w r (world_turn s r n) _ later moves.turns))
    ∙ ap (λ (k : ℕ). r.turns ++ install_told n t column (ltb base k) k d ∷ []) (sym (changed-now s w r t pace))
