-- A turn that is asked for is awaited: by cases of the request, and of what it meets.
use Rattle.std.proofs.Common.{◌≡◌, ℕ, zero, suc, ◌+◌, Bool, true, false, List, [], ◌∷◌, Option, Some, None, refl, sym, subst}
use Rattle.mope_base.specs.declared.body.Body.{Body}
use Rattle.mope_base.specs.declared.numbers.ColNo.{ColNo}
use Rattle.mope_base.specs.declared.numbers.TableNo.{TableNo}
use Rattle.tree_model.specs.declared.Side.{Side}
use Rattle.tree_model.specs.declared.Side.TheVariants.{Left, Right}
use Rattle.tree_model.specs.Trees.{Tree, leaf, node, size}
use Rattle.tree_model.specs.Items.{Item}
use Rattle.versions.specs.declared.op.Op.{Op}
use Rattle.walk_proto.specs.declared.messages.How.TheVariants as how
use Rattle.walk_proto.specs.declared.messages.Request.{Request}
use Rattle.walk_proto.specs.declared.messages.Request.TheVariants as request
use Rattle.server_conn.specs.declared.receipt.Served.TheVariants as answered
use Rattle.server_conn.specs.Connections.{Walk, Held, Conn, idle, begins, holds, awaits, Served, replies, wants_begin, wants_commit, wants_install, Step}
use Rattle.server_conn.specs.Checks.{refusal}
use Rattle.server_conn.specs.Handling.{Seen, running, handed, CanEnd, EndsSo}
use Rattle.server_conn.specs.Serving.{serve, served_idle, served_unless, refused, effect, step_to, placed_at, come_to, walk_started, stepped_from, stepped, found, inserted, queried, closed, committed, ended_by}
use Rattle.server_conn.specs.Laws.{IsAwaited, AskedTurnsAreAwaited}

abbrev Goes : Step → Type 0
Goes s = IsAwaited s.served s.conn

come-goes : (table column before : ℕ) (t : Tree (Item Body)) (h : Held) → Goes (come_to table column before t h)
unfolding IsAwaited come_to placed_at step_to
come-goes table column before leaf h = tt
come-goes table column before (node l x r) h = tt

from-goes : (side : Side) (table column before : ℕ) (t : Tree (Item Body)) (h : Held) → Goes (stepped_from side table column before t h)
unfolding IsAwaited stepped_from placed_at step_to
from-goes side table column before leaf h = tt
from-goes Left table column before (node l x r) h = come-goes table column before l h
from-goes Right table column before (node l x r) h = come-goes table column (before + suc (size l)) r h

stepped-goes : (side : Side) (w : Option Walk) (h : Held) → Goes (stepped side w h)
unfolding IsAwaited stepped step_to
stepped-goes side None h = tt
stepped-goes side (Some w) h = from-goes side w.table w.column w.before w.part h

found-goes : (w : Option Walk) (h : Held) → Goes (found w h)
unfolding IsAwaited found placed_at step_to
found-goes None h = tt
found-goes (Some w) h = tt

committed-goes : (ops : List Op) (h : Held) → Goes (committed ops h)
unfolding IsAwaited committed closed step_to
committed-goes [] h = tt
committed-goes (o ∷ ops) h = (h, refl)

ended-goes : (keeps : Bool) (h : Held) → Goes (ended_by keeps h)
unfolding IsAwaited ended_by closed step_to
ended-goes true h = committed-goes h.ops h
ended-goes false h = tt

effect-goes : (r : Request) (h : Held) → Goes (effect r h)
unfolding IsAwaited effect walk_started inserted queried step_to
effect-goes request.Begin h = tt
effect-goes (request.WalkStart t column) h = come-goes t.0 column.0 0 _ h
effect-goes (request.Go side) h = stepped-goes side h.walk h
effect-goes request.Found h = found-goes h.walk h
effect-goes (request.Insert t bodies) h = tt
effect-goes (request.Query a) h = tt
effect-goes (request.End keeps) h = ended-goes keeps h
effect-goes (request.Rebuild t column) h = (h, refl)

unless-goes : (reason : Option ℕ) (r : Request) (h : Held) → Goes (served_unless reason r h)
unfolding IsAwaited served_unless refused step_to
unless-goes None r h = effect-goes r h
unless-goes (Some zero) r h = tt
unless-goes (Some (suc reason)) r h = tt

idle-goes : (r : Request) → Goes (served_idle r)
unfolding IsAwaited served_idle step_to
idle-goes request.Begin = refl
idle-goes (request.WalkStart t column) = tt
idle-goes (request.Go side) = tt
idle-goes request.Found = tt
idle-goes (request.Insert t bodies) = tt
idle-goes (request.Query a) = tt
idle-goes (request.End keeps) = tt
idle-goes (request.Rebuild t column) = tt

pub turns-go : AskedTurnsAreAwaited
unfolding IsAwaited serve step_to
turns-go r idle = idle-goes r
turns-go r begins = tt
turns-go r (holds h) = unless-goes (refusal r h) r h
turns-go r (awaits h due) = tt

-- ---- so that turn can end

handed-commit : (r : Request) (s : Served) → handed r s ≡ answered.Commit → s ≡ wants_commit
unfolding handed
handed-commit r (replies answer) is = cc
handed-commit r wants_begin is = cc
handed-commit r wants_commit is = refl
handed-commit r (wants_install t column) is = cc

handed-install : (r : Request) (s : Served) (t : TableNo) (column : ColNo) → handed r s ≡ answered.Install t column → s ≡ wants_install t column
unfolding handed
handed-install r (replies answer) t column is = cc
handed-install r wants_begin t column is = cc
handed-install r wants_commit t column is = cc
handed-install r (wants_install u other) t column is = cc

commit-ends : (k : Conn) → IsAwaited wants_commit k → CanEnd k how.Committed 0
unfolding IsAwaited CanEnd EndsSo
commit-ends k awaited = subst (λ (u : Conn). CanEnd u how.Committed 0) (sym awaited.1) refl

stale-ends : (k : Conn) (t : TableNo) (column : ColNo) (table : ℕ) → IsAwaited (wants_install t column) k → CanEnd k how.Stale table
unfolding IsAwaited CanEnd EndsSo
stale-ends k t column table awaited = subst (λ (u : Conn). CanEnd u how.Stale table) (sym awaited.1) tt

pub may-commit : (r : Request) (k : Conn) (n : Seen) → n ≡ running (serve r k).conn → handed r (serve r k).served ≡ answered.Commit → CanEnd n.conn how.Committed 0
unfolding running
may-commit r k n is asks =
    subst (λ (u : Seen). CanEnd u.conn how.Committed 0) (sym is)
    (commit-ends (serve r k).conn (subst (λ (s : Served). IsAwaited s (serve r k).conn) (handed-commit r (serve r k).served asks) (turns-go r k)))

pub may-be-stale : (r : Request) (k : Conn) (n : Seen) (t : TableNo) (column : ColNo) (table : ℕ) → n ≡ running (serve r k).conn → handed r (serve r k).served ≡ answered.Install t column → CanEnd n.conn how.Stale table
unfolding running
may-be-stale r k n t column table is asks =
    subst (λ (u : Seen). CanEnd u.conn how.Stale table) (sym is)
    (stale-ends (serve r k).conn t column table (subst (λ (s : Served). IsAwaited s (serve r k).conn) (handed-install r (serve r k).served t column asks) (turns-go r k)))
