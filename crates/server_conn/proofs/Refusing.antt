-- Requests that no check refuses are not refused, but where nothing changes.
use Rattle.std.proofs.Common.{◌≡◌, ℕ, zero, suc, ◌+◌, Bool, true, false, eqb, List, [], ◌∷◌, Option, Some, None, refl, ap, ◌∙◌, sym}
use Rattle.std.proofs.Math.Dec.{eqb-zero-suc, eqb-suc-zero}
use Rattle.std.proofs.lemmas.Bool.{eq-eqb}
use Rattle.mope_base.specs.declared.body.Body.{Body}
use Rattle.tree_model.specs.declared.Side.{Side}
use Rattle.tree_model.specs.declared.Side.TheVariants.{Left, Right}
use Rattle.tree_model.specs.Trees.{Tree, leaf, node, size}
use Rattle.tree_model.specs.Items.{Item}
use Rattle.tree_model.proofs.CarriedRanks.{false_is_true}
use Rattle.table_model.specs.Stores.{Kept}
use Rattle.versions.specs.declared.op.Op.{Op}
use Rattle.walk_proto.specs.declared.messages.Reply.{Reply}
use Rattle.walk_proto.specs.declared.messages.Reply.TheVariants as reply
use Rattle.walk_proto.specs.declared.messages.Request.{Request}
use Rattle.walk_proto.specs.declared.messages.Request.TheVariants as request
use Rattle.workload.specs.declared.script.Verb.{Verb}
use Rattle.workload.specs.declared.script.Verb.TheVariants as verb
use Rattle.server_conn.specs.Connections.{Walk, Held, Conn, idle, begins, holds, awaits, Served, replies, wants_begin, wants_commit, wants_install}
use Rattle.server_conn.specs.Checks.{refusal}
use Rattle.server_conn.specs.Serving.{serve, served_idle, served_unless, refused, effect, step_to, placed_at, come_to, walk_started, stepped_from, stepped, found, inserted, reply_about, queried, closed, committed, ended_by}
use Rattle.server_conn.specs.Laws.{RefusalsChangeNothing, FullEndsTransaction}

-- what comes of a request is a refusal for this reason
abbrev says_no : ℕ → Reply → Bool
says_no reason (reply.Node body) = false
says_no reason reply.Placed = false
says_no reason (reply.Rows width bodies) = false
says_no reason (reply.Count number) = false
says_no reason (reply.Ended how table number) = false
says_no reason (reply.No code value) = eqb code reason

abbrev is_refused : ℕ → Served → Bool
is_refused reason (replies r) = says_no reason r
is_refused reason wants_begin = false
is_refused reason wants_commit = false
is_refused reason (wants_install t column) = false

-- ---- effects

come_not : (reason table column before : ℕ) (t : Tree (Item Body)) (h : Held) → is_refused reason (come_to table column before t h).served ≡ false
unfolding come_to placed_at step_to
come_not reason table column before leaf h = refl
come_not reason table column before (node l x r) h = refl

stepped_not : (reason : ℕ) (side : Side) (table column before : ℕ) (t : Tree (Item Body)) (h : Held) → is_refused reason (stepped_from side table column before t h).served ≡ false
unfolding stepped_from placed_at step_to
stepped_not reason side table column before leaf h = refl
stepped_not reason Left table column before (node l x r) h = come_not reason table column before l h
stepped_not reason Right table column before (node l x r) h = come_not reason table column (before + suc (size l)) r h

about_not : (reason : ℕ) (v : Verb) (rows : List (Kept Body)) → says_no reason (reply_about v rows) ≡ false
unfolding reply_about
about_not reason (verb.Rows columns order limit) rows = refl
about_not reason verb.Count rows = refl
about_not reason (verb.Min column) rows = refl
about_not reason (verb.Max column) rows = refl
about_not reason verb.Delete rows = refl

committed_not : (reason : ℕ) (ops : List Op) (h : Held) → is_refused reason (committed ops h).served ≡ false
unfolding committed closed step_to
committed_not reason [] h = refl
committed_not reason (o ∷ ops) h = refl

ended_not : (reason : ℕ) (keeps : Bool) (h : Held) → is_refused reason (ended_by keeps h).served ≡ false
unfolding ended_by closed step_to
ended_not reason true h = committed_not reason h.ops h
ended_not reason false h = refl

stepped_keeps : (reason : ℕ) (side : Side) (w : Option Walk) (h : Held) → is_refused reason (stepped side w h).served ≡ true → (stepped side w h).conn ≡ holds h
unfolding stepped step_to
stepped_keeps reason side None h e = refl
stepped_keeps reason side (Some w) h e = false_is_true (sym (stepped_not reason side w.table w.column w.before w.part h) ∙ e)

found_keeps : (reason : ℕ) (w : Option Walk) (h : Held) → is_refused reason (found w h).served ≡ true → (found w h).conn ≡ holds h
unfolding found placed_at step_to
found_keeps reason None h e = refl
found_keeps reason (Some w) h e = false_is_true e

-- where an effect refuses, it changes nothing
effect_keeps : (reason : ℕ) (r : Request) (h : Held) → is_refused reason (effect r h).served ≡ true → (effect r h).conn ≡ holds h
unfolding effect walk_started inserted queried step_to
effect_keeps reason request.Begin h e = refl
effect_keeps reason (request.WalkStart t column) h e = false_is_true (sym (come_not reason t.0 column.0 0 _ h) ∙ e)
effect_keeps reason (request.Go side) h e = stepped_keeps reason side h.walk h e
effect_keeps reason request.Found h e = found_keeps reason h.walk h e
effect_keeps reason (request.Insert t bodies) h e = false_is_true e
effect_keeps reason (request.Query a) h e = false_is_true (sym (about_not reason _ _) ∙ e)
effect_keeps reason (request.End keeps) h e = false_is_true (sym (ended_not reason keeps h) ∙ e)
effect_keeps reason (request.Rebuild t column) h e = false_is_true e

stepped_full : (side : Side) (w : Option Walk) (h : Held) → is_refused 0 (stepped side w h).served ≡ false
unfolding stepped step_to
stepped_full side None h = refl
stepped_full side (Some w) h = stepped_not 0 side w.table w.column w.before w.part h

found_full : (w : Option Walk) (h : Held) → is_refused 0 (found w h).served ≡ false
unfolding found placed_at step_to
found_full None h = refl
found_full (Some w) h = refl

-- and no effect says that a table is full
effect_full : (r : Request) (h : Held) → is_refused 0 (effect r h).served ≡ false
unfolding effect walk_started inserted queried step_to
effect_full request.Begin h = refl
effect_full (request.WalkStart t column) h = come_not 0 t.0 column.0 0 _ h
effect_full (request.Go side) h = stepped_full side h.walk h
effect_full request.Found h = found_full h.walk h
effect_full (request.Insert t bodies) h = refl
effect_full (request.Query a) h = about_not 0 _ _
effect_full (request.End keeps) h = ended_not 0 keeps h
effect_full (request.Rebuild t column) h = refl

-- ---- requests

served_keeps : (reason : ℕ) (found : Option ℕ) (r : Request) (h : Held) → is_refused (suc reason) (served_unless found r h).served ≡ true → (served_unless found r h).conn ≡ holds h
unfolding served_unless refused step_to
served_keeps reason None r h e = effect_keeps (suc reason) r h e
served_keeps reason (Some zero) r h e = false_is_true (sym (eqb-zero-suc reason) ∙ e)
served_keeps reason (Some (suc other)) r h e = refl

served_full : (found : Option ℕ) (r : Request) (h : Held) → is_refused 0 (served_unless found r h).served ≡ true → (served_unless found r h).conn ≡ idle
unfolding served_unless refused step_to
served_full None r h e = false_is_true (sym (effect_full r h) ∙ e)
served_full (Some zero) r h e = refl
served_full (Some (suc other)) r h e = false_is_true (sym (eqb-suc-zero other) ∙ e)

idle_keeps : (reason : ℕ) (r : Request) → is_refused reason (served_idle r).served ≡ true → (served_idle r).conn ≡ idle
unfolding served_idle step_to
idle_keeps reason request.Begin e = false_is_true e
idle_keeps reason (request.WalkStart t column) e = refl
idle_keeps reason (request.Go side) e = refl
idle_keeps reason request.Found e = refl
idle_keeps reason (request.Insert t bodies) e = refl
idle_keeps reason (request.Query a) e = refl
idle_keeps reason (request.End keeps) e = refl
idle_keeps reason (request.Rebuild t column) e = refl

serve_keeps : (reason : ℕ) (r : Request) (k : Conn) → is_refused (suc reason) (serve r k).served ≡ true → (serve r k).conn ≡ k
unfolding serve step_to
serve_keeps reason r idle e = idle_keeps (suc reason) r e
serve_keeps reason r begins e = refl
serve_keeps reason r (holds h) e = served_keeps reason (refusal r h) r h e
serve_keeps reason r (awaits h due) e = refl

serve_full : (r : Request) (k : Conn) → is_refused 0 (serve r k).served ≡ true → (serve r k).conn ≡ idle
unfolding serve step_to
serve_full r idle e = idle_keeps 0 r e
serve_full r begins e = false_is_true e
serve_full r (holds h) e = served_full (refusal r h) r h e
serve_full r (awaits h due) e = false_is_true e

pub refusals_keep : RefusalsChangeNothing
refusals_keep r k reason value e = serve_keeps reason r k (ap (is_refused (suc reason)) e ∙ eq-eqb (suc reason) (suc reason) refl)

pub full_ends : FullEndsTransaction
full_ends r k value e = serve_full r k (ap (is_refused 0) e)
