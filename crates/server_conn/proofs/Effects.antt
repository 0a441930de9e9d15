-- Each request to a transaction as `serve` has it.
use Rattle.std.proofs.Common.{◌≡◌, ℕ, zero, suc, ◌+◌, ◌<◌, ◌==◌, Bool, true, false, not, List, [], ◌∷◌, length, Option, Some, None, Result, Ok, Err, IfOk, refl, ap, sym, subst, ◌∙◌, arith, is_some, vec_capacity}
use Rattle.std.proofs.Math.Dec.{eqb-suc-zero}
use Rattle.mope_base.specs.declared.numbers.TableNo.{TableNo}
use Rattle.mope_base.specs.declared.numbers.ColNo.{ColNo}
use Rattle.mope_base.specs.declared.body.Body.{Body}
use Rattle.tree_model.specs.declared.Side.{Side}
use Rattle.tree_model.specs.declared.Side.TheVariants.{Left, Right}
use Rattle.tree_model.specs.Trees.{Tree, leaf, node, size}
use Rattle.tree_model.specs.Items.{Item}
use Rattle.table_model.specs.Stores.{Shelf}
use Rattle.table_model.specs.Operations.{shelf_at, rank_ops_on}
use Rattle.versions.specs.declared.op.Op.{Op}
use Rattle.versions.specs.Databases.{Database}
use Rattle.versions.specs.Operations.{rank_ops}
use Rattle.walk_proto.specs.declared.messages.Asked.{Asked}
use Rattle.walk_proto.specs.declared.messages.How.TheVariants as how
use Rattle.walk_proto.specs.declared.messages.Reply.TheVariants as reply
use Rattle.walk_proto.specs.declared.messages.Request.{Request}
use Rattle.walk_proto.specs.declared.messages.Request.TheVariants as request
use Rattle.server_conn.specs.declared.came.Came.{Came}
use Rattle.server_conn.specs.declared.came.Came.TheVariants as came
use Rattle.server_conn.specs.declared.came.Due.{Due as Turn}
use Rattle.server_conn.specs.declared.came.Due.TheVariants as turn
use Rattle.server_conn.specs.declared.txn.Txn.{Txn}
use Rattle.server_conn.specs.declared.txn.Walk.{Walk as Going}
use Rattle.server_conn.specs.Connections.{Held, Walk, Step, Conn, idle, begins, holds, awaits}
use Rattle.server_conn.specs.Checks.{reason_or, first_failing, checks, refusal, own, lacks_column, is_fresh}
use Rattle.server_conn.specs.Handling.{IsReady, IsStep}
use Rattle.server_conn.specs.Inside.{shelves_in, held_in, walk_of, walk_if, shut, refused_by, step_due, step_by, due_of, IsOpen, IsTxn, IsReadyFor}
use Rattle.server_conn.specs.Serving.{step_to, placed_at, come_to, walk_started, stepped_from, stepped, found, inserted, queried, refused, served_unless, effect, table_in, closed, committed, ended_by, serve}
use Rattle.server_conn.proofs.Going.{shut-txn, shut-held, shut-open, shut-stepped, shut-found}
use Rattle.server_conn.proofs.Judging.{not-lacking}
use Rattle.server_conn.proofs.Passing.{serve-refused, serve-effect, passed, failed, went_on, closed-is, true-is}
use Rattle.std.proofs.lemmas.Bool.{leb-false}

-- a refusal, by what it came to
pub refused-step : (r : Request) (h : Held) (code table : ℕ) (c : Came) → c ≡ refused_by code table → table ≡ table_in r → Some code ≡ refusal r h → step_by c h ≡ serve r (holds h)
refused-step r h code table c is names no_more =
    ap (λ (k : Came). step_by k h) (is ∙ ap (λ (n : ℕ). refused_by code n) names) ∙ serve-refused r h code (sym no_more)

pub effect-step : (r : Request) (h : Held) (c : Step) → None ≡ refusal r h → c ≡ effect r h → c ≡ serve r (holds h)
effect-step r h c none is = is ∙ serve-effect r h (sym none)

-- ---- steps of a walk

walk-none : (t : Txn) → t.walk ≡ None → (held_in t).walk ≡ None
unfolding held_in walk_if
walk-none t is = ap (walk_if (shelves_in t)) is

walk-some : (t : Txn) (w : Going) → t.walk ≡ Some w → is_some (held_in t).walk ≡ true
unfolding held_in walk_if
walk-some t w is = ap (λ (k : Option Going). is_some (walk_if (shelves_in t) k)) is

-- the walk was taken out of the transaction t, which left u
pub go-none : (t u : Txn) (side : Side) (c : Came) → u ≡ shut t → t.walk ≡ None → c ≡ refused_by 4 0 → step_by c (held_in u) ≡ serve (request.Go side) (holds (held_in t))
unfolding refusal checks first_failing table_in
go-none t u side c left none is =
    ap (step_by c) (ap held_in left ∙ shut-held t none)
    ∙ refused-step (request.Go side) (held_in t) 4 0 c is refl (sym (failed _ _ _ (ap (λ (k : Option Walk). not (is_some k)) (walk-none t none))))

pub go-some : (t u : Txn) (side : Side) (w : Going) (c : Step) → u ≡ shut t → t.walk ≡ Some w → c ≡ stepped side (Some (walk_of (shelves_in u) w)) (held_in u) → c ≡ serve (request.Go side) (holds (held_in t))
unfolding refusal checks first_failing effect
go-some t u side w c left is step =
    effect-step (request.Go side) (held_in t) c (sym (went_on _ _ _ (ap not (walk-some t w is))))
    (step ∙ ap (λ (k : Txn). stepped side (Some (walk_of (shelves_in k) w)) (held_in k)) left ∙ shut-stepped t w side is)

pub found-none : (t u : Txn) (c : Came) → u ≡ shut t → t.walk ≡ None → c ≡ refused_by 4 0 → step_by c (held_in u) ≡ serve request.Found (holds (held_in t))
unfolding refusal checks first_failing table_in
found-none t u c left none is =
    ap (step_by c) (ap held_in left ∙ shut-held t none)
    ∙ refused-step request.Found (held_in t) 4 0 c is refl (sym (failed _ _ _ (ap (λ (k : Option Walk). not (is_some k)) (walk-none t none))))

pub found-some : (t u : Txn) (w : Going) (c : Step) → u ≡ shut t → t.walk ≡ Some w → c ≡ found (Some (walk_of (shelves_in u) w)) (held_in u) → c ≡ serve request.Found (holds (held_in t))
unfolding refusal checks first_failing effect
found-some t u w c left is step =
    effect-step request.Found (held_in t) c (sym (went_on _ _ _ (ap not (walk-some t w is))))
    (step ∙ ap (λ (k : Txn). found (Some (walk_of (shelves_in k) w)) (held_in k)) left ∙ shut-found t w is)

pub left-txn : (t u : Txn) → u ≡ shut t → IsTxn t → IsTxn u
left-txn t u left txn = subst IsTxn (sym left) (shut-txn t txn)

pub left-open : (t u : Txn) (w : Going) → u ≡ shut t → IsTxn t → t.walk ≡ Some w → IsOpen (shelves_in u) (length u.marks.items) (vec_capacity u.marks) w
left-open t u w left txn is = subst (λ (k : Txn). IsOpen (shelves_in k) (length k.marks.items) (vec_capacity k.marks) w) (sym left) (shut-open t w txn is)

pub begin-step : (t : Txn) (c : Came) → c ≡ refused_by 2 0 → step_by c (held_in t) ≡ serve request.Begin (holds (held_in t))
unfolding refusal checks first_failing reason_or table_in
begin-step t c is = refused-step request.Begin (held_in t) 2 0 c is refl refl

-- ---- the beginning of a walk

pub record MayStart (t : Txn) (table : TableNo) (column : ColNo) : Type 0 where
  pub closed : t.walk ≡ None
  pub table_there : table.0 < length (shelves_in t)
  pub column_there : column.0 < length (shelf_at (shelves_in t) table.0).columns

none-if : (shelves : List (Shelf Body)) (walk : Option Going) → walk_if shelves walk ≡ None → walk ≡ None
unfolding walk_if
none-if shelves None none = refl
none-if shelves (Some w) none = cc

pub closed-txn : (t : Txn) → is_some (held_in t).walk ≡ false → t.walk ≡ None
unfolding held_in
closed-txn t is = none-if (shelves_in t) t.walk (closed-is (walk_if (shelves_in t) t.walk) is)

column-there : (t : Txn) (table : TableNo) (column : ColNo) → lacks_column (held_in t) table column.0 ≡ false → column.0 < length (shelf_at (shelves_in t) table.0).columns
unfolding lacks_column own held_in
column-there t table column is_not = leb-false (length (shelf_at (shelves_in t) table.0).columns) column.0 is_not

pub may-start : (t : Txn) (table : TableNo) (column : ColNo) → None ≡ refusal (request.WalkStart table column) (held_in t) → MayStart t table column
unfolding refusal checks first_failing
may-start t table column is =
    let walk = passed _ _ _ (sym is) in
    let there = passed _ _ _ walk.1 in
    let here = passed _ _ _ there.1 in
    record { closed = closed-txn t walk.0; table_there = not-lacking t table there.0; column_there = column-there t table column here.0 }

-- ---- the ends

pub closed-step : (t : Txn) (number : ℕ) → number ≡ t.base.number → step_by (came.Ends (reply.Ended how.Closed 0 number)) (held_in t) ≡ closed (held_in t)
unfolding step_by closed held_in
closed-step t number is = ap (λ (n : ℕ). step_to (reply.Ended how.Closed 0 n) idle) is

pub end-none : (t : Txn) (keeps : Bool) (c : Step) → keeps ≡ false → c ≡ closed (held_in t) → c ≡ ended_by keeps (held_in t)
unfolding ended_by
end-none t keeps c is step = step ∙ sym (ap (λ (k : Bool). ended_by k (held_in t)) is)

committed-none : (ops : List Op) (h : Held) → (length ops == 0) ≡ true → closed h ≡ committed ops h
unfolding committed
committed-none [] h none = refl
committed-none (o ∷ ops) h none = absurd (let e : false ≡ true = sym (eqb-suc-zero (length ops)) ∙ none in cc)

committed-some : (ops : List Op) (h : Held) → (length ops == 0) ≡ false → step_due turn.Commit h ≡ committed ops h
unfolding committed step_due
committed-some [] h some = absurd (let e : true ≡ false = some in cc)
committed-some (o ∷ ops) h some = refl

pub end-empty : (t : Txn) (keeps : Bool) (c : Step) → keeps ≡ true → (length t.ops.items == 0) ≡ true → c ≡ closed (held_in t) → c ≡ ended_by keeps (held_in t)
unfolding ended_by held_in
end-empty t keeps c is none step = step ∙ committed-none t.ops.items (held_in t) none ∙ sym (ap (λ (k : Bool). ended_by k (held_in t)) is)

pub end-waits : (t : Txn) (keeps : Bool) → keeps ≡ true → (length t.ops.items == 0) ≡ false → step_by (came.Waits turn.Commit) (held_in t) ≡ ended_by keeps (held_in t)
unfolding ended_by held_in step_by
end-waits t keeps is some = committed-some t.ops.items (held_in t) some ∙ sym (ap (λ (k : Bool). ended_by k (held_in t)) is)

some-ops : (ops : List Op) → (length ops == 0) ≡ false → 0 < length ops
some-ops [] some = absurd (let e : true ≡ false = some in cc)
some-ops (o ∷ ops) some = omega arith

pub end-ready : (t : Txn) → (length t.ops.items == 0) ≡ false → IsReadyFor (came.Waits turn.Commit) t
unfolding IsReadyFor IsReady due_of held_in
end-ready t some = some-ops t.ops.items some

pub refused-ready : (t : Txn) (code table : ℕ) (c : Came) → c ≡ refused_by code table → IsReadyFor c t
unfolding IsReadyFor refused_by
refused-ready t zero table c is = subst (λ (k : Came). IsReadyFor k t) (sym is) tt
refused-ready t (suc code) table c is = subst (λ (k : Came). IsReadyFor k t) (sym is) tt

-- ---- a column to be balanced

fresh-ops : {A B C : Type 0} (xs : List A) (ys : List B) (zs : List C) → is_fresh xs ys zs ≡ true → ys ≡ []
unfolding is_fresh
fresh-ops [] [] zs is = refl
fresh-ops [] (y ∷ ys) zs is = cc
fresh-ops (x ∷ xs) ys zs is = cc

base-shelves : (t : Txn) → IsTxn t → t.ops.items ≡ [] → shelves_in t ≡ t.base.shelves
unfolding rank_ops_on rank_ops
base-shelves t txn none = txn.made ∙ ap (λ (os : List Op). rank_ops_on t.base.same_time (rank_ops os) t.base.shelves) none

pub install-ready : (t : Txn) (table : TableNo) (column : ColNo) → IsTxn t → None ≡ refusal (request.Rebuild table column) (held_in t) → IsReadyFor (came.Waits (turn.Install table column)) t
unfolding refusal checks first_failing IsReadyFor IsReady due_of held_in
install-ready t table column txn is =
    let walk = passed _ _ _ (sym is) in
    let there = passed _ _ _ walk.1 in
    let here = passed _ _ _ there.1 in
    let fresh = passed _ _ _ here.1 in
    let same = base-shelves t txn (fresh-ops _ t.ops.items t.touched.items (true-is _ fresh.0)) in
    record {
      table_there = subst (λ (s : List (Shelf Body)). table.0 < length s) same (not-lacking t table there.0);
      column_there = subst (λ (s : List (Shelf Body)). column.0 < length (shelf_at s table.0).columns) same (column-there t table column here.0);
    }

pub install-step : (t : Txn) (table : TableNo) (column : ColNo) → None ≡ refusal (request.Rebuild table column) (held_in t) → step_by (came.Waits (turn.Install table column)) (held_in t) ≡ serve (request.Rebuild table column) (holds (held_in t))
unfolding step_by step_due effect
install-step t table column is = effect-step (request.Rebuild table column) (held_in t) _ is refl

pub serve-as : (r q : Request) (h : Held) (s : Step) → r ≡ q → s ≡ serve q (holds h) → s ≡ serve r (holds h)
serve-as r q h s same is = is ∙ ap (λ (k : Request). serve k (holds h)) (sym same)

-- ---- which requests never make a transaction wait

abbrev waits : Conn → Bool
waits idle = false
waits begins = false
waits (holds h) = false
waits (awaits h due) = true

come-waits : (table column before : ℕ) (t : Tree (Item Body)) (h : Held) → waits (come_to table column before t h).conn ≡ false
unfolding come_to placed_at step_to
come-waits table column before leaf h = refl
come-waits table column before (node l x r) h = refl

from-waits : (side : Side) (table column before : ℕ) (t : Tree (Item Body)) (h : Held) → waits (stepped_from side table column before t h).conn ≡ false
unfolding stepped_from placed_at step_to
from-waits side table column before leaf h = refl
from-waits Left table column before (node l x r) h = come-waits table column before l h
from-waits Right table column before (node l x r) h = come-waits table column (before + suc (size l)) r h

stepped-waits : (side : Side) (w : Option Walk) (h : Held) → waits (stepped side w h).conn ≡ false
unfolding stepped step_to
stepped-waits side None h = refl
stepped-waits side (Some w) h = from-waits side w.table w.column w.before w.part h

found-waits : (w : Option Walk) (h : Held) → waits (found w h).conn ≡ false
unfolding found placed_at step_to
found-waits None h = refl
found-waits (Some w) h = refl

served-waits : (reason : Option ℕ) (r : Request) (h : Held) → waits (effect r h).conn ≡ false → waits (served_unless reason r h).conn ≡ false
unfolding served_unless refused step_to
served-waits None r h at_once = at_once
served-waits (Some zero) r h at_once = refl
served-waits (Some (suc code)) r h at_once = refl

due-waits : (due : Turn) (h : Held) → waits (step_due due h).conn ≡ true
unfolding step_due
due-waits turn.Commit h = refl
due-waits (turn.Install table column) h = refl

ready-unless : (t : Txn) (c : Came) (s : Step) → step_by c (held_in t) ≡ s → waits s.conn ≡ false → IsReadyFor c t
unfolding IsReadyFor step_by
ready-unless t (came.Says answer) s is at_once = tt
ready-unless t (came.Ends answer) s is at_once = tt
ready-unless t (came.Waits due) s is at_once =
    absurd (let e : true ≡ false = sym (due-waits due (held_in t)) ∙ ap (λ (k : Step). waits k.conn) is ∙ at_once in cc)

ready-by : (t : Txn) (h : Held) (r : Request) (c : Came) → waits (effect r h).conn ≡ false → step_by c (held_in t) ≡ serve r (holds h) → IsReadyFor c t
unfolding serve
ready-by t h r c at_once is = ready-unless t c (served_unless (refusal r h) r h) is (served-waits (refusal r h) r h at_once)

ready-walk : (t : Txn) (h : Held) (table : TableNo) (column : ColNo) (c : Came) → step_by c (held_in t) ≡ serve (request.WalkStart table column) (holds h) → IsReadyFor c t
unfolding effect walk_started
ready-walk t h table column c is = ready-by t h (request.WalkStart table column) c (come-waits table.0 column.0 0 _ h) is

pub ready-go : (t : Txn) (h : Held) (side : Side) (c : Came) → step_by c (held_in t) ≡ serve (request.Go side) (holds h) → IsReadyFor c t
unfolding effect
ready-go t h side c is = ready-by t h (request.Go side) c (stepped-waits side h.walk h) is

pub ready-found : (t : Txn) (h : Held) (c : Came) → step_by c (held_in t) ≡ serve request.Found (holds h) → IsReadyFor c t
unfolding effect
ready-found t h c is = ready-by t h request.Found c (found-waits h.walk h) is

pub ready-insert : (t : Txn) (h : Held) (table : TableNo) (bodies : List Body) (c : Came) → step_by c (held_in t) ≡ serve (request.Insert table bodies) (holds h) → IsReadyFor c t
unfolding effect inserted step_to
ready-insert t h table bodies c is = ready-by t h (request.Insert table bodies) c refl is

pub ready-query : (t : Txn) (h : Held) (a : Asked) (c : Came) → step_by c (held_in t) ≡ serve (request.Query a) (holds h) → IsReadyFor c t
unfolding effect queried step_to
ready-query t h a c is = ready-by t h (request.Query a) c refl is

-- ---- requests that are no step of a walk

pub start-no-step : (r : Request) (table : TableNo) (column : ColNo) → r ≡ request.WalkStart table column → IsStep r → ⊥
unfolding IsStep
start-no-step r table column is step = subst IsStep is step

pub insert-no-step : (r : Request) (table : TableNo) (bodies : List Body) → r ≡ request.Insert table bodies → IsStep r → ⊥
unfolding IsStep
insert-no-step r table bodies is step = subst IsStep is step

pub query-no-step : (r : Request) (a : Asked) → r ≡ request.Query a → IsStep r → ⊥
unfolding IsStep
query-no-step r a is step = subst IsStep is step

pub ready-started : {E : Type 0} (t : Txn) (h : Held) (table : TableNo) (column : ColNo) (r : Result Came E) → IfOk r (λ (c : Came). step_by c (held_in t) ≡ serve (request.WalkStart table column) (holds h)) → IfOk r (λ (c : Came). IsReadyFor c t)
ready-started t h table column (Ok c) is = ready-walk t h table column c is
ready-started t h table column (Err e) is = tt

pub ready-inserted : {E : Type 0} (t : Txn) (h : Held) (table : TableNo) (bodies : List Body) (r : Result Came E) → IfOk r (λ (c : Came). step_by c (held_in t) ≡ serve (request.Insert table bodies) (holds h)) → IfOk r (λ (c : Came). IsReadyFor c t)
ready-inserted t h table bodies (Ok c) is = ready-insert t h table bodies c is
ready-inserted t h table bodies (Err e) is = tt

pub ready-queried : {E : Type 0} (t : Txn) (h : Held) (a : Asked) (r : Result Came E) → IfOk r (λ (c : Came). step_by c (held_in t) ≡ serve (request.Query a) (holds h)) → IfOk r (λ (c : Came). IsReadyFor c t)
ready-queried t h a (Ok c) is = ready-query t h a c is
ready-queried t h a (Err e) is = tt
