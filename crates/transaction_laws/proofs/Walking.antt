-- A walk, from wherever it has come to.
use Rattle.std.proofs.Common.{◌≡◌, ℕ, suc, ◌+◌, ◌<◌, ◌≤◌, Bool, true, false, not, ◌&&◌, eqb, ltb, leb, List, [], ◌∷◌, map, length, is_some, Option, Some, None, refl, ap, ap₂, ◌∙◌, sym, subst, inl, inr, arith, lt-ltb, le-ltb}
use Rattle.std.proofs.lemmas.Bool.{cases_order, eq-eqb, ne_eqb, lt-leb}
use Rattle.mope_base.specs.declared.body.Body.{Body}
use Rattle.mope_base.specs.declared.numbers.TableNo.{TableNo}
use Rattle.mope_base.specs.declared.numbers.ColNo.{ColNo}
use Rattle.tree_model.specs.declared.Place.{Place}
use Rattle.tree_model.specs.declared.Place.TheVariants.{Found, Gap}
use Rattle.tree_model.specs.declared.Side.TheVariants.{Left, Right}
use Rattle.tree_model.specs.Trees.{Tree, leaf, node, inorder, height, size, map_tree}
use Rattle.tree_model.specs.Places.{IsIncreasing, place, placed, below}
use Rattle.tree_model.specs.Places.{holds as is_held}
use Rattle.tree_model.specs.Items.{Item}
use Rattle.tree_model.specs.Walks.{place_in}
use Rattle.tree_model.proofs.Mapped.{size-map_tree}
use Rattle.tree_model.proofs.SplitPlaces.{after, place-before, place-after, place-middle, IsIncreasing-before, IsIncreasing-after}
use Rattle.tree_model.proofs.Walked.{values-node, length-values}
use Rattle.value_cipher.specs.Cipher.{Cell, value_of, sealed}
use Rattle.value_cipher.proofs.CipherLemmas.{unseal_of-sealed}
use Rattle.walk_proto.specs.declared.messages.Exchange.{Exchange}
use Rattle.walk_proto.specs.declared.messages.Reply.TheVariants as reply
use Rattle.walk_proto.specs.declared.messages.Request.{Request}
use Rattle.walk_proto.specs.declared.messages.Request.TheVariants as request
use Rattle.proxy.specs.declared.doing.Stop.{Stop}
use Rattle.proxy.specs.Tasks.{Task, looks}
use Rattle.proxy.specs.Client.{Setting, Client, wants, first_request, request_for, step_for, step_by, hears, heard_at, heard_by, led_by, stop_below}
use Rattle.proxy.specs.Allowed.{allowed, is_spelled, fits_first, fits_task, leads_with, may_lead_on}
use Rattle.server_conn.specs.Connections.{Walk, Held, Conn, holds, Step}
use Rattle.server_conn.specs.Checks.{refusal, checks, first_failing, reason_or, own, lacks_table, lacks_column, most_marks, walk_open, unknown_table, unknown_column, wrong_places}
use Rattle.table_model.specs.Soundness.{column_at}
use Rattle.server_conn.specs.Serving.{serve, served_unless, effect, come_to, placed_at, step_to, walk_started, stepped, stepped_from, found, in_front_of_top}
use Rattle.transaction_laws.specs.Meetings.{Meets, doing}
use Rattle.transaction_laws.specs.Walks.{exchanged, sealed_item, value_in, onward_by, walk_log, marked, WalkMeets}
use Rattle.transaction_laws.proofs.Meeting.{meets_nothing, meets_one}

-- the client with its walk at a stop
unfoldable stands : TableNo → ColNo → ℕ → List Task → Option Stop → Client → Client
stands t column x later looking c = record c { tasks = looks t column x ∷ later; looking = looking }

-- how many steps down led to where a walk goes next
unfoldable steps_to : Option Stop → ℕ
steps_to None = 0
steps_to (Some stop) = suc stop.steps

-- ---- the client

wants_step : (s : Setting) (t : TableNo) (column : ColNo) (x : ℕ) (later : List Task) (looking : Option Stop) (c : Client) → wants s (stands t column x later looking c) ≡ Some (step_for x looking t column)
unfolding stands wants first_request request_for
wants_step s t column x later looking c = refl

hears_placed : (s : Setting) (t : TableNo) (column : ColNo) (x : ℕ) (later : List Task) (looking : Option Stop) (c : Client) → hears s (stands t column x later looking c) reply.Placed ≡ doing later c
unfolding stands hears heard_at heard_by led_by doing
hears_placed s t column x later looking c = refl

allows_placed : (t : TableNo) (column : ColNo) (x : ℕ) (later : List Task) (looking : Option Stop) (c : Client) → allowed (stands t column x later looking c) reply.Placed ≡ true
unfolding stands allowed is_spelled fits_first fits_task leads_with
allows_placed t column x later looking c = refl

hears_node : (s : Setting) (t : TableNo) (column : ColNo) (x : ℕ) (later : List Task) (looking : Option Stop) (c : Client) (cell : Cell) → hears s (stands t column x later looking c) (reply.Node (sealed s.key cell)) ≡ stands t column x later (Some (stop_below looking (value_of cell))) c
unfolding stands hears heard_at heard_by led_by
hears_node s t column x later looking c cell = ap (λ (value : ℕ). stands t column x later (Some (stop_below looking value)) c) (unseal_of-sealed s.key cell)

allows_node : (t : TableNo) (column : ColNo) (x : ℕ) (later : List Task) (looking : Option Stop) (c : Client) (body : Body) → may_lead_on x looking ≡ true → allowed (stands t column x later looking c) (reply.Node body) ≡ true
unfolding stands allowed is_spelled fits_first fits_task leads_with
allows_node t column x later looking c body may = ap (λ (b : Bool). b && true) may

value-stop_below : (looking : Option Stop) (value : ℕ) → (stop_below looking value).value ≡ value
unfolding stop_below
value-stop_below None value = refl
value-stop_below (Some stop) value = refl

steps-stop_below : (looking : Option Stop) (value : ℕ) → steps_to (Some (stop_below looking value)) ≡ suc (steps_to looking)
unfolding stop_below steps_to
steps-stop_below None value = refl
steps-stop_below (Some stop) value = refl

-- it may go on from an item of another value while the way isn't too long
goes_on : (x : ℕ) (looking : Option Stop) (value : ℕ) → eqb x value ≡ false → suc (steps_to looking) < 63 → may_lead_on x (Some (stop_below looking value)) ≡ true
unfolding may_lead_on steps_to
goes_on x looking value other short =
    ap₂ (λ (a b : Bool). not a && b) (ap (eqb x) (value-stop_below looking value) ∙ other) (ap (λ (n : ℕ). ltb n 63) (steps-stop_below looking value) ∙ lt-ltb (suc (steps_to looking)) 63 short)

-- the client allows what a part of a tree may bring
unfoldable MayCome : ℕ → Option Stop → Tree (Item Cell) → Type 0
MayCome x looking leaf = Unit {0}
MayCome x looking (node l y r) = may_lead_on x looking ≡ true

may_come : (x : ℕ) (looking : Option Stop) (value : ℕ) (part : Tree (Item Cell)) → eqb x value ≡ false → suc (steps_to looking) + height part ≤ 63 → MayCome x (Some (stop_below looking value)) part
unfolding MayCome height
may_come x looking value leaf other short = tt
may_come x looking value (node l y r) other short = goes_on x looking value other (omega (arith, short))

next_step : (x : ℕ) (looking : Option Stop) (value : ℕ) (t : TableNo) (column : ColNo) (same below : Bool) → eqb x value ≡ same → ltb x value ≡ below → step_for x (Some (stop_below looking value)) t column ≡ step_by same below
unfolding step_for
next_step x looking value t column same below is_same is_below =
    ap₂ step_by (ap (eqb x) (value-stop_below looking value) ∙ is_same) (ap (ltb x) (value-stop_below looking value) ∙ is_below)

-- ---- the connection

unfoldable walks : ℕ → ℕ → ℕ → Tree (Item Body) → Held → Held
walks table column before part h = record h { walk = Some (record { table = table; column = column; before = before; part = part }) }

come-node : (table column before : ℕ) (l : Tree (Item Body)) (y : Item Body) (r : Tree (Item Body)) (h : Held) → come_to table column before (node l y r) h ≡ step_to (reply.Node y.body) (holds (walks table column before (node l y r) h))
unfolding come_to walks
come-node table column before l y r h = refl

serve-left : (table column before : ℕ) (l : Tree (Item Body)) (y : Item Body) (r : Tree (Item Body)) (h : Held) → serve (request.Go Left) (holds (walks table column before (node l y r) h)) ≡ come_to table column before l (walks table column before (node l y r) h)
unfolding serve served_unless refusal checks first_failing reason_or effect stepped stepped_from walks
serve-left table column before l y r h = refl

serve-right : (table column before : ℕ) (l : Tree (Item Body)) (y : Item Body) (r : Tree (Item Body)) (h : Held) → serve (request.Go Right) (holds (walks table column before (node l y r) h)) ≡ come_to table column (before + suc (size l)) r (walks table column before (node l y r) h)
unfolding serve served_unless refusal checks first_failing reason_or effect stepped stepped_from walks
serve-right table column before l y r h = refl

serve-found : (t : TableNo) (column : ColNo) (before : ℕ) (l : Tree (Item Body)) (y : Item Body) (r : Tree (Item Body)) (h : Held) → serve request.Found (holds (walks t.0 column.0 before (node l y r) h)) ≡ step_to reply.Placed (holds (marked t column (Found (before + size l)) h))
unfolding serve served_unless refusal checks first_failing reason_or effect found placed_at in_front_of_top walks marked
serve-found t column before l y r h = refl

come-leaf : (t : TableNo) (column : ColNo) (before : ℕ) (h : Held) → come_to t.0 column.0 before leaf h ≡ step_to reply.Placed (holds (marked t column (Gap before) h))
unfolding come_to placed_at marked
come-leaf t column before h = refl

marked-walks : (t : TableNo) (column : ColNo) (table col before : ℕ) (part : Tree (Item Body)) (place : Place) (h : Held) → marked t column place (walks table col before part h) ≡ marked t column place h
unfolding marked walks
marked-walks t column table col before part place h = refl

-- ---- places

after-before : (before : ℕ) (l : Tree (Item Cell)) (y : Item Cell) (r : Tree (Item Cell)) (x : ℕ) → IsIncreasing (map value_in (inorder (node l y r))) → x < value_in y → place_in value_in (node l y r) x ≡ place_in value_in l x
unfolding place_in
after-before before l y r x up lt =
    let split = values-node value_in l y r in
    ap (λ (xs : List ℕ). place xs x) split ∙ place-before x (map value_in (inorder l)) (value_in y) (map value_in (inorder r)) lt (subst IsIncreasing split up)

after_after : (n m : ℕ) (p : Place) → after n (after m p) ≡ after (n + m) p
unfolding after
after_after n m (Found rank) = ap Found (omega arith)
after_after n m (Gap rank) = ap Gap (omega arith)

after-right : (before : ℕ) (l : Tree (Item Cell)) (y : Item Cell) (r : Tree (Item Cell)) (x : ℕ) → IsIncreasing (map value_in (inorder (node l y r))) → value_in y < x → after before (place_in value_in (node l y r) x) ≡ after (before + suc (size l)) (place_in value_in r x)
unfolding place_in
after-right before l y r x up lt =
    let split = values-node value_in l y r in
    let at = ap (λ (xs : List ℕ). place xs x) split ∙ place-after x (map value_in (inorder l)) (value_in y) (map value_in (inorder r)) lt (subst IsIncreasing split up) in
    ap (after before) at ∙ after_after before (suc (length (map value_in (inorder l)))) (place (map value_in (inorder r)) x) ∙ ap (λ (n : ℕ). after (before + suc n) (place (map value_in (inorder r)) x)) (length-values value_in l)

after-here : (before : ℕ) (l : Tree (Item Cell)) (y : Item Cell) (r : Tree (Item Cell)) (x : ℕ) → IsIncreasing (map value_in (inorder (node l y r))) → x ≡ value_in y → after before (place_in value_in (node l y r) x) ≡ Found (before + size l)
unfolding place_in after
after-here before l y r x up e =
    let split = values-node value_in l y r in
    let at = ap (λ (xs : List ℕ). place xs x) split ∙ place-middle x (map value_in (inorder l)) (value_in y) (map value_in (inorder r)) (sym e) (subst IsIncreasing split up) in
    ap (after before) at ∙ ap (λ (n : ℕ). Found (before + n)) (length-values value_in l)

after-leaf : (before x : ℕ) → after before (place_in value_in leaf x) ≡ Gap before
unfolding place_in after place placed is_held below inorder
after-leaf before x = ap Gap (omega arith)

increasing-left : (l : Tree (Item Cell)) (y : Item Cell) (r : Tree (Item Cell)) → IsIncreasing (map value_in (inorder (node l y r))) → IsIncreasing (map value_in (inorder l))
increasing-left l y r up = IsIncreasing-before (map value_in (inorder l)) (value_in y ∷ map value_in (inorder r)) (subst IsIncreasing (values-node value_in l y r) up)

increasing-right : (l : Tree (Item Cell)) (y : Item Cell) (r : Tree (Item Cell)) → IsIncreasing (map value_in (inorder (node l y r))) → IsIncreasing (map value_in (inorder r))
increasing-right l y r up = IsIncreasing-after (map value_in (inorder l)) (value_in y) (map value_in (inorder r)) (subst IsIncreasing (values-node value_in l y r) up)

-- ---- the walk

-- the same exchanges, told otherwise
pub along : (s : Setting) (c : Client) (k : Conn) (log other : List Exchange) (client : Client) (conn : Conn) → log ≡ other → Meets s c k log client conn → Meets s c k other client conn
along s c k log other client conn same m = subst (λ (l : List Exchange). Meets s c k l client conn) same m

pub ending_at : (s : Setting) (c : Client) (k : Conn) (log : List Exchange) (client : Client) (conn other : Conn) → conn ≡ other → Meets s c k log client conn → Meets s c k log client other
ending_at s c k log client conn other same m = subst (Meets s c k log client) same m

-- the request leads to this part of the tree
abbrev Leads : TableNo → ColNo → List ℕ → Request → Conn → ℕ → Tree (Item Cell) → Held → Type 0
Leads t column key r k before part h = serve r k ≡ come_to t.0 column.0 before (map_tree (sealed_item key) part) h

-- an exchange by which a walk ends
ends_placed : (s : Setting) (t : TableNo) (column : ColNo) (x : ℕ) (later : List Task) (looking : Option Stop) (c : Client) (k : Conn) (r : Request) (h : Held) → step_for x looking t column ≡ r → serve r k ≡ step_to reply.Placed (holds h)
    → Meets s (stands t column x later looking c) k (exchanged r reply.Placed ∷ []) (doing later c) (holds h)
unfolding step_to exchanged
ends_placed s t column x later looking c k r h step served =
    meets_one s (stands t column x later looking c) k (exchanged r reply.Placed) [] (doing later c) (holds h)
    (wants_step s t column x later looking c ∙ ap Some step)
    (allows_placed t column x later looking c)
    (ap (λ (st : Step). st.served) served)
    (subst (λ (d : Client). Meets s d (serve r k).conn [] (doing later c) (holds h)) (sym (hears_placed s t column x later looking c))
    (subst (λ (l : Conn). Meets s (doing later c) l [] (doing later c) (holds h)) (sym (ap (λ (st : Step). st.conn) served)) (meets_nothing s (doing later c) (holds h))))

-- an exchange that comes to an item, before the others of a walk
comes_to_item : (s : Setting) (t : TableNo) (column : ColNo) (x : ℕ) (later : List Task) (looking : Option Stop) (c : Client) (k : Conn) (r : Request) (item : Item Cell) (h : Held) (log : List Exchange) (conn : Conn)
    → step_for x looking t column ≡ r → may_lead_on x looking ≡ true → serve r k ≡ step_to (reply.Node (sealed s.key item.body)) (holds h)
    → Meets s (stands t column x later (Some (stop_below looking (value_in item))) c) (holds h) log (doing later c) conn
    → Meets s (stands t column x later looking c) k (exchanged r (reply.Node (sealed s.key item.body)) ∷ log) (doing later c) conn
unfolding step_to exchanged value_in
comes_to_item s t column x later looking c k r item h log conn step may served rest =
    meets_one s (stands t column x later looking c) k (exchanged r (reply.Node (sealed s.key item.body))) log (doing later c) conn
    (wants_step s t column x later looking c ∙ ap Some step)
    (allows_node t column x later looking c (sealed s.key item.body) may)
    (ap (λ (st : Step). st.served) served)
    (subst (λ (d : Client). Meets s d (serve r k).conn log (doing later c) conn) (sym (hears_node s t column x later looking c item.body))
    (subst (λ (l : Conn). Meets s (stands t column x later (Some (stop_below looking (value_of item.body))) c) l log (doing later c) conn) (sym (ap (λ (st : Step). st.conn) served)) rest))

-- how a walk goes on at an item, where it does so on either side
rest_at_item : (s : Setting) (t : TableNo) (column : ColNo) (x : ℕ) (later : List Task) (c : Client) (left : Tree (Item Cell)) (item : Item Cell) (right : Tree (Item Cell)) (before : ℕ) (looking : Option Stop) (h : Held) (lefts rights : List Exchange)
    → IsIncreasing (map value_in (inorder (node left item right)))
    → (let part = node (map_tree (sealed_item s.key) left) (sealed_item s.key item) (map_tree (sealed_item s.key) right) in let w : Held = walks t.0 column.0 before part h in
    (eqb x (value_in item) ≡ false → ltb x (value_in item) ≡ true → Meets s (stands t column x later (Some (stop_below looking (value_in item))) c) (holds w) lefts (doing later c) (holds (marked t column (after before (place_in value_in left x)) w)))
    → (eqb x (value_in item) ≡ false → ltb x (value_in item) ≡ false → Meets s (stands t column x later (Some (stop_below looking (value_in item))) c) (holds w) rights (doing later c) (holds (marked t column (after (before + suc (size (map_tree (sealed_item s.key) left))) (place_in value_in right x)) w)))
    → Meets s (stands t column x later (Some (stop_below looking (value_in item))) c) (holds w) (onward_by (eqb x (value_in item)) (ltb x (value_in item)) lefts rights) (doing later c) (holds (marked t column (after before (place_in value_in (node left item right) x)) h)))
unfolding onward_by step_by walks marked
rest_at_item s t column x later c left item right before looking h lefts rights up to_left to_right =
    let f = sealed_item s.key in
    let part = node (map_tree f left) (f item) (map_tree f right) in
    let w : Held = walks t.0 column.0 before part h in
    let v = value_in item in
    let client : Client = stands t column x later (Some (stop_below looking v)) c in
    let place = after before (place_in value_in (node left item right) x) in
    let goal_conn = holds (marked t column place h) in
    elim (cases_order x v) [
      | inl same ↦
          let equal = eq-eqb x v same in
          let found_at = after-here before left item right x up same ∙ ap (λ (n : ℕ). Found (before + n)) (sym (size-map_tree f left)) in
          let served : serve request.Found (holds w) ≡ step_to reply.Placed goal_conn = serve-found t column before (map_tree f left) (f item) (map_tree f right) h ∙ ap (λ (p : Place). step_to reply.Placed (holds (marked t column p h))) (sym found_at) in
          let step : step_for x (Some (stop_below looking v)) t column ≡ request.Found = next_step x looking v t column true (ltb x v) equal refl in
          along s client (holds w) (exchanged request.Found reply.Placed ∷ []) (onward_by (eqb x v) (ltb x v) lefts rights) (doing later c) goal_conn (ap (λ (b : Bool). onward_by b (ltb x v) lefts rights) (sym equal))
          (ends_placed s t column x later (Some (stop_below looking v)) c (holds w) request.Found (marked t column place h) step served)
      | inr (inl lt) ↦
          let other : eqb x v ≡ false = ne_eqb x v (λ e. omega (arith, lt, e)) in
          let below_it = lt-ltb x v lt in
          let end : holds (marked t column (after before (place_in value_in left x)) w) ≡ goal_conn = ap (λ (p : Place). holds (marked t column (after before p) h)) (sym (after-before before left item right x up lt)) in
          along s client (holds w) lefts (onward_by (eqb x v) (ltb x v) lefts rights) (doing later c) goal_conn (ap₂ (λ (a b : Bool). onward_by a b lefts rights) (sym other) (sym below_it))
          (ending_at s client (holds w) lefts (doing later c) (holds (marked t column (after before (place_in value_in left x)) w)) goal_conn end (to_left other below_it))
      | inr (inr gt) ↦
          let other : eqb x v ≡ false = ne_eqb x v (λ e. omega (arith, gt, e)) in
          let above = le-ltb x v (omega (arith, gt)) in
          let n = before + suc (size (map_tree f left)) in
          let place_is : after n (place_in value_in right x) ≡ place = ap (λ (m : ℕ). after (before + suc m) (place_in value_in right x)) (size-map_tree f left) ∙ sym (after-right before left item right x up gt) in
          let end : holds (marked t column (after n (place_in value_in right x)) w) ≡ goal_conn = ap (λ (p : Place). holds (marked t column p h)) place_is in
          along s client (holds w) rights (onward_by (eqb x v) (ltb x v) lefts rights) (doing later c) goal_conn (ap₂ (λ (a b : Bool). onward_by a b lefts rights) (sym other) (sym above))
          (ending_at s client (holds w) rights (doing later c) (holds (marked t column (after n (place_in value_in right x)) w)) goal_conn end (to_right other above))
    ]

led : (s : Setting) (t : TableNo) (column : ColNo) (x : ℕ) (later : List Task) (c : Client) (part : Tree (Item Cell)) (before : ℕ) (looking : Option Stop) (r : Request) (h : Held) (k : Conn)
    → step_for x looking t column ≡ r → Leads t column s.key r k before part h → MayCome x looking part → IsIncreasing (map value_in (inorder part)) → steps_to looking + height part ≤ 63
    → Meets s (stands t column x later looking c) k (walk_log s.key x r part) (doing later c) (holds (marked t column (after before (place_in value_in part x)) h))
unfolding walk_log MayCome map_tree height sealed_item step_by
led s t column x later c leaf before looking r h k step leads may up short =
    let end : marked t column (Gap before) h ≡ marked t column (after before (place_in value_in leaf x)) h = ap (λ (p : Place). marked t column p h) (sym (after-leaf before x)) in
    ending_at s (stands t column x later looking c) k (exchanged r reply.Placed ∷ []) (doing later c) (holds (marked t column (Gap before) h)) (holds (marked t column (after before (place_in value_in leaf x)) h)) (ap holds end)
    (ends_placed s t column x later looking c k r (marked t column (Gap before) h) step (leads ∙ come-leaf t column before h))
led s t column x later c (node left item right) before looking r h k step leads may up short =
    let f = sealed_item s.key in
    let l = map_tree f left in
    let q = map_tree f right in
    let w : Held = walks t.0 column.0 before (node l (f item) q) h in
    let v = value_in item in
    let stop : Option Stop = Some (stop_below looking v) in
    let deeper = steps-stop_below looking v in
    let come : serve r k ≡ step_to (reply.Node (sealed s.key item.body)) (holds w) = leads ∙ come-node t.0 column.0 before l (f item) q h in
    let place = after before (place_in value_in (node left item right) x) in
    let lefts = walk_log s.key x (request.Go Left) left in
    let rights = walk_log s.key x (request.Go Right) right in
    comes_to_item s t column x later looking c k r item w (onward_by (eqb x v) (ltb x v) lefts rights) (holds (marked t column place h)) step may come
    (rest_at_item s t column x later c left item right before looking h lefts rights up
    (λ other below_it. led s t column x later c left before stop (request.Go Left) w (holds w) (next_step x looking v t column false true other below_it) (serve-left t.0 column.0 before l (f item) q h) (may_come x looking v left other (omega (arith, short))) (increasing-left left item right up) (omega (arith, short, deeper)))
    (λ other above. led s t column x later c right (before + suc (size l)) stop (request.Go Right) w (holds w) (next_step x looking v t column false false other above) (serve-right t.0 column.0 before l (f item) q h) (may_come x looking v right other (omega (arith, short))) (increasing-right left item right up) (omega (arith, short, deeper))))

-- ---- its begin

passing : {a b d : Bool} → a ≡ false → b ≡ false → d ≡ false → reason_or false walk_open (reason_or a unknown_table (reason_or b unknown_column (reason_or d wrong_places None))) ≡ None
unfolding reason_or
passing {a} {b} {d} table there few = ap (λ (z : Bool). reason_or z unknown_table (reason_or b unknown_column (reason_or d wrong_places None))) table ∙ ap (λ (z : Bool). reason_or z unknown_column (reason_or d wrong_places None)) there ∙ ap (λ (z : Bool). reason_or z wrong_places None) few

first_step : (x : ℕ) (t : TableNo) (column : ColNo) → step_for x None t column ≡ request.WalkStart t column
unfolding step_for
first_step x t column = refl

may_start : (x : ℕ) (tree : Tree (Item Cell)) → MayCome x None tree
unfolding MayCome may_lead_on
may_start x leaf = tt
may_start x (node l y r) = refl

from_top : (tree : Tree (Item Cell)) → height tree ≤ 63 → steps_to None + height tree ≤ 63
unfolding steps_to
from_top tree short = omega (arith, short)

after_none : (p : Place) → after 0 p ≡ p
unfolding after
after_none (Found rank) = ap Found (omega arith)
after_none (Gap rank) = ap Gap (omega arith)

serve-start : (t : TableNo) (column : ColNo) (h : Held) → h.walk ≡ None → lacks_table h t ≡ false → lacks_column h t column.0 ≡ false → length h.marks < most_marks → serve (request.WalkStart t column) (holds h) ≡ come_to t.0 column.0 0 (column_at (own h t).columns column.0).tree h
unfolding serve served_unless refusal checks first_failing effect walk_started
serve-start t column h closed table there few =
    let no_marks : leb most_marks (length h.marks) ≡ false = lt-leb most_marks (length h.marks) few in
    let passes : refusal (request.WalkStart t column) h ≡ None =
    ap (λ (w : Option Walk). reason_or (is_some w) walk_open (reason_or (lacks_table h t) unknown_table (reason_or (lacks_column h t column.0) unknown_column (reason_or (leb most_marks (length h.marks)) wrong_places None)))) closed ∙
    passing table there no_marks in
    ap (λ (found : Option ℕ). served_unless found (request.WalkStart t column) h) passes

pub walk_meets : WalkMeets
unfolding doing stands
walk_meets s t column x later tree c h may =
    let start = serve-start t column h may.closed may.has_table may.has_column may.few ∙ ap (λ (part : Tree (Item Body)). come_to t.0 column.0 0 part h) may.same in
    let first = led s t column x later c tree 0 None (request.WalkStart t column) h (holds h) (first_step x t column) start (may_start x tree) may.increasing (from_top tree may.short) in
    ending_at s (doing (looks t column x ∷ later) c) (holds h) (walk_log s.key x (request.WalkStart t column) tree) (doing later c) (holds (marked t column (after 0 (place_in value_in tree x)) h)) (holds (marked t column (place_in value_in tree x) h))
    (ap (λ (p : Place). holds (marked t column p h)) (after_none (place_in value_in tree x))) first
