-- An INSERT whose places are found: the checks, what it does, and that the tables still stand for the world's.
use Rattle.std.proofs.Common.{◌≡◌, ℕ, suc, ◌+◌, ◌^◌, ◌%◌, ◌<◌, ◌≤◌, ◌⊎◌, Bool, true, false, not, ◌&&◌, ◌||◌, ◌==◌, leb, List, [], ◌∷◌, ◌++◌, map, length, get_or, is_some, Option, Some, None, refl, ap, ap₂, ◌∙◌, sym, subst, inl, inr, arith, append_assoc, length-append}
use Rattle.std.proofs.lemmas.Bool.{eq-eqb, lt-leb, le-leb}
use Rattle.std.proofs.lemmas.List.{length-map, get_or-map, get_or_at}
use Rattle.std.proofs.Math.Nat.{mod-eq_of_lt}
use Rattle.std.specs.List.{range_with_len}
use Rattle.mope_base.specs.declared.body.Body.{Body}
use Rattle.mope_base.specs.declared.numbers.TableNo.{TableNo}
use Rattle.tree_model.specs.declared.Place.{Place}
use Rattle.tree_model.specs.Places.{place}
use Rattle.tree_model.specs.Items.{values, change_at}
use Rattle.tree_model.specs.Columns.{Column, empty_column, items_of}
use Rattle.table_model.specs.Stores.{Row, Store, Shelf, empty_store, map_shelf, shelf_of}
use Rattle.table_model.specs.Steps.{places_by}
use Rattle.table_model.specs.Changes.{insert_row}
use Rattle.table_model.specs.Soundness.{column_at}
use Rattle.table_model.specs.Operations.{InsertCells, op_on, ops_on, rank_op_on, rank_ops_on, placed_op, placed_ops, map_rank_op, columns_in, rows_in}
use Rattle.table_model.specs.Fitting.{AllFit, OpFits, FitsInsert}
use Rattle.table_model.specs.Standing.{AllStand}
use Rattle.table_model.proofs.Ops.{same-all}
use Rattle.table_model.proofs.SealedTables.{operations_stand}
use Rattle.value_cipher.specs.Cipher.{Cell, value_of, sealed}
use Rattle.versions.specs.declared.op.Op.TheVariants as op
use Rattle.walk_proto.specs.declared.messages.Reply.{Reply}
use Rattle.walk_proto.specs.declared.messages.Reply.TheVariants as reply
use Rattle.walk_proto.specs.declared.messages.Request.{Request}
use Rattle.walk_proto.specs.Rules.{is_no}
use Rattle.workload.specs.declared.script.End.TheVariants as end
use Rattle.proxy.specs.Allowed.{allowed, is_spelled, fits_first, fits_task, puts_with}
use Rattle.proxy.specs.Client.{Setting, Client, wants, first_request, request_for, cells_from, hears, heard_at, heard_by, put_by, answering, sealing, ending}
use Rattle.proxy.specs.Tasks.{Task, puts_row, values_from, column_at as column_numbered}
use Rattle.server_conn.specs.Connections.{Mark, Walk, Held, Conn, idle, holds, Step}
use Rattle.server_conn.specs.Checks.{own, are_of, fits_row, is_full, refusal, checks, first_failing, reason_or, walk_open, unknown_table, wrong_places, full}
use Rattle.server_conn.specs.Serving.{serve, served_unless, refused, table_in, effect, inserted, places_of, after_statement, with_op, step_to}
use Rattle.transaction_laws.specs.Meetings.{Meets, doing}
use Rattle.transaction_laws.specs.Walks.{exchanged}
use Rattle.transaction_laws.specs.Constants.{store_at, Shows, place_of, marks_for}
use Rattle.transaction_laws.specs.Inserts.{cells_of_row, insert_request, having_inserted, with_row, MayInsert, InsertMeets, FullMeets}
use Rattle.transaction_laws.proofs.Meeting.{meets_nothing, meets_one}
use Rattle.transaction_laws.proofs.Shown.{own-shown, shown-table, shown-columns}

-- ---- the places found are one for each column, in order

marks-in_order : (t : TableNo) (from : ℕ) (xs : List ℕ) (store : Store Cell) → from + length xs ≤ 256 → are_of t.0 (range_with_len from (length xs)) (marks_for t (values_from from xs) store) ≡ true
unfolding are_of marks_for values_from column_numbered
marks-in_order t from [] store few = refl
marks-in_order t from (x ∷ xs) store few =
    let rest : are_of t.0 (range_with_len (from + 1) (length xs)) (marks_for t (values_from (suc from) xs) store) ≡ true =
    ap (λ (n : ℕ). are_of t.0 (range_with_len n (length xs)) (marks_for t (values_from (suc from) xs) store)) (omega arith) ∙ marks-in_order t (suc from) xs store (omega (arith, few)) in
    ap₂ (λ (a b : Bool). a && b) (ap₂ (λ (a b : Bool). a && b) (eq-eqb t.0 t.0 refl) (eq-eqb (from % 256) from (mod-eq_of_lt (omega (arith, few))))) rest

-- and these are the places of the cells' values
places-found : (s : Setting) (t : TableNo) (count from : ℕ) (xs : List ℕ) (front cs : List (Column Cell)) (store : Store Cell) → store.columns ≡ front ++ cs → length front ≡ from → length xs ≡ length cs → from + length xs ≤ 256
    → places_of (marks_for t (values_from from xs) store) ≡ places_by value_of cs (cells_from s count xs)
unfolding marks_for values_from column_numbered places_by cells_from place_of column_at value_of
places-found s t count from [] front [] store parts many wide few = refl
places-found s t count from [] front (c ∷ cs) store parts many wide few = absurd (omega (arith, wide))
places-found s t count from (x ∷ xs) front [] store parts many wide few = absurd (omega (arith, wide))
places-found s t count from (x ∷ xs) front (c ∷ cs) store parts many wide few =
    let here : get_or store.columns (from % 256) (empty_column Cell) ≡ c =
    ap (λ (n : ℕ). get_or store.columns n (empty_column Cell)) (mod-eq_of_lt (omega (arith, few))) ∙ ap (λ (l : List (Column Cell)). get_or l from (empty_column Cell)) parts ∙ get_or_at front c cs (empty_column Cell) from many in
    let rest = places-found s t (suc count) (suc from) xs (front ++ c ∷ []) cs store (parts ∙ sym (append_assoc front (c ∷ []) cs)) (length-append front (c ∷ []) ∙ omega (arith, many)) (omega (arith, wide)) (omega (arith, few)) in
    ap₂ (λ (d : Column Cell) (ps : List Place). place (values value_of (items_of d)) x ∷ ps) here rest

length-cells : (s : Setting) (count : ℕ) (xs : List ℕ) → length (cells_from s count xs) ≡ length xs
unfolding cells_from
length-cells s count [] = refl
length-cells s count (x ∷ xs) = ap suc (length-cells s (suc count) xs)

-- ---- the checks

fits : (s : Setting) (t : TableNo) (xs : List ℕ) (stores : List (Store Cell)) (c : Client) (h : Held) → MayInsert s t xs stores h → fits_row h t (map (sealed s.key) (cells_of_row s c xs)) ≡ true
unfolding fits_row cells_of_row
fits s t xs stores c h may =
    let store = store_at stores t in
    let many : length (own h t).columns ≡ length xs = shown-columns s.key stores h t may.shows ∙ sym may.wide in
    let in_order : are_of t.0 (range_with_len 0 (length (own h t).columns)) h.marks ≡ true =
    ap₂ (λ (n : ℕ) (ms : List Mark). are_of t.0 (range_with_len 0 n) ms) many may.marks ∙ marks-in_order t 0 xs store (omega (arith, may.narrow)) in
    let bodies : length (map (sealed s.key) (cells_from s c.seals xs)) ≡ length (own h t).columns = length-map (cells_from s c.seals xs) (sealed s.key) ∙ length-cells s c.seals xs ∙ sym many in
    ap₂ (λ (a b : Bool). a && b) in_order (eq-eqb (length (map (sealed s.key) (cells_from s c.seals xs))) (length (own h t).columns) bodies)

rows-shown : (s : Setting) (t : TableNo) (stores : List (Store Cell)) (h : Held) → Shows s.key stores h → length (own h t).kept ≡ length (store_at stores t).rows
unfolding map_shelf shelf_of
rows-shown s t stores h shows = ap (λ (k : Shelf Body). length k.kept) (own-shown s.key stores h t shows) ∙ length-map (map _ (store_at stores t).rows) _ ∙ length-map (store_at stores t).rows _

next-shown : (s : Setting) (t : TableNo) (stores : List (Store Cell)) (h : Held) → Shows s.key stores h → (own h t).next ≡ (store_at stores t).next
unfolding map_shelf shelf_of
next-shown s t stores h shows = ap (λ (k : Shelf Body). k.next) (own-shown s.key stores h t shows)

has_room : (s : Setting) (t : TableNo) (stores : List (Store Cell)) (h : Held) → Shows s.key stores h → length (store_at stores t).rows < h.base.limit → (store_at stores t).next < 2 ^ 63 → is_full h t ≡ false
unfolding is_full
has_room s t stores h shows room low =
    ap₂ (λ (a b : Bool). a || b) (lt-leb h.base.limit (length (own h t).kept) (omega (arith, rows-shown s t stores h shows, room))) (lt-leb (2 ^ 63) (own h t).next (subst (λ (n : ℕ). n < 2 ^ 63) (sym (next-shown s t stores h shows)) low))

full_by_number : (a b : Bool) → b ≡ true → a || b ≡ true
full_by_number true b is = refl
full_by_number false b is = is

is_full-rows : (s : Setting) (t : TableNo) (stores : List (Store Cell)) (h : Held) → Shows s.key stores h → (h.base.limit ≤ length (store_at stores t).rows) ⊎ (2 ^ 63 ≤ (store_at stores t).next) → is_full h t ≡ true
unfolding is_full
is_full-rows s t stores h shows none = elim none [
  | inl rows ↦ ap (λ (a : Bool). a || leb (2 ^ 63) (own h t).next) (le-leb h.base.limit (length (own h t).kept) (omega (arith, rows-shown s t stores h shows, rows)))
  | inr numbers ↦ full_by_number (leb h.base.limit (length (own h t).kept)) (leb (2 ^ 63) (own h t).next) (le-leb (2 ^ 63) (own h t).next (subst (λ (n : ℕ). 2 ^ 63 ≤ n) (sym (next-shown s t stores h shows)) numbers))
]

checked : {w : Option Walk} {a b : Bool} (d : Bool) → w ≡ None → a ≡ false → b ≡ true → reason_or (is_some w) walk_open (reason_or a unknown_table (reason_or (not b) wrong_places (reason_or d full None))) ≡ reason_or d full None
unfolding reason_or
checked {w} {a} {b} d closed table there =
    ap (λ (z : Option Walk). reason_or (is_some z) walk_open (reason_or a unknown_table (reason_or (not b) wrong_places (reason_or d full None)))) closed
    ∙ ap (λ (z : Bool). reason_or z unknown_table (reason_or (not b) wrong_places (reason_or d full None))) table
    ∙ ap (λ (z : Bool). reason_or (not z) wrong_places (reason_or d full None)) there

refusal-insert : (s : Setting) (t : TableNo) (xs : List ℕ) (stores : List (Store Cell)) (c : Client) (h : Held) → MayInsert s t xs stores h → refusal (insert_request s t xs c) h ≡ reason_or (is_full h t) full None
unfolding refusal insert_request checks first_failing
refusal-insert s t xs stores c h may = checked (is_full h t) may.closed (shown-table s.key stores h t may.shows may.there) (fits s t xs stores c h may)

-- ---- what both sides do

wants-insert : (s : Setting) (t : TableNo) (xs : List ℕ) (later : List Task) (c : Client) → wants s (doing (puts_row t xs ∷ later) c) ≡ Some (insert_request s t xs c)
unfolding doing wants first_request request_for insert_request cells_of_row
wants-insert s t xs later c = refl

hears-count : (s : Setting) (t : TableNo) (xs : List ℕ) (later : List Task) (c : Client) → hears s (doing (puts_row t xs ∷ later) c) (reply.Count 1) ≡ doing later (having_inserted xs c)
unfolding doing hears heard_at heard_by put_by answering sealing having_inserted
hears-count s t xs later c = refl

allows-count : (t : TableNo) (xs : List ℕ) (later : List Task) (c : Client) → allowed (doing (puts_row t xs ∷ later) c) (reply.Count 1) ≡ true
unfolding doing allowed is_spelled fits_first fits_task puts_with
allows-count t xs later c = refl

-- what the connection does with it is what the world does, with each cell sealed
inserts : (s : Setting) (t : TableNo) (xs : List ℕ) (stores : List (Store Cell)) (c : Client) (h : Held) → MayInsert s t xs stores h → inserted t (map (sealed s.key) (cells_of_row s c xs)) h ≡ step_to (reply.Count 1) (holds (with_row s.key t (cells_of_row s c xs) (store_at stores t) h))
unfolding inserted with_row cells_of_row
inserts s t xs stores c h may =
    let store = store_at stores t in
    let bodies = map (sealed s.key) (cells_from s c.seals xs) in
    let places : places_of h.marks ≡ places_by value_of store.columns (cells_from s c.seals xs) = ap (λ (ms : List Mark). places_of ms) may.marks ∙ places-found s t c.seals 0 xs [] store.columns store refl refl may.wide (omega (arith, may.narrow)) in
    ap (λ (ps : List Place). step_to (reply.Count 1) (holds (after_statement t (with_op (op.Insert t ps bodies) t (insert_row h.base.same_time ps bodies) h)))) places

serve-insert : (s : Setting) (t : TableNo) (xs : List ℕ) (stores : List (Store Cell)) (c : Client) (h : Held) → MayInsert s t xs stores h → is_full h t ≡ false → serve (insert_request s t xs c) (holds h) ≡ step_to (reply.Count 1) (holds (with_row s.key t (cells_of_row s c xs) (store_at stores t) h))
unfolding serve served_unless reason_or insert_request effect
serve-insert s t xs stores c h may room =
    ap (λ (found : Option ℕ). served_unless found (insert_request s t xs c) h) (refusal-insert s t xs stores c h may ∙ ap (λ (b : Bool). reason_or b full None) room) ∙ inserts s t xs stores c h may

serve-full : (s : Setting) (t : TableNo) (xs : List ℕ) (stores : List (Store Cell)) (c : Client) (h : Held) → MayInsert s t xs stores h → is_full h t ≡ true → serve (insert_request s t xs c) (holds h) ≡ step_to (reply.No 0 t.0) idle
unfolding serve served_unless refused table_in reason_or insert_request
serve-full s t xs stores c h may none =
    ap (λ (found : Option ℕ). served_unless found (insert_request s t xs c) h) (refusal-insert s t xs stores c h may ∙ ap (λ (b : Bool). reason_or b full None) none)

pub meets_once : (s : Setting) (c client : Client) (k conn : Conn) (r : Request) (answer : Reply) → wants s c ≡ Some r → allowed c answer ≡ true → serve r k ≡ step_to answer conn → hears s c answer ≡ client → Meets s c k (exchanged r answer ∷ []) client conn
unfolding step_to exchanged
meets_once s c client k conn r answer wanted allows served heard =
    meets_one s c k (exchanged r answer) [] client conn wanted allows (ap (λ (st : Step). st.served) served)
    (subst (λ (d : Client). Meets s d (serve r k).conn [] client conn) (sym heard)
    (subst (λ (l : Conn). Meets s client l [] client conn) (sym (ap (λ (st : Step). st.conn) served)) (meets_nothing s client conn)))

-- ---- the tables afterwards

pub columns-in : (stores : List (Store Cell)) (t : TableNo) → t.0 < length stores → columns_in stores t.0 ≡ (store_at stores t).columns
unfolding columns_in store_at
columns-in stores t lt = get_or-map (λ (u : Store Cell). u.columns) stores t.0 (empty_store Cell 0) [] lt

pub rows-in : (stores : List (Store Cell)) (t : TableNo) → t.0 < length stores → rows_in stores t.0 ≡ (store_at stores t).rows
unfolding rows_in store_at
rows-in stores t lt = get_or-map (λ (u : Store Cell). u.rows) stores t.0 (empty_store Cell 0) [] lt

-- the row fits the world's table
pub insert-fits : (s : Setting) (t : TableNo) (xs : List ℕ) (stores : List (Store Cell)) (count : ℕ) (h : Held) → MayInsert s t xs stores h → length (store_at stores t).rows < h.base.limit → FitsInsert Cell h.base.limit t.0 (cells_from s count xs) stores
insert-fits s t xs stores count h may room = record {
  there = may.there;
  wide = length-cells s count xs ∙ may.wide ∙ sym (ap length (columns-in stores t may.there));
  room = subst (λ (rows : List (Row Cell)). length rows < h.base.limit) (sym (rows-in stores t may.there)) room;
}

stands-again : (s : Setting) (t : TableNo) (xs : List ℕ) (stores : List (Store Cell)) (c : Client) (h : Held) → MayInsert s t xs stores h → length (store_at stores t).rows < h.base.limit → Shows s.key (op_on h.base.same_time value_of (InsertCells t.0 (cells_of_row s c xs)) stores) (with_row s.key t (cells_of_row s c xs) (store_at stores t) h)
unfolding with_row after_statement with_op cells_of_row placed_ops placed_op map_rank_op rank_ops_on rank_op_on ops_on AllFit OpFits
stands-again s t xs stores c h may room =
    let cells = cells_from s c.seals xs in
    let store = store_at stores t in
    let fit : FitsInsert Cell h.base.limit t.0 cells stores = insert-fits s t xs stores c.seals h may room in
    let stand = (operations_stand (sealed s.key) value_of h.base.same_time h.base.limit (InsertCells t.0 cells ∷ []) stores stores h.shelves may.shows.stand may.shows.stand.sound (same-all stores) (fit, tt)).stand in
    record {
      stand = subst (λ (cs : List (Column Cell)). AllStand Body Cell (sealed s.key) value_of h.base.same_time h.base.limit (change_at (insert_row h.base.same_time (places_by value_of cs cells) (map (sealed s.key) cells)) h.shelves t.0) (op_on h.base.same_time value_of (InsertCells t.0 cells) stores)) (columns-in stores t may.there) stand;
      low = may.shows.low;
    }

pub insert_meets : InsertMeets
insert_meets s t xs later stores c h may room low = record {
  meets = meets_once s (doing (puts_row t xs ∷ later) c) (doing later (having_inserted xs c)) (holds h) (holds (with_row s.key t (cells_of_row s c xs) (store_at stores t) h)) (insert_request s t xs c) (reply.Count 1) (wants-insert s t xs later c) (allows-count t xs later c) (serve-insert s t xs stores c h may (has_room s t stores h may.shows room low)) (hears-count s t xs later c);
  shows = stands-again s t xs stores c h may room;
}

hears-full : (s : Setting) (t : TableNo) (xs : List ℕ) (later : List Task) (c : Client) → hears s (doing (puts_row t xs ∷ later) c) (reply.No 0 t.0) ≡ ending s (end.Full t) (sealing xs c)
unfolding doing hears heard_at heard_by put_by sealing ending
hears-full s t xs later c = refl

pub no_fault : (b : Bool) → not (b && false) ≡ true
no_fault true = refl
no_fault false = refl

allows-full : (t : TableNo) (xs : List ℕ) (later : List Task) (c : Client) → allowed (doing (puts_row t xs ∷ later) c) (reply.No 0 t.0) ≡ true
unfolding doing allowed is_spelled fits_first fits_task puts_with is_no
allows-full t xs later c = ap₂ (λ (a b : Bool). a && b) (eq-eqb t.0 t.0 refl) (no_fault (not (t.0 == 0)))

pub full_meets : FullMeets
full_meets s t xs later stores c h may none =
    meets_once s (doing (puts_row t xs ∷ later) c) (ending s (end.Full t) (sealing xs c)) (holds h) idle (insert_request s t xs c) (reply.No 0 t.0) (wants-insert s t xs later c) (allows-full t xs later c) (serve-full s t xs stores c h may (is_full-rows s t stores h may.shows none)) (hears-full s t xs later c)
