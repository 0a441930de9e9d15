-- A statement that asks, once the places of its constants are found: the checks, the exchange, and that the tables still stand for the world's.
use Rattle.std.proofs.Common.{◌≡◌, ℕ, ◌<◌, ◌≤◌, ◌^◌, Bool, true, false, not, ◌&&◌, ◌||◌, ◌==◌, cond, List, [], ◌∷◌, ◌++◌, map, filter, length, get_or, is_some, Option, Some, None, refl, ap, ap₂, ◌∙◌, sym, subst, arith}
use Rattle.std.proofs.lemmas.Bool.{eq-eqb, lt-leb, or_parts}
use Rattle.std.proofs.lemmas.List.{length-map, get_or-map}
use Rattle.std.specs.List.{All}
use Rattle.std.proofs.lemmas.List.Elements.{All-nil, All-cons, All-head, All-tail}
use Rattle.mope_base.specs.Lists.{Each}
use Rattle.mope_base.specs.declared.body.Body.{Body}
use Rattle.mope_base.specs.declared.numbers.TableNo.{TableNo}
use Rattle.mope_base.specs.declared.numbers.ColNo.{ColNo}
use Rattle.sql_text.specs.declared.Test.{Test}
use Rattle.tree_model.specs.Places.{holds as is_among, IsBelowAll, IsIncreasing}
use Rattle.table_model.specs.Stores.{Row, Store, Kept, Shelf, empty_store}
use Rattle.table_model.specs.Changes.{delete_rows}
use Rattle.table_model.specs.Soundness.{numbers_of, Sound}
use Rattle.table_model.specs.Operations.{DeleteRows, op_on, ops_on, rank_op_on, rank_ops_on, placed_op, placed_ops, map_rank_op}
use Rattle.table_model.specs.Fitting.{AllAmong, FitsDelete, AllFit, OpFits}
use Rattle.table_model.proofs.Ops.{same-all}
use Rattle.table_model.proofs.SealedTables.{operations_stand}
use Rattle.table_model.proofs.Deleted.{rising-front}
use Rattle.table_model.proofs.Rows.{held-cons}
use Rattle.versions.specs.declared.op.Op.TheVariants as op
use Rattle.value_cipher.specs.Cipher.{Cell, value_of, sealed}
use Rattle.walk_proto.specs.declared.messages.Reply.{Reply}
use Rattle.workload.specs.declared.script.Answer.{Answer}
use Rattle.workload.specs.declared.script.Ask.{Ask}
use Rattle.workload.specs.declared.script.Decl.{Decl}
use Rattle.workload.specs.declared.script.Verb.{Verb}
use Rattle.workload.specs.declared.script.Verb.TheVariants as verb
use Rattle.workload.specs.Selection.{passes, chosen, selected, answer_about}
use Rattle.workload.specs.Validity.{column_count, IsColumn, IsValidTest, IsOrderColumn, IsValidVerb}
use Rattle.proxy.specs.Allowed.{allowed, fits_first, fits_task, is_spelled, answers_with}
use Rattle.proxy.specs.Client.{Setting, Client, wants, first_request, request_for, hears, heard_at, heard_by, with_answer, answering, answer_in}
use Rattle.proxy.specs.Tasks.{Task, asks, verb_byte, target_byte, order_in, order_byte, order_column_byte, direction_byte, column_bytes, cond_bytes, asked_of}
use Rattle.sql_plan.specs.Plans.{HasOrder}
use Rattle.sql_plan.specs.Laws.{HasVerb, HasColumns}
use Rattle.server_conn.specs.Connections.{Mark, Walk, Held, holds}
use Rattle.server_conn.specs.Checks.{own, are_of, constants_of, lacks_column, lacks_one, alone_if, columns_named, refusal, checks, first_failing, reason_or, walk_open, unknown_table, unknown_column, wrong_places}
use Rattle.server_conn.specs.Serving.{serve, served_unless, effect, queried, rows_asked, verb_by, reply_about, changed_by, after_statement, without_numbers, with_op, step_to}
use Rattle.transaction_laws.specs.Meetings.{doing}
use Rattle.transaction_laws.specs.Constants.{store_at, Shows}
use Rattle.transaction_laws.specs.Queries.{AreDeclared, cell_at, rows_about, reply_with, query_request, having_asked, rows_out, ops_about, done_about, with_asked, MayAsk, QueryMeets}
use Rattle.transaction_laws.proofs.Shown.{shown-sound, shown-table, shown-columns}
use Rattle.transaction_laws.proofs.Inserting.{meets_once, rows-in}
use Rattle.transaction_laws.proofs.AskedPlans.{verb-sent, tests-placed}
use Rattle.transaction_laws.proofs.ReadingRows.{sealed_row, rows-asked}
use Rattle.transaction_laws.proofs.Replying.{reply-sealed, done-sealed, fewer-about, alone-about, IsNarrow, reply-allowed, Wide, wide-rows, All-about, GivesWithin, reply-opens}

-- ---- what is declared is there

pub declared-tables : (tables : List Decl) (stores : List (Store Cell)) → AreDeclared tables stores → length stores ≡ length tables
declared-tables tables stores declared = sym (length-map stores (λ (store : Store Cell). length store.columns)) ∙ ap length declared ∙ length-map tables (λ (d : Decl). length d.columns)

pub declared-columns : (tables : List Decl) (stores : List (Store Cell)) (t : TableNo) → AreDeclared tables stores → t.0 < length stores → column_count tables t ≡ length (store_at stores t).columns
unfolding column_count store_at
declared-columns tables stores t declared there =
    ap (λ (widths : List ℕ). get_or widths t.0 0) (sym declared) ∙ get_or-map (λ (store : Store Cell). length store.columns) stores t.0 (empty_store Cell 0) 0 there

-- ---- the columns that a statement names

module _ (tables : List Decl) (t : TableNo) (width : ℕ) (count : column_count tables t ≡ width) where
  within : (column : ColNo) → IsColumn tables t column → column.0 < width
  within column is = subst (λ (n : ℕ). column.0 < n) count is

  all-within : (columns : List ColNo) → Each (IsColumn tables t) columns → Each (λ (column : ColNo). column.0 < width) columns
  unfolding Each
  all-within [] each = tt
  all-within (column ∷ columns) each = (within column each.0, all-within columns each.1)

  tests-within : (tests : List (ColNo × Test)) → Each (IsValidTest tables t) tests → All (λ (condition : ColNo × Test). condition.0.0 < width) tests
  unfolding Each
  tests-within [] each = All-nil (λ (condition : ColNo × Test). condition.0.0 < width)
  tests-within (condition ∷ tests) each = All-cons (λ (x : ColNo × Test). x.0.0 < width) condition tests (within condition.0 each.0.0) (tests-within tests each.1)

  gives : (v : Verb) → IsValidVerb tables t v → GivesWithin width v
  unfolding GivesWithin
  gives (verb.Rows columns order limit) is = all-within columns is.2
  gives verb.Count is = tt
  gives (verb.Min column) is = within column is
  gives (verb.Max column) is = within column is
  gives verb.Delete is = tt

  narrow : (v : Verb) → IsValidVerb tables t v → IsNarrow v
  unfolding IsNarrow
  narrow (verb.Rows columns order limit) is = (is.0, is.1)
  narrow verb.Count is = tt
  narrow (verb.Min column) is = tt
  narrow (verb.Max column) is = tt
  narrow verb.Delete is = tt

module _ (tables : List Decl) (t : TableNo) (s : Shelf Body) (count : column_count tables t ≡ length s.columns) where
  has-order : (order : Option (ColNo × Bool)) → IsOrderColumn tables t order → HasOrder s order
  has-order None is = tt
  has-order (Some order) is = within tables t (length s.columns) count order.0 is

  has-verb : (v : Verb) → IsValidVerb tables t v → HasVerb s v
  has-verb (verb.Rows columns order limit) is = has-order order is.3
  has-verb verb.Count is = tt
  has-verb (verb.Min column) is = within tables t (length s.columns) count column is
  has-verb (verb.Max column) is = within tables t (length s.columns) count column is
  has-verb verb.Delete is = tt

-- ---- the checks

or-false : {a b : Bool} → a ≡ false → b ≡ false → a || b ≡ false
or-false {a} {b} first second = ap₂ (λ (x y : Bool). x || y) first second

module _ (h : Held) (t : TableNo) where
  abbrev In : ℕ → Type 0
  In column = column < length (own h t).columns

  has-one : (column : ℕ) → In column → lacks_column h t column ≡ false
  unfolding lacks_column
  has-one column lt = lt-leb (length (own h t).columns) column lt

  lacks-append : (xs ys : List ℕ) → lacks_one h t xs ≡ false → lacks_one h t ys ≡ false → lacks_one h t (xs ++ ys) ≡ false
  unfolding lacks_one
  lacks-append [] ys first second = second
  lacks-append (x ∷ xs) ys first second = or-false (or_parts (lacks_column h t x) (lacks_one h t xs) first).0 (lacks-append xs ys (or_parts (lacks_column h t x) (lacks_one h t xs) first).1 second)

  has-conds : (tests : List (ColNo × Test)) → All (λ (condition : ColNo × Test). In condition.0.0) tests → lacks_one h t (map (λ (cond : ℕ × ℕ). cond.0) (map cond_bytes tests)) ≡ false
  unfolding lacks_one cond_bytes
  has-conds [] there = refl
  has-conds (condition ∷ tests) there =
      or-false (has-one condition.0.0 (All-head (λ (x : ColNo × Test). In x.0.0) condition tests there)) (has-conds tests (All-tail (λ (x : ColNo × Test). In x.0.0) condition tests there))

  has-columns : (columns : List ColNo) → Each (λ (column : ColNo). In column.0) columns → lacks_one h t (map (λ (column : ColNo). column.0) columns) ≡ false
  unfolding lacks_one Each
  has-columns [] there = refl
  has-columns (column ∷ columns) there = or-false (has-one column.0 there.0) (has-columns columns there.1)

  has-alone : (column : ℕ) → In column → lacks_one h t (column ∷ []) ≡ false
  unfolding lacks_one
  has-alone column there = or-false (has-one column there) refl

  has-ordered : (column : ColNo) (down : Bool) → In column.0 → lacks_one h t (alone_if (not (direction_byte down == 0)) column.0) ≡ false
  unfolding alone_if direction_byte
  has-ordered column false there = has-alone column.0 there
  has-ordered column true there = has-alone column.0 there

  has-order_column : (order : Option (ColNo × Bool)) → HasOrder (own h t) order → lacks_one h t (alone_if (not (order_byte order == 0)) (order_column_byte order)) ≡ false
  unfolding alone_if order_byte order_column_byte lacks_one
  has-order_column None there = refl
  has-order_column (Some order) there = has-ordered order.0 order.1 there

  -- the target, the order's column and the columns that a verb gives
  has-target : (v : Verb) → HasVerb (own h t) v → lacks_one h t (alone_if ((verb_byte v == 2) || (verb_byte v == 3)) (target_byte v)) ≡ false
  unfolding verb_byte target_byte alone_if lacks_one
  has-target (verb.Rows columns order limit) there = refl
  has-target verb.Count there = refl
  has-target (verb.Min column) there = has-alone column.0 there
  has-target (verb.Max column) there = has-alone column.0 there
  has-target verb.Delete there = refl

  has-verb_order : (v : Verb) → HasVerb (own h t) v → lacks_one h t (alone_if (not (order_byte (order_in v) == 0)) (order_column_byte (order_in v))) ≡ false
  unfolding order_in order_byte order_column_byte alone_if lacks_one
  has-verb_order (verb.Rows columns order limit) there = has-order_column order there
  has-verb_order verb.Count there = refl
  has-verb_order (verb.Min column) there = refl
  has-verb_order (verb.Max column) there = refl
  has-verb_order verb.Delete there = refl

  has-given : (v : Verb) → GivesWithin (length (own h t).columns) v → lacks_one h t (column_bytes v) ≡ false
  unfolding column_bytes lacks_one GivesWithin
  has-given (verb.Rows columns order limit) gives = has-columns columns gives
  has-given verb.Count gives = refl
  has-given (verb.Min column) gives = refl
  has-given (verb.Max column) gives = refl
  has-given verb.Delete gives = refl

named : (ask : Ask) (h : Held) → HasColumns (own h ask.table) ask → GivesWithin (length (own h ask.table).columns) ask.verb → lacks_one h ask.table (columns_named (asked_of ask)) ≡ false
unfolding columns_named asked_of
named ask h has gives =
    let t = ask.table in
    let conds = map (λ (cond : ℕ × ℕ). cond.0) (map cond_bytes ask.tests) in
    let target = alone_if ((verb_byte ask.verb == 2) || (verb_byte ask.verb == 3)) (target_byte ask.verb) in
    let order = alone_if (not (order_byte (order_in ask.verb) == 0)) (order_column_byte (order_in ask.verb)) in
    let first = lacks-append h t conds target (has-conds h t ask.tests has.tests) (has-target h t ask.verb has.verb) in
    let second = lacks-append h t (conds ++ target) order first (has-verb_order h t ask.verb has.verb) in
    lacks-append h t ((conds ++ target) ++ order) (column_bytes ask.verb) second (has-given h t ask.verb gives)

checked : {w : Option Walk} {a b d : Bool} → w ≡ None → a ≡ false → b ≡ false → d ≡ true → reason_or (is_some w) walk_open (reason_or a unknown_table (reason_or b unknown_column (reason_or (not d) wrong_places None))) ≡ None
unfolding reason_or
checked {w} {a} {b} {d} closed table columns places =
    ap (λ (z : Option Walk). reason_or (is_some z) walk_open (reason_or a unknown_table (reason_or b unknown_column (reason_or (not d) wrong_places None)))) closed
    ∙ ap (λ (z : Bool). reason_or z unknown_table (reason_or b unknown_column (reason_or (not d) wrong_places None))) table
    ∙ ap (λ (z : Bool). reason_or z unknown_column (reason_or (not d) wrong_places None)) columns
    ∙ ap (λ (z : Bool). reason_or (not z) wrong_places None) places

-- what a valid statement has
record Fine (tables : List Decl) (ask : Ask) (stores : List (Store Cell)) (h : Held) : Type 0 where
  there : ask.table.0 < length stores
  has : HasColumns (own h ask.table) ask
  gives : GivesWithin (length (own h ask.table).columns) ask.verb
  gives_cells : GivesWithin (length (store_at stores ask.table).columns) ask.verb
  narrow : IsNarrow ask.verb

fine : (s : Setting) (tables : List Decl) (ask : Ask) (stores : List (Store Cell)) (h : Held) → MayAsk s tables ask stores h → Fine tables ask stores h
fine s tables ask stores h may =
    let t = ask.table in
    let there : t.0 < length stores = omega (arith, may.valid.0, declared-tables tables stores may.declared) in
    let count : column_count tables t ≡ length (store_at stores t).columns = declared-columns tables stores t may.declared there in
    let own_count : column_count tables t ≡ length (own h t).columns = count ∙ sym (shown-columns s.key stores h t may.shows) in
    record {
      there = there;
      has = record { tests = tests-within tables t (length (own h t).columns) own_count ask.tests may.valid.2; verb = has-verb tables t (own h t) own_count ask.verb may.valid.3 };
      gives = gives tables t (length (own h t).columns) own_count ask.verb may.valid.3;
      gives_cells = gives tables t (length (store_at stores t).columns) count ask.verb may.valid.3;
      narrow = narrow tables t (length (own h t).columns) own_count ask.verb may.valid.3;
    }

refusal-query : (s : Setting) (tables : List Decl) (ask : Ask) (stores : List (Store Cell)) (h : Held) → MayAsk s tables ask stores h → refusal (query_request ask) h ≡ None
unfolding refusal query_request checks first_failing asked_of
refusal-query s tables ask stores h may =
    let is = fine s tables ask stores h may in
    let store = store_at stores ask.table in
    let places : are_of ask.table.0 (constants_of (map cond_bytes ask.tests)) h.marks ≡ true =
    ap (λ (ms : List Mark). are_of ask.table.0 (constants_of (map cond_bytes ask.tests)) ms) may.marks ∙ tests-placed ask.table store ask.tests in
    checked may.closed (shown-table s.key stores h ask.table may.shows is.there) (named ask h is.has is.gives) places

-- ---- what both sides do

wants-query : (s : Setting) (ask : Ask) (later : List Task) (c : Client) → wants s (doing (asks ask ∷ later) c) ≡ Some (query_request ask)
unfolding doing wants first_request request_for query_request
wants-query s ask later c = refl

hears-reply : (s : Setting) (ask : Ask) (later : List Task) (c : Client) (r : Reply) (rows : List (Row Cell)) → answer_in s.key ask.verb r ≡ Some (answer_about cell_at ask.verb rows) → hears s (doing (asks ask ∷ later) c) r ≡ doing later (having_asked ask.verb rows c)
unfolding doing hears heard_at heard_by with_answer answering having_asked
hears-reply s ask later c r rows opens = ap (λ (found : Option Answer). with_answer found later (record c { tasks = asks ask ∷ later; looking = None })) opens

allows-reply : (ask : Ask) (later : List Task) (c : Client) (r : Reply) → answers_with ask.verb r && is_spelled r ≡ true → allowed (doing (asks ask ∷ later) c) r ≡ true
unfolding doing allowed fits_first fits_task
allows-reply ask later c r fits = fits

query-effect : (ask : Ask) (h : Held) → effect (query_request ask) h ≡ step_to (reply_about (verb_by (asked_of ask).verb (asked_of ask)) (rows_asked (asked_of ask) h)) (holds (after_statement ask.table (changed_by (verb_by (asked_of ask).verb (asked_of ask)) ask.table (rows_asked (asked_of ask) h) h)))
unfolding effect query_request queried asked_of
query-effect ask h = refl

serve-query : (s : Setting) (tables : List Decl) (ask : Ask) (stores : List (Store Cell)) (h : Held) → MayAsk s tables ask stores h
    → (let rows = rows_about ask (store_at stores ask.table) in serve (query_request ask) (holds h) ≡ step_to (reply_with s.key ask.verb rows) (holds (with_asked ask rows h)))
unfolding serve served_unless with_asked
serve-query s tables ask stores h may =
    let is = fine s tables ask stores h may in
    let store = store_at stores ask.table in
    let rows = rows_about ask store in
    let sealed_rows = map (sealed_row s.key store) rows in
    let found : rows_asked (asked_of ask) h ≡ sealed_rows = rows-asked s.key stores ask h may.shows is.there is.has may.marks in
    ap (λ (reason : Option ℕ). served_unless reason (query_request ask) h) (refusal-query s tables ask stores h may)
    ∙ query-effect ask h
    ∙ ap₂ (λ (v : Verb) (kept : List (Kept Body)). step_to (reply_about v kept) (holds (after_statement ask.table (changed_by v ask.table kept h)))) (verb-sent ask) found
    ∙ ap₂ (λ (r : Reply) (after : Held). step_to r (holds (after_statement ask.table after))) (reply-sealed s.key store ask.verb rows) (done-sealed s.key store ask.verb ask.table rows h)

-- ---- the tables afterwards

above-kept : (x : ℕ) (b : Bool) (row : Row Cell) (rows : List (Row Cell)) → x < row.number → IsBelowAll x (numbers_of rows) → IsBelowAll x (numbers_of (cond b (row ∷ rows) rows))
unfolding IsBelowAll numbers_of
above-kept x true row rows lt up = (lt, up)
above-kept x false row rows lt up = up

all-above : (x : ℕ) (p : Row Cell → Bool) (rows : List (Row Cell)) → IsBelowAll x (numbers_of rows) → IsBelowAll x (numbers_of (filter p rows))
unfolding IsBelowAll numbers_of
all-above x p [] up = tt
all-above x p (row ∷ rows) up = above-kept x (p row) row (filter p rows) up.0 (all-above x p rows up.1)

rise-kept : (b : Bool) (row : Row Cell) (rows : List (Row Cell)) → IsBelowAll row.number (numbers_of rows) → IsIncreasing (numbers_of rows) → IsIncreasing (numbers_of (cond b (row ∷ rows) rows))
unfolding IsIncreasing numbers_of
rise-kept true row rows above up = (above, up)
rise-kept false row rows above up = up

rise-filter : (p : Row Cell → Bool) (rows : List (Row Cell)) → IsIncreasing (numbers_of rows) → IsIncreasing (numbers_of (filter p rows))
unfolding IsIncreasing numbers_of
rise-filter p [] up = tt
rise-filter p (row ∷ rows) up = rise-kept (p row) row (filter p rows) (all-above row.number p rows up.0) (rise-filter p rows up.1)

among-kept : (numbers : List ℕ) (b : Bool) (row : Row Cell) (rows : List (Row Cell)) → is_among row.number numbers ≡ true → AllAmong numbers (numbers_of rows) → AllAmong numbers (numbers_of (cond b (row ∷ rows) rows))
unfolding AllAmong numbers_of
among-kept numbers true row rows here all = (here, all)
among-kept numbers false row rows here all = all

among-filter : (numbers : List ℕ) (p : Row Cell → Bool) (rows : List (Row Cell)) → AllAmong numbers (numbers_of rows) → AllAmong numbers (numbers_of (filter p rows))
unfolding AllAmong numbers_of
among-filter numbers p [] all = tt
among-filter numbers p (row ∷ rows) all = among-kept numbers (p row) row (filter p rows) all.0 (among-filter numbers p rows all.1)

among-more : (y : ℕ) (numbers xs : List ℕ) → AllAmong numbers xs → AllAmong (y ∷ numbers) xs
unfolding AllAmong
among-more y numbers [] all = tt
among-more y numbers (x ∷ xs) all = (held-cons x y numbers all.0, among-more y numbers xs all.1)

held-first : (x : ℕ) (xs : List ℕ) → is_among x (x ∷ xs) ≡ true
unfolding is_among
held-first x xs = ap (λ (b : Bool). b || is_among x xs) (eq-eqb x x refl)

among-all : (xs : List ℕ) → AllAmong xs xs
unfolding AllAmong
among-all [] = tt
among-all (x ∷ xs) = (held-first x xs, among-more x xs xs (among-all xs))

-- the numbers of a DELETE increase and are those of rows
unfoldable pub OutFor : Verb → List ℕ → List ℕ → Type 0
OutFor (verb.Rows columns order limit) all numbers = Unit {0}
OutFor verb.Count all numbers = Unit {0}
OutFor (verb.Min column) all numbers = Unit {0}
OutFor (verb.Max column) all numbers = Unit {0}
OutFor verb.Delete all numbers = IsIncreasing numbers × AllAmong all numbers

out-chosen : (v : Verb) (p : Row Cell → Bool) (rows : List (Row Cell)) → IsIncreasing (numbers_of rows) → OutFor v (numbers_of rows) (numbers_of (chosen cell_at v (filter p rows)))
unfolding OutFor chosen
out-chosen (verb.Rows columns order limit) p rows up = tt
out-chosen verb.Count p rows up = tt
out-chosen (verb.Min column) p rows up = tt
out-chosen (verb.Max column) p rows up = tt
out-chosen verb.Delete p rows up = (rise-filter p rows up, among-filter (numbers_of rows) p rows (among-all (numbers_of rows)))

out-about : (ask : Ask) (store : Store Cell) → IsIncreasing (numbers_of store.rows) → OutFor ask.verb (numbers_of store.rows) (numbers_of (rows_about ask store))
unfolding rows_about selected
out-about ask store up = out-chosen ask.verb (passes cell_at ask.tests) store.rows up

shows-same : (s : Setting) (t : TableNo) (stores : List (Store Cell)) (h : Held) → Shows s.key stores h → Shows s.key stores (after_statement t h)
unfolding after_statement
shows-same s t stores h shows = record { stand = shows.stand; low = shows.low }

deleted-fits : (t : TableNo) (number : ℕ) (numbers : List ℕ) (stores : List (Store Cell)) → t.0 < length stores → IsIncreasing (number ∷ numbers) → AllAmong (numbers_of (store_at stores t).rows) (number ∷ numbers) → FitsDelete Cell t.0 (number ∷ numbers) stores
deleted-fits t number numbers stores there up live = record {
  there = there;
  some = omega arith;
  rise = up;
  live = subst (λ (rows : List (Row Cell)). AllAmong (numbers_of rows) (number ∷ numbers)) (sym (rows-in stores t there)) live;
}

out-fits : (same_time : Bool) (limit : ℕ) (t : TableNo) (numbers : List ℕ) (stores : List (Store Cell)) → t.0 < length stores → IsIncreasing numbers → AllAmong (numbers_of (store_at stores t).rows) numbers → AllFit same_time value_of limit (rows_out t numbers) stores
unfolding rows_out AllFit OpFits
out-fits same_time limit t [] stores there up live = tt
out-fits same_time limit t (number ∷ numbers) stores there up live = (deleted-fits t number numbers stores there up live, tt)

fits-about : (same_time : Bool) (limit : ℕ) (t : TableNo) (v : Verb) (numbers : List ℕ) (stores : List (Store Cell)) → t.0 < length stores → OutFor v (numbers_of (store_at stores t).rows) numbers → AllFit same_time value_of limit (ops_about v t numbers) stores
unfolding OutFor ops_about AllFit
fits-about same_time limit t (verb.Rows columns order limited) numbers stores there out = tt
fits-about same_time limit t verb.Count numbers stores there out = tt
fits-about same_time limit t (verb.Min column) numbers stores there out = tt
fits-about same_time limit t (verb.Max column) numbers stores there out = tt
fits-about same_time limit t verb.Delete numbers stores there out = out-fits same_time limit t numbers stores there out.0 out.1

-- what a statement does to the world's tables fits them
pub asked-fits : (same_time : Bool) (limit : ℕ) (ask : Ask) (stores : List (Store Cell)) → Sound Cell value_of same_time limit (store_at stores ask.table) → ask.table.0 < length stores
    → AllFit same_time value_of limit (ops_about ask.verb ask.table (numbers_of (rows_about ask (store_at stores ask.table)))) stores
asked-fits same_time limit ask stores sound there =
    let store = store_at stores ask.table in
    fits-about same_time limit ask.table ask.verb (numbers_of (rows_about ask store)) stores there (out-about ask store (rising-front (numbers_of store.rows) (store.next ∷ []) sound.numbered))

shows-deleted : (s : Setting) (t : TableNo) (number : ℕ) (numbers : List ℕ) (stores : List (Store Cell)) (h : Held) → Shows s.key stores h → t.0 < length stores → IsIncreasing (number ∷ numbers) → AllAmong (numbers_of (store_at stores t).rows) (number ∷ numbers)
    → Shows s.key (op_on h.base.same_time value_of (DeleteRows t.0 (number ∷ numbers)) stores) (after_statement t (with_op (op.Delete t (number ∷ numbers)) t (delete_rows h.base.same_time (number ∷ numbers)) h))
unfolding after_statement with_op placed_ops placed_op map_rank_op rank_ops_on rank_op_on ops_on AllFit OpFits
shows-deleted s t number numbers stores h shows there up live =
    let fit : FitsDelete Cell t.0 (number ∷ numbers) stores = deleted-fits t number numbers stores there up live in
    record {
      stand = (operations_stand (sealed s.key) value_of h.base.same_time h.base.limit (DeleteRows t.0 (number ∷ numbers) ∷ []) stores stores h.shelves shows.stand shows.stand.sound (same-all stores) (fit, tt)).stand;
      low = shows.low;
    }

shows-out : (s : Setting) (t : TableNo) (numbers : List ℕ) (stores : List (Store Cell)) (h : Held) → Shows s.key stores h → t.0 < length stores → IsIncreasing numbers → AllAmong (numbers_of (store_at stores t).rows) numbers
    → Shows s.key (ops_on h.base.same_time value_of (rows_out t numbers) stores) (after_statement t (without_numbers t numbers h))
unfolding rows_out without_numbers ops_on
shows-out s t [] stores h shows there up live = shows-same s t stores h shows
shows-out s t (number ∷ numbers) stores h shows there up live = shows-deleted s t number numbers stores h shows there up live

shows-about : (s : Setting) (t : TableNo) (v : Verb) (numbers : List ℕ) (stores : List (Store Cell)) (h : Held) → Shows s.key stores h → t.0 < length stores → OutFor v (numbers_of (store_at stores t).rows) numbers
    → Shows s.key (ops_on h.base.same_time value_of (ops_about v t numbers) stores) (after_statement t (done_about v t numbers h))
unfolding OutFor ops_about done_about ops_on
shows-about s t (verb.Rows columns order limit) numbers stores h shows there out = shows-same s t stores h shows
shows-about s t verb.Count numbers stores h shows there out = shows-same s t stores h shows
shows-about s t (verb.Min column) numbers stores h shows there out = shows-same s t stores h shows
shows-about s t (verb.Max column) numbers stores h shows there out = shows-same s t stores h shows
shows-about s t verb.Delete numbers stores h shows there out = shows-out s t numbers stores h shows there out.0 out.1

shows-asked : (s : Setting) (tables : List Decl) (ask : Ask) (stores : List (Store Cell)) (h : Held) → MayAsk s tables ask stores h
    → (let rows = rows_about ask (store_at stores ask.table) in Shows s.key (ops_on h.base.same_time value_of (ops_about ask.verb ask.table (numbers_of rows)) stores) (with_asked ask rows h))
unfolding with_asked
shows-asked s tables ask stores h may =
    let is = fine s tables ask stores h may in
    let store = store_at stores ask.table in
    let sound = shown-sound s.key stores h ask.table may.shows is.there in
    shows-about s ask.table ask.verb (numbers_of (rows_about ask store)) stores h may.shows is.there (out-about ask store (rising-front (numbers_of store.rows) (store.next ∷ []) sound.numbered))

pub query_meets : QueryMeets
query_meets s tables ask later stores c h may =
    let is = fine s tables ask stores h may in
    let store = store_at stores ask.table in
    let rows = rows_about ask store in
    let sound = shown-sound s.key stores h ask.table may.shows is.there in
    let low : length rows ≤ 2 ^ 20 = omega (arith, fewer-about ask store, sound.few, may.few) in
    let wide = All-about (Wide (length store.columns)) ask store (wide-rows (length store.columns) store.rows sound.wide) in
    let r : Reply = reply_with s.key ask.verb rows in
    record {
      meets = meets_once s (doing (asks ask ∷ later) c) (doing later (having_asked ask.verb rows c)) (holds h) (holds (with_asked ask rows h)) (query_request ask) r (wants-query s ask later c)
          (allows-reply ask later c r (reply-allowed s.key ask.verb rows is.narrow (alone-about ask store) low)) (serve-query s tables ask stores h may) (hears-reply s ask later c r rows (reply-opens s.key (length store.columns) ask.verb rows is.gives_cells wide));
      shows = shows-asked s tables ask stores h may;
    }
