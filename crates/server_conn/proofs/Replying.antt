-- A selection that no check refuses: its query fits its table, and what is found by it is what the reply tells.
use Rattle.std.proofs.Common.{◌≡◌, ℕ, zero, suc, ◌+◌, ◌<◌, ◌≤◌, ◌==◌, ◌&&◌, ◌||◌, Bool, true, false, not, nat_lt, leb, IsTrue, is_some, List, [], ◌∷◌, ◌++◌, length, get_or, slice_get, map, filter, take, flat_map, Option, Some, None, refl, ap, ap₂, sym, subst, ◌∙◌, arith}
use Rattle.std.specs.List.{All}
use Rattle.std.proofs.Math.Dec.{eqb-suc-zero}
use Rattle.std.proofs.lemmas.Bool.{and_parts, leb-false, ltb-false, eqb-true}
use Rattle.std.proofs.lemmas.Bool.Decides.{nat_tests}
use Rattle.std.proofs.lemmas.List.{length-map}
use Rattle.std.proofs.lemmas.List.Elements.{All-nil, All-cons, All-head, All-tail}
use Rattle.mope_base.specs.declared.body.Body.{Body}
use Rattle.mope_base.specs.declared.numbers.ColNo.{ColNo}
use Rattle.mope_base.specs.declared.numbers.TableNo.{TableNo}
use Rattle.mope_base.specs.Lists.{Each}
use Rattle.sql_text.specs.declared.Test.{Test}
use Rattle.tree_model.specs.Places.{IsIncreasing}
use Rattle.tree_model.specs.Trees.{size, IsPlaceOf}
use Rattle.table_model.specs.Stores.{Kept, Shelf}
use Rattle.table_model.specs.Operations.{shelf_at}
use Rattle.table_model.specs.Soundness.{kept_numbers, column_at}
use Rattle.table_model.specs.Fitting.{AllAmong}
use Rattle.enc_table.specs.Seen.{Seen as Table, IsTable}
use Rattle.sql_plan.specs.declared.bounds.Bound.{Bound}
use Rattle.sql_plan.specs.declared.bounds.Query.{Query}
use Rattle.sql_plan.specs.Plans.{by_code, passing, rows_found, extreme_verb, HasBounds, HasOrder}
use Rattle.sql_plan.proofs.RowCodes.{Facts, facts-of}
use Rattle.sql_plan.proofs.TestBounds.{Coded, bounded, bounds_select}
use Rattle.workload.specs.declared.script.Verb.{Verb}
use Rattle.workload.specs.declared.script.Verb.TheVariants as verb
use Rattle.workload.specs.Selection.{passes, in_order, first_of, chosen, selected}
use Rattle.walk_proto.specs.declared.messages.Asked.{Asked}
use Rattle.walk_proto.specs.declared.messages.Reply.{Reply}
use Rattle.walk_proto.specs.declared.messages.Reply.TheVariants as reply
use Rattle.walk_proto.specs.declared.messages.Request.TheVariants as request
use Rattle.walk_proto.specs.Rules.{IsRequest, is_asked, are_ops, is_wrong_order, is_wrong_limited}
use Rattle.walk_proto.specs.Spelling.{flag}
use Rattle.walk_proto.proofs.AskedParts.{asked_parts, asked_fits, not_wrong}
use Rattle.server_conn.specs.declared.txn.Txn.{Txn}
use Rattle.server_conn.specs.declared.txn.Mark.{Mark as Placed}
use Rattle.server_conn.specs.Connections.{Held, Mark}
use Rattle.server_conn.specs.Checks.{own, lacks_column, lacks_one, are_of, constants_of, alone_if, columns_named, reason_or, first_failing, checks, refusal}
use Rattle.server_conn.specs.Inside.{shelves_in, tree_in, held_in, mark_of, IsMarkIn, IsTxn, IsTableOf}
use Rattle.server_conn.specs.Serving.{code_at_mark, tests_of, order_by, verb_by, ask_by, rows_asked, bodies_in, reply_about}
use Rattle.server_conn.specs.Asking.{codes_in, bounds_by, query_by, bodies_by, extreme_numbers, IsMarkOn, IsKnown, FitsTable}
use Rattle.server_conn.proofs.Judging.{not-lacking}
use Rattle.server_conn.proofs.Passing.{passed, true-is}
use Rattle.server_conn.proofs.Effects.{closed-txn}
use Rattle.server_conn.proofs.Coding.{HasColumn, IsCode, codes-fit, tests-coded, bounds-there}
use Rattle.server_conn.proofs.Chosen.{IsRowOf, all-chosen, passing-rows, bodies-given, columns_of, passing-rise, passing-among}

-- ---- the rules of a selection

known-ops : (conds : List (ℕ × ℕ)) → are_ops conds ≡ true → Each IsKnown conds
unfolding are_ops Each
known-ops [] are = tt
known-ops (cond ∷ conds) are = let both = and_parts _ _ are in (ltb-false 5 cond.1 (not_wrong _ both.0), known-ops conds both.1)

unordered : (v order : ℕ) → v ≡ 4 → is_wrong_order v order ≡ false → order ≡ 0
unordered v order four fine = grind (arith, nat_tests)

unlimited : (v : ℕ) (limit : Option ℕ) → v ≡ 4 → is_wrong_limited v (flag (is_some limit)) ≡ false → limit ≡ None
unlimited v None four fine = refl
unlimited v (Some n) four fine = absurd (grind (arith, nat_tests))

pub record IsSound (a : Asked) : Type 0 where
  pub known : Each IsKnown a.conds
  pub low : a.verb ≤ 4
  pub narrow : length a.columns ≤ 8
  pub unordered : a.verb ≡ 4 → a.order ≡ 0
  pub unlimited : a.verb ≡ 4 → a.limit ≡ None

pub is-sound : (a : Asked) → IsRequest (request.Query a) → IsSound a
is-sound a rules =
    let parts = asked_parts a rules in
    record {
      known = known-ops a.conds parts.ops;
      low = ltb-false 4 a.verb parts.verb;
      narrow = (asked_fits a rules).0;
      unordered = λ four. unordered a.verb a.order four parts.order;
      unlimited = λ four. unlimited a.verb a.limit four parts.limited;
    }

-- ---- the columns that it names

either-false : (a b : Bool) → (a || b) ≡ false → (a ≡ false) × (b ≡ false)
either-false true b e = cc
either-false false b e = (refl, e)

all-left : {A : Type 0} (P : A → Type 0) (xs ys : List A) → All P (xs ++ ys) → All P xs
all-left P [] ys all = All-nil P
all-left P (x ∷ xs) ys all = All-cons P x xs (All-head P x (xs ++ ys) all) (all-left P xs ys (All-tail P x (xs ++ ys) all))

all-right : {A : Type 0} (P : A → Type 0) (xs ys : List A) → All P (xs ++ ys) → All P ys
all-right P [] ys all = all
all-right P (x ∷ xs) ys all = all-right P xs ys (All-tail P x (xs ++ ys) all)

abbrev pub IsColumn : Shelf Body → ℕ → Type 0
IsColumn s column = column < length s.columns

none-lacks : (h : Held) (t : TableNo) (columns : List ℕ) → lacks_one h t columns ≡ false → All (IsColumn (own h t)) columns
unfolding lacks_one lacks_column
none-lacks h t [] lacks = All-nil (IsColumn (own h t))
none-lacks h t (column ∷ columns) lacks =
    let both = either-false _ _ lacks in
    All-cons (IsColumn (own h t)) column columns (leb-false _ column both.0) (none-lacks h t columns both.1)

conds-there : (s : Shelf Body) (conds : List (ℕ × ℕ)) → All (IsColumn s) (map (λ (cond : ℕ × ℕ). cond.0) conds) → All (HasColumn s) conds
conds-there s [] all = All-nil (HasColumn s)
conds-there s (cond ∷ conds) all =
    All-cons (HasColumn s) cond conds (All-head (IsColumn s) cond.0 (map (λ (c : ℕ × ℕ). c.0) conds) all) (conds-there s conds (All-tail (IsColumn s) cond.0 (map (λ (c : ℕ × ℕ). c.0) conds) all))

alone-there : (s : Shelf Body) (named : Bool) (column : ℕ) → All (IsColumn s) (alone_if named column) → named ≡ true → IsColumn s column
unfolding alone_if
alone-there s true column all is = All-head (IsColumn s) column [] all
alone-there s false column all is = cc

has-order : (s : Shelf Body) (order column : ℕ) → (not (order == 0) ≡ true → IsColumn s column) → HasOrder s (order_by order column)
unfolding order_by
has-order s zero column there = tt
has-order s (suc zero) column there = there refl
has-order s (suc (suc order)) column there = there (ap not (eqb-suc-zero (suc order)))

-- ---- its places

marks-on : (shelves : List (Shelf Body)) (table : ℕ) (columns : List ℕ) (marks : List Placed) → are_of table columns (map mark_of marks) ≡ true → Each (IsMarkIn shelves) marks → (length marks ≡ length columns) × Each (IsMarkOn (shelf_at shelves table)) marks
unfolding are_of Each mark_of tree_in
marks-on shelves table [] [] are each = (refl, tt)
marks-on shelves table [] (m ∷ marks) are each = cc
marks-on shelves table (column ∷ columns) [] are each = cc
marks-on shelves table (column ∷ columns) (m ∷ marks) are each =
    let both = and_parts ((m.table.0 == table) && (m.column.0 == column)) (are_of table columns (map mark_of marks)) are in
    let ends = and_parts (m.table.0 == table) (m.column.0 == column) both.0 in
    let at_table : m.table.0 ≡ table = eqb-true m.table.0 table ends.0 in
    let rest = marks-on shelves table columns marks both.1 each.1 in (
      ap suc rest.0,
      (
        record {
          column_there = subst (λ (n : ℕ). m.column.0 < length (shelf_at shelves n).columns) at_table each.0.column_there;
          is_place = subst (λ (n : ℕ). IsPlaceOf (size (column_at (shelf_at shelves n).columns m.column.0).tree) m.place) at_table each.0.is_place;
        },
        rest.1,
      ),
    )

-- ---- what the checks say

pub record MayQuery (t : Txn) (a : Asked) : Type 0 where
  pub closed : t.walk ≡ None
  pub there : a.table.0 < length (shelves_in t)
  pub fits : FitsTable (shelf_at (shelves_in t) a.table.0) t.marks.items a.conds
  pub conds : All (HasColumn (shelf_at (shelves_in t) a.table.0)) a.conds
  pub target : ((a.verb == 2) || (a.verb == 3)) ≡ true → a.target < length (shelf_at (shelves_in t) a.table.0).columns
  pub order : HasOrder (shelf_at (shelves_in t) a.table.0) (order_by a.order a.order_column)
  pub columns : All (λ (column : ℕ). column < length (shelf_at (shelves_in t) a.table.0).columns) a.columns

pub may-query : (t : Txn) (a : Asked) → IsTxn t → IsRequest (request.Query a) → refusal (request.Query a) (held_in t) ≡ None → MayQuery t a
unfolding refusal checks first_failing own held_in columns_named
may-query t a txn rules is =
    let s = shelf_at (shelves_in t) a.table.0 in
    let walk = passed _ _ _ is in
    let there = passed _ _ _ walk.1 in
    let named = passed _ _ _ there.1 in
    let places = passed _ _ _ named.1 in
    let on = marks-on (shelves_in t) a.table.0 (constants_of a.conds) t.marks.items (true-is _ places.0) txn.marks in
    let all : All (IsColumn s) (map (λ (cond : ℕ × ℕ). cond.0) a.conds ++ alone_if ((a.verb == 2) || (a.verb == 3)) a.target ++ alone_if (not (a.order == 0)) a.order_column ++ a.columns) = none-lacks (held_in t) a.table _ named.0 in
    let three = all-left (IsColumn s) _ a.columns all in
    let two = all-left (IsColumn s) _ (alone_if (not (a.order == 0)) a.order_column) three in
    record {
      closed = closed-txn t walk.0;
      there = not-lacking t a.table there.0;
      fits = record { known = (is-sound a rules).known; many = on.0; on = on.1 };
      conds = conds-there s a.conds (all-left (IsColumn s) _ (alone_if ((a.verb == 2) || (a.verb == 3)) a.target) two);
      target = alone-there s ((a.verb == 2) || (a.verb == 3)) a.target (all-right (IsColumn s) (map (λ (cond : ℕ × ℕ). cond.0) a.conds) _ two);
      order = has-order s a.order a.order_column (alone-there s (not (a.order == 0)) a.order_column (all-right (IsColumn s) _ (alone_if (not (a.order == 0)) a.order_column) three));
      columns = all-right (IsColumn s) _ a.columns all;
    }

-- ---- its query on its table

pub record IsQueryOn (t : Txn) (a : Asked) (s : Shelf Body) (q : Query) : Type 0 where
  pub facts : Facts s
  pub query_is : q ≡ query_by a (codes_in s t.marks.items)
  pub bounds : HasBounds s q.bounds
  pub order : HasOrder s q.order
  pub columns : All (λ (column : ℕ). column < length s.columns) a.columns
  pub target : ((a.verb == 2) || (a.verb == 3)) ≡ true → a.target < length s.columns
  pub rows : rows_asked a (held_in t) ≡ chosen (by_code s) (verb_by a.verb a) (passing s q.bounds)

rows-are : (t : Txn) (a : Asked) (s : Shelf Body) (q : Query) (table : Table) → table.shelf ≡ s → shelf_at (shelves_in t) a.table.0 ≡ s → IsTable table → All (Coded s) (tests_of a.conds (codes_in s t.marks.items)) → q ≡ query_by a (codes_in s t.marks.items)
    → rows_asked a (held_in t) ≡ chosen (by_code s) (verb_by a.verb a) (passing s q.bounds)
unfolding rows_asked ask_by selected own held_in codes_in query_by bounds_by
rows-are t a s q table same at sound coded is =
    let tests = tests_of a.conds (codes_in s t.marks.items) in
    let v = verb_by a.verb a in
    ap (λ (u : Shelf Body). chosen (by_code u) v (filter (passes (by_code u) (tests_of a.conds (map (code_at_mark u) (map mark_of t.marks.items)))) u.kept)) at
    ∙ ap (chosen (by_code s) v) (subst (λ (u : Shelf Body). All (Coded u) tests → filter (passes (by_code u) tests) u.kept ≡ passing u (map bounded tests)) same (λ c. sym (bounds_select table tests sound c)) coded)
    ∙ sym (ap (λ (r : Query). chosen (by_code s) v (passing s r.bounds)) is)

query-at : (t : Txn) (a : Asked) (s : Shelf Body) (q : Query) (table : Table) → MayQuery t a → table.shelf ≡ s → shelf_at (shelves_in t) a.table.0 ≡ s → IsTable table → q ≡ query_by a (codes_in s t.marks.items) → IsQueryOn t a s q
unfolding query_by
query-at t a s q table may same at sound is =
    let facts : Facts s = subst Facts same (facts-of table sound) in
    let on = subst (λ (u : Shelf Body). Each (IsMarkOn u) t.marks.items) at may.fits.on in
    let conds = subst (λ (u : Shelf Body). All (HasColumn u) a.conds) at may.conds in
    let coded = tests-coded s a.conds (codes_in s t.marks.items) conds (codes-fit s t.marks.items facts on) in
    record {
      facts = facts;
      query_is = is;
      bounds = subst (λ (r : Query). HasBounds s r.bounds) (sym is) (bounds-there s (tests_of a.conds (codes_in s t.marks.items)) coded);
      order = subst (λ (r : Query). HasOrder s r.order) (sym is) (subst (λ (u : Shelf Body). HasOrder u (order_by a.order a.order_column)) at may.order);
      columns = subst (λ (u : Shelf Body). All (λ (column : ℕ). column < length u.columns) a.columns) at may.columns;
      target = λ some. subst (λ (u : Shelf Body). a.target < length u.columns) at (may.target some);
      rows = rows-are t a s q table same at sound coded is;
    }

pub query-on : (t : Txn) (a : Asked) (table : Table) (q : Query) → IsTxn t → IsRequest (request.Query a) → refusal (request.Query a) (held_in t) ≡ None → IsTableOf (held_in t) a.table.0 table → q ≡ query_by a (codes_in (shelf_at (held_in t).shelves a.table.0) t.marks.items) → IsQueryOn t a table.shelf q
unfolding held_in
query-on t a table q txn rules checked of is =
    query-at t a table.shelf q table (may-query t a txn rules checked) refl (sym of.shelf_is) of.is_table (is ∙ ap (λ (u : Shelf Body). query_by a (codes_in u t.marks.items)) (sym of.shelf_is))

-- ---- what it gives

pub reply-rows : (t : Txn) (a : Asked) (s : Shelf Body) (q : Query) → IsQueryOn t a s q → a.verb ≡ 0 → reply.Rows (length a.columns) (flat_map (bodies_by s a.columns) (rows_found s q)) ≡ reply_about (verb_by a.verb a) (rows_asked a (held_in t))
unfolding rows_found reply_about verb_by chosen query_by
reply-rows t a s q on none =
    let found = chosen (by_code s) (verb.Rows [] q.order q.limit) (passing s q.bounds) in
    let columns = columns_of a.columns in
    ap (reply.Rows (length a.columns)) (bodies-given s a.columns found (all-chosen (IsRowOf s) (by_code s) (verb.Rows [] q.order q.limit) (passing s q.bounds) (passing-rows s q.bounds on.facts)))
    ∙ ap (λ (n : ℕ). reply.Rows n (flat_map (bodies_in columns) found)) (sym (length-map a.columns (λ (column : ℕ). let c : ColNo = record { 0 = column } in c)))
    ∙ ap (λ (r : Query). reply.Rows (length columns) (flat_map (bodies_in columns) (chosen (by_code s) (verb.Rows [] r.order r.limit) (passing s q.bounds)))) on.query_is
    ∙ sym (ap (λ (n : ℕ). reply_about (verb_by n a) (chosen (by_code s) (verb_by n a) (passing s q.bounds))) none)
    ∙ ap (reply_about (verb_by a.verb a)) (sym on.rows)

pub reply-count : (t : Txn) (a : Asked) (s : Shelf Body) (q : Query) → IsQueryOn t a s q → a.verb ≡ 1 → reply.Count (length (passing s q.bounds)) ≡ reply_about (verb_by a.verb a) (rows_asked a (held_in t))
unfolding reply_about verb_by chosen
reply-count t a s q on one =
    sym (ap (λ (n : ℕ). reply_about (verb_by n a) (chosen (by_code s) (verb_by n a) (passing s q.bounds))) one)
    ∙ ap (reply_about (verb_by a.verb a)) (sym on.rows)

extreme-by : (n : ℕ) (a : Asked) (s : Shelf Body) (bounds : List Bound) → Facts s → (n ≡ 0 → ⊥) → (n ≡ 1 → ⊥) → n < 4
    → reply.Rows 1 (flat_map (bodies_by s (a.target ∷ [])) (extreme_numbers s bounds a.target (n == 3))) ≡ reply_about (verb_by n a) (chosen (by_code s) (verb_by n a) (passing s bounds))
unfolding extreme_numbers extreme_verb reply_about verb_by
extreme-by zero a s bounds facts some other low = absurd (some refl)
extreme-by (suc zero) a s bounds facts some other low = absurd (other refl)
extreme-by (suc (suc zero)) a s bounds facts some other low =
    let v = verb.Min (record { 0 = a.target }) in
    ap (reply.Rows 1) (bodies-given s (a.target ∷ []) (chosen (by_code s) v (passing s bounds)) (all-chosen (IsRowOf s) (by_code s) v (passing s bounds) (passing-rows s bounds facts)))
extreme-by (suc (suc (suc zero))) a s bounds facts some other low =
    let v = verb.Max (record { 0 = a.target }) in
    ap (reply.Rows 1) (bodies-given s (a.target ∷ []) (chosen (by_code s) v (passing s bounds)) (all-chosen (IsRowOf s) (by_code s) v (passing s bounds) (passing-rows s bounds facts)))
extreme-by (suc (suc (suc (suc n)))) a s bounds facts some other low = absurd (omega (arith, low))

pub low-verb : (a : Asked) → IsRequest (request.Query a) → (a.verb ≡ 4 → ⊥) → a.verb < 4
low-verb a rules reads = let sound = is-sound a rules in omega (arith, sound.low, reads)

pub two-or-three : (n : ℕ) → (n ≡ 0 → ⊥) → (n ≡ 1 → ⊥) → n < 4 → ((n == 2) || (n == 3)) ≡ true
two-or-three zero some other low = absurd (some refl)
two-or-three (suc zero) some other low = absurd (other refl)
two-or-three (suc (suc zero)) some other low = refl
two-or-three (suc (suc (suc zero))) some other low = refl
two-or-three (suc (suc (suc (suc n)))) some other low = absurd (omega (arith, low))

pub reply-extreme : (t : Txn) (a : Asked) (s : Shelf Body) (q : Query) (greatest : Bool) → IsQueryOn t a s q → (a.verb ≡ 0 → ⊥) → (a.verb ≡ 1 → ⊥) → a.verb < 4 → greatest ≡ (a.verb == 3)
    → reply.Rows 1 (flat_map (bodies_by s (a.target ∷ [])) (extreme_numbers s q.bounds a.target greatest)) ≡ reply_about (verb_by a.verb a) (rows_asked a (held_in t))
reply-extreme t a s q greatest on some other low is =
    ap (λ (b : Bool). reply.Rows 1 (flat_map (bodies_by s (a.target ∷ [])) (extreme_numbers s q.bounds a.target b))) is
    ∙ extreme-by a.verb a s q.bounds on.facts some other low
    ∙ ap (reply_about (verb_by a.verb a)) (sym on.rows)

-- a deletion finds the rows within the bounds, by number
rows-deleted : (t : Txn) (a : Asked) (s : Shelf Body) (q : Query) → IsQueryOn t a s q → IsSound a → a.verb ≡ 4 → rows_found s q ≡ kept_numbers (passing s q.bounds)
unfolding rows_found chosen query_by order_by in_order first_of
rows-deleted t a s q on sound four =
    ap (λ (r : Query). kept_numbers (first_of r.limit (in_order (by_code s) r.order (passing s q.bounds)))) on.query_is
    ∙ ap (λ (limit : Option ℕ). kept_numbers (first_of limit (in_order (by_code s) (order_by a.order a.order_column) (passing s q.bounds)))) (sound.unlimited four)
    ∙ ap (λ (order : ℕ). kept_numbers (in_order (by_code s) (order_by order a.order_column) (passing s q.bounds))) (sound.unordered four)

pub record AreDoomed (t : Txn) (a : Asked) (s : Shelf Body) (numbers : List ℕ) : Type 0 where
  pub rows : numbers ≡ kept_numbers (rows_asked a (held_in t))
  pub rise : IsIncreasing numbers
  pub live : AllAmong (kept_numbers s.kept) numbers

pub are-doomed : (t : Txn) (a : Asked) (s : Shelf Body) (q : Query) (numbers : List ℕ) → IsQueryOn t a s q → IsRequest (request.Query a) → a.verb ≡ 4 → numbers ≡ rows_found s q → AreDoomed t a s numbers
unfolding chosen verb_by
are-doomed t a s q numbers on rules four is =
    let found = is ∙ rows-deleted t a s q on (is-sound a rules) four in
    record {
      rows = found ∙ ap kept_numbers (sym (ap (λ (n : ℕ). chosen (by_code s) (verb_by n a) (passing s q.bounds)) four) ∙ sym on.rows);
      rise = subst IsIncreasing (sym found) (passing-rise s q.bounds on.facts);
      live = subst (AllAmong (kept_numbers s.kept)) (sym found) (passing-among s q.bounds on.facts);
    }
