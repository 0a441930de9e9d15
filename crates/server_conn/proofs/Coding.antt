-- The codes of the places of a selection, and its bounds.
use Rattle.std.proofs.Common.{◌≡◌, ℕ, zero, suc, ◌+◌, ◌<◌, ◌≤◌, ◌==◌, Bool, true, false, List, [], ◌∷◌, ◌++◌, length, get_or, map, drop, Option, Some, None, SomeIff, refl, ap, ap₂, sym, subst, ◌∙◌, arith, eq-eqb, ne_eqb, append_assoc}
use Rattle.std.specs.List.{All}
use Rattle.std.proofs.lemmas.List.{append-nil}
use Rattle.std.proofs.lemmas.List.Elements.{All-nil, All-cons, All-head, All-tail, All-map, All-weaker}
use Rattle.mope_base.specs.declared.body.Body.{Body}
use Rattle.mope_base.specs.declared.numbers.ColNo.{ColNo}
use Rattle.mope_base.specs.Lists.{Each}
use Rattle.sql_text.specs.declared.Test.{Test}
use Rattle.tree_model.specs.Trees.{size, path, IsPlaceOf}
use Rattle.tree_model.specs.Columns.{Column}
use Rattle.path_code.specs.Laws.{code_in}
use Rattle.path_code.proofs.Spelling.{code_of-positive}
use Rattle.table_model.specs.Stores.{Shelf}
use Rattle.table_model.specs.Soundness.{column_at}
use Rattle.enc_table.proofs.Options.{value_of_some}
use Rattle.sql_plan.specs.declared.bounds.Bound.{Bound}
use Rattle.sql_plan.specs.declared.bounds.Query.{Query}
use Rattle.sql_plan.specs.Bounds.{top, test_by, bound_of}
use Rattle.sql_plan.specs.Plans.{HasBounds}
use Rattle.sql_plan.specs.Laws.{HasCodes}
use Rattle.sql_plan.proofs.RowCodes.{Facts}
use Rattle.sql_plan.proofs.TestBounds.{Coded, bounded}
use Rattle.sql_plan.proofs.ValueRows.{code-top}
use Rattle.walk_proto.specs.declared.messages.Asked.{Asked}
use Rattle.server_conn.specs.declared.txn.Mark.{Mark as Placed}
use Rattle.server_conn.specs.Checks.{constants_of}
use Rattle.server_conn.specs.Inside.{mark_of}
use Rattle.server_conn.specs.Serving.{code_at_mark, second_of, without_second, tests_of, order_by}
use Rattle.server_conn.specs.Asking.{codes_in, bounds_by, query_by, IsMarkOn, IsKnown, FitsTable}
use Rattle.server_conn.proofs.Ordering.{constants-once, constants-twice}

-- ---- one place

pub code-is : (s : Shelf Body) (m : Placed) (column : Column Body) (r : Option ℕ) (code : ℕ) → column ≡ column_at s.columns m.column.0 → SomeIff r (IsPlaceOf (size column.tree) m.place) (code_in column.tree m.place) → r ≡ Some code → code ≡ code_at_mark s (mark_of m)
unfolding code_at_mark mark_of
code-is s m column r code is tells some =
    value_of_some (IsPlaceOf (size column.tree) m.place) (code_in column.tree m.place) r code tells some ∙ ap (λ (k : Column Body). code_in k.tree m.place) is

pub code-some : (s : Shelf Body) (m : Placed) → 1 ≤ code_at_mark s (mark_of m)
unfolding code_at_mark mark_of
code-some s m = let some = code_of-positive (path (column_at s.columns m.column.0).tree m.place) in omega (arith, some)

abbrev pub IsCode : ℕ → Type 0
IsCode code = (1 ≤ code) × (code ≤ top)

code-fits : (s : Shelf Body) (m : Placed) → Facts s → IsMarkOn s m → IsCode (code_at_mark s (mark_of m))
unfolding code_at_mark mark_of
code-fits s m facts on = code-top (column_at s.columns m.column.0).tree m.place (facts.low m.column.0 on.column_there)

pub codes-fit : (s : Shelf Body) (marks : List Placed) → Facts s → Each (IsMarkOn s) marks → All IsCode (codes_in s marks)
unfolding codes_in Each
codes-fit s [] facts on = All-nil IsCode
codes-fit s (m ∷ marks) facts on = All-cons IsCode (code_at_mark s (mark_of m)) (map (code_at_mark s) (map mark_of marks)) (code-fits s m facts on.0) (codes-fit s marks facts on.1)

-- ---- the tests and the bounds by codes

has-codes : (op first second : ℕ) → IsCode first → IsCode second → HasCodes (test_by op first second)
unfolding test_by
has-codes zero first second a b = a
has-codes (suc zero) first second a b = a
has-codes (suc (suc zero)) first second a b = a
has-codes (suc (suc (suc zero))) first second a b = a
has-codes (suc (suc (suc (suc zero)))) first second a b = a
has-codes (suc (suc (suc (suc (suc op))))) first second a b = (a, b)

second-fits : (two : Bool) (code : ℕ) (codes : List ℕ) → IsCode code → All IsCode codes → IsCode (second_of two code codes)
unfolding second_of
second-fits true code [] fits all = fits
second-fits true code (next ∷ codes) fits all = All-head IsCode next codes all
second-fits false code codes fits all = fits

without-fit : (two : Bool) (codes : List ℕ) → All IsCode codes → All IsCode (without_second two codes)
unfolding without_second
without-fit true [] all = all
without-fit true (next ∷ codes) all = All-tail IsCode next codes all
without-fit false codes all = all

abbrev pub HasColumn : Shelf Body → ℕ × ℕ → Type 0
HasColumn s cond = cond.0 < length s.columns

pub tests-coded : (s : Shelf Body) (conds : List (ℕ × ℕ)) (codes : List ℕ) → All (HasColumn s) conds → All IsCode codes → All (Coded s) (tests_of conds codes)
unfolding tests_of
tests-coded s [] codes there fit = All-nil (Coded s)
tests-coded s (cond ∷ conds) [] there fit = All-nil (Coded s)
tests-coded s (cond ∷ conds) (code ∷ codes) there fit =
    let here = All-head IsCode code codes fit in
    let rest = All-tail IsCode code codes fit in
    let two = cond.1 == 5 in
    All-cons (Coded s) (record { 0 = cond.0 }, test_by cond.1 code (second_of two code codes)) (tests_of conds (without_second two codes))
    (All-head (HasColumn s) cond conds there, has-codes cond.1 code (second_of two code codes) here (second-fits two code codes here rest))
    (tests-coded s conds (without_second two codes) (All-tail (HasColumn s) cond conds there) (without-fit two codes rest))

pub bounds-there : (s : Shelf Body) (tests : List (ColNo × Test)) → All (Coded s) tests → HasBounds s (bounds_by tests)
unfolding bounds_by bound_of
bounds-there s tests coded = All-map (λ (b : Bound). b.column.0 < length s.columns) bounded tests (All-weaker (Coded s) (λ (test : ColNo × Test). test.0.0 < length s.columns) (λ test has. has.0) tests coded)

-- ---- the bounds of the conditions from the first on

pub bounds-none : (s : Shelf Body) (conds : List (ℕ × ℕ)) (marks : List Placed) (bounds : List Bound) → length conds < 1 → bounds ≡ bounds ++ bounds_by (tests_of conds (codes_in s marks))
unfolding bounds_by tests_of
bounds-none s [] marks bounds none = sym (append-nil bounds)
bounds-none s (cond ∷ conds) marks bounds none = absurd (omega (arith, none))

pub bounds-once : (s : Shelf Body) (conds more : List (ℕ × ℕ)) (marks others : List Placed) (before then after : List Bound) (b : Bound) (d : ℕ × ℕ) (m : Placed) → 1 ≤ length conds → 1 ≤ length marks → ((get_or conds 0 d).1 ≡ 5 → ⊥)
    → b ≡ bound_of (record { 0 = (get_or conds 0 d).0 }) (test_by (get_or conds 0 d).1 (code_at_mark s (mark_of (get_or marks 0 m))) (code_at_mark s (mark_of (get_or marks 0 m))))
    → then ≡ before ++ b ∷ [] → more ≡ drop 1 conds → others ≡ drop 1 marks → after ≡ then ++ bounds_by (tests_of more (codes_in s others)) → after ≡ before ++ bounds_by (tests_of conds (codes_in s marks))
unfolding bounds_by tests_of codes_in second_of without_second
bounds-once s [] more marks others before then after b d m some one other is pushed split same ends = absurd (omega (arith, some))
bounds-once s (cond ∷ conds) more [] others before then after b d m some one other is pushed split same ends = absurd (omega (arith, one))
bounds-once s (cond ∷ conds) more (x ∷ marks) others before then after b d m some one other is pushed split same ends =
    let code = code_at_mark s (mark_of x) in
    let codes = map (code_at_mark s) (map mark_of marks) in
    let column : ColNo = record { 0 = cond.0 } in
    let single : (cond.1 == 5) ≡ false = ne_eqb cond.1 5 other in
    ends
    ∙ ap (λ (bs : List Bound). bs ++ bounds_by (tests_of more (codes_in s others))) pushed
    ∙ append_assoc before (b ∷ []) (bounds_by (tests_of more (codes_in s others)))
    ∙ ap (λ (ms : List Placed). before ++ b ∷ bounds_by (tests_of more (codes_in s ms))) same
    ∙ ap (λ (cs : List (ℕ × ℕ)). before ++ b ∷ bounds_by (tests_of cs codes)) split
    ∙ ap (λ (c : Bound). before ++ c ∷ bounds_by (tests_of conds codes)) is
    ∙ sym (ap (λ (two : Bool). before ++ bound_of column (test_by cond.1 code (second_of two code codes)) ∷ bounds_by (tests_of conds (without_second two codes))) single)

pub bounds-twice : (s : Shelf Body) (conds more : List (ℕ × ℕ)) (marks others : List Placed) (before then after : List Bound) (b : Bound) (d : ℕ × ℕ) (m : Placed) → 1 ≤ length conds → 2 ≤ length marks → (get_or conds 0 d).1 ≡ 5
    → b ≡ bound_of (record { 0 = (get_or conds 0 d).0 }) (test_by 5 (code_at_mark s (mark_of (get_or marks 0 m))) (code_at_mark s (mark_of (get_or marks 1 m))))
    → then ≡ before ++ b ∷ [] → more ≡ drop 1 conds → others ≡ drop 2 marks → after ≡ then ++ bounds_by (tests_of more (codes_in s others)) → after ≡ before ++ bounds_by (tests_of conds (codes_in s marks))
unfolding bounds_by tests_of codes_in second_of without_second
bounds-twice s [] more marks others before then after b d m some both five is pushed split same ends = absurd (omega (arith, some))
bounds-twice s (cond ∷ conds) more [] others before then after b d m some both five is pushed split same ends = absurd (omega (arith, both))
bounds-twice s (cond ∷ conds) more (x ∷ []) others before then after b d m some both five is pushed split same ends = absurd (omega (arith, both))
bounds-twice s (cond ∷ conds) more (x ∷ y ∷ marks) others before then after b d m some both five is pushed split same ends =
    let low = code_at_mark s (mark_of x) in
    let high = code_at_mark s (mark_of y) in
    let codes = map (code_at_mark s) (map mark_of marks) in
    let column : ColNo = record { 0 = cond.0 } in
    let double : (cond.1 == 5) ≡ true = eq-eqb cond.1 5 five in
    ends
    ∙ ap (λ (bs : List Bound). bs ++ bounds_by (tests_of more (codes_in s others))) pushed
    ∙ append_assoc before (b ∷ []) (bounds_by (tests_of more (codes_in s others)))
    ∙ ap (λ (ms : List Placed). before ++ b ∷ bounds_by (tests_of more (codes_in s ms))) same
    ∙ ap (λ (cs : List (ℕ × ℕ)). before ++ b ∷ bounds_by (tests_of cs codes)) split
    ∙ ap (λ (c : Bound). before ++ c ∷ bounds_by (tests_of conds codes)) is
    ∙ sym (ap (λ (op : ℕ). before ++ bound_of column (test_by op low high) ∷ bounds_by (tests_of conds codes)) five)
    ∙ sym (ap (λ (two : Bool). before ++ bound_of column (test_by cond.1 low (second_of two low (high ∷ codes))) ∷ bounds_by (tests_of conds (without_second two (high ∷ codes)))) double)

-- ---- what fits a table still fits it after the first condition

pub each-at : {A : Type 0} (P : A → Type 0) (xs : List A) (i : ℕ) (d : A) → Each P xs → i < length xs → P (get_or xs i d)
unfolding Each
each-at P [] i d each h = absurd (omega (arith, h))
each-at P (x ∷ xs) zero d each h = each.0
each-at P (x ∷ xs) (suc i) d each h = each-at P xs i d each.1 (omega (arith, h))

pub one-there : (s : Shelf Body) (marks : List Placed) (conds : List (ℕ × ℕ)) (d : ℕ × ℕ) → FitsTable s marks conds → 1 ≤ length conds → ((get_or conds 0 d).1 ≡ 5 → ⊥) → 1 ≤ length marks
one-there s marks conds d fits some other = let e = ap length (constants-once conds d some other) in omega (arith, fits.many, e)

pub two-there : (s : Shelf Body) (marks : List Placed) (conds : List (ℕ × ℕ)) (d : ℕ × ℕ) → FitsTable s marks conds → 1 ≤ length conds → (get_or conds 0 d).1 ≡ 5 → 2 ≤ length marks
two-there s marks conds d fits some five = let e = ap length (constants-twice conds d some five) in omega (arith, fits.many, e)

pub low-known : (s : Shelf Body) (marks : List Placed) (conds : List (ℕ × ℕ)) (d : ℕ × ℕ) → FitsTable s marks conds → 1 ≤ length conds → ((get_or conds 0 d).1 ≡ 5 → ⊥) → (get_or conds 0 d).1 < 5
low-known s marks conds d fits some other = let known = each-at IsKnown conds 0 d fits.known some in omega (arith, known, other)

pub fits-once : (s : Shelf Body) (marks others : List Placed) (conds more : List (ℕ × ℕ)) (d : ℕ × ℕ) → FitsTable s marks conds → 1 ≤ length conds → ((get_or conds 0 d).1 ≡ 5 → ⊥) → more ≡ drop 1 conds → others ≡ drop 1 marks → FitsTable s others more
unfolding Each
fits-once s marks others [] more d fits some other split same = absurd (omega (arith, some))
fits-once s [] others (cond ∷ conds) more d fits some other split same = absurd (let one = one-there s [] (cond ∷ conds) d fits some other in omega (arith, one))
fits-once s (x ∷ marks) others (cond ∷ conds) more d fits some other split same =
    let e = ap length (constants-once (cond ∷ conds) d some other) in
    record {
      known = subst (Each IsKnown) (sym split) fits.known.1;
      many = ap length same ∙ (let f : length marks ≡ length (constants_of conds) = omega (arith, fits.many, e) in f) ∙ sym (ap (λ (cs : List (ℕ × ℕ)). length (constants_of cs)) split);
      on = subst (Each (IsMarkOn s)) (sym same) fits.on.1;
    }

pub fits-twice : (s : Shelf Body) (marks others : List Placed) (conds more : List (ℕ × ℕ)) (d : ℕ × ℕ) → FitsTable s marks conds → 1 ≤ length conds → (get_or conds 0 d).1 ≡ 5 → more ≡ drop 1 conds → others ≡ drop 2 marks → FitsTable s others more
unfolding Each
fits-twice s marks others [] more d fits some five split same = absurd (omega (arith, some))
fits-twice s [] others (cond ∷ conds) more d fits some five split same = absurd (let two = two-there s [] (cond ∷ conds) d fits some five in omega (arith, two))
fits-twice s (x ∷ []) others (cond ∷ conds) more d fits some five split same = absurd (let two = two-there s (x ∷ []) (cond ∷ conds) d fits some five in omega (arith, two))
fits-twice s (x ∷ y ∷ marks) others (cond ∷ conds) more d fits some five split same =
    let e = ap length (constants-twice (cond ∷ conds) d some five) in
    record {
      known = subst (Each IsKnown) (sym split) fits.known.1;
      many = ap length same ∙ (let f : length marks ≡ length (constants_of conds) = omega (arith, fits.many, e) in f) ∙ sym (ap (λ (cs : List (ℕ × ℕ)). length (constants_of cs)) split);
      on = subst (Each (IsMarkOn s)) (sym same) fits.on.1.1;
    }

-- ---- the order, and the whole query

pub order-none : (order column : ℕ) → order ≡ 0 → None ≡ order_by order column
unfolding order_by
order-none order column is = sym (ap (λ (n : ℕ). order_by n column) is)

pub order-up : (order column : ℕ) → order ≡ 1 → Some (record { 0 = column }, false) ≡ order_by order column
unfolding order_by
order-up order column is = sym (ap (λ (n : ℕ). order_by n column) is)

pub order-down : (order column : ℕ) → (order ≡ 0 → ⊥) → (order ≡ 1 → ⊥) → Some (record { 0 = column }, true) ≡ order_by order column
unfolding order_by
order-down zero column some other = absurd (some refl)
order-down (suc zero) column some other = absurd (other refl)
order-down (suc (suc order)) column some other = refl

pub query-is : (a : Asked) (codes : List ℕ) (bounds : List Bound) (order : Option (ColNo × Bool)) → bounds ≡ [] ++ bounds_by (tests_of a.conds codes) → order ≡ order_by a.order a.order_column → record { bounds = bounds; order = order; limit = a.limit } ≡ query_by a codes
unfolding query_by
query-is a codes bounds order is by =
    ap₂ (λ (bs : List Bound) (o : Option (ColNo × Bool)). let q : Query = record { bounds = bs; order = o; limit = a.limit } in q) is by
