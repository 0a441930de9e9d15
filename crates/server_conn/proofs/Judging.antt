-- Checks of requests: what each tells by itself, and the first that fails.
use Rattle.std.proofs.Common.{◌≡◌, ℕ, zero, suc, ◌+◌, ◌-◌, ◌<◌, ◌≤◌, ◌==◌, ◌&&◌, ◌||◌, ◌⊎◌, Bool, true, false, not, leb, List, [], ◌∷◌, ◌++◌, length, get_or, map, drop, Option, Some, None, IsTrue, is_some, refl, ap, sym, subst, ◌∙◌, arith, inl, inr, eq-eqb, ne_eqb, add-one}
use Rattle.std.proofs.Math.Dec.{eqb-suc-zero}
use Rattle.std.proofs.lemmas.Bool.{leb-false, leb-true, le-leb, cases_eq}
use Rattle.std.proofs.lemmas.List.{length-map}
use Rattle.std.specs.List.{range_with_len}
use Rattle.mope_base.specs.declared.body.Body.{Body}
use Rattle.mope_base.specs.declared.numbers.TableNo.{TableNo}
use Rattle.table_model.specs.Stores.{Shelf}
use Rattle.table_model.specs.Operations.{shelf_at}
use Rattle.enc_table.specs.Seen.{Seen as Table, IsFull}
use Rattle.walk_proto.specs.declared.messages.Asked.{Asked}
use Rattle.server_conn.specs.declared.txn.Txn.{Txn}
use Rattle.server_conn.specs.declared.txn.Mark.{Mark as Placed}
use Rattle.server_conn.specs.declared.txn.Walk.{Walk as Going}
use Rattle.server_conn.specs.Connections.{Held, Mark, Walk}
use Rattle.server_conn.specs.Checks.{own, lacks_table, lacks_column, lacks_one, are_of, constants_of, columns_named, fits_row, is_full, is_fresh}
use Rattle.server_conn.specs.Inside.{shelves_in, held_in, mark_of, walk_if, lacks_in, IsTableOf}

some-if : (shelves : List (Shelf Body)) (walk : Option Going) → is_some walk ≡ is_some (walk_if shelves walk)
unfolding walk_if
some-if shelves None = refl
some-if shelves (Some w) = refl

pub walk-some : (t : Txn) → is_some t.walk ≡ is_some (held_in t).walk
unfolding held_in
walk-some t = some-if (shelves_in t) t.walk

pub not-lacking : (t : Txn) (table : TableNo) → lacks_table (held_in t) table ≡ false → table.0 < length (shelves_in t)
unfolding lacks_table held_in
not-lacking t table is_no = leb-false (length (shelves_in t)) table.0 is_no

-- ---- a table's room

tells : (a b : ℕ) → (leb a b ≡ true) ⊎ (leb a b ≡ false)
tells a b = elim (leb a b) as (λ v. (v ≡ true) ⊎ (v ≡ false)) [ true ↦ inl refl | false ↦ inr refl ]

either : (p q : Bool) → (p ≡ true) ⊎ (q ≡ true) → true ≡ p || q
either true q e = refl
either false true e = refl
either false false e = elim e [ inl f ↦ cc | inr f ↦ cc ]

true-both : (full p q : Bool) → full ≡ true → (p ≡ true) ⊎ (q ≡ true) → full ≡ p || q
true-both full p q is_yes e = is_yes ∙ either p q e

truth : (b : Bool) → (b ≡ true) ⊎ (b ≡ false)
truth b = elim b as (λ v. (v ≡ true) ⊎ (v ≡ false)) [ true ↦ inl refl | false ↦ inr refl ]

false-both : (full p q : Bool) → (IsTrue full → ⊥) → p ≡ false → q ≡ false → full ≡ p || q
false-both full p q is_no e f =
    elim (truth full) [ inl is_true ↦ absurd (is_no is_true) | inr is_false ↦ is_false ∙ sym (ap (λ (b : Bool). b || q) e ∙ f) ]

full-by : (a b c d : ℕ) (full : Bool) → (IsTrue full → (a ≤ b) ⊎ (c ≤ d)) → ((a ≤ b) ⊎ (c ≤ d) → IsTrue full) → full ≡ leb a b || leb c d
full-by a b c d full to from =
    elim (tells a b) [
      | inl few ↦ true-both full (leb a b) (leb c d) (from (inl (leb-true a b few))) (inl few)
      | inr many ↦ elim (tells c d) [
        | inl big ↦ true-both full (leb a b) (leb c d) (from (inr (leb-true c d big))) (inr big)
        | inr small ↦ false-both full (leb a b) (leb c d) (λ is_yes. elim (to is_yes) [ inl few ↦ absurd (omega (arith, few, leb-false a b many)) | inr big ↦ absurd (omega (arith, big, leb-false c d small)) ]) many small
      ]
    ]

pub full-is : (h : Held) (t : TableNo) (s : Table) (full : Bool) → IsTableOf h t.0 s → (IsTrue full → IsFull s) → (IsFull s → IsTrue full) → full ≡ is_full h t
unfolding is_full own
full-is h t s full of to from =
    full-by s.limit (length s.shelf.kept) 9223372036854775808 s.shelf.next full to from
    ∙ ap (λ (limit : ℕ). leb limit (length s.shelf.kept) || leb 9223372036854775808 s.shelf.next) of.rows
    ∙ ap (λ (u : Shelf Body). leb h.base.limit (length u.kept) || leb 9223372036854775808 u.next) of.shelf_is

-- ---- nothing was done

fresh-marks : {A B C : Type 0} (xs : List A) (ys : List B) (zs : List C) → (length xs == 0) ≡ false → false ≡ is_fresh xs ys zs
unfolding is_fresh
fresh-marks [] ys zs is_no = absurd (let e : true ≡ false = is_no in cc)
fresh-marks (x ∷ xs) ys zs is_no = refl

fresh-ops : {A B C : Type 0} (xs : List A) (ys : List B) (zs : List C) → (length xs == 0) ≡ true → (length ys == 0) ≡ false → false ≡ is_fresh xs ys zs
unfolding is_fresh
fresh-ops (x ∷ xs) ys zs none is_no = absurd (let e : false ≡ true = sym (eqb-suc-zero (length xs)) ∙ none in cc)
fresh-ops [] [] zs none is_no = absurd (let e : true ≡ false = is_no in cc)
fresh-ops [] (y ∷ ys) zs none is_no = refl

fresh-rest : {A B C : Type 0} (xs : List A) (ys : List B) (zs : List C) → (length xs == 0) ≡ true → (length ys == 0) ≡ true → (length zs == 0) ≡ is_fresh xs ys zs
unfolding is_fresh
fresh-rest (x ∷ xs) ys zs none is_no = absurd (let e : false ≡ true = sym (eqb-suc-zero (length xs)) ∙ none in cc)
fresh-rest [] (y ∷ ys) zs none is_no = absurd (let e : false ≡ true = sym (eqb-suc-zero (length ys)) ∙ is_no in cc)
fresh-rest [] [] [] none is_no = refl
fresh-rest [] [] (z ∷ zs) none is_no = eqb-suc-zero (length zs)

pub is-fresh-marks : (t : Txn) → (length t.marks.items == 0) ≡ false → false ≡ is_fresh (held_in t).marks (held_in t).ops (held_in t).touched
unfolding held_in
is-fresh-marks t is_no = fresh-marks (map mark_of t.marks.items) t.ops.items t.touched.items (ap (λ (n : ℕ). n == 0) (length-map t.marks.items mark_of) ∙ is_no)

pub is-fresh-ops : (t : Txn) → (length t.marks.items == 0) ≡ true → (length t.ops.items == 0) ≡ false → false ≡ is_fresh (held_in t).marks (held_in t).ops (held_in t).touched
unfolding held_in
is-fresh-ops t none is_no = fresh-ops (map mark_of t.marks.items) t.ops.items t.touched.items (ap (λ (n : ℕ). n == 0) (length-map t.marks.items mark_of) ∙ none) is_no

pub is-fresh-rest : (t : Txn) → (length t.marks.items == 0) ≡ true → (length t.ops.items == 0) ≡ true → (length t.touched.items == 0) ≡ is_fresh (held_in t).marks (held_in t).ops (held_in t).touched
unfolding held_in
is-fresh-rest t none is_no = fresh-rest (map mark_of t.marks.items) t.ops.items t.touched.items (ap (λ (n : ℕ). n == 0) (length-map t.marks.items mark_of) ∙ none) is_no

-- ---- columns that are named

pub lacks-one : (h : Held) (t : TableNo) (columns : List ℕ) → lacks_one h t columns ≡ lacks_in (length (own h t).columns) columns
unfolding lacks_one lacks_in lacks_column
lacks-one h t [] = refl
lacks-one h t (column ∷ columns) = ap (λ (b : Bool). leb (length (own h t).columns) column || b) (lacks-one h t columns)

or-assoc : (a b c : Bool) → (a || (b || c)) ≡ ((a || b) || c)
or-assoc true b c = refl
or-assoc false b c = refl

pub lacks-append : (width : ℕ) (xs ys : List ℕ) → lacks_in width (xs ++ ys) ≡ (lacks_in width xs || lacks_in width ys)
unfolding lacks_in
lacks-append width [] ys = refl
lacks-append width (x ∷ xs) ys = ap (λ (b : Bool). leb width x || b) (lacks-append width xs ys) ∙ or-assoc (leb width x) (lacks_in width xs) (lacks_in width ys)

pub lacks-four : (width : ℕ) (xs ys zs us : List ℕ) → lacks_in width (xs ++ ys ++ zs ++ us) ≡ (((lacks_in width xs || lacks_in width ys) || lacks_in width zs) || lacks_in width us)
lacks-four width xs ys zs us =
    lacks-append width (xs ++ ys ++ zs) us
    ∙ ap (λ (b : Bool). b || lacks_in width us) (lacks-append width (xs ++ ys) zs ∙ ap (λ (b : Bool). b || lacks_in width zs) (lacks-append width xs ys))

pub four-1 : (a b c d : Bool) → a ≡ true → true ≡ (((a || b) || c) || d)
four-1 true b c d e = refl
four-1 false b c d e = cc

pub four-2 : (a b c d : Bool) → a ≡ false → b ≡ true → true ≡ (((a || b) || c) || d)
four-2 false true c d e f = refl
four-2 true b c d e f = cc
four-2 false false c d e f = cc

pub four-3 : (a b c d : Bool) → a ≡ false → b ≡ false → c ≡ true → true ≡ (((a || b) || c) || d)
four-3 false false true d e f g = refl
four-3 true b c d e f g = cc
four-3 false true c d e f g = cc
four-3 false false false d e f g = cc

pub four-4 : (a b c d : Bool) → a ≡ false → b ≡ false → c ≡ false → d ≡ (((a || b) || c) || d)
four-4 false false false d e f g = refl
four-4 true b c d e f g = cc
four-4 false true c d e f g = cc
four-4 false false true d e f g = cc

-- ---- a row

pub fits-no : (t : Txn) (table : TableNo) (bodies : List Body) (width : ℕ) → width ≡ length (own (held_in t) table).columns → are_of table.0 (range_with_len 0 (width - 0)) (map mark_of t.marks.items) ≡ false → false ≡ fits_row (held_in t) table bodies
unfolding fits_row held_in
fits-no t table bodies width is is_no =
    let same : are_of table.0 (range_with_len 0 (length (own (held_in t) table).columns)) (map mark_of t.marks.items) ≡ false =
    ap (λ (n : ℕ). are_of table.0 (range_with_len 0 n) (map mark_of t.marks.items)) (let e : length (own (held_in t) table).columns ≡ width - 0 = omega (arith, is) in e) ∙ is_no in
    sym (ap (λ (b : Bool). b && (length bodies == length (own (held_in t) table).columns)) same)

pub fits-yes : (t : Txn) (table : TableNo) (bodies : List Body) (width : ℕ) → width ≡ length (own (held_in t) table).columns → are_of table.0 (range_with_len 0 (width - 0)) (map mark_of t.marks.items) ≡ true → (length bodies == width) ≡ fits_row (held_in t) table bodies
unfolding fits_row held_in
fits-yes t table bodies width is is_yes =
    let same : are_of table.0 (range_with_len 0 (length (own (held_in t) table).columns)) (map mark_of t.marks.items) ≡ true =
    ap (λ (n : ℕ). are_of table.0 (range_with_len 0 n) (map mark_of t.marks.items)) (let e : length (own (held_in t) table).columns ≡ width - 0 = omega (arith, is) in e) ∙ is_yes in
    ap (λ (n : ℕ). length bodies == n) is ∙ sym (ap (λ (b : Bool). b && (length bodies == length (own (held_in t) table).columns)) same)

-- ---- a selection

pub named-is : (t : Txn) (a : Asked) (width : ℕ) (b : Bool) → width ≡ length (own (held_in t) a.table).columns → b ≡ lacks_in width (columns_named a) → lacks_one (held_in t) a.table (columns_named a) ≡ b
named-is t a width b is tells = lacks-one (held_in t) a.table (columns_named a) ∙ ap (λ (n : ℕ). lacks_in n (columns_named a)) (sym is) ∙ sym tells

pub conds-are : (t : Txn) (a : Asked) (conds : List (ℕ × ℕ)) (marks : List Placed) (b : Bool) → conds ≡ a.conds → marks ≡ t.marks.items → b ≡ are_of a.table.0 (constants_of conds) (map mark_of marks) → are_of a.table.0 (constants_of a.conds) (held_in t).marks ≡ b
unfolding held_in
conds-are t a conds marks b same places tells =
    sym (tells ∙ ap (λ (cs : List (ℕ × ℕ)). are_of a.table.0 (constants_of cs) (map mark_of marks)) same ∙ ap (λ (ms : List Placed). are_of a.table.0 (constants_of a.conds) (map mark_of ms)) places)
