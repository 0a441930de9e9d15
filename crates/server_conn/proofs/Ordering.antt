-- Places of columns in order.
use Rattle.std.proofs.Common.{◌≡◌, ℕ, zero, suc, ◌+◌, ◌-◌, ◌<◌, ◌≤◌, ◌==◌, ◌&&◌, Bool, true, false, List, [], ◌∷◌, length, get_or, map, drop, take, refl, ap, sym, subst, ◌∙◌, arith, inl, inr, eq-eqb, ne_eqb}
use Rattle.std.proofs.Math.Dec.{eqb-suc-zero}
use Rattle.std.proofs.lemmas.Bool.{cases_eq}
use Rattle.std.specs.List.{range_with_len}
use Rattle.server_conn.specs.declared.txn.Mark.{Mark as Placed}
use Rattle.server_conn.specs.Checks.{are_of, once_or_twice, constants_of}
use Rattle.server_conn.specs.Inside.{mark_of}

-- whether a place is of a column of a table
abbrev pub is_of : ℕ → ℕ → Placed → Bool
is_of table column m = ((mark_of m).table == table) && ((mark_of m).column == column)

and-false : (a b : Bool) → a ≡ false → false ≡ (a && b)
and-false false b e = refl
and-false true b e = cc

and-true : (a b : Bool) → a ≡ true → b ≡ (a && b)
and-true true b e = refl
and-true false b e = cc

-- ---- one place for each column from one on

range-next : (from width : ℕ) → from ≤ width → (from ≡ width → ⊥) → range_with_len from (width - from) ≡ from ∷ range_with_len (from + 1) (width - (from + 1))
range-next from width h other = let e : width - from ≡ suc (width - (from + 1)) = omega arith in rw e refl

range-none : (from width : ℕ) → from ≡ width → range_with_len from (width - from) ≡ []
range-none from width same = let e : width - from ≡ 0 = omega arith in rw e refl

pub row-none : (table from width : ℕ) (marks : List Placed) → length marks < 1 → from ≤ width → (from == width) ≡ are_of table (range_with_len from (width - from)) (map mark_of marks)
unfolding are_of
row-none table from width (m ∷ marks) none h = absurd (omega (arith, none))
row-none table from width [] none h =
    elim (cases_eq from width) [
      | inl same ↦ eq-eqb from width same ∙ sym (ap (λ (cs : List ℕ). are_of table cs []) (range-none from width same))
      | inr other ↦ ne_eqb from width other ∙ sym (ap (λ (cs : List ℕ). are_of table cs []) (range-next from width h other))
    ]

pub row-full : (table from width : ℕ) (marks : List Placed) → 1 ≤ length marks → from ≡ width → false ≡ are_of table (range_with_len from (width - from)) (map mark_of marks)
unfolding are_of
row-full table from width [] some same = absurd (omega (arith, some))
row-full table from width (m ∷ marks) some same = sym (ap (λ (cs : List ℕ). are_of table cs (mark_of m ∷ map mark_of marks)) (range-none from width same))

pub row-other : (table from width : ℕ) (marks : List Placed) (d : Placed) → 1 ≤ length marks → from ≤ width → (from ≡ width → ⊥) → is_of table from (get_or marks 0 d) ≡ false → false ≡ are_of table (range_with_len from (width - from)) (map mark_of marks)
unfolding are_of
row-other table from width [] d some h other is_no = absurd (omega (arith, some))
row-other table from width (m ∷ marks) d some h other is_no =
    and-false (is_of table from m) (are_of table (range_with_len (from + 1) (width - (from + 1))) (map mark_of marks)) is_no
    ∙ sym (ap (λ (cs : List ℕ). are_of table cs (mark_of m ∷ map mark_of marks)) (range-next from width h other))

pub row-next : (table from width : ℕ) (marks rest : List Placed) (d : Placed) (r : Bool) → 1 ≤ length marks → from ≤ width → (from ≡ width → ⊥) → is_of table from (get_or marks 0 d) ≡ true → rest ≡ drop 1 marks → r ≡ are_of table (range_with_len (from + 1) (width - (from + 1))) (map mark_of rest)
    → r ≡ are_of table (range_with_len from (width - from)) (map mark_of marks)
unfolding are_of
row-next table from width [] rest d r some h other is_yes split is = absurd (omega (arith, some))
row-next table from width (m ∷ marks) rest d r some h other is_yes split is =
    is ∙ ap (λ (ms : List Placed). are_of table (range_with_len (from + 1) (width - (from + 1))) (map mark_of ms)) split
    ∙ and-true (is_of table from m) (are_of table (range_with_len (from + 1) (width - (from + 1))) (map mark_of marks)) is_yes
    ∙ sym (ap (λ (cs : List ℕ). are_of table cs (mark_of m ∷ map mark_of marks)) (range-next from width h other))

-- ---- the first place

pub first-none : (table column : ℕ) (marks : List Placed) (columns : List ℕ) → length marks < 1 → are_of table (column ∷ columns) (map mark_of marks) ≡ false
unfolding are_of
first-none table column [] columns none = refl
first-none table column (m ∷ marks) columns none = absurd (omega (arith, none))

pub first-some : (table column : ℕ) (marks : List Placed) (columns : List ℕ) (d : Placed) → 1 ≤ length marks → are_of table (column ∷ columns) (map mark_of marks) ≡ (is_of table column (get_or marks 0 d) && are_of table columns (map mark_of (drop 1 marks)))
unfolding are_of
first-some table column [] columns d some = absurd (omega (arith, some))
first-some table column (m ∷ marks) columns d some = refl

-- ---- the places of conditions

pub conds-none : (table : ℕ) (conds : List (ℕ × ℕ)) (marks : List Placed) → length conds < 1 → (length marks == 0) ≡ are_of table (constants_of conds) (map mark_of marks)
unfolding are_of constants_of
conds-none table (cond ∷ conds) marks none = absurd (omega (arith, none))
conds-none table [] [] none = refl
conds-none table [] (m ∷ marks) none = eqb-suc-zero (length marks)

pub constants-once : (conds : List (ℕ × ℕ)) (d : ℕ × ℕ) → 1 ≤ length conds → ((get_or conds 0 d).1 ≡ 5 → ⊥) → constants_of conds ≡ (get_or conds 0 d).0 ∷ constants_of (drop 1 conds)
unfolding constants_of once_or_twice
constants-once [] d some other = absurd (omega (arith, some))
constants-once (cond ∷ conds) d some other = ap (λ (b : Bool). once_or_twice b cond.0 (constants_of conds)) (ne_eqb cond.1 5 other)

pub constants-twice : (conds : List (ℕ × ℕ)) (d : ℕ × ℕ) → 1 ≤ length conds → (get_or conds 0 d).1 ≡ 5 → constants_of conds ≡ (get_or conds 0 d).0 ∷ (get_or conds 0 d).0 ∷ constants_of (drop 1 conds)
unfolding constants_of once_or_twice
constants-twice [] d some same = absurd (omega (arith, some))
constants-twice (cond ∷ conds) d some same = ap (λ (b : Bool). once_or_twice b cond.0 (constants_of conds)) (eq-eqb cond.1 5 same)

-- whichever condition comes first, it begins with its column
pub constants-begin : (conds : List (ℕ × ℕ)) (d : ℕ × ℕ) → 1 ≤ length conds → (rest : List ℕ) × (constants_of conds ≡ (get_or conds 0 d).0 ∷ rest)
constants-begin conds d some =
    elim (cases_eq (get_or conds 0 d).1 5) [
      | inl same ↦ ((get_or conds 0 d).0 ∷ constants_of (drop 1 conds), constants-twice conds d some same)
      | inr other ↦ (constants_of (drop 1 conds), constants-once conds d some other)
    ]

-- what the first place tells, where the rest is judged by itself
pub conds-not : (table : ℕ) (conds : List (ℕ × ℕ)) (marks rest : List Placed) (d : ℕ × ℕ) (first : Bool) → 1 ≤ length conds → first ≡ false → ((columns : List ℕ) → are_of table ((get_or conds 0 d).0 ∷ columns) (map mark_of marks) ≡ (first && are_of table columns (map mark_of rest)))
    → false ≡ are_of table (constants_of conds) (map mark_of marks)
conds-not table conds marks rest d first some is_no tells =
    let begin = constants-begin conds d some in
    and-false first (are_of table begin.0 (map mark_of rest)) is_no ∙ sym (tells begin.0) ∙ sym (ap (λ (cs : List ℕ). are_of table cs (map mark_of marks)) begin.1)

pub conds-once : (table : ℕ) (conds more : List (ℕ × ℕ)) (marks rest others : List Placed) (d : ℕ × ℕ) (first r : Bool) → 1 ≤ length conds → ((get_or conds 0 d).1 ≡ 5 → ⊥) → first ≡ true → ((columns : List ℕ) → are_of table ((get_or conds 0 d).0 ∷ columns) (map mark_of marks) ≡ (first && are_of table columns (map mark_of rest)))
    → more ≡ drop 1 conds → others ≡ rest → r ≡ are_of table (constants_of more) (map mark_of others) → r ≡ are_of table (constants_of conds) (map mark_of marks)
conds-once table conds more marks rest others d first r some other is_yes tells split same is =
    is ∙ ap (λ (cs : List (ℕ × ℕ)). are_of table (constants_of cs) (map mark_of others)) split
    ∙ ap (λ (ms : List Placed). are_of table (constants_of (drop 1 conds)) (map mark_of ms)) same
    ∙ and-true first (are_of table (constants_of (drop 1 conds)) (map mark_of rest)) is_yes
    ∙ sym (tells (constants_of (drop 1 conds))) ∙ sym (ap (λ (cs : List ℕ). are_of table cs (map mark_of marks)) (constants-once conds d some other))

pub conds-half : (table : ℕ) (conds : List (ℕ × ℕ)) (marks rest others left : List Placed) (d : ℕ × ℕ) (first second : Bool) → 1 ≤ length conds → (get_or conds 0 d).1 ≡ 5 → first ≡ true → second ≡ false
    → ((columns : List ℕ) → are_of table ((get_or conds 0 d).0 ∷ columns) (map mark_of marks) ≡ (first && are_of table columns (map mark_of rest)))
    → others ≡ rest → ((columns : List ℕ) → are_of table ((get_or conds 0 d).0 ∷ columns) (map mark_of others) ≡ (second && are_of table columns (map mark_of left)))
    → false ≡ are_of table (constants_of conds) (map mark_of marks)
conds-half table conds marks rest others left d first second some five is_yes is_no tells same more =
    let column = (get_or conds 0 d).0 in
    let after = constants_of (drop 1 conds) in
    and-false second (are_of table after (map mark_of left)) is_no
    ∙ sym (more after)
    ∙ ap (λ (ms : List Placed). are_of table (column ∷ after) (map mark_of ms)) same
    ∙ and-true first (are_of table (column ∷ after) (map mark_of rest)) is_yes
    ∙ sym (tells (column ∷ after)) ∙ sym (ap (λ (cs : List ℕ). are_of table cs (map mark_of marks)) (constants-twice conds d some five))

pub conds-twice : (table : ℕ) (conds next : List (ℕ × ℕ)) (marks rest others left last : List Placed) (d : ℕ × ℕ) (first second r : Bool) → 1 ≤ length conds → (get_or conds 0 d).1 ≡ 5 → first ≡ true → second ≡ true
    → ((columns : List ℕ) → are_of table ((get_or conds 0 d).0 ∷ columns) (map mark_of marks) ≡ (first && are_of table columns (map mark_of rest)))
    → others ≡ rest → ((columns : List ℕ) → are_of table ((get_or conds 0 d).0 ∷ columns) (map mark_of others) ≡ (second && are_of table columns (map mark_of left)))
    → next ≡ drop 1 conds → last ≡ left → r ≡ are_of table (constants_of next) (map mark_of last) → r ≡ are_of table (constants_of conds) (map mark_of marks)
conds-twice table conds next marks rest others left last d first second r some five is_yes too tells same more split ends is =
    let column = (get_or conds 0 d).0 in
    let after = constants_of (drop 1 conds) in
    is ∙ ap (λ (cs : List (ℕ × ℕ)). are_of table (constants_of cs) (map mark_of last)) split
    ∙ ap (λ (ms : List Placed). are_of table after (map mark_of ms)) ends
    ∙ and-true second (are_of table after (map mark_of left)) too
    ∙ sym (more after)
    ∙ ap (λ (ms : List Placed). are_of table (column ∷ after) (map mark_of ms)) same
    ∙ and-true first (are_of table (column ∷ after) (map mark_of rest)) is_yes
    ∙ sym (tells (column ∷ after)) ∙ sym (ap (λ (cs : List ℕ). are_of table cs (map mark_of marks)) (constants-twice conds d some five))

pub drop-twice : {A : Type 0} (xs : List A) → drop 1 (drop 1 xs) ≡ drop 2 xs
drop-twice [] = refl
drop-twice (x ∷ []) = refl
drop-twice (x ∷ y ∷ xs) = refl
