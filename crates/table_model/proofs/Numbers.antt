-- The row of a number: the rows without it, and what it has.
use Rattle.std.proofs.Common.{◌≡◌, ℕ, suc, ◌<◌, ◌≤◌, Bool, true, false, ◌||◌, List, [], ◌∷◌, ◌++◌, length, map, get_or, refl, ap, ◌∙◌, sym, subst, inl, inr, arith, eqb, eq-eqb}
use Rattle.std.proofs.lemmas.Bool.{cases_Bool, cases_eq}
use Rattle.tree_model.specs.Places.{one_if, holds, IsBelowAll, IsIncreasing}
use Rattle.tree_model.specs.Tallies.{tally, IsOneMore}
use Rattle.tree_model.proofs.Ordered.{holds-cons_ne}
use Rattle.tree_model.proofs.CarriedRanks.{false_is_true}
use Rattle.tree_model.proofs.TalliedRows.{tally-held, held-tally}
use Rattle.table_model.specs.Stores.{Row}
use Rattle.table_model.specs.Changes.{here_or, without, of_row, cells_of, rows_without}
use Rattle.table_model.specs.Soundness.{numbers_of, cell_value, column_values, AllWide}
use Rattle.table_model.proofs.Lists.{without-map}

-- ---- where no row has the number

neither : (a b : Bool) → (a || b) ≡ false → (a ≡ false) × (b ≡ false)
neither true b e = false_is_true (sym e)
neither false b e = (refl, e)

pub without-none : {A : Type 0} (number_of : A → ℕ) (number : ℕ) (rows : List A) → holds number (map number_of rows) ≡ false → without number_of number rows ≡ rows
unfolding without here_or holds
without-none number_of number [] none = refl
without-none number_of number (row ∷ rows) none =
    let both = neither (eqb (number_of row) number) (holds number (map number_of rows)) none in
    ap (λ (b : Bool). here_or b rows (row ∷ without number_of number rows)) both.0
    ∙ ap (λ (rest : List _). row ∷ rest) (without-none number_of number rows both.1)

pub of_row-none : {A C : Type 0} (number_of : A → ℕ) (what : A → List C) (number : ℕ) (rows : List A) → holds number (map number_of rows) ≡ false → of_row number_of what number rows ≡ []
unfolding of_row here_or holds
of_row-none number_of what number [] none = refl
of_row-none number_of what number (row ∷ rows) none =
    let both = neither (eqb (number_of row) number) (holds number (map number_of rows)) none in
    ap (λ (b : Bool). here_or b (what row) (of_row number_of what number rows)) both.0
    ∙ of_row-none number_of what number rows both.1

-- ---- the values of the others

one_if-twice : (a b : Bool) (n : ℕ) → one_if a (one_if b n) ≡ one_if b (one_if a n)
unfolding one_if
one_if-twice true true n = refl
one_if-twice true false n = refl
one_if-twice false true n = refl
one_if-twice false false n = refl

one_here : {B : Type 0} (v : B → ℕ) (column : ℕ) (row : Row B) (rows rest : List (Row B)) (cells : List B) (b : Bool)
    → (b ≡ false → IsOneMore (get_or (map v cells) column 0) (column_values v column rest) (column_values v column rows))
    → IsOneMore (get_or (map v (here_or b row.cells cells)) column 0) (column_values v column (here_or b rows (row ∷ rest))) (column_values v column (row ∷ rows))
unfolding IsOneMore tally column_values cell_value here_or
one_here v column row rows rest cells true one other = refl
one_here v column row rows rest cells false one other =
    let key = get_or (map v cells) column 0 in
    let x = get_or (map v row.cells) column 0 in
    ap (one_if (eqb x other)) (one refl other) ∙ one_if-twice (eqb x other) (eqb key other) (tally (column_values v column rest) other)

later_holds : (a b : Bool) → (a || b) ≡ true → a ≡ false → b ≡ true
later_holds true b e f = false_is_true (sym f)
later_holds false b e f = e

-- the rows are those without the row of a number, and it
pub one_without : {B : Type 0} (v : B → ℕ) (column number : ℕ) (rows : List (Row B)) → holds number (numbers_of rows) ≡ true → IsOneMore (get_or (map v (cells_of number rows)) column 0) (column_values v column (rows_without number rows)) (column_values v column rows)
unfolding numbers_of cells_of rows_without without of_row holds
one_without v column number [] h = false_is_true h
one_without v column number (row ∷ rows) h =
    one_here v column row rows (rows_without number rows) (cells_of number rows) (eqb row.number number)
    (λ other. one_without v column number rows (later_holds (eqb row.number number) (holds number (numbers_of rows)) h other))

le-one_if : (b : Bool) (n : ℕ) → n ≤ one_if b n
unfolding one_if
le-one_if true n = omega arith
le-one_if false n = omega arith

-- what is one of the earlier is one of the later
pub held-later : (key : ℕ) (earlier later : List ℕ) (other : ℕ) → IsOneMore key earlier later → holds other earlier ≡ true → holds other later ≡ true
unfolding IsOneMore
held-later key earlier later other one h =
    held-tally other later (omega (arith, tally-held other earlier h, one other, le-one_if (eqb key other) (tally earlier other)))

-- the one more is one of the later
pub held-new : (key : ℕ) (earlier later : List ℕ) → IsOneMore key earlier later → holds key later ≡ true
unfolding IsOneMore one_if
held-new key earlier later one =
    let e : tally later key ≡ suc (tally earlier key) = one key ∙ ap (λ (b : Bool). one_if b (tally earlier key)) (eq-eqb key key refl) in
    held-tally key later (omega (arith, e))

-- ---- numbers, widths and how many

wide_here : {B : Type 0} (width : ℕ) (row : Row B) (rows rest : List (Row B)) (b : Bool) → AllWide width (row ∷ rows) → AllWide width rest → AllWide width (here_or b rows (row ∷ rest))
unfolding AllWide here_or
wide_here width row rows rest true wide more = wide.1
wide_here width row rows rest false wide more = (wide.0, more)

pub wide-without : {B : Type 0} (width number : ℕ) (rows : List (Row B)) → AllWide width rows → AllWide width (rows_without number rows)
unfolding rows_without without AllWide
wide-without width number [] wide = wide
wide-without width number (row ∷ rows) wide = wide_here width row rows (rows_without number rows) (eqb row.number number) wide (wide-without width number rows wide.1)

cells_here : {B : Type 0} (width : ℕ) (here rest : List B) (b : Bool) → length here ≡ width → (b ≡ false → length rest ≡ width) → length (here_or b here rest) ≡ width
unfolding here_or
cells_here width here rest true h more = h
cells_here width here rest false h more = more refl

pub wide-cells : {B : Type 0} (width number : ℕ) (rows : List (Row B)) → AllWide width rows → holds number (numbers_of rows) ≡ true → length (cells_of number rows) ≡ width
unfolding cells_of of_row AllWide numbers_of holds
wide-cells width number [] wide h = false_is_true h
wide-cells width number (row ∷ rows) wide h =
    cells_here width row.cells (cells_of number rows) (eqb row.number number) wide.0
    (λ other. wide-cells width number rows wide.1 (later_holds (eqb row.number number) (holds number (numbers_of rows)) h other))

pub wide-last : {B : Type 0} (width : ℕ) (rows : List (Row B)) (row : Row B) → AllWide width rows → length row.cells ≡ width → AllWide width (rows ++ row ∷ [])
unfolding AllWide
wide-last width [] row wide h = (h, tt)
wide-last width (first ∷ rows) row wide h = (wide.0, wide-last width rows row wide.1 h)

length_here : {A : Type 0} (row : A) (rows rest : List A) (b : Bool) → length rest ≤ length rows → length (here_or b rows (row ∷ rest)) ≤ suc (length rows)
unfolding here_or
length_here row rows rest true h = omega arith
length_here row rows rest false h = omega (arith, h)

pub length-without : {A : Type 0} (number_of : A → ℕ) (number : ℕ) (rows : List A) → length (without number_of number rows) ≤ length rows
unfolding without
length-without number_of number [] = omega arith
length-without number_of number (row ∷ rows) = length_here row rows (without number_of number rows) (eqb (number_of row) number) (length-without number_of number rows)

abbrev itself : ℕ → ℕ
itself n = n

below_here : (w x : ℕ) (xs zs ys : List ℕ) (b : Bool) → IsBelowAll w (x ∷ (xs ++ ys)) → IsBelowAll w (zs ++ ys) → IsBelowAll w (here_or b xs (x ∷ zs) ++ ys)
unfolding IsBelowAll here_or
below_here w x xs zs ys true h more = h.1
below_here w x xs zs ys false h more = (h.0, more)

below-without : (w number : ℕ) (xs ys : List ℕ) → IsBelowAll w (xs ++ ys) → IsBelowAll w (without itself number xs ++ ys)
unfolding without IsBelowAll
below-without w number [] ys h = h
below-without w number (x ∷ xs) ys h = below_here w x xs (without itself number xs) ys (eqb x number) h (below-without w number xs ys h.1)

rising_here : (x : ℕ) (xs zs ys : List ℕ) (b : Bool) → IsIncreasing (x ∷ (xs ++ ys)) → IsBelowAll x (zs ++ ys) → IsIncreasing (zs ++ ys) → IsIncreasing (here_or b xs (x ∷ zs) ++ ys)
unfolding IsIncreasing here_or
rising_here x xs zs ys true up least more = up.1
rising_here x xs zs ys false up least more = (least, more)

rising-without : (number : ℕ) (xs ys : List ℕ) → IsIncreasing (xs ++ ys) → IsIncreasing (without itself number xs ++ ys)
unfolding without IsIncreasing
rising-without number [] ys up = up
rising-without number (x ∷ xs) ys up =
    rising_here x xs (without itself number xs) ys (eqb x number) up (below-without x number xs ys up.0) (rising-without number xs ys up.1)

pub numbers-without : {B : Type 0} (number : ℕ) (rows : List (Row B)) → numbers_of (rows_without number rows) ≡ without itself number (numbers_of rows)
unfolding numbers_of rows_without
numbers-without {B} number rows = sym (without-map (λ (row : Row B). row.number) (λ (row : Row B). row.number) itself number rows (λ row. refl))

pub numbered-without : {B : Type 0} (number next : ℕ) (rows : List (Row B)) → IsIncreasing (numbers_of rows ++ next ∷ []) → IsIncreasing (numbers_of (rows_without number rows) ++ next ∷ [])
numbered-without number next rows up =
    subst (λ (numbers : List ℕ). IsIncreasing (numbers ++ next ∷ [])) (sym (numbers-without number rows)) (rising-without number (numbers_of rows) (next ∷ []) up)

-- ---- one more number at the end

below-last : (w next : ℕ) (xs : List ℕ) → IsBelowAll w (xs ++ next ∷ []) → IsBelowAll w ((xs ++ next ∷ []) ++ suc next ∷ [])
unfolding IsBelowAll
below-last w next [] h = (h.0, (omega (arith, h.0), tt))
below-last w next (x ∷ xs) h = (h.0, below-last w next xs h.1)

pub rising-last : (next : ℕ) (xs : List ℕ) → IsIncreasing (xs ++ next ∷ []) → IsIncreasing ((xs ++ next ∷ []) ++ suc next ∷ [])
unfolding IsIncreasing IsBelowAll
rising-last next [] up = ((omega arith, tt), (tt, tt))
rising-last next (x ∷ xs) up = (below-last x next xs up.0, rising-last next xs up.1)

-- ---- the next number is new

below-at_end : (w next : ℕ) (xs : List ℕ) → IsBelowAll w (xs ++ next ∷ []) → w < next
unfolding IsBelowAll
below-at_end w next [] h = h.0
below-at_end w next (x ∷ xs) h = below-at_end w next xs h.1

none_held : {A : Type 0} (x : ℕ) → holds x [] ≡ true → A
unfolding holds
none_held x h = false_is_true h

pub number-old : (next : ℕ) (xs : List ℕ) (x : ℕ) → IsIncreasing (xs ++ next ∷ []) → holds x xs ≡ true → x < next
unfolding IsIncreasing
number-old next [] x up held = none_held x held
number-old next (y ∷ xs) x up held =
    elim (cases_eq y x) [
      | inl here ↦ omega (arith, below-at_end y next xs up.0, here)
      | inr past ↦ number-old next xs x up.1 (sym (holds-cons_ne x y xs past) ∙ held)
    ]

pub next-new : (next : ℕ) (xs : List ℕ) → IsIncreasing (xs ++ next ∷ []) → holds next xs ≡ false
next-new next xs up =
    elim (cases_Bool (holds next xs)) [
      | inl held ↦ absurd (omega (arith, number-old next xs next up held))
      | inr free ↦ free
    ]
