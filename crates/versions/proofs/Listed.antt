-- The list of changed columns, one column and one table after the other.
use Rattle.std.proofs.Common.{◌≡◌, ℕ, suc, zero, ◌+◌, ◌<◌, Bool, true, false, ◌&&◌, List, [], ◌∷◌, ◌++◌, length, take, get_or, refl, ap, ap₂, sym, ◌∙◌, arith, append_assoc}
use Rattle.std.proofs.lemmas.List.{append-nil}
use Rattle.mope_base.specs.declared.body.Body.{Body}
use Rattle.tree_model.specs.Columns.{Column, Operation}
use Rattle.path_code.specs.Sums.{Sum, sum_of, unless}
use Rattle.code_changes.specs.CompositionLaws.{unchanged}
use Rattle.table_model.specs.Stores.{Shelf}
use Rattle.table_model.specs.Steps.{only}
use Rattle.table_model.specs.Soundness.{column_at}
use Rattle.table_model.specs.Operations.{shelf_at}
use Rattle.versions.specs.declared.change.ColumnChange.{ColumnChange}
use Rattle.versions.specs.Changes.{is_nothing, leaves_codes, listed, column_changes, table_changes}
use Rattle.versions.proofs.Chains.{sum-none}

-- ---- a change that leaves all codes, and another

pub listed-unchanged : (table column : ℕ) (changes : List ColumnChange) → listed table column unchanged changes ≡ changes
unfolding listed leaves_codes is_nothing unless unchanged
listed-unchanged table column changes = refl

nothing-is : {A : Type 0} (xs : List A) → is_nothing xs ≡ true → xs ≡ []
unfolding is_nothing
nothing-is [] h = refl
nothing-is (x ∷ xs) h = absurd (cc h)

both-true : (a b : Bool) → (a && b) ≡ true → (a ≡ true) × (b ≡ true)
both-true true b h = (refl, h)
both-true false b h = absurd (cc h)

leaves-is : (s : Sum) → leaves_codes s ≡ true → s ≡ unchanged
unfolding leaves_codes unchanged
leaves-is s h =
    let outer = both-true (is_nothing s.moved && is_nothing s.dropped) (is_nothing s.added) h in
    let inner = both-true (is_nothing s.moved) (is_nothing s.dropped) outer.0 in
    let e : s.moved ≡ [] = nothing-is s.moved inner.0 in
    let f : s.dropped ≡ [] = nothing-is s.dropped inner.1 in
    let g : s.added ≡ [] = nothing-is s.added outer.1 in
    ap₂ (λ (x : List _) (y : List ℕ × List ℕ). let r : Sum = record { moved = x; dropped = y.0; added = y.1 } in r) e
    (ap₂ (λ (y z : List ℕ). let p : List ℕ × List ℕ = (y, z) in p) f g)

listed-by : (table column : ℕ) (s : Sum) (b : Bool) → leaves_codes s ≡ b → (s ≡ unchanged → ⊥) → listed table column s [] ≡ record { table = record { 0 = table }; column = record { 0 = column }; summary = s } ∷ []
unfolding listed unless
listed-by table column s true e h = absurd (h (leaves-is s e))
listed-by table column s false e h = rw e refl

pub listed-changed : (table column : ℕ) (s : Sum) → (s ≡ unchanged → ⊥) → listed table column s [] ≡ record { table = record { 0 = table }; column = record { 0 = column }; summary = s } ∷ []
listed-changed table column s h = listed-by table column s (leaves_codes s) refl h

unless-append : {A : Type 0} (b : Bool) (x : A) (xs ys : List A) → unless b x (xs ++ ys) ≡ unless b x xs ++ ys
unfolding unless
unless-append true x xs ys = refl
unless-append false x xs ys = refl

listed-append : (table column : ℕ) (s : Sum) (xs ys : List ColumnChange) → listed table column s (xs ++ ys) ≡ listed table column s xs ++ ys
unfolding listed
listed-append table column s xs ys = unless-append (leaves_codes s) _ xs ys

-- ---- one column more

pub no-columns : (same_time : Bool) (table column : ℕ) (steps : List (List (Operation Body))) → column_changes same_time table column steps [] ≡ []
unfolding column_changes
no-columns same_time table column [] = refl
no-columns same_time table column (operations ∷ more) = refl

pub no-steps : (same_time : Bool) (table column : ℕ) (cs : List (Column Body)) → column_changes same_time table column [] cs ≡ []
unfolding column_changes
no-steps same_time table column cs = refl

pub columns-more : (same_time : Bool) (table first : ℕ) (steps : List (List (Operation Body))) (cs : List (Column Body)) (column : ℕ) → column < length cs
    → column_changes same_time table first steps (take (suc column) cs) ≡ column_changes same_time table first steps (take column cs) ++ listed table (first + column) (sum_of same_time (get_or steps column []) (column_at cs column)) []
unfolding column_changes column_at
columns-more same_time table first steps [] column h = absurd (omega (arith, h))
columns-more same_time table first [] (c ∷ cs) column h =
    sym (ap (λ (s : Sum). listed table (first + column) s []) (sum-none same_time (get_or (c ∷ cs) column _)) ∙ listed-unchanged table (first + column) [])
columns-more same_time table first (operations ∷ more) (c ∷ cs) zero h =
    let place : first + 0 ≡ first = omega arith in
    ap (listed table first (sum_of same_time operations c)) (no-columns same_time table (suc first) more)
    ∙ ap (λ (n : ℕ). listed table n (sum_of same_time operations c) []) (sym place)
columns-more same_time table first (operations ∷ more) (c ∷ cs) (suc column) h =
    let place : suc first + column ≡ first + suc column = omega arith in
    let s = sum_of same_time operations c in
    let next = sum_of same_time (get_or more column []) (column_at cs column) in
    ap (listed table first s) (columns-more same_time table (suc first) more cs column (omega (arith, h)) ∙ ap (λ (n : ℕ). column_changes same_time table (suc first) more (take column cs) ++ listed table n next []) place)
    ∙ listed-append table first s (column_changes same_time table (suc first) more (take column cs)) (listed table (first + suc column) next [])

-- one column alone
pub only-column : (same_time : Bool) (table first column : ℕ) (operations : List (Operation Body)) (cs : List (Column Body)) → column < length cs
    → column_changes same_time table first (only column operations) cs ≡ listed table (first + column) (sum_of same_time operations (column_at cs column)) []
unfolding column_changes only column_at
only-column same_time table first column operations [] h = absurd (omega (arith, h))
only-column same_time table first zero operations (c ∷ cs) h =
    let place : first + 0 ≡ first = omega arith in
    ap (λ (n : ℕ). listed table n (sum_of same_time operations c) []) (sym place)
only-column same_time table first (suc column) operations (c ∷ cs) h =
    let place : suc first + column ≡ first + suc column = omega arith in
    ap (λ (s : Sum). listed table first s (column_changes same_time table (suc first) (only column operations) cs)) (sum-none same_time c)
    ∙ listed-unchanged table first (column_changes same_time table (suc first) (only column operations) cs)
    ∙ only-column same_time table (suc first) column operations cs (omega (arith, h))
    ∙ ap (λ (n : ℕ). listed table n (sum_of same_time operations (column_at cs column)) []) place

-- ---- one table more

pub tables-more : (same_time : Bool) (steps : ℕ → List (List (Operation Body))) (first : ℕ) (shelves : List (Shelf Body)) (table : ℕ) → table < length shelves
    → table_changes same_time steps first (take (suc table) shelves) ≡ table_changes same_time steps first (take table shelves) ++ column_changes same_time (first + table) 0 (steps (first + table)) (shelf_at shelves table).columns
unfolding table_changes shelf_at
tables-more same_time steps first [] table h = absurd (omega (arith, h))
tables-more same_time steps first (s ∷ shelves) zero h =
    let place : first + 0 ≡ first = omega arith in
    append-nil (column_changes same_time first 0 (steps first) s.columns)
    ∙ ap (λ (n : ℕ). column_changes same_time n 0 (steps n) s.columns) (sym place)
tables-more same_time steps first (s ∷ shelves) (suc table) h =
    let place : suc first + table ≡ first + suc table = omega arith in
    let here = column_changes same_time first 0 (steps first) s.columns in
    ap (λ (rest : List ColumnChange). here ++ rest)
    (tables-more same_time steps (suc first) shelves table (omega (arith, h)) ∙ ap (λ (n : ℕ). table_changes same_time steps (suc first) (take table shelves) ++ column_changes same_time n 0 (steps n) (shelf_at shelves table).columns) place)
    ∙ sym (append_assoc here (table_changes same_time steps (suc first) (take table shelves)) (column_changes same_time (first + suc table) 0 (steps (first + suc table)) (shelf_at shelves table).columns))
