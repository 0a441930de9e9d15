-- The rows of a table, some at a time; and the entries of rows with what they are put in order by.
use Rattle.std.proofs.Common.{◌≡◌, ℕ, zero, suc, ◌+◌, ◌-◌, ◌<◌, ◌≤◌, Bool, true, false, List, [], ◌∷◌, ◌++◌, length, map, take, drop, slice_get, Option, Some, None, refl, ap, ap₂, ◌∙◌, sym, arith, length-append}
use Rattle.std.specs.Option.{option_to_list, is_some}
use Rattle.std.proofs.Math.Seq.{take-add}
use Rattle.std.proofs.lemmas.List.{map-append, drop-take, take_all}
use Rattle.mope_base.specs.declared.body.Body.{Body}
use Rattle.mope_base.specs.declared.numbers.ColNo.{ColNo}
use Rattle.table_model.specs.Stores.{Kept, Shelf}
use Rattle.table_model.specs.Soundness.{kept_numbers}
use Rattle.column_index.specs.declared.entry.Entry.{Entry}
use Rattle.workload.specs.declared.script.Verb.TheVariants as verb
use Rattle.workload.specs.Selection.{passes, in_order, first_of, chosen}
use Rattle.sql_plan.specs.declared.bounds.Bound.{Bound}
use Rattle.sql_plan.specs.declared.bounds.Query.{Query}
use Rattle.sql_plan.specs.Bounds.{as_test}
use Rattle.sql_plan.specs.Plans.{by_code, passing, rows_found}
use Rattle.sql_plan.specs.Walks.{within, keyed, keyed_rows, rows_of}
use Rattle.sql_plan.proofs.Filtering.{filter-all}
use Rattle.sql_plan.proofs.Found.{first-numbers}

take-nothing : {X : Type 0} (n m : ℕ) → take {A = X} n (take m []) ≡ take n []
take-nothing n zero = refl
take-nothing n (suc m) = refl

front-take : {X : Type 0} (n m : ℕ) (xs : List X) → take n (take (n + m) xs) ≡ take n xs
front-take zero m xs = refl
front-take (suc n) m [] = take-nothing (suc n) (suc n + m)
front-take (suc n) m (x ∷ xs) = let e : suc n + m ≡ suc (n + m) = omega arith in ap (λ (k : ℕ). take (suc n) (take k (x ∷ xs))) e ∙ ap (λ (ys : List _). x ∷ ys) (front-take n m xs)

take-less : {X : Type 0} (n m : ℕ) (xs : List X) → n ≤ m → take n (take m xs) ≡ take n xs
take-less n m xs le =
    let more : n + (m - n) ≡ m = omega arith in
    ap (λ (k : ℕ). take n (take k xs)) (sym more) ∙ front-take n (m - n) xs

pub page-more : {X : Type 0} (xs rows page : List X) (n part : ℕ) → rows ≡ take n xs → page ≡ take (length page) (drop n xs) → part ≤ length page → rows ++ take part page ≡ take (n + part) xs
page-more xs rows page n part is run le =
    ap₂ (λ (a b : List _). a ++ take part b) is run
    ∙ ap (λ (b : List _). take n xs ++ b) (take-less part (length page) (drop n xs) le) ∙ sym (take-add n part xs)

pub keyed-append : (s : Shelf Body) (order : Option (ColNo × Bool)) (xs ys : List Entry) → keyed_rows s order (xs ++ ys) ≡ keyed_rows s order xs ++ keyed_rows s order ys
unfolding keyed_rows
keyed-append s order xs ys = map-append (λ (e : Entry). keyed s order e.row) xs ys

pub length-some : {X : Type 0} (xs : List X) (o : Option X) → is_some o ≡ true → length (xs ++ option_to_list o) ≡ length xs + 1
length-some xs None some = absurd (cc)
length-some xs (Some x) some = length-append xs (x ∷ [])

pub length-none : {X : Type 0} (xs : List X) (o : Option X) → is_some o ≡ false → length (xs ++ option_to_list o) ≡ length xs
length-none xs None none = omega (arith, length-append xs [])
length-none xs (Some x) none = absurd (cc)

-- without bounds and order
all-rows : (s : Shelf Body) → passing s [] ≡ s.kept
unfolding passing passes
all-rows s = filter-all (λ (row : Kept Body). true) s.kept (λ k d lt. refl)

pub count-all : (s : Shelf Body) (bounds : List Bound) → bounds ≡ [] → length s.kept ≡ length (passing s bounds)
count-all s bounds none = sym (ap length (ap (passing s) none ∙ all-rows s))

pub all-found : (s : Shelf Body) (q : Query) → q.bounds ≡ [] → q.order ≡ None → first_of q.limit (kept_numbers s.kept) ≡ rows_found s q
unfolding rows_found chosen in_order
all-found s q none unordered =
    first-numbers q.limit s.kept
    ∙ ap (λ (rows : List (Kept Body)). kept_numbers (first_of q.limit rows)) (sym (all-rows s))
    ∙ sym (ap₂ (λ (bounds : List Bound) (order : Option (ColNo × Bool)). kept_numbers (first_of q.limit (in_order (by_code s) order (passing s bounds)))) none unordered)
