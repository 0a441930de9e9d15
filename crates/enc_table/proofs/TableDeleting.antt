-- Rows deleted one after the other: what is left, and what became of the codes of each column.
use Rattle.std.proofs.Common.{◌≡◌, ◌≢◌, ℕ, suc, zero, ◌+◌, ◌<◌, ◌≤◌, Bool, true, false, ◌||◌, Option, Some, None, List, [], ◌∷◌, ◌++◌, length, map, get_or, take, drop, replicate, refl, ap, ap₂, ◌∙◌, sym, subst, inl, inr, arith, add-one, eqb, eq-eqb, ne_eqb}
use Rattle.std.proofs.lemmas.Bool.{cases_eq, cases_Bool}
use Rattle.std.proofs.lemmas.List.{length-map}
use Rattle.std.proofs.Math.Seq.{take-suc, take-length}
use Rattle.std.specs.Option.{IsSome}
use Rattle.std.specs.Prelude.{MatchOption, slice_get}
use Rattle.mope_base.specs.declared.body.Body.{Body}
use Rattle.tree_model.specs.Places.{IsIncreasing, IsBelowAll, holds}
use Rattle.tree_model.specs.Columns.{Column, Operation, empty_column}
use Rattle.tree_model.proofs.CarriedRanks.{false_is_true}
use Rattle.path_code.specs.Sums.{Sum}
use Rattle.table_model.specs.Stores.{Kept, Shelf}
use Rattle.table_model.specs.Steps.{drops, kept_after, operated}
use Rattle.table_model.specs.Changes.{here_or, without, ranks_of, kept_without, shelf_without, delete_row, delete_rows}
use Rattle.table_model.specs.Soundness.{kept_numbers}
use Rattle.table_model.specs.Fitting.{AllAmong}
use Rattle.table_model.proofs.Lists.{without-map}
use Rattle.enc_table.specs.Seen.{Seen, IsTable, emptied, spent_table, with_shelf}
use Rattle.enc_table.specs.Sums.{sums, before_each, delete_sums}
use Rattle.enc_table.specs.Fields.{after_each}
use Rattle.enc_table.proofs.TableDropping.{length-after_each}
use Rattle.enc_table.proofs.KeptSteps.{Row, numbers-after}
use Rattle.enc_table.proofs.KeptDrops.{delete-kept, delete-next, delete-width}

-- ---- the position of a number that is there

pub some-of : (r : Option ℕ) (number : ℕ) (numbers : List ℕ) → MatchOption r (holds number numbers ≡ false) (λ position. slice_get numbers position ≡ Some number) → holds number numbers ≡ true → IsSome r
some-of None number numbers m live = false_is_true (sym m ∙ live)
some-of (Some position) number numbers m live = refl

pub found-at : (r : Option ℕ) (position number : ℕ) (numbers : List ℕ) → MatchOption r (holds number numbers ≡ false) (λ p. slice_get numbers p ≡ Some number) → r ≡ Some position → slice_get numbers position ≡ Some number
found-at r position number numbers m e = subst (λ (o : Option ℕ). MatchOption o (holds number numbers ≡ false) (λ p. slice_get numbers p ≡ Some number)) e m

none-held : {A : Type 0} (x : ℕ) → holds x [] ≡ true → A
unfolding holds
none-held x h = false_is_true h

none-kept : {A : Type 0} (s : Shelf Body) (number : ℕ) → holds number (kept_numbers (emptied s).kept) ≡ true → A
unfolding emptied kept_numbers
none-kept s number h = none-held number h

-- a table with a row isn't spent
pub live-fresh : (t : Seen) (number : ℕ) → IsTable t → holds number (kept_numbers t.shelf.kept) ≡ true → t.spent ≡ false
live-fresh t number is live =
    elim (cases_Bool t.spent) [
      | inl spent ↦ none-kept t.shelf number (ap (λ (s : Shelf Body). holds number (kept_numbers s.kept)) (sym (is.gone spent)) ∙ live)
      | inr fresh ↦ fresh
    ]

-- ---- the numbers that are left

abbrev itself : ℕ → ℕ
itself n = n

deleted-numbers : (same_time : Bool) (number : ℕ) (s : Shelf Body) → kept_numbers (delete_row same_time number s).kept ≡ without itself number (kept_numbers s.kept)
unfolding kept_numbers kept_without
deleted-numbers same_time number s =
    ap (λ (rs : List Row). kept_numbers rs) (delete-kept same_time number s)
    ∙ numbers-after same_time (drops (ranks_of number s.kept)) s.columns (kept_without number s.kept)
    ∙ sym (without-map (λ (row : Row). row.number) (λ (row : Row). row.number) itself number s.kept (λ row. refl))

-- another number stays
holds-here : (x y : ℕ) (xs : List ℕ) → y ≡ x → holds x (y ∷ xs) ≡ true
unfolding holds
holds-here x y xs e = ap (λ (b : Bool). b || holds x xs) (eq-eqb y x e)

holds-later : (x y : ℕ) (xs : List ℕ) → holds x xs ≡ true → holds x (y ∷ xs) ≡ true
unfolding holds
holds-later x y xs h = either (eqb y x) (holds x xs) h
  where
    either : (a b : Bool) → b ≡ true → (a || b) ≡ true
    either true b h = refl
    either false b h = h

holds-past : (x y : ℕ) (xs : List ℕ) → y ≢ x → holds x (y ∷ xs) ≡ true → holds x xs ≡ true
unfolding holds
holds-past x y xs ne h = ap (λ (b : Bool). b || holds x xs) (sym (ne_eqb y x ne)) ∙ h

stays-here : (x y : ℕ) (ys rest : List ℕ) (b : Bool) → holds x ys ≡ true → holds x (y ∷ rest) ≡ true → holds x (here_or b ys (y ∷ rest)) ≡ true
unfolding here_or
stays-here x y ys rest true h k = h
stays-here x y ys rest false h k = k

other-here : (x number y : ℕ) (xs : List ℕ) → y ≡ x → number ≢ x → holds x (here_or (eqb y number) xs (y ∷ without itself number xs)) ≡ true
unfolding here_or
other-here x number y xs e ne =
    ap (λ (b : Bool). holds x (here_or b xs (y ∷ without itself number xs))) (ne_eqb y number (λ same. ne (sym same ∙ e))) ∙ holds-here x y (without itself number xs) e

stays : (x number : ℕ) (xs : List ℕ) → number ≢ x → holds x xs ≡ true → holds x (without itself number xs) ≡ true
unfolding without
stays x number [] ne h = none-held x h
stays x number (y ∷ xs) ne h =
    elim (cases_eq y x) [
      | inl e ↦ other-here x number y xs e ne
      | inr far ↦
          let more = holds-past x y xs far h in
          stays-here x y xs (without itself number xs) (eqb y number) more (holds-later x y (without itself number xs) (stays x number xs ne more))
    ]

pub among-left : (number : ℕ) (numbers xs : List ℕ) → IsBelowAll number xs → AllAmong numbers xs → AllAmong (without itself number numbers) xs
unfolding IsBelowAll AllAmong
among-left number numbers [] below all = tt
among-left number numbers (x ∷ xs) below all = (let ne : number ≢ x = omega (arith, below.0) in stays x number numbers ne all.0, among-left number numbers xs below.1 all.1)

-- ---- one row after the other

pub rows-last : (same_time : Bool) (xs : List ℕ) (number : ℕ) (s : Shelf Body) → delete_rows same_time (xs ++ number ∷ []) s ≡ delete_row same_time number (delete_rows same_time xs s)
unfolding delete_rows
rows-last same_time [] number s = refl
rows-last same_time (x ∷ xs) number s = rows-last same_time xs number (delete_row same_time x s)

before-after : {A : Type 0} (xs : List A) (lists : List (List A)) (ys : List A) → before_each xs (after_each lists ys) ≡ after_each (before_each xs lists) ys
unfolding before_each after_each
before-after [] lists ys = refl
before-after (x ∷ xs) [] ys = refl
before-after (x ∷ xs) (list ∷ lists) [] = refl
before-after (x ∷ xs) (list ∷ lists) (y ∷ ys) = ap (λ (rest : List (List _)). (x ∷ (list ++ y ∷ [])) ∷ rest) (before-after xs lists ys)

abbrev nothing_each : List (Column Body) → List (List Sum)
nothing_each cs = map (λ c. []) cs

before-nothing : (xs : List Sum) (cs ds : List (Column Body)) → length ds ≡ length cs → before_each xs (nothing_each ds) ≡ after_each (nothing_each cs) xs
unfolding before_each after_each
before-nothing [] [] [] e = refl
before-nothing (x ∷ xs) [] [] e = refl
before-nothing xs [] (d ∷ ds) e = absurd (omega (arith, e))
before-nothing xs (c ∷ cs) [] e = absurd (omega (arith, e))
before-nothing [] (c ∷ cs) (d ∷ ds) e = ap (λ (rest : List (List Sum)). [] ∷ rest) (same-nothing cs ds (omega (arith, e)))
  where
    same-nothing : (cs ds : List (Column Body)) → length ds ≡ length cs → nothing_each ds ≡ nothing_each cs
    same-nothing [] [] e = refl
    same-nothing [] (d ∷ ds) e = absurd (omega (arith, e))
    same-nothing (c ∷ cs) [] e = absurd (omega (arith, e))
    same-nothing (c ∷ cs) (d ∷ ds) e = ap (λ (rest : List (List Sum)). [] ∷ rest) (same-nothing cs ds (omega (arith, e)))
before-nothing (x ∷ xs) (c ∷ cs) (d ∷ ds) e = ap (λ (rest : List (List Sum)). (x ∷ []) ∷ rest) (before-nothing xs cs ds (omega (arith, e)))

abbrev row_sums : Bool → ℕ → Shelf Body → List Sum
row_sums same_time number s = sums same_time (drops (ranks_of number s.kept)) s.columns

pub sums-last : (same_time : Bool) (xs : List ℕ) (number : ℕ) (s : Shelf Body) → delete_sums same_time (xs ++ number ∷ []) s ≡ after_each (delete_sums same_time xs s) (row_sums same_time number (delete_rows same_time xs s))
unfolding delete_sums delete_rows
sums-last same_time [] number s = before-nothing (row_sums same_time number s) s.columns (delete_row same_time number s).columns (delete-width same_time number s)
sums-last same_time (x ∷ xs) number s =
    let next = delete_row same_time x s in
    ap (before_each (row_sums same_time x s)) (sums-last same_time xs number next)
    ∙ before-after (row_sums same_time x s) (delete_sums same_time xs next) (row_sums same_time number (delete_rows same_time xs next))

pub sums-first : (same_time : Bool) (s : Shelf Body) → replicate (length s.columns) [] ≡ delete_sums same_time [] s
unfolding delete_sums
sums-first same_time s = nothings s.columns
  where
    nothings : (cs : List (Column Body)) → replicate (length cs) [] ≡ nothing_each cs
    nothings [] = refl
    nothings (c ∷ cs) = ap (λ (rest : List (List Sum)). [] ∷ rest) (nothings cs)

rows-next : (same_time : Bool) (xs : List ℕ) (s : Shelf Body) → (delete_rows same_time xs s).next ≡ s.next
unfolding delete_rows
rows-next same_time [] s = refl
rows-next same_time (x ∷ xs) s = rows-next same_time xs (delete_row same_time x s) ∙ delete-next same_time x s

rows-width : (same_time : Bool) (xs : List ℕ) (s : Shelf Body) → length (delete_rows same_time xs s).columns ≡ length s.columns
unfolding delete_rows
rows-width same_time [] s = refl
rows-width same_time (x ∷ xs) s = rows-width same_time xs (delete_row same_time x s) ∙ delete-width same_time x s

-- the table after the first of the rows, and what became of the codes so far
pub record DeletedTo (first now : Seen) (rows : List ℕ) (at : ℕ) (changes : List (List Sum)) : Type 0 where
  pub table : now ≡ with_shelf (delete_rows first.same_time (take at rows) first.shelf) first
  pub summed : changes ≡ delete_sums first.same_time (take at rows) first.shelf
  pub wide : length changes ≡ length now.shelf.columns
  pub live : AllAmong (kept_numbers now.shelf.kept) (drop at rows)

same-again : (t : Seen) (s : Shelf Body) → s ≡ t.shelf → t ≡ with_shelf s t
unfolding with_shelf
same-again t s e = ap (λ (r : Shelf Body). let u : Seen = record { shelf = r; same_time = t.same_time; limit = t.limit; stamps = t.stamps; spent = t.spent } in u) (sym e)

no-rows : (same_time : Bool) (s : Shelf Body) → delete_rows same_time [] s ≡ s
unfolding delete_rows
no-rows same_time s = refl

width-first : (same_time : Bool) (s : Shelf Body) → length (delete_sums same_time [] s) ≡ length s.columns
unfolding delete_sums
width-first same_time s = length-map s.columns _

pub deleted-none : (t : Seen) (rows : List ℕ) (changes : List (List Sum)) → changes ≡ replicate (length t.shelf.columns) [] → AllAmong (kept_numbers t.shelf.kept) rows → DeletedTo t t rows 0 changes
deleted-none t rows changes e live =
    let first = e ∙ sums-first t.same_time t.shelf in
    record {
      table = same-again t (delete_rows t.same_time [] t.shelf) (no-rows t.same_time t.shelf);
      summed = first;
      wide = ap (λ (xs : List (List Sum)). length xs) first ∙ width-first t.same_time t.shelf;
      live = live;
    }

drop-step : (rows : List ℕ) (at : ℕ) → at < length rows → drop at rows ≡ get_or rows at 0 ∷ drop (suc at) rows
drop-step [] at h = absurd (omega (arith, h))
drop-step (x ∷ rows) zero h = refl
drop-step (x ∷ rows) (suc at) h = drop-step rows at (omega (arith, h))

below-later : (rows : List ℕ) (at : ℕ) → IsIncreasing rows → at < length rows → IsBelowAll (get_or rows at 0) (drop (suc at) rows)
unfolding IsIncreasing
below-later [] at up h = absurd (omega (arith, h))
below-later (x ∷ rows) zero up h = up.0
below-later (x ∷ rows) (suc at) up h = below-later rows at up.1 (omega (arith, h))

among-cons : (numbers : List ℕ) (x : ℕ) (xs : List ℕ) → AllAmong numbers (x ∷ xs) → (holds x numbers ≡ true) × AllAmong numbers xs
unfolding AllAmong
among-cons numbers x xs all = (all.0, all.1)

pub live-now : (first now : Seen) (rows : List ℕ) (at : ℕ) (changes : List (List Sum)) → DeletedTo first now rows at changes → at < length rows → holds (get_or rows at 0) (kept_numbers now.shelf.kept) ≡ true
live-now first now rows at changes so h = (among-cons (kept_numbers now.shelf.kept) (get_or rows at 0) (drop (suc at) rows) (subst (AllAmong (kept_numbers now.shelf.kept)) (drop-step rows at h) so.live)).0

with-same : (s : Shelf Body) (t : Seen) → (with_shelf s t).same_time ≡ t.same_time
unfolding with_shelf
with-same s t = refl

with-it : (s : Shelf Body) (t : Seen) → (with_shelf s t).shelf ≡ s
unfolding with_shelf
with-it s t = refl

with-twice : (s r : Shelf Body) (t : Seen) → with_shelf s (with_shelf r t) ≡ with_shelf s t
unfolding with_shelf
with-twice s r t = refl

pub deleted-step : (first now : Seen) (rows : List ℕ) (at : ℕ) (changes : List (List Sum)) (after : Seen) (longer : List (List Sum)) → DeletedTo first now rows at changes → IsIncreasing rows → at < length rows
    → after ≡ with_shelf (delete_row now.same_time (get_or rows at 0) now.shelf) now → longer ≡ after_each changes (row_sums now.same_time (get_or rows at 0) now.shelf) → DeletedTo first after rows (suc at) longer
deleted-step first now rows at changes after longer so up h table sum =
    let number = get_or rows at 0 in
    let done = take at rows in
    let s = delete_rows first.same_time done first.shelf in
    let mode : now.same_time ≡ first.same_time = ap (λ (u : Seen). u.same_time) so.table ∙ with-same s first in
    let shelf : now.shelf ≡ s = ap (λ (u : Seen). u.shelf) so.table ∙ with-it s first in
    let one : delete_row now.same_time number now.shelf ≡ delete_row first.same_time number s = ap₂ (λ (m : Bool) (r : Shelf Body). delete_row m number r) mode shelf in
    let more : take (suc at) rows ≡ done ++ number ∷ [] = take-suc rows at 0 h in
    let all : delete_row now.same_time number now.shelf ≡ delete_rows first.same_time (take (suc at) rows) first.shelf =
    one ∙ sym (rows-last first.same_time done number first.shelf) ∙ ap (λ (xs : List ℕ). delete_rows first.same_time xs first.shelf) (sym more) in
    let is : after.shelf ≡ delete_row now.same_time number now.shelf = ap (λ (u : Seen). u.shelf) table ∙ with-it (delete_row now.same_time number now.shelf) now in
    record {
      table = table ∙ ap₂ (λ (r : Shelf Body) (u : Seen). with_shelf r u) all so.table ∙ with-twice (delete_rows first.same_time (take (suc at) rows) first.shelf) s first;
      summed =
          sum ∙ ap₂ (λ (xs : List (List Sum)) (ys : List Sum). after_each xs ys) so.summed (ap₂ (λ (m : Bool) (r : Shelf Body). row_sums m number r) mode shelf)
          ∙ sym (sums-last first.same_time done number first.shelf) ∙ ap (λ (xs : List ℕ). delete_sums first.same_time xs first.shelf) (sym more);
      wide =
          ap (λ (xs : List (List Sum)). length xs) sum ∙ length-after_each changes (row_sums now.same_time number now.shelf) ∙ so.wide
          ∙ sym (delete-width now.same_time number now.shelf) ∙ ap (λ (r : Shelf Body). length r.columns) (sym is);
      live =
          subst (λ (ns : List ℕ). AllAmong ns (drop (suc at) rows)) (sym (ap (λ (r : Shelf Body). kept_numbers r.kept) is ∙ deleted-numbers now.same_time number now.shelf))
          (among-left number (kept_numbers now.shelf.kept) (drop (suc at) rows) (below-later rows at up h)
          (among-cons (kept_numbers now.shelf.kept) number (drop (suc at) rows) (subst (AllAmong (kept_numbers now.shelf.kept)) (drop-step rows at h) so.live)).1);
    }

pub deleted-table : (first now : Seen) (rows : List ℕ) (at : ℕ) (changes : List (List Sum)) → DeletedTo first now rows at changes → at ≡ length rows → now ≡ with_shelf (delete_rows first.same_time rows first.shelf) first
deleted-table first now rows at changes so all =
    so.table ∙ ap (λ (xs : List ℕ). with_shelf (delete_rows first.same_time xs first.shelf) first) (ap (λ (n : ℕ). take n rows) all ∙ take-length rows)

pub deleted-sums : (first now : Seen) (rows : List ℕ) (at : ℕ) (changes : List (List Sum)) → DeletedTo first now rows at changes → at ≡ length rows → changes ≡ delete_sums first.same_time rows first.shelf
deleted-sums first now rows at changes so all =
    so.summed ∙ ap (λ (xs : List ℕ). delete_sums first.same_time xs first.shelf) (ap (λ (n : ℕ). take n rows) all ∙ take-length rows)

-- what is left of it after an error is what is left of the first
pub spent-later : (first now : Seen) (rows : List ℕ) (at : ℕ) (changes : List (List Sum)) → DeletedTo first now rows at changes → spent_table now ≡ spent_table first
unfolding spent_table emptied with_shelf
spent-later first now rows at changes so =
    let s = delete_rows first.same_time (take at rows) first.shelf in
    ap spent_table so.table
    ∙ ap₂ (λ (n w : ℕ). let u : Seen = record { shelf = record { kept = []; next = n; columns = replicate w (empty_column Body) }; same_time = first.same_time; limit = first.limit; stamps = first.stamps; spent = true } in u) (rows-next first.same_time (take at rows) first.shelf) (rows-width first.same_time (take at rows) first.shelf)
