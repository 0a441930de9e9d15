-- The change that origins tell, by what they take and leave of the codes before and after.
use Rattle.std.proofs.Common.{◌≡◌, ℕ, suc, ◌+◌, ◌<◌, Bool, true, false, ◌||◌, eqb, ne_eqb, List, [], ◌∷◌, length, map, Option, Some, None, refl, ap, ◌∙◌, sym, inl, inr, arith}
use Rattle.std.specs.List.{range_with_len}
use Rattle.std.proofs.lemmas.Bool.{cases_eq, cases_Bool}
use Rattle.std.proofs.lemmas.List.{length-map}
use Rattle.tree_model.specs.Trees.{Tree}
use Rattle.tree_model.specs.Places.{holds, IsBelowAll, IsIncreasing}
use Rattle.tree_model.specs.Sums.{IsRising}
use Rattle.tree_model.proofs.Ordered.{holds-cons_ne}
use Rattle.tree_model.specs.Carried.{is_origin}
use Rattle.path_code.specs.Sums.{item_code, unless, moved_codes, added_codes, dropped_codes}
use Rattle.code_changes.specs.Changes.{differing, with_rows, without_rows}
use Rattle.code_changes.proofs.Lists.{holds-nil, same_members, ranks-up, holds-ranks}
use Rattle.code_changes.proofs.Rows.{IsIncreasing-with}

-- ---- origins as counts

unfoldable pub mark : Bool → ℕ
mark true = 1
mark false = 0

unfoldable pub has_origin : Option ℕ → ℕ
has_origin None = 0
has_origin (Some rank) = 1

-- 1 for each item after that comes from one before, and 0 for a new one
unfoldable pub marks : List (Option ℕ) → List ℕ
marks from = map has_origin from

-- the ranks that items come from
unfoldable pub origin_ranks : List (Option ℕ) → List ℕ
origin_ranks [] = []
origin_ranks (None ∷ from) = origin_ranks from
origin_ranks (Some rank ∷ from) = rank ∷ origin_ranks from

-- 1 for each of these ranks that an item comes from
unfoldable pub stays : List (Option ℕ) → List ℕ → List ℕ
stays from ranks = map (λ rank. mark (is_origin rank from)) ranks

pub length-marks : (from : List (Option ℕ)) → length (marks from) ≡ length from
unfolding marks
length-marks from = length-map from has_origin

pub length-with_marks : {A : Type 0} (from : List (Option ℕ)) (xs : List A) → length from ≡ length xs → length (with_rows (marks from) xs) ≡ length (origin_ranks from)
unfolding marks has_origin with_rows origin_ranks
length-with_marks [] xs many = refl
length-with_marks (o ∷ from) [] many = absurd (omega arith)
length-with_marks (None ∷ from) (x ∷ xs) many = length-with_marks from xs (omega arith)
length-with_marks (Some rank ∷ from) (x ∷ xs) many = ap suc (length-with_marks from xs (omega arith))

-- ---- the lists of the sum

next-range : (f : ℕ → ℕ) (rank count : ℕ) → map f (range_with_len (rank + 1) count) ≡ map f (range_with_len (suc rank) count)
next-range f rank count = let e : rank + 1 ≡ suc rank = omega arith in rw e refl

pub added_codes-marks : {B : Type 0} (u : Tree B) (rank : ℕ) (from : List (Option ℕ)) → added_codes u rank from ≡ without_rows (marks from) (map (item_code u) (range_with_len rank (length from)))
unfolding added_codes marks has_origin without_rows
added_codes-marks u rank [] = refl
added_codes-marks u rank (None ∷ from) =
    ap (λ (xs : List ℕ). item_code u rank ∷ xs) (added_codes-marks u (suc rank) from ∙ ap (without_rows (map has_origin from)) (sym (next-range (item_code u) rank (length from))))
added_codes-marks u rank (Some k ∷ from) = added_codes-marks u (suc rank) from ∙ ap (without_rows (map has_origin from)) (sym (next-range (item_code u) rank (length from)))

pub moved_codes-marks : {A B : Type 0} (t : Tree A) (u : Tree B) (rank : ℕ) (from : List (Option ℕ)) → moved_codes t u rank from ≡ differing (map (item_code t) (origin_ranks from)) (with_rows (marks from) (map (item_code u) (range_with_len rank (length from))))
unfolding moved_codes origin_ranks marks has_origin with_rows differing
moved_codes-marks t u rank [] = refl
moved_codes-marks t u rank (None ∷ from) =
    moved_codes-marks t u (suc rank) from ∙ ap (λ (xs : List ℕ). differing (map (item_code t) (origin_ranks from)) (with_rows (map has_origin from) xs)) (sym (next-range (item_code u) rank (length from)))
moved_codes-marks t u rank (Some k ∷ from) =
    ap (unless (eqb (item_code t k) (item_code u rank)) (record { old = item_code t k; new = item_code u rank }))
    (moved_codes-marks t u (suc rank) from ∙ ap (λ (xs : List ℕ). differing (map (item_code t) (origin_ranks from)) (with_rows (map has_origin from) xs)) (sym (next-range (item_code u) rank (length from))))

dropped-one : {A : Type 0} (b : Bool) (x : A) (counts : List ℕ) (xs : List A) → without_rows (mark b ∷ counts) (x ∷ xs) ≡ unless b x (without_rows counts xs)
unfolding without_rows mark unless
dropped-one true x counts xs = refl
dropped-one false x counts xs = refl

pub dropped_codes-stays : {A : Type 0} (t : Tree A) (from : List (Option ℕ)) (ranks : List ℕ) → dropped_codes t from ranks ≡ without_rows (stays from ranks) (map (item_code t) ranks)
unfolding dropped_codes stays without_rows
dropped_codes-stays t from [] = refl
dropped_codes-stays t from (k ∷ ranks) =
    ap (unless (is_origin k from) (item_code t k)) (dropped_codes-stays t from ranks)
    ∙ sym (dropped-one (is_origin k from) (item_code t k) (map (λ rank. mark (is_origin rank from)) ranks) (map (item_code t) ranks))

-- ---- the ranks that items come from, where they rise

pub holds-origin_ranks : (k : ℕ) (from : List (Option ℕ)) → holds k (origin_ranks from) ≡ is_origin k from
unfolding holds origin_ranks is_origin
holds-origin_ranks k [] = refl
holds-origin_ranks k (None ∷ from) = holds-origin_ranks k from
holds-origin_ranks k (Some j ∷ from) = ap (λ (b : Bool). eqb j k || b) (holds-origin_ranks k from)

origins-above : (v low high : ℕ) (from : List (Option ℕ)) → v < low → IsRising low high from → IsBelowAll v (origin_ranks from)
unfolding IsRising origin_ranks IsBelowAll
origins-above v low high [] lt up = tt
origins-above v low high (None ∷ from) lt up = origins-above v low high from lt up
origins-above v low high (Some k ∷ from) lt up = (omega (arith, up.0), origins-above v (suc k) high from (omega (arith, up.0)) up.2)

origins-up : (low high : ℕ) (from : List (Option ℕ)) → IsRising low high from → IsIncreasing (origin_ranks from)
unfolding IsRising origin_ranks IsIncreasing
origins-up low high [] up = tt
origins-up low high (None ∷ from) up = origins-up low high from up
origins-up low high (Some k ∷ from) up = (origins-above k (suc k) high from (omega arith) up.2, origins-up (suc k) high from up.2)

pub past-origin : (k j : ℕ) (from : List (Option ℕ)) → (j ≡ k → ⊥) → is_origin k (Some j ∷ from) ≡ is_origin k from
unfolding is_origin
past-origin k j from other = rw (ne_eqb j k other) refl

origin-within : (k low high : ℕ) (from : List (Option ℕ)) → IsRising low high from → is_origin k from ≡ true → k < high
unfolding IsRising is_origin
origin-within k low high [] up h = absurd (cc)
origin-within k low high (None ∷ from) up h = origin-within k low high from up h
origin-within k low high (Some j ∷ from) up h = elim (cases_eq j k) [ inl here ↦ omega (arith, up.1) | inr other ↦ origin-within k (suc j) high from up.2 (sym (past-origin k j from other) ∙ h) ]

stays-yes : (r : ℕ) (from : List (Option ℕ)) (rows xs : List ℕ) → is_origin r from ≡ true → with_rows (mark (is_origin r from) ∷ rows) (r ∷ xs) ≡ r ∷ with_rows rows xs
unfolding with_rows mark
stays-yes r from rows xs h = rw h refl

stays-no : (r : ℕ) (from : List (Option ℕ)) (rows xs : List ℕ) → is_origin r from ≡ false → with_rows (mark (is_origin r from) ∷ rows) (r ∷ xs) ≡ with_rows rows xs
unfolding with_rows mark
stays-no r from rows xs h = rw h refl

holds-same : (k r : ℕ) (xs ys : List ℕ) → holds k xs ≡ holds k ys → holds k (r ∷ xs) ≡ holds k (r ∷ ys)
unfolding holds
holds-same k r xs ys e = ap (λ (b : Bool). eqb r k || b) e

-- a rank that is an origin is kept, and no other
kept_origin : (k : ℕ) (from : List (Option ℕ)) (ranks : List ℕ) → is_origin k from ≡ true → holds k (with_rows (stays from ranks) ranks) ≡ holds k ranks
unfolding stays with_rows
kept_origin k from [] h = refl
kept_origin k from (r ∷ ranks) h =
    let ih = kept_origin k from ranks h in
    elim (cases_Bool (is_origin r from)) [
      | inl found ↦ ap (holds k) (stays-yes r from (stays from ranks) ranks found) ∙ holds-same k r (with_rows (stays from ranks) ranks) ranks ih
      | inr free ↦
          let other : r ≡ k → ⊥ = λ e. let f : true ≡ false = sym h ∙ ap (λ (j : ℕ). is_origin j from) (sym e) ∙ free in cc in
          ap (holds k) (stays-no r from (stays from ranks) ranks free) ∙ ih ∙ sym (holds-cons_ne k r ranks other)
    ]

kept_other : (k : ℕ) (from : List (Option ℕ)) (ranks : List ℕ) → is_origin k from ≡ false → holds k (with_rows (stays from ranks) ranks) ≡ false
unfolding stays with_rows
kept_other k from [] h = holds-nil k
kept_other k from (r ∷ ranks) h =
    elim (cases_Bool (is_origin r from)) [
      | inl found ↦
          let other : r ≡ k → ⊥ = λ e. let f : true ≡ false = sym found ∙ ap (λ (j : ℕ). is_origin j from) e ∙ h in cc in
          ap (holds k) (stays-yes r from (stays from ranks) ranks found) ∙ holds-cons_ne k r (with_rows (stays from ranks) ranks) other ∙ kept_other k from ranks h
      | inr free ↦ ap (holds k) (stays-no r from (stays from ranks) ranks free) ∙ kept_other k from ranks h
    ]

pub origin_ranks-stays : (n : ℕ) (from : List (Option ℕ)) → IsRising 0 n from → origin_ranks from ≡ with_rows (stays from (range_with_len 0 n)) (range_with_len 0 n)
origin_ranks-stays n from up =
    let ranks = range_with_len 0 n in
    same_members (origin_ranks from) (with_rows (stays from ranks) ranks) (origins-up 0 n from up) (IsIncreasing-with (stays from ranks) ranks (ranks-up 0 n)) (λ k.
    elim (cases_Bool (is_origin k from)) [
      | inl found ↦ holds-origin_ranks k from ∙ found ∙ sym (kept_origin k from ranks found ∙ holds-ranks k 0 n (omega arith) (omega (arith, origin-within k 0 n from up found)))
      | inr free ↦ holds-origin_ranks k from ∙ free ∙ sym (kept_other k from ranks free)
    ])
