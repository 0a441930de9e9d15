-- Under a list of operations codes follow their items.
use Rattle.std.proofs.Common.{◌≡◌, ◌≢◌, ℕ, suc, zero, ◌+◌, ◌<◌, ◌≤◌, Bool, true, false, eqb, List, [], ◌∷◌, length, get_or, Option, Some, None, refl, ap, ◌∙◌, sym, subst, inl, inr, arith, eq-eqb, ne_eqb}
use Rattle.std.specs.List.{range_with_len}
use Rattle.std.proofs.lemmas.Bool.{cases_order, cases_eq, cases_Bool}
use Rattle.tree_model.specs.Trees.{Tree, size, height}
use Rattle.tree_model.specs.Places.{holds}
use Rattle.tree_model.specs.Items.{Item}
use Rattle.tree_model.specs.Columns.{Column, Operation, apply_all}
use Rattle.tree_model.specs.Sums.{origins, IsRising}
use Rattle.tree_model.specs.Carried.{is_origin, is_rank, here_or_next, carried}
use Rattle.tree_model.proofs.Ordered.{holds-cons_eq, holds-cons_ne}
use Rattle.tree_model.proofs.Risen.{origins-rising}
use Rattle.path_code.specs.declared.moves.Recode.{Recode}
use Rattle.path_code.specs.Sums.{item_code, unless, moved_codes, dropped_codes, sum_by_origins, sum_of}
use Rattle.path_code.proofs.Increasing.{item_code-lt}
use Rattle.path_code.proofs.Sums.{is_origin-at}
use Rattle.code_changes.specs.Changes.{IsIn, new_code, applied}
use Rattle.code_changes.specs.CompositionLaws.{Follows}
use Rattle.code_changes.proofs.Lists.{holds-nil, IsIn-cons}
use Rattle.code_changes.proofs.Pairs.{new_code-here, new_code-past}
use Rattle.code_changes.proofs.After.{applied-dropped, applied-kept}
use Rattle.code_changes.proofs.Becoming.{new_code-nil}

-- ---- where an origin stands

-- an item that comes from a rank stands where the rank is carried to
pub record StandsAt (from : List (Option ℕ)) (rank at : ℕ) : Type 0 where
  pub within : at < length from
  pub is : get_or from at None ≡ Some rank

carried-none : (from : List (Option ℕ)) (rank : ℕ) → carried (None ∷ from) rank ≡ suc (carried from rank)
unfolding carried is_rank here_or_next
carried-none from rank = refl

carried-here : (j rank : ℕ) (from : List (Option ℕ)) → j ≡ rank → carried (Some j ∷ from) rank ≡ 0
unfolding carried is_rank here_or_next
carried-here j rank from e = rw (eq-eqb j rank e) refl

carried-past : (j rank : ℕ) (from : List (Option ℕ)) → j ≢ rank → carried (Some j ∷ from) rank ≡ suc (carried from rank)
unfolding carried is_rank here_or_next
carried-past j rank from h = rw (ne_eqb j rank h) refl

is_origin-past : (j rank : ℕ) (from : List (Option ℕ)) → j ≢ rank → is_origin rank (Some j ∷ from) ≡ is_origin rank from
unfolding is_origin
is_origin-past j rank from h = rw (ne_eqb j rank h) refl

is_origin-none : (rank : ℕ) (from : List (Option ℕ)) → is_origin rank (None ∷ from) ≡ is_origin rank from
unfolding is_origin
is_origin-none rank from = refl

is_origin-nil : {P : Type 0} (rank : ℕ) → is_origin rank [] ≡ true → P
unfolding is_origin
is_origin-nil rank h = absurd (cc)

stands-later : (o : Option ℕ) (from : List (Option ℕ)) (rank : ℕ) → StandsAt from rank (carried from rank) → StandsAt (o ∷ from) rank (suc (carried from rank))
stands-later o from rank s = record { within = omega (arith, s.within); is = s.is }

stands-first : (j rank : ℕ) (from : List (Option ℕ)) → j ≡ rank → StandsAt (Some j ∷ from) rank 0
stands-first j rank from e = record { within = omega arith; is = ap (λ (n : ℕ). Some n) e }

pub carried-stands : (from : List (Option ℕ)) (rank : ℕ) → is_origin rank from ≡ true → StandsAt from rank (carried from rank)
carried-stands [] rank h = is_origin-nil rank h
carried-stands (None ∷ from) rank h =
    subst (StandsAt (None ∷ from) rank) (sym (carried-none from rank)) (stands-later None from rank (carried-stands from rank (sym (is_origin-none rank from) ∙ h)))
carried-stands (Some j ∷ from) rank h =
    elim (cases_eq j rank) [
      | inl here ↦ subst (StandsAt (Some j ∷ from) rank) (sym (carried-here j rank from here)) (stands-first j rank from here)
      | inr past ↦ subst (StandsAt (Some j ∷ from) rank) (sym (carried-past j rank from past)) (stands-later (Some j) from rank (carried-stands from rank (sym (is_origin-past j rank from past) ∙ h)))
    ]

-- ---- the new code of an item that stays

pub codes_apart : {A : Type 0} (t : Tree A) (j k : ℕ) → height t ≤ 63 → j < k → k < size t → item_code t j ≢ item_code t k
codes_apart t j k high lt within = λ e. let less = item_code-lt t j k high lt within in omega (arith, e, less)

codes_differ : {A : Type 0} (t : Tree A) (j k : ℕ) → height t ≤ 63 → j ≢ k → j < size t → k < size t → item_code t j ≢ item_code t k
codes_differ t j k high other in_j in_k =
    elim (cases_order j k) [
      | inl same ↦ absurd (other same)
      | inr (inl lt) ↦ codes_apart t j k high lt in_k
      | inr (inr gt) ↦ (λ e. codes_apart t k j high gt in_j (sym e))
    ]

new_code-unless : (b : Bool) (pair : Recode) (rest : List Recode) (n : ℕ) → pair.old ≢ n → new_code (unless b pair rest) n ≡ new_code rest n
unfolding unless
new_code-unless true pair rest n past = refl
new_code-unless false pair rest n past = new_code-past pair rest n past

unless_same : (x y : ℕ) (rest : List Recode) → x ≡ y → unless (eqb x y) (record { old = x; new = y }) rest ≡ rest
unfolding unless
unless_same x y rest e = rw (eq-eqb x y e) refl

unless_other : (x y : ℕ) (rest : List Recode) → x ≢ y → unless (eqb x y) (record { old = x; new = y }) rest ≡ record { old = x; new = y } ∷ rest
unfolding unless
unless_other x y rest h = rw (ne_eqb x y h) refl

new_code-pair : (x y : ℕ) (rest : List Recode) → new_code rest x ≡ x → new_code (unless (eqb x y) (record { old = x; new = y }) rest) x ≡ y
new_code-pair x y rest none =
    elim (cases_eq x y) [
      | inl same ↦ ap (λ (m : List Recode). new_code m x) (unless_same x y rest same) ∙ none ∙ same
      | inr other ↦ ap (λ (m : List Recode). new_code m x) (unless_other x y rest other) ∙ new_code-here (record { old = x; new = y }) rest x refl
    ]

moved-none : {A B : Type 0} (t : Tree A) (u : Tree B) (r : ℕ) (from : List (Option ℕ)) → moved_codes t u r (None ∷ from) ≡ moved_codes t u (suc r) from
unfolding moved_codes
moved-none t u r from = refl

moved-some : {A B : Type 0} (t : Tree A) (u : Tree B) (r k : ℕ) (from : List (Option ℕ)) → moved_codes t u r (Some k ∷ from) ≡ unless (eqb (item_code t k) (item_code u r)) (record { old = item_code t k; new = item_code u r }) (moved_codes t u (suc r) from)
unfolding moved_codes
moved-some t u r k from = refl

moved-nil : {A B : Type 0} (t : Tree A) (u : Tree B) (r n : ℕ) → new_code (moved_codes t u r []) n ≡ n
unfolding moved_codes
moved-nil t u r n = new_code-nil n

moved-skip : {A B : Type 0} (t : Tree A) (u : Tree B) (r k n : ℕ) (from : List (Option ℕ)) → item_code t k ≢ n → new_code (moved_codes t u r (Some k ∷ from)) n ≡ new_code (moved_codes t u (suc r) from) n
moved-skip t u r k n from past =
    ap (λ (m : List Recode). new_code m n) (moved-some t u r k from)
    ∙ new_code-unless (eqb (item_code t k) (item_code u r)) (record { old = item_code t k; new = item_code u r }) (moved_codes t u (suc r) from) n past

rising-first : (low high k : ℕ) (from : List (Option ℕ)) → IsRising low high (Some k ∷ from) → (low ≤ k) × (k < high)
unfolding IsRising
rising-first low high k from up = (up.0, up.1)

rising-rest : (low high k : ℕ) (from : List (Option ℕ)) → IsRising low high (Some k ∷ from) → IsRising (suc k) high from
unfolding IsRising
rising-rest low high k from up = up.2

rising-none : (low high : ℕ) (from : List (Option ℕ)) → IsRising low high (None ∷ from) → IsRising low high from
unfolding IsRising
rising-none low high from up = up

-- a code before all origins stays
moved-before : {A B : Type 0} (t : Tree A) (u : Tree B) (k r low : ℕ) (from : List (Option ℕ)) → height t ≤ 63 → IsRising low (size t) from → k < low → new_code (moved_codes t u r from) (item_code t k) ≡ item_code t k
moved-before t u k r low [] high up lt = moved-nil t u r (item_code t k)
moved-before t u k r low (None ∷ from) high up lt =
    ap (λ (m : List Recode). new_code m (item_code t k)) (moved-none t u r from) ∙ moved-before t u k (suc r) low from high (rising-none low (size t) from up) lt
moved-before t u k r low (Some j ∷ from) high up lt =
    let at = rising-first low (size t) j from up in
    moved-skip t u r j (item_code t k) from (λ e. codes_apart t k j high (omega (arith, at.0)) at.1 (sym e))
    ∙ moved-before t u k (suc r) (suc j) from high (rising-rest low (size t) j from up) (omega (arith, at.0))

-- an origin is one of the ranks
pub origin-bounds : (low high at k : ℕ) (from : List (Option ℕ)) → IsRising low high from → at < length from → get_or from at None ≡ Some k → (low ≤ k) × (k < high)
origin-bounds low high at k [] up within is = absurd (omega arith)
origin-bounds low high zero k (None ∷ from) up within is = absurd (cc)
origin-bounds low high (suc at) k (None ∷ from) up within is = origin-bounds low high at k from (rising-none low high from up) (omega arith) is
origin-bounds low high zero k (Some j ∷ from) up within is = let e : j ≡ k = cc in subst (λ (n : ℕ). (low ≤ n) × (n < high)) e (rising-first low high j from up)
origin-bounds low high (suc at) k (Some j ∷ from) up within is =
    let first = rising-first low high j from up in
    let rest = origin-bounds (suc j) high at k from (rising-rest low high j from up) (omega arith) is in
    (omega (arith, first.0, rest.0), rest.1)

pub moved-at : {A B : Type 0} (t : Tree A) (u : Tree B) (k at r low : ℕ) (from : List (Option ℕ)) → height t ≤ 63 → IsRising low (size t) from → at < length from → get_or from at None ≡ Some k → new_code (moved_codes t u r from) (item_code t k) ≡ item_code u (r + at)
moved-at t u k at r low [] high up within is = absurd (omega arith)
moved-at t u k zero r low (None ∷ from) high up within is = absurd (cc)
moved-at t u k (suc at) r low (None ∷ from) high up within is =
    let next : suc r + at ≡ r + suc at = omega arith in
    ap (λ (m : List Recode). new_code m (item_code t k)) (moved-none t u r from)
    ∙ moved-at t u k at (suc r) low from high (rising-none low (size t) from up) (omega arith) is
    ∙ ap (item_code u) next
moved-at t u k zero r low (Some j ∷ from) high up within is =
    let e : j ≡ k = cc in
    let here : r ≡ r + zero = omega arith in
    let before = moved-before t u j (suc r) (suc j) from high (rising-rest low (size t) j from up) (omega arith) in
    ap (λ (n : ℕ). new_code (moved_codes t u r (Some j ∷ from)) (item_code t n)) (sym e)
    ∙ ap (λ (m : List Recode). new_code m (item_code t j)) (moved-some t u r j from)
    ∙ new_code-pair (item_code t j) (item_code u r) (moved_codes t u (suc r) from) before
    ∙ ap (item_code u) here
moved-at t u k (suc at) r low (Some j ∷ from) high up within is =
    let next : suc r + at ≡ r + suc at = omega arith in
    let up_rest = rising-rest low (size t) j from up in
    let bounds = origin-bounds (suc j) (size t) at k from up_rest (omega arith) is in
    moved-skip t u r j (item_code t k) from (codes_apart t j k high (omega (arith, bounds.0)) bounds.1)
    ∙ moved-at t u k at (suc r) (suc j) from high up_rest (omega arith) is
    ∙ ap (item_code u) next

-- ---- the codes that are dropped

dropped-yes : {A : Type 0} (t : Tree A) (from : List (Option ℕ)) (r : ℕ) (ranks : List ℕ) → is_origin r from ≡ true → dropped_codes t from (r ∷ ranks) ≡ dropped_codes t from ranks
unfolding dropped_codes unless
dropped-yes t from r ranks h = rw h refl

dropped-no : {A : Type 0} (t : Tree A) (from : List (Option ℕ)) (r : ℕ) (ranks : List ℕ) → is_origin r from ≡ false → dropped_codes t from (r ∷ ranks) ≡ item_code t r ∷ dropped_codes t from ranks
unfolding dropped_codes unless
dropped-no t from r ranks h = rw h refl

dropped-nil : {A : Type 0} (t : Tree A) (from : List (Option ℕ)) → dropped_codes t from [] ≡ []
unfolding dropped_codes
dropped-nil t from = refl

-- a rank that isn't an origin
pub gone_in : {A : Type 0} (t : Tree A) (from : List (Option ℕ)) (k first count : ℕ) → is_origin k from ≡ false → first ≤ k → k < first + count → IsIn (item_code t k) (dropped_codes t from (range_with_len first count))
gone_in t from k first zero free le lt = absurd (omega arith)
gone_in t from k first (suc count) free le lt =
    let rest = dropped_codes t from (range_with_len (first + 1) count) in
    elim (cases_eq first k) [
      | inl here ↦
          ap (holds (item_code t k)) (dropped-no t from first (range_with_len (first + 1) count) (ap (λ (n : ℕ). is_origin n from) here ∙ free))
          ∙ holds-cons_eq (item_code t k) (item_code t first) rest (ap (item_code t) here)
      | inr past ↦
          let later = gone_in t from k (first + 1) count free (omega arith) (omega arith) in
          elim (cases_Bool (is_origin first from)) [
            | inl yes_ ↦ ap (holds (item_code t k)) (dropped-yes t from first (range_with_len (first + 1) count) yes_) ∙ later
            | inr no_ ↦ ap (holds (item_code t k)) (dropped-no t from first (range_with_len (first + 1) count) no_) ∙ IsIn-cons (item_code t k) (item_code t first) rest later
          ]
    ]

-- a rank that is one
pub stays_out : {A : Type 0} (t : Tree A) (from : List (Option ℕ)) (k first count : ℕ) → height t ≤ 63 → is_origin k from ≡ true → k < size t → first + count ≤ size t → holds (item_code t k) (dropped_codes t from (range_with_len first count)) ≡ false
stays_out t from k first zero high held within all = ap (holds (item_code t k)) (dropped-nil t from) ∙ holds-nil (item_code t k)
stays_out t from k first (suc count) high held within all =
    let rest = dropped_codes t from (range_with_len (first + 1) count) in
    let later = stays_out t from k (first + 1) count high held within (omega arith) in
    elim (cases_Bool (is_origin first from)) [
      | inl yes_ ↦ ap (holds (item_code t k)) (dropped-yes t from first (range_with_len (first + 1) count) yes_) ∙ later
      | inr no_ ↦
          let other : first ≢ k = (λ e. let f : true ≡ false = sym held ∙ ap (λ (n : ℕ). is_origin n from) (sym e) ∙ no_ in cc) in
          ap (holds (item_code t k)) (dropped-no t from first (range_with_len (first + 1) count) no_)
          ∙ holds-cons_ne (item_code t k) (item_code t first) rest (codes_differ t first k high other (omega arith) within)
          ∙ later
    ]

-- ---- both

sum-moved : {A B : Type 0} (t : Tree A) (u : Tree B) (from : List (Option ℕ)) → (sum_by_origins t u from).moved ≡ moved_codes t u 0 from
unfolding sum_by_origins
sum-moved t u from = refl

sum-dropped : {A B : Type 0} (t : Tree A) (u : Tree B) (from : List (Option ℕ)) → (sum_by_origins t u from).dropped ≡ dropped_codes t from (range_with_len 0 (size t))
unfolding sum_by_origins
sum-dropped t u from = refl

pub follow : {A B : Type 0} (t : Tree A) (u : Tree B) (from : List (Option ℕ)) (rank : ℕ) → height t ≤ 63 → IsRising 0 (size t) from → rank < size t → Follows A B t u from (sum_by_origins t u from) rank
follow t u from rank high up within =
    record {
      moves = λ held. let at = carried-stands from rank held in
          let first : 0 + carried from rank ≡ carried from rank = omega arith in
          ap (λ (m : List Recode). new_code m (item_code t rank)) (sum-moved t u from) ∙ moved-at t u rank (carried from rank) 0 0 from high up at.within at.is ∙ ap (item_code u) first;
      stays = λ held. ap (holds (item_code t rank)) (sum-dropped t u from) ∙ stays_out t from rank 0 (size t) high held within (omega arith);
      goes = λ free. ap (holds (item_code t rank)) (sum-dropped t u from) ∙ gone_in t from rank 0 (size t) free (omega arith) (omega arith);
    }

pub codes_follow : {B : Type 0} (same_time : Bool) (operations : List (Operation B)) (c : Column B) (rank : ℕ) → height c.tree ≤ 63 → rank < size c.tree → Follows (Item B) (Item B) c.tree (apply_all same_time operations c).tree (origins same_time operations c) (sum_of same_time operations c) rank
unfolding sum_of
codes_follow same_time operations c rank high within =
    follow c.tree (apply_all same_time operations c).tree (origins same_time operations c) rank high (origins-rising same_time operations c) within

-- what becomes of the code of an item that comes from a rank
pub applied_at : {A B : Type 0} (t : Tree A) (u : Tree B) (from : List (Option ℕ)) (k at : ℕ) → height t ≤ 63 → IsRising 0 (size t) from → at < length from → get_or from at None ≡ Some k → applied (sum_by_origins t u from) (item_code t k) ≡ Some (item_code u at)
applied_at t u from k at high up within is =
    let bounds = origin-bounds 0 (size t) at k from up within is in
    let first : 0 + at ≡ at = omega arith in
    applied-kept (sum_by_origins t u from) (item_code t k) (ap (holds (item_code t k)) (sum-dropped t u from) ∙ stays_out t from k 0 (size t) high (is_origin-at from at k within is) bounds.1 (omega arith))
    ∙ ap (λ (n : ℕ). Some n) (ap (λ (m : List Recode). new_code m (item_code t k)) (sum-moved t u from) ∙ moved-at t u k at 0 0 from high up within is ∙ ap (item_code u) first)

-- and of the code of another
pub applied_gone : {A B : Type 0} (t : Tree A) (u : Tree B) (from : List (Option ℕ)) (k : ℕ) → k < size t → is_origin k from ≡ false → applied (sum_by_origins t u from) (item_code t k) ≡ None
applied_gone t u from k within free =
    applied-dropped (sum_by_origins t u from) (item_code t k) (ap (holds (item_code t k)) (sum-dropped t u from) ∙ gone_in t from k 0 (size t) free (omega arith) (omega arith))
