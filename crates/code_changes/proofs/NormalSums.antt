-- Sums of operations are in normal form, and compose.
use Rattle.std.proofs.Common.{◌≡◌, ℕ, zero, suc, ◌+◌, ◌<◌, ◌≤◌, Bool, true, false, List, ◌++◌, length, map, get_or, Option, Some, None, refl, ap, ◌∙◌, sym, subst, inl, inr, arith}
use Rattle.std.specs.List.{range_with_len}
use Rattle.std.proofs.lemmas.Bool.{cases_eq, cases_Bool}
use Rattle.std.proofs.lemmas.List.{get_or-map, length-map}
use Rattle.tree_model.specs.Trees.{Tree, size, height}
use Rattle.tree_model.specs.Columns.{Column, Operation, apply_all}
use Rattle.tree_model.specs.Sums.{origins, through, composed, IsRising}
use Rattle.tree_model.specs.Carried.{is_origin, carried}
use Rattle.tree_model.proofs.Risen.{origins-rising}
use Rattle.tree_model.proofs.Summed.{length-origins, origins-append, apply_all-append}
use Rattle.path_code.specs.Sums.{item_code, Sum, sum_by_origins, sum_of}
use Rattle.path_code.specs.SumLaws.{Increase}
use Rattle.path_code.proofs.Sums.{is_origin-at, sum_of-append}
use Rattle.path_code.proofs.Increasing.{sums_increase}
use Rattle.code_changes.specs.Changes.{IsIn, applied, list_after, Fits, with_rows, without_rows}
use Rattle.code_changes.specs.Columns.{codes_of}
use Rattle.code_changes.specs.Normal.{IsNormal}
use Rattle.code_changes.specs.Compositions.{applied_both, both_on, FitsInTurn}
use Rattle.code_changes.proofs.Rows.{IsIn-rest}
use Rattle.code_changes.proofs.Images.{change_between}
use Rattle.code_changes.proofs.ItemCodes.{IsIncreasing-codes_of}
use Rattle.code_changes.proofs.Leading.{staying, sum-between, operations_fit}
use Rattle.code_changes.proofs.Origins.{marks}
use Rattle.code_changes.proofs.Orders.{nowhere}
use Rattle.code_changes.proofs.Becoming.{cases_Option}
use Rattle.code_changes.proofs.Both.{both_none, both_some, applied-both, both_compose, both_normal}
use Rattle.code_changes.proofs.NormalForms.{taking, taking_normal}
use Rattle.code_changes.proofs.Told.{told}
use Rattle.code_changes.proofs.Following.{carried-stands, origin-bounds, applied_at, applied_gone}

-- ---- sums are in normal form

between_is : (before xs after ys : List ℕ) → change_between before xs after ys ≡ taking before xs (with_rows after ys) (without_rows after ys)
unfolding change_between taking
between_is before xs after ys = refl

sum_is : {B : Type 0} (same_time : Bool) (operations : List (Operation B)) (c : Column B) → sum_of same_time operations c ≡ sum_by_origins c.tree (apply_all same_time operations c).tree (origins same_time operations c)
unfolding sum_of
sum_is same_time operations c = refl

-- the sum of a list of operations, where ways before and after have at most 63 steps
pub sums_are_normal : {B : Type 0} (same_time : Bool) (operations : List (Operation B)) (c : Column B) → height c.tree ≤ 63 → height (apply_all same_time operations c).tree ≤ 63 → IsNormal (sum_of same_time operations c)
sums_are_normal same_time operations c high_before high_after =
    let t = c.tree in
    let u = (apply_all same_time operations c).tree in
    let from = origins same_time operations c in
    let counts = staying from (size t) in
    let news = with_rows (marks from) (codes_of u) in
    let added = without_rows (marks from) (codes_of u) in
    let is : sum_of same_time operations c ≡ taking counts (codes_of t) news added =
    sum_is same_time operations c
    ∙ sum-between t u from (origins-rising same_time operations c) (length-origins same_time operations c)
    ∙ between_is counts (codes_of t) (marks from) (codes_of u) in
    subst IsNormal (sym is) (taking_normal counts (codes_of t) news added (IsIncreasing-codes_of t high_before) (subst Increase is (sums_increase same_time operations c high_before high_after)))

-- ---- sums compose

-- the item of a code
record IsCodeOf (A : Type 0) (t : Tree A) (n : ℕ) : Type 0 where
  rank : ℕ
  within : rank < size t
  is : item_code t rank ≡ n

record IsImage (f : ℕ → ℕ) (first count n : ℕ) : Type 0 where
  at : ℕ
  above : first ≤ at
  within : at < first + count
  is : f at ≡ n

image-in : (f : ℕ → ℕ) (first count n : ℕ) → IsIn n (map f (range_with_len first count)) → IsImage f first count n
image-in f first zero n h = nowhere n h
image-in f first (suc count) n h =
    elim (cases_eq (f first) n) [
      | inl here ↦ record { at = first; above = omega arith; within = omega arith; is = here }
      | inr past ↦
          let later = image-in f (first + 1) count n (IsIn-rest n (f first) (map f (range_with_len (first + 1) count)) past h) in
          record { at = later.at; above = omega (arith, later.above); within = omega (arith, later.within); is = later.is }
    ]

code-in : {A : Type 0} (t : Tree A) (n : ℕ) → IsIn n (codes_of t) → IsCodeOf A t n
unfolding codes_of
code-in t n h =
    let at = image-in (item_code t) 0 (size t) n h in
    record { rank = at.at; within = omega (arith, at.within); is = at.is }

-- the origins of both lists of operations
through_some : (earlier : List (Option ℕ)) (rank : ℕ) → through earlier (Some rank) ≡ get_or earlier rank None
unfolding through
through_some earlier rank = refl

through_none : (earlier : List (Option ℕ)) → through earlier None ≡ None
unfolding through
through_none earlier = refl

composed-at : (earlier later : List (Option ℕ)) (at : ℕ) → at < length later → get_or (composed earlier later) at None ≡ through earlier (get_or later at None)
unfolding composed
composed-at earlier later at within = get_or-map (through earlier) later at None None within

length-composed : (earlier later : List (Option ℕ)) → length (composed earlier later) ≡ length later
unfolding composed
length-composed earlier later = length-map later (through earlier)

-- three trees, and what the items of the second and the third come from
record AreSteps (A B C : Type 0) (t : Tree A) (u : Tree B) (w : Tree C) (earlier later : List (Option ℕ)) : Type 0 where
  high_t : height t ≤ 63
  high_u : height u ≤ 63
  up_earlier : IsRising 0 (size t) earlier
  up_later : IsRising 0 (size u) later
  up_both : IsRising 0 (size t) (composed earlier later)
  many : length earlier ≡ size u

-- a code that stays under both
agree_kept : {A B C : Type 0} (t : Tree A) (u : Tree B) (w : Tree C) (earlier later : List (Option ℕ)) (k : ℕ) → AreSteps A B C t u w earlier later → is_origin k (composed earlier later) ≡ true → applied_both (sum_by_origins t u earlier) (sum_by_origins u w later) (item_code t k) ≡ applied (sum_by_origins t w (composed earlier later)) (item_code t k)
agree_kept t u w earlier later k steps held =
    let at = carried-stands (composed earlier later) k held in
    let place = carried (composed earlier later) k in
    let in_later : place < length later = omega (arith, at.within, length-composed earlier later) in
    let is : through earlier (get_or later place None) ≡ Some k = sym (composed-at earlier later place in_later) ∙ at.is in
    let whole = applied_at t w (composed earlier later) k place steps.high_t steps.up_both at.within at.is in
    elim (cases_Option (get_or later place None)) [
      | inl none ↦ absurd (let e : None ≡ Some k = sym (through_none earlier) ∙ ap (through earlier) (sym none) ∙ is in cc)
      | inr some ↦
          let from : get_or earlier some.new None ≡ Some k = sym (through_some earlier some.new) ∙ ap (through earlier) (sym some.is) ∙ is in
          let bounds = origin-bounds 0 (size u) place some.new later steps.up_later in_later some.is in
          let in_earlier : some.new < length earlier = omega (arith, bounds.1, steps.many) in
          both_some (sum_by_origins t u earlier) (sum_by_origins u w later) (item_code t k) (item_code u some.new) (applied_at t u earlier k some.new steps.high_t steps.up_earlier in_earlier from)
          ∙ applied_at u w later some.new place steps.high_u steps.up_later in_later some.is
          ∙ sym whole
    ]

-- an item that stays under the first, and under the second, stays under both
stays_both : (earlier later : List (Option ℕ)) (k : ℕ) → is_origin k earlier ≡ true → is_origin (carried earlier k) later ≡ true → is_origin k (composed earlier later) ≡ true
stays_both earlier later k first second =
    let at = carried-stands earlier k first in
    let next = carried-stands later (carried earlier k) second in
    let place = carried later (carried earlier k) in
    let is : get_or (composed earlier later) place None ≡ Some k =
    composed-at earlier later place next.within ∙ ap (through earlier) next.is ∙ through_some earlier (carried earlier k) ∙ at.is in
    is_origin-at (composed earlier later) place k (omega (arith, next.within, length-composed earlier later)) is

agree_gone : {A B C : Type 0} (t : Tree A) (u : Tree B) (w : Tree C) (earlier later : List (Option ℕ)) (k : ℕ) → AreSteps A B C t u w earlier later → k < size t → is_origin k (composed earlier later) ≡ false → applied_both (sum_by_origins t u earlier) (sum_by_origins u w later) (item_code t k) ≡ applied (sum_by_origins t w (composed earlier later)) (item_code t k)
agree_gone t u w earlier later k steps within free =
    let whole = applied_gone t w (composed earlier later) k within free in
    elim (cases_Bool (is_origin k earlier)) [
      | inr out ↦ both_none (sum_by_origins t u earlier) (sum_by_origins u w later) (item_code t k) (applied_gone t u earlier k within out) ∙ sym whole
      | inl first ↦
          let at = carried-stands earlier k first in
          let mid = carried earlier k in
          elim (cases_Bool (is_origin mid later)) [
            | inl second ↦ absurd (let e : true ≡ false = sym (stays_both earlier later k first second) ∙ free in cc)
            | inr out ↦
                both_some (sum_by_origins t u earlier) (sum_by_origins u w later) (item_code t k) (item_code u mid) (applied_at t u earlier k mid steps.high_t steps.up_earlier at.within at.is)
                ∙ applied_gone u w later mid (omega (arith, at.within, steps.many)) out
                ∙ sym whole
          ]
    ]

agree : {A B C : Type 0} (t : Tree A) (u : Tree B) (w : Tree C) (earlier later : List (Option ℕ)) → AreSteps A B C t u w earlier later → (n : ℕ) → IsIn n (codes_of t) → applied_both (sum_by_origins t u earlier) (sum_by_origins u w later) n ≡ applied (sum_by_origins t w (composed earlier later)) n
agree t u w earlier later steps n h =
    let item = code-in t n h in
    let same = λ (m : ℕ). applied_both (sum_by_origins t u earlier) (sum_by_origins u w later) m ≡ applied (sum_by_origins t w (composed earlier later)) m in
    elim (cases_Bool (is_origin item.rank (composed earlier later))) [
      | inl held ↦ subst same item.is (agree_kept t u w earlier later item.rank steps held)
      | inr free ↦ subst same item.is (agree_gone t u w earlier later item.rank steps item.within free)
    ]

-- the two sums fit in turn
pub sums_fit_in_turn : {B : Type 0} (same_time : Bool) (earlier later : List (Operation B)) (c : Column B) → height c.tree ≤ 63 → height (apply_all same_time earlier c).tree ≤ 63 → height (apply_all same_time later (apply_all same_time earlier c)).tree ≤ 63 → FitsInTurn (sum_of same_time earlier c) (sum_of same_time later (apply_all same_time earlier c)) (codes_of c.tree)
sums_fit_in_turn same_time earlier later c high_c high_mid high_after =
    let mid = apply_all same_time earlier c in
    let first = operations_fit same_time earlier c high_c high_mid in
    let second = operations_fit same_time later mid high_mid high_after in
    record { earlier = first.fits; later = subst (λ (codes : List ℕ). Fits (sum_of same_time later mid) codes) (sym first.gives) second.fits }

told_sum : {B : Type 0} (same_time : Bool) (earlier later : List (Operation B)) (c : Column B) (n : ℕ) {o : Option ℕ} → applied_both (sum_by_origins c.tree (apply_all same_time earlier c).tree (origins same_time earlier c)) (sum_by_origins (apply_all same_time earlier c).tree (apply_all same_time later (apply_all same_time earlier c)).tree (origins same_time later (apply_all same_time earlier c))) n ≡ o → applied_both (sum_of same_time earlier c) (sum_of same_time later (apply_all same_time earlier c)) n ≡ o
unfolding sum_of
told_sum same_time earlier later c n e = e

sums_agree : {B : Type 0} (same_time : Bool) (earlier later : List (Operation B)) (c : Column B) → height c.tree ≤ 63 → height (apply_all same_time earlier c).tree ≤ 63 → (n : ℕ) → IsIn n (codes_of c.tree) → applied_both (sum_of same_time earlier c) (sum_of same_time later (apply_all same_time earlier c)) n ≡ applied (sum_of same_time (earlier ++ later) c) n
sums_agree same_time earlier later c high_c high_mid n h =
    let mid = apply_all same_time earlier c in
    let from = origins same_time earlier c in
    let next = origins same_time later mid in
    let steps : AreSteps _ _ _ c.tree mid.tree (apply_all same_time later mid).tree from next = record {
      high_t = high_c;
      high_u = high_mid;
      up_earlier = origins-rising same_time earlier c;
      up_later = origins-rising same_time later mid;
      up_both = subst (IsRising 0 (size c.tree)) (origins-append same_time earlier later c) (origins-rising same_time (earlier ++ later) c);
      many = length-origins same_time earlier c;
    } in
    told_sum same_time earlier later c n (agree c.tree mid.tree (apply_all same_time later mid).tree from next steps n h)
    ∙ ap (λ (s : Sum). applied s n) (sym (sum_of-append same_time earlier later c))

pub sums_compose : {B : Type 0} (same_time : Bool) (earlier later : List (Operation B)) (c : Column B) → height c.tree ≤ 63 → height (apply_all same_time earlier c).tree ≤ 63 → height (apply_all same_time later (apply_all same_time earlier c)).tree ≤ 63 → both_on (sum_of same_time earlier c) (sum_of same_time later (apply_all same_time earlier c)) (codes_of c.tree) ≡ sum_of same_time (earlier ++ later) c
sums_compose {B} same_time earlier later c high_c high_mid high_after =
    let mid = apply_all same_time earlier c in
    let s = sum_of same_time earlier c in
    let next = sum_of same_time later mid in
    let codes = codes_of c.tree in
    let whole = apply_all-append same_time earlier later c in
    let high_whole : height (apply_all same_time (earlier ++ later) c).tree ≤ 63 = subst (λ (d : Column B). height d.tree ≤ 63) (sym whole) high_after in
    let fit = sums_fit_in_turn same_time earlier later c high_c high_mid high_after in
    let both = both_compose s next codes fit in
    let all = operations_fit same_time (earlier ++ later) c high_c high_whole in
    let second = operations_fit same_time later mid high_mid high_after in
    let first = operations_fit same_time earlier c high_c high_mid in
    told (both_on s next codes) (sum_of same_time (earlier ++ later) c) codes
    (both_normal s next codes (sums_are_normal same_time earlier c high_c high_mid) fit)
    (sums_are_normal same_time (earlier ++ later) c high_c high_whole)
    both.fits all.fits
    (λ n h. applied-both s next codes n h ∙ sums_agree same_time earlier later c high_c high_mid n h)
    (both.gives ∙ ap (list_after next) first.gives ∙ second.gives ∙ ap (λ (d : Column B). codes_of d.tree) (sym whole) ∙ sym all.gives)
