-- The sum of a list of operations leads from the column before to the column after.
use Rattle.std.proofs.Common.{◌≡◌, ℕ, ◌≤◌, Bool, List, length, map, Option, ap, ap₂, ◌∙◌, sym, subst}
use Rattle.std.specs.List.{range_with_len}
use Rattle.std.proofs.lemmas.List.{length-map}
use Rattle.std.proofs.lemmas.List.FromFn.{length-range_with_len}
use Rattle.tree_model.specs.Trees.{Tree, size, height}
use Rattle.tree_model.specs.Columns.{Column, Operation, apply_all}
use Rattle.tree_model.specs.Sums.{origins, IsRising}
use Rattle.tree_model.proofs.Risen.{origins-rising}
use Rattle.tree_model.proofs.Summed.{length-origins}
use Rattle.path_code.specs.declared.moves.Recode.{Recode}
use Rattle.path_code.specs.Sums.{item_code, moved_codes, added_codes, dropped_codes, Sum, sum_by_origins, sum_of}
use Rattle.code_changes.specs.Changes.{list_after, differing, Fits, with_rows, without_rows}
use Rattle.code_changes.specs.Columns.{codes_of}
use Rattle.code_changes.specs.Laws.{Leads}
use Rattle.code_changes.proofs.Rows.{map-with}
use Rattle.code_changes.proofs.Images.{change_between, IsBetween, Fits-between, list_after-between}
use Rattle.code_changes.proofs.ItemCodes.{length-codes_of, IsIncreasing-codes_of}
use Rattle.code_changes.proofs.Origins.{marks, origin_ranks, stays, length-marks, length-with_marks, added_codes-marks, moved_codes-marks, dropped_codes-stays, origin_ranks-stays}

pub same_sum : (moved moved_is : List Recode) (dropped dropped_is added added_is : List ℕ) → moved ≡ moved_is → dropped ≡ dropped_is → added ≡ added_is → (let s : Sum = record { moved = moved; dropped = dropped; added = added } in s) ≡ (let s : Sum = record { moved = moved_is; dropped = dropped_is; added = added_is } in s)
same_sum moved moved_is dropped dropped_is added added_is a b c =
    ap (λ (m : List Recode). let s : Sum = record { moved = m; dropped = dropped; added = added } in s) a
    ∙ ap₂ (λ (d e : List ℕ). let s : Sum = record { moved = moved_is; dropped = d; added = e } in s) b c

-- which ranks before stay
pub staying : List (Option ℕ) → ℕ → List ℕ
staying from n = stays from (range_with_len 0 n)

pub length-staying : (from : List (Option ℕ)) (n : ℕ) → length (staying from n) ≡ n
unfolding staying stays
length-staying from n = length-map (range_with_len 0 n) _ ∙ length-range_with_len 0 n

-- the codes of the items that stay
pub codes-staying : {A : Type 0} (t : Tree A) (from : List (Option ℕ)) → IsRising 0 (size t) from → map (item_code t) (origin_ranks from) ≡ with_rows (staying from (size t)) (codes_of t)
unfolding staying codes_of
codes-staying t from up =
    ap (map (item_code t)) (origin_ranks-stays (size t) from up) ∙ map-with (item_code t) (stays from (range_with_len 0 (size t))) (range_with_len 0 (size t))

codes_of-length : {B : Type 0} (u : Tree B) (n : ℕ) → n ≡ size u → map (item_code u) (range_with_len 0 n) ≡ codes_of u
unfolding codes_of
codes_of-length u n e = ap (λ (m : ℕ). map (item_code u) (range_with_len 0 m)) e

pub moved-marks : {A B : Type 0} (t : Tree A) (u : Tree B) (from : List (Option ℕ)) → length from ≡ size u → moved_codes t u 0 from ≡ differing (map (item_code t) (origin_ranks from)) (with_rows (marks from) (codes_of u))
moved-marks t u from many =
    moved_codes-marks t u 0 from ∙ ap (λ (xs : List ℕ). differing (map (item_code t) (origin_ranks from)) (with_rows (marks from) xs)) (codes_of-length u (length from) many)

pub added-marks : {B : Type 0} (u : Tree B) (from : List (Option ℕ)) → length from ≡ size u → added_codes u 0 from ≡ without_rows (marks from) (codes_of u)
added-marks u from many = added_codes-marks u 0 from ∙ ap (without_rows (marks from)) (codes_of-length u (length from) many)

pub dropped-staying : {A : Type 0} (t : Tree A) (from : List (Option ℕ)) → dropped_codes t from (range_with_len 0 (size t)) ≡ without_rows (staying from (size t)) (codes_of t)
unfolding staying codes_of
dropped-staying t from = dropped_codes-stays t from (range_with_len 0 (size t))

pub sum-between : {A B : Type 0} (t : Tree A) (u : Tree B) (from : List (Option ℕ)) → IsRising 0 (size t) from → length from ≡ size u → sum_by_origins t u from ≡ change_between (staying from (size t)) (codes_of t) (marks from) (codes_of u)
unfolding sum_by_origins change_between
sum-between t u from up many =
    same_sum (moved_codes t u 0 from) (differing (with_rows (staying from (size t)) (codes_of t)) (with_rows (marks from) (codes_of u)))
    (dropped_codes t from (range_with_len 0 (size t))) (without_rows (staying from (size t)) (codes_of t))
    (added_codes u 0 from) (without_rows (marks from) (codes_of u))
    (moved-marks t u from many ∙ ap (λ (xs : List ℕ). differing xs (with_rows (marks from) (codes_of u))) (codes-staying t from up))
    (dropped-staying t from)
    (added-marks u from many)

pub between : {A B : Type 0} (t : Tree A) (u : Tree B) (from : List (Option ℕ)) → height t ≤ 63 → height u ≤ 63 → IsRising 0 (size t) from → length from ≡ size u → IsBetween (staying from (size t)) (codes_of t) (marks from) (codes_of u)
between t u from high_t high_u up many =
    record {
      olds_up = IsIncreasing-codes_of t high_t;
      news_up = IsIncreasing-codes_of u high_u;
      each_old = length-staying from (size t) ∙ sym (length-codes_of t);
      each_new = length-marks from ∙ many ∙ sym (length-codes_of u);
      as_many =
          ap length (sym (codes-staying t from up))
          ∙ length-map (origin_ranks from) (item_code t)
          ∙ sym (length-with_marks from (codes_of u) (many ∙ sym (length-codes_of u)));
    }

pub operations_fit : {B : Type 0} (same_time : Bool) (operations : List (Operation B)) (c : Column B) → height c.tree ≤ 63 → height (apply_all same_time operations c).tree ≤ 63 → Leads B (sum_of same_time operations c) c (apply_all same_time operations c)
unfolding sum_of
operations_fit same_time operations c high_before high_after =
    let t = c.tree in
    let u = (apply_all same_time operations c).tree in
    let from = origins same_time operations c in
    let up = origins-rising same_time operations c in
    let many = length-origins same_time operations c in
    let is = sum-between t u from up many in
    let b = between t u from high_before high_after up many in
    record {
      fits = subst (λ (s : Sum). Fits s (codes_of t)) (sym is) (Fits-between (staying from (size t)) (codes_of t) (marks from) (codes_of u) b);
      gives = ap (λ (s : Sum). list_after s (codes_of t)) is ∙ list_after-between (staying from (size t)) (codes_of t) (marks from) (codes_of u) b;
    }
