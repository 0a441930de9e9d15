-- One row more in each column, one column after the other.
use Rattle.std.proofs.Common.{◌≡◌, ◌≢◌, ℕ, suc, zero, ◌+◌, ◌<◌, ◌≤◌, Bool, true, List, [], ◌∷◌, ◌++◌, length, map, get_or, take, set, replicate, refl, ap, ap₂, ◌∙◌, sym, subst, arith, add-one}
use Rattle.std.proofs.lemmas.List.{length-set}
use Rattle.std.proofs.Math.Seq.{take-suc, take-length}
use Rattle.mope_base.specs.declared.body.Body.{Body}
use Rattle.tree_model.specs.declared.Place.{Place}
use Rattle.tree_model.specs.Columns.{Column, Operation, Add}
use Rattle.path_code.specs.Sums.{Sum, sum_of}
use Rattle.table_model.specs.Steps.{adds}
use Rattle.enc_table.specs.declared.columns.Column.{Column as Stored}
use Rattle.enc_table.specs.Stored.{stored_at, trees_in}
use Rattle.enc_table.specs.Sums.{sums}
use Rattle.enc_table.specs.Held.{IsAdded}
use Rattle.enc_table.specs.Fields.{place_at, body_of, AreAdded}
use Rattle.enc_table.proofs.TableLists.{trees-at, length-trees, done-step, rest-step, no_sum, sums-at, length-sums, adds-at, length-adds}

-- the columns below a place have one row more, the others are as they were, and the changes are those of the columns below
pub record AddedTo (numbers : List ℕ) (number : ℕ) (places : List Place) (bodies : List Body) (first now : List Stored) (at : ℕ) (changes : List Sum) : Type 0 where
  pub many : length now ≡ length first
  pub done : (same_time : Bool) (k : ℕ) → k < at → IsAdded same_time numbers number (place_at places k) (body_of bodies k) (stored_at first k) (stored_at now k)
  pub rest : (k : ℕ) → at ≤ k → stored_at now k ≡ stored_at first k
  pub summed : (same_time : Bool) → changes ≡ take at (sums same_time (adds places bodies) (trees_in first))

pub added-none : (numbers : List ℕ) (number : ℕ) (places : List Place) (bodies : List Body) (first : List Stored) → AddedTo numbers number places bodies first first 0 []
added-none numbers number places bodies first =
    record { many = refl; done = λ same_time k h. absurd (omega (arith, h)); rest = λ k h. refl; summed = λ same_time. refl }

add-sum : (same_time : Bool) (places : List Place) (bodies : List Body) (first : List Stored) (at : ℕ) → length places ≡ length first → length bodies ≡ length first → at < length first
    → take (suc at) (sums same_time (adds places bodies) (trees_in first)) ≡ take at (sums same_time (adds places bodies) (trees_in first)) ++ sum_of same_time (Add (place_at places at) (body_of bodies at) ∷ []) (stored_at first at).tree.column ∷ []
add-sum same_time places bodies first at placed wide h =
    let steps = adds places bodies in
    let many : length steps ≡ length first = length-adds places bodies (wide ∙ sym placed) ∙ placed in
    let trees : length (trees_in first) ≡ length first = length-trees first in
    let all : length (sums same_time steps (trees_in first)) ≡ length (trees_in first) = length-sums same_time steps (trees_in first) (many ∙ sym trees) in
    take-suc (sums same_time steps (trees_in first)) at no_sum (omega (arith, h, all, trees))
    ∙ ap (λ (s : Sum). take at (sums same_time steps (trees_in first)) ++ s ∷ [])
    (sums-at same_time steps (trees_in first) at (omega (arith, h, many)) (omega (arith, h, trees))
    ∙ ap₂ (λ (operations : List (Operation Body)) (c : Column Body). sum_of same_time operations c) (adds-at places bodies at (omega (arith, h, placed)) (omega (arith, h, wide))) (trees-at first at))

pub added-step : (numbers : List ℕ) (number : ℕ) (places : List Place) (bodies : List Body) (first now : List Stored) (at : ℕ) (changes : List Sum) (c : Stored) (change : Sum)
    → AddedTo numbers number places bodies first now at changes → length places ≡ length first → length bodies ≡ length first → at < length first
    → ((same_time : Bool) → IsAdded same_time numbers number (place_at places at) (body_of bodies at) (stored_at now at) c)
    → ((same_time : Bool) → change ≡ sum_of same_time (Add (place_at places at) (body_of bodies at) ∷ []) (stored_at now at).tree.column)
    → AddedTo numbers number places bodies first (set now at c) (suc at) (changes ++ change ∷ [])
added-step numbers number places bodies first now at changes c change so placed wide h column sum =
    let here : stored_at now at ≡ stored_at first at = so.rest at (omega arith) in
    record {
      many = length-set now at c ∙ so.many;
      done = λ same_time. done-step (λ k d. IsAdded same_time numbers number (place_at places k) (body_of bodies k) (stored_at first k) d) now at c (omega (arith, h, so.many)) (so.done same_time)
          (subst (λ (b : Stored). IsAdded same_time numbers number (place_at places at) (body_of bodies at) b c) here (column same_time));
      rest = rest-step first now at c so.rest;
      summed = λ same_time.
          ap₂ (λ (xs : List Sum) (s : Sum). xs ++ s ∷ []) (so.summed same_time) (sum same_time ∙ ap (λ (b : Stored). sum_of same_time (Add (place_at places at) (body_of bodies at) ∷ []) b.tree.column) here)
          ∙ sym (add-sum same_time places bodies first at placed wide h);
    }

pub added-all : (numbers : List ℕ) (number : ℕ) (places : List Place) (bodies : List Body) (first now : List Stored) (changes : List Sum) → AddedTo numbers number places bodies first now (length first) changes
    → (same_time : Bool) → AreAdded same_time numbers number places bodies first now
added-all numbers number places bodies first now changes so same_time = record { each = so.done same_time }

pub added-changes : (numbers : List ℕ) (number : ℕ) (places : List Place) (bodies : List Body) (first now : List Stored) (changes : List Sum) → AddedTo numbers number places bodies first now (length first) changes
    → length places ≡ length first → length bodies ≡ length first → (same_time : Bool) → changes ≡ sums same_time (adds places bodies) (trees_in first)
added-changes numbers number places bodies first now changes so placed wide same_time =
    let steps = adds places bodies in
    let many : length steps ≡ length first = length-adds places bodies (wide ∙ sym placed) ∙ placed in
    let trees : length (trees_in first) ≡ length first = length-trees first in
    let all : length (sums same_time steps (trees_in first)) ≡ length (trees_in first) = length-sums same_time steps (trees_in first) (many ∙ sym trees) in
    so.summed same_time ∙ ap (λ (n : ℕ). take n (sums same_time steps (trees_in first))) (sym (all ∙ trees)) ∙ take-length (sums same_time steps (trees_in first))
