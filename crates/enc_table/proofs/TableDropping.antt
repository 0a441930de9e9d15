-- One row fewer in each column, one column after the other.
use Rattle.std.proofs.Common.{◌≡◌, ◌≢◌, ℕ, suc, zero, ◌+◌, ◌<◌, ◌≤◌, Bool, List, [], ◌∷◌, ◌++◌, length, map, get_or, set, refl, ap, ap₂, ◌∙◌, sym, subst, inl, inr, arith}
use Rattle.std.proofs.lemmas.List.{length-set, length-map, get_or-map, get_or-set_same, get_or-set_other, ext_get_or}
use Rattle.std.proofs.lemmas.Bool.{cases_eq}
use Rattle.path_code.specs.Sums.{Sum, sum_of}
use Rattle.enc_table.specs.declared.columns.Column.{Column as Stored}
use Rattle.enc_table.specs.Stored.{no_column, stored_at}
use Rattle.enc_table.specs.Held.{IsDropped, drop_at}
use Rattle.enc_table.specs.Fields.{AreDropped, drop_sums, after_each}
use Rattle.enc_table.proofs.TableLists.{no_sum, done-step, rest-step}

-- what the drop of the row at a position does to the codes of a column
abbrev pub drop_sum : Bool → ℕ → Stored → Sum
drop_sum same_time position c = sum_of same_time (drop_at c position) c.tree.column

pub drop_sums-at : (same_time : Bool) (position : ℕ) (cs : List Stored) (i : ℕ) → i < length cs → get_or (drop_sums same_time position cs) i no_sum ≡ drop_sum same_time position (stored_at cs i)
unfolding drop_sums stored_at
drop_sums-at same_time position cs i h = get_or-map (drop_sum same_time position) cs i no_column no_sum h

pub length-drop_sums : (same_time : Bool) (position : ℕ) (cs : List Stored) → length (drop_sums same_time position cs) ≡ length cs
unfolding drop_sums
length-drop_sums same_time position cs = length-map cs (drop_sum same_time position)

pub length-after_each : {A : Type 0} (lists : List (List A)) (xs : List A) → length (after_each lists xs) ≡ length lists
unfolding after_each
length-after_each [] xs = refl
length-after_each (list ∷ lists) [] = refl
length-after_each (list ∷ lists) (x ∷ xs) = ap suc (length-after_each lists xs)

pub after_each-at : {A : Type 0} (lists : List (List A)) (xs : List A) (d : A) (i : ℕ) → i < length lists → i < length xs → get_or (after_each lists xs) i [] ≡ get_or lists i [] ++ get_or xs i d ∷ []
unfolding after_each
after_each-at [] xs d i h k = absurd (omega (arith, h))
after_each-at (list ∷ lists) [] d i h k = absurd (omega (arith, k))
after_each-at (list ∷ lists) (x ∷ xs) d zero h k = refl
after_each-at (list ∷ lists) (x ∷ xs) d (suc i) h k = after_each-at lists xs d i (omega (arith, h)) (omega (arith, k))

-- the columns below a place have one row fewer and their lists one change more; the others are as they were
pub record DroppedTo (same_time : Bool) (numbers : List ℕ) (position : ℕ) (first now : List Stored) (at : ℕ) (lists changes : List (List Sum)) : Type 0 where
  pub many : length now ≡ length first
  pub done : (k : ℕ) → k < at → IsDropped same_time numbers position (stored_at first k) (stored_at now k)
  pub rest : (k : ℕ) → at ≤ k → stored_at now k ≡ stored_at first k
  pub wide : length changes ≡ length lists
  pub longer : (k : ℕ) → k < at → get_or changes k [] ≡ get_or lists k [] ++ drop_sum same_time position (stored_at first k) ∷ []
  pub same : (k : ℕ) → at ≤ k → get_or changes k [] ≡ get_or lists k []

pub dropped-none : (same_time : Bool) (numbers : List ℕ) (position : ℕ) (first : List Stored) (lists : List (List Sum)) → DroppedTo same_time numbers position first first 0 lists lists
dropped-none same_time numbers position first lists =
    record { many = refl; done = λ k h. absurd (omega (arith, h)); rest = λ k h. refl; wide = refl; longer = λ k h. absurd (omega (arith, h)); same = λ k h. refl }

pub dropped-step : (same_time : Bool) (numbers : List ℕ) (position : ℕ) (first now : List Stored) (at : ℕ) (lists changes : List (List Sum)) (c : Stored) (list : List Sum)
    → DroppedTo same_time numbers position first now at lists changes → at < length first → at < length lists
    → IsDropped same_time numbers position (stored_at now at) c → list ≡ get_or changes at [] ++ drop_sum same_time position (stored_at now at) ∷ []
    → DroppedTo same_time numbers position first (set now at c) (suc at) lists (set changes at list)
dropped-step same_time numbers position first now at lists changes c list so h k column more =
    let here : stored_at now at ≡ stored_at first at = so.rest at (omega arith) in
    let is : list ≡ get_or lists at [] ++ drop_sum same_time position (stored_at first at) ∷ [] =
    more ∙ ap₂ (λ (xs : List Sum) (b : Stored). xs ++ drop_sum same_time position b ∷ []) (so.same at (omega arith)) here in
    record {
      many = length-set now at c ∙ so.many;
      done = done-step (λ j d. IsDropped same_time numbers position (stored_at first j) d) now at c (omega (arith, h, so.many)) so.done (subst (λ (b : Stored). IsDropped same_time numbers position b c) here column);
      rest = rest-step first now at c so.rest;
      wide = length-set changes at list ∙ so.wide;
      longer = λ j below.
          elim (cases_eq j at) [
            | inl e ↦ subst (λ (i : ℕ). get_or (set changes at list) i [] ≡ get_or lists i [] ++ drop_sum same_time position (stored_at first i) ∷ []) (sym e) (get_or-set_same changes at list [] (omega (arith, k, so.wide)) ∙ is)
            | inr ne ↦ get_or-set_other changes at j list [] ne ∙ so.longer j (omega (arith, below, ne))
          ];
      same = λ j above. let ne : j ≢ at = omega (arith, above) in get_or-set_other changes at j list [] ne ∙ so.same j (omega (arith, above));
    }

pub dropped-all : (same_time : Bool) (numbers : List ℕ) (position : ℕ) (first now : List Stored) (lists changes : List (List Sum)) → DroppedTo same_time numbers position first now (length first) lists changes → AreDropped same_time numbers position first now
dropped-all same_time numbers position first now lists changes so = record { each = so.done }

pub dropped-changes : (same_time : Bool) (numbers : List ℕ) (position : ℕ) (first now : List Stored) (lists changes : List (List Sum)) → DroppedTo same_time numbers position first now (length first) lists changes → length lists ≡ length first
    → changes ≡ after_each lists (drop_sums same_time position first)
dropped-changes same_time numbers position first now lists changes so wide =
    let sums = drop_sums same_time position first in
    let many : length sums ≡ length first = length-drop_sums same_time position first in
    ext_get_or [] changes (after_each lists sums) (so.wide ∙ sym (length-after_each lists sums))
    (λ i h. let k : i < length first = omega (arith, h, so.wide, wide) in
    so.longer i k ∙ ap (λ (s : Sum). get_or lists i [] ++ s ∷ []) (sym (drop_sums-at same_time position first i k))
    ∙ sym (after_each-at lists sums no_sum i (omega (arith, h, so.wide)) (omega (arith, k, many))))
