-- A search by halving.
use Rattle.std.proofs.Common.{◌≡◌, ℕ, ◌+◌, ◌<◌, ◌≤◌, Bool, true, false, List, length, take, drop, get_or, ap, ◌∙◌, sym, inl, inr, arith}
use Rattle.std.specs.List.Sorted.{IsPartitionedBy}
use Rattle.std.proofs.lemmas.Bool.{cases_Bool}
use Rattle.std.proofs.lemmas.List.{get_or-take, get_or-drop, get_or_default}
use Rattle.cow_pages.specs.Search.{IsBetween}

-- the first item of the rest of a page is the item of its place
pub first_of_run : {A : Type 0} (items run : List A) (place : ℕ) (d : A) → run ≡ take (length run) (drop place items) → 0 < length run → get_or run 0 d ≡ get_or items place d
first_of_run items run place d is some =
    ap (λ (zs : List _). get_or zs 0 d) is ∙ get_or-take (length run) (drop place items) 0 d some ∙ get_or-drop place items 0 d
    ∙ ap (λ (n : ℕ). get_or items n d) (let e : place + 0 ≡ place = omega arith in e)

pub before_cut : {A : Type 0} (p : A → Bool) (items : List A) (low high middle : ℕ) (item : A) → IsPartitionedBy p items → IsBetween p items low high → middle < high → item ≡ get_or items middle item → p item ≡ true → IsBetween p items (middle + 1) high
before_cut p items low high middle item parted b lt read passes = record {
  order = omega arith;
  within = b.within;
  front = λ k d from to. parted k middle d (omega arith) (omega (arith, b.within)) (ap p (get_or_default items middle d item (omega (arith, b.within)) ∙ sym read) ∙ passes);
  back = b.back;
}

pub after_cut : {A : Type 0} (p : A → Bool) (items : List A) (low high middle : ℕ) (item : A) → IsPartitionedBy p items → IsBetween p items low high → low ≤ middle → middle < high → item ≡ get_or items middle item → p item ≡ false → IsBetween p items low middle
after_cut p items low high middle item parted b le lt read fails = record {
  order = le;
  within = omega (arith, b.within);
  front = b.front;
  back = λ k d from to. elim (cases_Bool (p (get_or items k d))) [
    | inl passes ↦
        let at : p (get_or items middle d) ≡ true = parted middle k d from to passes in
        let same : p (get_or items middle d) ≡ false = ap p (get_or_default items middle d item (omega (arith, b.within)) ∙ sym read) ∙ fails in
        absurd (let f : true ≡ false = sym at ∙ same in cc)
    | inr free ↦ free
  ];
}
