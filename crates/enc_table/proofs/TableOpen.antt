-- A table that isn't full, one that is spent, and what a row's deletion does to codes.
use Rattle.std.proofs.Common.{◌≡◌, ℕ, ◌<◌, ◌≤◌, ◌^◌, Bool, true, false, List, [], ◌∷◌, length, get_or, refl, ap, ap₂, ◌∙◌, sym, subst, inl, inr, arith}
use Rattle.std.proofs.lemmas.Bool.{cases_lt}
use Rattle.std.proofs.lemmas.List.{ext_get_or, length-map}
use Rattle.std.specs.Bool.{IsTrue}
use Rattle.std.specs.Prelude.{◌↔◌}
use Rattle.mope_base.specs.declared.body.Body.{Body}
use Rattle.tree_model.specs.Columns.{Column, Operation}
use Rattle.tree_model.proofs.CarriedRanks.{false_is_true}
use Rattle.path_code.specs.Sums.{Sum, sum_of}
use Rattle.table_model.specs.Steps.{drops}
use Rattle.table_model.specs.Changes.{ranks_of}
use Rattle.enc_table.specs.declared.columns.Column.{Column as Stored}
use Rattle.enc_table.specs.declared.stamps.Stamps.{Stamps}
use Rattle.enc_table.specs.Seen.{Seen, IsTable, IsFull, spent_table}
use Rattle.enc_table.specs.Stored.{stored_at, kept_in, trees_in}
use Rattle.enc_table.specs.Sums.{sums}
use Rattle.enc_table.specs.Fields.{seen_in, AreFields, drop_sums}
use Rattle.enc_table.proofs.TableLists.{trees-at, length-trees, no_sum, sums-at, length-sums}
use Rattle.enc_table.proofs.TableDropping.{drop_sum, drop_sums-at, length-drop_sums}
use Rattle.enc_table.proofs.KeptDrops.{GoneIs}
use Rattle.enc_table.proofs.TableSeen.{spent-already}

-- room for one row more
pub record IsOpen (t : Seen) : Type 0 where
  pub few : length t.shelf.kept < t.limit
  pub below : t.shelf.next < 2 ^ 63

pub open-of : (t : Seen) (result : Bool) → (IsTrue result ↔ IsFull t) → result ≡ false → IsOpen t
open-of t result full shut =
    record {
      few = elim (cases_lt (length t.shelf.kept) t.limit) [ inl h ↦ h | inr h ↦ false_is_true (sym shut ∙ full.1 (inl h)) ];
      below = elim (cases_lt t.shelf.next (2 ^ 63)) [ inl h ↦ h | inr h ↦ false_is_true (sym shut ∙ full.1 (inr h)) ];
    }

pub spent-stays : (same_time : Bool) (limit : ℕ) (stamps : Stamps) (next : ℕ) (numbers : List ℕ) (cs : List Stored) (spent : Bool) (t : Seen) → AreFields same_time limit stamps next numbers cs spent → seen_in same_time limit stamps next numbers cs spent ≡ t → spent ≡ true → t ≡ spent_table t
spent-stays same_time limit stamps next numbers cs spent t is e gone = spent-already t (subst IsTable e is.table) (sym (ap (λ (u : Seen). u.spent) e) ∙ gone)

length-drops : (ranks : List ℕ) → length (drops {B = Body} ranks) ≡ length ranks
unfolding drops
length-drops ranks = length-map ranks _

pub drop_sums-are : (same_time : Bool) (numbers : List ℕ) (cs : List Stored) (position number : ℕ) → GoneIs numbers cs position number → drop_sums same_time position cs ≡ sums same_time (drops (ranks_of number (kept_in numbers cs))) (trees_in cs)
drop_sums-are same_time numbers cs position number gone =
    let ranks = ranks_of number (kept_in numbers cs) in
    let steps = drops {B = Body} ranks in
    let trees : length (trees_in cs) ≡ length cs = length-trees cs in
    let many : length steps ≡ length cs = length-drops ranks ∙ gone.wide in
    let one : length (drop_sums same_time position cs) ≡ length cs = length-drop_sums same_time position cs in
    let other : length (sums same_time steps (trees_in cs)) ≡ length (trees_in cs) = length-sums same_time steps (trees_in cs) (many ∙ sym trees) in
    ext_get_or no_sum (drop_sums same_time position cs) (sums same_time steps (trees_in cs)) (one ∙ sym (other ∙ trees))
    (λ i h. let k : i < length cs = omega (arith, h, one) in
    drop_sums-at same_time position cs i k
    ∙ sym (ap₂ (λ (operations : List (Operation Body)) (c : Column Body). sum_of same_time operations c) (gone.step i k) (trees-at cs i))
    ∙ sym (sums-at same_time steps (trees_in cs) i (omega (arith, k, many)) (omega (arith, k, trees))))
