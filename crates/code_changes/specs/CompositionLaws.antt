-- Changes in normal form, codes that follow their items, and compositions: the statements of laws that this crate's functions without
-- a body prove.
use Rattle.std.specs.Prelude.{◌≡◌, ℕ, ◌<◌, ◌≤◌, Bool, true, false, List, [], ◌∷◌, ◌++◌, Option}
use Rattle.tree_model.specs.Trees.{Tree, size, height}
use Rattle.tree_model.specs.Places.{holds}
use Rattle.tree_model.specs.declared.Place.TheVariants.{Gap}
use Rattle.tree_model.specs.Items.{Item}
use Rattle.tree_model.specs.Columns.{Column, empty_column, Operation, Add, Lay, apply_all}
use Rattle.tree_model.specs.Sums.{origins}
use Rattle.tree_model.specs.Carried.{is_origin, carried}
use Rattle.path_code.specs.Sums.{item_code, Sum, sum_of}
use Rattle.path_code.specs.SumLaws.{ascending}
use Rattle.code_changes.specs.Changes.{IsIn, new_code, applied, list_after, Fits}
use Rattle.code_changes.specs.Columns.{codes_of}
use Rattle.code_changes.specs.Normal.{IsNormal}
use Rattle.code_changes.specs.Compositions.{applied_both, both_on, FitsInTurn}

-- the sum of a list of operations is in normal form where ways before and after have at most 63 steps
abbrev pub SumsAreNormal : Type 0 → Type 0
SumsAreNormal B = (same_time : Bool) (operations : List (Operation B)) (c : Column B) → height c.tree ≤ 63 → height (apply_all same_time operations c).tree ≤ 63 → IsNormal (sum_of same_time operations c)

-- the code of an item that stays becomes its code after, and the code of another is dropped
pub record Follows (A B : Type 0) (t : Tree A) (u : Tree B) (from : List (Option ℕ)) (s : Sum) (rank : ℕ) : Type 0 where
  pub moves : is_origin rank from ≡ true → new_code s.moved (item_code t rank) ≡ item_code u (carried from rank)
  pub stays : is_origin rank from ≡ true → holds (item_code t rank) s.dropped ≡ false
  pub goes : is_origin rank from ≡ false → holds (item_code t rank) s.dropped ≡ true

-- under a list of operations codes follow their items
abbrev pub CodesFollow : Type 0 → Type 0
CodesFollow B = (same_time : Bool) (operations : List (Operation B)) (c : Column B) (rank : ℕ) → height c.tree ≤ 63 → rank < size c.tree → Follows (Item B) (Item B) c.tree (apply_all same_time operations c).tree (origins same_time operations c) (sum_of same_time operations c) rank

-- a change of codes does what two do in turn
pub record Composes (s next both : Sum) (codes : List ℕ) : Type 0 where
  pub fits : Fits both codes
  pub gives : list_after both codes ≡ list_after next (list_after s codes)
  pub applies : (code : ℕ) → IsIn code codes → applied both code ≡ applied_both s next code
  pub added : both.added ≡ list_after next s.added

abbrev pub BothCompose : Type 0
BothCompose = (s next : Sum) (codes : List ℕ) → FitsInTurn s next codes → Composes s next (both_on s next codes) codes

-- the composition of changes in normal form is in normal form
abbrev pub BothAreNormal : Type 0
BothAreNormal = (s next : Sum) (codes : List ℕ) → IsNormal s → FitsInTurn s next codes → IsNormal (both_on s next codes)

-- a change in normal form is told by what becomes of a list that it fits, and by the list after it
abbrev pub NormalIsTold : Type 0
NormalIsTold = (s other : Sum) (codes : List ℕ) → IsNormal s → IsNormal other → Fits s codes → Fits other codes → ((code : ℕ) → IsIn code codes → applied s code ≡ applied other code) → list_after s codes ≡ list_after other codes → s ≡ other

-- the composition of the sums of two lists of operations is the sum of both
abbrev pub SumsCompose : Type 0 → Type 0
SumsCompose B = (same_time : Bool) (earlier later : List (Operation B)) (c : Column B) → height c.tree ≤ 63 → height (apply_all same_time earlier c).tree ≤ 63 → height (apply_all same_time later (apply_all same_time earlier c)).tree ≤ 63 → both_on (sum_of same_time earlier c) (sum_of same_time later (apply_all same_time earlier c)) (codes_of c.tree) ≡ sum_of same_time (earlier ++ later) c

-- three changes that fit in turn: it makes no difference which two are composed first
abbrev pub BothAssociate : Type 0
BothAssociate = (s next last : Sum) (codes : List ℕ) → IsNormal s → FitsInTurn s next codes → Fits last (list_after next (list_after s codes)) → both_on (both_on s next codes) last codes ≡ both_on s (both_on next last (list_after s codes)) codes

-- the change that leaves all codes
unfoldable pub unchanged : Sum
unchanged = record { moved = []; dropped = []; added = [] }

-- before or after a change it makes no difference
pub record IsNeutral (s : Sum) (codes : List ℕ) : Type 0 where
  pub before : both_on unchanged s codes ≡ s
  pub after : both_on s unchanged codes ≡ s

abbrev pub UnchangedIsNeutral : Type 0
UnchangedIsNeutral = (s : Sum) (codes : List ℕ) → IsNormal s → Fits s codes → IsNeutral s codes

-- ---- worked examples

-- the fifth of five ascending values, and then the column balanced again
pub record FifthThenLaid (fifth laid both : Sum) (codes : List ℕ) : Type 0 where
  pub same : both_on fifth laid codes ≡ both
  pub added : both.added ≡ 0xc000_0000_0000_0000 ∷ []

abbrev pub FifthIsLaid : Type 0
FifthIsLaid = FifthThenLaid
    (sum_of false (Add (Gap 4) 5 ∷ []) (apply_all false ascending (empty_column ℕ)))
    (sum_of false (Lay ∷ []) (apply_all false (Add (Gap 4) 5 ∷ []) (apply_all false ascending (empty_column ℕ))))
    (sum_of false (Add (Gap 4) 5 ∷ Lay ∷ []) (apply_all false ascending (empty_column ℕ)))
    (codes_of (apply_all false ascending (empty_column ℕ)).tree)
