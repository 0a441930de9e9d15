-- What the operations on a column do to the list of its codes: the statements of the laws that this crate's functions without a body prove.
use Rattle.std.specs.Prelude.{◌≡◌, ℕ, ◌≤◌, Bool, true, false, ◌||◌, List, [], ◌∷◌, length, map, insert, Some}
use Rattle.tree_model.specs.declared.Place.TheVariants.{Found, Gap}
use Rattle.tree_model.specs.Trees.{Tree, size, height}
use Rattle.tree_model.specs.Places.{holds, IsIncreasing}
use Rattle.tree_model.specs.Items.{drop_item, is_sparse}
use Rattle.tree_model.specs.Columns.{Column, empty_column, items_of, add, drop_one, lay, Operation, Add, Drop, Lay, apply_all}
use Rattle.path_code.specs.Sums.{Sum, sum_of}
use Rattle.path_code.specs.SumLaws.{ascending}
use Rattle.code_changes.specs.Changes.{IsIn, new_code, applied, images, differing, list_after, Fits, with_rows, without_rows}
use Rattle.code_changes.specs.Columns.{codes_of, counts_of, raised, lowered}

-- there is a code for each item, and where ways have at most 63 steps the codes increase
pub record Codes (A : Type 0) (t : Tree A) : Type 0 where
  pub as_many : length (codes_of t) ≡ size t
  pub rise : height t ≤ 63 → IsIncreasing (codes_of t)

abbrev pub CodesOfItems : Type 0 → Type 0
CodesOfItems A = (t : Tree A) → Codes A t

-- the change from one column to another is one of the codes before, and gives the codes after
pub record Leads (B : Type 0) (s : Sum) (before after : Column B) : Type 0 where
  pub fits : Fits s (codes_of before.tree)
  pub gives : list_after s (codes_of before.tree) ≡ codes_of after.tree

-- the sum of a list of operations leads from the column before to the column after them
abbrev pub OperationsFit : Type 0 → Type 0
OperationsFit B = (same_time : Bool) (operations : List (Operation B)) (c : Column B) → height c.tree ≤ 63 → height (apply_all same_time operations c).tree ≤ 63 → Leads B (sum_of same_time operations c) c (apply_all same_time operations c)

-- the pairs that differ, applied to the first list, give the second
abbrev pub Remapped : Type 0
Remapped = (olds news : List ℕ) → IsIncreasing olds → length olds ≡ length news → map (new_code (differing olds news)) olds ≡ news

-- where no pair differs the lists are one
abbrev pub NothingDiffers : Type 0
NothingDiffers = (olds news : List ℕ) → length olds ≡ length news → differing olds news ≡ [] → olds ≡ news

-- the list after a change increases, and has the added codes and the images and no others
pub record Gathers (s : Sum) (codes : List ℕ) : Type 0 where
  pub rises : IsIncreasing (list_after s codes)
  pub members : (code : ℕ) → holds code (list_after s codes) ≡ holds code s.added || holds code (images s codes)

abbrev pub AfterGathers : Type 0
AfterGathers = (s : Sum) (codes : List ℕ) → Fits s codes → Gathers s codes

-- a code is what becomes of one of these
pub record ComesFrom (s : Sum) (codes : List ℕ) (code : ℕ) : Type 0 where
  pub old : ℕ
  pub among : IsIn old codes
  pub becomes : applied s old ≡ Some code

-- the images are what becomes of the codes, and nothing else
pub record AreImages (s : Sum) (codes : List ℕ) : Type 0 where
  pub from : (code : ℕ) → IsIn code (images s codes) → ComesFrom s codes code
  pub to : (old code : ℕ) → IsIn old codes → applied s old ≡ Some code → IsIn code (images s codes)

abbrev pub ImagesAreApplied : Type 0
ImagesAreApplied = (s : Sum) (codes : List ℕ) → AreImages s codes

-- ---- what each operation does

-- a new item at a gap: each code of before is kept or moved, and the new item's code and count stand among them at the gap's rank
pub record AddsItem (B : Type 0) (rank : ℕ) (s : Sum) (before after : Column B) : Type 0 where
  pub kept : List ℕ
  pub code : ℕ
  pub as_many : length kept ≡ length (codes_of before.tree)
  pub codes : codes_of after.tree ≡ insert kept rank code
  pub counts : counts_of after ≡ insert (counts_of before) rank 1
  pub sum : s ≡ record { moved = differing (codes_of before.tree) kept; dropped = []; added = code ∷ [] }

abbrev pub GapAddsItem : Type 0 → Type 0
GapAddsItem B = (same_time : Bool) (rank : ℕ) (b : B) (c : Column B) → rank ≤ size c.tree → AddsItem B rank (sum_of same_time (Add (Gap rank) b ∷ []) c) c (add (Gap rank) b c)

-- the codes stay, and the counts become these
pub record StaysWith (B : Type 0) (counts_after : List ℕ) (s : Sum) (before after : Column B) : Type 0 where
  pub codes : codes_of after.tree ≡ codes_of before.tree
  pub counts : counts_of after ≡ counts_after
  pub sum : s ≡ record { moved = []; dropped = []; added = [] }

-- one row more of an item
abbrev pub FoundRaisesCount : Type 0 → Type 0
FoundRaisesCount B = (same_time : Bool) (rank : ℕ) (b : B) (c : Column B) → StaysWith B (raised (counts_of c) rank) (sum_of same_time (Add (Found rank) b ∷ []) c) c (add (Found rank) b c)

-- one row fewer, in ordinary mode, where enough items are live
abbrev pub DropLowersCount : Type 0 → Type 0
DropLowersCount B = (rank : ℕ) (c : Column B) → is_sparse c.most (drop_item false (items_of c) rank) ≡ false → StaysWith B (lowered (counts_of c) rank) (sum_of false (Drop rank ∷ []) c) c (drop_one false rank c)

-- where too few are live, those without rows go, and the others get new codes
pub record KeepsLive (B : Type 0) (remaining : List ℕ) (s : Sum) (before after : Column B) : Type 0 where
  pub as_many : length (with_rows remaining (codes_of before.tree)) ≡ length (codes_of after.tree)
  pub counts : counts_of after ≡ with_rows remaining remaining
  pub sum : s ≡ record { moved = differing (with_rows remaining (codes_of before.tree)) (codes_of after.tree); dropped = without_rows remaining (codes_of before.tree); added = [] }

abbrev pub SparseKeepsLive : Type 0 → Type 0
SparseKeepsLive B = (rank : ℕ) (c : Column B) → is_sparse c.most (drop_item false (items_of c) rank) ≡ true → KeepsLive B (lowered (counts_of c) rank) (sum_of false (Drop rank ∷ []) c) c (drop_one false rank c)

-- a balanced tree: new codes, and the same counts
pub record LaysCodes (B : Type 0) (s : Sum) (before after : Column B) : Type 0 where
  pub as_many : length (codes_of after.tree) ≡ length (codes_of before.tree)
  pub counts : counts_of after ≡ counts_of before
  pub sum : s ≡ record { moved = differing (codes_of before.tree) (codes_of after.tree); dropped = []; added = [] }

abbrev pub LayMovesCodes : Type 0 → Type 0
LayMovesCodes B = (same_time : Bool) (c : Column B) → LaysCodes B (sum_of same_time (Lay ∷ []) c) c (lay c)

-- ---- a worked example

-- the fifth of five ascending values is too deep, and the whole tree becomes balanced
pub record FifthOfFive (before after : Column ℕ) (s : Sum) : Type 0 where
  pub codes_before : codes_of before.tree ≡ 0x8000_0000_0000_0000 ∷ 0xc000_0000_0000_0000 ∷ 0xe000_0000_0000_0000 ∷ 0xf000_0000_0000_0000 ∷ []
  pub codes_after : codes_of after.tree ≡ 0x2000_0000_0000_0000 ∷ 0x4000_0000_0000_0000 ∷ 0x8000_0000_0000_0000 ∷ 0xa000_0000_0000_0000 ∷ 0xc000_0000_0000_0000 ∷ []
  pub added : s.added ≡ 0xc000_0000_0000_0000 ∷ []
  pub gives : list_after s (codes_of before.tree) ≡ codes_of after.tree

abbrev pub RebuildsFifth : Type 0
RebuildsFifth = FifthOfFive (apply_all false ascending (empty_column ℕ)) (add (Gap 4) 5 (apply_all false ascending (empty_column ℕ))) (sum_of false (Add (Gap 4) 5 ∷ []) (apply_all false ascending (empty_column ℕ)))

-- of three items two lose their only row, in ordinary mode: the third takes over the root's code
pub record LastOfThree (before after : Column ℕ) (s : Sum) : Type 0 where
  pub codes_before : codes_of before.tree ≡ 0x8000_0000_0000_0000 ∷ 0xc000_0000_0000_0000 ∷ 0xe000_0000_0000_0000 ∷ []
  pub counts_before : counts_of before ≡ 0 ∷ 1 ∷ 1 ∷ []
  pub sum : s ≡ record { moved = record { old = 0xe000_0000_0000_0000; new = 0x8000_0000_0000_0000 } ∷ []; dropped = 0x8000_0000_0000_0000 ∷ 0xc000_0000_0000_0000 ∷ []; added = [] }
  pub codes_after : codes_of after.tree ≡ 0x8000_0000_0000_0000 ∷ []
  pub gives : list_after s (codes_of before.tree) ≡ codes_of after.tree

-- three ascending values, and the first dropped
unfoldable pub two_of_three : Column ℕ
two_of_three = apply_all false (Add (Gap 0) 10 ∷ Add (Gap 1) 30 ∷ Add (Gap 2) 40 ∷ Drop 0 ∷ []) (empty_column ℕ)

abbrev pub KeepsLastOfThree : Type 0
KeepsLastOfThree = LastOfThree two_of_three (drop_one false 1 two_of_three) (sum_of false (Drop 1 ∷ []) two_of_three)
