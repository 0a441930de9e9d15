-- Laws of sums and worked examples: the statements that this crate's functions without a body prove.
use Rattle.std.specs.Prelude.{◌≡◌, ℕ, suc, max, ◌≤◌, Bool, true, false, List, [], ◌∷◌, ◌++◌, length, map}
use Rattle.tree_model.specs.declared.Place.TheVariants.{Found, Gap}
use Rattle.tree_model.specs.Trees.{size, height, path}
use Rattle.tree_model.specs.Places.{IsIncreasing}
use Rattle.tree_model.specs.Balance.{limit}
use Rattle.tree_model.specs.Columns.{Column, empty_column, Operation, Add, Drop, apply_all, map_column, map_operation}
use Rattle.tree_model.specs.Sums.{origins, composed}
use Rattle.path_code.specs.Laws.{code_in}
use Rattle.path_code.specs.Sums.{Sum, sum_by_origins, sum_of}

-- an insertion without a rebuild moves no code, drops none, and adds the code of its gap
abbrev pub InsertMovesNothing : Type 0 → Type 0
InsertMovesNothing B = (same_time : Bool) (rank : ℕ) (b : B) (c : Column B) → rank ≤ size c.tree → length (path c.tree (Gap rank)) ≤ limit (max c.most (suc (size c.tree))) → sum_of same_time (Add (Gap rank) b ∷ []) c ≡ record { moved = []; dropped = []; added = code_in c.tree (Gap rank) ∷ [] }

-- the sum of two lists of operations is the composition of theirs: where each item comes from is composed
abbrev pub SumComposes : Type 0 → Type 0
SumComposes B = (same_time : Bool) (earlier later : List (Operation B)) (c : Column B) → sum_of same_time (earlier ++ later) c ≡ sum_by_origins c.tree (apply_all same_time later (apply_all same_time earlier c)).tree (composed (origins same_time earlier c) (origins same_time later (apply_all same_time earlier c)))

-- sums don't look at bodies
abbrev pub SumIsBlind : Type 0 → Type 0 → Type 0
SumIsBlind B C = (f : B → C) (same_time : Bool) (operations : List (Operation B)) (c : Column B) → sum_of same_time (map (map_operation f) operations) (map_column f c) ≡ sum_of same_time operations c

-- each list of a sum increases, the pairs by their old codes and by their new ones
pub record Increase (s : Sum) : Type 0 where
  pub old : IsIncreasing (map (λ r. r.old) s.moved)
  pub new : IsIncreasing (map (λ r. r.new) s.moved)
  pub dropped : IsIncreasing s.dropped
  pub added : IsIncreasing s.added

-- where the ways before and after have at most 63 steps
abbrev pub SumsIncrease : Type 0 → Type 0
SumsIncrease B = (same_time : Bool) (operations : List (Operation B)) (c : Column B) → height c.tree ≤ 63 → height (apply_all same_time operations c).tree ≤ 63 → Increase (sum_of same_time operations c)

-- ---- worked examples

-- values in ascending order, each at the gap after those before it
unfoldable pub ascending : List (Operation ℕ)
ascending = Add (Gap 0) 1 ∷ Add (Gap 1) 2 ∷ Add (Gap 2) 3 ∷ Add (Gap 3) 4 ∷ []

-- the fifth of five ascending values stands at depth 4, which is too deep for 5 items, and the whole tree becomes balanced
abbrev pub RebuildOnDepth : Type 0
RebuildOnDepth = sum_of false (Add (Gap 4) 5 ∷ []) (apply_all false ascending (empty_column ℕ)) ≡ record {
  moved =
      record { old = 0x8000_0000_0000_0000; new = 0x2000_0000_0000_0000 }
      ∷ record { old = 0xc000_0000_0000_0000; new = 0x4000_0000_0000_0000 }
      ∷ record { old = 0xe000_0000_0000_0000; new = 0x8000_0000_0000_0000 }
      ∷ record { old = 0xf000_0000_0000_0000; new = 0xa000_0000_0000_0000 }
      ∷ [];
  dropped = [];
  added = 0xc000_0000_0000_0000 ∷ [];
}

-- in same-time mode the first of three ascending values goes, and its right tree moves up
abbrev pub OneShift : Type 0
OneShift = sum_of true (Drop 0 ∷ []) (apply_all true (Add (Gap 0) 10 ∷ Add (Gap 1) 30 ∷ Add (Gap 2) 40 ∷ []) (empty_column ℕ)) ≡ record {
  moved = record { old = 0xc000_0000_0000_0000; new = 0x8000_0000_0000_0000 } ∷ record { old = 0xe000_0000_0000_0000; new = 0xc000_0000_0000_0000 } ∷ [];
  dropped = 0x8000_0000_0000_0000 ∷ [];
  added = [];
}

-- three rows with one value, all dropped: the column is empty, and its item's code is given up
pub record DropsLast (same_time : Bool) : Type 0 where
  pub sum : sum_of same_time (Drop 0 ∷ Drop 0 ∷ Drop 0 ∷ []) (apply_all same_time (Add (Gap 0) 7 ∷ Add (Found 0) 7 ∷ Add (Found 0) 7 ∷ []) (empty_column ℕ)) ≡ record { moved = []; dropped = 0x8000_0000_0000_0000 ∷ []; added = [] }
  pub column : apply_all same_time (Add (Gap 0) 7 ∷ Add (Found 0) 7 ∷ Add (Found 0) 7 ∷ Drop 0 ∷ Drop 0 ∷ Drop 0 ∷ []) (empty_column ℕ) ≡ empty_column ℕ

abbrev pub DropLastDuplicate : Type 0
DropLastDuplicate = (same_time : Bool) → DropsLast same_time
