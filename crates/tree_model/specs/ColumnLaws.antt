-- What the operations on a column keep: the statements of laws that this crate's functions without a body prove.
use Rattle.std.specs.Prelude.{◌≡◌, ℕ, suc, ◌*◌, ◌^◌, ◌<◌, ◌≤◌, Bool, true, false, List, [], ◌∷◌, ◌++◌, length, map, get_or, insert, remove, Some, None}
use Rattle.std.specs.List.{range_with_len}
use Rattle.tree_model.specs.declared.Place.{Place}
use Rattle.tree_model.specs.declared.Place.TheVariants.{Found, Gap}
use Rattle.tree_model.specs.declared.Side.{Side}
use Rattle.tree_model.specs.Trees.{Tree, inorder, size, height, path}
use Rattle.tree_model.specs.Items.{Item, values, add_item, drop_item, is_sparse, swept, live, live_items, AllLive}
use Rattle.tree_model.specs.Places.{place, IsIncreasing}
use Rattle.tree_model.specs.Balance.{limit, IsGreatestDepth}
use Rattle.tree_model.specs.Insertion.{balanced_at, insert_tree}
use Rattle.tree_model.specs.Removal.{remove_tree}
use Rattle.tree_model.specs.Columns.{Column, empty_column, items_of, whole, add, drop_one, lay, Operation, apply, apply_all, map_column, map_operation}
use Rattle.tree_model.specs.Sums.{bodies, origins, composed, IsRising}

-- the limit of a tree's depth is the greatest d with 3^d ≤ n * 2^d
abbrev pub LimitIsGreatest : Type 0
LimitIsGreatest = (n : ℕ) → 0 < n → IsGreatestDepth n (limit n)

-- a computed example
abbrev pub DepthLimits : Type 0
DepthLimits = map limit (0 ∷ 1 ∷ 2 ∷ 3 ∷ 4 ∷ 5 ∷ 98304 ∷ 1572864 ∷ []) ≡ 0 ∷ 0 ∷ 1 ∷ 2 ∷ 3 ∷ 3 ∷ 28 ∷ 35 ∷ []

-- a part that is balanced keeps the items in order
abbrev pub PartKeepsItems : Type 0 → Type 0
PartKeepsItems A = (way : List Side) (t : Tree A) → inorder (balanced_at way t) ≡ inorder t

-- a whole rebuild keeps the live items in order
abbrev pub WholeKeepsLive : Type 0 → Type 0
WholeKeepsLive B = (t : Tree (Item B)) → inorder (whole t) ≡ live_items (inorder t)

-- an insertion puts the new item at its rank, rebuilt or not, and a removal takes it out
abbrev pub InsertPutsItem : Type 0 → Type 0
InsertPutsItem A = (most rank : ℕ) (x : A) (t : Tree A) → inorder (insert_tree most rank x t) ≡ insert (inorder t) rank x

-- where no part becomes balanced, the items left of the new one, the new one and those right of it stand at the ways that they or the gap had
pub record Stays (A : Type 0) (rank : ℕ) (t u : Tree A) : Type 0 where
  pub left : (k : ℕ) → k < rank → path u (Found k) ≡ path t (Found k)
  pub new : path u (Found rank) ≡ path t (Gap rank)
  pub right : (k : ℕ) → rank ≤ k → k < size t → path u (Found (suc k)) ≡ path t (Found k)

abbrev pub InsertStays : Type 0 → Type 0
InsertStays A = (most rank : ℕ) (x : A) (t : Tree A) → rank ≤ size t → length (path t (Gap rank)) ≤ limit most → Stays A rank t (insert_tree most rank x t)

abbrev pub RemoveTakesItem : Type 0 → Type 0
RemoveTakesItem A = (t : Tree A) (rank : ℕ) → inorder (remove_tree t rank) ≡ remove (inorder t) rank

-- an operation on a column is an operation on the list of its items
abbrev pub AddIsOnItems : Type 0 → Type 0
AddIsOnItems B = (p : Place) (b : B) (c : Column B) → items_of (add p b c) ≡ add_item p b (items_of c)

abbrev pub DropIsOnItems : Type 0 → Type 0
DropIsOnItems B = (same_time : Bool) (rank : ℕ) (c : Column B) → items_of (drop_one same_time rank c) ≡ swept (is_sparse c.most (drop_item same_time (items_of c) rank)) (drop_item same_time (items_of c) rank)

abbrev pub LayKeepsItems : Type 0 → Type 0
LayKeepsItems B = (c : Column B) → items_of (lay c) ≡ items_of c

-- no item is deeper than the limit, and of the greatest number of items at least two thirds are live; there are at most so many items
pub record IsKept (B : Type 0) (c : Column B) : Type 0 where
  pub shallow : (rank : ℕ) → rank < size c.tree → length (path c.tree (Found rank)) ≤ limit c.most
  pub dense : 2 * c.most ≤ 3 * live (items_of c)
  pub fits : size c.tree ≤ c.most

-- what a mode adds where no operation is of the other one: in ordinary mode `most` is the number of items, and in same-time mode each
-- item is some row's
unfoldable pub SuitsMode : {B : Type 0} → Bool → Column B → Type 0
SuitsMode false c = c.most ≡ size c.tree
SuitsMode true c = AllLive (items_of c)

-- operations one after the other, each in a mode of its own
unfoldable pub apply_mixed : {B : Type 0} → List (Bool × Operation B) → Column B → Column B
apply_mixed [] c = c
apply_mixed (moded ∷ operations) c = apply_mixed operations (apply moded.0 moded.1 c)

-- an operation of either mode keeps a column kept, whatever the modes before it
abbrev pub ApplyKeeps : Type 0 → Type 0
ApplyKeeps B = (same_time : Bool) (operation : Operation B) (c : Column B) → IsKept B c → IsKept B (apply same_time operation c)

-- so after any operations on an empty column, each in a mode of its own, it is kept
abbrev pub OperationsKeep : Type 0 → Type 0
OperationsKeep B = (operations : List (Bool × Operation B)) → IsKept B (apply_mixed operations (empty_column B))

-- an operation of a mode leaves a column that suits the mode one that does
abbrev pub ApplySuits : Type 0 → Type 0
ApplySuits B = (same_time : Bool) (operation : Operation B) (c : Column B) → SuitsMode same_time c → SuitsMode same_time (apply same_time operation c)

-- so after any operations of one mode on an empty column it suits that mode
abbrev pub OperationsSuit : Type 0 → Type 0
OperationsSuit B = (same_time : Bool) (operations : List (Operation B)) → SuitsMode same_time (apply_all same_time operations (empty_column B))

-- what a later operation of the mode does to the items doesn't depend on whether the tree was balanced before
abbrev pub LayIsUnseen : Type 0 → Type 0
LayIsUnseen B = (same_time : Bool) (operation : Operation B) (c : Column B) → SuitsMode same_time c → items_of (apply same_time operation (lay c)) ≡ items_of (apply same_time operation c)

-- an operation on other bodies is the same operation
abbrev pub ApplyIsBlind : Type 0 → Type 0 → Type 0
ApplyIsBlind B C = (f : B → C) (same_time : Bool) (operation : Operation B) (c : Column B) → apply same_time (map_operation f operation) (map_column f c) ≡ map_column f (apply same_time operation c)

-- where each item comes from, after two lists of operations, is where the item that it comes from came from
abbrev pub OriginsCompose : Type 0 → Type 0
OriginsCompose B = (same_time : Bool) (earlier later : List (Operation B)) (c : Column B) → origins same_time (earlier ++ later) c ≡ composed (origins same_time earlier c) (origins same_time later (apply_all same_time earlier c))

-- without operations each item comes from itself
abbrev pub OriginsOfNothing : Type 0 → Type 0
OriginsOfNothing B = (same_time : Bool) (c : Column B) → origins same_time [] c ≡ map Some (range_with_len 0 (size c.tree))

-- the item that comes from a rank has the body of the item of that rank
abbrev pub OriginsKeepBodies : Type 0 → Type 0
OriginsKeepBodies B = (same_time : Bool) (operations : List (Operation B)) (c : Column B) (rank from : ℕ) (d : B) → get_or (origins same_time operations c) rank None ≡ Some from → get_or (bodies (items_of (apply_all same_time operations c))) rank d ≡ get_or (bodies (items_of c)) from d

-- the items that stay keep their order
abbrev pub OriginsRise : Type 0 → Type 0
OriginsRise B = (same_time : Bool) (operations : List (Operation B)) (c : Column B) → IsRising 0 (size c.tree) (origins same_time operations c)

-- origins don't look at bodies
abbrev pub OriginsAreBlind : Type 0 → Type 0 → Type 0
OriginsAreBlind B C = (f : B → C) (same_time : Bool) (operations : List (Operation B)) (c : Column B) → origins same_time (map (map_operation f) operations) (map_column f c) ≡ origins same_time operations c

-- the limit never falls where items are added
abbrev pub LimitRises : Type 0
LimitRises = (fewer more : ℕ) → fewer ≤ more → limit fewer ≤ limit more

-- items stand at most so deep, and gaps at most one step deeper
pub record IsWithinDepth (A : Type 0) (t : Tree A) (depth : ℕ) : Type 0 where
  pub items : (rank : ℕ) → rank < size t → length (path t (Found rank)) ≤ depth
  pub gaps : (rank : ℕ) → length (path t (Gap rank)) ≤ suc depth

-- a kept column is within the limit of its greatest number of items
abbrev pub DepthsAreLimited : Type 0 → Type 0
DepthsAreLimited B = (c : Column B) → IsKept B c → IsWithinDepth (Item B) c.tree (limit c.most)

-- so a greatest number of items gives a depth: fewer than 2^32 items, and the items that 65,536 or 1,048,576 rows can have
pub record DepthsBySize (B : Type 0) (c : Column B) : Type 0 where
  pub any : c.most < 2 ^ 32 → IsWithinDepth (Item B) c.tree 62
  pub many : c.most ≤ 98304 → IsWithinDepth (Item B) c.tree 28
  pub more : c.most ≤ 1572864 → IsWithinDepth (Item B) c.tree 35

abbrev pub DepthsFollowSize : Type 0 → Type 0
DepthsFollowSize B = (c : Column B) → IsKept B c → DepthsBySize B c

-- a column whose greatest number of items is at most 2^32 has ways of at most 63 steps
abbrev pub WaysAreShort : Type 0 → Type 0
WaysAreShort B = (c : Column B) → IsKept B c → c.most ≤ 2 ^ 32 → height c.tree ≤ 63

-- one row more at the place of its value, one row fewer, and a balanced tree leave the values of the items increasing
pub record KeepsOrder (B : Type 0) (v : B → ℕ) (c : Column B) : Type 0 where
  pub added : (b : B) → IsIncreasing (values v (items_of (add (place (values v (items_of c)) (v b)) b c)))
  pub dropped : (same_time : Bool) (rank : ℕ) → IsIncreasing (values v (items_of (drop_one same_time rank c)))
  pub laid : IsIncreasing (values v (items_of (lay c)))

abbrev pub OperationsKeepOrder : Type 0 → Type 0
OperationsKeepOrder B = (v : B → ℕ) (c : Column B) → IsIncreasing (values v (items_of c)) → KeepsOrder B v c

-- what a column keeps, and what a mode adds, doesn't depend on bodies
abbrev pub KeptIsBlind : Type 0 → Type 0 → Type 0
KeptIsBlind B C = (f : B → C) (c : Column B) → IsKept B c → IsKept C (map_column f c)

abbrev pub SuitsIsBlind : Type 0 → Type 0 → Type 0
SuitsIsBlind B C = (f : B → C) (same_time : Bool) (c : Column B) → SuitsMode same_time c → SuitsMode same_time (map_column f c)
