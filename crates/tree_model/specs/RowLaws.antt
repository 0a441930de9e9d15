-- How rows follow their items under operations: the statements of laws that this crate's functions without a body prove.
use Rattle.std.specs.Prelude.{◌≡◌, ℕ, ◌<◌, Bool, true, false, ◌&&◌, List, [], ◌∷◌, ◌++◌, map, get_or, Option, Some, None}
use Rattle.tree_model.specs.declared.Place.{Place}
use Rattle.tree_model.specs.declared.Place.TheVariants.{Found, Gap}
use Rattle.tree_model.specs.Trees.{size}
use Rattle.tree_model.specs.Places.{below, place, IsIncreasing}
use Rattle.tree_model.specs.Items.{Item, one_less, values, change_at}
use Rattle.tree_model.specs.Columns.{Column, empty_column, items_of, add, Operation, Add, Drop, apply_all, map_column, map_operation}
use Rattle.tree_model.specs.Sums.{origins, composed, IsRising}
use Rattle.tree_model.specs.Carried.{is_origin, carried}
use Rattle.tree_model.specs.Ranks.{rank_at, rank_after, rank_after_all, stays_after, stays_after_all}

-- ---- ranks

-- an item that stays stood among the items before, and stands among those after at the rank that `carried` tells, and nowhere else
pub record StandsAfter (origins_are : List (Option ℕ)) (before after rank : ℕ) : Type 0 where
  pub was : rank < before
  pub among : carried origins_are rank < after
  pub there : get_or origins_are (carried origins_are rank) None ≡ Some rank
  pub nowhere_else : (k : ℕ) → get_or origins_are k None ≡ Some rank → k ≡ carried origins_are rank

abbrev pub CarriedTellsRank : Type 0 → Type 0
CarriedTellsRank B = (same_time : Bool) (operations : List (Operation B)) (c : Column B) (rank : ℕ) → is_origin rank (origins same_time operations c) ≡ true → StandsAfter (origins same_time operations c) (size c.tree) (size (apply_all same_time operations c).tree) rank

-- two items that stay keep their order
abbrev pub CarriedKeepsOrder : Type 0 → Type 0
CarriedKeepsOrder B = (same_time : Bool) (operations : List (Operation B)) (c : Column B) (j k : ℕ) → is_origin j (origins same_time operations c) ≡ true → is_origin k (origins same_time operations c) ≡ true → j < k → carried (origins same_time operations c) j < carried (origins same_time operations c) k

-- after two lists of operations an item stays where it stays under both, and its rank goes through both
pub record CarriedBoth (rank : ℕ) (earlier later both : List (Option ℕ)) : Type 0 where
  pub stays : is_origin rank both ≡ is_origin rank earlier && is_origin (carried earlier rank) later
  pub carries : is_origin rank both ≡ true → carried both rank ≡ carried later (carried earlier rank)

abbrev pub CarriedComposes : Type 0
CarriedComposes = (low high rank : ℕ) (earlier later : List (Option ℕ)) → IsRising low high earlier → CarriedBoth rank earlier later (composed earlier later)

abbrev pub CarriedAppends : Type 0 → Type 0
CarriedAppends B = (same_time : Bool) (earlier later : List (Operation B)) (c : Column B) (rank : ℕ) → CarriedBoth rank (origins same_time earlier c) (origins same_time later (apply_all same_time earlier c)) (origins same_time (earlier ++ later) c)

-- an item stays as by the operation's cases, and its rank is the one that they tell
pub record RankIs (rank : ℕ) (origins_are : List (Option ℕ)) (stays_is : Bool) (rank_is : ℕ) : Type 0 where
  pub stays : is_origin rank origins_are ≡ stays_is
  pub carries : stays_is ≡ true → carried origins_are rank ≡ rank_is

abbrev pub CarriedOfNothing : Type 0 → Type 0
CarriedOfNothing B = (same_time : Bool) (c : Column B) (rank : ℕ) → rank < size c.tree → RankIs rank (origins same_time [] c) true rank

abbrev pub RankAfterOperation : Type 0 → Type 0
RankAfterOperation B = (same_time : Bool) (operation : Operation B) (c : Column B) (rank : ℕ) → rank < size c.tree → RankIs rank (origins same_time (operation ∷ []) c) (stays_after same_time operation c rank) (rank_after same_time operation c rank)

abbrev pub RankAfterOperations : Type 0 → Type 0
RankAfterOperations B = (same_time : Bool) (operations : List (Operation B)) (c : Column B) (rank : ℕ) → rank < size c.tree → RankIs rank (origins same_time operations c) (stays_after_all same_time operations c rank) (rank_after_all same_time operations c rank)

-- an item that some row still has stays
abbrev pub RowsKeepItem : Type 0 → Type 0
RowsKeepItem B = (same_time : Bool) (at : ℕ) (c : Column B) (rank : ℕ) (d : Item B) → rank < size c.tree → 0 < (get_or (change_at one_less (items_of c) at) rank d).count → stays_after same_time (Drop at) c rank ≡ true

-- ranks don't look at bodies
pub record BlindRanks (B C : Type 0) (f : B → C) (same_time : Bool) (operations : List (Operation B)) (c : Column B) (rank : ℕ) : Type 0 where
  pub stays : stays_after_all same_time (map (map_operation f) operations) (map_column f c) rank ≡ stays_after_all same_time operations c rank
  pub rank_is : rank_after_all same_time (map (map_operation f) operations) (map_column f c) rank ≡ rank_after_all same_time operations c rank

abbrev pub RanksAreBlind : Type 0 → Type 0 → Type 0
RanksAreBlind B C = (f : B → C) (same_time : Bool) (operations : List (Operation B)) (c : Column B) (rank : ℕ) → BlindRanks B C f same_time operations c rank

-- ---- values

-- the value of an item that stays stands at the item's rank after the operations
pub record ValueFollows (before after : List ℕ) (origins_are : List (Option ℕ)) (rank d : ℕ) : Type 0 where
  pub value : get_or after (carried origins_are rank) d ≡ get_or before rank d
  pub smaller : below (get_or before rank d) after ≡ carried origins_are rank
  pub found : place after (get_or before rank d) ≡ Found (carried origins_are rank)

abbrev pub ValuesFollow : Type 0 → Type 0
ValuesFollow B = (v : B → ℕ) (same_time : Bool) (operations : List (Operation B)) (c : Column B) (rank d : ℕ) → IsIncreasing (values v (items_of (apply_all same_time operations c))) → is_origin rank (origins same_time operations c) ≡ true → ValueFollows (values v (items_of c)) (values v (items_of (apply_all same_time operations c))) (origins same_time operations c) rank d

-- a row that came in at the place of its value has the item with this value
pub record NewRowStands (B : Type 0) (v : B → ℕ) (p : Place) (b : B) (after : Column B) (d : ℕ) : Type 0 where
  pub among : rank_at p < size after.tree
  pub value : get_or (values v (items_of after)) (rank_at p) d ≡ v b
  pub found : place (values v (items_of after)) (v b) ≡ Found (rank_at p)

abbrev pub NewRowsStand : Type 0 → Type 0
NewRowsStand B = (v : B → ℕ) (b : B) (c : Column B) (d : ℕ) → IsIncreasing (values v (items_of c)) → NewRowStands B v (place (values v (items_of c)) (v b)) b (add (place (values v (items_of c)) (v b)) b c) d

-- ---- worked examples: the items 10, 30, 40 with a row each

unfoldable pub three_items : Column ℕ
three_items = apply_all false (Add (Gap 0) 10 ∷ Add (Gap 1) 30 ∷ Add (Gap 2) 40 ∷ []) (empty_column ℕ)

-- a new item after the first, and in same-time mode the second without its row
pub record RanksOfThree : Type 0 where
  pub after_new : map (rank_after false (Add (Gap 1) 20) three_items) (0 ∷ 1 ∷ 2 ∷ []) ≡ 0 ∷ 2 ∷ 3 ∷ []
  pub which_stay : map (stays_after true (Drop 1) three_items) (0 ∷ 1 ∷ 2 ∷ []) ≡ true ∷ false ∷ true ∷ []
  pub after_gone : map (rank_after true (Drop 1) three_items) (0 ∷ 2 ∷ []) ≡ 0 ∷ 1 ∷ []

-- in ordinary mode the first loses its row and stays, and when the second does, the third is the only live one and becomes the first
pub record RanksOfSwept : Type 0 where
  pub all_stay : map (stays_after false (Drop 0) three_items) (0 ∷ 1 ∷ 2 ∷ []) ≡ true ∷ true ∷ true ∷ []
  pub last_stays : map (stays_after_all false (Drop 0 ∷ Drop 1 ∷ []) three_items) (0 ∷ 1 ∷ 2 ∷ []) ≡ false ∷ false ∷ true ∷ []
  pub last_is_first : rank_after_all false (Drop 0 ∷ Drop 1 ∷ []) three_items 2 ≡ 0
