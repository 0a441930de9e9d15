-- The rank of a code among a tree's codes, and codes of rows that follow their items.
use Rattle.std.proofs.Common.{◌≡◌, ℕ, ◌<◌, ◌≤◌, Bool, true, List, [], ◌∷◌, map, length, refl, ap₂, ◌∙◌, sym, subst, inl, inr, arith}
use Rattle.std.proofs.lemmas.Bool.{cases_lt}
use Rattle.tree_model.specs.Trees.{Tree, size, height}
use Rattle.tree_model.specs.Places.{below, holds}
use Rattle.tree_model.specs.Columns.{Column, Operation, apply_all}
use Rattle.tree_model.specs.Sums.{origins}
use Rattle.tree_model.specs.Carried.{is_origin, carried}
use Rattle.tree_model.proofs.Ordered.{held_at-below, place-IsFound, found_of_place, holds-cons_eq}
use Rattle.tree_model.proofs.TalliedRows.{held-cons, held-from}
use Rattle.tree_model.proofs.RankLaws.{carried_tells_rank, carried_keeps_order}
use Rattle.path_code.specs.Sums.{item_code, sum_of}
use Rattle.path_code.proofs.Increasing.{item_code-lt}
use Rattle.code_changes.specs.Changes.{IsIn, new_code}
use Rattle.code_changes.specs.Columns.{codes_of}
use Rattle.code_changes.proofs.ItemCodes.{length-codes_of, get_or-codes_of, IsIncreasing-codes_of}
use Rattle.code_changes.proofs.Following.{codes_follow}
use Rattle.column_index.specs.Recoding.{KeepsOrder}
use Rattle.enc_table.specs.Held.{AreCoded}
use Rattle.enc_table.specs.Stored.{ranks_among}

-- the item of a code that is one
pub item_of_code : {A : Type 0} (t : Tree A) (code : ℕ) → height t ≤ 63 → IsIn code (codes_of t) → (below code (codes_of t) < size t) × (item_code t (below code (codes_of t)) ≡ code)
item_of_code t code short held =
    let at = held_at-below code (codes_of t) 0 (IsIncreasing-codes_of t short) held in
    let lt : below code (codes_of t) < size t = omega (arith, at.0, length-codes_of t) in
    (lt, sym (get_or-codes_of t (below code (codes_of t)) 0 lt) ∙ at.1)

-- the code of an item has the item's rank
pub rank_of_code : {A : Type 0} (t : Tree A) (rank : ℕ) → height t ≤ 63 → rank < size t → below (item_code t rank) (codes_of t) ≡ rank
rank_of_code t rank short lt =
    let among : rank < length (codes_of t) = omega (arith, lt, length-codes_of t) in
    (found_of_place (codes_of t) (item_code t rank) rank (place-IsFound (codes_of t) (item_code t rank) rank 0 (IsIncreasing-codes_of t short) among (get_or-codes_of t rank 0 lt))).0

-- each of these ranks is an item's
abbrev pub AllWithinTree : {A : Type 0} → Tree A → List ℕ → Type 0
AllWithinTree t ranks = (rank : ℕ) → holds rank ranks ≡ true → rank < size t

pub ranks_back : {A : Type 0} (t : Tree A) (ranks : List ℕ) → height t ≤ 63 → AllWithinTree t ranks → ranks_among (codes_of t) (map (item_code t) ranks) ≡ ranks
unfolding ranks_among
ranks_back t [] short within = refl
ranks_back t (rank ∷ ranks) short within =
    ap₂ (λ (first : ℕ) (rest : List ℕ). first ∷ rest)
    (rank_of_code t rank short (within rank (holds-cons_eq rank rank ranks refl)))
    (ranks_back t ranks short (λ other held. within other (held-cons other rank ranks held)))

-- ---- under operations

-- each of these ranks is an item's, and the item stays
abbrev pub AllStay : {B : Type 0} → Bool → List (Operation B) → Column B → List ℕ → Type 0
AllStay same_time operations c ranks = (rank : ℕ) → holds rank ranks ≡ true → is_origin rank (origins same_time operations c) ≡ true

pub codes-carried : {B : Type 0} (same_time : Bool) (operations : List (Operation B)) (c : Column B) (ranks : List ℕ) → height c.tree ≤ 63 → AllWithinTree c.tree ranks → AllStay same_time operations c ranks
    → map (new_code (sum_of same_time operations c).moved) (map (item_code c.tree) ranks) ≡ map (item_code (apply_all same_time operations c).tree) (map (carried (origins same_time operations c)) ranks)
codes-carried same_time operations c [] short within stay = refl
codes-carried same_time operations c (rank ∷ ranks) short within stay =
    let here = holds-cons_eq rank rank ranks refl in
    ap₂ (λ (first : ℕ) (rest : List ℕ). first ∷ rest)
    ((codes_follow same_time operations c rank short (within rank here)).moves (stay rank here))
    (codes-carried same_time operations c ranks short (λ other held. within other (held-cons other rank ranks held)) (λ other held. stay other (held-cons other rank ranks held)))

pub within-carried : {B : Type 0} (same_time : Bool) (operations : List (Operation B)) (c : Column B) (ranks : List ℕ) → AllStay same_time operations c ranks → AllWithinTree (apply_all same_time operations c).tree (map (carried (origins same_time operations c)) ranks)
within-carried same_time operations c ranks stay image held =
    let from = held-from (carried (origins same_time operations c)) image ranks held in
    let told = carried_tells_rank same_time operations c from.0 (stay from.0 from.1) in
    subst (λ (k : ℕ). k < size (apply_all same_time operations c).tree) from.2 told.among

pub coded-carried : {B : Type 0} (same_time : Bool) (operations : List (Operation B)) (c : Column B) (ranks : List ℕ) → height c.tree ≤ 63 → AllWithinTree c.tree ranks → AllStay same_time operations c ranks
    → AreCoded _ (apply_all same_time operations c).tree (map (new_code (sum_of same_time operations c).moved) (map (item_code c.tree) ranks)) (map (carried (origins same_time operations c)) ranks)
coded-carried same_time operations c ranks short within stay = record { coded = codes-carried same_time operations c ranks short within stay; within = within-carried same_time operations c ranks stay }

-- of two items the one with the smaller code stands first
item_code-lt_of : {A : Type 0} (t : Tree A) (j k : ℕ) → height t ≤ 63 → j < size t → item_code t j < item_code t k → j < k
item_code-lt_of t j k short lt less =
    elim (cases_lt j k) [
      | inl up ↦ up
      | inr down ↦ elim (cases_lt k j) [
        | inl later ↦ absurd (let turned = item_code-lt t k j short later lt in omega (arith, less, turned))
        | inr equal ↦ absurd (let same : k ≡ j = omega arith in let itself = subst (λ (n : ℕ). item_code t j < item_code t n) same less in omega (arith, itself))
      ]
    ]

order_at : {B : Type 0} (same_time : Bool) (operations : List (Operation B)) (c : Column B) (ranks : List ℕ) → height c.tree ≤ 63 → height (apply_all same_time operations c).tree ≤ 63 → AllWithinTree c.tree ranks → AllStay same_time operations c ranks
    → (j k : ℕ) → holds j ranks ≡ true → holds k ranks ≡ true → item_code c.tree j < item_code c.tree k → new_code (sum_of same_time operations c).moved (item_code c.tree j) < new_code (sum_of same_time operations c).moved (item_code c.tree k)
order_at same_time operations c ranks short after within stay j k held_j held_k less =
    let up = item_code-lt_of c.tree j k short (within j held_j) less in
    let first = (codes_follow same_time operations c j short (within j held_j)).moves (stay j held_j) in
    let second = (codes_follow same_time operations c k short (within k held_k)).moves (stay k held_k) in
    let order = carried_keeps_order same_time operations c j k (stay j held_j) (stay k held_k) up in
    let among = (carried_tells_rank same_time operations c k (stay k held_k)).among in
    let rises = item_code-lt (apply_all same_time operations c).tree (carried (origins same_time operations c) j) (carried (origins same_time operations c) k) after order among in
    omega (arith, first, second, rises)

pub order-carried : {B : Type 0} (same_time : Bool) (operations : List (Operation B)) (c : Column B) (ranks : List ℕ) → height c.tree ≤ 63 → height (apply_all same_time operations c).tree ≤ 63 → AllWithinTree c.tree ranks → AllStay same_time operations c ranks
    → KeepsOrder (new_code (sum_of same_time operations c).moved) (map (item_code c.tree) ranks)
order-carried same_time operations c ranks short after within stay code other held held_other less =
    let to : ℕ → ℕ = new_code (sum_of same_time operations c).moved in
    let first = held-from (item_code c.tree) code ranks held in
    let second = held-from (item_code c.tree) other ranks held_other in
    subst (λ (a : ℕ). a < other → to a < to other) first.2
    (subst (λ (b : ℕ). item_code c.tree first.0 < b → to (item_code c.tree first.0) < to b) second.2
    (order_at same_time operations c ranks short after within stay first.0 second.0 first.1 second.1)) less
