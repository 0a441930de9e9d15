-- The items that stay after operations keep their order: they come from increasing ranks.
use Rattle.std.proofs.Common.{◌≡◌, ℕ, suc, zero, ◌+◌, ◌≤◌, Bool, true, false, ◌&&◌, List, [], ◌∷◌, map, insert, remove, slice_get, Option, Some, None, refl, ap, sym, subst, inl, inr, arith}
use Rattle.std.specs.List.{range_with_len}
use Rattle.std.proofs.lemmas.Bool.{cases_lt}
use Rattle.tree_model.specs.declared.Place.{Place}
use Rattle.tree_model.specs.declared.Place.TheVariants.{Found, Gap}
use Rattle.tree_model.specs.Trees.{size}
use Rattle.tree_model.specs.Items.{Item, one_more, one_less, change_at, add_item, live_items, is_dead, gone, drop_item, is_sparse, swept}
use Rattle.tree_model.specs.Columns.{Column, items_of, Operation, Add, Drop, Lay, apply, apply_all, map_operation}
use Rattle.tree_model.specs.Sums.{bodies, tagged_column, blank, origins, IsRising}
use Rattle.tree_model.proofs.Kept.{items-add, items-drop, items-lay}
use Rattle.tree_model.proofs.LiveItems.{live_items-yes, live_items-no, live_items-nil}
use Rattle.tree_model.proofs.Changes.{map-change_at}
use Rattle.tree_model.proofs.Summed.{origins-nothing, bodies-insert}

pub IsRising-lower : (low m high : ℕ) (from : List (Option ℕ)) → low ≤ m → IsRising m high from → IsRising low high from
unfolding IsRising
IsRising-lower low m high [] le up = tt
IsRising-lower low m high (None ∷ from) le up = IsRising-lower low m high from le up
IsRising-lower low m high (Some rank ∷ from) le up = (omega (arith, up.0), up.1, up.2)

pub IsRising-rest : (low high : ℕ) (o : Option ℕ) (from : List (Option ℕ)) → IsRising low high (o ∷ from) → IsRising low high from
unfolding IsRising
IsRising-rest low high None from up = up
IsRising-rest low high (Some rank) from up = IsRising-lower low (suc rank) high from (omega (arith, up.0)) up.2

IsRising-insert : (low high : ℕ) (from : List (Option ℕ)) (rank : ℕ) → IsRising low high from → IsRising low high (insert from rank None)
unfolding IsRising
IsRising-insert low high from zero up = up
IsRising-insert low high [] (suc rank) up = tt
IsRising-insert low high (None ∷ from) (suc rank) up = IsRising-insert low high from rank up
IsRising-insert low high (Some k ∷ from) (suc rank) up = (up.0, up.1, IsRising-insert (suc k) high from rank up.2)

IsRising-remove : (low high : ℕ) (from : List (Option ℕ)) (rank : ℕ) → IsRising low high from → IsRising low high (remove from rank)
unfolding IsRising
IsRising-remove low high [] zero up = tt
IsRising-remove low high [] (suc rank) up = tt
IsRising-remove low high (o ∷ from) zero up = IsRising-rest low high o from up
IsRising-remove low high (None ∷ from) (suc rank) up = IsRising-remove low high from rank up
IsRising-remove low high (Some k ∷ from) (suc rank) up = (up.0, up.1, IsRising-remove (suc k) high from rank up.2)

pub IsRising-ranks : (first n : ℕ) → IsRising first (first + n) (map Some (range_with_len first n))
unfolding IsRising
IsRising-ranks first zero = tt
IsRising-ranks first (suc n) =
    let e : first + suc n ≡ first + 1 + n = omega arith in
    let f : suc first ≡ first + 1 = omega arith in
    (omega arith, omega arith, rw (e, f) (IsRising-ranks (first + 1) n))

-- ---- over the items

unfoldable pub Rises : ℕ → ℕ → List (Item (Option ℕ)) → Type 0
Rises low high items = IsRising low high (bodies items)

pub bodies-changed : (f : Item (Option ℕ) → Item (Option ℕ)) → ((x : Item (Option ℕ)) → (f x).body ≡ x.body) → (items : List (Item (Option ℕ))) (rank : ℕ) → bodies (change_at f items rank) ≡ bodies items
unfolding bodies
bodies-changed f same items rank = map-change_at (λ (item : Item (Option ℕ)). item.body) f same items rank

pub bodies-cons : (x : Item (Option ℕ)) (items : List (Item (Option ℕ))) → bodies (x ∷ items) ≡ x.body ∷ bodies items
unfolding bodies
bodies-cons x items = refl

Rises-add : (low high : ℕ) (p : Place) (items : List (Item (Option ℕ))) → Rises low high items → Rises low high (add_item p None items)
unfolding Rises add_item one_more
Rises-add low high (Found rank) items up = subst (IsRising low high) (sym (bodies-changed one_more (λ x. refl) items rank)) up
Rises-add low high (Gap rank) items up = subst (IsRising low high) (sym (bodies-insert rank items)) (IsRising-insert low high (bodies items) rank up)

pub bodies-remove : (items : List (Item (Option ℕ))) (rank : ℕ) → bodies (remove items rank) ≡ remove (bodies items) rank
unfolding bodies
bodies-remove [] zero = refl
bodies-remove [] (suc rank) = refl
bodies-remove (x ∷ items) zero = refl
bodies-remove (x ∷ items) (suc rank) = ap (λ (rest : List (Option ℕ)). x.body ∷ rest) (bodies-remove items rank)

Rises-gone : (low high : ℕ) (b : Bool) (items : List (Item (Option ℕ))) (rank : ℕ) → Rises low high items → Rises low high (gone b items rank)
unfolding Rises gone
Rises-gone low high true items rank up = subst (IsRising low high) (sym (bodies-remove items rank)) (IsRising-remove low high (bodies items) rank up)
Rises-gone low high false items rank up = up

pub Rises-drop : (low high : ℕ) (same_time : Bool) (items : List (Item (Option ℕ))) (rank : ℕ) → Rises low high items → Rises low high (drop_item same_time items rank)
unfolding drop_item Rises one_less
Rises-drop low high same_time items rank up =
    let fewer = change_at one_less items rank in
    Rises-gone low high (same_time && is_dead (slice_get fewer rank)) fewer rank (subst (IsRising low high) (sym (bodies-changed one_less (λ x. refl) items rank)) up)

-- a live item before others that stay
kept : (low high : ℕ) (o : Option ℕ) (items : List (Item (Option ℕ))) → IsRising low high (o ∷ bodies items) → ((m : ℕ) → IsRising m high (bodies items) → IsRising m high (bodies (live_items items))) → IsRising low high (o ∷ bodies (live_items items))
unfolding IsRising
kept low high None items up live = live low up
kept low high (Some rank) items up live = (up.0, up.1, live (suc rank) up.2)

Rises-live : (low high : ℕ) (items : List (Item (Option ℕ))) → Rises low high items → Rises low high (live_items items)
unfolding Rises IsRising bodies
Rises-live low high [] up = subst (λ (xs : List (Item (Option ℕ))). IsRising low high (bodies xs)) (sym live_items-nil) up
Rises-live low high (x ∷ items) up =
    elim (cases_lt 0 x.count) [
      | inl some ↦ subst (λ (xs : List (Item (Option ℕ))). IsRising low high (bodies xs)) (sym (live_items-yes x items some)) (kept low high x.body items up (λ m h. Rises-live m high items h))
      | inr none ↦ subst (λ (xs : List (Item (Option ℕ))). IsRising low high (bodies xs)) (sym (live_items-no x items none)) (Rises-live low high items (IsRising-rest low high x.body (bodies items) up))
    ]

Rises-swept : (low high : ℕ) (b : Bool) (items : List (Item (Option ℕ))) → Rises low high items → Rises low high (swept b items)
unfolding swept
Rises-swept low high true items up = Rises-live low high items up
Rises-swept low high false items up = up

-- ---- over a column

Rises-apply : {B : Type 0} (low high : ℕ) (same_time : Bool) (operation : Operation B) (c : Column (Option ℕ)) → Rises low high (items_of c) → Rises low high (items_of (apply same_time (map_operation (λ (b : B). None) operation) c))
unfolding apply map_operation
Rises-apply low high same_time (Add p b) c up = subst (Rises low high) (sym (items-add p None c)) (Rises-add low high p (items_of c) up)
Rises-apply low high same_time (Drop rank) c up =
    let dropped = drop_item same_time (items_of c) rank in
    subst (Rises low high) (sym (items-drop same_time rank c)) (Rises-swept low high (is_sparse c.most dropped) dropped (Rises-drop low high same_time (items_of c) rank up))
Rises-apply low high same_time Lay c up = subst (Rises low high) (sym (items-lay c)) up

Rises-apply_all : {B : Type 0} (low high : ℕ) (same_time : Bool) (operations : List (Operation B)) (c : Column (Option ℕ)) → Rises low high (items_of c) → Rises low high (items_of (apply_all same_time (blank operations) c))
unfolding apply_all blank
Rises-apply_all low high same_time [] c up = up
Rises-apply_all {B} low high same_time (operation ∷ operations) c up =
    Rises-apply_all low high same_time operations (apply same_time (map_operation (λ (b : B). None) operation) c) (Rises-apply low high same_time operation c up)

-- the items that stay keep their order
pub origins-rising : {B : Type 0} (same_time : Bool) (operations : List (Operation B)) (c : Column B) → IsRising 0 (size c.tree) (origins same_time operations c)
unfolding origins Rises apply_all blank
origins-rising same_time operations c =
    let n = size c.tree in
    let ranks : IsRising 0 n (map Some (range_with_len 0 n)) = (let e : 0 + n ≡ n = omega arith in rw e at (IsRising-ranks 0 n)) in
    let at_first = subst (IsRising 0 n) (sym (origins-nothing same_time c)) ranks in
    Rises-apply_all 0 n same_time operations (tagged_column c) at_first
