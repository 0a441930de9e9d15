-- The values of a column's items increase after each operation; and what a column keeps doesn't depend on bodies.
use Rattle.std.proofs.Common.{◌≡◌, ℕ, suc, zero, Bool, true, false, ◌&&◌, List, [], ◌∷◌, length, map, remove, slice_get, refl, ap, ◌∙◌, sym, subst, inl, inr, arith}
use Rattle.std.proofs.lemmas.Bool.{cases_lt}
use Rattle.tree_model.specs.declared.Side.{Side}
use Rattle.tree_model.specs.declared.Place.TheVariants.{Found}
use Rattle.tree_model.specs.Trees.{inorder}
use Rattle.tree_model.specs.Places.{place, IsBelowAll, IsIncreasing}
use Rattle.tree_model.specs.Items.{Item, map_item, one_less, values, change_at, live_items, is_dead, gone, drop_item, is_sparse, swept, AllLive}
use Rattle.tree_model.specs.Columns.{Column, items_of, map_column}
use Rattle.tree_model.specs.ColumnLaws.{IsKept, SuitsMode, KeepsOrder}
use Rattle.tree_model.proofs.Changes.{map-change_at, IsIncreasing-add_item}
use Rattle.tree_model.proofs.LiveItems.{live_items-yes, live_items-no, live_items-nil}
use Rattle.tree_model.proofs.Mapped.{size-map_tree, path-map_tree, inorder-map_tree}
use Rattle.tree_model.proofs.Blind.{live-map_tree}
use Rattle.tree_model.proofs.Kept.{items-add, items-drop, items-lay}

-- ---- the values

pub IsBelowAll-rest : (v x : ℕ) (xs : List ℕ) → IsBelowAll v (x ∷ xs) → IsBelowAll v xs
unfolding IsBelowAll
IsBelowAll-rest v x xs h = h.1

pub IsBelowAll-remove : (v : ℕ) (xs : List ℕ) (rank : ℕ) → IsBelowAll v xs → IsBelowAll v (remove xs rank)
unfolding IsBelowAll
IsBelowAll-remove v [] zero h = h
IsBelowAll-remove v [] (suc rank) h = h
IsBelowAll-remove v (x ∷ xs) zero h = h.1
IsBelowAll-remove v (x ∷ xs) (suc rank) h = (h.0, IsBelowAll-remove v xs rank h.1)

pub IsIncreasing-remove : (xs : List ℕ) (rank : ℕ) → IsIncreasing xs → IsIncreasing (remove xs rank)
unfolding IsIncreasing
IsIncreasing-remove [] zero up = up
IsIncreasing-remove [] (suc rank) up = up
IsIncreasing-remove (x ∷ xs) zero up = up.1
IsIncreasing-remove (x ∷ xs) (suc rank) up = (IsBelowAll-remove x xs rank up.0, IsIncreasing-remove xs rank up.1)

pub values-remove : {B : Type 0} (v : B → ℕ) (items : List (Item B)) (rank : ℕ) → values v (remove items rank) ≡ remove (values v items) rank
unfolding values
values-remove v [] zero = refl
values-remove v [] (suc rank) = refl
values-remove v (x ∷ items) zero = refl
values-remove v (x ∷ items) (suc rank) = ap (λ (rest : List ℕ). v x.body ∷ rest) (values-remove v items rank)

pub values-one_less : {B : Type 0} (v : B → ℕ) (items : List (Item B)) (rank : ℕ) → values v (change_at one_less items rank) ≡ values v items
unfolding values one_less
values-one_less {B} v items rank = map-change_at (λ (item : Item B). v item.body) one_less (λ x. refl) items rank

pub IsIncreasing-gone : {B : Type 0} (v : B → ℕ) (b : Bool) (items : List (Item B)) (rank : ℕ) → IsIncreasing (values v items) → IsIncreasing (values v (gone b items rank))
unfolding gone
IsIncreasing-gone v true items rank up = subst IsIncreasing (sym (values-remove v items rank)) (IsIncreasing-remove (values v items) rank up)
IsIncreasing-gone v false items rank up = up

pub IsIncreasing-drop_item : {B : Type 0} (v : B → ℕ) (same_time : Bool) (items : List (Item B)) (rank : ℕ) → IsIncreasing (values v items) → IsIncreasing (values v (drop_item same_time items rank))
unfolding drop_item
IsIncreasing-drop_item v same_time items rank up =
    let fewer = change_at one_less items rank in
    IsIncreasing-gone v (same_time && is_dead (slice_get fewer rank)) fewer rank (subst IsIncreasing (sym (values-one_less v items rank)) up)

pub IsBelowAll-live : {B : Type 0} (v : B → ℕ) (n : ℕ) (items : List (Item B)) → IsBelowAll n (values v items) → IsBelowAll n (values v (live_items items))
unfolding values IsBelowAll
IsBelowAll-live {B} v n [] h = subst (λ (xs : List (Item B)). IsBelowAll n (values v xs)) (sym live_items-nil) h
IsBelowAll-live {B} v n (x ∷ items) h =
    elim (cases_lt 0 x.count) [
      | inl some ↦ subst (λ (xs : List (Item B)). IsBelowAll n (values v xs)) (sym (live_items-yes x items some)) (h.0, IsBelowAll-live v n items h.1)
      | inr none ↦ subst (λ (xs : List (Item B)). IsBelowAll n (values v xs)) (sym (live_items-no x items none)) (IsBelowAll-live v n items h.1)
    ]

pub IsIncreasing-live : {B : Type 0} (v : B → ℕ) (items : List (Item B)) → IsIncreasing (values v items) → IsIncreasing (values v (live_items items))
unfolding values IsIncreasing
IsIncreasing-live {B} v [] up = subst (λ (xs : List (Item B)). IsIncreasing (values v xs)) (sym live_items-nil) up
IsIncreasing-live {B} v (x ∷ items) up =
    elim (cases_lt 0 x.count) [
      | inl some ↦ subst (λ (xs : List (Item B)). IsIncreasing (values v xs)) (sym (live_items-yes x items some)) (IsBelowAll-live v (v x.body) items up.0, IsIncreasing-live v items up.1)
      | inr none ↦ subst (λ (xs : List (Item B)). IsIncreasing (values v xs)) (sym (live_items-no x items none)) (IsIncreasing-live v items up.1)
    ]

pub IsIncreasing-swept : {B : Type 0} (v : B → ℕ) (b : Bool) (items : List (Item B)) → IsIncreasing (values v items) → IsIncreasing (values v (swept b items))
unfolding swept
IsIncreasing-swept v true items up = IsIncreasing-live v items up
IsIncreasing-swept v false items up = up

pub operations_keep_order : {B : Type 0} (v : B → ℕ) (c : Column B) → IsIncreasing (values v (items_of c)) → KeepsOrder B v c
operations_keep_order {B} v c up =
    let Up = λ (items : List (Item B)). IsIncreasing (values v items) in
    record {
      added = λ b. subst Up (sym (items-add (place (values v (items_of c)) (v b)) b c)) (IsIncreasing-add_item v (items_of c) b up);
      dropped = λ same_time rank.
          let fewer = drop_item same_time (items_of c) rank in
          subst Up (sym (items-drop same_time rank c)) (IsIncreasing-swept v (is_sparse c.most fewer) fewer (IsIncreasing-drop_item v same_time (items_of c) rank up));
      laid = subst Up (sym (items-lay c)) up;
    }

-- ---- other bodies

pub AllLive-map : {B C : Type 0} (f : B → C) (items : List (Item B)) → AllLive items → AllLive (map (map_item f) items)
unfolding AllLive map_item
AllLive-map f [] all = tt
AllLive-map f (x ∷ items) all = (all.0, AllLive-map f items all.1)

pub IsKept-map : {B C : Type 0} (f : B → C) (c : Column B) → IsKept B c → IsKept C (map_column f c)
unfolding map_column items_of
IsKept-map {B} {C} f c k =
    let many = size-map_tree (map_item f) c.tree in
    record {
      shallow = λ rank h. omega (arith, k.shallow rank (omega arith), ap (λ (way : List Side). length way) (path-map_tree (map_item f) c.tree (Found rank)));
      dense = omega (arith, k.dense, live-map_tree f c.tree);
      fits = omega (arith, k.fits);
    }

pub SuitsMode-map : {B C : Type 0} (f : B → C) (same_time : Bool) (c : Column B) → SuitsMode same_time c → SuitsMode same_time (map_column f c)
unfolding SuitsMode map_column items_of
SuitsMode-map f false c s = s ∙ sym (size-map_tree (map_item f) c.tree)
SuitsMode-map f true c s = subst AllLive (sym (inorder-map_tree (map_item f) c.tree)) (AllLive-map f (inorder c.tree) s)
