-- The ranks after operations: the laws.
use Rattle.std.proofs.Common.{◌≡◌, ℕ, suc, zero, ◌+◌, ◌<◌, Bool, true, false, not, ◌&&◌, ltb, leb, ◌≢◌, ne_eqb, List, [], ◌∷◌, ◌++◌, length, map, get_or, remove, slice_get, Option, Some, None, refl, ap, ap₂, ◌∙◌, sym, subst, inl, inr, arith, lt-ltb}
use Rattle.std.specs.List.{range_with_len}
use Rattle.std.proofs.lemmas.Bool.{cases_Bool}
use Rattle.std.proofs.lemmas.List.Edits.{length-insert, get_or-insert_at}
use Rattle.tree_model.specs.declared.Place.{Place}
use Rattle.tree_model.specs.declared.Place.TheVariants.{Found, Gap}
use Rattle.tree_model.specs.Trees.{size}
use Rattle.tree_model.specs.Places.{place, one_if, IsIncreasing}
use Rattle.tree_model.specs.Items.{Item, one_more, one_less, values, change_at, add_item, has_rows, is_dead, gone, drop_item, is_sparse, swept}
use Rattle.tree_model.specs.Columns.{Column, items_of, add, drop_one, Operation, Add, Drop, Lay, apply, apply_all, map_column, map_operation}
use Rattle.tree_model.specs.Sums.{bodies, tagged_column, blank, origins, IsRising}
use Rattle.tree_model.specs.Carried.{is_origin, carried}
use Rattle.tree_model.specs.Ranks.{rank_at, rank_added, one_lower, rank_gone, is_gone, rank_dropped, rank_after, rank_after_all, stays_gone, stays_swept, stays_dropped, stays_after, stays_after_all}
use Rattle.tree_model.specs.RowLaws.{RankIs, CarriedBoth, BlindRanks, StandsAfter, ValueFollows, NewRowStands}
use Rattle.tree_model.proofs.Ways.{length-inorder}
use Rattle.tree_model.proofs.Changes.{length-change_at, values-add_found, values-add_gap}
use Rattle.tree_model.proofs.ColumnOrder.{operations_keep_order}
use Rattle.tree_model.proofs.Ordered.{found_of_place, place-IsFound, found_within, gap_within}
use Rattle.tree_model.proofs.Kept.{items-add, items-drop, items-lay}
use Rattle.tree_model.proofs.Summed.{origins-append, origins-nothing, origins-gap, length-origins, map_column-tagged_zero}
use Rattle.tree_model.proofs.Pinned.{origins-bodies}
use Rattle.tree_model.proofs.Risen.{IsRising-ranks, bodies-changed, origins-rising}
use Rattle.tree_model.proofs.CarriedRanks.{false_is_true, carried-lt, get_or-carried, origin-bounds, carried-at, carried-lt-carried, carried-ranks, carried-composed, is_origin-insert, carried-insert, lower_first, lower_none, lower_next}
use Rattle.tree_model.proofs.Blind.{apply-map}
use Rattle.tree_model.proofs.RankSteps.{rank_is_by, stays_in, rank_in, dropped-stays, rank_dropped-map, stays_dropped-map}

-- ---- an item that stays

pub carried_tells_rank : {B : Type 0} (same_time : Bool) (operations : List (Operation B)) (c : Column B) (rank : ℕ) → is_origin rank (origins same_time operations c) ≡ true → StandsAfter (origins same_time operations c) (size c.tree) (size (apply_all same_time operations c).tree) rank
carried_tells_rank same_time operations c rank stays =
    let from = origins same_time operations c in
    let up = origins-rising same_time operations c in
    record {
      was = (origin-bounds 0 (size c.tree) rank from up stays).1;
      among = omega (arith, carried-lt rank from stays, length-origins same_time operations c);
      there = get_or-carried rank from stays;
      nowhere_else = λ k e. sym (carried-at 0 (size c.tree) rank k from up e);
    }

pub carried_keeps_order : {B : Type 0} (same_time : Bool) (operations : List (Operation B)) (c : Column B) (j k : ℕ) → is_origin j (origins same_time operations c) ≡ true → is_origin k (origins same_time operations c) ≡ true → j < k → carried (origins same_time operations c) j < carried (origins same_time operations c) k
carried_keeps_order same_time operations c j k at_j at_k lt =
    carried-lt-carried 0 (size c.tree) j k (origins same_time operations c) (origins-rising same_time operations c) at_j at_k lt

pub carried_appends : {B : Type 0} (same_time : Bool) (earlier later : List (Operation B)) (c : Column B) (rank : ℕ) → CarriedBoth rank (origins same_time earlier c) (origins same_time later (apply_all same_time earlier c)) (origins same_time (earlier ++ later) c)
carried_appends same_time earlier later c rank =
    let before = origins same_time earlier c in
    let after = origins same_time later (apply_all same_time earlier c) in
    subst (CarriedBoth rank before after) (sym (origins-append same_time earlier later c))
    (carried-composed 0 (size c.tree) rank before after (origins-rising same_time earlier c))

-- ---- operation by operation

-- the ranks themselves
pub own_ranks : (n rank : ℕ) → rank < n → RankIs rank (map Some (range_with_len 0 n)) true rank
own_ranks n rank h =
    let at = carried-ranks 0 n rank h in
    let e : 0 + rank ≡ rank = omega arith in
    record {
      stays = ap (λ (k : ℕ). is_origin k (map Some (range_with_len 0 n))) (sym e) ∙ at.0;
      carries = λ h. ap (carried (map Some (range_with_len 0 n))) (sym e) ∙ at.1;
    }

pub carried_of_nothing : {B : Type 0} (same_time : Bool) (c : Column B) (rank : ℕ) → rank < size c.tree → RankIs rank (origins same_time [] c) true rank
carried_of_nothing same_time c rank h =
    subst (λ (from : List (Option ℕ)). RankIs rank from true rank) (sym (origins-nothing same_time c)) (own_ranks (size c.tree) rank h)

-- the ranks in place of the bodies
pub bodies-start : {B : Type 0} (c : Column B) → bodies (items_of (tagged_column c)) ≡ map Some (range_with_len 0 (size c.tree))
unfolding origins blank apply_all
bodies-start c = origins-nothing false c

added : {B : Type 0} (same_time : Bool) (p : Place) (b : B) (c : Column B) (rank : ℕ) → rank < size c.tree → RankIs rank (origins same_time (Add p b ∷ []) c) true (rank_added p rank)
unfolding origins blank apply_all apply map_operation add_item rank_added one_more
added same_time (Found at) b c rank h =
    let same = ap bodies (items-add (Found at) None (tagged_column c)) ∙ bodies-changed one_more (λ x. refl) (items_of (tagged_column c)) at ∙ bodies-start c in
    subst (λ (from : List (Option ℕ)). RankIs rank from true rank) (sym same) (own_ranks (size c.tree) rank h)
added same_time (Gap at) b c rank h =
    let ranks = map Some (range_with_len 0 (size c.tree)) in
    let own = own_ranks (size c.tree) rank h in
    let from = origins-gap same_time at b c in
    record {
      stays = ap (is_origin rank) from ∙ is_origin-insert rank ranks at ∙ own.stays;
      carries = λ t. ap (λ (os : List (Option ℕ)). carried os rank) from ∙ carried-insert rank ranks at own.stays ∙ ap (λ (n : ℕ). one_if (leb at n) n) (own.carries refl);
    }

laid : {B : Type 0} (same_time : Bool) (c : Column B) (rank : ℕ) → rank < size c.tree → RankIs rank (origins same_time (Lay ∷ []) c) true rank
unfolding origins blank apply_all apply map_operation
laid same_time c rank h =
    subst (λ (from : List (Option ℕ)). RankIs rank from true rank) (sym (ap bodies (items-lay (tagged_column c)) ∙ bodies-start c)) (own_ranks (size c.tree) rank h)

stays_tagged : {B : Type 0} (same_time : Bool) (at : ℕ) (c : Column B) (rank : ℕ) → stays_dropped same_time at (tagged_column c) rank ≡ stays_dropped same_time at c rank
stays_tagged {B} same_time at c rank =
    sym (stays_dropped-map (λ (o : Option ℕ). zero) same_time at (tagged_column c) rank)
    ∙ ap (λ (d : Column ℕ). stays_dropped same_time at d rank) (map_column-tagged_zero c)
    ∙ stays_dropped-map (λ (b : B). zero) same_time at c rank

rank_tagged : {B : Type 0} (same_time : Bool) (at : ℕ) (c : Column B) (rank : ℕ) → rank_dropped same_time at (tagged_column c) rank ≡ rank_dropped same_time at c rank
rank_tagged {B} same_time at c rank =
    sym (rank_dropped-map (λ (o : Option ℕ). zero) same_time at (tagged_column c) rank)
    ∙ ap (λ (d : Column ℕ). rank_dropped same_time at d rank) (map_column-tagged_zero c)
    ∙ rank_dropped-map (λ (b : B). zero) same_time at c rank

dropped_column : (low high k : ℕ) (same_time : Bool) (at : ℕ) (c : Column (Option ℕ)) → IsRising low high (bodies (items_of c)) → is_origin k (bodies (items_of c)) ≡ true
    → RankIs k (bodies (items_of (drop_one same_time at c))) (stays_dropped same_time at c (carried (bodies (items_of c)) k)) (rank_dropped same_time at c (carried (bodies (items_of c)) k))
unfolding stays_dropped rank_dropped stays_in rank_in
dropped_column low high k same_time at c up held =
    rank_is_by k (bodies (swept (is_sparse c.most (drop_item same_time (items_of c) at)) (drop_item same_time (items_of c) at))) (bodies (items_of (drop_one same_time at c))) _ _ _ _ (ap bodies (items-drop same_time at c)) refl refl (dropped-stays low high k same_time c.most at (items_of c) up held)

dropped : {B : Type 0} (same_time : Bool) (at : ℕ) (c : Column B) (rank : ℕ) → rank < size c.tree → RankIs rank (origins same_time (Drop at ∷ []) c) (stays_dropped same_time at c rank) (rank_dropped same_time at c rank)
unfolding origins blank apply_all apply map_operation
dropped same_time at c rank h =
    let ts = tagged_column c in
    let n = size c.tree in
    let own = own_ranks n rank h in
    let start = bodies-start c in
    let held = ap (is_origin rank) start ∙ own.stays in
    let here : carried (bodies (items_of ts)) rank ≡ rank = ap (λ (os : List (Option ℕ)). carried os rank) start ∙ own.carries refl in
    let e : 0 + n ≡ n = omega arith in
    let up : IsRising 0 n (bodies (items_of ts)) = subst (IsRising 0 n) (sym start) (subst (λ (m : ℕ). IsRising 0 m (map Some (range_with_len 0 n))) e (IsRising-ranks 0 n)) in
    rank_is_by rank (bodies (items_of (drop_one same_time at ts))) (bodies (items_of (drop_one same_time at ts))) _ _ _ _ refl
    (ap (stays_dropped same_time at ts) here ∙ stays_tagged same_time at c rank)
    (ap (rank_dropped same_time at ts) here ∙ rank_tagged same_time at c rank)
    (dropped_column 0 n rank same_time at ts up held)

pub rank_after_operation : {B : Type 0} (same_time : Bool) (operation : Operation B) (c : Column B) (rank : ℕ) → rank < size c.tree → RankIs rank (origins same_time (operation ∷ []) c) (stays_after same_time operation c rank) (rank_after same_time operation c rank)
unfolding stays_after rank_after
rank_after_operation same_time (Add p b) c rank h = added same_time p b c rank h
rank_after_operation same_time (Drop at) c rank h = dropped same_time at c rank h
rank_after_operation same_time Lay c rank h = laid same_time c rank h

pub apply_one : {B : Type 0} (same_time : Bool) (operation : Operation B) (c : Column B) → apply_all same_time (operation ∷ []) c ≡ apply same_time operation c
unfolding apply_all
apply_one same_time operation c = refl

pub rank_after_operations : {B : Type 0} (same_time : Bool) (operations : List (Operation B)) (c : Column B) (rank : ℕ) → rank < size c.tree → RankIs rank (origins same_time operations c) (stays_after_all same_time operations c rank) (rank_after_all same_time operations c rank)
unfolding stays_after_all rank_after_all
rank_after_operations same_time [] c rank h = carried_of_nothing same_time c rank h
rank_after_operations {B} same_time (operation ∷ operations) c rank h =
    let next = apply same_time operation c in
    let first = origins same_time (operation ∷ []) c in
    let rest = origins same_time operations next in
    let one = rank_after_operation same_time operation c rank h in
    let both = subst (λ (d : Column B). CarriedBoth rank first (origins same_time operations d) (origins same_time (operation ∷ operations) c)) (apply_one same_time operation c) (carried_appends same_time (operation ∷ []) operations c rank) in
    let stays = stays_after same_time operation c rank in
    let there = rank_after same_time operation c rank in
    let others = stays_after_all same_time operations next there in
    elim (cases_Bool stays) [
      | inl held ↦
          let here : carried first rank ≡ there = one.carries held in
          let size_is = length-origins same_time (operation ∷ []) c ∙ ap (λ (d : Column B). size d.tree) (apply_one same_time operation c) in
          let ih = rank_after_operations same_time operations next there (omega (arith, here, carried-lt rank first (one.stays ∙ held), size_is)) in
          let all : is_origin rank (origins same_time (operation ∷ operations) c) ≡ stays && others =
          both.stays ∙ ap₂ (λ (a b : Bool). a && b) one.stays (ap (λ (k : ℕ). is_origin k rest) here ∙ ih.stays) in
          record {
            stays = all;
            carries = λ h. both.carries (all ∙ h) ∙ ap (carried rest) here ∙ ih.carries (ap (λ (a : Bool). a && others) (sym held) ∙ h);
          }
      | inr none ↦
          let not_all = ap (λ (a : Bool). a && others) none in
          record {
            stays = both.stays ∙ ap (λ (a : Bool). a && is_origin (carried first rank) rest) (one.stays ∙ none) ∙ sym not_all;
            carries = λ h. false_is_true (sym not_all ∙ h);
          }
    ]

-- ---- values

pub values-at : {B : Type 0} (v : B → ℕ) (items : List (Item B)) (k d : ℕ) (b : B) → k < length items → get_or (values v items) k d ≡ v (get_or (bodies items) k b)
unfolding values bodies
values-at v [] k d b h = absurd (omega arith)
values-at v (x ∷ items) zero d b h = refl
values-at v (x ∷ items) (suc k) d b h = values-at v items k d b (omega arith)

-- an item of the list, to stand for none
one_of : {A : Type 0} (xs : List A) (k : ℕ) → k < length xs → A
one_of [] k h = absurd (omega arith)
one_of (x ∷ xs) k h = x

pub length-items : {B : Type 0} (c : Column B) → length (items_of c) ≡ size c.tree
unfolding items_of
length-items c = length-inorder c.tree

pub length-values : {B : Type 0} (v : B → ℕ) (items : List (Item B)) → length (values v items) ≡ length items
unfolding values
length-values v [] = refl
length-values v (x ∷ items) = ap suc (length-values v items)

pub values_follow : {B : Type 0} (v : B → ℕ) (same_time : Bool) (operations : List (Operation B)) (c : Column B) (rank d : ℕ) → IsIncreasing (values v (items_of (apply_all same_time operations c))) → is_origin rank (origins same_time operations c) ≡ true → ValueFollows (values v (items_of c)) (values v (items_of (apply_all same_time operations c))) (origins same_time operations c) rank d
values_follow v same_time operations c rank d up stays =
    let after = apply_all same_time operations c in
    let from = origins same_time operations c in
    let stands = carried_tells_rank same_time operations c rank stays in
    let k = carried from rank in
    let was : rank < length (items_of c) = omega (arith, stands.was, length-items c) in
    let among : k < length (items_of after) = omega (arith, stands.among, length-items after) in
    let some_body = (one_of (items_of c) rank was).body in
    let value = values-at v (items_of after) k d some_body among
    ∙ ap v (origins-bodies same_time operations c k rank some_body stands.there)
    ∙ sym (values-at v (items_of c) rank d some_body was) in
    let found = place-IsFound (values v (items_of after)) (get_or (values v (items_of c)) rank d) k d up (omega (arith, among, length-values v (items_of after))) value in
    record { value = value; smaller = (found_of_place (values v (items_of after)) (get_or (values v (items_of c)) rank d) k found).0; found = found }

new_value : {B : Type 0} (v : B → ℕ) (b : B) (items : List (Item B)) (d : ℕ) (p : Place) → place (values v items) (v b) ≡ p → IsIncreasing (values v items)
    → (rank_at p < length (values v (add_item p b items))) × (get_or (values v (add_item p b items)) (rank_at p) d ≡ v b)
unfolding rank_at
new_value v b items d (Found rank) at up =
    let same = values-add_found v rank b items in
    let here = found_within (values v items) (v b) rank d up at in
    (omega (arith, here.0, ap length same), ap (λ (xs : List ℕ). get_or xs rank d) same ∙ here.1)
new_value v b items d (Gap rank) at up =
    let after = values-add_gap v rank b items in
    let here = gap_within (values v items) (v b) rank at in
    (omega (arith, here, length-insert (values v items) rank (v b) here, ap length after), ap (λ (xs : List ℕ). get_or xs rank d) after ∙ get_or-insert_at (values v items) rank (v b) d here)

pub new_rows_stand : {B : Type 0} (v : B → ℕ) (b : B) (c : Column B) (d : ℕ) → IsIncreasing (values v (items_of c)) → NewRowStands B v (place (values v (items_of c)) (v b)) b (add (place (values v (items_of c)) (v b)) b c) d
new_rows_stand {B} v b c d up =
    let p = place (values v (items_of c)) (v b) in
    let after = add p b c in
    let items = items-add p b c in
    let new = new_value v b (items_of c) d p refl up in
    let value : get_or (values v (items_of after)) (rank_at p) d ≡ v b = ap (λ (xs : List (Item B)). get_or (values v xs) (rank_at p) d) items ∙ new.1 in
    let many = ap (λ (xs : List (Item B)). length (values v xs)) items in
    let within : rank_at p < length (values v (items_of after)) = omega (arith, new.0, many) in
    record {
      among = omega (arith, within, length-values v (items_of after), length-items after);
      value = value;
      found = place-IsFound (values v (items_of after)) (v b) (rank_at p) d ((operations_keep_order v c up).added b) within value;
    }

-- ---- an item that some row still has

alive : {B : Type 0} (items : List (Item B)) (rank : ℕ) (d : Item B) → rank < length items → 0 < (get_or items rank d).count → not (is_dead (slice_get items rank)) ≡ true
unfolding is_dead has_rows
alive [] rank d h some = absurd (omega arith)
alive (x ∷ items) zero d h some = let e = lt-ltb 0 x.count some in rw e refl
alive (x ∷ items) (suc rank) d h some = alive items rank d (omega arith) some

pub get-remove_other : {A : Type 0} (xs : List A) (at rank : ℕ) → rank < length xs → rank ≢ at → slice_get (remove xs at) (one_lower (ltb at rank) rank) ≡ slice_get xs rank
get-remove_other [] at rank h other = absurd (omega arith)
get-remove_other (x ∷ xs) zero zero h other = absurd (other refl)
get-remove_other (x ∷ xs) zero (suc rank) h other = ap (slice_get xs) (lower_first rank)
get-remove_other (x ∷ xs) (suc at) zero h other = ap (slice_get (x ∷ remove xs at)) (lower_none at)
get-remove_other (x ∷ xs) (suc at) (suc rank) h other =
    let elsewhere : rank ≢ at = λ e. other (ap suc e) in
    ap (slice_get (x ∷ remove xs at)) (sym (lower_next at rank elsewhere)) ∙ get-remove_other xs at rank (omega arith) elsewhere

swept_alive : {B : Type 0} (b : Bool) (items : List (Item B)) (rank : ℕ) → not (is_dead (slice_get items rank)) ≡ true → stays_swept b items rank ≡ true
unfolding stays_swept
swept_alive true items rank h = h
swept_alive false items rank h = refl

gone_dead : (a b : Bool) → (a && b) ≡ true → b ≡ true
gone_dead true b e = e
gone_dead false b e = false_is_true e

-- a row fewer, with an item that goes or not
keeps_alive : {B : Type 0} (g s : Bool) (less : List (Item B)) (at rank : ℕ) → (g ≡ true → is_dead (slice_get less at) ≡ true) → rank < length less → not (is_dead (slice_get less rank)) ≡ true
    → (stays_gone g at rank && stays_swept s (gone g less at) (rank_gone g at rank)) ≡ true
unfolding stays_gone gone rank_gone
keeps_alive true s less at rank dead h some =
    let other : rank ≢ at = λ e. false_is_true (ap not (sym (ap (λ (k : ℕ). is_dead (slice_get less k)) e ∙ dead refl)) ∙ some) in
    ap₂ (λ (a b : Bool). a && b) (ap not (ne_eqb rank at other))
    (swept_alive s (remove less at) (one_lower (ltb at rank) rank) (ap (λ (o : Option (Item _)). not (is_dead o)) (get-remove_other less at rank h other) ∙ some))
keeps_alive false s less at rank dead h some = swept_alive s less rank some

drop_keeps : {B : Type 0} (same_time : Bool) (at : ℕ) (c : Column B) (rank : ℕ) → rank < length (change_at one_less (items_of c) at) → not (is_dead (slice_get (change_at one_less (items_of c) at) rank)) ≡ true → stays_dropped same_time at c rank ≡ true
unfolding stays_dropped is_gone drop_item
drop_keeps same_time at c rank h some =
    let less = change_at one_less (items_of c) at in
    let g = same_time && is_dead (slice_get less at) in
    keeps_alive g (is_sparse c.most (gone g less at)) less at rank (λ e. gone_dead same_time (is_dead (slice_get less at)) e) h some

pub rows_keep_item : {B : Type 0} (same_time : Bool) (at : ℕ) (c : Column B) (rank : ℕ) (d : Item B) → rank < size c.tree → 0 < (get_or (change_at one_less (items_of c) at) rank d).count → stays_after same_time (Drop at) c rank ≡ true
unfolding stays_after
rows_keep_item same_time at c rank d h some =
    let less = change_at one_less (items_of c) at in
    let within : rank < length less = omega (arith, h, length-change_at one_less (items_of c) at, length-items c) in
    drop_keeps same_time at c rank within (alive less rank d within some)

-- ---- other bodies

pub rank_after-map : {B C : Type 0} (f : B → C) (same_time : Bool) (operation : Operation B) (c : Column B) (rank : ℕ) → rank_after same_time (map_operation f operation) (map_column f c) rank ≡ rank_after same_time operation c rank
unfolding rank_after map_operation
rank_after-map f same_time (Add p b) c rank = refl
rank_after-map f same_time (Drop at) c rank = rank_dropped-map f same_time at c rank
rank_after-map f same_time Lay c rank = refl

pub stays_after-map : {B C : Type 0} (f : B → C) (same_time : Bool) (operation : Operation B) (c : Column B) (rank : ℕ) → stays_after same_time (map_operation f operation) (map_column f c) rank ≡ stays_after same_time operation c rank
unfolding stays_after map_operation
stays_after-map f same_time (Add p b) c rank = refl
stays_after-map f same_time (Drop at) c rank = stays_dropped-map f same_time at c rank
stays_after-map f same_time Lay c rank = refl

pub ranks_are_blind : {B C : Type 0} (f : B → C) (same_time : Bool) (operations : List (Operation B)) (c : Column B) (rank : ℕ) → BlindRanks B C f same_time operations c rank
unfolding rank_after_all stays_after_all
ranks_are_blind f same_time [] c rank = record { stays = refl; rank_is = refl }
ranks_are_blind {B} {C} f same_time (operation ∷ operations) c rank =
    let next = apply same_time operation c in
    let there = rank_after same_time operation c rank in
    let rest = map (map_operation f) operations in
    let ih = ranks_are_blind f same_time operations next there in
    let column_is = apply-map f same_time operation c in
    let first = rank_after-map f same_time operation c rank in
    record {
      stays = ap₂ (λ (a b : Bool). a && b) (stays_after-map f same_time operation c rank)
          (ap₂ (λ (d : Column C) (k : ℕ). stays_after_all same_time rest d k) column_is first ∙ ih.stays);
      rank_is = ap₂ (λ (d : Column C) (k : ℕ). rank_after_all same_time rest d k) column_is first ∙ ih.rank_is;
    }
