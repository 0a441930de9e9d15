-- The items that some row has, and how many they are after each operation.
use Rattle.std.proofs.Common.{◌≡◌, ℕ, suc, zero, ◌+◌, ◌*◌, ◌<◌, ◌≤◌, Bool, true, false, not, ◌&&◌, ltb, List, [], ◌∷◌, length, insert, remove, slice_get, Some, refl, ap, ◌∙◌, sym, subst, inl, inr, arith, lt-ltb, le-ltb}
use Rattle.std.proofs.lemmas.Bool.{cases_lt, cases_Bool}
use Rattle.tree_model.specs.Items.{Item, one_more, one_less, change_at, has_rows, live_items, live, is_dead, gone, drop_item, is_sparse, AllLive}
use Rattle.tree_model.proofs.Changes.{length-change_at}

pub live_items-yes : {B : Type 0} (x : Item B) (xs : List (Item B)) → 0 < x.count → live_items (x ∷ xs) ≡ x ∷ live_items xs
unfolding live_items has_rows
live_items-yes x xs h = rw (lt-ltb 0 x.count h) refl

pub live_items-no : {B : Type 0} (x : Item B) (xs : List (Item B)) → x.count ≤ 0 → live_items (x ∷ xs) ≡ live_items xs
unfolding live_items has_rows
live_items-no x xs h = rw (le-ltb 0 x.count h) refl

pub live-yes : {B : Type 0} (x : Item B) (xs : List (Item B)) → 0 < x.count → live (x ∷ xs) ≡ suc (live xs)
unfolding live
live-yes x xs h = ap length (live_items-yes x xs h)

pub live-no : {B : Type 0} (x : Item B) (xs : List (Item B)) → x.count ≤ 0 → live (x ∷ xs) ≡ live xs
unfolding live
live-no x xs h = ap length (live_items-no x xs h)

pub live-nil : (B : Type 0) → live {B = B} [] ≡ 0
unfolding live live_items
live-nil B = refl

pub live_items-nil : {B : Type 0} → live_items {B = B} [] ≡ []
unfolding live_items
live_items-nil = refl

pub live-le : {B : Type 0} (xs : List (Item B)) → live xs ≤ length xs
live-le {B} [] = omega (arith, live-nil B)
live-le (x ∷ xs) =
    let ih = live-le xs in
    elim (cases_lt 0 x.count) [ inl some ↦ omega (arith, live-yes x xs some) | inr none ↦ omega (arith, live-no x xs none) ]

-- one more item in front counts at most once
pub live-cons : {B : Type 0} (x : Item B) (xs ys : List (Item B)) (m : ℕ) → live ys ≡ m + live xs → live (x ∷ ys) ≡ m + live (x ∷ xs)
live-cons x xs ys m e =
    elim (cases_lt 0 x.count) [ inl some ↦ omega (arith, live-yes x xs some, live-yes x ys some) | inr none ↦ omega (arith, live-no x xs none, live-no x ys none) ]

-- a new item is live
pub live-insert : {B : Type 0} (xs : List (Item B)) (rank : ℕ) (x : Item B) → 0 < x.count → live (insert xs rank x) ≡ 1 + live xs
live-insert xs zero x h = omega (arith, live-yes x xs h)
live-insert [] (suc rank) x h = omega (arith, live-yes x [] h)
live-insert (y ∷ xs) (suc rank) x h = live-cons y xs (insert xs rank x) 1 (live-insert xs rank x h)

-- one row more leaves as many items live, or one more
pub live-one_more : {B : Type 0} (xs : List (Item B)) (rank : ℕ) → live xs ≤ live (change_at one_more xs rank)
unfolding change_at one_more
live-one_more [] rank = omega arith
live-one_more (x ∷ xs) zero =
    let more = live-yes (one_more x) xs (omega arith) in
    elim (cases_lt 0 x.count) [ inl some ↦ omega (arith, live-yes x xs some) | inr none ↦ omega (arith, live-no x xs none) ]
live-one_more (x ∷ xs) (suc rank) =
    let ih = live-one_more xs rank in
    let ys = change_at one_more xs rank in
    elim (cases_lt 0 x.count) [ inl some ↦ omega (arith, live-yes x xs some, live-yes x ys some) | inr none ↦ omega (arith, live-no x xs none, live-no x ys none) ]

-- the live ones among the live ones are they
pub live_items-again : {B : Type 0} (xs : List (Item B)) → live_items (live_items xs) ≡ live_items xs
live_items-again [] = ap live_items live_items-nil
live_items-again (x ∷ xs) =
    elim (cases_lt 0 x.count) [
      | inl some ↦ ap live_items (live_items-yes x xs some) ∙ live_items-yes x (live_items xs) some ∙ ap (λ (ys : List _). x ∷ ys) (live_items-again xs) ∙ sym (live_items-yes x xs some)
      | inr none ↦ ap live_items (live_items-no x xs none) ∙ live_items-again xs ∙ sym (live_items-no x xs none)
    ]

pub live-live_items : {B : Type 0} (xs : List (Item B)) → live (live_items xs) ≡ length (live_items xs)
unfolding live
live-live_items xs = ap length (live_items-again xs)

-- ---- where every item is some row's

pub live_items-all : {B : Type 0} (xs : List (Item B)) → AllLive xs → live_items xs ≡ xs
unfolding AllLive
live_items-all [] h = live_items-nil
live_items-all (x ∷ xs) h = live_items-yes x xs h.0 ∙ ap (λ (ys : List _). x ∷ ys) (live_items-all xs h.1)

pub AllLive-live_items : {B : Type 0} (xs : List (Item B)) → AllLive (live_items xs)
unfolding AllLive
AllLive-live_items [] = subst AllLive (sym live_items-nil) tt
AllLive-live_items (x ∷ xs) =
    elim (cases_lt 0 x.count) [
      | inl some ↦ subst AllLive (sym (live_items-yes x xs some)) (some, AllLive-live_items xs)
      | inr none ↦ subst AllLive (sym (live_items-no x xs none)) (AllLive-live_items xs)
    ]

pub AllLive-insert : {B : Type 0} (xs : List (Item B)) (rank : ℕ) (x : Item B) → 0 < x.count → AllLive xs → AllLive (insert xs rank x)
unfolding AllLive
AllLive-insert xs zero x h all = (h, all)
AllLive-insert [] (suc rank) x h all = (h, tt)
AllLive-insert (y ∷ xs) (suc rank) x h all = (all.0, AllLive-insert xs rank x h all.1)

pub AllLive-one_more : {B : Type 0} (xs : List (Item B)) (rank : ℕ) → AllLive xs → AllLive (change_at one_more xs rank)
unfolding AllLive change_at one_more
AllLive-one_more [] rank all = all
AllLive-one_more (x ∷ xs) zero all = (omega arith, all.1)
AllLive-one_more (x ∷ xs) (suc rank) all = (all.0, AllLive-one_more xs rank all.1)

-- an item that is dead is taken out, and the others are as they were
pub AllLive-removed : {B : Type 0} (xs : List (Item B)) (rank : ℕ) → AllLive xs → AllLive (remove (change_at one_less xs rank) rank)
unfolding AllLive change_at
AllLive-removed [] zero all = all
AllLive-removed [] (suc rank) all = all
AllLive-removed (x ∷ xs) zero all = all.1
AllLive-removed (x ∷ xs) (suc rank) all = (all.0, AllLive-removed xs rank all.1)

pub alive : {B : Type 0} (x : Item B) → is_dead (Some x) ≡ false → 0 < x.count
unfolding is_dead has_rows
alive x h = elim (cases_lt 0 x.count) [
  | inl some ↦ some
  | inr none ↦ let e : ltb 0 x.count ≡ false = le-ltb 0 x.count none in absurd (let f : true ≡ false = ap not (sym e) ∙ h in cc)
]

pub AllLive-kept : {B : Type 0} (xs : List (Item B)) (rank : ℕ) → AllLive xs → is_dead (slice_get (change_at one_less xs rank) rank) ≡ false → AllLive (change_at one_less xs rank)
unfolding AllLive change_at
AllLive-kept [] rank all h = all
AllLive-kept (x ∷ xs) zero all h = (alive (one_less x) h, all.1)
AllLive-kept (x ∷ xs) (suc rank) all h = (all.0, AllLive-kept xs rank all.1 h)

-- in same-time mode a drop leaves no item without rows
pub AllLive-drop_item : {B : Type 0} (xs : List (Item B)) (rank : ℕ) → AllLive xs → AllLive (drop_item true xs rank)
unfolding drop_item gone
AllLive-drop_item xs rank all =
    elim (cases_Bool (is_dead (slice_get (change_at one_less xs rank) rank))) [
      | inl dead ↦ rw dead (AllLive-removed xs rank all)
      | inr kept ↦ rw kept (AllLive-kept xs rank all kept)
    ]

-- in ordinary mode a drop keeps every item
pub drop_item-ordinary : {B : Type 0} (xs : List (Item B)) (rank : ℕ) → drop_item false xs rank ≡ change_at one_less xs rank
unfolding drop_item gone
drop_item-ordinary xs rank = refl

-- no drop gives more items
pub length-remove-le : {A : Type 0} (xs : List A) (rank : ℕ) → length (remove xs rank) ≤ length xs
length-remove-le [] zero = omega arith
length-remove-le [] (suc rank) = omega arith
length-remove-le (x ∷ xs) zero = omega arith
length-remove-le (x ∷ xs) (suc rank) = let ih = length-remove-le xs rank in omega arith

pub length-gone-le : {A : Type 0} (b : Bool) (xs : List A) (rank : ℕ) → length (gone b xs rank) ≤ length xs
unfolding gone
length-gone-le true xs rank = length-remove-le xs rank
length-gone-le false xs rank = omega arith

pub length-drop_item : {B : Type 0} (same_time : Bool) (xs : List (Item B)) (rank : ℕ) → length (drop_item same_time xs rank) ≤ length xs
unfolding drop_item
length-drop_item same_time xs rank =
    let ys = change_at one_less xs rank in
    omega (arith, length-gone-le (same_time && is_dead (slice_get ys rank)) ys rank, length-change_at one_less xs rank)

pub is_sparse-no : {B : Type 0} (most : ℕ) (xs : List (Item B)) → is_sparse most xs ≡ false → 2 * most ≤ 3 * live xs
unfolding is_sparse
is_sparse-no most xs h = elim (cases_lt (3 * live xs) (2 * most)) [
  | inl lt ↦ absurd (let f : true ≡ false = sym (lt-ltb (3 * live xs) (2 * most) lt) ∙ h in cc)
  | inr ge ↦ ge
]
