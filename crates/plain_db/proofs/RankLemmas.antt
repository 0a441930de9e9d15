-- The finished transactions in the order of the history: ranks, and the order within a session.
use Rattle.std.proofs.Common.{◌≡◌, refl, sym, ◌∙◌, ap, ℕ, suc, ◌+◌, ◌≤◌, Bool, true, false, ◌&&◌, ◌||◌, eqb, ltb, leb, cond, List, [], ◌∷◌, ◌++◌, map, filter, length, inl, inr, arith}
use Rattle.std.proofs.lemmas.Bool.{cases_lt, eqb-true, eq-eqb, lt-ltb, le-leb, ltb-true, ltb-false, and_parts, false≢true, or_cases, or_parts, or_right}
use Rattle.workload.specs.declared.script.DoneTxn.{DoneTxn}
use Rattle.workload.specs.declared.script.Piece.{Piece}
use Rattle.workload.specs.Selection.{in_front, insert_ordered, ordered}
use Rattle.workload.specs.History.{rank_of, comes_before, places_of, places_from}
use Rattle.mope_base.specs.Lists.{Each}
use Rattle.plain_db.proofs.EachLemmas.{each-append, each-weaker, each-insert, each-ordered}

-- a transaction of no lower rank and, in the same session, of no lower place comes after
pub comes_before-true : (x y : DoneTxn) → x.session.0 ≡ y.session.0 → rank_of x ≤ rank_of y → x.place ≤ y.place → comes_before x y ≡ true
unfolding comes_before
comes_before-true x y s r p =
    let same : eqb x.session.0 y.session.0 ≡ true = eq-eqb x.session.0 y.session.0 s in
    let place : leb x.place y.place ≡ true = le-leb x.place y.place p in
    elim (cases_lt (rank_of x) (rank_of y)) as (λ _. (ltb (rank_of x) (rank_of y) || (eqb (rank_of x) (rank_of y) && (ltb x.session.0 y.session.0 || (eqb x.session.0 y.session.0 && leb x.place y.place)))) ≡ true) [
      | inl lower ↦ rw (lt-ltb (rank_of x) (rank_of y) lower) refl
      | inr notless ↦
          let equal : eqb (rank_of x) (rank_of y) ≡ true = eq-eqb (rank_of x) (rank_of y) (omega arith) in
          rw (equal, same, place) (or_right _ _ (or_right _ _ refl))
    ]

before-rank : (x y : DoneTxn) → comes_before x y ≡ true → rank_of x ≤ rank_of y
unfolding comes_before
before-rank x y e =
    elim (or_cases (ltb (rank_of x) (rank_of y)) (eqb (rank_of x) (rank_of y) && (ltb x.session.0 y.session.0 || (eqb x.session.0 y.session.0 && leb x.place y.place))) e) as (λ _. rank_of x ≤ rank_of y) [
      | inl lower ↦ omega (arith, ltb-true (rank_of x) (rank_of y) lower)
      | inr same ↦
          omega (arith, eqb-true (rank_of x) (rank_of y) (and_parts (eqb (rank_of x) (rank_of y)) (ltb x.session.0 y.session.0 || (eqb x.session.0 y.session.0 && leb x.place y.place)) same).0)
    ]

after-rank : (x y : DoneTxn) → comes_before x y ≡ false → rank_of y ≤ rank_of x
unfolding comes_before
after-rank x y e =
    omega (arith, ltb-false (rank_of x) (rank_of y) (or_parts (ltb (rank_of x) (rank_of y)) (eqb (rank_of x) (rank_of y) && (ltb x.session.0 y.session.0 || (eqb x.session.0 y.session.0 && leb x.place y.place))) e).0)

-- each has no higher rank than those after it
unfoldable pub Sorted : List DoneTxn → Type 0
Sorted [] = Unit {0}
Sorted (x ∷ xs) = Each (λ (y : DoneTxn). rank_of x ≤ rank_of y) xs × Sorted xs

sorted_front : (b : Bool) (x y : DoneTxn) (ys rest : List DoneTxn) → comes_before x y ≡ b → Sorted (y ∷ ys)
    → Each (λ (z : DoneTxn). rank_of y ≤ rank_of x → rank_of y ≤ rank_of z) rest → Sorted rest
    → Sorted (in_front b x y ys rest)
unfolding Sorted in_front Each
sorted_front true x y ys rest e h each k =
    let lower : rank_of x ≤ rank_of y = before-rank x y e in
    ((lower, each-weaker (λ (z : DoneTxn). rank_of y ≤ rank_of z) (λ (z : DoneTxn). rank_of x ≤ rank_of z) ys (λ z l. omega arith) h.0), h)
sorted_front false x y ys rest e h each k =
    let lower : rank_of y ≤ rank_of x = after-rank x y e in
    (each-weaker (λ (z : DoneTxn). rank_of y ≤ rank_of x → rank_of y ≤ rank_of z) (λ (z : DoneTxn). rank_of y ≤ rank_of z) rest (λ z l. l lower) each, k)

sorted-insert : (x : DoneTxn) (ys : List DoneTxn) → Sorted ys → Sorted (insert_ordered comes_before x ys)
unfolding Sorted insert_ordered Each
sorted-insert x [] h = (tt, tt)
sorted-insert x (y ∷ ys) h =
    sorted_front (comes_before x y) x y ys (insert_ordered comes_before x ys) refl h
    (each-insert (λ (z : DoneTxn). rank_of y ≤ rank_of x → rank_of y ≤ rank_of z) comes_before x ys (λ l. l)
    (each-weaker (λ (z : DoneTxn). rank_of y ≤ rank_of z) (λ (z : DoneTxn). rank_of y ≤ rank_of x → rank_of y ≤ rank_of z) ys (λ z l _. l) h.0))
    (sorted-insert x ys h.1)

pub sorted-ordered : (xs : List DoneTxn) → Sorted (ordered comes_before xs)
unfolding Sorted ordered
sorted-ordered [] = tt
sorted-ordered (x ∷ xs) = sorted-insert x (ordered comes_before xs) (sorted-ordered xs)

-- the places of a session's transactions, one by one
unfoldable place_if : Bool → ℕ → List ℕ → List ℕ
place_if true place places = place ∷ places
place_if false place places = places

places-cons : (s : ℕ) (x : DoneTxn) (xs : List DoneTxn) → places_of s (x ∷ xs) ≡ place_if (eqb x.session.0 s) x.place (places_of s xs)
unfolding places_of place_if
places-cons s x xs =
    elim (eqb x.session.0 s) as (λ b. map (λ (t : DoneTxn). t.place) (cond b (x ∷ filter (λ (t : DoneTxn). eqb t.session.0 s) xs) (filter (λ (t : DoneTxn). eqb t.session.0 s) xs)) ≡ place_if b x.place (map (λ (t : DoneTxn). t.place) (filter (λ (t : DoneTxn). eqb t.session.0 s) xs))) [
      | true ↦ refl
      | false ↦ refl
    ]

-- transactions of one session come in the order in which they ended
unfoldable pub Pairs : List DoneTxn → Type 0
Pairs [] = Unit {0}
Pairs (x ∷ xs) = Each (λ (y : DoneTxn). x.session.0 ≡ y.session.0 → comes_before x y ≡ true) xs × Pairs xs

pub pairs-push : (xs : List DoneTxn) (t : DoneTxn) → Pairs xs
    → Each (λ (x : DoneTxn). x.session.0 ≡ t.session.0 → comes_before x t ≡ true) xs → Pairs (xs ++ t ∷ [])
unfolding Pairs Each
pairs-push [] t pairs each = (tt, tt)
pairs-push (x ∷ xs) t pairs each =
    (each-append (λ (y : DoneTxn). x.session.0 ≡ y.session.0 → comes_before x y ≡ true) xs (t ∷ []) pairs.0 (each.0, tt), pairs-push xs t pairs.1 each.1)

swap_places : (a b : Bool) (p q : ℕ) (places : List ℕ) → (a ≡ true → b ≡ true → ⊥)
    → place_if b q (place_if a p places) ≡ place_if a p (place_if b q places)
unfolding place_if
swap_places true true p q places apart = absurd (apart refl refl)
swap_places true false p q places apart = refl
swap_places false true p q places apart = refl
swap_places false false p q places apart = refl

places-front : (b : Bool) (s : ℕ) (x y : DoneTxn) (ys rest : List DoneTxn) → comes_before x y ≡ b
    → (x.session.0 ≡ y.session.0 → comes_before x y ≡ true) → places_of s rest ≡ places_of s (x ∷ ys)
    → places_of s (in_front b x y ys rest) ≡ places_of s (x ∷ y ∷ ys)
unfolding in_front
places-front true s x y ys rest e apart same = refl
places-front false s x y ys rest e apart same =
    places-cons s y rest
    ∙ ap (λ l. place_if (eqb y.session.0 s) y.place l) (same ∙ places-cons s x ys)
    ∙ swap_places (eqb x.session.0 s) (eqb y.session.0 s) x.place y.place (places_of s ys) (λ a b.
    false≢true (sym e ∙ apart (eqb-true x.session.0 s a ∙ sym (eqb-true y.session.0 s b))))
    ∙ sym (places-cons s x (y ∷ ys) ∙ ap (λ l. place_if (eqb x.session.0 s) x.place l) (places-cons s y ys))

places-insert : (s : ℕ) (x : DoneTxn) (ys : List DoneTxn)
    → Each (λ (y : DoneTxn). x.session.0 ≡ y.session.0 → comes_before x y ≡ true) ys
    → places_of s (insert_ordered comes_before x ys) ≡ places_of s (x ∷ ys)
unfolding insert_ordered Each
places-insert s x [] h = refl
places-insert s x (y ∷ ys) h =
    places-front (comes_before x y) s x y ys (insert_ordered comes_before x ys) refl h.0 (places-insert s x ys h.1)

-- so the order of the history keeps that of each session
pub places-ordered : (s : ℕ) (xs : List DoneTxn) → Pairs xs → places_of s (ordered comes_before xs) ≡ places_of s xs
unfolding ordered Pairs
places-ordered s [] h = refl
places-ordered s (x ∷ xs) h =
    places-insert s x (ordered comes_before xs) (each-ordered (λ (y : DoneTxn). x.session.0 ≡ y.session.0 → comes_before x y ≡ true) comes_before xs h.0)
    ∙ places-cons s x (ordered comes_before xs)
    ∙ ap (λ l. place_if (eqb x.session.0 s) x.place l) (places-ordered s xs h.1)
    ∙ sym (places-cons s x xs)

-- the places with one more
pub places-push_own : (s : ℕ) (xs : List DoneTxn) (t : DoneTxn) → t.session.0 ≡ s → places_of s (xs ++ t ∷ []) ≡ places_of s xs ++ t.place ∷ []
unfolding place_if places_of
places-push_own s [] t own = places-cons s t [] ∙ ap (λ b. place_if b t.place (places_of s [])) (eq-eqb t.session.0 s own)
places-push_own s (x ∷ xs) t own =
    places-cons s x (xs ++ t ∷ [])
    ∙ ap (λ l. place_if (eqb x.session.0 s) x.place l) (places-push_own s xs t own)
    ∙ elim (eqb x.session.0 s) as (λ b. place_if b x.place (places_of s xs ++ t.place ∷ []) ≡ place_if b x.place (places_of s xs) ++ t.place ∷ []) [ true ↦ refl | false ↦ refl ]
    ∙ ap (λ l. l ++ t.place ∷ []) (sym (places-cons s x xs))

pub places-others : (s : ℕ) (xs ts : List DoneTxn) → Each (λ (t : DoneTxn). eqb t.session.0 s ≡ false) ts → places_of s (xs ++ ts) ≡ places_of s xs
unfolding place_if Each
places-others s [] [] others = refl
places-others s [] (t ∷ ts) others =
    places-cons s t ts ∙ ap (λ b. place_if b t.place (places_of s ts)) others.0 ∙ places-others s [] ts others.1
places-others s (x ∷ xs) ts others =
    places-cons s x (xs ++ ts)
    ∙ ap (λ l. place_if (eqb x.session.0 s) x.place l) (places-others s xs ts others)
    ∙ sym (places-cons s x xs)

pub places_from-push : (n : ℕ) (pieces : List Piece) (p : Piece) → places_from n (pieces ++ p ∷ []) ≡ places_from n pieces ++ (n + length pieces) ∷ []
unfolding places_from
places_from-push n [] p = let e : n ≡ n + 0 = omega arith in ap (λ k. k ∷ []) e
places_from-push n (q ∷ pieces) p =
    let e : suc n + length pieces ≡ n + suc (length pieces) = omega arith in
    ap (λ l. n ∷ l) (places_from-push (suc n) pieces p ∙ ap (λ k. places_from (suc n) pieces ++ k ∷ []) e)
