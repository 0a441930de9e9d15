-- In every tree the codes of the places rise from left to right.
use Rattle.std.proofs.Common.{◌≡◌, ◌↔◌, ℕ, suc, zero, ◌+◌, ◌*◌, ◌^◌, ◌<◌, ◌≤◌, Bool, ◌&&◌, ltb, leb, eqb, List, length, map, get_or, ap, ap₂, ◌∙◌, sym, subst, inl, inr, arith, le_trans, lt-ltb, le-ltb, le-leb, eq-eqb, ne_eqb}
use Rattle.std.proofs.lemmas.Bool.{cases_order, cases_lt, cases_eq, lt-leb}
use Rattle.std.proofs.Math.ListN.{get_or-map}
use Rattle.tree_model.specs.declared.Side.TheVariants.{Left, Right}
use Rattle.tree_model.specs.declared.Place.{Place}
use Rattle.tree_model.specs.Trees.{Tree, leaf, node, inorder, size, height, IsPlaceOf, path, past, balanced}
use Rattle.tree_model.specs.Places.{number, place, IsIncreasing, Compares}
use Rattle.tree_model.specs.declared.Place.TheVariants.{Found, Gap}
use Rattle.tree_model.proofs.Halves.{inorder-balanced, size-balanced, height-balanced}
use Rattle.tree_model.proofs.Ordered.{place_compares}
use Rattle.tree_model.specs.Walks.{place_in}
use Rattle.tree_model.proofs.Walked.{IsPlaceOf-place_in, length-values}
use Rattle.path_code.specs.Laws.{code_in, ComparesByCode, SelectsByCode}
use Rattle.tree_model.proofs.Ways.{path-left, path-here, path-right, length-path, number-past, number-le, same_from_number}
use Rattle.path_code.specs.Codes.{bit, code_within, code_of}
use Rattle.path_code.proofs.Spelling.{code_within-nil, code_within-cons, code_within-positive, code_within-lt}

-- ---- the codes at a node: those of its left side, its own, those of its right side

code_left : {A : Type 0} (width : ℕ) (l : Tree A) (x : A) (r : Tree A) (p : Place) → height l ≤ width → number p < 2 * size l + 1 → code_within (suc width) (path (node l x r) p) ≡ code_within width (path l p)
unfolding bit
code_left width l x r p high at =
    rw (path-left l x r p at, code_within-cons width Left (path l p) (le_trans (length-path l p) high)) (omega arith)

code_here : {A : Type 0} (width : ℕ) (l : Tree A) (x : A) (r : Tree A) (p : Place) → number p ≡ 2 * size l + 1 → code_within (suc width) (path (node l x r) p) ≡ 2 ^ suc width
code_here width l x r p at = rw (path-here l x r p at) (code_within-nil (suc width))

code_right : {A : Type 0} (width : ℕ) (l : Tree A) (x : A) (r : Tree A) (p : Place) → height r ≤ width → 2 * size l + 1 < number p → code_within (suc width) (path (node l x r) p) ≡ 2 ^ suc width + code_within width (path r (past (suc (size l)) p))
unfolding bit
code_right width l x r p high at =
    let q = past (suc (size l)) p in
    rw (path-right l x r p at, code_within-cons width Right (path r q) (le_trans (length-path r q) high)) (omega arith)

pub codes_rise : {A : Type 0} (width : ℕ) (t : Tree A) (p q : Place) → height t ≤ width → number q ≤ 2 * size t → number p < number q → code_within width (path t p) < code_within width (path t q)
unfolding height size
codes_rise width leaf p q high end lt = absurd (omega arith)
codes_rise zero (node l x r) p q high end lt = absurd (omega arith)
codes_rise (suc width) (node l x r) p q high end lt =
    let high_l : height l ≤ width = omega arith in
    let high_r : height r ≤ width = omega arith in
    let below_root = code_within-lt width (path l p) (le_trans (length-path l p) high_l) in
    let p_right = past (suc (size l)) p in
    let q_right = past (suc (size l)) q in
    let above_root = code_within-positive width (path r q_right) in
    elim (cases_order (number p) (2 * size l + 1)) [
      | inl p_here ↦ rw (code_here width l x r p p_here, code_right width l x r q high_r (omega arith)) (omega arith)
      | inr (inl p_left) ↦
          elim (cases_order (number q) (2 * size l + 1)) [
            | inl q_here ↦ rw (code_left width l x r p high_l p_left, code_here width l x r q q_here) below_root
            | inr (inl q_left) ↦
                rw (code_left width l x r p high_l p_left, code_left width l x r q high_l q_left) (codes_rise width l p q high_l (omega arith) lt)
            | inr (inr q_past) ↦ rw (code_left width l x r p high_l p_left, code_right width l x r q high_r q_past) (omega arith)
          ]
      | inr (inr p_past) ↦
          let p_number = number-past (suc (size l)) p (omega arith) in
          let q_number = number-past (suc (size l)) q (omega arith) in
          let ih = codes_rise width r p_right q_right high_r (omega arith) (omega arith) in
          rw (code_right width l x r p high_r p_past, code_right width l x r q high_r (omega arith)) (omega arith)
    ]

-- ---- the laws

-- an order the other way round
le_by_lt : (a b m n : ℕ) → (a < b → m < n) → n ≤ m → b ≤ a
le_by_lt a b m n h le = elim (cases_lt a b) [ inl lt ↦ absurd (omega (arith, h lt)) | inr ge ↦ ge ]

pub codes_order : {A : Type 0} (t : Tree A) (p q : Place) → height t ≤ 63 → IsPlaceOf (size t) p → IsPlaceOf (size t) q → (number p < number q) ↔ (code_in t p < code_in t q)
unfolding code_of
codes_order t p q high at_p at_q =
    let end_p = number-le (size t) p at_p in
    let end_q = number-le (size t) q at_q in
    let back : code_within 63 (path t p) < code_within 63 (path t q) → number p < number q = λ lt.
    elim (cases_order (number p) (number q)) [
      | inl same ↦ absurd (omega (arith, lt, ap (λ (o : Place). code_within 63 (path t o)) (same_from_number p q same)))
      | inr (inl before) ↦ before
      | inr (inr after) ↦ absurd (omega (arith, lt, codes_rise 63 t q p high end_p after))
    ] in
    (codes_rise 63 t p q high end_q, back)

pub gaps_between : {A : Type 0} (t : Tree A) (rank : ℕ) → height t ≤ 63 → rank < size t → (code_in t (Gap rank) < code_in t (Found rank)) × (code_in t (Found rank) < code_in t (Gap (rank + 1)))
unfolding code_of number
gaps_between t rank high within =
    (codes_rise 63 t (Gap rank) (Found rank) high (omega arith) (omega arith), codes_rise 63 t (Found rank) (Gap (rank + 1)) high (omega arith) (omega arith))

-- two places compare as their codes do
pub Compares-codes : {A : Type 0} (t : Tree A) (p q : Place) (item v : ℕ) → height t ≤ 63 → IsPlaceOf (size t) p → IsPlaceOf (size t) q → Compares item v (number p) (number q) → Compares item v (code_in t p) (code_in t q)
Compares-codes t p q item v high at_p at_q c =
    let up = codes_order t p q high at_p at_q in
    let down = codes_order t q p high at_q at_p in
    record {
      lower = (λ h. up.0 (c.lower.0 h), λ h. c.lower.1 (up.1 h));
      equal = (
        λ h. ap (λ (o : Place). code_in t o) (same_from_number p q (c.equal.0 h)),
        λ h. c.equal.1 (
            elim (cases_order (number p) (number q)) [
              | inl same ↦ same
              | inr (inl before) ↦ absurd (omega (arith, h, up.0 before))
              | inr (inr after) ↦ absurd (omega (arith, h, down.0 after))
            ]),
      );
      higher = (λ h. down.0 (c.higher.0 h), λ h. c.higher.1 (down.1 h));
    }

pub tree_codes_compare : {A : Type 0} (v : A → ℕ) (t : Tree A) (bound rank : ℕ) (d : A) → IsIncreasing (map v (inorder t)) → height t ≤ 63 → rank < size t → Compares (v (get_or (inorder t) rank d)) bound (code_in t (Found rank)) (code_in t (place_in v t bound))
unfolding IsPlaceOf place_in
tree_codes_compare v t bound rank d up high within =
    let among = IsPlaceOf-place_in v t bound up in
    let by_value = place_compares (map v (inorder t)) bound rank (v d) up (omega (arith, within, length-values v t)) in
    let by_item = subst (λ (n : ℕ). Compares n bound (number (Found rank)) (number (place_in v t bound))) (get_or-map v (inorder t) rank d) by_value in
    Compares-codes t (Found rank) (place_in v t bound) (v (get_or (inorder t) rank d)) bound high within among by_item

pub codes_compare : {A : Type 0} (v : A → ℕ) (items : List A) (bound rank : ℕ) (d : A) → IsIncreasing (map v items) → length items < 2 ^ 63 → rank < length items → Compares (v (get_or items rank d)) bound (code_in (balanced items) (Found rank)) (code_in (balanced items) (place (map v items) bound))
unfolding place_in
codes_compare {A} v items bound rank d up few within =
    let items_are = inorder-balanced items in
    let size_is = size-balanced items in
    subst (λ (xs : List A). Compares (v (get_or xs rank d)) bound (code_in (balanced items) (Found rank)) (code_in (balanced items) (place (map v xs) bound))) items_are
    (tree_codes_compare v (balanced items) bound rank d (subst (λ (xs : List A). IsIncreasing (map v xs)) (sym items_are) up) (height-balanced items 63 few) (omega arith))

pub codes_select : {A : Type 0} (v : A → ℕ) (items : List A) (low high rank : ℕ) (d : A) → IsIncreasing (map v items) → length items < 2 ^ 63 → rank < length items → ((low ≤ v (get_or items rank d)) × (v (get_or items rank d) ≤ high)) ↔ ((code_in (balanced items) (place (map v items) low) ≤ code_in (balanced items) (Found rank)) × (code_in (balanced items) (Found rank) ≤ code_in (balanced items) (place (map v items) high)))
codes_select v items low high rank d up few within =
    let at_low = codes_compare v items low rank d up few within in
    let at_high = codes_compare v items high rank d up few within in (
      λ h. (le_by_lt _ _ _ _ at_low.lower.1 h.0, le_by_lt _ _ _ _ at_high.higher.1 h.1),
      λ h. (le_by_lt _ _ _ _ at_low.lower.0 h.0, le_by_lt _ _ _ _ at_high.higher.0 h.1),
    )

-- ---- the comparisons as tests

pub ltb_same : (a b m n : ℕ) → ((a < b) ↔ (m < n)) → ltb a b ≡ ltb m n
ltb_same a b m n e =
    elim (cases_lt a b) [
      | inl lt ↦ lt-ltb a b lt ∙ sym (lt-ltb m n (e.0 lt))
      | inr ge ↦ le-ltb a b ge ∙ sym (le-ltb m n (le_by_lt m n a b e.1 ge))
    ]

pub leb_same : (a b m n : ℕ) → ((a < b) ↔ (m < n)) → leb b a ≡ leb n m
leb_same a b m n e =
    elim (cases_lt a b) [
      | inl lt ↦ lt-leb b a lt ∙ sym (lt-leb n m (e.0 lt))
      | inr ge ↦ le-leb b a ge ∙ sym (le-leb n m (le_by_lt m n a b e.1 ge))
    ]

pub eqb_same : (a b m n : ℕ) → ((a ≡ b) ↔ (m ≡ n)) → eqb a b ≡ eqb m n
eqb_same a b m n e =
    elim (cases_eq a b) [
      | inl same ↦ eq-eqb a b same ∙ sym (eq-eqb m n (e.0 same))
      | inr other ↦ ne_eqb a b other ∙ sym (ne_eqb m n (λ f. other (e.1 f)))
    ]

pub ComparesByCode-from : (value bound code bound_code : ℕ) → Compares value bound code bound_code → ComparesByCode value bound code bound_code
ComparesByCode-from value bound code bound_code c =
    record {
      less = ltb_same value bound code bound_code c.lower;
      at_most = leb_same bound value bound_code code c.higher;
      equal = eqb_same value bound code bound_code c.equal;
      at_least = leb_same value bound code bound_code c.lower;
      greater = ltb_same bound value bound_code code c.higher;
    }

pub tree_codes_select : {A : Type 0} (v : A → ℕ) (t : Tree A) (rank : ℕ) (d : A) → IsIncreasing (map v (inorder t)) → height t ≤ 63 → rank < size t → SelectsByCode A v t (v (get_or (inorder t) rank d)) (code_in t (Found rank))
tree_codes_select v t rank d up high within =
    let value = v (get_or (inorder t) rank d) in
    let code = code_in t (Found rank) in
    let by = λ (bound : ℕ). ComparesByCode-from value bound code (code_in t (place_in v t bound)) (tree_codes_compare v t bound rank d up high within) in
    record { by_bound = by; between = λ low high. ap₂ (λ (a b : Bool). a && b) (by low).at_least (by high).at_most }

-- two places of a tree with one way are one
pub ways_tell_places : {A : Type 0} (t : Tree A) (p q : Place) → height t ≤ 63 → IsPlaceOf (size t) p → IsPlaceOf (size t) q → path t p ≡ path t q → p ≡ q
ways_tell_places t p q high at_p at_q e =
    elim (cases_order (number p) (number q)) [
      | inl same ↦ same_from_number p q same
      | inr (inl before) ↦ absurd (omega (arith, ap code_of e, (codes_order t p q high at_p at_q).0 before))
      | inr (inr after) ↦ absurd (omega (arith, ap code_of e, (codes_order t q p high at_q at_p).0 after))
    ]
