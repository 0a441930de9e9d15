-- Where a rank stands among increasing origins: one place, which goes through a composition, a new item, and one that goes.
use Rattle.std.proofs.Common.{◌≡◌, ℕ, suc, zero, ◌+◌, ◌<◌, ◌≤◌, ◌≢◌, Bool, true, false, ◌&&◌, ◌||◌, ltb, leb, List, [], ◌∷◌, length, map, get_or, insert, remove, Option, Some, None, refl, ap, ap₂, ◌∙◌, sym, inl, inr, arith, lt-ltb, le-ltb, le-leb, eq-eqb, ne_eqb}
use Rattle.std.specs.List.{range_with_len}
use Rattle.std.proofs.lemmas.Bool.{lt-leb, cases_lt, cases_Bool, cases_eq}
use Rattle.tree_model.specs.Places.{one_if}
use Rattle.tree_model.specs.Sums.{through, composed, IsRising}
use Rattle.tree_model.specs.Carried.{is_origin, is_rank, here_or_next, carried}
use Rattle.tree_model.specs.Ranks.{one_lower}
use Rattle.tree_model.specs.RowLaws.{CarriedBoth}

-- ---- the first origin decides

pub is_origin-nil : (k : ℕ) → is_origin k [] ≡ false
unfolding is_origin
is_origin-nil k = refl

pub is_origin-new : (k : ℕ) (from : List (Option ℕ)) → is_origin k (None ∷ from) ≡ is_origin k from
unfolding is_origin
is_origin-new k from = refl

pub is_origin-here : (k j : ℕ) (from : List (Option ℕ)) → j ≡ k → is_origin k (Some j ∷ from) ≡ true
unfolding is_origin
is_origin-here k j from e = rw (eq-eqb j k e) refl

pub is_origin-past : (k j : ℕ) (from : List (Option ℕ)) → j ≢ k → is_origin k (Some j ∷ from) ≡ is_origin k from
unfolding is_origin
is_origin-past k j from h = rw (ne_eqb j k h) refl

pub is_origin-cons : (k : ℕ) (o : Option ℕ) (from : List (Option ℕ)) → is_origin k (o ∷ from) ≡ is_rank k o || is_origin k from
unfolding is_origin is_rank
is_origin-cons k None from = refl
is_origin-cons k (Some j) from = refl

pub carried-new : (k : ℕ) (from : List (Option ℕ)) → carried (None ∷ from) k ≡ suc (carried from k)
unfolding carried is_rank here_or_next
carried-new k from = refl

pub carried-here : (k j : ℕ) (from : List (Option ℕ)) → j ≡ k → carried (Some j ∷ from) k ≡ 0
unfolding carried is_rank here_or_next
carried-here k j from e = rw (eq-eqb j k e) refl

pub carried-past : (k j : ℕ) (from : List (Option ℕ)) → j ≢ k → carried (Some j ∷ from) k ≡ suc (carried from k)
unfolding carried is_rank here_or_next
carried-past k j from h = rw (ne_eqb j k h) refl

pub false_is_true : {A : Type 0} → false ≡ true → A
false_is_true e = absurd (cc)

-- ---- what a rank that stays finds

pub carried-lt : (k : ℕ) (from : List (Option ℕ)) → is_origin k from ≡ true → carried from k < length from
carried-lt k [] h = false_is_true (sym (is_origin-nil k) ∙ h)
carried-lt k (None ∷ from) h = omega (arith, carried-new k from, carried-lt k from (sym (is_origin-new k from) ∙ h))
carried-lt k (Some j ∷ from) h =
    elim (cases_eq j k) [
      | inl here ↦ omega (arith, carried-here k j from here)
      | inr other ↦ omega (arith, carried-past k j from other, carried-lt k from (sym (is_origin-past k j from other) ∙ h))
    ]

pub get_or-carried : (k : ℕ) (from : List (Option ℕ)) → is_origin k from ≡ true → get_or from (carried from k) None ≡ Some k
get_or-carried k [] h = false_is_true (sym (is_origin-nil k) ∙ h)
get_or-carried k (None ∷ from) h =
    ap (λ (i : ℕ). get_or (None ∷ from) i None) (carried-new k from) ∙ get_or-carried k from (sym (is_origin-new k from) ∙ h)
get_or-carried k (Some j ∷ from) h =
    elim (cases_eq j k) [
      | inl here ↦ ap (λ (i : ℕ). get_or (Some j ∷ from) i None) (carried-here k j from here) ∙ ap Some here
      | inr other ↦ ap (λ (i : ℕ). get_or (Some j ∷ from) i None) (carried-past k j from other) ∙ get_or-carried k from (sym (is_origin-past k j from other) ∙ h)
    ]

pub is_origin-at : (k i : ℕ) (from : List (Option ℕ)) → get_or from i None ≡ Some k → is_origin k from ≡ true
is_origin-at k zero [] e = absurd (cc)
is_origin-at k (suc i) [] e = absurd (cc)
is_origin-at k zero (o ∷ from) e = ap (λ (p : Option ℕ). is_origin k (p ∷ from)) e ∙ is_origin-here k k from refl
is_origin-at k (suc i) (None ∷ from) e = is_origin-new k from ∙ is_origin-at k i from e
is_origin-at k (suc i) (Some j ∷ from) e =
    elim (cases_eq j k) [ inl here ↦ is_origin-here k j from here | inr other ↦ is_origin-past k j from other ∙ is_origin-at k i from e ]

-- ---- where origins rise

pub origin-bounds : (low high k : ℕ) (from : List (Option ℕ)) → IsRising low high from → is_origin k from ≡ true → (low ≤ k) × (k < high)
unfolding IsRising
origin-bounds low high k [] up h = false_is_true (sym (is_origin-nil k) ∙ h)
origin-bounds low high k (None ∷ from) up h = origin-bounds low high k from up (sym (is_origin-new k from) ∙ h)
origin-bounds low high k (Some j ∷ from) up h =
    elim (cases_eq j k) [
      | inl here ↦ (omega (arith, up.0), omega (arith, up.1))
      | inr other ↦ let rest = origin-bounds (suc j) high k from up.2 (sym (is_origin-past k j from other) ∙ h) in (omega (arith, up.0, rest.0), rest.1)
    ]

-- no rank comes twice
pub carried-at : (low high k i : ℕ) (from : List (Option ℕ)) → IsRising low high from → get_or from i None ≡ Some k → carried from k ≡ i
unfolding IsRising
carried-at low high k zero [] up e = absurd (cc)
carried-at low high k (suc i) [] up e = absurd (cc)
carried-at low high k zero (o ∷ from) up e = ap (λ (p : Option ℕ). carried (p ∷ from) k) e ∙ carried-here k k from refl
carried-at low high k (suc i) (None ∷ from) up e = carried-new k from ∙ ap suc (carried-at low high k i from up e)
carried-at low high k (suc i) (Some j ∷ from) up e =
    let later = origin-bounds (suc j) high k from up.2 (is_origin-at k i from e) in
    carried-past k j from (λ same. omega (arith, later.0)) ∙ ap suc (carried-at (suc j) high k i from up.2 e)

pub carried-lt-carried : (low high j k : ℕ) (from : List (Option ℕ)) → IsRising low high from → is_origin j from ≡ true → is_origin k from ≡ true → j < k → carried from j < carried from k
unfolding IsRising
carried-lt-carried low high j k [] up at_j at_k lt = false_is_true (sym (is_origin-nil k) ∙ at_k)
carried-lt-carried low high j k (None ∷ from) up at_j at_k lt =
    omega (arith, carried-new j from, carried-new k from, carried-lt-carried low high j k from up (sym (is_origin-new j from) ∙ at_j) (sym (is_origin-new k from) ∙ at_k) lt)
carried-lt-carried low high j k (Some i ∷ from) up at_j at_k lt =
    let past_k : i ≢ k = λ same.
    (elim (cases_eq i j) [
      | inl here ↦ omega arith
      | inr other ↦ omega (arith, (origin-bounds (suc i) high j from up.2 (sym (is_origin-past j i from other) ∙ at_j)).0)
    ]) in
    elim (cases_eq i j) [
      | inl here ↦ omega (arith, carried-here j i from here, carried-past k i from past_k)
      | inr other ↦
          omega (arith, carried-past j i from other, carried-past k i from past_k, carried-lt-carried (suc i) high j k from up.2 (sym (is_origin-past j i from other) ∙ at_j) (sym (is_origin-past k i from past_k) ∙ at_k) lt)
    ]

-- ---- the ranks themselves

pub carried-ranks : (first n i : ℕ) → i < n → (is_origin (first + i) (map Some (range_with_len first n)) ≡ true) × (carried (map Some (range_with_len first n)) (first + i) ≡ i)
carried-ranks first zero i h = absurd (omega arith)
carried-ranks first (suc n) zero h =
    (is_origin-here (first + zero) first (map Some (range_with_len (first + 1) n)) (omega arith), carried-here (first + zero) first (map Some (range_with_len (first + 1) n)) (omega arith))
carried-ranks first (suc n) (suc i) h =
    let ih = carried-ranks (first + 1) n i (omega arith) in
    let rest = map Some (range_with_len (first + 1) n) in
    let e : first + suc i ≡ first + 1 + i = omega arith in
    let other : first ≢ first + suc i = λ same. omega arith in (
      is_origin-past (first + suc i) first rest other ∙ ap (λ (k : ℕ). is_origin k rest) e ∙ ih.0,
      carried-past (first + suc i) first rest other ∙ ap (λ (k : ℕ). suc (carried rest k)) e ∙ ap suc ih.1,
    )

-- ---- a composition

is_rank-through : (low high rank : ℕ) (earlier : List (Option ℕ)) (o : Option ℕ) → IsRising low high earlier → is_origin rank earlier ≡ true → is_rank rank (through earlier o) ≡ is_rank (carried earlier rank) o
unfolding is_rank through
is_rank-through low high rank earlier None up held = refl
is_rank-through low high rank earlier (Some j) up held =
    elim (cases_eq j (carried earlier rank)) [
      | inl here ↦
          ap (is_rank rank) (ap (λ (i : ℕ). get_or earlier i None) here ∙ get_or-carried rank earlier held) ∙ eq-eqb rank rank refl ∙ sym (eq-eqb j (carried earlier rank) here)
      | inr other ↦ not_there (get_or earlier j None) refl other ∙ sym (ne_eqb j (carried earlier rank) other)
    ]
  where
    not_there : (p : Option ℕ) → get_or earlier j None ≡ p → j ≢ carried earlier rank → is_rank rank p ≡ false
    not_there None e other = refl
    not_there (Some i) e other =
        ne_eqb i rank (λ same. other (sym (carried-at low high rank j earlier up (e ∙ ap Some same))))

is_rank-through_gone : (rank : ℕ) (earlier : List (Option ℕ)) (o : Option ℕ) → is_origin rank earlier ≡ false → is_rank rank (through earlier o) ≡ false
unfolding is_rank through
is_rank-through_gone rank earlier None none = refl
is_rank-through_gone rank earlier (Some j) none = not_there (get_or earlier j None) refl
  where
    not_there : (p : Option ℕ) → get_or earlier j None ≡ p → is_rank rank p ≡ false
    not_there None e = refl
    not_there (Some i) e = ne_eqb i rank (λ same. false_is_true (sym none ∙ is_origin-at rank j earlier (e ∙ ap Some same)))

pub carried-nil : (k : ℕ) → carried [] k ≡ 0
unfolding carried
carried-nil k = refl

pub carried-cons : (k : ℕ) (p : Option ℕ) (from : List (Option ℕ)) → carried (p ∷ from) k ≡ here_or_next (is_rank k p) (carried from k)
unfolding carried
carried-cons k p from = refl

composed-held : (low high rank : ℕ) (earlier later : List (Option ℕ)) → IsRising low high earlier → is_origin rank earlier ≡ true
    → (is_origin rank (composed earlier later) ≡ is_origin (carried earlier rank) later) × (carried (composed earlier later) rank ≡ carried later (carried earlier rank))
unfolding composed
composed-held low high rank earlier [] up held = (is_origin-nil rank ∙ sym (is_origin-nil (carried earlier rank)), carried-nil rank ∙ sym (carried-nil (carried earlier rank)))
composed-held low high rank earlier (o ∷ later) up held =
    let ih = composed-held low high rank earlier later up held in
    let first = is_rank-through low high rank earlier o up held in (
      is_origin-cons rank (through earlier o) (map (through earlier) later)
          ∙ ap₂ (λ (a b : Bool). a || b) first ih.0
          ∙ sym (is_origin-cons (carried earlier rank) o later),
      carried-cons rank (through earlier o) (map (through earlier) later)
          ∙ ap₂ here_or_next first ih.1
          ∙ sym (carried-cons (carried earlier rank) o later),
    )

composed-gone : (rank : ℕ) (earlier later : List (Option ℕ)) → is_origin rank earlier ≡ false → is_origin rank (composed earlier later) ≡ false
unfolding composed
composed-gone rank earlier [] none = is_origin-nil rank
composed-gone rank earlier (o ∷ later) none =
    is_origin-cons rank (through earlier o) (map (through earlier) later)
    ∙ ap₂ (λ (a b : Bool). a || b) (is_rank-through_gone rank earlier o none) (composed-gone rank earlier later none)

pub carried-composed : (low high rank : ℕ) (earlier later : List (Option ℕ)) → IsRising low high earlier → CarriedBoth rank earlier later (composed earlier later)
carried-composed low high rank earlier later up =
    elim (cases_Bool (is_origin rank earlier)) [
      | inl held ↦
          let both = composed-held low high rank earlier later up held in
          record { stays = both.0 ∙ ap (λ (b : Bool). b && is_origin (carried earlier rank) later) (sym held); carries = λ h. both.1 }
      | inr none ↦
          let gone = composed-gone rank earlier later none in
          record { stays = gone ∙ ap (λ (b : Bool). b && is_origin (carried earlier rank) later) (sym none); carries = λ h. false_is_true (sym gone ∙ h) }
    ]

-- ---- a new item, and one that goes

pub is_origin-insert : (k : ℕ) (from : List (Option ℕ)) (at : ℕ) → is_origin k (insert from at None) ≡ is_origin k from
is_origin-insert k from zero = is_origin-new k from
is_origin-insert k [] (suc at) = is_origin-new k []
is_origin-insert k (o ∷ from) (suc at) =
    is_origin-cons k o (insert from at None) ∙ ap (λ (b : Bool). is_rank k o || b) (is_origin-insert k from at) ∙ sym (is_origin-cons k o from)

one_if-suc : (at n : ℕ) → one_if (leb (suc at) (suc n)) (suc n) ≡ suc (one_if (leb at n) n)
unfolding one_if
one_if-suc at n =
    elim (cases_lt n at) [
      | inl lt ↦
          let e : leb (suc at) (suc n) ≡ false = lt-leb (suc at) (suc n) (omega arith) in
          let f : leb at n ≡ false = lt-leb at n lt in
          rw (e, f) refl
      | inr le ↦
          let e : leb (suc at) (suc n) ≡ true = le-leb (suc at) (suc n) (omega arith) in
          let f : leb at n ≡ true = le-leb at n le in
          rw (e, f) refl
    ]

one_if-zero : (n : ℕ) → one_if (leb 0 n) n ≡ suc n
unfolding one_if
one_if-zero n = let e : leb 0 n ≡ true = le-leb 0 n (omega arith) in rw e refl

one_if-first : (at : ℕ) → one_if (leb (suc at) 0) 0 ≡ 0
unfolding one_if
one_if-first at = let e : leb (suc at) 0 ≡ false = lt-leb (suc at) 0 (omega arith) in rw e refl

pub carried-insert : (k : ℕ) (from : List (Option ℕ)) (at : ℕ) → is_origin k from ≡ true → carried (insert from at None) k ≡ one_if (leb at (carried from k)) (carried from k)
carried-insert k from zero h = carried-new k from ∙ sym (one_if-zero (carried from k))
carried-insert k [] (suc at) h = false_is_true (sym (is_origin-nil k) ∙ h)
carried-insert k (None ∷ from) (suc at) h =
    carried-new k (insert from at None)
    ∙ ap suc (carried-insert k from at (sym (is_origin-new k from) ∙ h))
    ∙ sym (one_if-suc at (carried from k))
    ∙ ap (λ (n : ℕ). one_if (leb (suc at) n) n) (sym (carried-new k from))
carried-insert k (Some j ∷ from) (suc at) h =
    elim (cases_eq j k) [
      | inl here ↦
          carried-here k j (insert from at None) here ∙ sym (one_if-first at) ∙ ap (λ (n : ℕ). one_if (leb (suc at) n) n) (sym (carried-here k j from here))
      | inr other ↦
          carried-past k j (insert from at None) other
          ∙ ap suc (carried-insert k from at (sym (is_origin-past k j from other) ∙ h))
          ∙ sym (one_if-suc at (carried from k))
          ∙ ap (λ (n : ℕ). one_if (leb (suc at) n) n) (sym (carried-past k j from other))
    ]

pub lower_first : (n : ℕ) → one_lower (ltb 0 (suc n)) (suc n) ≡ n
unfolding one_lower
lower_first n = let e : ltb 0 (suc n) ≡ true = lt-ltb 0 (suc n) (omega arith) in rw e (omega arith)

pub lower_none : (at : ℕ) → one_lower (ltb (suc at) 0) 0 ≡ 0
unfolding one_lower
lower_none at = let e : ltb (suc at) 0 ≡ false = le-ltb (suc at) 0 (omega arith) in rw e refl

pub lower_next : (at n : ℕ) → n ≢ at → suc (one_lower (ltb at n) n) ≡ one_lower (ltb (suc at) (suc n)) (suc n)
unfolding one_lower
lower_next at n other =
    elim (cases_lt at n) [
      | inl lt ↦
          let e : ltb at n ≡ true = lt-ltb at n lt in
          let f : ltb (suc at) (suc n) ≡ true = lt-ltb (suc at) (suc n) (omega arith) in
          rw (e, f) (omega arith)
      | inr le ↦
          let e : ltb at n ≡ false = le-ltb at n le in
          let f : ltb (suc at) (suc n) ≡ false = le-ltb (suc at) (suc n) (omega arith) in
          rw (e, f) refl
    ]

-- the rank stands elsewhere than the one that goes
pub is_origin-remove_other : (k : ℕ) (from : List (Option ℕ)) (at : ℕ) → is_origin k from ≡ true → carried from k ≢ at
    → (is_origin k (remove from at) ≡ true) × (carried (remove from at) k ≡ one_lower (ltb at (carried from k)) (carried from k))
is_origin-remove_other k [] at h other = false_is_true (sym (is_origin-nil k) ∙ h)
is_origin-remove_other k (None ∷ from) zero h other =
    (sym (is_origin-new k from) ∙ h, sym (lower_first (carried from k)) ∙ ap (λ (n : ℕ). one_lower (ltb 0 n) n) (sym (carried-new k from)))
is_origin-remove_other k (None ∷ from) (suc at) h other =
    let was = sym (is_origin-new k from) ∙ h in
    let ih = is_origin-remove_other k from at was (λ e. other (carried-new k from ∙ ap suc e)) in
    (is_origin-new k (remove from at) ∙ ih.0, carried-new k (remove from at) ∙ ap suc ih.1 ∙ lower_next at (carried from k) (λ e. other (carried-new k from ∙ ap suc e)) ∙ ap (λ (n : ℕ). one_lower (ltb (suc at) n) n) (sym (carried-new k from)))
is_origin-remove_other k (Some j ∷ from) zero h other =
    elim (cases_eq j k) [
      | inl here ↦ absurd (other (carried-here k j from here))
      | inr past ↦
          (sym (is_origin-past k j from past) ∙ h, sym (lower_first (carried from k)) ∙ ap (λ (n : ℕ). one_lower (ltb 0 n) n) (sym (carried-past k j from past)))
    ]
is_origin-remove_other k (Some j ∷ from) (suc at) h other =
    elim (cases_eq j k) [
      | inl here ↦
          (is_origin-here k j (remove from at) here, carried-here k j (remove from at) here ∙ sym (lower_none at) ∙ ap (λ (n : ℕ). one_lower (ltb (suc at) n) n) (sym (carried-here k j from here)))
      | inr past ↦
          let was = sym (is_origin-past k j from past) ∙ h in
          let elsewhere : carried from k ≢ at = λ e. other (carried-past k j from past ∙ ap suc e) in
          let ih = is_origin-remove_other k from at was elsewhere in
          (is_origin-past k j (remove from at) past ∙ ih.0, carried-past k j (remove from at) past ∙ ap suc ih.1 ∙ lower_next at (carried from k) elsewhere ∙ ap (λ (n : ℕ). one_lower (ltb (suc at) n) n) (sym (carried-past k j from past)))
    ]

-- what stands where one goes is no origin any more
pub is_origin-remove_here : (low high k : ℕ) (from : List (Option ℕ)) → IsRising low high from → is_origin k from ≡ true → is_origin k (remove from (carried from k)) ≡ false
unfolding IsRising
is_origin-remove_here low high k [] up h = false_is_true (sym (is_origin-nil k) ∙ h)
is_origin-remove_here low high k (None ∷ from) up h =
    ap (λ (i : ℕ). is_origin k (remove (None ∷ from) i)) (carried-new k from)
    ∙ is_origin-new k (remove from (carried from k))
    ∙ is_origin-remove_here low high k from up (sym (is_origin-new k from) ∙ h)
is_origin-remove_here low high k (Some j ∷ from) up h =
    elim (cases_eq j k) [
      | inl here ↦
          ap (λ (i : ℕ). is_origin k (remove (Some j ∷ from) i)) (carried-here k j from here)
          ∙ elim (cases_Bool (is_origin k from)) [
            | inl again ↦ absurd (omega (arith, (origin-bounds (suc j) high k from up.2 again).0))
            | inr none ↦ none
          ]
      | inr past ↦
          ap (λ (i : ℕ). is_origin k (remove (Some j ∷ from) i)) (carried-past k j from past)
          ∙ is_origin-past k j (remove from (carried from k)) past
          ∙ is_origin-remove_here (suc j) high k from up.2 (sym (is_origin-past k j from past) ∙ h)
    ]
