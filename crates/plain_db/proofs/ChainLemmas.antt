-- Through the history the database is one version after another.
use Rattle.std.proofs.Common.{◌≡◌, refl, sym, ◌∙◌, ap, subst, ℕ, suc, ◌+◌, ◌*◌, ◌-◌, ◌<◌, ◌≤◌, Bool, true, false, eqb, cond, List, [], ◌∷◌, ◌++◌, Option, Some, None, inl, inr, arith}
use Rattle.std.proofs.lemmas.Bool.{cases_eq, cases_lt, eq-eqb, ne_eqb}
use Rattle.workload.specs.declared.script.DoneTxn.{DoneTxn}
use Rattle.workload.specs.Selection.{in_front, insert_ordered, ordered}
use Rattle.workload.specs.History.{number_got, rank_by, rank_of, comes_before}
use Rattle.mope_base.specs.Lists.{Each}
use Rattle.plain_db.proofs.EachLemmas.{each-weaker}
use Rattle.plain_db.proofs.RankLemmas.{Sorted}

-- the version on which a transaction repeats, and the one after it
unfoldable pub seen_by : Option ℕ → ℕ → ℕ
seen_by None base = base
seen_by (Some number) base = number - 1

unfoldable pub next_of : Option ℕ → ℕ → ℕ
next_of None current = current
next_of (Some number) current = number

unfoldable pub seen : DoneTxn → ℕ
seen t = seen_by (number_got t.end) t.base

-- its base is one of the versions up to the current one; its number too, and lies above the base
unfoldable pub Numbered : ℕ → Option ℕ → ℕ → Type 0
Numbered current None base = base ≤ current
Numbered current (Some number) base = (base < number) × (number ≤ current)

-- how many transactions got a number
unfoldable pub is_number : ℕ → Option ℕ → ℕ
is_number n None = 0
is_number n (Some number) = cond (eqb number n) 1 0

unfoldable pub count_of : ℕ → List DoneTxn → ℕ
count_of n [] = 0
count_of n (t ∷ txns) = is_number n (number_got t.end) + count_of n txns

pub count-append : (n : ℕ) (xs ys : List DoneTxn) → count_of n (xs ++ ys) ≡ count_of n xs + count_of n ys
unfolding count_of
count-append n [] ys = let e : count_of n ys ≡ 0 + count_of n ys = omega arith in e
count-append n (x ∷ xs) ys =
    let e : is_number n (number_got x.end) + (count_of n xs + count_of n ys) ≡ is_number n (number_got x.end) + count_of n xs + count_of n ys = omega arith in
    ap (λ k. is_number n (number_got x.end) + k) (count-append n xs ys) ∙ e

count-front : (b : Bool) (n : ℕ) (x y : DoneTxn) (ys rest : List DoneTxn)
    → count_of n rest ≡ is_number n (number_got x.end) + count_of n ys
    → count_of n (in_front b x y ys rest) ≡ is_number n (number_got x.end) + (is_number n (number_got y.end) + count_of n ys)
unfolding count_of in_front
count-front true n x y ys rest e = refl
count-front false n x y ys rest e =
    let swap : is_number n (number_got y.end) + (is_number n (number_got x.end) + count_of n ys) ≡ is_number n (number_got x.end) + (is_number n (number_got y.end) + count_of n ys) = omega arith in
    ap (λ k. is_number n (number_got y.end) + k) e ∙ swap

count-insert : (n : ℕ) (x : DoneTxn) (ys : List DoneTxn)
    → count_of n (insert_ordered comes_before x ys) ≡ is_number n (number_got x.end) + count_of n ys
unfolding count_of insert_ordered
count-insert n x [] = refl
count-insert n x (y ∷ ys) =
    count-front (comes_before x y) n x y ys (insert_ordered comes_before x ys) (count-insert n x ys)

pub count-ordered : (n : ℕ) (xs : List DoneTxn) → count_of n (ordered comes_before xs) ≡ count_of n xs
unfolding count_of ordered
count-ordered n [] = refl
count-ordered n (x ∷ xs) =
    count-insert n x (ordered comes_before xs) ∙ ap (λ k. is_number n (number_got x.end) + k) (count-ordered n xs)

-- ranks by number and base
pub rank-lower : (number : Option ℕ) (base current : ℕ) → Numbered current number base → 2 * base ≤ rank_by number base
unfolding Numbered rank_by
rank-lower None base current h = let e : 2 * base ≤ 2 * base = omega arith in e
rank-lower (Some number) base current h = omega (arith, h.0)

pub rank-upper : (number : Option ℕ) (base current : ℕ) → Numbered current number base → rank_by number base ≤ 2 * current
unfolding Numbered rank_by
rank-upper None base current h = omega (arith, h)
rank-upper (Some number) base current h = omega (arith, h.1)

-- a number isn't got where the ranks are above its own
number-low : (number : Option ℕ) (base k : ℕ) → 2 * k + 1 < rank_by number base → is_number (suc k) number ≡ 0
unfolding rank_by is_number
number-low None base k h = refl
number-low (Some number) base k h =
    ap (λ b. cond b 1 0) (ne_eqb number (suc k) (λ e. omega (arith, e, h)))

count-low : (k : ℕ) (txns : List DoneTxn) → Each (λ (t : DoneTxn). 2 * k + 1 < rank_of t) txns → count_of (suc k) txns ≡ 0
unfolding count_of Each rank_of
count-low k [] h = refl
count-low k (t ∷ txns) h =
    omega (arith, number-low (number_got t.end) t.base k h.0, count-low k txns h.1)

-- what has at least the rank of a number that none of them got is above it
number-above : (current : ℕ) (number : Option ℕ) (base k : ℕ) → Numbered current number base → 2 * k + 1 ≤ rank_by number base
    → is_number (suc k) number ≡ 0 → 2 * suc k ≤ rank_by number base
unfolding Numbered rank_by is_number
number-above current None base k h l e = omega (arith, l)
number-above current (Some number) base k h l e =
    elim (cases_eq number (suc k)) as (λ _. 2 * suc k ≤ 2 * number - 1) [
      | inl same ↦
          let one : is_number (suc k) (Some number) ≡ 1 = ap (λ b. cond b 1 0) (eq-eqb number (suc k) same) in
          absurd (omega (arith, one, e))
      | inr other ↦ omega (arith, other, l)
    ]

each-above : (current k : ℕ) (txns : List DoneTxn)
    → Each (λ (t : DoneTxn). Numbered current (number_got t.end) t.base) txns
    → Each (λ (t : DoneTxn). 2 * k + 1 ≤ rank_of t) txns → count_of (suc k) txns ≡ 0
    → Each (λ (t : DoneTxn). 2 * suc k ≤ rank_of t) txns
unfolding Each rank_of count_of
each-above current k [] numbered above none = tt
each-above current k (t ∷ txns) numbered above none = (
  number-above current (number_got t.end) t.base k numbered.0 above.0 (omega (arith, none)),
  each-above current k txns numbered.1 above.1 (omega (arith, none)),
)

-- each repeats on the version that stands, and the one that it makes stands next
unfoldable pub Chain : ℕ → List DoneTxn → Type 0
Chain k [] = Unit {0}
Chain k (t ∷ txns) = (seen t ≡ k) × Chain (next_of (number_got t.end) k) txns

chain_none : (k base : ℕ) → 2 * k ≤ 2 * base → 2 * base ≤ 2 * k + 1 → base ≡ k
chain_none k base lower upper = omega arith

chain_some : (k number : ℕ) → 2 * k ≤ 2 * number - 1 → 2 * number - 1 ≤ 2 * k + 1 → 0 < number → number ≡ suc k
chain_some k number lower upper positive = omega arith

pub is_number-none : (n : ℕ) → is_number n None ≡ 0
unfolding is_number
is_number-none n = refl

pub is_number-same : (n number : ℕ) → number ≡ n → is_number n (Some number) ≡ 1
unfolding is_number
is_number-same n number e = ap (λ b. cond b 1 0) (eq-eqb number n e)

pub is_number-other : (n number : ℕ) → (number ≡ n → ⊥) → is_number n (Some number) ≡ 0
unfolding is_number
is_number-other n number other = ap (λ b. cond b 1 0) (ne_eqb number n other)

-- the first of them stands at most one above the version
head_upper : (current k : ℕ) (t : DoneTxn) (txns : List DoneTxn)
    → Numbered current (number_got t.end) t.base → Each (λ (y : DoneTxn). rank_of t ≤ rank_of y) txns
    → ((n : ℕ) → k ≤ n → n < current → is_number (suc n) (number_got t.end) + count_of (suc n) txns ≡ 1)
    → rank_of t ≤ 2 * k + 1
unfolding rank_of
head_upper current k t txns numbered after counts =
    elim (cases_lt (2 * k + 1) (rank_of t)) as (λ _. rank_of t ≤ 2 * k + 1) [
      | inl high ↦
          let top : rank_of t ≤ 2 * current = rank-upper (number_got t.end) t.base current numbered in
          let below : k < current = omega (arith, top, high) in
          absurd (omega (
            arith,
            counts k (omega arith) below,
            number-low (number_got t.end) t.base k high,
            count-low k txns (each-weaker (λ (y : DoneTxn). rank_of t ≤ rank_of y) (λ (y : DoneTxn). 2 * k + 1 < rank_of y) txns (λ y l. omega (arith, l, high)) after),
          ))
      | inr low ↦ low
    ]

-- a sorted list in which each number above k is got once is a chain from version k on
pub chained : (current k : ℕ) (txns : List DoneTxn) → Sorted txns
    → Each (λ (t : DoneTxn). Numbered current (number_got t.end) t.base) txns
    → Each (λ (t : DoneTxn). 2 * k ≤ rank_of t) txns
    → ((n : ℕ) → k ≤ n → n < current → count_of (suc n) txns ≡ 1)
    → Chain k txns
unfolding Chain Sorted Each count_of seen rank_by seen_by next_of Numbered number_got rank_of
chained current k [] sorted numbered above counts = tt
chained current k (t ∷ txns) sorted numbered above counts =
    elim (number_got t.end) as (λ number.
    Numbered current number t.base → 2 * k ≤ rank_by number t.base → rank_by number t.base ≤ 2 * k + 1
    → Each (λ (y : DoneTxn). rank_by number t.base ≤ rank_of y) txns
    → ((n : ℕ) → k ≤ n → n < current → is_number (suc n) number + count_of (suc n) txns ≡ 1)
    → (seen_by number t.base ≡ k) × Chain (next_of number k) txns) [
      | None ↦ λ own lower upper after counts. (
        chain_none k t.base lower upper,
        chained current k txns sorted.1 numbered.1
            (each-weaker (λ (y : DoneTxn). 2 * t.base ≤ rank_of y) (λ (y : DoneTxn). 2 * k ≤ rank_of y) txns (λ y l. omega (arith, l, lower)) after)
            (λ n low high. omega (arith, counts n low high, is_number-none (suc n))),
      )
      | Some number ↦ λ own lower upper after counts.
          let e : number ≡ suc k = chain_some k number lower upper (omega (arith, own.0)) in
          let none : count_of (suc k) txns ≡ 0 =
          omega (arith, counts k (omega arith) (omega (arith, own.1, e)), is_number-same (suc k) number e) in
          let high : Each (λ (y : DoneTxn). 2 * k + 1 ≤ rank_of y) txns =
          each-weaker (λ (y : DoneTxn). 2 * number - 1 ≤ rank_of y) (λ (y : DoneTxn). 2 * k + 1 ≤ rank_of y) txns (λ y l. omega (arith, l, e)) after in (
            omega (arith, e),
            subst (λ j. Chain j txns) (sym e) (chained current (suc k) txns sorted.1 numbered.1
                (each-above current k txns numbered.1 high none)
                (λ n low high. omega (arith, counts n (omega (arith, low)) high, is_number-other (suc n) number (λ same. omega (arith, same, e, low))))),
          )
    ] numbered.0 above.0 (head_upper current k t txns numbered.0 sorted.0 counts) sorted.0 counts
