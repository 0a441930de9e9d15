-- Stamps, and which of them stand above a base; and the versions, with one more.
use Rattle.std.proofs.Common.{◌≡◌, refl, sym, ◌∙◌, ap, subst, ℕ, zero, suc, ◌+◌, ◌<◌, ◌≤◌, Bool, true, false, ◌&&◌, eqb, ltb, List, [], ◌∷◌, map, length, get_or, set, Option, Some, None, is_some, ◌⊎◌, inl, inr, arith}
use Rattle.std.proofs.lemmas.Bool.{cases_Bool, cases_eq, cases_lt, eqb-true, eqb-false, ltb-true, ltb-false, and_parts, and_cases, false≢true, true≢false, or_cases, or_parts}
use Rattle.std.proofs.lemmas.List.{length-set, get_or-set_same, get_or-set_other, set_past}
use Rattle.mope_base.specs.declared.numbers.TableNo.{TableNo}
use Rattle.workload.specs.declared.script.Act.{Act}
use Rattle.workload.specs.Transaction.{table_named}
use Rattle.workload.specs.Run.{Stamps, names, stamped, unstamped, this_or, lowest_newer}

-- the stamps at a place
unfoldable pub stamps_at : List Stamps → ℕ → Stamps
stamps_at stamps i = get_or stamps i unstamped

unfoldable stamps_with : List Stamps → Act → ℕ → List Stamps
stamps_with stamps op number = set stamps (table_named op).0 (record (get_or stamps (table_named op).0 unstamped) { written = number })

pub length-stamped : (ops : List Act) (number : ℕ) (stamps : List Stamps) → length (stamped ops number stamps) ≡ length stamps
unfolding stamped stamps_with
length-stamped [] number stamps = refl
length-stamped (op ∷ ops) number stamps =
    length-stamped ops number (stamps_with stamps op number)
    ∙ length-set stamps (table_named op).0 (record (get_or stamps (table_named op).0 unstamped) { written = number })

pub stamped-other : (ops : List Act) (number : ℕ) (stamps : List Stamps) (i : ℕ) → names (map table_named ops) i ≡ false
    → stamps_at (stamped ops number stamps) i ≡ stamps_at stamps i
unfolding stamped stamps_with names stamps_at
stamped-other [] number stamps i unnamed = refl
stamped-other (op ∷ ops) number stamps i unnamed =
    let parts : (eqb (table_named op).0 i ≡ false) × (names (map table_named ops) i ≡ false) = or_parts _ _ unnamed in
    stamped-other ops number (stamps_with stamps op number) i parts.1
    ∙ get_or-set_other stamps (table_named op).0 i (record (get_or stamps (table_named op).0 unstamped) { written = number }) unstamped
    (λ e. eqb-false (table_named op).0 i parts.0 (sym e))

pub stamped-named : (ops : List Act) (number : ℕ) (stamps : List Stamps) (i : ℕ) → names (map table_named ops) i ≡ true
    → i < length stamps → (stamps_at (stamped ops number stamps) i).written ≡ number
unfolding stamped stamps_with names stamps_at
stamped-named [] number stamps i named within = absurd (false≢true named)
stamped-named (op ∷ ops) number stamps i named within =
    let place : ℕ = (table_named op).0 in
    let stamp : Stamps = record (get_or stamps place unstamped) { written = number } in
    elim (cases_Bool (names (map table_named ops) i)) as (λ _. (get_or (stamped ops number (set stamps place stamp)) i unstamped).written ≡ number) [
      | inl later ↦ stamped-named ops number (set stamps place stamp) i later (omega (arith, length-set stamps place stamp))
      | inr last ↦
          let here : place ≡ i = eqb-true place i (elim (or_cases (eqb place i) (names (map table_named ops) i) named) as (λ _. eqb place i ≡ true) [
            | inl is ↦ is
            | inr later ↦ absurd (false≢true (sym last ∙ later))
          ]) in
          ap (λ (s : Stamps). s.written) (
          stamped-other ops number (set stamps place stamp) i last
          ∙ subst (λ k. get_or (set stamps place stamp) k unstamped ≡ stamp) here (get_or-set_same stamps place stamp unstamped (omega arith)))
    ]

set_laid : (stamps : List Stamps) (place number i : ℕ)
    → (get_or (set stamps place (record (get_or stamps place unstamped) { written = number })) i unstamped).laid ≡ (get_or stamps i unstamped).laid
set_laid stamps place number i =
    let stamp : Stamps = record (get_or stamps place unstamped) { written = number } in
    elim (cases_eq i place) as (λ _. (get_or (set stamps place stamp) i unstamped).laid ≡ (get_or stamps i unstamped).laid) [
      | inl here ↦
          elim (cases_lt place (length stamps)) as (λ _. (get_or (set stamps place stamp) i unstamped).laid ≡ (get_or stamps i unstamped).laid) [
            | inl within ↦ rw here (ap (λ (s : Stamps). s.laid) (get_or-set_same stamps place stamp unstamped within))
            | inr past ↦ ap (λ l. (get_or l i unstamped).laid) (set_past stamps place stamp past)
          ]
      | inr other ↦ ap (λ (s : Stamps). s.laid) (get_or-set_other stamps place i stamp unstamped other)
    ]

pub stamped-laid : (ops : List Act) (number : ℕ) (stamps : List Stamps) (i : ℕ)
    → (stamps_at (stamped ops number stamps) i).laid ≡ (stamps_at stamps i).laid
unfolding stamped stamps_with stamps_at
stamped-laid [] number stamps i = refl
stamped-laid (op ∷ ops) number stamps i =
    stamped-laid ops number (stamps_with stamps op number) i ∙ set_laid stamps (table_named op).0 number i

unfoldable option_or : Option (TableNo × ℕ) → TableNo × ℕ → TableNo × ℕ
option_or None other = other
option_or (Some newer) other = newer

none_parts : (b : Bool) (i stamp : ℕ) (other : Option (TableNo × ℕ)) → this_or b i stamp other ≡ None → (b ≡ false) × (other ≡ None)
unfolding this_or
none_parts true i stamp other e = absurd (true≢false (ap is_some e))
none_parts false i stamp other e = (refl, e)

some_parts : (b : Bool) (i stamp : ℕ) (other : Option (TableNo × ℕ)) (newer : TableNo × ℕ) → this_or b i stamp other ≡ Some newer
    → ((b ≡ true) × (newer.0.0 ≡ i) × (newer.1 ≡ stamp)) ⊎ (other ≡ Some newer)
unfolding this_or option_or
some_parts true i stamp other newer e =
    inl (refl, ap (λ o. (option_or o newer).0.0) (sym e), ap (λ o. (option_or o newer).1) (sym e))
some_parts false i stamp other newer e = inr e

-- where no touched table was written after the base, each was written at most then
pub none_newer : (i : ℕ) (stamps : List Stamps) (base : ℕ) (touched : List TableNo) → lowest_newer i stamps base touched ≡ None
    → (j : ℕ) → names touched (i + j) ≡ true → (stamps_at stamps j).written ≤ base
unfolding lowest_newer stamps_at unstamped
none_newer i [] base touched e j named = let h : 0 ≤ base = omega arith in h
none_newer i (stamp ∷ stamps) base touched e zero named =
    let parts : (names touched i && ltb base stamp.written ≡ false) × (lowest_newer (suc i) stamps base touched ≡ None) =
    none_parts _ i stamp.written (lowest_newer (suc i) stamps base touched) e in
    let same : i + 0 ≡ i = omega arith in
    elim (and_cases (names touched i) (ltb base stamp.written) parts.0) as (λ _. stamp.written ≤ base) [
      | inl unnamed ↦ absurd (false≢true (sym unnamed ∙ ap (λ k. names touched k) (sym same) ∙ named))
      | inr within ↦ ltb-false base stamp.written within
    ]
none_newer i (stamp ∷ stamps) base touched e (suc j) named =
    let parts : (names touched i && ltb base stamp.written ≡ false) × (lowest_newer (suc i) stamps base touched ≡ None) =
    none_parts _ i stamp.written (lowest_newer (suc i) stamps base touched) e in
    let same : suc i + j ≡ i + suc j = omega arith in
    none_newer (suc i) stamps base touched parts.1 j (ap (λ k. names touched k) same ∙ named)

-- else it is one, with its stamp
pub record IsNewer (i : ℕ) (stamps : List Stamps) (base : ℕ) (newer : TableNo × ℕ) : Type 0 where
  pub place : ℕ
  pub table : newer.0.0 ≡ i + place
  pub stamp : newer.1 ≡ (stamps_at stamps place).written
  pub above : base < newer.1

pub some_newer : (i : ℕ) (stamps : List Stamps) (base : ℕ) (touched : List TableNo) (newer : TableNo × ℕ)
    → lowest_newer i stamps base touched ≡ Some newer → IsNewer i stamps base newer
unfolding lowest_newer stamps_at
some_newer i [] base touched newer e = absurd (false≢true (ap is_some e))
some_newer i (stamp ∷ stamps) base touched newer e =
    elim (some_parts (names touched i && ltb base stamp.written) i stamp.written (lowest_newer (suc i) stamps base touched) newer e) as (λ _. IsNewer i (stamp ∷ stamps) base newer) [
      | inl is ↦
          let above : base < stamp.written = ltb-true base stamp.written (and_parts (names touched i) (ltb base stamp.written) is.0).1 in
          record { place = 0; table = omega (arith, is.1); stamp = is.2; above = omega (arith, is.2, above) }
      | inr later ↦
          let rest : IsNewer (suc i) stamps base newer = some_newer (suc i) stamps base touched newer later in
          record { place = suc rest.place; table = omega (arith, rest.table); stamp = rest.stamp; above = rest.above }
    ]
