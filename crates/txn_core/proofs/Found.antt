-- The lowest touched table that was written after a version, found table by table.
use Rattle.std.proofs.Common.{◌≡◌, ℕ, suc, zero, ◌+◌, ◌<◌, ◌≤◌, Bool, true, false, ◌&&◌, ◌||◌, eqb, ltb, List, [], ◌∷◌, length, get_or, drop, refl, ap, ◌∙◌, sym, arith, Some, None}
use Rattle.mope_base.specs.declared.numbers.TableNo.{TableNo}
use Rattle.enc_table.specs.declared.stamps.Stamps.{Stamps}
use Rattle.versions.specs.Databases.{stamps_at}
use Rattle.versions.specs.Newer.{names, this_or, lowest_newer}

-- ---- whether a table is touched

names_step : (touched : List TableNo) (i table : ℕ) (d : TableNo) → i < length touched → names (drop i touched) table ≡ (eqb (get_or touched i d).0 table || names (drop (suc i) touched) table)
unfolding names
names_step [] i table d h = absurd (omega (arith, h))
names_step (t ∷ touched) zero table d h = refl
names_step (t ∷ touched) (suc i) table d h = names_step touched i table d (omega (arith, h))

pub named_here : (touched : List TableNo) (i table : ℕ) (d : TableNo) → i < length touched → eqb (get_or touched i d).0 table ≡ true → names (drop i touched) table ≡ true
named_here touched i table d h e = names_step touched i table d h ∙ ap (λ (b : Bool). b || names (drop (suc i) touched) table) e

pub not_named_here : (touched : List TableNo) (i table : ℕ) (d : TableNo) → i < length touched → eqb (get_or touched i d).0 table ≡ false → names (drop i touched) table ≡ names (drop (i + 1) touched) table
not_named_here touched i table d h e =
    names_step touched i table d h ∙ ap (λ (b : Bool). b || names (drop (suc i) touched) table) e
    ∙ ap (λ (k : ℕ). names (drop k touched) table) (let n : suc i ≡ i + 1 = omega arith in n)

pub named_nowhere : (touched : List TableNo) (i table : ℕ) → length touched ≤ i → names (drop i touched) table ≡ false
unfolding names
named_nowhere [] zero table h = refl
named_nowhere [] (suc i) table h = refl
named_nowhere (t ∷ touched) zero table h = absurd (omega (arith, h))
named_nowhere (t ∷ touched) (suc i) table h = named_nowhere touched i table (omega (arith, h))

-- ---- the lowest one

newer_step : (n : ℕ) (stamps : List Stamps) (i base : ℕ) (touched : List TableNo) → i < length stamps
    → lowest_newer n (drop i stamps) base touched ≡ this_or (names touched n && ltb base (stamps_at stamps i).written) n (stamps_at stamps i).written (lowest_newer (suc n) (drop (suc i) stamps) base touched)
unfolding lowest_newer stamps_at
newer_step n [] i base touched h = absurd (omega (arith, h))
newer_step n (stamp ∷ stamps) zero base touched h = refl
newer_step n (stamp ∷ stamps) (suc i) base touched h = newer_step n stamps i base touched (omega (arith, h))

pub newer_here : (stamps : List Stamps) (i base : ℕ) (touched : List TableNo) (stamp : Stamps) → i < length stamps → stamp ≡ stamps_at stamps i → (names touched i && ltb base stamp.written) ≡ true
    → lowest_newer i (drop i stamps) base touched ≡ Some (record { 0 = i }, stamp.written)
unfolding this_or
newer_here stamps i base touched stamp h is e =
    newer_step i stamps i base touched h
    ∙ ap (λ (s : Stamps). this_or (names touched i && ltb base s.written) i s.written (lowest_newer (suc i) (drop (suc i) stamps) base touched)) (sym is)
    ∙ ap (λ (b : Bool). this_or b i stamp.written (lowest_newer (suc i) (drop (suc i) stamps) base touched)) e

pub not_newer_here : (stamps : List Stamps) (i base : ℕ) (touched : List TableNo) (stamp : Stamps) → i < length stamps → stamp ≡ stamps_at stamps i → (names touched i && ltb base stamp.written) ≡ false
    → lowest_newer i (drop i stamps) base touched ≡ lowest_newer (i + 1) (drop (i + 1) stamps) base touched
unfolding this_or
not_newer_here stamps i base touched stamp h is e =
    newer_step i stamps i base touched h
    ∙ ap (λ (s : Stamps). this_or (names touched i && ltb base s.written) i s.written (lowest_newer (suc i) (drop (suc i) stamps) base touched)) (sym is)
    ∙ ap (λ (b : Bool). this_or b i stamp.written (lowest_newer (suc i) (drop (suc i) stamps) base touched)) e
    ∙ ap (λ (k : ℕ). lowest_newer k (drop k stamps) base touched) (let n : suc i ≡ i + 1 = omega arith in n)

pub newer_nowhere : (n : ℕ) (stamps : List Stamps) (i base : ℕ) (touched : List TableNo) → length stamps ≤ i → lowest_newer n (drop i stamps) base touched ≡ None
unfolding lowest_newer
newer_nowhere n [] zero base touched h = refl
newer_nowhere n [] (suc i) base touched h = refl
newer_nowhere n (stamp ∷ stamps) zero base touched h = absurd (omega (arith, h))
newer_nowhere n (stamp ∷ stamps) (suc i) base touched h = newer_nowhere n stamps i base touched (omega (arith, h))
