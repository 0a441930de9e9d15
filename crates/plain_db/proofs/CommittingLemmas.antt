-- The stamps and the tables of a commit, step by step.
use Rattle.std.proofs.Common.{◌≡◌, refl, sym, ◌∙◌, ap, subst, ℕ, suc, ◌+◌, ◌<◌, ◌≤◌, Bool, true, false, ◌&&◌, ◌||◌, eqb, ltb, List, [], ◌∷◌, map, drop, length, get_or, set, Some, None, if◌then◌else◌, inl, inr, arith}
use Rattle.std.proofs.lemmas.Bool.{cases_lt, cases_eq, eq-eqb, ne_eqb, or_left}
use Rattle.std.proofs.lemmas.List.{at_drop_more, at_drop_all, drop_more, drop_all, get_or_past, get_or-set_same, map-set}
use Rattle.mope_base.specs.declared.numbers.TableNo.{TableNo}
use Rattle.workload.specs.declared.plain.PlainTable.{PlainTable}
use Rattle.workload.specs.declared.plain.PlainDb.{PlainDb}
use Rattle.workload.specs.declared.script.Act.{Act}
use Rattle.workload.specs.PlainDatabase.{empty_table, table_of, with_table}
use Rattle.workload.specs.Transaction.{table_named}
use Rattle.workload.specs.Run.{Stamps, unstamped, names, merged, stamped, this_or, lowest_newer}
use Rattle.plain_db.specs.Running.{newer_in, written_by}
use Rattle.plain_db.proofs.TableOutcomes.{at, size, size-with_table, at-other, same_databases}
use Rattle.plain_db.proofs.MergeLemmas.{size-merged, at-merged, at-merged_other}

names-step : (tables : List TableNo) (k : ℕ) (d : TableNo) (i : ℕ) → k < length tables
    → names (drop k tables) i ≡ (eqb (get_or tables k d).0 i || names (drop (k + 1) tables) i)
unfolding names
names-step tables k d i within = at_drop_more (λ l. names l i) tables k d within

pub named_here : (tables : List TableNo) (k : ℕ) (d : TableNo) (i : ℕ) → k < length tables → names (drop k tables) i ≡ names tables i
    → (get_or tables k d).0 ≡ i → true ≡ names tables i
named_here tables k d i within whole here =
    sym (or_left (eqb (get_or tables k d).0 i) (names (drop (k + 1) tables) i) (eq-eqb (get_or tables k d).0 i here))
    ∙ sym (names-step tables k d i within) ∙ whole

pub named_further : (tables : List TableNo) (k : ℕ) (d : TableNo) (i : ℕ) → k < length tables → names (drop k tables) i ≡ names tables i
    → ((get_or tables k d).0 ≡ i → ⊥) → names (drop (k + 1) tables) i ≡ names tables i
named_further tables k d i within whole other =
    ap (λ b. b || names (drop (k + 1) tables) i) (sym (ne_eqb (get_or tables k d).0 i other))
    ∙ sym (names-step tables k d i within) ∙ whole

pub named_none : (tables : List TableNo) (k : ℕ) (i : ℕ) → length tables ≤ k → names (drop k tables) i ≡ names tables i → false ≡ names tables i
unfolding names
named_none tables k i past whole = sym (at_drop_all (λ l. names l i) tables k past) ∙ whole

newer-step : (written : List ℕ) (i d base : ℕ) (touched : List TableNo) → i < length written
    → newer_in i (drop i written) base touched
    ≡ this_or (names touched i && ltb base (get_or written i d)) i (get_or written i d) (newer_in (suc i) (drop (i + 1) written) base touched)
unfolding newer_in
newer-step written i d base touched within = ap (λ l. newer_in i l base touched) (drop_more written i d within)

pub newer_here : (written : List ℕ) (i d base : ℕ) (touched : List TableNo) → i < length written
    → newer_in i (drop i written) base touched ≡ newer_in 0 written base touched
    → true ≡ (names touched i && ltb base (get_or written i d))
    → Some (record { 0 = i }, get_or written i d) ≡ newer_in 0 written base touched
unfolding this_or
newer_here written i d base touched within whole here =
    ap (λ b. this_or b i (get_or written i d) (newer_in (suc i) (drop (i + 1) written) base touched)) here
    ∙ sym (newer-step written i d base touched within) ∙ whole

pub newer_further : (written : List ℕ) (i d base : ℕ) (touched : List TableNo) → i < length written
    → newer_in i (drop i written) base touched ≡ newer_in 0 written base touched
    → false ≡ (names touched i && ltb base (get_or written i d))
    → newer_in (i + 1) (drop (i + 1) written) base touched ≡ newer_in 0 written base touched
unfolding this_or
newer_further written i d base touched within whole here =
    let e : i + 1 ≡ suc i = omega arith in
    ap (λ n. newer_in n (drop (i + 1) written) base touched) e
    ∙ ap (λ b. this_or b i (get_or written i d) (newer_in (suc i) (drop (i + 1) written) base touched)) here
    ∙ sym (newer-step written i d base touched within) ∙ whole

pub newer_none : (written : List ℕ) (i base : ℕ) (touched : List TableNo) → length written ≤ i
    → newer_in i (drop i written) base touched ≡ newer_in 0 written base touched → None ≡ newer_in 0 written base touched
unfolding newer_in
newer_none written i base touched past whole = sym (ap (λ l. newer_in i l base touched) (drop_all i written past)) ∙ whole

-- the definition looks at the last writes alone
pub newer-stamps : (i : ℕ) (stamps : List Stamps) (base : ℕ) (touched : List TableNo)
    → newer_in i (map (λ (s : Stamps). s.written) stamps) base touched ≡ lowest_newer i stamps base touched
unfolding newer_in lowest_newer
newer-stamps i [] base touched = refl
newer-stamps i (s ∷ stamps) base touched =
    ap (λ o. this_or (names touched i && ltb base s.written) i s.written o) (newer-stamps (suc i) stamps base touched)

pub written-more : (ops : List TableNo) (number : ℕ) (now next old : List ℕ) (i : ℕ) (d : TableNo) → i < length ops
    → written_by (drop i ops) number now ≡ written_by ops number old → next ≡ set now (get_or ops i d).0 number
    → written_by (drop (i + 1) ops) number next ≡ written_by ops number old
unfolding written_by
written-more ops number now next old i d within whole put =
    ap (λ l. written_by (drop (i + 1) ops) number l) put
    ∙ sym (at_drop_more (λ l. written_by l number now) ops i d within) ∙ whole

pub written-all : (ops : List TableNo) (number : ℕ) (now old : List ℕ) (i : ℕ) → length ops ≤ i
    → written_by (drop i ops) number now ≡ written_by ops number old → now ≡ written_by ops number old
unfolding written_by
written-all ops number now old i past whole = sym (at_drop_all (λ l. written_by l number now) ops i past) ∙ whole

pub written-stamps : (ops : List Act) (number : ℕ) (stamps : List Stamps)
    → written_by (map table_named ops) number (map (λ (s : Stamps). s.written) stamps) ≡ map (λ (s : Stamps). s.written) (stamped ops number stamps)
unfolding written_by stamped
written-stamps [] number stamps = refl
written-stamps (op ∷ ops) number stamps =
    ap (λ l. written_by (map table_named ops) number l)
    (sym (map-set (λ (s : Stamps). s.written) stamps (table_named op).0 (record (get_or stamps (table_named op).0 unstamped) { written = number })))
    ∙ written-stamps ops number (set stamps (table_named op).0 (record (get_or stamps (table_named op).0 unstamped) { written = number }))
