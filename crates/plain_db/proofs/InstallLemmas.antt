-- An install keeps what holds of versions and stamps.
use Rattle.std.proofs.Common.{◌≡◌, refl, sym, ◌∙◌, ap, ℕ, suc, ◌<◌, true, List, [], ◌∷◌, ◌++◌, length, get_or, set, inl, inr, arith}
use Rattle.std.specs.List.{list_any}
use Rattle.std.proofs.lemmas.Bool.{cases_lt, cases_eq, eq-eqb, and_from}
use Rattle.std.proofs.lemmas.List.{length-set, get_or-set_same, get_or-set_other, get_or_past, set_past}
use Rattle.mope_base.specs.declared.numbers.TableNo.{TableNo}
use Rattle.mope_base.specs.declared.numbers.ColNo.{ColNo}
use Rattle.workload.specs.declared.script.Workload.{Workload}
use Rattle.workload.specs.Run.{Run, Turn, installed, Stamps, unstamped, number_of, stamps_of}
use Rattle.workload.specs.History.{lays}
use Rattle.plain_db.proofs.TableOutcomes.{at, size}
use Rattle.plain_db.proofs.StampLemmas.{stamps_at}
use Rattle.plain_db.proofs.VersionLemmas.{version-older}
use Rattle.plain_db.proofs.RunInvariant.{StoreHolds}
use Rattle.plain_db.proofs.StoreLemmas.{any_last, any_written, any_laid, version_cases, size_current}

unfoldable laid_at : List Stamps → ℕ → ℕ → Stamps
laid_at stamps place number = record (stamps_at stamps place) { laid = number }

laid-written : (stamps : List Stamps) (place number i : ℕ)
    → (stamps_at (set stamps place (laid_at stamps place number)) i).written ≡ (stamps_at stamps i).written
unfolding stamps_at laid_at
laid-written stamps place number i =
    let stamp : Stamps = laid_at stamps place number in
    elim (cases_eq i place) as (λ _. (get_or (set stamps place stamp) i unstamped).written ≡ (get_or stamps i unstamped).written) [
      | inl here ↦
          elim (cases_lt place (length stamps)) as (λ _. (get_or (set stamps place stamp) i unstamped).written ≡ (get_or stamps i unstamped).written) [
            | inl within ↦ rw here (ap (λ (s : Stamps). s.written) (get_or-set_same stamps place stamp unstamped within))
            | inr past ↦ ap (λ l. (get_or l i unstamped).written) (set_past stamps place stamp past)
          ]
      | inr other ↦ ap (λ (s : Stamps). s.written) (get_or-set_other stamps place i stamp unstamped other)
    ]

-- an install on a table
pub record Installs (r next : Run) (t : TableNo) (column : ColNo) (turn : Turn) : Type 0 where
  pub older : next.older ≡ r.older ++ r.current ∷ []
  pub current : next.current ≡ r.current
  pub stamps : next.stamps ≡ set r.stamps t.0 (record (stamps_of r t) { laid = suc (number_of r) })
  pub turns : next.turns ≡ r.turns ++ turn ∷ []
  pub kind : turn.kind ≡ installed (suc (number_of r)) t column

install_laid : (w : Workload) (r next : Run) (t : TableNo) (column : ColNo) (turn : Turn) → Installs r next t column turn → StoreHolds w r
    → (k : TableNo) → 0 < (stamps_at next.stamps k.0).laid
    → list_any (λ (turn : Turn). lays k (stamps_at next.stamps k.0).laid turn.kind) (r.turns ++ turn ∷ []) ≡ true
unfolding lays stamps_at unstamped stamps_of
install_laid w r next t column turn h store k positive =
    let stamp : Stamps = record (stamps_of r t) { laid = suc (number_of r) } in
    elim (cases_eq k.0 t.0) as (λ _. list_any (λ (turn : Turn). lays k (stamps_at next.stamps k.0).laid turn.kind) (r.turns ++ turn ∷ []) ≡ true) [
      | inl here ↦
          elim (cases_lt t.0 (length r.stamps)) as (λ _. list_any (λ (turn : Turn). lays k (stamps_at next.stamps k.0).laid turn.kind) (r.turns ++ turn ∷ []) ≡ true) [
            | inl inside ↦
                let n : (stamps_at next.stamps k.0).laid ≡ suc (number_of r) =
                ap (λ i. (stamps_at next.stamps i).laid) here
                ∙ ap (λ l. (stamps_at l t.0).laid) h.stamps
                ∙ ap (λ (s : Stamps). s.laid) (get_or-set_same r.stamps t.0 stamp unstamped inside) in
                any_last _ r.turns turn (ap (λ kind. lays k (stamps_at next.stamps k.0).laid kind) h.kind
                ∙ and_from _ _ (eq-eqb (suc (number_of r)) (stamps_at next.stamps k.0).laid (sym n)) (eq-eqb t.0 k.0 (sym here)))
            | inr past ↦
                let none : (stamps_at next.stamps k.0).laid ≡ 0 =
                ap (λ (s : Stamps). s.laid) (get_or_past next.stamps k.0 unstamped (omega (arith, ap length h.stamps, length-set r.stamps t.0 stamp, past, here))) in
                absurd (omega (arith, none, positive))
          ]
      | inr other ↦
          let n : (stamps_at next.stamps k.0).laid ≡ (stamps_at r.stamps k.0).laid =
          ap (λ l. (stamps_at l k.0).laid) h.stamps ∙ ap (λ (s : Stamps). s.laid) (get_or-set_other r.stamps t.0 k.0 stamp unstamped other) in
          any_laid r.turns (turn ∷ []) k _ _ n (store.laid k (omega (arith, n, positive)))
    ]

pub store-install : (w : Workload) (r next : Run) (t : TableNo) (column : ColNo) (turn : Turn) → Installs r next t column turn
    → StoreHolds w r → StoreHolds w next
unfolding stamps_of laid_at stamps_at
store-install w r next t column turn h store =
    let stamp : Stamps = record (stamps_of r t) { laid = suc (number_of r) } in
    let stamps : length next.stamps ≡ length r.stamps = ap length h.stamps ∙ length-set r.stamps t.0 stamp in
    let written : (i : ℕ) → (stamps_at next.stamps i).written ≡ (stamps_at r.stamps i).written =
    λ i. ap (λ l. (stamps_at l i).written) h.stamps ∙ laid-written r.stamps t.0 (suc (number_of r)) i in
    record {
      sizes = λ m. version_cases r next m (λ db. size db ≡ length next.stamps) h.older
          (λ within. store.sizes m ∙ sym stamps)
          (λ above. ap size h.current ∙ size_current w r store ∙ sym stamps);
      unchanged = λ i m above. version_cases r next m (λ db. at db i ≡ at next.current i) h.older
          (λ within. store.unchanged i m (omega (arith, written i, above)) ∙ ap (λ db. at db i) (sym h.current))
          (λ beyond. refl);
      first = version-older r next 0 h.older (omega arith) ∙ store.first;
      written = rw h.turns (λ k positive. any_written r.turns (turn ∷ []) k _ _ (written k.0) (store.written k (omega (arith, written k.0, positive))));
      laid = rw h.turns (install_laid w r next t column turn h store);
    }
