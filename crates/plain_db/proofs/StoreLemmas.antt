-- Each kind of turn keeps what holds of versions and stamps.
use Rattle.std.proofs.Common.{◌≡◌, refl, sym, ◌∙◌, ap, subst, ℕ, suc, ◌<◌, ◌≤◌, Bool, true, false, List, [], ◌∷◌, ◌++◌, map, length, inl, inr, arith}
use Rattle.std.specs.List.{list_any}
use Rattle.std.proofs.lemmas.Bool.{cases_Bool, cases_lt, eq-eqb, and_from, or_left, or_right}
use Rattle.std.proofs.lemmas.List.{get_or_past}
use Rattle.std.proofs.lemmas.List.Folds.{list_any-append}
use Rattle.mope_base.specs.declared.numbers.TableNo.{TableNo}
use Rattle.workload.specs.declared.plain.PlainDb.{PlainDb}
use Rattle.workload.specs.declared.script.Act.{Act}
use Rattle.workload.specs.declared.script.Workload.{Workload}
use Rattle.workload.specs.PlainDatabase.{empty_table}
use Rattle.workload.specs.Transaction.{table_named}
use Rattle.workload.specs.Run.{Run, Turn, committed, Stamps, unstamped, number_of, version_of, names, merged, stamped}
use Rattle.workload.specs.History.{writes, lays}
use Rattle.plain_db.proofs.TableOutcomes.{at, size}
use Rattle.plain_db.proofs.MergeLemmas.{size-merged, at-merged_other}
use Rattle.plain_db.proofs.StampLemmas.{stamps_at, length-stamped, stamped-other, stamped-named, stamped-laid}
use Rattle.plain_db.proofs.VersionLemmas.{version-older, version-new, number-next, version-current, version-same}
use Rattle.plain_db.proofs.RunInvariant.{Extends, StoreHolds}

any_more : (p : Turn → Bool) (turns more : List Turn) → list_any p turns ≡ true → list_any p (turns ++ more) ≡ true
any_more p turns more e = list_any-append p turns more ∙ or_left _ _ e

pub any_last : (p : Turn → Bool) (turns : List Turn) (turn : Turn) → p turn ≡ true → list_any p (turns ++ turn ∷ []) ≡ true
any_last p turns turn e = list_any-append p turns (turn ∷ []) ∙ or_right _ _ (or_left (p turn) false e)

-- a turn that makes no version
pub record MakesNone (r next : Run) (turn : Turn) : Type 0 where
  pub older : next.older ≡ r.older
  pub current : next.current ≡ r.current
  pub stamps : next.stamps ≡ r.stamps
  pub turns : next.turns ≡ r.turns ++ turn ∷ []

pub later-none : (r next : Run) (turn : Turn) → MakesNone r next turn → Extends r next
unfolding number_of
later-none r next turn h = record {
  grows = omega (arith, ap length h.older);
  versions = λ m within. version-same r next m h.older h.current;
  more = turn ∷ [];
  turns = h.turns;
}

pub store-none : (w : Workload) (r next : Run) (turn : Turn) → MakesNone r next turn → StoreHolds w r → StoreHolds w next
store-none w r next turn h store =
    let same : (m : ℕ) → version_of next m ≡ version_of r m = λ m. version-same r next m h.older h.current in
    record {
      sizes = λ m. ap size (same m) ∙ store.sizes m ∙ ap length (sym h.stamps);
      unchanged = λ i m above.
          ap (λ db. at db i) (same m)
          ∙ store.unchanged i m (omega (arith, ap (λ l. (stamps_at l i).written) h.stamps, above))
          ∙ ap (λ db. at db i) (sym h.current);
      first = same 0 ∙ store.first;
      written = rw (h.stamps, h.turns) (λ t positive. any_more _ r.turns (turn ∷ []) (store.written t positive));
      laid = rw (h.stamps, h.turns) (λ t positive. any_more _ r.turns (turn ∷ []) (store.laid t positive));
    }

-- a turn that makes a version
pub later-version : (r next : Run) (turn : Turn) → next.older ≡ r.older ++ r.current ∷ [] → next.turns ≡ r.turns ++ turn ∷ [] → Extends r next
later-version r next turn older turns = record {
  grows = omega (arith, number-next r next older);
  versions = λ m within. version-older r next m older within;
  more = turn ∷ [];
  turns = turns;
}

-- of either kind: from the version before it on, and from it on
pub version_cases : (r next : Run) (m : ℕ) (P : PlainDb → Type 0) → next.older ≡ r.older ++ r.current ∷ []
    → (m ≤ number_of r → P (version_of r m)) → (number_of r < m → P next.current) → P (version_of next m)
version_cases r next m P older below above =
    elim (cases_lt (number_of r) m) as (λ _. P (version_of next m)) [
      | inl high ↦ subst P (sym (version-new r next m older high)) (above high)
      | inr low ↦ subst P (sym (version-older r next m older low)) (below low)
    ]

-- a commit
pub record Commits (r next : Run) (ops : List Act) (copy : PlainDb) (turn : Turn) : Type 0 where
  pub older : next.older ≡ r.older ++ r.current ∷ []
  pub current : next.current ≡ merged ops copy r.current
  pub stamps : next.stamps ≡ stamped ops (suc (number_of r)) r.stamps
  pub turns : next.turns ≡ r.turns ++ turn ∷ []
  pub kind : turn.kind ≡ committed (suc (number_of r)) ops

pub size_current : (w : Workload) (r : Run) → StoreHolds w r → size r.current ≡ length r.stamps
size_current w r store = ap size (sym (version-current r)) ∙ store.sizes (number_of r)

commit_unchanged : (w : Workload) (r next : Run) (ops : List Act) (copy : PlainDb) (turn : Turn) → Commits r next ops copy turn → StoreHolds w r
    → (i m : ℕ) → (stamps_at next.stamps i).written ≤ m → m ≤ number_of r → at (version_of r m) i ≡ at next.current i
unfolding at size
commit_unchanged w r next ops copy turn h store i m above within =
    elim (cases_Bool (names (map table_named ops) i)) as (λ _. at (version_of r m) i ≡ at next.current i) [
      | inl named ↦
          elim (cases_lt i (length r.stamps)) as (λ _. at (version_of r m) i ≡ at next.current i) [
            | inl inside ↦
                let n : (stamps_at next.stamps i).written ≡ suc (number_of r) =
                ap (λ l. (stamps_at l i).written) h.stamps ∙ stamped-named ops (suc (number_of r)) r.stamps i named inside in
                absurd (omega (arith, n, above, within))
            | inr past ↦
                get_or_past (version_of r m).tables i empty_table (omega (arith, store.sizes m, past))
                ∙ sym (get_or_past next.current.tables i empty_table (omega (arith, ap size h.current, size-merged ops copy r.current, size_current w r store, past)))
          ]
      | inr unnamed ↦
          let n : (stamps_at next.stamps i).written ≡ (stamps_at r.stamps i).written =
          ap (λ l. (stamps_at l i).written) h.stamps ∙ ap (λ (s : Stamps). s.written) (stamped-other ops (suc (number_of r)) r.stamps i unnamed) in
          store.unchanged i m (omega (arith, n, above))
          ∙ sym (ap (λ db. at db i) h.current ∙ at-merged_other ops copy r.current i unnamed)
    ]

pub any_written : (turns more : List Turn) (t : TableNo) (n k : ℕ) → n ≡ k
    → list_any (λ (turn : Turn). writes t k turn.kind) turns ≡ true → list_any (λ (turn : Turn). writes t n turn.kind) (turns ++ more) ≡ true
any_written turns more t n k e h = rw e (any_more (λ (turn : Turn). writes t k turn.kind) turns more h)

pub any_laid : (turns more : List Turn) (t : TableNo) (n k : ℕ) → n ≡ k
    → list_any (λ (turn : Turn). lays t k turn.kind) turns ≡ true → list_any (λ (turn : Turn). lays t n turn.kind) (turns ++ more) ≡ true
any_laid turns more t n k e h = rw e (any_more (λ (turn : Turn). lays t k turn.kind) turns more h)

commit_written : (w : Workload) (r next : Run) (ops : List Act) (copy : PlainDb) (turn : Turn) → Commits r next ops copy turn → StoreHolds w r
    → (t : TableNo) → 0 < (stamps_at next.stamps t.0).written
    → list_any (λ (turn : Turn). writes t (stamps_at next.stamps t.0).written turn.kind) (r.turns ++ turn ∷ []) ≡ true
unfolding writes stamps_at unstamped
commit_written w r next ops copy turn h store t positive =
    elim (cases_Bool (names (map table_named ops) t.0)) as (λ _. list_any (λ (turn : Turn). writes t (stamps_at next.stamps t.0).written turn.kind) (r.turns ++ turn ∷ []) ≡ true) [
      | inl named ↦
          elim (cases_lt t.0 (length r.stamps)) as (λ _. list_any (λ (turn : Turn). writes t (stamps_at next.stamps t.0).written turn.kind) (r.turns ++ turn ∷ []) ≡ true) [
            | inl inside ↦
                let n : (stamps_at next.stamps t.0).written ≡ suc (number_of r) =
                ap (λ l. (stamps_at l t.0).written) h.stamps ∙ stamped-named ops (suc (number_of r)) r.stamps t.0 named inside in
                any_last _ r.turns turn (ap (λ kind. writes t (stamps_at next.stamps t.0).written kind) h.kind
                ∙ and_from _ _ (eq-eqb (suc (number_of r)) (stamps_at next.stamps t.0).written (sym n)) named)
            | inr past ↦
                let none : (stamps_at next.stamps t.0).written ≡ 0 =
                ap (λ (s : Stamps). s.written) (get_or_past next.stamps t.0 unstamped (omega (arith, ap length h.stamps, length-stamped ops (suc (number_of r)) r.stamps, past))) in
                absurd (omega (arith, none, positive))
          ]
      | inr unnamed ↦
          let n : (stamps_at next.stamps t.0).written ≡ (stamps_at r.stamps t.0).written =
          ap (λ l. (stamps_at l t.0).written) h.stamps ∙ ap (λ (s : Stamps). s.written) (stamped-other ops (suc (number_of r)) r.stamps t.0 unnamed) in
          any_written r.turns (turn ∷ []) t _ _ n (store.written t (omega (arith, n, positive)))
    ]

pub store-commit : (w : Workload) (r next : Run) (ops : List Act) (copy : PlainDb) (turn : Turn) → Commits r next ops copy turn
    → StoreHolds w r → StoreHolds w next
store-commit w r next ops copy turn h store =
    let stamps : length next.stamps ≡ length r.stamps = ap length h.stamps ∙ length-stamped ops (suc (number_of r)) r.stamps in
    let laid : (i : ℕ) → (stamps_at next.stamps i).laid ≡ (stamps_at r.stamps i).laid =
    λ i. ap (λ l. (stamps_at l i).laid) h.stamps ∙ stamped-laid ops (suc (number_of r)) r.stamps i in
    record {
      sizes = λ m. version_cases r next m (λ db. size db ≡ length next.stamps) h.older
          (λ within. store.sizes m ∙ sym stamps)
          (λ above. ap size h.current ∙ size-merged ops copy r.current ∙ size_current w r store ∙ sym stamps);
      unchanged = λ i m above. version_cases r next m (λ db. at db i ≡ at next.current i) h.older
          (λ within. commit_unchanged w r next ops copy turn h store i m above within)
          (λ beyond. refl);
      first = version-older r next 0 h.older (omega arith) ∙ store.first;
      written = rw h.turns (commit_written w r next ops copy turn h store);
      laid = rw h.turns (λ t positive. any_laid r.turns (turn ∷ []) t _ _ (laid t.0) (store.laid t (omega (arith, laid t.0, positive))));
    }
