-- What a list of entries takes of the list of codes beside it, and which of them have rows.
use Rattle.std.proofs.Common.{◌≡◌, ℕ, suc, zero, ◌<◌, ◌≤◌, ltb, eqb, List, [], ◌∷◌, map, filter, refl, ap, ◌∙◌, sym, inl, inr, arith, lt-ltb, le-ltb, eq-eqb, ne_eqb}
use Rattle.std.specs.List.{zip}
use Rattle.std.proofs.lemmas.Bool.{cases_lt}
use Rattle.mope_base.specs.declared.body.Body.{Body}
use Rattle.tree_model.specs.Items.{Item, live_items}
use Rattle.tree_model.proofs.LiveItems.{live_items-yes, live_items-no, live_items-nil}
use Rattle.code_changes.specs.Changes.{with_rows, without_rows}
use Rattle.ope_tree.specs.declared.nodes.Entry.{Entry}
use Rattle.ope_tree.specs.Nodes.{item_of, items_of_entries}

abbrev pub counts_at : List Entry → List ℕ
counts_at entries = map (λ entry. entry.count) entries

-- ---- one entry more

with-no : (n : ℕ) (counts : List ℕ) (x : ℕ) (xs : List ℕ) → n ≤ 0 → with_rows (n ∷ counts) (x ∷ xs) ≡ with_rows counts xs
unfolding with_rows
with-no zero counts x xs h = refl
with-no (suc n) counts x xs h = absurd (omega arith)

with-yes : (n : ℕ) (counts : List ℕ) (x : ℕ) (xs : List ℕ) → 0 < n → with_rows (n ∷ counts) (x ∷ xs) ≡ x ∷ with_rows counts xs
unfolding with_rows
with-yes zero counts x xs h = absurd (omega arith)
with-yes (suc n) counts x xs h = refl

without-no : (n : ℕ) (counts : List ℕ) (x : ℕ) (xs : List ℕ) → 0 < n → without_rows (n ∷ counts) (x ∷ xs) ≡ without_rows counts xs
unfolding without_rows
without-no zero counts x xs h = absurd (omega arith)
without-no (suc n) counts x xs h = refl

without-yes : (n : ℕ) (counts : List ℕ) (x : ℕ) (xs : List ℕ) → n ≤ 0 → without_rows (n ∷ counts) (x ∷ xs) ≡ x ∷ without_rows counts xs
unfolding without_rows
without-yes zero counts x xs h = refl
without-yes (suc n) counts x xs h = absurd (omega arith)

-- ---- as chains

pub with-chain : (entries : List Entry) (codes : List ℕ) → map (λ p. p.1) (filter (λ (p : Entry × ℕ). ltb 0 p.0.count) (zip entries codes)) ≡ with_rows (counts_at entries) codes
unfolding with_rows
with-chain [] codes = refl
with-chain (e ∷ entries) [] = refl
with-chain (e ∷ entries) (x ∷ codes) =
    elim (cases_lt 0 e.count) [
      | inl some ↦ rw (lt-ltb 0 e.count some) (ap (λ (xs : List ℕ). x ∷ xs) (with-chain entries codes) ∙ sym (with-yes e.count (counts_at entries) x codes some))
      | inr none ↦ rw (le-ltb 0 e.count none) (with-chain entries codes ∙ sym (with-no e.count (counts_at entries) x codes none))
    ]

pub without-chain : (entries : List Entry) (codes : List ℕ) → map (λ p. p.1) (filter (λ (p : Entry × ℕ). eqb p.0.count 0) (zip entries codes)) ≡ without_rows (counts_at entries) codes
unfolding without_rows
without-chain [] codes = refl
without-chain (e ∷ entries) [] = refl
without-chain (e ∷ entries) (x ∷ codes) =
    elim (cases_lt 0 e.count) [
      | inl some ↦ rw (ne_eqb e.count 0 (λ h. omega arith)) (without-chain entries codes ∙ sym (without-no e.count (counts_at entries) x codes some))
      | inr none ↦ rw (eq-eqb e.count 0 (omega arith)) (ap (λ (xs : List ℕ). x ∷ xs) (without-chain entries codes) ∙ sym (without-yes e.count (counts_at entries) x codes none))
    ]

pub live-chain : (entries : List Entry) → items_of_entries (filter (λ (e : Entry). ltb 0 e.count) entries) ≡ live_items (items_of_entries entries)
unfolding items_of_entries item_of
live-chain [] = sym live_items-nil
live-chain (e ∷ entries) =
    elim (cases_lt 0 e.count) [
      | inl some ↦ rw (lt-ltb 0 e.count some) (ap (λ (xs : List (Item Body)). item_of e ∷ xs) (live-chain entries) ∙ sym (live_items-yes (item_of e) (items_of_entries entries) some))
      | inr none ↦ rw (le-ltb 0 e.count none) (live-chain entries ∙ sym (live_items-no (item_of e) (items_of_entries entries) none))
    ]
