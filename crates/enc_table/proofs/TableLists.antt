-- Lists of columns and of what operations do to them, read at an index.
use Rattle.std.proofs.Common.{◌≡◌, ◌≢◌, ℕ, suc, zero, ◌<◌, ◌≤◌, Bool, true, List, [], ◌∷◌, ◌++◌, length, map, get_or, take, set, replicate, refl, ap, ap₂, ◌∙◌, sym, subst, inl, inr, arith}
use Rattle.std.proofs.lemmas.List.{length-map, get_or-set_same, get_or-set_other}
use Rattle.std.proofs.lemmas.Bool.{cases_eq}
use Rattle.std.proofs.Math.Seq.{take-suc}
use Rattle.mope_base.specs.declared.body.Body.{Body}
use Rattle.tree_model.specs.declared.Place.{Place}
use Rattle.tree_model.specs.Columns.{Column, Operation, Add, empty_column}
use Rattle.path_code.specs.Sums.{Sum, sum_of}
use Rattle.table_model.specs.Steps.{adds, drops}
use Rattle.table_model.specs.Soundness.{column_at}
use Rattle.ope_tree.specs.Seen.{empty_seen}
use Rattle.enc_table.specs.declared.columns.Column.{Column as Stored}
use Rattle.enc_table.specs.Stored.{no_column, stored_at, trees_in}
use Rattle.enc_table.specs.Sums.{sums}
use Rattle.enc_table.specs.Fields.{place_at, body_of}

-- ---- stored columns

pub trees-at : (cs : List Stored) (i : ℕ) → column_at (trees_in cs) i ≡ (stored_at cs i).tree.column
unfolding column_at trees_in stored_at no_column empty_seen
trees-at [] i = refl
trees-at (c ∷ cs) zero = refl
trees-at (c ∷ cs) (suc i) = trees-at cs i

pub length-trees : (cs : List Stored) → length (trees_in cs) ≡ length cs
unfolding trees_in
length-trees cs = length-map cs (λ (c : Stored). c.tree.column)

pub stored-set_same : (cs : List Stored) (i : ℕ) (c : Stored) → i < length cs → stored_at (set cs i c) i ≡ c
unfolding stored_at
stored-set_same cs i c h = get_or-set_same cs i c no_column h

pub stored-set_other : (cs : List Stored) (i j : ℕ) (c : Stored) → j ≢ i → stored_at (set cs i c) j ≡ stored_at cs j
unfolding stored_at
stored-set_other cs i j c ne = get_or-set_other cs i j c no_column ne

pub stored-read : (cs : List Stored) (i : ℕ) (c : Stored) → i < length cs → c ≡ get_or cs i c → stored_at cs i ≡ c
unfolding stored_at
stored-read [] i c h e = absurd (omega (arith, h))
stored-read (x ∷ cs) zero c h e = sym e
stored-read (x ∷ cs) (suc i) c h e = stored-read cs i c (omega (arith, h)) e

-- what holds of each column below a place, and of the one put there
pub done-step : (P : ℕ → Stored → Type 0) (now : List Stored) (at : ℕ) (c : Stored) → at < length now → ((k : ℕ) → k < at → P k (stored_at now k)) → P at c → (k : ℕ) → k < suc at → P k (stored_at (set now at c) k)
done-step P now at c h done here k below =
    elim (cases_eq k at) [
      | inl e ↦ subst (λ (j : ℕ). P j (stored_at (set now at c) j)) (sym e) (subst (P at) (sym (stored-set_same now at c h)) here)
      | inr ne ↦ subst (P k) (sym (stored-set_other now at k c ne)) (done k (omega (arith, below, ne)))
    ]

pub rest-step : (first now : List Stored) (at : ℕ) (c : Stored) → ((k : ℕ) → at ≤ k → stored_at now k ≡ stored_at first k) → (k : ℕ) → suc at ≤ k → stored_at (set now at c) k ≡ stored_at first k
rest-step first now at c rest k above =
    let ne : k ≢ at = omega (arith, above) in
    stored-set_other now at k c ne ∙ rest k (omega (arith, above))

-- ---- lists of operations, and of what they do to codes

abbrev pub no_sum : Sum
no_sum = record { moved = []; dropped = []; added = [] }

pub sums-at : (same_time : Bool) (steps : List (List (Operation Body))) (cs : List (Column Body)) (i : ℕ) → i < length steps → i < length cs → get_or (sums same_time steps cs) i no_sum ≡ sum_of same_time (get_or steps i []) (column_at cs i)
unfolding sums column_at
sums-at same_time [] cs i h k = absurd (omega (arith, h))
sums-at same_time (operations ∷ more) [] i h k = absurd (omega (arith, k))
sums-at same_time (operations ∷ more) (c ∷ cs) zero h k = refl
sums-at same_time (operations ∷ more) (c ∷ cs) (suc i) h k = sums-at same_time more cs i (omega (arith, h)) (omega (arith, k))

pub length-sums : (same_time : Bool) (steps : List (List (Operation Body))) (cs : List (Column Body)) → length steps ≡ length cs → length (sums same_time steps cs) ≡ length cs
unfolding sums
length-sums same_time [] cs e = e
length-sums same_time (operations ∷ more) [] e = refl
length-sums same_time (operations ∷ more) (c ∷ cs) e = ap suc (length-sums same_time more cs (omega (arith, e)))

pub adds-at : (places : List Place) (bodies : List Body) (i : ℕ) → i < length places → i < length bodies → get_or (adds places bodies) i [] ≡ Add (place_at places i) (body_of bodies i) ∷ []
unfolding adds
adds-at [] bodies i h k = absurd (omega (arith, h))
adds-at (p ∷ places) [] i h k = absurd (omega (arith, k))
adds-at (p ∷ places) (b ∷ bodies) zero h k = refl
adds-at (p ∷ places) (b ∷ bodies) (suc i) h k = adds-at places bodies i (omega (arith, h)) (omega (arith, k))

pub length-adds : (places : List Place) (bodies : List Body) → length bodies ≡ length places → length (adds places bodies) ≡ length places
unfolding adds
length-adds [] bodies e = refl
length-adds (p ∷ places) [] e = absurd (omega (arith, e))
length-adds (p ∷ places) (b ∷ bodies) e = ap suc (length-adds places bodies (omega (arith, e)))

pub list-read : {A : Type 0} (xs : List A) (i : ℕ) (x d : A) → i < length xs → x ≡ get_or xs i x → get_or xs i d ≡ x
list-read [] i x d h e = absurd (omega (arith, h))
list-read (y ∷ xs) zero x d h e = sym e
list-read (y ∷ xs) (suc i) x d h e = list-read xs i x d (omega (arith, h)) e
