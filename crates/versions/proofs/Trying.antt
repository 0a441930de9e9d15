-- What the tests look at before they ask for a version.
use Rattle.std.proofs.Common.{◌≡◌, ℕ, suc, zero, ◌<◌, ◌≤◌, ◌^◌, true, false, inl, inr, List, [], ◌∷◌, length, Option, Some, None, sym, subst, arith}
use Rattle.std.specs.List.{slice_get}
use Rattle.std.specs.Option.{MatchOption, is_some}
use Rattle.mope_base.specs.declared.body.Body.{Body}
use Rattle.tree_model.specs.declared.Place.{Place}
use Rattle.tree_model.specs.Trees.{size, IsPlaceOf}
use Rattle.tree_model.specs.Places.{holds, IsBelowAll, IsIncreasing}
use Rattle.tree_model.specs.Columns.{Column}
use Rattle.tree_model.proofs.Ordered.{holds-cons_eq}
use Rattle.table_model.proofs.Rows.{held-cons}
use Rattle.table_model.specs.Soundness.{column_at, kept_numbers}
use Rattle.table_model.specs.Operations.{shelf_at}
use Rattle.table_model.specs.Fitting.{AllAmong, AllPlaced, AllFitAt, OpFitsAt}
use Rattle.enc_table.specs.Seen.{Seen, IsFull}
use Rattle.versions.specs.declared.op.Op.{Op}
use Rattle.versions.specs.declared.op.Op.TheVariants.{Insert, Delete}
use Rattle.versions.specs.Databases.{Database}
use Rattle.versions.specs.Operations.{rank_op, rank_ops, HasNumber, AllHaveNumbers, OpsFit}

pub has-room : (t : Seen) → (IsFull t → ⊥) → length t.shelf.kept < t.limit
has-room t h = let fewer : t.limit ≤ length t.shelf.kept → ⊥ = λ e. h (inl e) in omega arith

pub has-number : (t : Seen) → (IsFull t → ⊥) → t.shelf.next < 2 ^ 63
has-number t h = let low : 2 ^ 63 ≤ t.shelf.next → ⊥ = λ e. h (inr e) in omega arith

one-placed : (cs : List (Column Body)) (p : Place) → length cs ≡ 1 → IsPlaceOf (size (column_at cs 0).tree) p → AllPlaced cs (p ∷ [])
unfolding AllPlaced column_at
one-placed [] p one h = absurd (omega (arith, one))
one-placed (c ∷ []) p one h = (h, tt)
one-placed (c ∷ d ∷ cs) p one h = absurd (omega (arith, one))

pub row-fits : (d : Database) (ops : List Op) (place : Place) (body : Body) → ops ≡ Insert (record { 0 = 0 }) (place ∷ []) (body ∷ []) ∷ []
    → 0 < length d.shelves → length (shelf_at d.shelves 0).columns ≡ 1 → IsPlaceOf (size (column_at (shelf_at d.shelves 0).columns 0).tree) place → length (shelf_at d.shelves 0).kept < d.limit → (shelf_at d.shelves 0).next < 2 ^ 63 → OpsFit (rank_ops ops) d
unfolding rank_ops rank_op AllFitAt OpFitsAt AllHaveNumbers HasNumber
row-fits d ops place body is there column placed room row =
    subst (λ (l : List Op). OpsFit (rank_ops l) d) (sym is)
    (record { fit = (record { there = there; placed = one-placed (shelf_at d.shelves 0).columns place column placed; wide = sym column; room = room }, tt); numbered = (row, tt) })

pub got-held : (xs : List ℕ) (i x : ℕ) → slice_get xs i ≡ Some x → holds x xs ≡ true
got-held [] i x h = absurd (cc h)
got-held (y ∷ xs) zero x h = let e : y ≡ x = cc h in holds-cons_eq x y xs e
got-held (y ∷ xs) (suc i) x h = held-cons x y xs (got-held xs i x h)

pub some-held : (xs : List ℕ) (x : ℕ) (found : Option ℕ) → MatchOption found (holds x xs ≡ false) (λ place. slice_get xs place ≡ Some x) → is_some found ≡ true → holds x xs ≡ true
some-held xs x None found h = absurd (cc h)
some-held xs x (Some place) found h = got-held xs place x found

rises : IsIncreasing (1 ∷ 2 ∷ 3 ∷ [])
unfolding IsIncreasing IsBelowAll
rises = ((omega arith, (omega arith, tt)), ((omega arith, tt), (tt, tt)))

pub rows-fit : (d : Database) (ops : List Op) → ops ≡ Delete (record { 0 = 0 }) (1 ∷ 2 ∷ 3 ∷ []) ∷ [] → 0 < length d.shelves → AllAmong (kept_numbers (shelf_at d.shelves 0).kept) (1 ∷ 2 ∷ 3 ∷ []) → OpsFit (rank_ops ops) d
unfolding rank_ops rank_op AllFitAt OpFitsAt AllHaveNumbers HasNumber
rows-fit d ops is there live =
    subst (λ (l : List Op). OpsFit (rank_ops l) d) (sym is)
    (record { fit = (record { there = there; some = omega arith; rise = rises; live = live }, tt); numbered = (tt, tt) })
