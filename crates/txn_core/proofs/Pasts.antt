-- Versions that were the current one stay so after further turns.
use Rattle.std.proofs.Common.{◌≡◌, ℕ, Bool, true, false, not, inl, inr, ◌+◌, ◌^◌, ◌<◌, ◌≤◌, List, [], ◌∷◌, ◌++◌, length, take, refl, ap, ap₂, ◌∙◌, sym, arith, subst}
use Rattle.std.proofs.lemmas.Bool.{cases_lt, false≢true}
use Rattle.std.proofs.lemmas.List.{length-append, take-append-le}
use Rattle.std.proofs.Math.Seq.{take-append_seam}
use Rattle.mope_base.specs.declared.body.Body.{Body}
use Rattle.tree_model.specs.declared.Place.TheVariants.{Gap}
use Rattle.tree_model.specs.Trees.{size, IsPlaceOf}
use Rattle.tree_model.specs.Columns.{Column}
use Rattle.table_model.specs.Stores.{Shelf}
use Rattle.table_model.specs.Soundness.{column_at}
use Rattle.table_model.specs.Operations.{InsertAt, shelf_at}
use Rattle.table_model.specs.Fitting.{AllPlaced, OpFitsAt, AllFitAt}
use Rattle.enc_table.specs.Seen.{Seen, IsFull}
use Rattle.versions.specs.declared.turn.Turn.{Turn}
use Rattle.versions.specs.Databases.{Database, table_at}
use Rattle.versions.specs.Operations.{HasNumber, AllHaveNumbers, OpsFit, HasColumn}
use Rattle.versions.specs.Turns.{replay, Replays}
use Rattle.txn_core.specs.Courses.{Course, IsPast}

-- the current version, after one turn more
pub past_now : (s later : Course) (turn : Turn) → Replays s.first s.turns s.current → later.first ≡ s.first → later.turns ≡ s.turns ++ turn ∷ [] → IsPast later s.current
past_now s later turn replays first turns =
    record {
      taken = length s.turns;
      within = let n : length later.turns ≡ length s.turns + 1 = ap length turns ∙ length-append s.turns (turn ∷ []) in omega (arith, n);
      leads = replays.leads ∙ sym (ap₂ (λ (ts : List Turn) (d : Database). replay ts d) (ap (take (length s.turns)) turns ∙ take-append_seam s.turns (turn ∷ [])) first);
    }

-- one that was so before it
pub past_later : (s later : Course) (turn : Turn) (base : Database) → later.first ≡ s.first → later.turns ≡ s.turns ++ turn ∷ [] → IsPast s base → IsPast later base
past_later s later turn base first turns past =
    record {
      taken = past.taken;
      within = let n : length later.turns ≡ length s.turns + 1 = ap length turns ∙ length-append s.turns (turn ∷ []) in omega (arith, n, past.within);
      leads = past.leads ∙ sym (ap₂ (λ (ts : List Turn) (d : Database). replay ts d) (ap (take past.taken) turns ∙ take-append-le past.taken s.turns (turn ∷ []) past.within) first);
    }

-- ---- rows and columns of the first table, for tests by hand

placed_one : (cs : List (Column Body)) (rank : ℕ) → length cs ≡ 1 → rank ≤ size (column_at cs 0).tree → AllPlaced cs (Gap rank ∷ [])
unfolding AllPlaced column_at IsPlaceOf
placed_one [] rank one h = absurd (omega (arith, one))
placed_one (c ∷ []) rank one h = (h, tt)
placed_one (c ∷ d ∷ cs) rank one h = absurd (omega (arith, one))

-- a value after so many others fits a table of one column that has as many items and room
pub row_fits : (t : Seen) (rank : ℕ) → length t.shelf.columns ≡ 1 → rank ≤ size (column_at t.shelf.columns 0).tree → length t.shelf.kept < t.limit → t.shelf.next < 2 ^ 63
    → (d : Database) → t ≡ table_at d 0 → 0 < length d.shelves → (body : Body) → OpsFit (InsertAt 0 (Gap rank ∷ []) (body ∷ []) ∷ []) d
unfolding table_at AllFitAt OpFitsAt AllHaveNumbers HasNumber
row_fits t rank one within room number d is there body =
    let shelf_is : t.shelf ≡ shelf_at d.shelves 0 = ap (λ (s : Seen). s.shelf) is in
    let limit_is : t.limit ≡ d.limit = ap (λ (s : Seen). s.limit) is in
    let one_is : length (shelf_at d.shelves 0).columns ≡ 1 = subst (λ (s : Shelf Body). length s.columns ≡ 1) shelf_is one in
    let within_is = subst (λ (s : Shelf Body). rank ≤ size (column_at s.columns 0).tree) shelf_is within in
    let room_is = subst (λ (s : Shelf Body). length s.kept < t.limit) shelf_is room in
    record {
      fit = (record { there = there; placed = placed_one (shelf_at d.shelves 0).columns rank one_is within_is; wide = sym one_is; room = omega (arith, room_is, limit_is) }, tt);
      numbered = (subst (λ (s : Shelf Body). s.next < 2 ^ 63) shelf_is number, tt);
    }

pub no_of : (b : Bool) → not b ≡ true → b ≡ false
no_of true h = absurd (false≢true h)
no_of false h = refl

pub room_of : (t : Seen) (b : Bool) → (IsFull t → b ≡ true) → b ≡ false → (length t.shelf.kept < t.limit) × (t.shelf.next < 2 ^ 63)
room_of t b full free = (
  elim (cases_lt (length t.shelf.kept) t.limit) [ inl h ↦ h | inr h ↦ absurd (false≢true (sym free ∙ full (inl h))) ],
  elim (cases_lt t.shelf.next (2 ^ 63)) [ inl h ↦ h | inr h ↦ absurd (false≢true (sym free ∙ full (inr h))) ],
)

pub column_of : (t : Seen) → 0 < length t.shelf.columns → (d : Database) → t ≡ table_at d 0 → 0 < length d.shelves → HasColumn 0 0 d
unfolding table_at
column_of t wide d is there = record { table_there = there; column_there = subst (λ (s : Shelf Body). 0 < length s.columns) (ap (λ (s : Seen). s.shelf) is) wide }
