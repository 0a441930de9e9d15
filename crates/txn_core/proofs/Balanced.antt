-- Tables by rank that differ by the balance of their trees alone: operations do the same to them.
use Rattle.std.proofs.Common.{◌≡◌, ℕ, suc, zero, ◌<◌, Bool, true, List, [], ◌∷◌, ◌++◌, length, map, get_or, drop, refl, ap, ap₂, ◌∙◌, sym, arith, subst}
use Rattle.tree_model.specs.declared.Place.{Place}
use Rattle.tree_model.specs.Trees.{size}
use Rattle.tree_model.specs.Places.{holds}
use Rattle.tree_model.specs.Items.{Item}
use Rattle.tree_model.specs.Columns.{Column, items_of, Operation, Lay, apply, apply_all}
use Rattle.tree_model.specs.ColumnLaws.{SuitsMode}
use Rattle.tree_model.specs.Sums.{origins}
use Rattle.tree_model.specs.Carried.{carried}
use Rattle.tree_model.specs.Ranks.{rank_after, stays_after}
use Rattle.tree_model.proofs.Kept.{items-lay}
use Rattle.tree_model.proofs.Ordered.{holds-cons_eq}
use Rattle.tree_model.proofs.RankLaws.{carried_of_nothing, rank_after_operation}
use Rattle.table_model.specs.Stores.{Kept, Shelf}
use Rattle.table_model.specs.Steps.{operate, follow, kept_after, operated, adds, drops, only, rank_in}
use Rattle.table_model.specs.Changes.{ranks_of, kept_without, with_kept, insert_row, shelf_without, delete_row, delete_rows, lay_column}
use Rattle.table_model.specs.Soundness.{column_at, ranks_at}
use Rattle.table_model.specs.ShelfSoundness.{SoundShelf}
use Rattle.table_model.proofs.Lists.{map-same}
use Rattle.table_model.proofs.Rows.{held-cons}
use Rattle.table_model.proofs.SameTables.{operate-same}
use Rattle.table_model.proofs.ShelfSoundOps.{operations_keep_shelf}
use Rattle.table_model.proofs.Spread.{shelf-within}
use Rattle.txn_core.specs.Since.{SameShelf}
use Rattle.txn_core.proofs.Traced.{origins-same}

-- ---- to be the same is an equivalence

pub shelf-itself : {B : Type 0} (s : Shelf B) → SameShelf B s s
shelf-itself s = record { kept = refl; next = refl; items = refl }

pub shelf-then : {B : Type 0} (s u w : Shelf B) → SameShelf B s u → SameShelf B u w → SameShelf B s w
shelf-then s u w first second = record { kept = first.kept ∙ second.kept; next = first.next ∙ second.next; items = first.items ∙ second.items }

-- ---- columns

same_first : {B : Type 0} (c d : Column B) (cs ds : List (Column B)) → map items_of (c ∷ cs) ≡ map items_of (d ∷ ds) → items_of c ≡ items_of d
same_first c d cs ds e = ap (λ (xs : List (List (Item _))). get_or xs 0 []) e

same_rest : {B : Type 0} (c d : Column B) (cs ds : List (Column B)) → map items_of (c ∷ cs) ≡ map items_of (d ∷ ds) → map items_of cs ≡ map items_of ds
same_rest c d cs ds e = ap (λ (xs : List (List (Item _))). drop 1 xs) e

same_none : {A B : Type 0} (d : Column B) (ds : List (Column B)) → map (items_of {B = B}) [] ≡ map items_of (d ∷ ds) → A
same_none d ds e = absurd (let n : 0 ≡ suc (length (map items_of ds)) = ap length e in omega (arith, n))

follow-same : {B : Type 0} (same_time : Bool) (steps : List (List (Operation B))) (cs ds : List (Column B)) (ranks : List ℕ) → ((i : ℕ) → i < length cs → SuitsMode same_time (column_at cs i)) → ((i : ℕ) → i < length ds → SuitsMode same_time (column_at ds i)) → map items_of cs ≡ map items_of ds
    → follow same_time steps cs ranks ≡ follow same_time steps ds ranks
unfolding follow column_at
follow-same same_time [] cs ds ranks suits_c suits_d e = refl
follow-same same_time (operations ∷ more) [] [] ranks suits_c suits_d e = refl
follow-same same_time (operations ∷ more) [] (d ∷ ds) ranks suits_c suits_d e = same_none d ds e
follow-same same_time (operations ∷ more) (c ∷ cs) [] ranks suits_c suits_d e = same_none c cs (sym e)
follow-same same_time (operations ∷ more) (c ∷ cs) (d ∷ ds) [] suits_c suits_d e = refl
follow-same same_time (operations ∷ more) (c ∷ cs) (d ∷ ds) (rank ∷ ranks) suits_c suits_d e =
    ap₂ (λ (first : ℕ) (rest : List ℕ). first ∷ rest)
    (ap (λ (from : List _). carried from rank) (origins-same same_time operations c d (suits_c 0 (omega arith)) (suits_d 0 (omega arith)) (same_first c d cs ds e)))
    (follow-same same_time more cs ds ranks (λ i h. suits_c (suc i) (omega (arith, h))) (λ i h. suits_d (suc i) (omega (arith, h))) (same_rest c d cs ds e))

-- ---- tables

-- each column is as the mode leaves it
AllSuit : {B : Type 0} → Bool → Shelf B → Type 0
AllSuit same_time s = (i : ℕ) → i < length s.columns → SuitsMode same_time (column_at s.columns i)

suit : {B : Type 0} (same_time : Bool) (limit : ℕ) (s : Shelf B) → SoundShelf B same_time limit s → AllSuit same_time s
unfolding AllSuit
suit same_time limit s sound i h = (sound.columns i h).suits

operated-same : {B : Type 0} (same_time : Bool) (steps : List (List (Operation B))) (s u : Shelf B) → AllSuit same_time s → AllSuit same_time u → SameShelf B s u → SameShelf B (operated same_time steps s) (operated same_time steps u)
unfolding AllSuit operated kept_after
operated-same {B} same_time steps s u suit_s suit_u same =
    record {
      kept = map-same (kept_after same_time steps s.columns) (kept_after same_time steps u.columns) s.kept
          (λ (row : Kept B). ap (λ (ranks : List ℕ). let r : Kept B = record { number = row.number; bodies = row.bodies; ranks = ranks } in r) (follow-same same_time steps s.columns u.columns row.ranks suit_s suit_u same.items))
          ∙ ap (map (kept_after same_time steps u.columns)) same.kept;
      next = same.next;
      items = operate-same same_time steps s.columns u.columns suit_s suit_u same.items;
    }

with_kept-same : {B : Type 0} (ranks : List ℕ) (bodies : List B) (s u : Shelf B) → SameShelf B s u → SameShelf B (with_kept ranks bodies s) (with_kept ranks bodies u)
unfolding with_kept
with_kept-same {B} ranks bodies s u same =
    record {
      kept = ap₂ (λ (kept : List (Kept B)) (next : ℕ). let r : Kept B = record { number = next; bodies = bodies; ranks = ranks } in kept ++ r ∷ []) same.kept same.next;
      next = ap suc same.next;
      items = same.items;
    }

pub insert-same : {B : Type 0} (same_time : Bool) (limit : ℕ) (places : List Place) (bodies : List B) (s u : Shelf B) → SoundShelf B same_time limit s → SoundShelf B same_time limit u → SameShelf B s u → SameShelf B (insert_row same_time places bodies s) (insert_row same_time places bodies u)
unfolding insert_row
insert-same same_time limit places bodies s u sound_s sound_u same =
    with_kept-same (map rank_in places) bodies (operated same_time (adds places bodies) s) (operated same_time (adds places bodies) u)
    (operated-same same_time (adds places bodies) s u (suit same_time limit s sound_s) (suit same_time limit u sound_u) same)

without-same : {B : Type 0} (number : ℕ) (s u : Shelf B) → SameShelf B s u → SameShelf B (shelf_without number s) (shelf_without number u)
unfolding shelf_without
without-same number s u same = record { kept = ap (kept_without number) same.kept; next = same.next; items = same.items }

without-suit : {B : Type 0} (same_time : Bool) (number : ℕ) (s : Shelf B) → AllSuit same_time s → AllSuit same_time (shelf_without number s)
unfolding AllSuit shelf_without
without-suit same_time number s suits = suits

delete-same : {B : Type 0} (same_time : Bool) (number : ℕ) (s u : Shelf B) → AllSuit same_time s → AllSuit same_time u → SameShelf B s u → SameShelf B (delete_row same_time number s) (delete_row same_time number u)
unfolding delete_row
delete-same {B} same_time number s u suit_s suit_u same =
    subst (λ (kept : List (Kept B)). SameShelf B (operated same_time (drops (ranks_of number s.kept)) (shelf_without number s)) (operated same_time (drops (ranks_of number kept)) (shelf_without number u))) same.kept
    (operated-same same_time (drops (ranks_of number s.kept)) (shelf_without number s) (shelf_without number u) (without-suit same_time number s suit_s) (without-suit same_time number u suit_u) (without-same number s u same))

pub deletes-same : {B : Type 0} (same_time : Bool) (limit : ℕ) (numbers : List ℕ) (s u : Shelf B) → SoundShelf B same_time limit s → SoundShelf B same_time limit u → SameShelf B s u → SameShelf B (delete_rows same_time numbers s) (delete_rows same_time numbers u)
unfolding delete_rows
deletes-same same_time limit [] s u sound_s sound_u same = same
deletes-same same_time limit (number ∷ numbers) s u sound_s sound_u same =
    deletes-same same_time limit numbers (delete_row same_time number s) (delete_row same_time number u)
    ((operations_keep_shelf same_time limit s sound_s).deletes number) ((operations_keep_shelf same_time limit u sound_u).deletes number)
    (delete-same same_time number s u (suit same_time limit s sound_s) (suit same_time limit u sound_u) same)

-- ---- an install leaves the table the same

stays-laid : {B : Type 0} (same_time : Bool) (c : Column B) (rank : ℕ) → rank < size c.tree → carried (origins same_time (Lay ∷ []) c) rank ≡ rank
unfolding stays_after rank_after
stays-laid same_time c rank h = (rank_after_operation same_time Lay c rank h).carries refl

follow-laid : {B : Type 0} (same_time : Bool) (column : ℕ) (cs : List (Column B)) (ranks : List ℕ) → ((i : ℕ) → i < length cs → get_or ranks i 0 < size (column_at cs i).tree) → follow same_time (only column (Lay ∷ [])) cs ranks ≡ ranks
unfolding follow only column_at
follow-laid same_time zero [] ranks within = refl
follow-laid same_time (suc column) [] ranks within = refl
follow-laid same_time zero (c ∷ cs) [] within = refl
follow-laid same_time (suc column) (c ∷ cs) [] within = refl
follow-laid same_time zero (c ∷ cs) (rank ∷ ranks) within = ap (λ (first : ℕ). first ∷ ranks) (stays-laid same_time c rank (within 0 (omega arith)))
follow-laid same_time (suc column) (c ∷ cs) (rank ∷ ranks) within =
    ap₂ (λ (first : ℕ) (rest : List ℕ). first ∷ rest) ((carried_of_nothing same_time c rank (within 0 (omega arith))).carries refl)
    (follow-laid same_time column cs ranks (λ i h. within (suc i) (omega (arith, h))))

items-laid : {B : Type 0} (same_time : Bool) (column : ℕ) (cs : List (Column B)) → map items_of cs ≡ map items_of (operate same_time (only column (Lay ∷ [])) cs)
unfolding operate only apply apply_all
items-laid same_time zero [] = refl
items-laid same_time (suc column) [] = refl
items-laid same_time zero (c ∷ cs) = ap (λ (items : List (Item _)). items ∷ map items_of cs) (sym (items-lay c))
items-laid same_time (suc column) (c ∷ cs) = ap (λ (rest : List (List (Item _))). items_of c ∷ rest) (items-laid same_time column cs)

kept-laid : {B : Type 0} (same_time : Bool) (column : ℕ) (cs : List (Column B)) (kept : List (Kept B)) → ((i rank : ℕ) → i < length cs → holds rank (ranks_at i kept) ≡ true → rank < size (column_at cs i).tree) → map (kept_after same_time (only column (Lay ∷ [])) cs) kept ≡ kept
unfolding kept_after ranks_at
kept-laid same_time column cs [] within = refl
kept-laid {B} same_time column cs (row ∷ kept) within =
    ap₂ (λ (ranks : List ℕ) (rest : List (Kept B)). let r : Kept B = record { number = row.number; bodies = row.bodies; ranks = ranks } in r ∷ rest)
    (follow-laid same_time column cs row.ranks (λ i h. within i (get_or row.ranks i 0) h (holds-cons_eq (get_or row.ranks i 0) (get_or row.ranks i 0) (ranks_at i kept) refl)))
    (kept-laid same_time column cs kept (λ i rank h held. within i rank h (held-cons rank (get_or row.ranks i 0) (ranks_at i kept) held)))

pub lay-same : {B : Type 0} (same_time : Bool) (limit column : ℕ) (s : Shelf B) → SoundShelf B same_time limit s → SameShelf B s (lay_column same_time column s)
unfolding lay_column operated
lay-same same_time limit column s sound =
    record {
      kept = sym (kept-laid same_time column s.columns s.kept (shelf-within same_time limit s sound));
      next = refl;
      items = items-laid same_time column s.columns;
    }
