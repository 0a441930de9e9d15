-- Operations that fit some tables fit others that are the same, but for balance, where the operations touch them.
use Rattle.std.proofs.Common.{◌≡◌, ℕ, suc, zero, ◌<◌, ◌^◌, Bool, true, List, [], ◌∷◌, length, map, get_or, drop, refl, ap, ◌∙◌, sym, arith, subst, inl, inr, ◌≢◌}
use Rattle.std.proofs.lemmas.Bool.{cases_eq}
use Rattle.std.proofs.lemmas.List.{length-map}
use Rattle.mope_base.specs.declared.numbers.TableNo.{TableNo}
use Rattle.tree_model.specs.declared.Place.{Place}
use Rattle.tree_model.specs.Trees.{size, IsPlaceOf}
use Rattle.tree_model.specs.Items.{Item, change_at}
use Rattle.tree_model.specs.Columns.{Column, items_of}
use Rattle.tree_model.proofs.Changes.{length-change_at}
use Rattle.table_model.specs.Stores.{Kept, Shelf}
use Rattle.table_model.specs.Changes.{insert_row, delete_rows}
use Rattle.table_model.specs.Soundness.{kept_numbers}
use Rattle.table_model.specs.Operations.{RankOp, InsertAt, DeleteAt, rank_op_on, shelf_at}
use Rattle.table_model.specs.Fitting.{AllAmong, AllPlaced, OpFitsAt, AllFitAt}
use Rattle.table_model.specs.ShelfSoundness.{SoundShelf, AllSoundShelves}
use Rattle.table_model.proofs.Following.{length-items}
use Rattle.table_model.proofs.ShelfTables.{op-shelf}
use Rattle.versions.specs.Newer.{names}
use Rattle.versions.specs.Operations.{op_table, HasNumber, AllHaveNumbers}
use Rattle.txn_core.specs.Courses.{AllTouched}
use Rattle.txn_core.specs.Since.{SameShelf}
use Rattle.txn_core.proofs.Balanced.{insert-same, deletes-same}

-- ---- one table of several

pub sound-at : {B : Type 0} (same_time : Bool) (limit : ℕ) (shelves : List (Shelf B)) (table : ℕ) → AllSoundShelves same_time limit shelves → table < length shelves → SoundShelf B same_time limit (shelf_at shelves table)
unfolding AllSoundShelves shelf_at
sound-at same_time limit [] table sound h = absurd (omega (arith, h))
sound-at same_time limit (s ∷ shelves) zero sound h = sound.0
sound-at same_time limit (s ∷ shelves) (suc table) sound h = sound-at same_time limit shelves table sound.1 (omega (arith, h))

changed-here : {B : Type 0} (f : Shelf B → Shelf B) (shelves : List (Shelf B)) (table : ℕ) → table < length shelves → shelf_at (change_at f shelves table) table ≡ f (shelf_at shelves table)
unfolding shelf_at change_at
changed-here f [] table h = absurd (omega (arith, h))
changed-here f (s ∷ shelves) zero h = refl
changed-here f (s ∷ shelves) (suc table) h = changed-here f shelves table (omega (arith, h))

pub changed-other : {B : Type 0} (f : Shelf B → Shelf B) (shelves : List (Shelf B)) (t table : ℕ) → t ≢ table → shelf_at (change_at f shelves t) table ≡ shelf_at shelves table
unfolding shelf_at change_at
changed-other f [] t table other = refl
changed-other f (s ∷ shelves) zero zero other = absurd (other refl)
changed-other f (s ∷ shelves) zero (suc table) other = refl
changed-other f (s ∷ shelves) (suc t) zero other = refl
changed-other f (s ∷ shelves) (suc t) (suc table) other = changed-other f shelves t table (λ e. other (ap suc e))

-- ---- tables that agree

-- as many tables, and each of those touched is the same but for balance
pub record Agree (B : Type 0) (touched : List TableNo) (shelves others : List (Shelf B)) : Type 0 where
  pub many : length shelves ≡ length others
  pub same : (table : ℕ) → names touched table ≡ true → SameShelf B (shelf_at shelves table) (shelf_at others table)

changed-agree : {B : Type 0} (touched : List TableNo) (f : Shelf B → Shelf B) (shelves others : List (Shelf B)) (t : ℕ) → t < length shelves → SameShelf B (f (shelf_at shelves t)) (f (shelf_at others t)) → Agree B touched shelves others → Agree B touched (change_at f shelves t) (change_at f others t)
changed-agree {B} touched f shelves others t h here agree =
    record {
      many = length-change_at f shelves t ∙ agree.many ∙ sym (length-change_at f others t);
      same = λ table named. elim (cases_eq t table) [
        | inl e ↦
            subst (λ (k : ℕ). SameShelf B (shelf_at (change_at f shelves t) k) (shelf_at (change_at f others t) k)) e
            (subst (λ (s : Shelf B). SameShelf B s (shelf_at (change_at f others t) t)) (sym (changed-here f shelves t h))
            (subst (λ (u : Shelf B). SameShelf B (f (shelf_at shelves t)) u) (sym (changed-here f others t (omega (arith, h, agree.many)))) here))
        | inr other ↦
            subst (λ (s : Shelf B). SameShelf B s (shelf_at (change_at f others t) table)) (sym (changed-other f shelves t table other))
            (subst (λ (u : Shelf B). SameShelf B (shelf_at shelves table) u) (sym (changed-other f others t table other)) (agree.same table named))
      ];
    }

op-agree : {B : Type 0} (touched : List TableNo) (same_time : Bool) (limit : ℕ) (op : RankOp B) (shelves others : List (Shelf B)) → AllSoundShelves same_time limit shelves → AllSoundShelves same_time limit others → OpFitsAt limit op shelves → names touched (op_table op) ≡ true → Agree B touched shelves others
    → Agree B touched (rank_op_on same_time op shelves) (rank_op_on same_time op others)
unfolding rank_op_on OpFitsAt op_table
op-agree touched same_time limit (InsertAt table places bodies) shelves others sound_s sound_u fits named agree =
    changed-agree touched (insert_row same_time places bodies) shelves others table fits.there
    (insert-same same_time limit places bodies (shelf_at shelves table) (shelf_at others table) (sound-at same_time limit shelves table sound_s fits.there) (sound-at same_time limit others table sound_u (omega (arith, fits.there, agree.many))) (agree.same table named))
    agree
op-agree touched same_time limit (DeleteAt table numbers) shelves others sound_s sound_u fits named agree =
    changed-agree touched (delete_rows same_time numbers) shelves others table fits.there
    (deletes-same same_time limit numbers (shelf_at shelves table) (shelf_at others table) (sound-at same_time limit shelves table sound_s fits.there) (sound-at same_time limit others table sound_u (omega (arith, fits.there, agree.many))) (agree.same table named))
    agree

-- ---- they fit

pub columns-many : {B : Type 0} (cs ds : List (Column B)) → map items_of cs ≡ map items_of ds → length cs ≡ length ds
columns-many cs ds e = sym (length-map cs items_of) ∙ ap length e ∙ length-map ds items_of

placed-same : {B : Type 0} (cs ds : List (Column B)) (places : List Place) → map items_of cs ≡ map items_of ds → AllPlaced cs places → AllPlaced ds places
unfolding AllPlaced
placed-same [] [] [] e placed = placed
placed-same [] [] (p ∷ places) e placed = placed
placed-same [] (d ∷ ds) places e placed = absurd (let n : 0 ≡ suc (length (map items_of ds)) = ap length e in omega (arith, n))
placed-same (c ∷ cs) [] places e placed = absurd (let n : suc (length (map items_of cs)) ≡ 0 = ap length e in omega (arith, n))
placed-same (c ∷ cs) (d ∷ ds) [] e placed = placed
placed-same (c ∷ cs) (d ∷ ds) (p ∷ places) e placed =
    let first : items_of c ≡ items_of d = ap (λ (xs : List (List (Item _))). get_or xs 0 []) e in
    let rest : map items_of cs ≡ map items_of ds = ap (λ (xs : List (List (Item _))). drop 1 xs) e in
    let sizes : size c.tree ≡ size d.tree = sym (length-items c) ∙ ap length first ∙ length-items d in
    (subst (λ (n : ℕ). IsPlaceOf n p) sizes placed.0, placed-same cs ds places rest placed.1)

fits-same : {B : Type 0} (touched : List TableNo) (limit : ℕ) (op : RankOp B) (shelves others : List (Shelf B)) → names touched (op_table op) ≡ true → Agree B touched shelves others → OpFitsAt limit op shelves → OpFitsAt limit op others
unfolding OpFitsAt op_table
fits-same touched limit (InsertAt table places bodies) shelves others named agree fits =
    let same = agree.same table named in
    record {
      there = omega (arith, fits.there, agree.many);
      placed = placed-same (shelf_at shelves table).columns (shelf_at others table).columns places same.items fits.placed;
      wide = fits.wide ∙ columns-many (shelf_at shelves table).columns (shelf_at others table).columns same.items;
      room = let kept : length (shelf_at shelves table).kept ≡ length (shelf_at others table).kept = ap length same.kept in omega (arith, fits.room, kept);
    }
fits-same touched limit (DeleteAt table numbers) shelves others named agree fits =
    let same = agree.same table named in
    record {
      there = omega (arith, fits.there, agree.many);
      some = fits.some;
      rise = fits.rise;
      live = subst (λ (kept : List (Kept _)). AllAmong (kept_numbers kept) numbers) same.kept fits.live;
    }

number-same : {B : Type 0} (touched : List TableNo) (op : RankOp B) (shelves others : List (Shelf B)) → names touched (op_table op) ≡ true → Agree B touched shelves others → HasNumber op shelves → HasNumber op others
unfolding HasNumber op_table
number-same touched (InsertAt table places bodies) shelves others named agree has = subst (λ (n : ℕ). n < 2 ^ 63) (agree.same table named).next has
number-same touched (DeleteAt table numbers) shelves others named agree has = has

-- the two conditions together
pub record AllGoOn (B : Type 0) (same_time : Bool) (limit : ℕ) (ops : List (RankOp B)) (shelves : List (Shelf B)) : Type 0 where
  pub fit : AllFitAt same_time limit ops shelves
  pub numbered : AllHaveNumbers same_time ops shelves

pub ops-repeat : {B : Type 0} (touched : List TableNo) (same_time : Bool) (limit : ℕ) (ops : List (RankOp B)) (shelves others : List (Shelf B)) → AllSoundShelves same_time limit shelves → AllSoundShelves same_time limit others → AllTouched touched ops → Agree B touched shelves others
    → AllGoOn B same_time limit ops shelves → AllGoOn B same_time limit ops others
unfolding AllTouched AllFitAt AllHaveNumbers
ops-repeat touched same_time limit [] shelves others sound_s sound_u named agree go = record { fit = tt; numbered = tt }
ops-repeat {B} touched same_time limit (op ∷ ops) shelves others sound_s sound_u named agree go =
    let fits = fits-same touched limit op shelves others named.0 agree go.fit.0 in
    let rest = ops-repeat touched same_time limit ops (rank_op_on same_time op shelves) (rank_op_on same_time op others)
    (op-shelf same_time limit op shelves sound_s go.fit.0) (op-shelf same_time limit op others sound_u fits) named.1
    (op-agree touched same_time limit op shelves others sound_s sound_u go.fit.0 named.0 agree)
    (record { fit = go.fit.1; numbered = go.numbered.1 }) in
    record {
      fit = (fits, rest.fit);
      numbered = (number-same touched op shelves others named.0 agree go.numbered.0, rest.numbered);
    }
