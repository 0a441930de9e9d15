-- The ranks of rows follow their items, for each kind of operation, column by column.
use Rattle.std.proofs.Common.{◌≡◌, ℕ, suc, zero, ◌<◌, Bool, true, false, ◌||◌, List, [], ◌∷◌, length, map, get_or, refl, ap, ap₂, ◌∙◌, sym, subst, arith, eqb}
use Rattle.tree_model.specs.Places.{below, holds, place}
use Rattle.tree_model.specs.Columns.{Column, drop_one, Operation, Drop, Lay, apply, apply_all}
use Rattle.tree_model.specs.Sums.{origins}
use Rattle.tree_model.specs.Carried.{carried}
use Rattle.tree_model.specs.Tallies.{IsOneMore}
use Rattle.tree_model.proofs.Ordered.{held_at-below, holds-cons_eq}
use Rattle.table_model.specs.Stores.{Row, Kept, ranks_by, kept_of}
use Rattle.table_model.specs.Steps.{operate, follow, kept_after, adds, drops, only, rank_in, places_by}
use Rattle.table_model.specs.Soundness.{cell_value, column_values, column_at, SoundColumn}
use Rattle.table_model.proofs.Following.{keys, Owned, owned-within, carried-nothing, carried-add, carried-lay, below-add, rank_in-place, sound-add, sound-drop, sound-lay}

abbrev pub value_in : {B : Type 0} → (B → ℕ) → List B → ℕ → ℕ
value_in v cells column = get_or (map v cells) column 0

-- ---- one row

pub ranks-add : {B : Type 0} (v : B → ℕ) (same_time : Bool) (cs : List (Column B)) (new cells : List B) → ((i : ℕ) → i < length cs → Owned B v (column_at cs i) (value_in v cells i))
    → ranks_by v (operate same_time (adds (places_by v cs new) new) cs) cells ≡ follow same_time (adds (places_by v cs new) new) cs (ranks_by v cs cells)
unfolding ranks_by operate follow adds places_by column_at apply apply_all
ranks-add v same_time [] new cells own = refl
ranks-add v same_time (c ∷ cs) [] cells own = refl
ranks-add v same_time (c ∷ cs) (b ∷ new) [] own = refl
ranks-add v same_time (c ∷ cs) (b ∷ new) (x ∷ cells) own =
    ap₂ (λ (rank : ℕ) (rest : List ℕ). rank ∷ rest) (carried-add v same_time b c (v x) (own 0 (omega arith))) (ranks-add v same_time cs new cells (λ i h. own (suc i) (omega (arith, h))))

-- what a row keeps of a column where a row of value y goes
unfoldable pub FollowsDrop : {B : Type 0} → (B → ℕ) → Bool → Column B → ℕ → ℕ → Type 0
FollowsDrop v same_time c y x = below x (keys v (drop_one same_time (below y (keys v c)) c)) ≡ carried (origins same_time (Drop (below y (keys v c)) ∷ []) c) (below x (keys v c))

pub ranks-drop : {B : Type 0} (v : B → ℕ) (same_time : Bool) (cs : List (Column B)) (gone cells : List B) → ((i : ℕ) → i < length cs → FollowsDrop v same_time (column_at cs i) (value_in v gone i) (value_in v cells i))
    → ranks_by v (operate same_time (drops (ranks_by v cs gone)) cs) cells ≡ follow same_time (drops (ranks_by v cs gone)) cs (ranks_by v cs cells)
unfolding ranks_by operate follow drops column_at apply apply_all FollowsDrop
ranks-drop v same_time [] gone cells follows = refl
ranks-drop v same_time (c ∷ cs) [] cells follows = refl
ranks-drop v same_time (c ∷ cs) (y ∷ gone) [] follows = refl
ranks-drop v same_time (c ∷ cs) (y ∷ gone) (x ∷ cells) follows =
    ap₂ (λ (rank : ℕ) (rest : List ℕ). rank ∷ rest) (follows 0 (omega arith)) (ranks-drop v same_time cs gone cells (λ i h. follows (suc i) (omega (arith, h))))

pub ranks-lay : {B : Type 0} (v : B → ℕ) (same_time : Bool) (column : ℕ) (cs : List (Column B)) (cells : List B) → ((i : ℕ) → i < length cs → Owned B v (column_at cs i) (value_in v cells i))
    → ranks_by v (operate same_time (only column (Lay ∷ [])) cs) cells ≡ follow same_time (only column (Lay ∷ [])) cs (ranks_by v cs cells)
unfolding ranks_by operate follow only column_at apply apply_all
ranks-lay v same_time zero [] cells own = refl
ranks-lay v same_time (suc column) [] cells own = refl
ranks-lay v same_time zero (c ∷ cs) [] own = refl
ranks-lay v same_time (suc column) (c ∷ cs) [] own = refl
ranks-lay v same_time zero (c ∷ cs) (x ∷ cells) own = ap (λ (rank : ℕ). rank ∷ ranks_by v cs cells) (carried-lay v same_time c (v x) (own 0 (omega arith)))
ranks-lay v same_time (suc column) (c ∷ cs) (x ∷ cells) own =
    ap₂ (λ (rank : ℕ) (rest : List ℕ). rank ∷ rest) (carried-nothing v same_time c (v x) (own 0 (omega arith))) (ranks-lay v same_time column cs cells (λ i h. own (suc i) (omega (arith, h))))

-- the new row
pub ranks-new : {B : Type 0} (v : B → ℕ) (same_time : Bool) (cs : List (Column B)) (new : List B) → ranks_by v (operate same_time (adds (places_by v cs new) new) cs) new ≡ map rank_in (places_by v cs new)
unfolding ranks_by operate adds places_by apply apply_all
ranks-new v same_time [] new = refl
ranks-new v same_time (c ∷ cs) [] = refl
ranks-new v same_time (c ∷ cs) (b ∷ new) =
    let p = place (keys v c) (v b) in
    ap₂ (λ (rank : ℕ) (rest : List ℕ). rank ∷ rest) (below-add v p b c ∙ sym (rank_in-place (keys v c) (v b))) (ranks-new v same_time cs new)

-- ---- all rows

pub held-cons : (x y : ℕ) (xs : List ℕ) → holds x xs ≡ true → holds x (y ∷ xs) ≡ true
unfolding holds
held-cons x y xs h = either (eqb y x) (holds x xs) h
  where
    either : (a b : Bool) → b ≡ true → (a || b) ≡ true
    either true b h = refl
    either false b h = h

pub rows-follow : {B : Type 0} (v : B → ℕ) (same_time : Bool) (steps : List (List (Operation B))) (cs : List (Column B)) (Good : ℕ → ℕ → Type 0) (rows : List (Row B))
    → ((cells : List B) → ((i : ℕ) → i < length cs → Good i (value_in v cells i)) → ranks_by v (operate same_time steps cs) cells ≡ follow same_time steps cs (ranks_by v cs cells))
    → ((i x : ℕ) → i < length cs → holds x (column_values v i rows) ≡ true → Good i x)
    → map (kept_of v (operate same_time steps cs)) rows ≡ map (kept_after same_time steps cs) (map (kept_of v cs) rows)
unfolding column_values cell_value kept_of kept_after
rows-follow v same_time steps cs Good [] one good = refl
rows-follow {B} v same_time steps cs Good (row ∷ rows) one good =
    ap₂ (λ (ranks : List ℕ) (rest : List (Kept B)). let r : Kept B = record { number = row.number; bodies = row.cells; ranks = ranks } in r ∷ rest)
    (one row.cells (λ i h. good i (value_in v row.cells i) h (holds-cons_eq (value_in v row.cells i) (value_in v row.cells i) (column_values v i rows) refl)))
    (rows-follow v same_time steps cs Good rows one (λ i x h held. good i x h (held-cons x (value_in v row.cells i) (column_values v i rows) held)))

-- ---- columns

pub length-operate : {B : Type 0} (same_time : Bool) (steps : List (List (Operation B))) (cs : List (Column B)) → length (operate same_time steps cs) ≡ length cs
unfolding operate
length-operate same_time [] cs = refl
length-operate same_time (operations ∷ more) [] = refl
length-operate same_time (operations ∷ more) (c ∷ cs) = ap suc (length-operate same_time more cs)

pub sound-adds : {B : Type 0} (v : B → ℕ) (same_time : Bool) (cs : List (Column B)) (new : List B) (before after : ℕ → List ℕ) → length new ≡ length cs
    → ((i : ℕ) → i < length cs → SoundColumn B v same_time (column_at cs i) (before i)) → ((i : ℕ) → i < length cs → IsOneMore (value_in v new i) (before i) (after i))
    → (i : ℕ) → i < length cs → SoundColumn B v same_time (column_at (operate same_time (adds (places_by v cs new) new) cs) i) (after i)
unfolding operate adds places_by column_at apply apply_all
sound-adds v same_time [] new before after e sound more i h = absurd (omega (arith, h))
sound-adds v same_time (c ∷ cs) [] before after e sound more i h = absurd (omega (arith, e))
sound-adds v same_time (c ∷ cs) (b ∷ new) before after e sound more zero h = sound-add v same_time b c (before 0) (after 0) (sound 0 (omega arith)) (more 0 (omega arith))
sound-adds v same_time (c ∷ cs) (b ∷ new) before after e sound more (suc i) h =
    sound-adds v same_time cs new (λ j. before (suc j)) (λ j. after (suc j)) (omega (arith, e)) (λ j k. sound (suc j) (omega (arith, k))) (λ j k. more (suc j) (omega (arith, k))) i (omega (arith, h))

drop-owned : {B : Type 0} (v : B → ℕ) (same_time : Bool) (c : Column B) (y : ℕ) (before after : List ℕ) → SoundColumn B v same_time c before → Owned B v c y → IsOneMore y after before → SoundColumn B v same_time (drop_one same_time (below y (keys v c)) c) after
drop-owned v same_time c y before after sound own one =
    sound-drop v same_time (below y (keys v c)) 0 c before after sound (owned-within v c y own)
    (subst (λ (key : ℕ). IsOneMore key after before) (sym (held_at-below y (keys v c) 0 own.rise own.held).1) one)

pub sound-drops : {B : Type 0} (v : B → ℕ) (same_time : Bool) (cs : List (Column B)) (gone : List B) (before after : ℕ → List ℕ) → length gone ≡ length cs
    → ((i : ℕ) → i < length cs → SoundColumn B v same_time (column_at cs i) (before i)) → ((i : ℕ) → i < length cs → Owned B v (column_at cs i) (value_in v gone i)) → ((i : ℕ) → i < length cs → IsOneMore (value_in v gone i) (after i) (before i))
    → (i : ℕ) → i < length cs → SoundColumn B v same_time (column_at (operate same_time (drops (ranks_by v cs gone)) cs) i) (after i)
unfolding operate drops ranks_by column_at apply apply_all
sound-drops v same_time [] gone before after e sound own fewer i h = absurd (omega (arith, h))
sound-drops v same_time (c ∷ cs) [] before after e sound own fewer i h = absurd (omega (arith, e))
sound-drops v same_time (c ∷ cs) (y ∷ gone) before after e sound own fewer zero h = drop-owned v same_time c (v y) (before 0) (after 0) (sound 0 (omega arith)) (own 0 (omega arith)) (fewer 0 (omega arith))
sound-drops v same_time (c ∷ cs) (y ∷ gone) before after e sound own fewer (suc i) h =
    sound-drops v same_time cs gone (λ j. before (suc j)) (λ j. after (suc j)) (omega (arith, e)) (λ j k. sound (suc j) (omega (arith, k))) (λ j k. own (suc j) (omega (arith, k))) (λ j k. fewer (suc j) (omega (arith, k))) i (omega (arith, h))

pub sound-lays : {B : Type 0} (v : B → ℕ) (same_time : Bool) (column : ℕ) (cs : List (Column B)) (rows : ℕ → List ℕ) → ((i : ℕ) → i < length cs → SoundColumn B v same_time (column_at cs i) (rows i))
    → (i : ℕ) → i < length cs → SoundColumn B v same_time (column_at (operate same_time (only column (Lay ∷ [])) cs) i) (rows i)
unfolding operate only column_at apply apply_all
sound-lays v same_time column [] rows sound i h = absurd (omega (arith, h))
sound-lays v same_time zero (c ∷ cs) rows sound zero h = sound-lay v same_time c (rows 0) (sound 0 (omega arith))
sound-lays v same_time zero (c ∷ cs) rows sound (suc i) h = sound (suc i) h
sound-lays v same_time (suc column) (c ∷ cs) rows sound zero h = sound 0 h
sound-lays v same_time (suc column) (c ∷ cs) rows sound (suc i) h = sound-lays v same_time column cs (λ j. rows (suc j)) (λ j k. sound (suc j) (omega (arith, k))) i (omega (arith, h))
