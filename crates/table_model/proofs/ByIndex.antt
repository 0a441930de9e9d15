-- Column by column: what operations do to a column and to the ranks of the rows in it.
use Rattle.std.proofs.Common.{◌≡◌, ℕ, suc, zero, ◌<◌, Bool, true, false, ◌||◌, List, [], ◌∷◌, length, map, get_or, refl, ap₂, sym, arith, eqb}
use Rattle.tree_model.specs.Trees.{size}
use Rattle.tree_model.specs.Places.{holds}
use Rattle.tree_model.specs.Columns.{Column, Operation, apply_all}
use Rattle.tree_model.specs.Sums.{origins}
use Rattle.tree_model.specs.Carried.{carried}
use Rattle.tree_model.proofs.Ordered.{holds-cons_eq}
use Rattle.tree_model.proofs.RankLaws.{carried_of_nothing}
use Rattle.table_model.specs.Stores.{Kept, Shelf}
use Rattle.table_model.specs.Steps.{operate, follow, kept_after, operated}
use Rattle.table_model.specs.Changes.{here_or, without, kept_without, shelf_without}
use Rattle.table_model.specs.Soundness.{ranks_at, column_at}
use Rattle.table_model.specs.ShelfSoundness.{AllFull, SoundShelf, IsRanked}
use Rattle.table_model.specs.RankLaws.{ColumnFollows, HasRanks}
use Rattle.table_model.proofs.Rows.{held-cons}
use Rattle.table_model.proofs.Spread.{shelf-within}

pub operate-at : {B : Type 0} (same_time : Bool) (steps : List (List (Operation B))) (cs : List (Column B)) (i : ℕ) → i < length cs → column_at (operate same_time steps cs) i ≡ apply_all same_time (get_or steps i []) (column_at cs i)
unfolding operate column_at apply_all
operate-at same_time [] cs i h = refl
operate-at same_time (operations ∷ more) [] i h = absurd (omega (arith, h))
operate-at same_time (operations ∷ more) (c ∷ cs) zero h = refl
operate-at same_time (operations ∷ more) (c ∷ cs) (suc i) h = operate-at same_time more cs i (omega (arith, h))

pub follow-at : {B : Type 0} (same_time : Bool) (steps : List (List (Operation B))) (cs : List (Column B)) (ranks : List ℕ) (i : ℕ) → i < length cs → length ranks ≡ length cs → get_or ranks i 0 < size (column_at cs i).tree
    → get_or (follow same_time steps cs ranks) i 0 ≡ carried (origins same_time (get_or steps i []) (column_at cs i)) (get_or ranks i 0)
unfolding follow column_at
follow-at same_time [] cs ranks i h wide within = sym ((carried_of_nothing same_time (column_at cs i) (get_or ranks i 0) within).carries refl)
follow-at same_time (operations ∷ more) [] ranks i h wide within = absurd (omega (arith, h))
follow-at same_time (operations ∷ more) (c ∷ cs) [] i h wide within = absurd (omega (arith, wide))
follow-at same_time (operations ∷ more) (c ∷ cs) (rank ∷ ranks) zero h wide within = refl
follow-at same_time (operations ∷ more) (c ∷ cs) (rank ∷ ranks) (suc i) h wide within = follow-at same_time more cs ranks i (omega (arith, h)) (omega (arith, wide)) within

pub ranks-follow : {B : Type 0} (same_time : Bool) (steps : List (List (Operation B))) (cs : List (Column B)) (i : ℕ) (kept : List (Kept B)) → i < length cs → AllFull (length cs) kept → ((rank : ℕ) → holds rank (ranks_at i kept) ≡ true → rank < size (column_at cs i).tree)
    → ranks_at i (map (kept_after same_time steps cs) kept) ≡ map (carried (origins same_time (get_or steps i []) (column_at cs i))) (ranks_at i kept)
unfolding ranks_at kept_after AllFull
ranks-follow same_time steps cs i [] h full within = refl
ranks-follow same_time steps cs i (row ∷ kept) h full within =
    let rank = get_or row.ranks i 0 in
    ap₂ (λ (first : ℕ) (rest : List ℕ). first ∷ rest)
    (follow-at same_time steps cs row.ranks i h full.1 (within rank (holds-cons_eq rank rank (ranks_at i kept) refl)))
    (ranks-follow same_time steps cs i kept h full.2 (λ other held. within other (held-cons other rank (ranks_at i kept) held)))

pub columns_follow : {B : Type 0} (same_time : Bool) (steps : List (List (Operation B))) (s : Shelf B) (column : ℕ) → IsRanked B s → column < length s.columns → ColumnFollows B same_time steps s column
unfolding operated
columns_follow same_time steps s column ranked h =
    record {
      column_is = operate-at same_time steps s.columns column h;
      ranks_are = ranks-follow same_time steps s.columns column s.kept h ranked.full (λ rank held. ranked.within column rank h held);
    }

-- ---- the others where a row is taken out

full_here : {B : Type 0} (width : ℕ) (row : Kept B) (kept rest : List (Kept B)) (b : Bool) → AllFull width (row ∷ kept) → AllFull width rest → AllFull width (here_or b kept (row ∷ rest))
unfolding AllFull here_or
full_here width row kept rest true full more = full.2
full_here width row kept rest false full more = (full.0, full.1, more)

pub full-without : {B : Type 0} (width number : ℕ) (kept : List (Kept B)) → AllFull width kept → AllFull width (kept_without number kept)
unfolding kept_without without AllFull
full-without width number [] full = full
full-without width number (row ∷ kept) full = full_here width row kept (kept_without number kept) (eqb row.number number) full (full-without width number kept full.2)

one_held : (a b c : Bool) → (b ≡ true → c ≡ true) → (a || b) ≡ true → (a || c) ≡ true
one_held true b c more h = refl
one_held false b c more h = more h

rank_here : {B : Type 0} (column rank : ℕ) (row : Kept B) (kept rest : List (Kept B)) (b : Bool) → (holds rank (ranks_at column rest) ≡ true → holds rank (ranks_at column kept) ≡ true) → holds rank (ranks_at column (here_or b kept (row ∷ rest))) ≡ true → holds rank (ranks_at column (row ∷ kept)) ≡ true
unfolding ranks_at here_or holds
rank_here column rank row kept rest true more held = held-cons rank (get_or row.ranks column 0) (ranks_at column kept) held
rank_here column rank row kept rest false more held = one_held (eqb (get_or row.ranks column 0) rank) (holds rank (ranks_at column rest)) (holds rank (ranks_at column kept)) more held

pub held-without : {B : Type 0} (column rank number : ℕ) (kept : List (Kept B)) → holds rank (ranks_at column (kept_without number kept)) ≡ true → holds rank (ranks_at column kept) ≡ true
unfolding kept_without without
held-without column rank number [] held = held
held-without column rank number (row ∷ kept) held =
    rank_here column rank row kept (kept_without number kept) (eqb row.number number) (held-without column rank number kept) held

pub sound_has_ranks : {B : Type 0} (same_time : Bool) (limit : ℕ) (s : Shelf B) → SoundShelf B same_time limit s → HasRanks B s
unfolding shelf_without
sound_has_ranks {B} same_time limit s sound =
    let inside = shelf-within same_time limit s sound in
    record {
      ranked = record { full = sound.full; within = inside };
      without = λ number. record {
        full = full-without (length s.columns) number s.kept sound.full;
        within = λ column rank h held. inside column rank h (held-without column rank number s.kept held);
      };
    }
