-- A table in the making: at first, and after one more operation.
use Rattle.std.proofs.Common.{◌≡◌, ℕ, suc, zero, ◌<◌, ◌≤◌, ◌⊎◌, Bool, false, List, [], ◌∷◌, ◌++◌, length, map, get_or, refl, ap, sym, ◌∙◌, subst, arith, eqb, eq-eqb, inl, inr}
use Rattle.std.proofs.lemmas.List.{append-nil, length-map}
use Rattle.mope_base.specs.declared.body.Body.{Body}
use Rattle.tree_model.specs.declared.Place.{Place}
use Rattle.tree_model.specs.Trees.{height}
use Rattle.tree_model.specs.Columns.{Column, Operation, apply_all}
use Rattle.path_code.specs.Sums.{Sum, sum_of}
use Rattle.table_model.specs.Stores.{Shelf}
use Rattle.table_model.specs.Steps.{operate, operated, adds, drops, all_steps}
use Rattle.table_model.specs.Changes.{insert_row, shelf_without, delete_row, delete_rows, delete_steps, ranks_of}
use Rattle.table_model.specs.Soundness.{column_at}
use Rattle.table_model.specs.ShelfSoundness.{SoundShelf, AllSoundShelves}
use Rattle.table_model.specs.Operations.{RankOp, InsertAt, DeleteAt, rank_op_on, rank_ops_on, shelf_at, steps_if, op_steps, ops_steps}
use Rattle.table_model.specs.Fitting.{AllPlaced}
use Rattle.table_model.proofs.ByIndex.{operate-at}
use Rattle.table_model.proofs.ByColumns.{ops_by_columns}
use Rattle.table_model.proofs.ShelfSoundOps.{operations_keep_shelf, shelf_fits_rows}
use Rattle.enc_table.specs.Seen.{Seen, with_shelf}
use Rattle.enc_table.specs.Sums.{sums, before_each, delete_sums}
use Rattle.versions.specs.declared.draft.Logged.{Logged}
use Rattle.versions.specs.declared.draft.Logged.TheVariants.{Row, Rows}
use Rattle.versions.specs.Databases.{Database, IsDatabase, table_at}
use Rattle.versions.specs.Drafts.{IsDraft}
use Rattle.versions.specs.Operations.{op_table}
use Rattle.versions.specs.Summed.{IsSummed, one_at, noted, all_noted}
use Rattle.versions.proofs.Chains.{chain-append}
use Rattle.versions.proofs.Notes.{all_noted-append, all_noted-one}
use Rattle.versions.proofs.OpsOn.{rank_ops_on-append, ops-length, then_steps-at, steps-append, steps-one, changed-here, op-elsewhere, steps-elsewhere}

-- ---- ways are short

pub sound-at : {B : Type 0} (same_time : Bool) (limit : ℕ) (shelves : List (Shelf B)) (table : ℕ) → AllSoundShelves same_time limit shelves → table < length shelves → SoundShelf B same_time limit (shelf_at shelves table)
unfolding AllSoundShelves shelf_at
sound-at same_time limit [] table sound h = absurd (omega (arith, h))
sound-at same_time limit (s ∷ shelves) zero sound h = sound.0
sound-at same_time limit (s ∷ shelves) (suc table) sound h = sound-at same_time limit shelves table sound.1 (omega (arith, h))

pub low-column : {B : Type 0} (same_time : Bool) (limit : ℕ) (s : Shelf B) (column : ℕ) → SoundShelf B same_time limit s → limit ≤ 1048576 → column < length s.columns → height (column_at s.columns column).tree ≤ 63
low-column same_time limit s column sound low h = (shelf_fits_rows same_time limit s column sound h).fits.any (omega (arith, low))

operate-length : {B : Type 0} (same_time : Bool) (steps : List (List (Operation B))) (cs : List (Column B)) → length (operate same_time steps cs) ≡ length cs
unfolding operate
operate-length same_time [] cs = refl
operate-length same_time (operations ∷ more) [] = refl
operate-length same_time (operations ∷ more) (c ∷ cs) = ap suc (operate-length same_time more cs)

-- a table's columns after operations, one by one
pub ops-columns : {B : Type 0} (same_time : Bool) (table : ℕ) (ops : List (RankOp B)) (shelves : List (Shelf B)) → length (shelf_at (rank_ops_on same_time ops shelves) table).columns ≡ length (shelf_at shelves table).columns
ops-columns same_time table ops shelves =
    ap length (ops_by_columns same_time table ops shelves) ∙ operate-length same_time (ops_steps same_time table ops shelves) (shelf_at shelves table).columns

pub ops-column : {B : Type 0} (same_time : Bool) (table column : ℕ) (ops : List (RankOp B)) (shelves : List (Shelf B)) → column < length (shelf_at shelves table).columns
    → column_at (shelf_at (rank_ops_on same_time ops shelves) table).columns column ≡ apply_all same_time (get_or (ops_steps same_time table ops shelves) column []) (column_at (shelf_at shelves table).columns column)
ops-column same_time table column ops shelves h =
    ap (λ (cs : List (Column _)). column_at cs column) (ops_by_columns same_time table ops shelves) ∙ operate-at same_time (ops_steps same_time table ops shelves) (shelf_at shelves table).columns column h

-- ---- at first

get_or-nil : {A : Type 0} (place : ℕ) (d : A) → get_or [] place d ≡ d
get_or-nil place d = refl

pub starts : (d : Database) (table : ℕ) → IsDatabase d → table < length d.shelves → IsDraft d table [] (table_at d table) []
unfolding IsSummed rank_ops_on ops_steps all_noted table_at with_shelf
starts d table is h =
    record {
      seen = refl;
      summed = λ column within. (low-column d.same_time d.limit (shelf_at d.shelves table) column (sound-at d.same_time d.limit d.shelves table is.sound h) is.low within, refl);
    }

-- ---- one operation more, by what was noted of each column

pub one_more : (d : Database) (table : ℕ) (ops : List (RankOp Body)) (op : RankOp Body) (made next : Seen) (log after : List Logged) → IsDraft d table ops made log
    → next ≡ with_shelf (shelf_at (rank_op_on d.same_time op (rank_ops_on d.same_time ops d.shelves)) table) (table_at d table)
    → ((column : ℕ) → column < length (shelf_at d.shelves table).columns → (ys : List Sum) × ((all_noted after column ≡ all_noted log column ++ ys)
    × IsSummed d.same_time (column_at (shelf_at (rank_ops_on d.same_time ops d.shelves) table).columns column) (get_or (op_steps d.same_time table op (rank_ops_on d.same_time ops d.shelves)) column []) ys))
    → IsDraft d table (ops ++ op ∷ []) next after
unfolding rank_ops_on
one_more d table ops op made next log after draft seen each =
    record {
      seen = seen ∙ ap (λ (shelves : List (Shelf Body)). with_shelf (shelf_at shelves table) (table_at d table)) (sym (rank_ops_on-append d.same_time ops (op ∷ []) d.shelves));
      summed = λ column within.
          let c = column_at (shelf_at d.shelves table).columns column in
          let before = get_or (ops_steps d.same_time table ops d.shelves) column [] in
          let mid = rank_ops_on d.same_time ops d.shelves in
          let part = get_or (op_steps d.same_time table op mid) column [] in
          let more = each column within in
          let chain : IsSummed d.same_time c (before ++ part) (all_noted log column ++ more.0) = chain-append d.same_time c before part (all_noted log column) more.0 (draft.summed column within)
          (subst (λ (e : Column Body). IsSummed d.same_time e part more.0) (ops-column d.same_time table column ops d.shelves within) more.1.1) in
          let operations : before ++ part ≡ get_or (ops_steps d.same_time table (ops ++ op ∷ []) d.shelves) column [] =
          sym (steps-append d.same_time table column ops (op ∷ []) d.shelves ∙ ap (λ (rest : List (Operation Body)). before ++ rest) (steps-one d.same_time table column op mid)) in
          subst (λ (l : List (Operation Body)). IsSummed d.same_time c l (all_noted after column)) operations
          (subst (λ (l : List Sum). IsSummed d.same_time c (before ++ part) l) (sym more.1.0) chain);
    }

-- ---- a row comes in

pub sums-at : (same_time : Bool) (cs : List (Column Body)) (places : List Place) (bodies : List Body) (column : ℕ) → AllPlaced cs places → length bodies ≡ length cs → column < length cs
    → one_at (sums same_time (adds places bodies) cs) column ≡ sum_of same_time (get_or (adds places bodies) column []) (column_at cs column) ∷ []
unfolding AllPlaced sums adds one_at column_at
sums-at same_time [] places bodies column placed wide h = absurd (omega (arith, h))
sums-at same_time (c ∷ cs) [] bodies column placed wide h = absurd placed
sums-at same_time (c ∷ cs) (p ∷ places) [] column placed wide h = absurd (omega (arith, wide))
sums-at same_time (c ∷ cs) (p ∷ places) (b ∷ bodies) zero placed wide h = refl
sums-at same_time (c ∷ cs) (p ∷ places) (b ∷ bodies) (suc column) placed wide h = sums-at same_time cs places bodies column placed.1 (omega (arith, wide)) (omega (arith, h))

inserted : (same_time : Bool) (table : ℕ) (places : List Place) (bodies : List Body) (shelves : List (Shelf Body)) → table < length shelves → shelf_at (rank_op_on same_time (InsertAt table places bodies) shelves) table ≡ insert_row same_time places bodies (shelf_at shelves table)
unfolding rank_op_on shelf_at
inserted same_time table places bodies shelves h = changed-here (insert_row same_time places bodies) shelves table _ h

insert-steps : (same_time : Bool) (table : ℕ) (places : List Place) (bodies : List Body) (shelves : List (Shelf Body)) → op_steps same_time table (InsertAt table places bodies) shelves ≡ adds places bodies
unfolding op_steps steps_if
insert-steps same_time table places bodies shelves = rw (eq-eqb table table refl) refl

log-more : (log : List Logged) (entry : Logged) (column : ℕ) → all_noted (log ++ entry ∷ []) column ≡ all_noted log column ++ noted entry column
log-more log entry column = all_noted-append log (entry ∷ []) column ∙ ap (λ (l : List Sum). all_noted log column ++ l) (all_noted-one entry column)

-- heights of a column before and after one more operation
pub low-mid : (d : Database) (table : ℕ) (ops : List (RankOp Body)) (column : ℕ) → IsDatabase d → table < length d.shelves → column < length (shelf_at d.shelves table).columns → AllSoundShelves d.same_time d.limit (rank_ops_on d.same_time ops d.shelves)
    → height (column_at (shelf_at (rank_ops_on d.same_time ops d.shelves) table).columns column).tree ≤ 63
low-mid d table ops column is there within sound =
    let mid = rank_ops_on d.same_time ops d.shelves in
    low-column d.same_time d.limit (shelf_at mid table) column (sound-at d.same_time d.limit mid table sound (omega (arith, there, ops-length d.same_time ops d.shelves))) is.low
    (omega (arith, within, ops-columns d.same_time table ops d.shelves))

one-op : {B : Type 0} (same_time : Bool) (op : RankOp B) (shelves : List (Shelf B)) → rank_ops_on same_time (op ∷ []) shelves ≡ rank_op_on same_time op shelves
unfolding rank_ops_on
one-op same_time op shelves = refl

pub low-after : (d : Database) (table : ℕ) (ops : List (RankOp Body)) (op : RankOp Body) (column : ℕ) → IsDatabase d → table < length d.shelves → column < length (shelf_at d.shelves table).columns → AllSoundShelves d.same_time d.limit (rank_op_on d.same_time op (rank_ops_on d.same_time ops d.shelves))
    → height (apply_all d.same_time (get_or (op_steps d.same_time table op (rank_ops_on d.same_time ops d.shelves)) column []) (column_at (shelf_at (rank_ops_on d.same_time ops d.shelves) table).columns column)).tree ≤ 63
low-after d table ops op column is there within sound =
    let mid = rank_ops_on d.same_time ops d.shelves in
    let after = rank_ops_on d.same_time (op ∷ []) mid in
    let sound_after : AllSoundShelves d.same_time d.limit after = subst (λ (shelves : List (Shelf Body)). AllSoundShelves d.same_time d.limit shelves) (sym (one-op d.same_time op mid)) sound in
    let mid_within : column < length (shelf_at mid table).columns = omega (arith, within, ops-columns d.same_time table ops d.shelves) in
    let low : height (column_at (shelf_at after table).columns column).tree ≤ 63 =
    low-column d.same_time d.limit (shelf_at after table) column (sound-at d.same_time d.limit after table sound_after (omega (arith, there, ops-length d.same_time ops d.shelves, ops-length d.same_time (op ∷ []) mid))) is.low
    (omega (arith, mid_within, ops-columns d.same_time table (op ∷ []) mid)) in
    subst (λ (c : Column Body). height c.tree ≤ 63)
    (ops-column d.same_time table column (op ∷ []) mid mid_within ∙ ap (λ (l : List (Operation Body)). apply_all d.same_time l (column_at (shelf_at mid table).columns column)) (steps-one d.same_time table column op mid)) low

-- one operation's part
chain-of_one : (same_time : Bool) (c : Column Body) (part : List (Operation Body)) → height c.tree ≤ 63 → height (apply_all same_time part c).tree ≤ 63 → IsSummed same_time c part (sum_of same_time part c ∷ [])
unfolding IsSummed
chain-of_one same_time c part low low_after = (part, ([], (low, sym (append-nil part), refl, (low_after, refl))))

insert-chain : (d : Database) (table : ℕ) (ops : List (RankOp Body)) (places : List Place) (bodies : List Body) (log : List Logged) (column : ℕ) → IsDatabase d → table < length d.shelves → column < length (shelf_at d.shelves table).columns
    → AllPlaced (shelf_at (rank_ops_on d.same_time ops d.shelves) table).columns places → length bodies ≡ length (shelf_at (rank_ops_on d.same_time ops d.shelves) table).columns
    → AllSoundShelves d.same_time d.limit (rank_ops_on d.same_time ops d.shelves) → AllSoundShelves d.same_time d.limit (rank_op_on d.same_time (InsertAt table places bodies) (rank_ops_on d.same_time ops d.shelves))
    → IsSummed d.same_time (column_at (shelf_at (rank_ops_on d.same_time ops d.shelves) table).columns column) (get_or (op_steps d.same_time table (InsertAt table places bodies) (rank_ops_on d.same_time ops d.shelves)) column [])
    (one_at (sums d.same_time (adds places bodies) (shelf_at (rank_ops_on d.same_time ops d.shelves) table).columns) column)
insert-chain d table ops places bodies log column is there within placed wide sound sound_after =
    let op : RankOp Body = InsertAt table places bodies in
    let mid = rank_ops_on d.same_time ops d.shelves in
    let s = shelf_at mid table in
    let c = column_at s.columns column in
    let mid_within : column < length s.columns = omega (arith, within, ops-columns d.same_time table ops d.shelves) in
    let part : get_or (op_steps d.same_time table op mid) column [] ≡ get_or (adds places bodies) column [] = ap (λ (steps : List (List (Operation Body))). get_or steps column []) (insert-steps d.same_time table places bodies mid) in
    subst (λ (ys : List Sum). IsSummed d.same_time c (get_or (op_steps d.same_time table op mid) column []) ys)
    (ap (λ (l : List (Operation Body)). sum_of d.same_time l c ∷ []) part ∙ sym (sums-at d.same_time s.columns places bodies column placed wide mid_within))
    (chain-of_one d.same_time c (get_or (op_steps d.same_time table op mid) column []) (low-mid d table ops column is there within sound) (low-after d table ops op column is there within sound_after))

noted-row : (xs : List Sum) (column : ℕ) → noted (Row xs) column ≡ one_at xs column
unfolding noted
noted-row xs column = refl

noted-rows : (lists : List (List Sum)) (column : ℕ) → noted (Rows lists) column ≡ get_or lists column []
unfolding noted
noted-rows lists column = refl

pub inserts : (d : Database) (table : ℕ) (ops : List (RankOp Body)) (places : List Place) (bodies : List Body) (made : Seen) (log : List Logged) → IsDatabase d → table < length d.shelves → IsDraft d table ops made log
    → AllPlaced (shelf_at (rank_ops_on d.same_time ops d.shelves) table).columns places → length bodies ≡ length (shelf_at (rank_ops_on d.same_time ops d.shelves) table).columns
    → AllSoundShelves d.same_time d.limit (rank_ops_on d.same_time ops d.shelves) → AllSoundShelves d.same_time d.limit (rank_op_on d.same_time (InsertAt table places bodies) (rank_ops_on d.same_time ops d.shelves))
    → IsDraft d table (ops ++ InsertAt table places bodies ∷ []) (with_shelf (insert_row made.same_time places bodies made.shelf) made) (log ++ Row (sums made.same_time (adds places bodies) made.shelf.columns) ∷ [])
unfolding table_at with_shelf
inserts d table ops places bodies made log is there draft placed wide sound sound_after =
    let op : RankOp Body = InsertAt table places bodies in
    let mid = rank_ops_on d.same_time ops d.shelves in
    let s = shelf_at mid table in
    let there_mid : table < length mid = omega (arith, there, ops-length d.same_time ops d.shelves) in
    let xs = sums d.same_time (adds places bodies) s.columns in
    subst (λ (m : Seen). IsDraft d table (ops ++ op ∷ []) (with_shelf (insert_row m.same_time places bodies m.shelf) m) (log ++ Row (sums m.same_time (adds places bodies) m.shelf.columns) ∷ [])) (sym draft.seen)
    (one_more d table ops op made (with_shelf (insert_row d.same_time places bodies s) (table_at d table)) log (log ++ Row xs ∷ []) draft
    (ap (λ (u : Shelf Body). with_shelf u (table_at d table)) (sym (inserted d.same_time table places bodies mid there_mid)))
    (λ column within. (one_at xs column, (log-more log (Row xs) column ∙ ap (λ (l : List Sum). all_noted log column ++ l) (noted-row xs column), insert-chain d table ops places bodies log column is there within placed wide sound sound_after))))

-- ---- rows go

deleted : (same_time : Bool) (table : ℕ) (numbers : List ℕ) (shelves : List (Shelf Body)) → table < length shelves → shelf_at (rank_op_on same_time (DeleteAt table numbers) shelves) table ≡ delete_rows same_time numbers (shelf_at shelves table)
unfolding rank_op_on shelf_at
deleted same_time table numbers shelves h = changed-here (delete_rows same_time numbers) shelves table _ h

delete-op_steps : (same_time : Bool) (table : ℕ) (numbers : List ℕ) (shelves : List (Shelf Body)) → op_steps same_time table (DeleteAt table numbers) shelves ≡ all_steps (delete_steps same_time numbers (shelf_at shelves table))
unfolding op_steps steps_if
delete-op_steps same_time table numbers shelves = rw (eq-eqb table table refl) refl

nothing-at : (cs : List (Column Body)) (column : ℕ) → get_or (map (λ (c : Column Body). let none : List Sum = [] in none) cs) column [] ≡ []
nothing-at [] column = refl
nothing-at (c ∷ cs) zero = refl
nothing-at (c ∷ cs) (suc column) = nothing-at cs column

before-length : (xs : List Sum) (lists : List (List Sum)) → length (before_each xs lists) ≡ length lists
unfolding before_each
before-length [] lists = refl
before-length (x ∷ xs) [] = refl
before-length (x ∷ xs) (l ∷ lists) = ap suc (before-length xs lists)

deleted-width : (same_time : Bool) (numbers : List ℕ) (s : Shelf Body) → length (delete_sums same_time numbers s) ≡ length s.columns
unfolding delete_sums delete_row operated shelf_without
deleted-width same_time [] s = length-map s.columns _
deleted-width same_time (number ∷ numbers) s =
    before-length (sums same_time (drops (ranks_of number s.kept)) s.columns) (delete_sums same_time numbers (delete_row same_time number s))
    ∙ deleted-width same_time numbers (delete_row same_time number s)
    ∙ operate-length same_time (drops (ranks_of number s.kept)) s.columns

before-at : (same_time : Bool) (steps : List (List (Operation Body))) (cs : List (Column Body)) (lists : List (List Sum)) (column : ℕ) → column < length cs → length lists ≡ length cs
    → (get_or (before_each (sums same_time steps cs) lists) column [] ≡ sum_of same_time (get_or steps column []) (column_at cs column) ∷ get_or lists column [])
    ⊎ ((get_or steps column [] ≡ []) × (get_or (before_each (sums same_time steps cs) lists) column [] ≡ get_or lists column []))
unfolding before_each sums column_at
before-at same_time [] cs lists column h wide = inr (refl, refl)
before-at same_time (operations ∷ more) [] lists column h wide = absurd (omega (arith, h))
before-at same_time (operations ∷ more) (c ∷ cs) [] column h wide = absurd (omega (arith, wide))
before-at same_time (operations ∷ more) (c ∷ cs) (l ∷ lists) zero h wide = inl refl
before-at same_time (operations ∷ more) (c ∷ cs) (l ∷ lists) (suc column) h wide = before-at same_time more cs lists column (omega (arith, h)) (omega (arith, wide))

row-columns : (same_time : Bool) (number : ℕ) (s : Shelf Body) → (delete_row same_time number s).columns ≡ operate same_time (drops (ranks_of number s.kept)) s.columns
unfolding delete_row operated shelf_without
row-columns same_time number s = refl

-- one row fewer, in front of the chain of the others
row-chain : (same_time : Bool) (c d : Column Body) (part rest : List (Operation Body)) (all ys : List Sum) → height c.tree ≤ 63 → d ≡ apply_all same_time part c → IsSummed same_time d rest ys
    → (all ≡ sum_of same_time part c ∷ ys) ⊎ ((part ≡ []) × (all ≡ ys)) → IsSummed same_time c (part ++ rest) all
unfolding IsSummed apply_all
row-chain same_time c d part rest all ys low is chain (inl one) =
    subst (λ (l : List Sum). IsSummed same_time c (part ++ rest) l) (sym one) (part, (rest, (low, refl, refl, subst (λ (e : Column Body). IsSummed same_time e rest ys) is chain)))
row-chain same_time c d part rest all ys low is chain (inr none) =
    let same : d ≡ c = is ∙ ap (λ (l : List (Operation Body)). apply_all same_time l c) none.0 in
    subst (λ (l : List (Operation Body)). IsSummed same_time c (l ++ rest) all) (sym none.0)
    (subst (λ (l : List Sum). IsSummed same_time c rest l) (sym none.1) (subst (λ (e : Column Body). IsSummed same_time e rest ys) same chain))

deleted-chain : (same_time : Bool) (limit : ℕ) (numbers : List ℕ) (s : Shelf Body) (column : ℕ) → SoundShelf Body same_time limit s → limit ≤ 1048576 → column < length s.columns
    → IsSummed same_time (column_at s.columns column) (get_or (all_steps (delete_steps same_time numbers s)) column []) (get_or (delete_sums same_time numbers s) column [])
unfolding delete_steps all_steps delete_sums IsSummed
deleted-chain same_time limit [] s column sound low h =
    subst (λ (l : List Sum). IsSummed same_time (column_at s.columns column) [] l) (sym (nothing-at s.columns column)) (low-column same_time limit s column sound low h, refl)
deleted-chain same_time limit (number ∷ numbers) s column sound low h =
    let after = delete_row same_time number s in
    let steps = drops (ranks_of number s.kept) in
    let columns : after.columns ≡ operate same_time steps s.columns = row-columns same_time number s in
    let within : column < length after.columns = omega (arith, h, ap length columns, operate-length same_time steps s.columns) in
    let rest = get_or (all_steps (delete_steps same_time numbers after)) column [] in
    subst (λ (l : List (Operation Body)). IsSummed same_time (column_at s.columns column) l (get_or (before_each (sums same_time steps s.columns) (delete_sums same_time numbers after)) column []))
    (sym (then_steps-at steps (all_steps (delete_steps same_time numbers after)) column))
    (row-chain same_time (column_at s.columns column) (column_at after.columns column) (get_or steps column []) rest
    (get_or (before_each (sums same_time steps s.columns) (delete_sums same_time numbers after)) column []) (get_or (delete_sums same_time numbers after) column [])
    (low-column same_time limit s column sound low h)
    (ap (λ (cs : List (Column Body)). column_at cs column) columns ∙ operate-at same_time steps s.columns column h)
    (deleted-chain same_time limit numbers after column ((operations_keep_shelf same_time limit s sound).deletes number) low within)
    (before-at same_time steps s.columns (delete_sums same_time numbers after) column h (deleted-width same_time numbers after ∙ ap length columns ∙ operate-length same_time steps s.columns)))

pub deletes : (d : Database) (table : ℕ) (ops : List (RankOp Body)) (numbers : List ℕ) (made : Seen) (log : List Logged) → IsDatabase d → table < length d.shelves → IsDraft d table ops made log
    → AllSoundShelves d.same_time d.limit (rank_ops_on d.same_time ops d.shelves)
    → IsDraft d table (ops ++ DeleteAt table numbers ∷ []) (with_shelf (delete_rows made.same_time numbers made.shelf) made) (log ++ Rows (delete_sums made.same_time numbers made.shelf) ∷ [])
unfolding table_at with_shelf
deletes d table ops numbers made log is there draft sound =
    let op : RankOp Body = DeleteAt table numbers in
    let mid = rank_ops_on d.same_time ops d.shelves in
    let s = shelf_at mid table in
    let there_mid : table < length mid = omega (arith, there, ops-length d.same_time ops d.shelves) in
    let lists = delete_sums d.same_time numbers s in
    subst (λ (m : Seen). IsDraft d table (ops ++ op ∷ []) (with_shelf (delete_rows m.same_time numbers m.shelf) m) (log ++ Rows (delete_sums m.same_time numbers m.shelf) ∷ [])) (sym draft.seen)
    (one_more d table ops op made (with_shelf (delete_rows d.same_time numbers s) (table_at d table)) log (log ++ Rows lists ∷ []) draft
    (ap (λ (u : Shelf Body). with_shelf u (table_at d table)) (sym (deleted d.same_time table numbers mid there_mid)))
    (λ column within. (
      get_or lists column [],
      (
        log-more log (Rows lists) column ∙ ap (λ (l : List Sum). all_noted log column ++ l) (noted-rows lists column),
        subst (λ (steps : List (List (Operation Body))). IsSummed d.same_time (column_at s.columns column) (get_or steps column []) (get_or lists column [])) (sym (delete-op_steps d.same_time table numbers mid))
            (deleted-chain d.same_time d.limit numbers s column (sound-at d.same_time d.limit mid table sound there_mid) is.low (omega (arith, within, ops-columns d.same_time table ops d.shelves))),
      ),
    )))

-- ---- an operation on another table

pub elsewhere : (d : Database) (table : ℕ) (ops : List (RankOp Body)) (op : RankOp Body) (made : Seen) (log : List Logged) → IsDatabase d → table < length d.shelves → IsDraft d table ops made log
    → AllSoundShelves d.same_time d.limit (rank_ops_on d.same_time ops d.shelves) → eqb (op_table op) table ≡ false → IsDraft d table (ops ++ op ∷ []) made log
unfolding IsSummed
elsewhere d table ops op made log is there draft sound other =
    let mid = rank_ops_on d.same_time ops d.shelves in
    one_more d table ops op made made log log draft
    (draft.seen ∙ ap (λ (u : Shelf Body). with_shelf u (table_at d table)) (sym (op-elsewhere d.same_time op mid table other)))
    (λ column within. (
      [],
      (
        sym (append-nil (all_noted log column)),
        subst (λ (steps : List (List (Operation Body))). IsSummed d.same_time (column_at (shelf_at mid table).columns column) (get_or steps column []) []) (sym (steps-elsewhere d.same_time op mid table other))
            (low-mid d table ops column is there within sound, refl),
      ),
    ))
