-- What is seen of a table's fields, before and after its operations.
use Rattle.std.proofs.Common.{◌≡◌, ℕ, suc, zero, ◌+◌, ◌/◌, ◌<◌, ◌≤◌, ◌^◌, Bool, true, false, List, [], ◌∷◌, ◌++◌, length, get_or, replicate, set, remove, refl, ap, ap₂, ◌∙◌, sym, subst, arith, add-one}
use Rattle.tree_model.proofs.CarriedRanks.{false_is_true}
use Rattle.std.proofs.lemmas.List.{length-replicate, length-map, get_or-replicate, ext_get_or, length-append}
use Rattle.std.proofs.lemmas.List.Edits.{length-remove}
use Rattle.mope_base.specs.declared.body.Body.{Body}
use Rattle.tree_model.specs.declared.Place.{Place}
use Rattle.tree_model.specs.declared.Place.TheVariants.{Found, Gap}
use Rattle.tree_model.specs.Trees.{size, height, leaf, IsPlaceOf}
use Rattle.tree_model.specs.Places.{IsIncreasing, IsBelowAll, holds}
use Rattle.tree_model.specs.Columns.{Column, empty_column, items_of}
use Rattle.tree_model.specs.Tallies.{counts}
use Rattle.code_changes.specs.Columns.{counts_of, codes_of}
use Rattle.ope_tree.specs.Listed.{count_at}
use Rattle.ope_tree.specs.Conditions.{HasRoom}
use Rattle.ope_tree.specs.Seen.{empty_seen}
use Rattle.column_index.specs.Entries.{sorted}
use Rattle.table_model.specs.Stores.{Shelf, empty_shelf}
use Rattle.table_model.specs.Changes.{insert_row, delete_row, lay_column}
use Rattle.table_model.specs.Soundness.{kept_numbers, column_at, FitsRows}
use Rattle.table_model.specs.ShelfSoundness.{AllFull, SoundShelf}
use Rattle.table_model.specs.Fitting.{AllPlaced}
use Rattle.table_model.proofs.Deleted.{rising-front}
use Rattle.table_model.proofs.ShelfSoundOps.{operations_keep_shelf, empty_shelf_is_sound, shelf_fits_rows}
use Rattle.enc_table.specs.declared.columns.Column.{Column as Stored}
use Rattle.enc_table.specs.declared.stamps.Stamps.{Stamps}
use Rattle.enc_table.specs.Seen.{Seen, IsTable, emptied, spent_table, with_shelf, with_stamps, new_table, no_stamps}
use Rattle.enc_table.specs.Stored.{no_column, stored_at, codes_in, bodies_in, ranks_in, ranks_among, joined, kept_in, trees_in, shelf_in}
use Rattle.enc_table.specs.Held.{IsHeld, IsLaid, FitsAdd, entries_of}
use Rattle.enc_table.specs.Fields.{AreHeld, seen_in, AreFields, place_at, FitAdds, AreAdded, AreDropped, AreCopied}
use Rattle.enc_table.proofs.TableLists.{trees-at, length-trees}
use Rattle.enc_table.proofs.TableMaking.{stored-none}
use Rattle.enc_table.proofs.KeptRows.{KeptIs, length-numbers}
use Rattle.enc_table.proofs.KeptSteps.{kept-held, held-added, inserted-shelf, same-columns}
use Rattle.enc_table.proofs.KeptDrops.{shelf-rise, delete-next, delete-width, held-dropped, deleted-shelf}
use Rattle.enc_table.proofs.KeptLays.{lay-next, lay-width, held-laid, laid-shelf}

-- ---- without rows

not_held : {A : Type 0} (x : ℕ) → holds x [] ≡ true → A
unfolding holds
not_held x h = false_is_true h

pub held-none : IsHeld [] no_column
unfolding no_column empty_seen codes_in ranks_in ranks_among entries_of sorted empty_column height
held-none =
    record { many = refl; coded = record { coded = refl; within = λ rank h. not_held rank h }; indexed = refl; fresh = refl; short = omega arith }

pub held-replicate : (n : ℕ) → AreHeld [] (replicate n no_column)
held-replicate n = record { each = λ i h. subst (IsHeld []) (sym (stored-none n i)) held-none }

kept-replicate : (n : ℕ) → kept_in [] (replicate n no_column) ≡ []
unfolding kept_in joined bodies_in no_column
kept-replicate zero = refl
kept-replicate (suc n) = refl

trees-replicate : (n : ℕ) → trees_in (replicate n no_column) ≡ replicate n (empty_column Body)
unfolding trees_in no_column empty_seen
trees-replicate zero = refl
trees-replicate (suc n) = ap (λ (cs : List (Column Body)). empty_column Body ∷ cs) (trees-replicate n)

bare_shelf : ℕ → ℕ → Shelf Body
bare_shelf next n = record { kept = []; next = next; columns = replicate n (empty_column Body) }

shelf-replicate : (next n : ℕ) → shelf_in [] next (replicate n no_column) ≡ bare_shelf next n
unfolding shelf_in bare_shelf
shelf-replicate next n =
    ap₂ (λ (rows : List _) (cs : List (Column Body)). let s : Shelf Body = record { kept = rows; next = next; columns = cs } in s) (kept-replicate n) (trees-replicate n)

emptied-shelf : (numbers : List ℕ) (next : ℕ) (cs : List Stored) → emptied (shelf_in numbers next cs) ≡ bare_shelf next (length cs)
unfolding emptied shelf_in bare_shelf
emptied-shelf numbers next cs = ap (bare_shelf next) (length-trees cs)

emptied-bare : (next n : ℕ) → emptied (bare_shelf next n) ≡ bare_shelf next n
unfolding emptied bare_shelf
emptied-bare next n = ap (bare_shelf next) (length-replicate n (empty_column Body))

bare-sound : (same_time : Bool) (limit next n : ℕ) → SoundShelf Body same_time limit (bare_shelf next n)
unfolding bare_shelf empty_shelf kept_numbers AllFull IsIncreasing IsBelowAll
bare-sound same_time limit next n =
    let first = empty_shelf_is_sound Body same_time limit n in
    record { few = omega arith; numbered = (tt, tt); full = tt; columns = first.columns }

bare-width : (next n : ℕ) → length (bare_shelf next n).columns ≡ n
unfolding bare_shelf
bare-width next n = length-replicate n (empty_column Body)

bare-next : (next n : ℕ) → (bare_shelf next n).next ≡ next
unfolding bare_shelf
bare-next next n = refl

-- a table without rows, spent or not
bare-table : (same_time : Bool) (limit : ℕ) (stamps : Stamps) (next n : ℕ) (spent : Bool) → limit ≤ 1048576 → 1 ≤ n → n ≤ 8 → next ≤ 2 ^ 63
    → IsTable (record { shelf = bare_shelf next n; same_time = same_time; limit = limit; stamps = stamps; spent = spent })
bare-table same_time limit stamps next n spent low some narrow numbers =
    record {
      sound = bare-sound same_time limit next n;
      some = omega (arith, some, bare-width next n);
      narrow = omega (arith, narrow, bare-width next n);
      low = low;
      numbers = subst (λ (m : ℕ). m ≤ 2 ^ 63) (sym (bare-next next n)) numbers;
      gone = λ _. sym (emptied-bare next n);
    }

bare-fields : (same_time : Bool) (limit : ℕ) (stamps : Stamps) (next n : ℕ) (spent : Bool) → limit ≤ 1048576 → 1 ≤ n → n ≤ 8 → next ≤ 2 ^ 63
    → AreFields same_time limit stamps next [] (replicate n no_column) spent
bare-fields same_time limit stamps next n spent low some narrow numbers =
    record {
      table = subst (λ (s : Shelf Body). IsTable (record { shelf = s; same_time = same_time; limit = limit; stamps = stamps; spent = spent })) (sym (shelf-replicate next n)) (bare-table same_time limit stamps next n spent low some narrow numbers);
      held = held-replicate n;
    }

pub new-fields : (same_time : Bool) (limit n : ℕ) (numbers : List ℕ) (cs : List Stored) → limit ≤ 1048576 → 1 ≤ n → n ≤ 8 → numbers ≡ [] → cs ≡ replicate n no_column
    → AreFields same_time limit no_stamps 1 numbers cs false
new-fields same_time limit n numbers cs low some narrow none all =
    subst (λ (ns : List ℕ). AreFields same_time limit no_stamps 1 ns cs false) (sym none)
    (subst (λ (ds : List Stored). AreFields same_time limit no_stamps 1 [] ds false) (sym all) (bare-fields same_time limit no_stamps 1 n false low some narrow (omega arith)))

pub new-seen : (same_time : Bool) (limit n : ℕ) (numbers : List ℕ) (cs : List Stored) → numbers ≡ [] → cs ≡ replicate n no_column → seen_in same_time limit no_stamps 1 numbers cs false ≡ new_table n same_time limit
unfolding new_table empty_shelf bare_shelf
new-seen same_time limit n numbers cs none all =
    ap₂ (λ (ns : List ℕ) (ds : List Stored). seen_in same_time limit no_stamps 1 ns ds false) none all
    ∙ ap (λ (s : Shelf Body). let t : Seen = record { shelf = s; same_time = same_time; limit = limit; stamps = no_stamps; spent = false } in t) (shelf-replicate 1 n)

shelf-width : (numbers : List ℕ) (next : ℕ) (cs : List Stored) → length (shelf_in numbers next cs).columns ≡ length cs
unfolding shelf_in
shelf-width numbers next cs = length-trees cs

shelf-next : (numbers : List ℕ) (next : ℕ) (cs : List Stored) → (shelf_in numbers next cs).next ≡ next
unfolding shelf_in
shelf-next numbers next cs = refl

-- what an error leaves
pub spent-fields : (same_time : Bool) (limit : ℕ) (stamps : Stamps) (next : ℕ) (numbers : List ℕ) (cs : List Stored) (spent : Bool) (rest : List ℕ) (after : List Stored) → AreFields same_time limit stamps next numbers cs spent → rest ≡ [] → after ≡ replicate (length cs) no_column
    → AreFields same_time limit stamps next rest after true
spent-fields same_time limit stamps next numbers cs spent rest after is none all =
    let table = is.table in
    let wide = shelf-width numbers next cs in
    subst (λ (ns : List ℕ). AreFields same_time limit stamps next ns after true) (sym none)
    (subst (λ (ds : List Stored). AreFields same_time limit stamps next [] ds true) (sym all)
    (bare-fields same_time limit stamps next (length cs) true table.low (omega (arith, table.some, wide)) (omega (arith, table.narrow, wide)) (subst (λ (n : ℕ). n ≤ 2 ^ 63) (shelf-next numbers next cs) table.numbers)))

pub spent-seen : (same_time : Bool) (limit : ℕ) (stamps : Stamps) (next : ℕ) (numbers : List ℕ) (cs : List Stored) (spent : Bool) (rest : List ℕ) (after : List Stored) → rest ≡ [] → after ≡ replicate (length cs) no_column
    → seen_in same_time limit stamps next rest after true ≡ spent_table (seen_in same_time limit stamps next numbers cs spent)
unfolding spent_table
spent-seen same_time limit stamps next numbers cs spent rest after none all =
    ap₂ (λ (ns : List ℕ) (ds : List Stored). seen_in same_time limit stamps next ns ds true) none all
    ∙ ap (λ (s : Shelf Body). let t : Seen = record { shelf = s; same_time = same_time; limit = limit; stamps = stamps; spent = true } in t) (shelf-replicate next (length cs) ∙ sym (emptied-shelf numbers next cs))

-- a spent table is what is left of it
pub spent-already : (t : Seen) → IsTable t → t.spent ≡ true → t ≡ spent_table t
unfolding spent_table
spent-already t is spent =
    ap₂ (λ (s : Shelf Body) (b : Bool). let u : Seen = record { shelf = s; same_time = t.same_time; limit = t.limit; stamps = t.stamps; spent = b } in u) (is.gone spent) spent

-- ---- another shelf

true_is_false : {A : Type 0} (b : Bool) → b ≡ false → b ≡ true → A
true_is_false b fresh e = false_is_true (sym fresh ∙ e)

with-table : (same_time : Bool) (limit : ℕ) (stamps : Stamps) (spent : Bool) (s t : Shelf Body) → IsTable (record { shelf = s; same_time = same_time; limit = limit; stamps = stamps; spent = spent }) → spent ≡ false
    → SoundShelf Body same_time limit t → length t.columns ≡ length s.columns → t.next ≤ 2 ^ 63 → IsTable (record { shelf = t; same_time = same_time; limit = limit; stamps = stamps; spent = spent })
with-table same_time limit stamps spent s t is fresh sound wide numbers =
    record { sound = sound; some = omega (arith, is.some, wide); narrow = omega (arith, is.narrow, wide); low = is.low; numbers = numbers; gone = λ e. true_is_false spent fresh e }

other-table : (same_time : Bool) (limit : ℕ) (stamps : Stamps) (spent : Bool) (s t : Shelf Body) → s ≡ t → IsTable (record { shelf = s; same_time = same_time; limit = limit; stamps = stamps; spent = spent }) → IsTable (record { shelf = t; same_time = same_time; limit = limit; stamps = stamps; spent = spent })
other-table same_time limit stamps spent s t e is = subst (λ (r : Shelf Body). IsTable (record { shelf = r; same_time = same_time; limit = limit; stamps = stamps; spent = spent })) e is

shelf-seen : (same_time : Bool) (limit : ℕ) (stamps : Stamps) (next after_next : ℕ) (numbers rest : List ℕ) (cs after : List Stored) (spent : Bool) (t : Shelf Body) → t ≡ shelf_in rest after_next after
    → seen_in same_time limit stamps after_next rest after spent ≡ with_shelf t (seen_in same_time limit stamps next numbers cs spent)
unfolding with_shelf
shelf-seen same_time limit stamps next after_next numbers rest cs after spent t e =
    ap (λ (s : Shelf Body). let u : Seen = record { shelf = s; same_time = same_time; limit = limit; stamps = stamps; spent = spent } in u) (sym e)

-- ---- one row more

placed-at : (cs : List (Column Body)) (places : List Place) (i : ℕ) → AllPlaced cs places → i < length cs → IsPlaceOf (size (column_at cs i).tree) (place_at places i)
unfolding AllPlaced column_at
placed-at [] places i placed h = absurd (omega (arith, h))
placed-at (c ∷ cs) [] i placed h = absurd placed
placed-at (c ∷ cs) (p ∷ places) zero placed h = placed.0
placed-at (c ∷ cs) (p ∷ places) (suc i) placed h = placed-at cs places i placed.1 (omega (arith, h))

pub length-placed : (cs : List (Column Body)) (places : List Place) → AllPlaced cs places → length places ≡ length cs
unfolding AllPlaced
length-placed [] [] placed = refl
length-placed [] (p ∷ places) placed = absurd placed
length-placed (c ∷ cs) [] placed = absurd placed
length-placed (c ∷ cs) (p ∷ places) placed = ap suc (length-placed cs places placed.1)

room : (c : Column Body) (place : Place) (limit : ℕ) → limit ≤ 1048576 → ((rank : ℕ) → get_or (counts (items_of c)) rank 0 ≤ limit) → HasRoom c place
unfolding count_at counts_of counts
room c (Found rank) limit low counted = omega (arith, low, counted rank)
room c (Gap rank) limit low counted = tt

few-items : (n most limit : ℕ) → n ≤ most → most ≤ limit + limit / 2 → limit ≤ 1048576 → n < 2 ^ 31
few-items n most limit a b c = omega (arith, a, b, c)

pub fit-adds : (same_time : Bool) (limit next : ℕ) (numbers : List ℕ) (cs : List Stored) (places : List Place) → SoundShelf Body same_time limit (shelf_in numbers next cs) → limit ≤ 1048576 → AreHeld numbers cs → AllPlaced (trees_in cs) places → FitAdds numbers next places cs
unfolding shelf_in
fit-adds same_time limit next numbers cs places sound low held placed =
    record {
      each = λ i h.
          let k : i < length (trees_in cs) = omega (arith, h, length-trees cs) in
          let fits = subst (λ (c : Column Body). FitsRows Body limit c) (trees-at cs i) (shelf_fits_rows same_time limit (shelf_in numbers next cs) i sound k).fits in
          record {
            held = held.each i h;
            rise = shelf-rise same_time limit next numbers cs sound held;
            is_place = subst (λ (c : Column Body). IsPlaceOf (size c.tree) (place_at places i)) (trees-at cs i) (placed-at (trees_in cs) places i placed k);
            few = few-items (size (stored_at cs i).tree.column.tree) (stored_at cs i).tree.column.most limit fits.items fits.most low;
            room = room (stored_at cs i).tree.column (place_at places i) limit low fits.counted;
          };
    }

pub shelf-many : (numbers : List ℕ) (next : ℕ) (cs : List Stored) → AreHeld numbers cs → length (shelf_in numbers next cs).kept ≡ length numbers
unfolding shelf_in
shelf-many numbers next cs held = (kept-held numbers cs held).many

pub shelf-numbers : (numbers : List ℕ) (next : ℕ) (cs : List Stored) → AreHeld numbers cs → kept_numbers (shelf_in numbers next cs).kept ≡ numbers
unfolding shelf_in
shelf-numbers numbers next cs held = (kept-held numbers cs held).numbers_are

pub rise-of : (same_time : Bool) (limit : ℕ) (stamps : Stamps) (next : ℕ) (numbers : List ℕ) (cs : List Stored) (spent : Bool) → AreFields same_time limit stamps next numbers cs spent → IsIncreasing numbers
rise-of same_time limit stamps next numbers cs spent is = rising-front numbers (next ∷ []) (shelf-rise same_time limit next numbers cs is.table.sound is.held)

insert-width : (same_time : Bool) (limit next : ℕ) (numbers : List ℕ) (cs after : List Stored) → length after ≡ length cs → length (shelf_in (numbers ++ next ∷ []) (suc next) after).columns ≡ length (shelf_in numbers next cs).columns
unfolding shelf_in
insert-width same_time limit next numbers cs after many = length-trees after ∙ many ∙ sym (length-trees cs)

pub trees-placed : (numbers : List ℕ) (next : ℕ) (cs : List Stored) (places : List Place) → AllPlaced (shelf_in numbers next cs).columns places → AllPlaced (trees_in cs) places
unfolding shelf_in
trees-placed numbers next cs places placed = placed

-- what a row more makes of the fields
pub record AddsRow (same_time : Bool) (limit : ℕ) (stamps : Stamps) (next : ℕ) (numbers : List ℕ) (cs : List Stored) (spent : Bool) (places : List Place) (bodies : List Body) (later : ℕ) (rest : List ℕ) (after : List Stored) : Type 0 where
  pub fields : AreFields same_time limit stamps later rest after spent
  pub seen : seen_in same_time limit stamps later rest after spent ≡ with_shelf (insert_row same_time places bodies (shelf_in numbers next cs)) (seen_in same_time limit stamps next numbers cs spent)

pub adds-row : (same_time : Bool) (limit : ℕ) (stamps : Stamps) (next : ℕ) (numbers : List ℕ) (cs : List Stored) (spent : Bool) (places : List Place) (bodies : List Body) (rest : List ℕ) (after : List Stored)
    → AreFields same_time limit stamps next numbers cs spent → spent ≡ false → AllPlaced (shelf_in numbers next cs).columns places → length bodies ≡ length (shelf_in numbers next cs).columns → length numbers < limit → next < 2 ^ 63
    → rest ≡ numbers ++ next ∷ [] → length after ≡ length cs → AreAdded same_time numbers next places bodies cs after → AddsRow same_time limit stamps next numbers cs spent places bodies (next + 1) rest after
adds-row same_time limit stamps next numbers cs spent places bodies rest after is fresh placed wide few below last many added =
    let s = shelf_in numbers next cs in
    let width = shelf-width numbers next cs in
    let sound = is.table.sound in
    let result = inserted-shelf same_time limit next numbers cs after places bodies sound is.held (trees-placed numbers next cs places placed) (length-placed s.columns places placed ∙ width) (wide ∙ width) few many added in
    subst (λ (ns : List ℕ). AddsRow same_time limit stamps next numbers cs spent places bodies (next + 1) ns after) (sym last)
    (subst (λ (n : ℕ). AddsRow same_time limit stamps next numbers cs spent places bodies n (numbers ++ next ∷ []) after) (sym (add-one next))
    (record {
      fields = record {
        table = with-table same_time limit stamps spent s (shelf_in (numbers ++ next ∷ []) (suc next) after) is.table fresh
            (subst (SoundShelf Body same_time limit) result ((operations_keep_shelf same_time limit s sound).inserts places bodies placed wide (omega (arith, few, shelf-many numbers next cs is.held))))
            (insert-width same_time limit next numbers cs after many)
            (subst (λ (n : ℕ). n ≤ 2 ^ 63) (sym (shelf-next (numbers ++ next ∷ []) (suc next) after)) (omega (arith, below)));
        held = held-added same_time numbers next places bodies cs after many added;
      };
      seen = shelf-seen same_time limit stamps next (suc next) numbers (numbers ++ next ∷ []) cs after spent (insert_row same_time places bodies s) result;
    }))

-- ---- one row fewer

delete-seen-width : (numbers rest : List ℕ) (next : ℕ) (cs after : List Stored) → length after ≡ length cs → length (shelf_in rest next after).columns ≡ length (shelf_in numbers next cs).columns
unfolding shelf_in
delete-seen-width numbers rest next cs after many = length-trees after ∙ many ∙ sym (length-trees cs)

pub record ShelfBecomes (same_time : Bool) (limit : ℕ) (stamps : Stamps) (next : ℕ) (numbers : List ℕ) (cs : List Stored) (spent : Bool) (t : Shelf Body) (rest : List ℕ) (after : List Stored) : Type 0 where
  pub fields : AreFields same_time limit stamps next rest after spent
  pub seen : seen_in same_time limit stamps next rest after spent ≡ with_shelf t (seen_in same_time limit stamps next numbers cs spent)

shelf-becomes : (same_time : Bool) (limit : ℕ) (stamps : Stamps) (next : ℕ) (numbers : List ℕ) (cs : List Stored) (spent : Bool) (t : Shelf Body) (rest : List ℕ) (after : List Stored)
    → AreFields same_time limit stamps next numbers cs spent → spent ≡ false → SoundShelf Body same_time limit t → t ≡ shelf_in rest next after → length after ≡ length cs → AreHeld rest after
    → ShelfBecomes same_time limit stamps next numbers cs spent t rest after
shelf-becomes same_time limit stamps next numbers cs spent t rest after is fresh sound result many held =
    record {
      fields = record {
        table = with-table same_time limit stamps spent (shelf_in numbers next cs) (shelf_in rest next after) is.table fresh (subst (SoundShelf Body same_time limit) result sound)
            (delete-seen-width numbers rest next cs after many)
            (subst (λ (n : ℕ). n ≤ 2 ^ 63) (shelf-next numbers next cs ∙ sym (shelf-next rest next after)) is.table.numbers);
        held = held;
      };
      seen = shelf-seen same_time limit stamps next next numbers rest cs after spent t result;
    }

pub drops-row : (same_time : Bool) (limit : ℕ) (stamps : Stamps) (next : ℕ) (numbers : List ℕ) (cs : List Stored) (spent : Bool) (position number : ℕ) (rest : List ℕ) (after : List Stored)
    → AreFields same_time limit stamps next numbers cs spent → spent ≡ false → position < length numbers → get_or numbers position 0 ≡ number
    → rest ≡ remove numbers position → length after ≡ length cs → AreDropped same_time (remove numbers position) position cs after
    → ShelfBecomes same_time limit stamps next numbers cs spent (delete_row same_time number (shelf_in numbers next cs)) rest after
drops-row same_time limit stamps next numbers cs spent position number rest after is fresh within there left many dropped =
    let s = shelf_in numbers next cs in
    let sound = is.table.sound in
    subst (λ (ns : List ℕ). ShelfBecomes same_time limit stamps next numbers cs spent (delete_row same_time number s) ns after) (sym left)
    (shelf-becomes same_time limit stamps next numbers cs spent (delete_row same_time number s) (remove numbers position) after is fresh ((operations_keep_shelf same_time limit s sound).deletes number)
    (deleted-shelf same_time limit next numbers cs after position number sound is.held within there many dropped) many (held-dropped same_time (remove numbers position) position cs after many dropped))

pub lays-column : (same_time : Bool) (limit : ℕ) (stamps : Stamps) (next : ℕ) (numbers : List ℕ) (cs : List Stored) (spent : Bool) (column : ℕ) (d : Stored) (after : List Stored)
    → AreFields same_time limit stamps next numbers cs spent → spent ≡ false → after ≡ set cs column d → IsLaid same_time numbers (stored_at cs column) (stored_at after column) → length after ≡ length cs
    → ShelfBecomes same_time limit stamps next numbers cs spent (lay_column same_time column (shelf_in numbers next cs)) numbers after
lays-column same_time limit stamps next numbers cs spent column d after is fresh others laid many =
    let s = shelf_in numbers next cs in
    let sound = is.table.sound in
    shelf-becomes same_time limit stamps next numbers cs spent (lay_column same_time column s) numbers after is fresh ((operations_keep_shelf same_time limit s sound).lays column)
    (laid-shelf same_time limit next numbers cs column d after sound is.held others laid many) many (held-laid same_time numbers cs column d after is.held others laid many)

-- ---- a copy

copied-kept : (numbers : List ℕ) (cs after : List Stored) → length after ≡ length cs → AreCopied numbers cs after → kept_in numbers after ≡ kept_in numbers cs
unfolding kept_in stored_at
copied-kept numbers [] [] many copied = refl
copied-kept numbers [] (d ∷ after) many copied = absurd (omega (arith, many))
copied-kept numbers (c ∷ cs) [] many copied = absurd (omega (arith, many))
copied-kept numbers (c ∷ cs) (d ∷ after) many copied =
    let first = copied.each 0 (omega arith) in
    ap₂ (λ (bs : List Body) (ns : List ℕ). joined bs ns (kept_in numbers after)) first.bodies_are first.ranks_are
    ∙ ap (joined (bodies_in c) (ranks_in c)) (copied-kept numbers cs after (omega (arith, many)) (record { each = λ i h. copied.each (suc i) (omega (arith, h)) }))

copied-trees : (numbers : List ℕ) (cs after : List Stored) → length after ≡ length cs → AreCopied numbers cs after → trees_in after ≡ trees_in cs
copied-trees numbers cs after many copied =
    same-columns (trees_in after) (trees_in cs) (length-trees after ∙ many ∙ sym (length-trees cs))
    (λ i h. trees-at after i ∙ (copied.each i (omega (arith, h, length-trees after, many))).column_is ∙ sym (trees-at cs i))

pub copied-shelf : (numbers : List ℕ) (next : ℕ) (cs after : List Stored) → length after ≡ length cs → AreCopied numbers cs after → shelf_in numbers next after ≡ shelf_in numbers next cs
unfolding shelf_in
copied-shelf numbers next cs after many copied =
    ap₂ (λ (rows : List _) (trees : List (Column Body)). let s : Shelf Body = record { kept = rows; next = next; columns = trees } in s) (copied-kept numbers cs after many copied) (copied-trees numbers cs after many copied)

pub copied-fields : (same_time : Bool) (limit : ℕ) (stamps : Stamps) (next : ℕ) (numbers : List ℕ) (cs : List Stored) (spent : Bool) (rest : List ℕ) (after : List Stored)
    → AreFields same_time limit stamps next numbers cs spent → spent ≡ false → rest ≡ numbers → length after ≡ length cs → AreCopied numbers cs after → AreFields same_time limit stamps next rest after false
copied-fields same_time limit stamps next numbers cs spent rest after is fresh same many copied =
    subst (λ (ns : List ℕ). AreFields same_time limit stamps next ns after false) (sym same)
    (record {
      table = subst (λ (b : Bool). IsTable (seen_in same_time limit stamps next numbers after b)) fresh
          (other-table same_time limit stamps spent (shelf_in numbers next cs) (shelf_in numbers next after) (sym (copied-shelf numbers next cs after many copied)) is.table);
      held = record { each = λ i h. (copied.each i (omega (arith, h, many))).held };
    })

pub copied-seen : (same_time : Bool) (limit : ℕ) (stamps : Stamps) (next : ℕ) (numbers : List ℕ) (cs : List Stored) (spent : Bool) (rest : List ℕ) (after : List Stored)
    → spent ≡ false → rest ≡ numbers → length after ≡ length cs → AreCopied numbers cs after → seen_in same_time limit stamps next rest after false ≡ seen_in same_time limit stamps next numbers cs spent
copied-seen same_time limit stamps next numbers cs spent rest after fresh same many copied =
    ap (λ (ns : List ℕ). seen_in same_time limit stamps next ns after false) same
    ∙ ap₂ (λ (s : Shelf Body) (b : Bool). let t : Seen = record { shelf = s; same_time = same_time; limit = limit; stamps = stamps; spent = b } in t) (copied-shelf numbers next cs after many copied) (sym fresh)

-- ---- what is seen of the rows

pub numbers-seen : (same_time : Bool) (limit : ℕ) (stamps : Stamps) (next : ℕ) (numbers : List ℕ) (cs : List Stored) (spent : Bool) (t : Seen) → AreFields same_time limit stamps next numbers cs spent → seen_in same_time limit stamps next numbers cs spent ≡ t → numbers ≡ kept_numbers t.shelf.kept
numbers-seen same_time limit stamps next numbers cs spent t is e = sym (shelf-numbers numbers next cs is.held) ∙ ap (λ (u : Seen). kept_numbers u.shelf.kept) e

pub many-seen : (same_time : Bool) (limit : ℕ) (stamps : Stamps) (next : ℕ) (numbers : List ℕ) (cs : List Stored) (spent : Bool) (t : Seen) → AreFields same_time limit stamps next numbers cs spent → seen_in same_time limit stamps next numbers cs spent ≡ t → length numbers ≡ length t.shelf.kept
many-seen same_time limit stamps next numbers cs spent t is e = sym (shelf-many numbers next cs is.held) ∙ ap (λ (u : Seen). length u.shelf.kept) e

pub width-seen : (same_time : Bool) (limit : ℕ) (stamps : Stamps) (next : ℕ) (numbers : List ℕ) (cs : List Stored) (spent : Bool) (t : Seen) → seen_in same_time limit stamps next numbers cs spent ≡ t → length cs ≡ length t.shelf.columns
width-seen same_time limit stamps next numbers cs spent t e = sym (shelf-width numbers next cs) ∙ ap (λ (u : Seen). length u.shelf.columns) e

pub next-seen : (same_time : Bool) (limit : ℕ) (stamps : Stamps) (next : ℕ) (numbers : List ℕ) (cs : List Stored) (spent : Bool) (t : Seen) → seen_in same_time limit stamps next numbers cs spent ≡ t → next ≡ t.shelf.next
next-seen same_time limit stamps next numbers cs spent t e = sym (shelf-next numbers next cs) ∙ ap (λ (u : Seen). u.shelf.next) e

pub narrow-of : (same_time : Bool) (limit : ℕ) (stamps : Stamps) (next : ℕ) (numbers : List ℕ) (cs : List Stored) (spent : Bool) → AreFields same_time limit stamps next numbers cs spent → length cs ≤ 8
narrow-of same_time limit stamps next numbers cs spent is = omega (arith, is.table.narrow, shelf-width numbers next cs)
