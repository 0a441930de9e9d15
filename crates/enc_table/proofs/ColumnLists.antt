-- Lists of cells, codes and entries where rows come and go.
use Rattle.std.proofs.Common.{◌≡◌, ◌≢◌, ℕ, suc, zero, ◌<◌, ◌≤◌, Bool, true, false, eqb, ◌&&◌, ◌||◌, List, [], ◌∷◌, ◌++◌, map, length, get_or, insert, remove, refl, ap, ap₂, ◌∙◌, sym, subst, inl, inr, ◌⊎◌, ne_eqb, eq-eqb, arith}
use Rattle.std.proofs.lemmas.Bool.{cases_eq, cases_Bool}
use Rattle.mope_base.specs.declared.body.Body.{Body}
use Rattle.tree_model.specs.Trees.{Tree, size}
use Rattle.tree_model.specs.Places.{holds, IsIncreasing, IsBelowAll}
use Rattle.tree_model.proofs.Ordered.{holds-cons_eq, holds-cons_ne, holds-at, holds-none, IsIncreasing-nil}
use Rattle.tree_model.proofs.TalliedRows.{held-cons, lt_of_held}
use Rattle.path_code.specs.Sums.{item_code}
use Rattle.code_changes.specs.Changes.{IsIn}
use Rattle.code_changes.specs.Columns.{codes_of}
use Rattle.code_changes.proofs.ItemCodes.{length-codes_of, get_or-codes_of}
use Rattle.code_changes.proofs.Orders.{IsIncreasing-rest, IsBelowAll-first, IsIncreasing-cons}
use Rattle.column_index.specs.declared.entry.Entry.{Entry}
use Rattle.column_index.specs.Entries.{holds_entry, is_same, sorted, put, without}
use Rattle.column_index.proofs.Sorting.{holds-sorted, sorted-push, sorted-fewer}
use Rattle.enc_table.specs.declared.cell.Cell.{Cell}
use Rattle.enc_table.specs.Held.{entries_of, moved_cell, AreCoded}
use Rattle.enc_table.specs.Stored.{codes_in, ranks_among}
use Rattle.enc_table.proofs.ItemRanks.{AllWithinTree}

-- ---- cells

abbrev pub bodies_of_cells : List Cell → List Body
bodies_of_cells cells = map (λ (cell : Cell). cell.body) cells

pub codes-moved : (to : ℕ → ℕ) (cells : List Cell) → codes_in (map (moved_cell to) cells) ≡ map to (codes_in cells)
unfolding codes_in moved_cell
codes-moved to [] = refl
codes-moved to (cell ∷ cells) = ap (λ (rest : List ℕ). to cell.code ∷ rest) (codes-moved to cells)

pub bodies-moved : (to : ℕ → ℕ) (cells : List Cell) → bodies_of_cells (map (moved_cell to) cells) ≡ bodies_of_cells cells
unfolding moved_cell
bodies-moved to [] = refl
bodies-moved to (cell ∷ cells) = ap (λ (rest : List Body). cell.body ∷ rest) (bodies-moved to cells)

pub map-last : {A B : Type 0} (f : A → B) (xs : List A) (x : A) → map f (xs ++ x ∷ []) ≡ map f xs ++ f x ∷ []
map-last f [] x = refl
map-last f (y ∷ ys) x = ap (λ (rest : List _). f y ∷ rest) (map-last f ys x)

pub map-remove : {A B : Type 0} (f : A → B) (xs : List A) (place : ℕ) → map f (remove xs place) ≡ remove (map f xs) place
map-remove f [] zero = refl
map-remove f [] (suc place) = refl
map-remove f (x ∷ xs) zero = refl
map-remove f (x ∷ xs) (suc place) = ap (λ (rest : List _). f x ∷ rest) (map-remove f xs place)

pub length-map_list : {A B : Type 0} (f : A → B) (xs : List A) → length (map f xs) ≡ length xs
length-map_list f [] = refl
length-map_list f (x ∷ xs) = omega (arith, length-map_list f xs)

pub length-last : {A : Type 0} (xs : List A) (x : A) → length (xs ++ x ∷ []) ≡ suc (length xs)
length-last [] x = refl
length-last (y ∷ ys) x = omega (arith, length-last ys x)

pub length-removed : {A : Type 0} (xs : List A) (place : ℕ) → place < length xs → suc (length (remove xs place)) ≡ length xs
length-removed [] place lt = absurd (omega (arith, lt))
length-removed (x ∷ xs) zero lt = refl
length-removed (x ∷ xs) (suc place) lt = omega (arith, length-removed xs place (omega (arith, lt)))

pub length-inserted : {A : Type 0} (xs : List A) (place : ℕ) (x : A) → place ≤ length xs → length (insert xs place x) ≡ suc (length xs)
length-inserted [] zero x le = refl
length-inserted [] (suc place) x le = absurd (omega (arith, le))
length-inserted (y ∷ ys) zero x le = refl
length-inserted (y ∷ ys) (suc place) x le = omega (arith, length-inserted ys place x (omega (arith, le)))

pub get_or-mapped : {A B : Type 0} (f : A → B) (xs : List A) (place : ℕ) (x : A) (d : B) → place < length xs → get_or (map f xs) place d ≡ f (get_or xs place x)
get_or-mapped f [] place x d lt = absurd (omega (arith, lt))
get_or-mapped f (y ∷ ys) zero x d lt = refl
get_or-mapped f (y ∷ ys) (suc place) x d lt = get_or-mapped f ys place x d (omega (arith, lt))

-- ---- ranks

pub held-removed : (x : ℕ) (xs : List ℕ) (place : ℕ) → holds x (remove xs place) ≡ true → holds x xs ≡ true
held-removed x [] zero held = held
held-removed x [] (suc place) held = held
held-removed x (y ∷ ys) zero held = held-cons x y ys held
held-removed x (y ∷ ys) (suc place) held =
    elim (cases_eq y x) [
      | inl same ↦ holds-cons_eq x y ys same
      | inr other ↦ held-cons x y ys (held-removed x ys place (sym (holds-cons_ne x y (remove ys place) other) ∙ held))
    ]

held_of_last : (x y : ℕ) (xs : List ℕ) → holds x (xs ++ y ∷ []) ≡ true → (holds x xs ≡ true) ⊎ (y ≡ x)
held_of_last x y [] held = elim (cases_eq y x) [ inl same ↦ inr same | inr other ↦ inl (sym (holds-cons_ne x y [] other) ∙ held) ]
held_of_last x y (z ∷ zs) held =
    elim (cases_eq z x) [
      | inl same ↦ inl (holds-cons_eq x z zs same)
      | inr other ↦ elim (held_of_last x y zs (sym (holds-cons_ne x z (zs ++ y ∷ []) other) ∙ held)) [ inl front ↦ inl (held-cons x z zs front) | inr last ↦ inr last ]
    ]

-- one item more at the end
pub coded-last : {A : Type 0} (t : Tree A) (codes ranks : List ℕ) (rank : ℕ) → AreCoded A t codes ranks → rank < size t → AreCoded A t (codes ++ item_code t rank ∷ []) (ranks ++ rank ∷ [])
coded-last t codes ranks rank are lt = record {
  coded = ap (λ (xs : List ℕ). xs ++ item_code t rank ∷ []) are.coded ∙ sym (map-last (item_code t) ranks rank);
  within = λ other held. elim (held_of_last other rank ranks held) [ inl front ↦ are.within other front | inr last ↦ subst (λ (k : ℕ). k < size t) last lt ];
}

-- one item fewer
pub coded-removed : {A : Type 0} (t : Tree A) (codes ranks : List ℕ) (place : ℕ) → AreCoded A t codes ranks → AreCoded A t (remove codes place) (remove ranks place)
coded-removed t codes ranks place are = record {
  coded = ap (λ (xs : List ℕ). remove xs place) are.coded ∙ sym (map-remove (item_code t) ranks place);
  within = λ other held. are.within other (held-removed other ranks place held);
}

-- the code of the item of a rank is among the tree's
pub code_among : {A : Type 0} (t : Tree A) (rank : ℕ) → rank < size t → IsIn (item_code t rank) (codes_of t)
code_among t rank lt = subst (λ (code : ℕ). holds code (codes_of t) ≡ true) (get_or-codes_of t rank 0 lt) (holds-at (codes_of t) rank 0 (omega (arith, lt, length-codes_of t)))

-- ---- entries

pub entries-last : (codes numbers : List ℕ) (code number : ℕ) → length codes ≡ length numbers → entries_of (codes ++ code ∷ []) (numbers ++ number ∷ []) ≡ entries_of codes numbers ++ (record { enc = code; row = number }) ∷ []
unfolding entries_of
entries-last [] [] code number many = refl
entries-last [] (n ∷ ns) code number many = absurd (omega (arith, many))
entries-last (c ∷ cs) [] code number many = absurd (omega (arith, many))
entries-last (c ∷ cs) (n ∷ ns) code number many = ap (λ (rest : List Entry). record { enc = c; row = n } ∷ rest) (entries-last cs ns code number (omega (arith, many)))

and_or : (b c : Bool) → ((b && false) || c) ≡ c
and_or true c = refl
and_or false c = refl

absent_first : (number n : ℕ) (ns : List ℕ) → holds number (n ∷ ns) ≡ false → number ≢ n
absent_first number n ns none same = let clash : true ≡ false = sym (holds-cons_eq number n ns (sym same)) ∙ none in cc

absent_rest : (number n : ℕ) (ns : List ℕ) → holds number (n ∷ ns) ≡ false → holds number ns ≡ false
absent_rest number n ns none =
    elim (cases_Bool (holds number ns)) [
      | inl held ↦ absurd (let clash : true ≡ false = sym (held-cons number n ns held) ∙ none in cc)
      | inr gone ↦ gone
    ]

-- an entry of a row that isn't there
pub absent_entry : (code number : ℕ) (codes numbers : List ℕ) → holds number numbers ≡ false → holds_entry (record { enc = code; row = number }) (entries_of codes numbers) ≡ false
unfolding entries_of holds_entry is_same
absent_entry code number [] numbers none = refl
absent_entry code number (c ∷ cs) [] none = refl
absent_entry code number (c ∷ cs) (n ∷ ns) none =
    let other = absent_first number n ns none in
    rw (ne_eqb number n other) (and_or (eqb code c) (holds_entry (record { enc = code; row = number }) (entries_of cs ns)) ∙ absent_entry code number cs ns (absent_rest number n ns none))

pub absent_sorted : (code number : ℕ) (codes numbers : List ℕ) → holds number numbers ≡ false → holds_entry (record { enc = code; row = number }) (sorted (entries_of codes numbers)) ≡ false
absent_sorted code number codes numbers none = holds-sorted (record { enc = code; row = number }) (entries_of codes numbers) ∙ absent_entry code number codes numbers none

pub index_last : (codes numbers : List ℕ) (code number : ℕ) → length codes ≡ length numbers → put (record { enc = code; row = number }) (sorted (entries_of codes numbers)) ≡ sorted (entries_of (codes ++ code ∷ []) (numbers ++ number ∷ []))
index_last codes numbers code number many =
    sym (sorted-push (record { enc = code; row = number }) (entries_of codes numbers)) ∙ ap sorted (sym (entries-last codes numbers code number many))

-- the entry of a row among the others
record IsSplit (e : Entry) (all rest : List Entry) : Type 0 where
  pub front : List Entry
  pub back : List Entry
  pub whole : all ≡ front ++ e ∷ back
  pub others : rest ≡ front ++ back

first_inserted : (c : ℕ) (cs numbers : List ℕ) (number : ℕ) → entries_of (c ∷ cs) (insert numbers 0 number) ≡ record { enc = c; row = number } ∷ entries_of cs numbers
unfolding entries_of
first_inserted c cs [] number = refl
first_inserted c cs (n ∷ ns) number = refl

split_at : (codes numbers : List ℕ) (place number : ℕ) → place < length codes → length codes ≡ suc (length numbers) → IsSplit (record { enc = get_or codes place 0; row = number }) (entries_of codes (insert numbers place number)) (entries_of (remove codes place) numbers)
unfolding entries_of
split_at [] numbers place number lt many = absurd (omega (arith, lt))
split_at (c ∷ cs) numbers zero number lt many = record { front = []; back = entries_of cs numbers; whole = first_inserted c cs numbers number; others = refl }
split_at (c ∷ cs) [] (suc place) number lt many = absurd (omega (arith, lt, many))
split_at (c ∷ cs) (n ∷ ns) (suc place) number lt many =
    let rest = split_at cs ns place number (omega (arith, lt)) (omega (arith, many)) in
    record {
      front = record { enc = c; row = n } ∷ rest.front;
      back = rest.back;
      whole = ap (λ (es : List Entry). record { enc = c; row = n } ∷ es) rest.whole;
      others = ap (λ (es : List Entry). record { enc = c; row = n } ∷ es) rest.others;
    }

pub index_removed : (codes numbers : List ℕ) (place number : ℕ) → place < length codes → length codes ≡ suc (length numbers) → holds number numbers ≡ false
    → without (record { enc = get_or codes place 0; row = number }) (sorted (entries_of codes (insert numbers place number))) ≡ sorted (entries_of (remove codes place) numbers)
index_removed codes numbers place number lt many none =
    let e : Entry = record { enc = get_or codes place 0; row = number } in
    let parts = split_at codes numbers place number lt many in
    let gone = subst (λ (es : List Entry). holds_entry e es ≡ false) parts.others (absent_entry (get_or codes place 0) number (remove codes place) numbers none) in
    ap (λ (es : List Entry). without e (sorted es)) parts.whole ∙ sorted-fewer e parts.front parts.back gone ∙ ap sorted (sym parts.others)

-- ---- numbers

held_inserted : (numbers : List ℕ) (place number : ℕ) → place ≤ length numbers → holds number (insert numbers place number) ≡ true
held_inserted [] zero number le = holds-cons_eq number number [] refl
held_inserted [] (suc place) number le = absurd (omega (arith, le))
held_inserted (n ∷ ns) zero number le = holds-cons_eq number number (n ∷ ns) refl
held_inserted (n ∷ ns) (suc place) number le = held-cons number n (insert ns place number) (held_inserted ns place number (omega (arith, le)))

below_inserted : (v : ℕ) (numbers : List ℕ) (place number : ℕ) → place ≤ length numbers → IsBelowAll v (insert numbers place number) → IsBelowAll v numbers
unfolding IsBelowAll
below_inserted v [] place number le below = tt
below_inserted v (n ∷ ns) zero number le below = below.1
below_inserted v (n ∷ ns) (suc place) number le below = (below.0, below_inserted v ns place number (omega (arith, le)) below.1)

-- a number put among increasing ones isn't one of them
pub inserted_apart : (numbers : List ℕ) (place number : ℕ) → place ≤ length numbers → IsIncreasing (insert numbers place number) → holds number numbers ≡ false
unfolding holds
inserted_apart [] place number le rise = refl
inserted_apart (n ∷ ns) zero number le rise = holds-none number (n ∷ ns) (IsBelowAll-first number (n ∷ ns) rise)
inserted_apart (n ∷ ns) (suc place) number le rise =
    let inner = inserted_apart ns place number (omega (arith, le)) (IsIncreasing-rest n (insert ns place number) rise) in
    let less = lt_of_held n number (insert ns place number) (IsBelowAll-first n (insert ns place number) rise) (held_inserted ns place number (omega (arith, le))) in
    holds-cons_ne number n ns (omega (arith, less)) ∙ inner

pub rise_of_inserted : (numbers : List ℕ) (place number : ℕ) → place ≤ length numbers → IsIncreasing (insert numbers place number) → IsIncreasing numbers
rise_of_inserted [] place number le rise = IsIncreasing-nil
rise_of_inserted (n ∷ ns) zero number le rise = IsIncreasing-rest number (n ∷ ns) rise
rise_of_inserted (n ∷ ns) (suc place) number le rise =
    IsIncreasing-cons n ns (below_inserted n ns place number (omega (arith, le)) (IsBelowAll-first n (insert ns place number) rise)) (rise_of_inserted ns place number (omega (arith, le)) (IsIncreasing-rest n (insert ns place number) rise))
