-- Cells of which those of some rows have another code.
use Rattle.std.proofs.Common.{◌≡◌, ◌≢◌, ℕ, suc, zero, ◌+◌, ◌-◌, ◌<◌, ◌≤◌, Bool, true, false, eqb, ◌||◌, ◌&&◌, List, [], ◌∷◌, map, length, set, get_or, refl, ap, ap₂, ◌∙◌, sym, subst, inl, inr, Some, ◌⊎◌, ne_eqb, eq-eqb, arith}
use Rattle.std.specs.List.{slice_get}
use Rattle.std.proofs.lemmas.Option.{slice_get_within, get_or_from_slice_get}
use Rattle.std.proofs.lemmas.Bool.{cases_lt, cases_eq, eqb-true}
use Rattle.tree_model.specs.Places.{holds, IsIncreasing, IsBelowAll}
use Rattle.tree_model.proofs.Ordered.{holds-cons_eq, IsBelowAll-at}
use Rattle.tree_model.proofs.TalliedRows.{held-cons, lt_of_held}
use Rattle.code_changes.proofs.Orders.{IsIncreasing-rest, IsBelowAll-first, same_bool}
use Rattle.column_index.specs.declared.entry.Entry.{Entry}
use Rattle.column_index.specs.Entries.{holds_entry, is_same}
use Rattle.column_index.specs.Ranges.{IsRange}
use Rattle.column_index.proofs.Orders.{same_entry, cases_same, is_same-true}
use Rattle.enc_table.specs.declared.cell.Cell.{Cell}
use Rattle.enc_table.specs.Held.{entries_of, moved_cell}
use Rattle.enc_table.specs.Stored.{codes_in}
use Rattle.enc_table.specs.Marking.{coded_if, marked, is_number, row_at, is_row_within, has_code}

pub marked-none : (among : ℕ → Bool) (code : ℕ) (numbers : List ℕ) (cells : List Cell) → ((n : ℕ) → holds n numbers ≡ true → among n ≡ false) → marked among code numbers cells ≡ cells
unfolding marked coded_if
marked-none among code [] cells none = refl
marked-none among code (n ∷ ns) [] none = refl
marked-none among code (n ∷ ns) (cell ∷ cells) none =
    rw (none n (holds-cons_eq n n ns refl)) (ap (λ (rest : List Cell). cell ∷ rest) (marked-none among code ns cells (λ m held. none m (held-cons m n ns held))))

pub marked-same : (p q : ℕ → Bool) (code : ℕ) (numbers : List ℕ) (cells : List Cell) → ((n : ℕ) → p n ≡ q n) → marked p code numbers cells ≡ marked q code numbers cells
unfolding marked
marked-same p q code [] cells same = refl
marked-same p q code (n ∷ ns) [] same = refl
marked-same p q code (n ∷ ns) (cell ∷ cells) same =
    ap₂ (λ (x : Cell) (xs : List Cell). x ∷ xs) (ap (λ (b : Bool). coded_if b code cell) (same n)) (marked-same p q code ns cells same)

coded-twice : (a b : Bool) (code : ℕ) (cell : Cell) → coded_if a code (coded_if b code cell) ≡ coded_if (a || b) code cell
unfolding coded_if
coded-twice true true code cell = refl
coded-twice true false code cell = refl
coded-twice false true code cell = refl
coded-twice false false code cell = refl

pub marked-twice : (p q r : ℕ → Bool) (code : ℕ) (numbers : List ℕ) (cells : List Cell) → ((n : ℕ) → r n ≡ (p n || q n)) → marked p code numbers (marked q code numbers cells) ≡ marked r code numbers cells
unfolding marked
marked-twice p q r code [] cells both = refl
marked-twice p q r code (n ∷ ns) [] both = refl
marked-twice p q r code (n ∷ ns) (cell ∷ cells) both =
    ap₂ (λ (x : Cell) (xs : List Cell). x ∷ xs) (coded-twice (p n) (q n) code cell ∙ ap (λ (b : Bool). coded_if b code cell) (sym (both n))) (marked-twice p q r code ns cells both)

pub length-marked : (among : ℕ → Bool) (code : ℕ) (numbers : List ℕ) (cells : List Cell) → length (marked among code numbers cells) ≡ length cells
unfolding marked
length-marked among code [] cells = refl
length-marked among code (n ∷ ns) [] = refl
length-marked among code (n ∷ ns) (cell ∷ cells) = omega (arith, length-marked among code ns cells)

-- ---- the row at a position

is_number-lt : (number n : ℕ) → n < number → is_number number n ≡ false
unfolding is_number
is_number-lt number n lt = ne_eqb number n (omega (arith, lt))

is_number-itself : (number n : ℕ) → n ≡ number → is_number number n ≡ true
unfolding is_number
is_number-itself number n same = eq-eqb number n (sym same)

is_number-gt : (number n : ℕ) → number < n → is_number number n ≡ false
unfolding is_number
is_number-gt number n lt = ne_eqb number n (omega (arith, lt))

-- the row at a position gets another code, and no other does
pub set-marked : (number code : ℕ) (numbers : List ℕ) (cells : List Cell) (position : ℕ) (d : Cell) → IsIncreasing numbers → position < length numbers → length cells ≡ length numbers → get_or numbers position 0 ≡ number
    → set cells position (record { body = (get_or cells position d).body; code = code }) ≡ marked (is_number number) code numbers cells
unfolding marked coded_if
set-marked number code [] cells position d rise lt many there = absurd (omega (arith, lt))
set-marked number code (n ∷ ns) [] position d rise lt many there = absurd (omega (arith, many))
set-marked number code (n ∷ ns) (cell ∷ cells) zero d rise lt many there =
    rw (is_number-itself number n there)
    (ap (λ (rest : List Cell). record { body = cell.body; code = code } ∷ rest)
    (sym (marked-none (is_number number) code ns cells (λ m held. is_number-gt number m (subst (λ (k : ℕ). k < m) there (lt_of_held n m ns (IsBelowAll-first n ns rise) held))))))
set-marked number code (n ∷ ns) (cell ∷ cells) (suc position) d rise lt many there =
    let less : n < number = subst (λ (k : ℕ). n < k) there (IsBelowAll-at n ns position 0 (omega (arith, lt)) (IsBelowAll-first n ns rise)) in
    rw (is_number-lt number n less)
    (ap (λ (rest : List Cell). cell ∷ rest) (set-marked number code ns cells position d (IsIncreasing-rest n ns rise) (omega (arith, lt)) (omega (arith, many)) there))

-- the same, as it is read
pub set-read : (number code : ℕ) (numbers : List ℕ) (cells : List Cell) (position : ℕ) (cell : Cell) → IsIncreasing numbers → length cells ≡ length numbers → slice_get numbers position ≡ Some number → slice_get cells position ≡ Some cell
    → set cells position (record { body = cell.body; code = code }) ≡ marked (is_number number) code numbers cells
set-read number code numbers cells position cell rise many there is =
    ap (λ (x : Cell). set cells position (record { body = x.body; code = code })) (sym (get_or_from_slice_get cells position cell cell is))
    ∙ set-marked number code numbers cells position cell rise (slice_get_within numbers position number there) many (get_or_from_slice_get numbers position number 0 there)

-- where there is no such row, none gets it
pub marked-absent : (number code : ℕ) (numbers : List ℕ) (cells : List Cell) → holds number numbers ≡ false → marked (is_number number) code numbers cells ≡ cells
unfolding is_number
marked-absent number code numbers cells none =
    marked-none (is_number number) code numbers cells (λ n held. ne_eqb number n (λ same. let clash : true ≡ false = sym (subst (λ (k : ℕ). holds k numbers ≡ true) (sym same) held) ∙ none in cc))

-- ---- the rows of a part of an index

-- an entry of the part is the row's
record IsWithin (entries : List Entry) (first count number : ℕ) : Type 0 where
  pub place : ℕ
  pub from : first ≤ place
  pub before : place < first + count
  pub row : row_at entries place ≡ number

or_cases : (a b : Bool) → (a || b) ≡ true → (a ≡ true) ⊎ (b ≡ true)
or_cases true b h = inl refl
or_cases false b h = inr h

or_left : (a b : Bool) → a ≡ true → (a || b) ≡ true
or_left a b h = rw h refl

or_right : (a b : Bool) → b ≡ true → (a || b) ≡ true
or_right true b h = refl
or_right false b h = h

within_of : (entries : List Entry) (first count number : ℕ) → is_row_within entries first count number ≡ true → IsWithin entries first count number
unfolding is_row_within
within_of entries first zero number h = absurd (let e : false ≡ true = h in cc)
within_of entries first (suc count) number h =
    elim (or_cases (eqb (row_at entries (first + count)) number) (is_row_within entries first count number) h) [
      | inl here ↦ record { place = first + count; from = omega arith; before = omega arith; row = eqb-true (row_at entries (first + count)) number here }
      | inr earlier ↦ (let there = within_of entries first count number earlier in record { place = there.place; from = there.from; before = omega (arith, there.before); row = there.row })
    ]

of_within : (entries : List Entry) (first count number place : ℕ) → first ≤ place → place < first + count → row_at entries place ≡ number → is_row_within entries first count number ≡ true
unfolding is_row_within
of_within entries first zero number place from before row = absurd (omega (arith, from, before))
of_within entries first (suc count) number place from before row =
    elim (cases_lt place (first + count)) [
      | inl earlier ↦ or_right (eqb (row_at entries (first + count)) number) (is_row_within entries first count number) (of_within entries first count number place from earlier row)
      | inr last ↦ (let same : place ≡ first + count = omega (arith, last, before) in
          or_left (eqb (row_at entries (first + count)) number) (is_row_within entries first count number) (eq-eqb (row_at entries (first + count)) number (subst (λ (k : ℕ). row_at entries k ≡ number) same row)))
    ]

-- an entry that is held stands somewhere, and one that stands somewhere is held
record IsAmongEntries (e : Entry) (entries : List Entry) : Type 0 where
  pub place : ℕ
  pub before : place < length entries
  pub is : (d : Entry) → get_or entries place d ≡ e

same_of_true : (e x : Entry) → is_same e x ≡ true → x ≡ e
same_of_true e x h = elim (cases_same e x) [ inl same ↦ sym same | inr not ↦ absurd (cc (h, not)) ]

held_at : (e : Entry) (entries : List Entry) → holds_entry e entries ≡ true → IsAmongEntries e entries
unfolding holds_entry
held_at e [] held = absurd (let h : false ≡ true = held in cc)
held_at e (x ∷ xs) held =
    elim (or_cases (is_same e x) (holds_entry e xs) held) [
      | inl here ↦ record { place = 0; before = omega arith; is = λ d. same_of_true e x here }
      | inr later ↦ (let there = held_at e xs later in record { place = suc there.place; before = omega (arith, there.before); is = there.is })
    ]

at_held : (e : Entry) (entries : List Entry) (place : ℕ) (d : Entry) → place < length entries → get_or entries place d ≡ e → holds_entry e entries ≡ true
unfolding holds_entry
at_held e [] place d before is = absurd (omega (arith, before))
at_held e (x ∷ xs) zero d before is = or_left (is_same e x) (holds_entry e xs) (is_same-true e x (sym is))
at_held e (x ∷ xs) (suc place) d before is = or_right (is_same e x) (holds_entry e xs) (at_held e xs place d (omega (arith, before)) is)

held_of_within : (code number first last : ℕ) (entries : List Entry) → IsRange code code entries first last → is_row_within entries first (last - first) number ≡ true → has_code entries code number ≡ true
unfolding has_code row_at
held_of_within code number first last entries range h =
    let there = within_of entries first (last - first) number h in
    let before : there.place < last = omega (arith, there.before, range.order) in
    let low = range.from there.place (record { enc = 0; row = 0 }) there.from before in
    let high = range.to there.place (record { enc = 0; row = 0 }) there.from before in
    let e : Entry = get_or entries there.place (record { enc = 0; row = 0 }) in
    let equal : e.enc ≡ code = omega (arith, low, high) in
    at_held (record { enc = code; row = number }) entries there.place (record { enc = 0; row = 0 }) (omega (arith, before, range.within)) (same_entry e (record { enc = code; row = number }) equal there.row)

row_of : (entries : List Entry) (place number : ℕ) → (get_or entries place (record { enc = 0; row = 0 })).row ≡ number → row_at entries place ≡ number
unfolding row_at
row_of entries place number h = h

within_of_held : (code number first last : ℕ) (entries : List Entry) → IsRange code code entries first last → has_code entries code number ≡ true → is_row_within entries first (last - first) number ≡ true
unfolding has_code
within_of_held code number first last entries range h =
    let e : Entry = record { enc = code; row = number } in
    let d : Entry = record { enc = 0; row = 0 } in
    let there = held_at e entries h in
    let code_is : (get_or entries there.place d).enc ≡ code = ap (λ (x : Entry). x.enc) (there.is d) in
    let row_is : row_at entries there.place ≡ number = row_of entries there.place number (ap (λ (x : Entry). x.row) (there.is d)) in
    elim (cases_lt there.place first) [
      | inl front ↦ absurd (let less = range.before there.place d (omega arith) front in omega (arith, less, code_is))
      | inr from ↦ elim (cases_lt there.place last) [
        | inl before ↦ of_within entries first (last - first) number there.place from (omega (arith, before, from)) row_is
        | inr back ↦ absurd (let more = range.after there.place d back there.before in omega (arith, more, code_is))
      ]
    ]

pub code_rows : (code first last : ℕ) (entries : List Entry) → IsRange code code entries first last → (number : ℕ) → is_row_within entries first (last - first) number ≡ has_code entries code number
code_rows code first last entries range number =
    same_bool (is_row_within entries first (last - first) number) (has_code entries code number) (held_of_within code number first last entries range) (within_of_held code number first last entries range)

-- ---- one pair of codes after the other

or_and : (b : Bool) → ((b && true) || false) ≡ b
or_and true = refl
or_and false = refl

or_and_false : (b c : Bool) → ((b && false) || c) ≡ c
or_and_false true c = refl
or_and_false false c = refl

IsBelowAll-rest : (v x : ℕ) (xs : List ℕ) → IsBelowAll v (x ∷ xs) → IsBelowAll v xs
unfolding IsBelowAll
IsBelowAll-rest v x xs below = below.1

-- in the front row the code decides; in the others the front row's entry makes no difference
code_in_front : (code number first : ℕ) (rest : List Entry) → holds_entry (record { enc = code; row = number }) rest ≡ false → has_code (record { enc = first; row = number } ∷ rest) code number ≡ eqb code first
unfolding has_code holds_entry is_same
code_in_front code number first rest none = rw (eq-eqb number number refl) (rw none (or_and (eqb code first)))

code_behind : (code number first other : ℕ) (rest : List Entry) → number ≢ other → has_code (record { enc = first; row = other } ∷ rest) code number ≡ has_code rest code number
unfolding has_code holds_entry is_same
code_behind code number first other rest apart = rw (ne_eqb number other apart) (or_and_false (eqb code first) (holds_entry (record { enc = code; row = number }) rest))

none_held : (code number : ℕ) (codes numbers : List ℕ) → IsBelowAll number numbers → holds_entry (record { enc = code; row = number }) (entries_of codes numbers) ≡ false
unfolding entries_of holds_entry is_same
none_held code number [] numbers below = refl
none_held code number (c ∷ codes) [] below = refl
none_held code number (c ∷ codes) (n ∷ ns) below =
    rw (ne_eqb number n (omega (arith, IsBelowAll-at number (n ∷ ns) 0 0 (omega arith) below))) (or_and_false (eqb code c) (holds_entry (record { enc = code; row = number }) (entries_of codes ns)) ∙ none_held code number codes ns (IsBelowAll-rest number n ns below))

front_tells : (old n : ℕ) (cell : Cell) (ns : List ℕ) (cells : List Cell) → IsBelowAll n ns → has_code (entries_of (codes_in (cell ∷ cells)) (n ∷ ns)) old n ≡ eqb old cell.code
unfolding entries_of codes_in
front_tells old n cell ns cells below = code_in_front old n cell.code (entries_of (codes_in cells) ns) (none_held old n (codes_in cells) ns below)

behind_tells : (old m n : ℕ) (cell : Cell) (ns : List ℕ) (cells : List Cell) → n < m → has_code (entries_of (codes_in (cell ∷ cells)) (n ∷ ns)) old m ≡ has_code (entries_of (codes_in cells) ns) old m
unfolding entries_of codes_in
behind_tells old m n cell ns cells less = code_behind old m cell.code n (entries_of (codes_in cells) ns) (omega (arith, less))

coded_front : (old new : ℕ) (to next : ℕ → ℕ) (cell : Cell) (b : Bool) → b ≡ eqb old cell.code → next old ≡ new → ((code : ℕ) → code ≢ old → next code ≡ to code) → coded_if b new (moved_cell to cell) ≡ moved_cell next cell
unfolding coded_if moved_cell
coded_front old new to next cell true tells here past =
    let same = eqb-true old cell.code (sym tells) in
    ap (λ (code : ℕ). record { body = cell.body; code = code }) (sym here ∙ ap next same)
coded_front old new to next cell false tells here past =
    let other : cell.code ≢ old = λ same. let clash : false ≡ true = tells ∙ eq-eqb old cell.code (sym same) in cc in
    ap (λ (code : ℕ). record { body = cell.body; code = code }) (sym (past cell.code other))

-- cells that have got the new codes of some pairs get those of one pair more
pub marked-recoded : (among : ℕ → Bool) (old new : ℕ) (to next : ℕ → ℕ) (numbers : List ℕ) (cells : List Cell) → length cells ≡ length numbers → IsIncreasing numbers
    → ((n : ℕ) → holds n numbers ≡ true → among n ≡ has_code (entries_of (codes_in cells) numbers) old n) → next old ≡ new → ((code : ℕ) → code ≢ old → next code ≡ to code)
    → marked among new numbers (map (moved_cell to) cells) ≡ map (moved_cell next) cells
unfolding marked
marked-recoded among old new to next [] [] many rise tells here past = refl
marked-recoded among old new to next [] (cell ∷ cells) many rise tells here past = absurd (omega (arith, many))
marked-recoded among old new to next (n ∷ ns) [] many rise tells here past = refl
marked-recoded among old new to next (n ∷ ns) (cell ∷ cells) many rise tells here past =
    let below = IsBelowAll-first n ns rise in
    let front : among n ≡ eqb old cell.code = tells n (holds-cons_eq n n ns refl) ∙ front_tells old n cell ns cells below in
    ap₂ (λ (x : Cell) (xs : List Cell). x ∷ xs)
    (coded_front old new to next cell (among n) front here past)
    (marked-recoded among old new to next ns cells (omega (arith, many)) (IsIncreasing-rest n ns rise) (λ m held. tells m (held-cons m n ns held) ∙ behind_tells old m n cell ns cells (lt_of_held n m ns below held)) here past)

-- ---- a walk over the rows of one code

none_within : (entries : List Entry) (first count number : ℕ) → count ≡ 0 → is_row_within entries first count number ≡ false
unfolding is_row_within
none_within entries first count number none = rw none refl

within-more : (entries : List Entry) (first place row number : ℕ) → first ≤ place → row_at entries place ≡ row → is_row_within entries first (place + 1 - first) number ≡ (is_number row number || is_row_within entries first (place - first) number)
unfolding is_row_within is_number
within-more entries first place row number from row_is =
    let count : place + 1 - first ≡ suc (place - first) = omega (arith, from) in
    let here : first + (place - first) ≡ place = omega (arith, from) in
    ap (λ (k : ℕ). is_row_within entries first k number) count
    ∙ ap (λ (k : ℕ). eqb (row_at entries k) number || is_row_within entries first (place - first) number) here
    ∙ ap (λ (k : ℕ). eqb k number || is_row_within entries first (place - first) number) row_is

pub marked_start : (entries : List Entry) (first count code : ℕ) (numbers : List ℕ) (cells : List Cell) → count ≡ 0 → cells ≡ marked (is_row_within entries first count) code numbers cells
marked_start entries first count code numbers cells none =
    sym (marked-none (is_row_within entries first count) code numbers cells (λ n held. none_within entries first count n none))

pub marked_on : (entries : List Entry) (first place row code : ℕ) (numbers : List ℕ) (cells now later : List Cell) → first ≤ place → row_at entries place ≡ row → now ≡ marked (is_row_within entries first (place - first)) code numbers cells → later ≡ marked (is_number row) code numbers now
    → later ≡ marked (is_row_within entries first (place + 1 - first)) code numbers cells
marked_on entries first place row code numbers cells now later from row_is earlier is =
    is ∙ ap (marked (is_number row) code numbers) earlier
    ∙ marked-twice (is_number row) (is_row_within entries first (place - first)) (is_row_within entries first (place + 1 - first)) code numbers cells (λ n. within-more entries first place row n from row_is)

pub row_read : (entries : List Entry) (place : ℕ) (entry : Entry) → slice_get entries place ≡ Some entry → row_at entries place ≡ entry.row
unfolding row_at
row_read entries place entry read = ap (λ (e : Entry). e.row) (get_or_from_slice_get entries place entry (record { enc = 0; row = 0 }) read)

pub marked_all : (code first last new : ℕ) (entries : List Entry) (numbers : List ℕ) (cells now : List Cell) → IsRange code code entries first last → now ≡ marked (is_row_within entries first (last - first)) new numbers cells → now ≡ marked (has_code entries code) new numbers cells
marked_all code first last new entries numbers cells now range earlier =
    earlier ∙ marked-same (is_row_within entries first (last - first)) (has_code entries code) new numbers cells (code_rows code first last entries range)
