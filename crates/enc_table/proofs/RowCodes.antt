-- Rows that get the new codes of pairs, one pair after the other, and the index of the rows.
use Rattle.std.proofs.Common.{◌≡◌, ◌≢◌, ℕ, suc, zero, ◌+◌, ◌<◌, Bool, true, false, eqb, ◌||◌, ◌&&◌, List, [], ◌∷◌, map, take, length, get_or, refl, ap, ap₂, ◌∙◌, sym, subst, inl, inr, ne_eqb, eq-eqb, arith}
use Rattle.std.proofs.lemmas.Bool.{cases_eq, eqb-true}
use Rattle.tree_model.specs.Places.{holds, IsIncreasing, IsBelowAll}
use Rattle.tree_model.proofs.Ordered.{holds-cons_eq, holds-cons_ne, IsBelowAll-at}
use Rattle.tree_model.proofs.TalliedRows.{held-cons}
use Rattle.path_code.specs.declared.moves.Recode.{Recode}
use Rattle.code_changes.specs.Changes.{IsIn, new_code, new_if}
use Rattle.code_changes.proofs.Orders.{IsIncreasing-rest, IsBelowAll-first, nowhere}
use Rattle.code_changes.proofs.Pairs.{new_code-here, new_code-past}
use Rattle.column_index.specs.declared.entry.Entry.{Entry}
use Rattle.column_index.specs.Entries.{holds_entry, is_same, sorted, codes_in as codes_of_entries}
use Rattle.column_index.specs.Recoding.{recoded, KeepsOrder}
use Rattle.column_index.specs.Seen.{Seen, index_of}
use Rattle.column_index.proofs.Sorting.{holds-sorted}
use Rattle.column_index.proofs.Recodings.{sorted-recoded}
use Rattle.enc_table.specs.declared.cell.Cell.{Cell}
use Rattle.enc_table.specs.Held.{entries_of, moved_cell}
use Rattle.enc_table.specs.Stored.{codes_in}
use Rattle.enc_table.specs.Marking.{marked, has_code}
use Rattle.enc_table.proofs.Marking.{marked-recoded}

-- ---- the first pairs

old_at : (moved : List Recode) (k : ℕ) (d : Recode) → k < length moved → get_or (map (λ pair. pair.old) moved) k d.old ≡ (get_or moved k d).old
old_at [] k d lt = refl
old_at (pair ∷ moved) zero d lt = refl
old_at (pair ∷ moved) (suc k) d lt = old_at moved k d (omega (arith, lt))

many_olds : (moved : List Recode) → length (map (λ pair. pair.old) moved) ≡ length moved
many_olds [] = refl
many_olds (pair ∷ moved) = omega (arith, many_olds moved)

-- the last of the first pairs gives its old code its new one
pub new_code-last : (moved : List Recode) (k : ℕ) (d : Recode) → k < length moved → IsIncreasing (map (λ pair. pair.old) moved) → new_code (take (suc k) moved) (get_or moved k d).old ≡ (get_or moved k d).new
new_code-last [] k d lt rise = absurd (omega (arith, lt))
new_code-last (pair ∷ moved) zero d lt rise = new_code-here pair (take 0 moved) pair.old refl
new_code-last (pair ∷ moved) (suc k) d lt rise =
    let within : k < length moved = omega (arith, lt) in
    let above = IsBelowAll-at pair.old (map (λ pair. pair.old) moved) k d.old (omega (arith, within, many_olds moved)) (IsBelowAll-first pair.old (map (λ pair. pair.old) moved) rise) in
    let less : pair.old < (get_or moved k d).old = omega (arith, above, old_at moved k d within) in
    new_code-past pair (take (suc k) moved) (get_or moved k d).old (omega (arith, less))
    ∙ new_code-last moved k d within (IsIncreasing-rest pair.old (map (λ pair. pair.old) moved) rise)

-- and leaves the others as those before it do
pub new_code-other : (moved : List Recode) (k : ℕ) (d : Recode) (code : ℕ) → k < length moved → code ≢ (get_or moved k d).old → new_code (take (suc k) moved) code ≡ new_code (take k moved) code
unfolding new_code
new_code-other [] k d code lt other = absurd (omega (arith, lt))
new_code-other (pair ∷ moved) zero d code lt other = new_code-past pair [] code (λ same. other (sym same))
new_code-other (pair ∷ moved) (suc k) d code lt other =
    ap (λ (rest : ℕ). new_if (eqb pair.old code) pair rest) (new_code-other moved k d code (omega (arith, lt)) other)

-- ---- the cells

same_cells : (to : ℕ → ℕ) (cells : List Cell) → ((code : ℕ) → to code ≡ code) → map (moved_cell to) cells ≡ cells
unfolding moved_cell
same_cells to [] same = refl
same_cells to (cell ∷ cells) same =
    ap₂ (λ (x : Cell) (xs : List Cell). x ∷ xs) (ap (λ (code : ℕ). record { body = cell.body; code = code }) (same cell.code)) (same_cells to cells same)

pub recode_start : (moved : List Recode) (cells : List Cell) → cells ≡ map (moved_cell (new_code (take 0 moved))) cells
unfolding new_code
recode_start [] cells = sym (same_cells (new_code []) cells (λ code. refl))
recode_start (pair ∷ moved) cells = sym (same_cells (new_code []) cells (λ code. refl))

pub length-moved : (to : ℕ → ℕ) (cells : List Cell) → length (map (moved_cell to) cells) ≡ length cells
length-moved to [] = refl
length-moved to (cell ∷ cells) = omega (arith, length-moved to cells)

has_code-sorted : (entries : List Entry) (code number : ℕ) (rows : List Entry) → entries ≡ sorted rows → has_code entries code number ≡ has_code rows code number
unfolding has_code
has_code-sorted entries code number rows is = ap (holds_entry (record { enc = code; row = number })) is ∙ holds-sorted (record { enc = code; row = number }) rows

pub recode_on : (moved : List Recode) (k : ℕ) (d : Recode) (entries : List Entry) (numbers : List ℕ) (cells now later : List Cell) → k < length moved → IsIncreasing (map (λ pair. pair.old) moved) → length cells ≡ length numbers → IsIncreasing numbers
    → entries ≡ sorted (entries_of (codes_in cells) numbers) → now ≡ map (moved_cell (new_code (take k moved))) cells → later ≡ marked (has_code entries (get_or moved k d).old) (get_or moved k d).new numbers now
    → later ≡ map (moved_cell (new_code (take (k + 1) moved))) cells
recode_on moved k d entries numbers cells now later lt olds many rise index earlier is =
    let pair = get_or moved k d in
    let count : k + 1 ≡ suc k = omega arith in
    is ∙ ap (marked (has_code entries pair.old) pair.new numbers) earlier
    ∙ marked-recoded (has_code entries pair.old) pair.old pair.new (new_code (take k moved)) (new_code (take (suc k) moved)) numbers cells many rise
    (λ n held. has_code-sorted entries pair.old n (entries_of (codes_in cells) numbers) index)
    (new_code-last moved k d lt olds)
    (λ code other. new_code-other moved k d code lt other)
    ∙ ap (λ (n : ℕ). map (moved_cell (new_code (take n moved))) cells) (sym count)

take_all : (moved : List Recode) → take (length moved) moved ≡ moved
take_all [] = refl
take_all (pair ∷ moved) = ap (λ (rest : List Recode). pair ∷ rest) (take_all moved)

pub recode_all : (moved : List Recode) (k : ℕ) (cells now : List Cell) → length moved ≡ k → now ≡ map (moved_cell (new_code (take k moved))) cells → now ≡ map (moved_cell (new_code moved)) cells
recode_all moved k cells now all is = is ∙ ap (λ (pairs : List Recode). map (moved_cell (new_code pairs)) cells) (ap (λ (n : ℕ). take n moved) (sym all) ∙ take_all moved)

-- ---- the index

pub entries-recoded : (to : ℕ → ℕ) (codes numbers : List ℕ) → map (recoded to) (entries_of codes numbers) ≡ entries_of (map to codes) numbers
unfolding entries_of recoded
entries-recoded to [] numbers = refl
entries-recoded to (code ∷ codes) [] = refl
entries-recoded to (code ∷ codes) (n ∷ ns) = ap (λ (rest : List Entry). record { enc = to code; row = n } ∷ rest) (entries-recoded to codes ns)

or_right : (a b : Bool) → b ≡ true → (a || b) ≡ true
or_right true b h = refl
or_right false b h = h

rest_held : (a b c : Bool) → a ≡ false → ((a && b) || c) ≡ true → c ≡ true
rest_held true b c clash h = absurd (let f : true ≡ false = clash in cc)
rest_held false b c clash h = h

held_past : (n x : ℕ) (xs : List ℕ) → x ≢ n → IsIn n (x ∷ xs) → IsIn n xs
held_past n x xs other held = sym (holds-cons_ne n x xs other) ∙ held

-- a code of entries is that of one of them
entry_of_code : (code : ℕ) (entries : List Entry) → IsIn code (codes_of_entries entries) → (row : ℕ) × (holds_entry (record { enc = code; row = row }) entries ≡ true)
unfolding codes_of_entries holds_entry is_same
entry_of_code code [] held = nowhere code held
entry_of_code code (e ∷ es) held =
    elim (cases_eq e.enc code) [
      | inl same ↦ (e.row, rw (eq-eqb code e.enc (sym same)) (rw (eq-eqb e.row e.row refl) refl))
      | inr other ↦ (let there = entry_of_code code es (held_past code e.enc (codes_of_entries es) other held) in
          (there.0, or_right ((eqb code e.enc) && (eqb there.0 e.row)) (holds_entry (record { enc = code; row = there.0 }) es) there.1))
    ]

code_of_entry : (code row : ℕ) (codes numbers : List ℕ) → holds_entry (record { enc = code; row = row }) (entries_of codes numbers) ≡ true → IsIn code codes
unfolding holds_entry is_same entries_of
code_of_entry code row [] numbers held = absurd (let h : false ≡ true = held in cc)
code_of_entry code row (c ∷ codes) [] held = absurd (let h : false ≡ true = held in cc)
code_of_entry code row (c ∷ codes) (n ∷ ns) held =
    elim (cases_eq c code) [
      | inl same ↦ holds-cons_eq code c codes same
      | inr other ↦ held-cons code c codes (code_of_entry code row codes ns (rest_held (eqb code c) (eqb row n) (holds_entry (record { enc = code; row = row }) (entries_of codes ns)) (ne_eqb code c (λ same. other (sym same))) held))
    ]

pub index_code : (code : ℕ) (codes numbers : List ℕ) → IsIn code (codes_of_entries (sorted (entries_of codes numbers))) → IsIn code codes
index_code code codes numbers held =
    let there = entry_of_code code (sorted (entries_of codes numbers)) held in
    code_of_entry code there.0 codes numbers (sym (holds-sorted (record { enc = code; row = there.0 }) (entries_of codes numbers)) ∙ there.1)

entries_code : (code : ℕ) (codes numbers : List ℕ) → IsIn code (codes_of_entries (entries_of codes numbers)) → IsIn code codes
entries_code code codes numbers held = let there = entry_of_code code (entries_of codes numbers) held in code_of_entry code there.0 codes numbers there.1

pub index_order : (to : ℕ → ℕ) (codes numbers : List ℕ) → KeepsOrder to codes → KeepsOrder to (codes_of_entries (sorted (entries_of codes numbers)))
index_order to codes numbers keeps code other held held_other less = keeps code other (index_code code codes numbers held) (index_code other codes numbers held_other) less

pub index_recoded : (to : ℕ → ℕ) (codes numbers : List ℕ) → KeepsOrder to codes → map (recoded to) (sorted (entries_of codes numbers)) ≡ sorted (entries_of (map to codes) numbers)
index_recoded to codes numbers keeps =
    sorted-recoded to (entries_of codes numbers) (λ code other held held_other less. keeps code other (entries_code code codes numbers held) (entries_code other codes numbers held_other) less)
    ∙ ap sorted (entries-recoded to codes numbers)

pub entries_indexed : (index : Seen) (cells : List Cell) (numbers : List ℕ) → index ≡ index_of (sorted (entries_of (codes_in cells) numbers)) → index.entries ≡ sorted (entries_of (codes_in cells) numbers)
unfolding index_of
entries_indexed index cells numbers is = ap (λ (i : Seen). i.entries) is

pub order_indexed : (index : Seen) (to : ℕ → ℕ) (codes numbers : List ℕ) → index ≡ index_of (sorted (entries_of codes numbers)) → KeepsOrder to codes → KeepsOrder to (codes_of_entries index.entries)
unfolding index_of
order_indexed index to codes numbers is keeps =
    subst (λ (es : List Entry). KeepsOrder to (codes_of_entries es)) (sym (ap (λ (i : Seen). i.entries) is)) (index_order to codes numbers keeps)

pub index_carried : (before after : Seen) (to : ℕ → ℕ) (codes numbers : List ℕ) → before ≡ index_of (sorted (entries_of codes numbers)) → KeepsOrder to codes → after ≡ index_of (map (recoded to) before.entries) → after ≡ index_of (sorted (entries_of (map to codes) numbers))
unfolding index_of
index_carried before after to codes numbers is keeps became =
    became ∙ ap (λ (es : List Entry). index_of (map (recoded to) es)) (ap (λ (i : Seen). i.entries) is) ∙ ap index_of (index_recoded to codes numbers keeps)
