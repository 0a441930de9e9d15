-- The rows of one code after the other, whose entries are told by the places where they stand in the index.
use Rattle.std.proofs.Common.{◌≡◌, ◌≢◌, ℕ, ◌+◌, ◌-◌, ◌<◌, ◌≤◌, List, ◌∷◌, Some, length, map, take, drop, get_or, ap, ◌∙◌, sym, subst, inl, inr, arith}
use Rattle.std.specs.List.{slice_get, AllWithin}
use Rattle.std.proofs.lemmas.Bool.{cases_lt}
use Rattle.std.proofs.lemmas.List.{drop_more}
use Rattle.std.proofs.lemmas.Option.{get_or_from_slice_get, slice_get_within}
use Rattle.tree_model.specs.Places.{IsIncreasing, below}
use Rattle.path_code.specs.declared.moves.Recode.{Recode}
use Rattle.code_changes.specs.Changes.{new_code}
use Rattle.column_index.specs.declared.entry.Entry.{Entry}
use Rattle.column_index.specs.Entries.{IsOrdered, codes_in, sorted}
use Rattle.column_index.specs.Fronts.{BeginFrom}
use Rattle.column_index.specs.Ranges.{IsRange, range_of}
use Rattle.column_index.proofs.Codes.{IsIncreasing-drop, BeginFrom-first, BeginFrom-zero, BeginFrom-next}
use Rattle.column_index.proofs.Points.{before_code, from_code, below-length, ends_here}
use Rattle.enc_table.specs.declared.cell.Cell.{Cell}
use Rattle.enc_table.specs.Held.{entries_of, moved_cell}
use Rattle.enc_table.specs.Stored.{codes_in as codes_of_cells}
use Rattle.enc_table.specs.Marking.{AreMarked, AreRecoded, has_code, is_number, is_row_within, marked}
use Rattle.enc_table.proofs.Marking.{marked_start, marked_on, marked_all, length-marked, row_read}
use Rattle.enc_table.proofs.RowCodes.{recode_start, recode_on, recode_all, length-moved}

pub range_first : (low high : ℕ) (codes : List ℕ) (ends : ℕ × ℕ) → ends ≡ range_of low high codes → ends.0 ≡ below low codes
unfolding range_of
range_first low high codes ends is = ap (λ (e : ℕ × ℕ). e.0) is

-- ---- the rows of one code

pub ends_before : (code : ℕ) (es : List Entry) (start place : ℕ) (entry : Entry) → IsOrdered es → start ≡ below code (codes_in es) → start ≤ place → slice_get es place ≡ Some entry → entry.enc ≢ code → AllWithin (λ e. e.enc ≡ code) es start place → place ≡ below (code + 1) (codes_in es)
ends_before code es start place entry ordered begins from read other same =
    ends_here code es start place ordered begins from (omega (arith, slice_get_within es place entry read)) same (λ d lt is. other (sym (ap (λ (e : Entry). e.enc) (get_or_from_slice_get es place entry d read)) ∙ is))

pub ends_last : (code : ℕ) (es : List Entry) (start place : ℕ) → IsOrdered es → start ≡ below code (codes_in es) → place ≡ length es → AllWithin (λ e. e.enc ≡ code) es start place → place ≡ below (code + 1) (codes_in es)
ends_last code es start place ordered begins last same =
    ends_here code es start place ordered begins (omega (arith, below-length code es)) (omega arith) same (λ d lt. absurd (omega arith))

range_here : (code : ℕ) (es : List Entry) (start place : ℕ) → IsOrdered es → start ≡ below code (codes_in es) → start ≤ place → place ≤ length es → AllWithin (λ e. e.enc ≡ code) es start place → place ≡ below (code + 1) (codes_in es) → IsRange code code es start place
range_here code es start place ordered begins from within same ends = record {
  order = from;
  within = within;
  before = λ k d first to. before_code code es k d ordered (omega arith);
  from = λ k d first to. omega (arith, same k d first to);
  to = λ k d first to. omega (arith, same k d first to);
  after = λ k d first to. omega (arith, from_code (code + 1) es k d ordered (omega arith) to);
}

pub none_marked : (old new : ℕ) (es : List Entry) (start : ℕ) (numbers : List ℕ) (cells : List Cell) → AreMarked old new es start start numbers cells cells
none_marked old new es start numbers cells = record {
  same = λ k d from to. absurd (omega arith);
  cells = marked_start es start (start - start) new numbers cells (omega arith);
}

pub marking_on : (old new : ℕ) (es : List Entry) (start place : ℕ) (entry : Entry) (numbers : List ℕ) (cells now later : List Cell) → start ≤ place → slice_get es place ≡ Some entry → entry.enc ≡ old → AreMarked old new es start place numbers cells now
    → later ≡ marked (is_number entry.row) new numbers now → AreMarked old new es start (place + 1) numbers cells later
marking_on old new es start place entry numbers cells now later from read code_is m is = record {
  same = λ k d first to. elim (cases_lt k place) [
    | inl earlier ↦ m.same k d first earlier
    | inr here ↦ (let at : k ≡ place = omega arith in ap (λ (n : ℕ). (get_or es n d).enc) at ∙ ap (λ (e : Entry). e.enc) (get_or_from_slice_get es place entry d read) ∙ code_is)
  ];
  cells = marked_on es start place entry.row new numbers cells now later from (row_read es place entry read) m.cells is;
}

pub all_marked : (old new : ℕ) (es : List Entry) (start place : ℕ) (numbers : List ℕ) (cells now : List Cell) → IsOrdered es → start ≡ below old (codes_in es) → start ≤ place → place ≤ length es → place ≡ below (old + 1) (codes_in es) → AreMarked old new es start place numbers cells now
    → now ≡ marked (has_code es old) new numbers cells
all_marked old new es start place numbers cells now ordered begins from within ends m =
    marked_all old start place new es numbers cells now (range_here old es start place ordered begins from within m.same ends) m.cells

pub as_many : (old new : ℕ) (es : List Entry) (start place : ℕ) (numbers : List ℕ) (cells now : List Cell) → length cells ≡ length numbers → AreMarked old new es start place numbers cells now → length now ≡ length numbers
as_many old new es start place numbers cells now many m = ap length m.cells ∙ length-marked (is_row_within es start (place - start)) new numbers cells ∙ many

-- ---- the rows of one pair after the other

pub none_recoded : (moved : List Recode) (es : List Entry) (cells : List Cell) → AreRecoded moved 0 es 0 cells cells
none_recoded moved es cells = record { cells = recode_start moved cells; ahead = BeginFrom-zero (codes_in es) moved }

pub begins_ahead : (moved : List Recode) (i : ℕ) (d : Recode) (es : List Entry) (end : ℕ) (cells now : List Cell) → i < length moved → AreRecoded moved i es end cells now → end ≤ below (get_or moved i d).old (codes_in es)
begins_ahead moved i d es end cells now lt m =
    BeginFrom-first end (codes_in es) (get_or moved i d) (drop (i + 1) moved) (subst (BeginFrom end (codes_in es)) (drop_more moved i d lt) m.ahead)

pub recoding_on : (moved : List Recode) (i : ℕ) (d : Recode) (es : List Entry) (end next : ℕ) (numbers : List ℕ) (cells now later : List Cell) → i < length moved → IsIncreasing (map (λ pair. pair.old) moved) → length cells ≡ length numbers → IsIncreasing numbers
    → es ≡ sorted (entries_of (codes_of_cells cells) numbers) → AreRecoded moved i es end cells now → next ≡ below ((get_or moved i d).old + 1) (codes_in es) → later ≡ marked (has_code es (get_or moved i d).old) (get_or moved i d).new numbers now
    → AreRecoded moved (i + 1) es next cells later
recoding_on moved i d es end next numbers cells now later lt olds many rise index m ends is =
    let pair = get_or moved i d in
    let others = drop (i + 1) moved in
    let split : drop i moved ≡ pair ∷ others = drop_more moved i d lt in
    let olds_left : IsIncreasing (map (λ pair. pair.old) (pair ∷ others)) = subst (λ (zs : List Recode). IsIncreasing (map (λ pair. pair.old) zs)) split (IsIncreasing-drop moved i olds) in
    record {
      cells = recode_on moved i d es numbers cells now later lt olds many rise index m.cells is;
      ahead = subst (λ (n : ℕ). BeginFrom n (codes_in es) others) (sym ends) (BeginFrom-next (codes_in es) pair others olds_left);
    }

pub many_recoded : (moved : List Recode) (i : ℕ) (es : List Entry) (end : ℕ) (numbers : List ℕ) (cells now : List Cell) → length cells ≡ length numbers → AreRecoded moved i es end cells now → length now ≡ length numbers
many_recoded moved i es end numbers cells now many m = ap length m.cells ∙ length-moved (new_code (take i moved)) cells ∙ many

pub all_recoded : (moved : List Recode) (i : ℕ) (es : List Entry) (end : ℕ) (cells now : List Cell) → length moved ≡ i → AreRecoded moved i es end cells now → now ≡ map (moved_cell (new_code moved)) cells
all_recoded moved i es end cells now all m = recode_all moved i cells now all m.cells
