-- A row more, where no check refuses it.
use Rattle.std.proofs.Common.{◌≡◌, ℕ, zero, suc, ◌+◌, ◌<◌, ◌≤◌, ◌^◌, ◌==◌, ◌&&◌, ◌||◌, Bool, true, false, not, leb, List, [], ◌∷◌, ◌++◌, length, get_or, set, map, Option, Some, None, refl, ap, sym, subst, ◌∙◌, arith, is_some, append_assoc}
use Rattle.std.proofs.lemmas.Bool.{and_parts, leb-false, eqb-true}
use Rattle.std.proofs.lemmas.List.{get_or_at, length-append}
use Rattle.std.specs.List.{range_with_len}
use Rattle.mope_base.specs.declared.body.Body.{Body}
use Rattle.mope_base.specs.declared.numbers.TableNo.{TableNo}
use Rattle.mope_base.specs.Lists.{Each}
use Rattle.tree_model.specs.declared.Place.{Place}
use Rattle.tree_model.specs.Trees.{size, IsPlaceOf}
use Rattle.tree_model.specs.Columns.{Column, empty_column}
use Rattle.table_model.specs.Stores.{Shelf}
use Rattle.table_model.specs.Soundness.{column_at}
use Rattle.table_model.specs.Changes.{insert_row}
use Rattle.table_model.specs.Fitting.{AllPlaced, FitsInsertAt, OpFitsAt}
use Rattle.table_model.specs.Operations.{shelf_at, rank_op_on, InsertAt}
use Rattle.enc_table.specs.Seen.{Seen as Table, IsTable, with_shelf}
use Rattle.versions.specs.declared.op.Op.TheVariants as op
use Rattle.versions.specs.Databases.{IsMember}
use Rattle.versions.specs.Operations.{rank_op, op_table, HasNumber}
use Rattle.walk_proto.specs.declared.messages.Request.TheVariants as request
use Rattle.server_conn.specs.declared.txn.Txn.{Txn}
use Rattle.server_conn.specs.declared.txn.Walk.{Walk as Going}
use Rattle.server_conn.specs.declared.txn.Mark.{Mark as Placed}
use Rattle.walk_proto.specs.declared.messages.Reply.TheVariants as reply
use Rattle.server_conn.specs.declared.came.Came.TheVariants as came
use Rattle.server_conn.specs.Connections.{Held, Mark, holds}
use Rattle.server_conn.specs.Serving.{step_to, after_statement, with_op, inserted}
use Rattle.server_conn.specs.Checks.{own, are_of, fits_row, is_full, lacks_table, reason_or, first_failing, checks, refusal}
use Rattle.server_conn.specs.Inside.{step_by, shelves_in, tree_in, held_in, mark_of, walk_if, IsMarkIn, IsTxn, IsTableOf, IsElse, IsTaken, IsNoted}
use Rattle.server_conn.proofs.Judging.{not-lacking}
use Rattle.server_conn.proofs.Passing.{passed, closed-is, true-is}
use Rattle.server_conn.proofs.Seeing.{base-within}
use Rattle.server_conn.proofs.Written.{IsOpOn, put-back, else-both, noted-same, written-txn, written-held}

-- ---- the places are of the columns, one for each

placed-from : (shelves : List (Shelf Body)) (table : ℕ) (marks : List Placed) (front cs : List (Column Body)) (from : ℕ) → (shelf_at shelves table).columns ≡ front ++ cs → length front ≡ from → are_of table (range_with_len from (length cs)) (map mark_of marks) ≡ true → Each (IsMarkIn shelves) marks
    → AllPlaced cs (map (λ (m : Placed). m.place) marks)
unfolding are_of AllPlaced Each mark_of tree_in column_at
placed-from shelves table [] front [] from parts many are each = tt
placed-from shelves table (m ∷ marks) front [] from parts many are each = absurd (let e : false ≡ true = are in cc)
placed-from shelves table [] front (c ∷ cs) from parts many are each = absurd (let e : false ≡ true = are in cc)
placed-from shelves table (m ∷ marks) front (c ∷ cs) from parts many are each =
    let both = and_parts ((m.table.0 == table) && (m.column.0 == from)) (are_of table (range_with_len (from + 1) (length cs)) (map mark_of marks)) are in
    let ends = and_parts (m.table.0 == table) (m.column.0 == from) both.0 in
    let at_table : m.table.0 ≡ table = eqb-true m.table.0 table ends.0 in
    let at_column : m.column.0 ≡ from = eqb-true m.column.0 from ends.1 in
    let here : get_or (shelf_at shelves table).columns from (empty_column Body) ≡ c = ap (λ (ks : List (Column Body)). get_or ks from (empty_column Body)) parts ∙ get_or_at front c cs (empty_column Body) from many in
    let place = each.0.is_place in (
      subst (λ (k : Column Body). IsPlaceOf (size k.tree) m.place) here
          (subst (λ (n : ℕ). IsPlaceOf (size (get_or (shelf_at shelves table).columns n (empty_column Body)).tree) m.place) at_column
          (subst (λ (n : ℕ). IsPlaceOf (size (get_or (shelf_at shelves n).columns m.column.0 (empty_column Body)).tree) m.place) at_table place)),
      placed-from shelves table marks (front ++ c ∷ []) cs (from + 1) (parts ∙ sym (append_assoc front (c ∷ []) cs)) (omega (arith, length-append front (c ∷ []), many)) both.1 each.1,
    )

-- ---- what the checks say

pub record MayInsert (t : Txn) (table : TableNo) (bodies : List Body) : Type 0 where
  pub closed : t.walk ≡ None
  pub there : table.0 < length (shelves_in t)
  pub placed : AllPlaced (shelf_at (shelves_in t) table.0).columns (map (λ (m : Placed). m.place) t.marks.items)
  pub wide : length bodies ≡ length (shelf_at (shelves_in t) table.0).columns
  pub room : length (shelf_at (shelves_in t) table.0).kept < t.base.limit
  pub number : (shelf_at (shelves_in t) table.0).next < 2 ^ 63

walk-none-if : (shelves : List (Shelf Body)) (walk : Option Going) → walk_if shelves walk ≡ None → walk ≡ None
unfolding walk_if
walk-none-if shelves None none = refl
walk-none-if shelves (Some w) none = cc

pub walk-none : (t : Txn) → (held_in t).walk ≡ None → t.walk ≡ None
unfolding held_in
walk-none t none = walk-none-if (shelves_in t) t.walk none

either-false : (a b : Bool) → (a || b) ≡ false → (a ≡ false) × (b ≡ false)
either-false true b e = cc
either-false false b e = (refl, e)

insert-placed : (t : Txn) (table : TableNo) → IsTxn t → are_of table.0 (range_with_len 0 (length (own (held_in t) table).columns)) (held_in t).marks ≡ true → AllPlaced (shelf_at (shelves_in t) table.0).columns (map (λ (m : Placed). m.place) t.marks.items)
unfolding own held_in
insert-placed t table txn are = placed-from (shelves_in t) table.0 t.marks.items [] (shelf_at (shelves_in t) table.0).columns 0 refl refl are txn.marks

pub may-insert : (t : Txn) (table : TableNo) (bodies : List Body) → IsTxn t → refusal (request.Insert table bodies) (held_in t) ≡ None → MayInsert t table bodies
unfolding refusal checks first_failing fits_row is_full own held_in
may-insert t table bodies txn is =
    let h = held_in t in
    let walk = passed _ _ _ is in
    let there = passed _ _ _ walk.1 in
    let fits = passed _ _ _ there.1 in
    let full = passed _ _ _ fits.1 in
    let row = and_parts _ _ (true-is _ fits.0) in
    let room = either-false _ _ full.0 in
    record {
      closed = walk-none t (closed-is h.walk walk.0);
      there = not-lacking t table there.0;
      placed = insert-placed t table txn row.0;
      wide = eqb-true _ _ row.1;
      room = leb-false _ _ room.0;
      number = leb-false _ _ room.1;
    }

-- ---- what the operation needs and does

pub row-does : (t : Txn) (table : TableNo) (bodies : List Body) (before after : Table) → MayInsert t table bodies → IsTableOf (held_in t) table.0 before → after ≡ with_shelf (insert_row before.same_time (map (λ (m : Placed). m.place) t.marks.items) bodies before.shelf) before → IsTable after
    → IsOpOn (held_in t) table (op.Insert table (map (λ (m : Placed). m.place) t.marks.items) bodies) (insert_row t.base.same_time (map (λ (m : Placed). m.place) t.marks.items) bodies) after
unfolding held_in rank_op op_table rank_op_on OpFitsAt HasNumber with_shelf
row-does t table bodies before after may of is sound =
    let places = map (λ (m : Placed). m.place) t.marks.items in
    record {
      there = may.there;
      names = refl;
      on = refl;
      fits = record { there = may.there; placed = may.placed; wide = may.wide; room = may.room };
      number = may.number;
      shelf_is = ap (λ (u : Table). u.shelf) is ∙ ap (λ (b : Bool). insert_row b places bodies before.shelf) of.mode ∙ ap (λ (s : Shelf Body). insert_row t.base.same_time places bodies s) of.shelf_is;
      member = record { mode = ap (λ (u : Table). u.same_time) is ∙ of.mode; rows = ap (λ (u : Table). u.limit) is ∙ of.rows; fresh = ap (λ (u : Table). u.spent) is ∙ of.fresh; table = sound };
    }

marks-places : (marks : List Placed) → map (λ (mark : Mark). mark.place) (map mark_of marks) ≡ map (λ (m : Placed). m.place) marks
unfolding mark_of
marks-places [] = refl
marks-places (m ∷ marks) = ap (λ (ps : List Place). m.place ∷ ps) (marks-places marks)

-- the step of an INSERT, as the definition has it
pub row-step : (t u : Txn) (table : TableNo) (bodies : List Body)
    → held_in u ≡ after_statement table (with_op (op.Insert table (map (λ (m : Placed). m.place) t.marks.items) bodies) table (insert_row t.base.same_time (map (λ (m : Placed). m.place) t.marks.items) bodies) (held_in t))
    → step_by (came.Says (reply.Count 1)) (held_in u) ≡ inserted table bodies (held_in t)
unfolding step_by inserted held_in
row-step t u table bodies is =
    let h = held_in t in
    ap (λ (k : Held). step_to (reply.Count 1) (holds k)) is
    ∙ ap (λ (ps : List Place). step_to (reply.Count 1) (holds (after_statement table (with_op (op.Insert table ps bodies) table (insert_row t.base.same_time ps bodies) h)))) (sym (marks-places t.marks.items))

-- a row was inserted: from the transaction t, whose table was taken (m), put back (n) and noted (u)
pub record RowGoes (t u : Txn) (table : TableNo) (bodies : List Body) : Type 0 where
  pub txn : IsTxn u
  pub step : step_by (came.Says (reply.Count 1)) (held_in u) ≡ inserted table bodies (held_in t)

pub row-goes : (t m n u : Txn) (table : TableNo) (bodies : List Body) (before after : Table) → IsTxn t → MayInsert t table bodies → IsTableOf (held_in t) table.0 before → IsTaken table.0 t m
    → after ≡ with_shelf (insert_row before.same_time (map (λ (m : Placed). m.place) t.marks.items) bodies before.shelf) before → IsTable after
    → n.own.items ≡ set m.own.items table.0 (Some after) → IsElse m n → IsNoted table (n.ops.items ++ op.Insert table (map (λ (m : Placed). m.place) t.marks.items) bodies ∷ []) n u → RowGoes t u table bodies
row-goes t m n u table bodies before after txn may of taken is sound put rest noted =
    let places = map (λ (m : Placed). m.place) t.marks.items in
    let o = op.Insert table places bodies in
    let change = insert_row t.base.same_time places bodies in
    let does = row-does t table bodies before after may of is sound in
    let written = put-back table.0 after t m n taken (base-within t table.0 may.there) put rest in
    let else_tn = else-both t m n taken.rest rest in
    let same = noted-same table o t n u else_tn noted in
    record {
      txn = written-txn table o change after t n u txn may.closed written else_tn same does;
      step = row-step t u table bodies (written-held table o change after t n u may.closed written else_tn same does);
    }

-- the same, where the places and the bodies are told once more
pub row-done : (t m n u : Txn) (table : TableNo) (bodies : List Body) (before after : Table) (places noted_places : List Place) (copies noted_copies : List Body) → IsTxn t → MayInsert t table bodies → IsTableOf (held_in t) table.0 before → IsTaken table.0 t m
    → places ≡ map (λ (m : Placed). m.place) t.marks.items → copies ≡ bodies → after ≡ with_shelf (insert_row before.same_time places copies before.shelf) before → IsTable after
    → n.own.items ≡ set m.own.items table.0 (Some after) → IsElse m n
    → noted_places ≡ map (λ (m : Placed). m.place) t.marks.items → noted_copies ≡ bodies → IsNoted table (n.ops.items ++ op.Insert table noted_places noted_copies ∷ []) n u → RowGoes t u table bodies
row-done t m n u table bodies before after places noted_places copies noted_copies txn may of taken at same is sound put rest noted_at noted_same noted =
    row-goes t m n u table bodies before after txn may of taken
    (is ∙ ap (λ (ps : List Place). with_shelf (insert_row before.same_time ps copies before.shelf) before) at ∙ ap (λ (bs : List Body). with_shelf (insert_row before.same_time (map (λ (m : Placed). m.place) t.marks.items) bs before.shelf) before) same)
    sound put rest
    (subst (λ (ps : List Place). IsNoted table (n.ops.items ++ op.Insert table ps bodies ∷ []) n u) noted_at
    (subst (λ (bs : List Body). IsNoted table (n.ops.items ++ op.Insert table noted_places bs ∷ []) n u) noted_same noted))

-- ---- what a call on the table wants

pub places-given : (t : Txn) (marks : List Placed) (places given : List Place) → marks ≡ t.marks.items → places ≡ map (λ (m : Placed). m.place) marks → given ≡ places → given ≡ map (λ (m : Placed). m.place) t.marks.items
places-given t marks places given same is also = also ∙ is ∙ ap (λ (ms : List Placed). map (λ (m : Placed). m.place) ms) same

pub may-place : (t : Txn) (table : TableNo) (bodies : List Body) (before : Table) (places : List Place) → MayInsert t table bodies → IsTableOf (held_in t) table.0 before → places ≡ map (λ (m : Placed). m.place) t.marks.items → AllPlaced before.shelf.columns places
unfolding held_in
may-place t table bodies before places may of at =
    subst (λ (s : Shelf Body). AllPlaced s.columns places) (sym of.shelf_is) (subst (λ (ps : List Place). AllPlaced (shelf_at (shelves_in t) table.0).columns ps) (sym at) may.placed)

pub may-widen : (t : Txn) (table : TableNo) (bodies : List Body) (before : Table) (copies : List Body) → MayInsert t table bodies → IsTableOf (held_in t) table.0 before → copies ≡ bodies → length copies ≡ length before.shelf.columns
unfolding held_in
may-widen t table bodies before copies may of same = ap length same ∙ may.wide ∙ sym (ap (λ (s : Shelf Body). length s.columns) of.shelf_is)

pub may-room : (t : Txn) (table : TableNo) (bodies : List Body) (before : Table) → MayInsert t table bodies → IsTableOf (held_in t) table.0 before → length before.shelf.kept < before.limit
unfolding held_in
may-room t table bodies before may of = subst (λ (n : ℕ). length before.shelf.kept < n) (sym of.rows) (subst (λ (s : Shelf Body). length s.kept < t.base.limit) (sym of.shelf_is) may.room)

pub may-number : (t : Txn) (table : TableNo) (bodies : List Body) (before : Table) → MayInsert t table bodies → IsTableOf (held_in t) table.0 before → before.shelf.next < 2 ^ 63
unfolding held_in
may-number t table bodies before may of = subst (λ (s : Shelf Body). s.next < 2 ^ 63) (sym of.shelf_is) may.number
