-- Rows that a statement takes out, and statements that take none.
use Rattle.std.proofs.Common.{◌≡◌, ◌≢◌, ℕ, zero, suc, ◌+◌, ◌<◌, ◌≤◌, ◌==◌, Bool, true, false, List, [], ◌∷◌, ◌++◌, length, set, map, Some, None, refl, ap, sym, subst, ◌∙◌, arith}
use Rattle.std.proofs.Math.Dec.{eqb-suc-zero}
use Rattle.std.proofs.lemmas.List.{length-map}
use Rattle.mope_base.specs.declared.body.Body.{Body}
use Rattle.mope_base.specs.declared.numbers.TableNo.{TableNo}
use Rattle.tree_model.specs.Places.{IsIncreasing}
use Rattle.table_model.specs.Stores.{Shelf, Kept}
use Rattle.table_model.specs.Soundness.{kept_numbers}
use Rattle.table_model.specs.Changes.{delete_rows}
use Rattle.table_model.specs.Fitting.{AllAmong, FitsDeleteAt, OpFitsAt}
use Rattle.table_model.specs.Operations.{shelf_at, rank_op_on, DeleteAt}
use Rattle.enc_table.specs.Seen.{Seen as Table, IsTable, with_shelf}
use Rattle.versions.specs.declared.op.Op.TheVariants as op
use Rattle.versions.specs.Databases.{IsMember}
use Rattle.versions.specs.Operations.{rank_op, op_table, HasNumber}
use Rattle.walk_proto.specs.declared.messages.Asked.{Asked}
use Rattle.walk_proto.specs.declared.messages.Reply.{Reply}
use Rattle.walk_proto.specs.declared.messages.Reply.TheVariants as reply
use Rattle.server_conn.specs.declared.came.Came.TheVariants as came
use Rattle.server_conn.specs.declared.txn.Txn.{Txn}
use Rattle.server_conn.specs.Connections.{Held, holds}
use Rattle.server_conn.specs.Inside.{shelves_in, held_in, step_by, IsTxn, IsTableOf, IsElse, IsTaken, IsNoted}
use Rattle.server_conn.specs.Serving.{step_to, after_statement, with_op, without_numbers, changed_by, verb_by, reply_about, rows_asked, queried}
use Rattle.server_conn.proofs.Seeing.{base-within}
use Rattle.server_conn.proofs.Written.{IsOpOn, put-back, else-both, noted-same, written-txn, written-held}

pub record MayTake (h : Held) (table : TableNo) (numbers : List ℕ) : Type 0 where
  pub there : table.0 < length h.shelves
  pub some : 0 < length numbers
  pub rise : IsIncreasing numbers
  pub live : AllAmong (kept_numbers (shelf_at h.shelves table.0).kept) numbers

pub rows-does : (h : Held) (table : TableNo) (numbers : List ℕ) (before after : Table) → MayTake h table numbers → IsTableOf h table.0 before → after ≡ with_shelf (delete_rows before.same_time numbers before.shelf) before → IsTable after
    → IsOpOn h table (op.Delete table numbers) (delete_rows h.base.same_time numbers) after
unfolding rank_op op_table rank_op_on OpFitsAt HasNumber with_shelf
rows-does h table numbers before after may of is sound = record {
  there = may.there;
  names = refl;
  on = refl;
  fits = record { there = may.there; some = may.some; rise = may.rise; live = may.live };
  number = tt;
  shelf_is = ap (λ (u : Table). u.shelf) is ∙ ap (λ (b : Bool). delete_rows b numbers before.shelf) of.mode ∙ ap (λ (s : Shelf Body). delete_rows h.base.same_time numbers s) of.shelf_is;
  member = record { mode = ap (λ (u : Table). u.same_time) is ∙ of.mode; rows = ap (λ (u : Table). u.limit) is ∙ of.rows; fresh = ap (λ (u : Table). u.spent) is ∙ of.fresh; table = sound };
}

pub some-numbers : (table : TableNo) (numbers : List ℕ) (h : Held) → 0 < length numbers → with_op (op.Delete table numbers) table (delete_rows h.base.same_time numbers) h ≡ without_numbers table numbers h
unfolding without_numbers
some-numbers table [] h some = absurd (omega (arith, some))
some-numbers table (n ∷ numbers) h some = refl

pub no-numbers : (table : TableNo) (numbers : List ℕ) (h : Held) → (length numbers == 0) ≡ true → h ≡ without_numbers table numbers h
unfolding without_numbers
no-numbers table [] h none = refl
no-numbers table (n ∷ numbers) h none = absurd (let e : false ≡ true = sym (eqb-suc-zero (length numbers)) ∙ none in cc)

pub there-are : (numbers : List ℕ) → (length numbers == 0) ≡ false → 0 < length numbers
there-are [] some = absurd (let e : true ≡ false = some in cc)
there-are (n ∷ numbers) some = omega arith

-- ---- what a selection comes to

length-numbers : (rows : List (Kept Body)) → length (kept_numbers rows) ≡ length rows
unfolding kept_numbers
length-numbers rows = length-map rows _

deletes-by : (a : Asked) (h : Held) (rows : List (Kept Body)) → a.verb ≡ 4
    → step_to (reply.Count (length rows)) (holds (after_statement a.table (without_numbers a.table (kept_numbers rows) h))) ≡ step_to (reply_about (verb_by a.verb a) rows) (holds (after_statement a.table (changed_by (verb_by a.verb a) a.table rows h)))
unfolding verb_by reply_about changed_by
deletes-by a h rows four = sym (ap (λ (n : ℕ). step_to (reply_about (verb_by n a) rows) (holds (after_statement a.table (changed_by (verb_by n a) a.table rows h)))) four)

changes-none : (v : ℕ) (a : Asked) (rows : List (Kept Body)) (h : Held) → v < 4 → changed_by (verb_by v a) a.table rows h ≡ h
unfolding verb_by changed_by
changes-none zero a rows h low = refl
changes-none (suc zero) a rows h low = refl
changes-none (suc (suc zero)) a rows h low = refl
changes-none (suc (suc (suc zero))) a rows h low = refl
changes-none (suc (suc (suc (suc n)))) a rows h low = absurd (omega (arith, low))

pub deletion-is : (a : Asked) (h u : Held) (numbers : List ℕ) (count : ℕ) → a.verb ≡ 4 → numbers ≡ kept_numbers (rows_asked a h) → count ≡ length numbers → u ≡ after_statement a.table (without_numbers a.table numbers h)
    → step_by (came.Says (reply.Count count)) u ≡ queried a h
unfolding step_by queried
deletion-is a h u numbers count four is counted does =
    let rows = rows_asked a h in
    ap (λ (k : Held). step_to (reply.Count count) (holds k)) does
    ∙ ap (λ (n : ℕ). step_to (reply.Count n) (holds (after_statement a.table (without_numbers a.table numbers h)))) (counted ∙ ap length is ∙ length-numbers rows)
    ∙ ap (λ (ns : List ℕ). step_to (reply.Count (length rows)) (holds (after_statement a.table (without_numbers a.table ns h)))) is
    ∙ deletes-by a h rows four

pub selection-is : (a : Asked) (h u : Held) (answer : Reply) → a.verb < 4 → answer ≡ reply_about (verb_by a.verb a) (rows_asked a h) → u ≡ after_statement a.table h → step_by (came.Says answer) u ≡ queried a h
unfolding step_by queried
selection-is a h u answer low is does =
    ap (λ (k : Held). step_to answer (holds k)) does
    ∙ ap (λ (r : Reply). step_to r (holds (after_statement a.table h))) is
    ∙ ap (λ (k : Held). step_to (reply_about (verb_by a.verb a) (rows_asked a h)) (holds (after_statement a.table k))) (sym (changes-none a.verb a (rows_asked a h) h low))

rows-of : (t : Txn) (table : TableNo) (numbers : List ℕ) (before after : Table) → MayTake (held_in t) table numbers → IsTableOf (held_in t) table.0 before → after ≡ with_shelf (delete_rows before.same_time numbers before.shelf) before → IsTable after
    → IsOpOn (held_in t) table (op.Delete table numbers) (delete_rows t.base.same_time numbers) after
unfolding held_in
rows-of t table numbers before after may of is sound = rows-does (held_in t) table numbers before after may of is sound

pub shelves-there : (t : Txn) (table : TableNo) → table.0 < length (held_in t).shelves → table.0 < length (shelves_in t)
unfolding held_in
shelves-there t table there = there

numbers-of : (t : Txn) (table : TableNo) (numbers : List ℕ) → 0 < length numbers → with_op (op.Delete table numbers) table (delete_rows t.base.same_time numbers) (held_in t) ≡ without_numbers table numbers (held_in t)
unfolding held_in
numbers-of t table numbers some = some-numbers table numbers (held_in t) some

-- rows were taken out: from the transaction t, whose table was taken (m), put back (n) and noted (u)
pub record RowsGo (t u : Txn) (table : TableNo) (numbers : List ℕ) : Type 0 where
  pub txn : IsTxn u
  pub held : held_in u ≡ after_statement table (without_numbers table numbers (held_in t))

pub rows-go : (t m n u : Txn) (table : TableNo) (numbers : List ℕ) (before after : Table) → IsTxn t → t.walk ≡ None → MayTake (held_in t) table numbers → IsTableOf (held_in t) table.0 before → IsTaken table.0 t m
    → after ≡ with_shelf (delete_rows before.same_time numbers before.shelf) before → IsTable after
    → n.own.items ≡ set m.own.items table.0 (Some after) → IsElse m n → IsNoted table (n.ops.items ++ op.Delete table numbers ∷ []) n u → RowsGo t u table numbers
rows-go t m n u table numbers before after txn closed may of taken is sound put rest noted =
    let o = op.Delete table numbers in
    let change = delete_rows t.base.same_time numbers in
    let does : IsOpOn (held_in t) table o change after = rows-of t table numbers before after may of is sound in
    let written = put-back table.0 after t m n taken (base-within t table.0 (shelves-there t table may.there)) put rest in
    let else_tn = else-both t m n taken.rest rest in
    let same = noted-same table o t n u else_tn noted in
    record {
      txn = written-txn table o change after t n u txn closed written else_tn same does;
      held = written-held table o change after t n u closed written else_tn same does ∙ ap (after_statement table) (numbers-of t table numbers may.some);
    }
