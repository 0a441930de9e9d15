-- A transaction after one operation more, or after a statement that changed nothing.
use Rattle.std.proofs.Common.{◌≡◌, ◌≢◌, ℕ, zero, suc, ◌<◌, ◌≤◌, ◌^◌, ◌||◌, Bool, true, false, List, [], ◌∷◌, ◌++◌, length, get_or, set, map, eqb, Option, Some, None, refl, ap, sym, subst, ◌∙◌, arith, inl, inr, eq-eqb, vec_capacity, Vec, Global}
use Rattle.std.proofs.lemmas.Bool.{cases_eq}
use Rattle.std.proofs.lemmas.List.{length-set, get_or-set_other, get_or-set_same}
use Rattle.mope_base.specs.declared.body.Body.{Body}
use Rattle.mope_base.specs.declared.numbers.TableNo.{TableNo}
use Rattle.mope_base.specs.Lists.{Each}
use Rattle.tree_model.specs.Items.{change_at}
use Rattle.table_model.specs.Stores.{Shelf}
use Rattle.table_model.specs.Fitting.{OpFitsAt, AllFitAt}
use Rattle.table_model.specs.Operations.{RankOp, shelf_at, rank_op_on, rank_ops_on}
use Rattle.enc_table.specs.Seen.{Seen as Table}
use Rattle.versions.specs.declared.op.Op.{Op}
use Rattle.versions.specs.Databases.{Database, IsDatabase, IsMember}
use Rattle.versions.specs.Newer.{names}
use Rattle.versions.specs.Operations.{rank_op, rank_ops, op_table, HasNumber, AllHaveNumbers, OpsFit}
use Rattle.versions.proofs.OpsOn.{rank_ops_on-append}
use Rattle.server_conn.specs.declared.txn.Txn.{Txn}
use Rattle.server_conn.specs.declared.txn.Walk.{Walk as Going}
use Rattle.server_conn.specs.declared.txn.Mark.{Mark as Placed}
use Rattle.server_conn.specs.Connections.{Held, Mark}
use Rattle.server_conn.specs.Handling.{AllTouched, IsDone}
use Rattle.server_conn.specs.Inside.{laid_over, shelves_in, held_in, mark_of, walk_if, IsOwn, IsMarkIn, IsWalkIf, IsTxn, IsElse, IsSameOwn, IsTaken, IsNoted}
use Rattle.server_conn.specs.Serving.{after_statement, with_op}
use Rattle.server_conn.proofs.Shelves.{length-laid, same-laid, put-laid, own-each, each-own, member-own}

-- ---- operations that fit, and their tables

fits-more : {B : Type 0} (same_time : Bool) (limit : ℕ) (ops : List (RankOp B)) (op : RankOp B) (shelves : List (Shelf B)) → AllFitAt same_time limit ops shelves → OpFitsAt limit op (rank_ops_on same_time ops shelves) → AllFitAt same_time limit (ops ++ op ∷ []) shelves
unfolding AllFitAt rank_ops_on
fits-more same_time limit [] op shelves fit here = (here, tt)
fits-more same_time limit (o ∷ ops) op shelves fit here = (fit.0, fits-more same_time limit ops op (rank_op_on same_time o shelves) fit.1 here)

numbers-more : {B : Type 0} (same_time : Bool) (ops : List (RankOp B)) (op : RankOp B) (shelves : List (Shelf B)) → AllHaveNumbers same_time ops shelves → HasNumber op (rank_ops_on same_time ops shelves) → AllHaveNumbers same_time (ops ++ op ∷ []) shelves
unfolding AllHaveNumbers rank_ops_on
numbers-more same_time [] op shelves have here = (here, tt)
numbers-more same_time (o ∷ ops) op shelves have here = (have.0, numbers-more same_time ops op (rank_op_on same_time o shelves) have.1 here)

rank_ops-push : (ops : List Op) (op : Op) → rank_ops (ops ++ op ∷ []) ≡ rank_ops ops ++ rank_op op ∷ []
unfolding rank_ops
rank_ops-push [] op = refl
rank_ops-push (o ∷ ops) op = ap (λ (rest : List (RankOp Body)). rank_op o ∷ rest) (rank_ops-push ops op)

or-more : (a b c : Bool) → (b ≡ true → c ≡ true) → (a || b) ≡ true → (a || c) ≡ true
or-more true b c more is = refl
or-more false b c more is = more is

names-more : (touched : List TableNo) (t : TableNo) (i : ℕ) → names touched i ≡ true → names (touched ++ t ∷ []) i ≡ true
unfolding names
names-more [] t i is = absurd (let e : false ≡ true = is in cc)
names-more (u ∷ touched) t i is = or-more (eqb u.0 i) (names touched i) (names (touched ++ t ∷ []) i) (names-more touched t i) is

or-right : (a b : Bool) → b ≡ true → (a || b) ≡ true
or-right true b is = refl
or-right false b is = is

names-last : (touched : List TableNo) (t : TableNo) → names (touched ++ t ∷ []) t.0 ≡ true
unfolding names
names-last [] t = rw (eq-eqb t.0 t.0 refl) refl
names-last (u ∷ touched) t = or-right (eqb u.0 t.0) (names (touched ++ t ∷ []) t.0) (names-last touched t)

touched-more : (touched : List TableNo) (t : TableNo) (ops : List (RankOp Body)) → AllTouched touched ops → AllTouched (touched ++ t ∷ []) ops
unfolding AllTouched
touched-more touched t [] all = tt
touched-more touched t (op ∷ ops) all = (names-more touched t (op_table op) all.0, touched-more touched t ops all.1)

touched-push : (touched : List TableNo) (ops : List (RankOp Body)) (op : RankOp Body) → AllTouched touched ops → names touched (op_table op) ≡ true → AllTouched touched (ops ++ op ∷ [])
unfolding AllTouched
touched-push touched [] op all here = (here, tt)
touched-push touched (o ∷ ops) op all here = (all.0, touched-push touched ops op all.1 here)

done-more : (d : Database) (touched : List TableNo) (t : TableNo) (ops : List Op) → IsDone d touched ops → IsDone d (touched ++ t ∷ []) ops
done-more d touched t ops done = record { fit = done.fit; touches = touched-more touched t (rank_ops ops) done.touches }

done-push : (d : Database) (touched : List TableNo) (t : TableNo) (ops : List Op) (op : Op) → IsDone d touched ops → t.0 ≡ op_table (rank_op op) → OpFitsAt d.limit (rank_op op) (rank_ops_on d.same_time (rank_ops ops) d.shelves) → HasNumber (rank_op op) (rank_ops_on d.same_time (rank_ops ops) d.shelves)
    → IsDone d (touched ++ t ∷ []) (ops ++ op ∷ [])
done-push d touched t ops op done is fits number = record {
  fit = subst (λ (os : List (RankOp Body)). OpsFit os d) (sym (rank_ops-push ops op)) (record {
    fit = fits-more d.same_time d.limit (rank_ops ops) (rank_op op) d.shelves done.fit.fit fits;
    numbered = numbers-more d.same_time (rank_ops ops) (rank_op op) d.shelves done.fit.numbered number;
  });
  touches = subst (AllTouched (touched ++ t ∷ [])) (sym (rank_ops-push ops op))
      (touched-push (touched ++ t ∷ []) (rank_ops ops) (rank_op op) (touched-more touched t (rank_ops ops) done.touches) (subst (λ (i : ℕ). names (touched ++ t ∷ []) i ≡ true) is (names-last touched t)));
}

made-push : (d : Database) (ops : List Op) (op : Op) (shelves : List (Shelf Body)) → shelves ≡ rank_ops_on d.same_time (rank_ops ops) d.shelves → rank_op_on d.same_time (rank_op op) shelves ≡ rank_ops_on d.same_time (rank_ops (ops ++ op ∷ [])) d.shelves
unfolding rank_ops_on
made-push d ops op shelves made =
    ap (rank_op_on d.same_time (rank_op op)) made
    ∙ sym (rank_ops_on-append d.same_time (rank_ops ops) (rank_op op ∷ []) d.shelves)
    ∙ ap (λ (os : List (RankOp Body)). rank_ops_on d.same_time os d.shelves) (sym (rank_ops-push ops op))

-- ---- no walk is open, and no place is kept

no-walk : (shelves : List (Shelf Body)) (marks room : ℕ) (walk : Option Going) → walk ≡ None → IsWalkIf shelves marks room walk
unfolding IsWalkIf
no-walk shelves marks room walk none = subst (IsWalkIf shelves marks room) (sym none) tt

no-marks : (shelves : List (Shelf Body)) (marks : List Placed) → marks ≡ [] → Each (IsMarkIn shelves) marks
unfolding Each
no-marks shelves marks none = subst (Each (IsMarkIn shelves)) (sym none) tt

-- ---- a statement that changed nothing

pub left-txn : (table : TableNo) (t u : Txn) → IsTxn t → t.walk ≡ None → IsNoted table t.ops.items t u → IsTxn u
unfolding shelves_in
left-txn table t u txn closed noted =
    let base = noted.base in
    let own = noted.own in
    let shelves : shelves_in u ≡ shelves_in t = cc in
    record {
      database = subst IsDatabase (sym base) txn.database;
      few = subst (λ (n : ℕ). n ≤ length u.base.shelves) (let e : length t.own.items ≡ length u.own.items = cc in e) (subst (λ (d : Database). length t.own.items ≤ length d.shelves) (sym base) txn.few);
      own = subst (λ (d : Database). Each (IsOwn d.same_time d.limit) u.own.items) (sym base) (subst (Each (IsOwn t.base.same_time t.base.limit)) (let e : t.own.items ≡ u.own.items = cc in e) txn.own);
      made = shelves ∙ txn.made ∙ (let e : rank_ops_on t.base.same_time (rank_ops t.ops.items) t.base.shelves ≡ rank_ops_on u.base.same_time (rank_ops u.ops.items) u.base.shelves = let o = noted.ops_are in cc in e);
      done = subst (λ (d : Database). IsDone d u.touched.items u.ops.items) (sym base)
          (subst (λ (touched : List TableNo). IsDone t.base touched u.ops.items) (sym noted.touched)
          (subst (IsDone t.base (t.touched.items ++ table ∷ [])) (sym noted.ops_are) (done-more t.base t.touched.items table t.ops.items txn.done)));
      marks = no-marks (shelves_in u) u.marks.items noted.marks;
      walk = no-walk (shelves_in u) (length u.marks.items) (vec_capacity u.marks) u.walk (noted.walk ∙ closed);
    }

pub left-held : (table : TableNo) (t u : Txn) → t.walk ≡ None → IsNoted table t.ops.items t u → held_in u ≡ after_statement table (held_in t)
unfolding held_in shelves_in after_statement walk_if
left-held table t u closed noted =
    let base = noted.base in
    let own = noted.own in
    let touched = noted.touched in
    let ops = noted.ops_are in
    let marks : map mark_of u.marks.items ≡ [] = ap (map mark_of) noted.marks in
    let walk : walk_if (laid_over u.own.items u.base.shelves) u.walk ≡ walk_if (laid_over t.own.items t.base.shelves) t.walk = let w = noted.walk in cc in
    cc

-- ---- an operation more

-- the own tables after an operation on one of them
pub record IsWritten (table : ℕ) (after : Table) (t u : Txn) : Type 0 where
  pub base : u.base ≡ t.base
  pub many : length u.own.items ≡ length t.base.shelves
  pub others : (i : ℕ) → i ≢ table → get_or u.own.items i None ≡ get_or t.own.items i None
  pub here : get_or u.own.items table None ≡ Some after

-- what an operation needs and does
pub record IsOpOn (h : Held) (table : TableNo) (op : Op) (change : Shelf Body → Shelf Body) (after : Table) : Type 0 where
  pub there : table.0 < length h.shelves
  pub names : table.0 ≡ op_table (rank_op op)
  pub on : rank_op_on h.base.same_time (rank_op op) h.shelves ≡ change_at change h.shelves table.0
  pub fits : OpFitsAt h.base.limit (rank_op op) h.shelves
  pub number : HasNumber (rank_op op) h.shelves
  pub shelf_is : after.shelf ≡ change (shelf_at h.shelves table.0)
  pub member : IsMember h.base.same_time h.base.limit after

written-laid : (table : TableNo) (op : Op) (change : Shelf Body → Shelf Body) (after : Table) (t u : Txn) → IsWritten table.0 after t u → IsOpOn (held_in t) table op change after → laid_over u.own.items t.base.shelves ≡ change_at change (shelves_in t) table.0
unfolding shelves_in held_in
written-laid table op change after t u written does =
    put-laid t.own.items u.own.items t.base.shelves table.0 after change (omega (arith, does.there, length-laid t.own.items t.base.shelves)) written.others written.here does.shelf_is

own-at : (table : TableNo) (after : Table) (t u : Txn) → IsWritten table.0 after t u → IsMember t.base.same_time t.base.limit after → Each (IsOwn t.base.same_time t.base.limit) t.own.items → Each (IsOwn t.base.same_time t.base.limit) u.own.items
own-at table after t u written member each =
    each-own t.base.same_time t.base.limit u.own.items (λ i.
    elim (cases_eq i table.0) [
      | inl same ↦ subst (λ (k : ℕ). IsOwn t.base.same_time t.base.limit (get_or u.own.items k None)) (sym same) (member-own t.base.same_time t.base.limit (get_or u.own.items table.0 None) after written.here member)
      | inr other ↦ subst (IsOwn t.base.same_time t.base.limit) (sym (written.others i other)) (own-each t.base.same_time t.base.limit t.own.items i each)
    ])

pub written-txn : (table : TableNo) (op : Op) (change : Shelf Body → Shelf Body) (after : Table) (t m u : Txn) → IsTxn t → t.walk ≡ None → IsWritten table.0 after t m → IsElse t m → IsNoted table (t.ops.items ++ op ∷ []) m u → IsOpOn (held_in t) table op change after → IsTxn u
unfolding shelves_in held_in
written-txn table op change after t m u txn closed written rest noted does =
    let own = noted.own in
    let base : u.base ≡ t.base = noted.base ∙ written.base in
    let laid = written-laid table op change after t m written does in
    let shelves : laid_over u.own.items u.base.shelves ≡ change_at change (laid_over t.own.items t.base.shelves) table.0 = (let e : laid_over u.own.items u.base.shelves ≡ laid_over m.own.items t.base.shelves = cc in e) ∙ laid in
    let owns : m.own.items ≡ u.own.items = cc in
    let touched : u.touched.items ≡ t.touched.items ++ table ∷ [] = noted.touched ∙ (let e : m.touched.items ++ table ∷ [] ≡ t.touched.items ++ table ∷ [] = let r = rest.touched in cc in e) in
    record {
      database = subst IsDatabase (sym base) txn.database;
      few = subst (λ (d : Database). length u.own.items ≤ length d.shelves) (sym base) (let e : length u.own.items ≡ length t.base.shelves = ap length (sym owns) ∙ written.many in omega (arith, e));
      own = subst (λ (d : Database). Each (IsOwn d.same_time d.limit) u.own.items) (sym base) (subst (Each (IsOwn t.base.same_time t.base.limit)) owns (own-at table after t m written does.member txn.own));
      made = shelves ∙ sym does.on ∙ made-push t.base t.ops.items op (laid_over t.own.items t.base.shelves) txn.made
          ∙ (let e : rank_ops_on t.base.same_time (rank_ops (t.ops.items ++ op ∷ [])) t.base.shelves ≡ rank_ops_on u.base.same_time (rank_ops u.ops.items) u.base.shelves = let o = noted.ops_are in cc in e);
      done = subst (λ (d : Database). IsDone d u.touched.items u.ops.items) (sym base)
          (subst (λ (tables : List TableNo). IsDone t.base tables u.ops.items) (sym touched)
          (subst (IsDone t.base (t.touched.items ++ table ∷ [])) (sym noted.ops_are)
          (done-push t.base t.touched.items table t.ops.items op txn.done does.names
          (subst (OpFitsAt t.base.limit (rank_op op)) txn.made does.fits) (subst (HasNumber (rank_op op)) txn.made does.number))));
      marks = no-marks (shelves_in u) u.marks.items noted.marks;
      walk = no-walk (shelves_in u) (length u.marks.items) (vec_capacity u.marks) u.walk (noted.walk ∙ rest.walk ∙ closed);
    }

pub written-held : (table : TableNo) (op : Op) (change : Shelf Body → Shelf Body) (after : Table) (t m u : Txn) → t.walk ≡ None → IsWritten table.0 after t m → IsElse t m → IsNoted table (t.ops.items ++ op ∷ []) m u → IsOpOn (held_in t) table op change after
    → held_in u ≡ after_statement table (with_op op table change (held_in t))
unfolding held_in shelves_in after_statement with_op walk_if
written-held table op change after t m u closed written rest noted does =
    let own = noted.own in
    let base : u.base ≡ t.base = noted.base ∙ written.base in
    let laid = written-laid table op change after t m written does in
    let shelves : laid_over u.own.items u.base.shelves ≡ change_at change (laid_over t.own.items t.base.shelves) table.0 = (let e : laid_over u.own.items u.base.shelves ≡ laid_over m.own.items t.base.shelves = cc in e) ∙ laid in
    let touched : u.touched.items ≡ t.touched.items ++ table ∷ [] = noted.touched ∙ (let e : m.touched.items ++ table ∷ [] ≡ t.touched.items ++ table ∷ [] = let r = rest.touched in cc in e) in
    let ops = noted.ops_are in
    let marks : map mark_of u.marks.items ≡ [] = ap (map mark_of) noted.marks in
    let walk_none : u.walk ≡ None = noted.walk ∙ rest.walk ∙ closed in
    let walk : walk_if (laid_over u.own.items u.base.shelves) u.walk ≡ walk_if (laid_over t.own.items t.base.shelves) t.walk =
    ap (walk_if (laid_over u.own.items u.base.shelves)) walk_none ∙ sym (ap (walk_if (laid_over t.own.items t.base.shelves)) closed) in
    cc

-- ---- the same transaction, whatever room there is for own tables

-- a table put back after it was taken
pub put-back : (table : ℕ) (after : Table) (t m u : Txn) → IsTaken table t m → table < length t.base.shelves → u.own.items ≡ set m.own.items table (Some after) → IsElse m u → IsWritten table after t u
put-back table after t m u taken there is rest = record {
  base = rest.base ∙ taken.rest.base;
  many = ap length is ∙ length-set m.own.items table (Some after) ∙ taken.many;
  others = λ i other. ap (λ (o : List (Option Table)). get_or o i None) is ∙ get_or-set_other m.own.items table i (Some after) None other ∙ taken.others i other;
  here = ap (λ (o : List (Option Table)). get_or o table None) is ∙ get_or-set_same m.own.items table (Some after) None (omega (arith, there, taken.many));
}

pub else-both : (t m u : Txn) → IsElse t m → IsElse m u → IsElse t u
else-both t m u first second = record {
  base = second.base ∙ first.base;
  touched = second.touched ∙ first.touched;
  ops = second.ops ∙ first.ops;
  marks = second.marks ∙ first.marks;
  walk = second.walk ∙ first.walk;
}

-- the operations noted are those before and this one
pub noted-same : (table : TableNo) (op : Op) (t m u : Txn) → IsElse t m → IsNoted table (m.ops.items ++ op ∷ []) m u → IsNoted table (t.ops.items ++ op ∷ []) m u
noted-same table op t m u rest noted = record {
  base = noted.base;
  own = noted.own;
  touched = noted.touched;
  ops_are = noted.ops_are ∙ (let e : m.ops.items ++ op ∷ [] ≡ t.ops.items ++ op ∷ [] = let r = rest.ops in cc in e);
  marks = noted.marks;
  walk = noted.walk;
}

-- ---- the same transaction, whatever room there is for touched tables
