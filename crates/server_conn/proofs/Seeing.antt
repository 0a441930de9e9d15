-- Tables as a transaction sees them: its own, or its version's.
use Rattle.std.proofs.Common.{◌≡◌, ◌≢◌, ℕ, ◌+◌, ◌<◌, ◌≤◌, ◌⊎◌, Bool, true, false, List, [], ◌∷◌, ◌++◌, length, get_or, set, map, Option, Some, None, IfSome, IsSome, Result, Ok, Err, OnOk, OnErr, refl, ap, sym, subst, ◌∙◌, arith, inl, inr, vec_capacity}
use Rattle.std.proofs.lemmas.Bool.{cases_lt, cases_eq}
use Rattle.std.proofs.lemmas.List.{get_or_past, get_or-set_other, get_or-set_same, length-set}
use Rattle.mope_base.specs.declared.body.Body.{Body}
use Rattle.mope_base.specs.declared.numbers.TableNo.{TableNo}
use Rattle.mope_base.specs.Lists.{Each}
use Rattle.table_model.specs.Stores.{Shelf, empty_shelf}
use Rattle.table_model.specs.Operations.{shelf_at, rank_ops_on}
use Rattle.table_model.specs.Fitting.{AllFitAt}
use Rattle.enc_table.specs.Seen.{Seen as Table, IsTable}
use Rattle.versions.specs.declared.op.Op.{Op}
use Rattle.versions.specs.Databases.{Database, IsDatabase, IsMember, table_at}
use Rattle.versions.specs.Operations.{rank_ops, OpsFit, AllHaveNumbers}
use Rattle.server_conn.specs.declared.txn.Txn.{Txn}
use Rattle.server_conn.specs.declared.txn.Mark.{Mark as Placed}
use Rattle.server_conn.specs.declared.txn.Walk.{Walk as Going}
use Rattle.server_conn.specs.Connections.{Held, Mark, held_on}
use Rattle.server_conn.specs.Handling.{AllTouched, IsDone}
use Rattle.server_conn.specs.Inside.{own_or, laid_over, shelves_in, held_in, mark_of, walk_if, IsOwn, IsMarkIn, IsWalkIf, IsTxn, IsTableOf, IsSameOwn, IsElse, IsTaken}
use Rattle.server_conn.proofs.Shelves.{length-laid, laid-at, own-each, own-member, is-table}

pub some-weaker : {A : Type 0} (r : Option A) (P Q : A → Type 0) → ((x : A) → P x → Q x) → IfSome r P → IfSome r Q
some-weaker None P Q f p = p
some-weaker (Some x) P Q f p = f x p

pub some-there : {A : Type 0} (r : Option A) (P Q : A → Type 0) → (IsSome r → (x : A) → P x → Q x) → IfSome r P → IfSome r Q
some-there None P Q f p = p
some-there (Some x) P Q f p = f refl x p

pub ok-holds : {A E P : Type 0} (r : Result A E) → P → OnOk r P
ok-holds (Ok x) p = p
ok-holds (Err e) p = tt

pub ok-then : {A E P Q : Type 0} (r : Result A E) → (P → Q) → OnOk r P → OnOk r Q
ok-then (Ok x) f p = f p
ok-then (Err e) f p = tt

pub some-at : {A : Type 0} (r : Option A) (P : A → Type 0) (x : A) → r ≡ Some x → IfSome r P → P x
some-at r P x is p = subst (λ (o : Option _). IfSome o P) is p

-- ---- at its begin

pub new-held : (t : Txn) → t.own.items ≡ [] → t.touched.items ≡ [] → t.ops.items ≡ [] → t.marks.items ≡ [] → t.walk ≡ None → held_in t ≡ held_on t.base
unfolding held_in shelves_in laid_over walk_if held_on
new-held t own touched ops marks walk =
    let shelves : laid_over t.own.items t.base.shelves ≡ t.base.shelves = ap (λ (o : List (Option Table)). laid_over o t.base.shelves) own in
    let places : map mark_of t.marks.items ≡ [] = ap (map mark_of) marks in
    let going : walk_if (laid_over t.own.items t.base.shelves) t.walk ≡ None = ap (walk_if (laid_over t.own.items t.base.shelves)) walk in
    cc

nothing-done : (d : Database) (touched : List TableNo) → IsDone d touched []
unfolding AllTouched AllFitAt AllHaveNumbers rank_ops
nothing-done d touched = record { fit = record { fit = tt; numbered = tt }; touches = tt }

pub new-txn : (t : Txn) → IsDatabase t.base → t.own.items ≡ [] → t.touched.items ≡ [] → t.ops.items ≡ [] → t.marks.items ≡ [] → t.walk ≡ None → IsTxn t
unfolding shelves_in laid_over rank_ops_on rank_ops Each IsWalkIf
new-txn t database own touched ops marks walk = record {
  database = database;
  few = omega (arith, ap length own);
  own = subst (Each (IsOwn t.base.same_time t.base.limit)) (sym own) tt;
  made = ap (λ (o : List (Option Table)). laid_over o t.base.shelves) own ∙ sym (ap (λ (os : List Op). rank_ops_on t.base.same_time (rank_ops os) t.base.shelves) ops);
  done = subst (IsDone t.base t.touched.items) (sym ops) (nothing-done t.base t.touched.items);
  marks = subst (Each (IsMarkIn (laid_over t.own.items t.base.shelves))) (sym marks) tt;
  walk = subst (IsWalkIf (laid_over t.own.items t.base.shelves) (length t.marks.items) (vec_capacity t.marks)) (sym walk) tt;
}

-- ---- its tables

pub own-there : (own : List (Option Table)) (i : ℕ) (s : Table) → get_or own i None ≡ Some s → i < length own
own-there own i s is =
    elim (cases_lt i (length own)) [
      | inl within ↦ within
      | inr past ↦ absurd (let e : None ≡ Some s = sym (get_or_past own i None past) ∙ is in cc)
    ]

pub own-within : (t : Txn) (i : ℕ) (s : Table) → IsTxn t → get_or t.own.items i None ≡ Some s → i < length (shelves_in t)
unfolding shelves_in
own-within t i s txn is = omega (arith, own-there t.own.items i s is, txn.few, length-laid t.own.items t.base.shelves)

pub base-within : (t : Txn) (i : ℕ) → i < length (shelves_in t) → i < length t.base.shelves
unfolding shelves_in
base-within t i h = omega (arith, h, length-laid t.own.items t.base.shelves)

pub within-base : (t : Txn) (i : ℕ) → i < length t.base.shelves → i < length (shelves_in t)
unfolding shelves_in
within-base t i h = omega (arith, h, length-laid t.own.items t.base.shelves)

pub table-own : (t : Txn) (i : ℕ) (s : Table) → IsTxn t → get_or t.own.items i None ≡ Some s → IsTableOf (held_in t) i s
unfolding held_in shelves_in shelf_at own_or
table-own t i s txn is =
    let member = own-member t.base.same_time t.base.limit (get_or t.own.items i None) s is (own-each t.base.same_time t.base.limit t.own.items i txn.own) in
    let there : i < length t.base.shelves = omega (arith, own-there t.own.items i s is, txn.few) in
    let d = empty_shelf Body 0 in
    record {
      shelf_is = sym (laid-at t.own.items t.base.shelves i d there ∙ ap (λ (o : Option Table). own_or o (get_or t.base.shelves i d)) is);
      mode = member.mode;
      rows = member.rows;
      fresh = member.fresh;
      is_table = member.table;
    }

pub table-base : (t : Txn) (i : ℕ) → IsTxn t → i < length t.base.shelves → get_or t.own.items i None ≡ None → IsTableOf (held_in t) i (table_at t.base i)
unfolding held_in shelves_in shelf_at own_or table_at
table-base t i txn there is =
    let d = empty_shelf Body 0 in
    record {
      shelf_is = sym (laid-at t.own.items t.base.shelves i d there ∙ ap (λ (o : Option Table). own_or o (get_or t.base.shelves i d)) is);
      mode = refl;
      rows = refl;
      fresh = refl;
      is_table = is-table t.base i txn.database there;
    }

-- the table found at a version that is this one
pub found-base : (t : Txn) (d : Database) (i : ℕ) (s : Table) → IsTxn t → d ≡ t.base → i < length t.base.shelves → get_or t.own.items i None ≡ None → s ≡ table_at d i → IsTableOf (held_in t) i s
found-base t d i s txn same there none is = subst (IsTableOf (held_in t) i) (sym (is ∙ ap (λ (e : Database). table_at e i) same)) (table-base t i txn there none)

-- ---- a table taken out

-- the own tables after room was made and one of them taken
pub taken-others : (own room left : List (Option Table)) (table : ℕ) → IsSameOwn own room → left ≡ set room table None → (i : ℕ) → i ≢ table → get_or left i None ≡ get_or own i None
taken-others own room left table same is i other = ap (λ (o : List (Option Table)). get_or o i None) is ∙ get_or-set_other room table i None None other ∙ same.each i

pub taken-length : (room left : List (Option Table)) (table n : ℕ) → left ≡ set room table None → length room ≡ n → length left ≡ n
taken-length room left table n is many = ap length is ∙ length-set room table None ∙ many

pub is-taken : (t u : Txn) (room : List (Option Table)) (table : ℕ) → IsElse t u → IsSameOwn t.own.items room → u.own.items ≡ set room table None → length room ≡ length t.base.shelves → IsTaken table t u
is-taken t u room table rest same is many = record {
  rest = rest;
  many = taken-length room u.own.items table (length t.base.shelves) is many;
  others = λ i other. taken-others t.own.items room u.own.items table same is i other;
}
