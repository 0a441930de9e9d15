-- One operation of a list on a table in the making.
use Rattle.std.proofs.Common.{◌≡◌, ℕ, suc, ◌+◌, ◌<◌, ◌^◌, ◌++◌, [], ◌∷◌, true, false, List, length, take, get_or, ap, sym, ◌∙◌, subst, eqb, add-one, arith}
use Rattle.std.proofs.lemmas.Bool.{eqb-true}
use Rattle.mope_base.specs.declared.body.Body.{Body}
use Rattle.mope_base.specs.declared.numbers.TableNo.{TableNo}
use Rattle.tree_model.specs.declared.Place.{Place}
use Rattle.tree_model.specs.Places.{IsIncreasing}
use Rattle.table_model.specs.Stores.{Shelf}
use Rattle.table_model.specs.Steps.{adds}
use Rattle.table_model.specs.Changes.{insert_row, delete_rows}
use Rattle.table_model.specs.Soundness.{kept_numbers}
use Rattle.table_model.specs.ShelfSoundness.{AllSoundShelves}
use Rattle.table_model.specs.Operations.{RankOp, InsertAt, DeleteAt, rank_op_on, rank_ops_on, shelf_at}
use Rattle.table_model.specs.Fitting.{AllPlaced, AllAmong, FitsInsertAt, FitsDeleteAt, OpFitsAt}
use Rattle.table_model.proofs.ShelfTables.{op-shelf, ops-shelf}
use Rattle.enc_table.specs.Seen.{Seen, with_shelf}
use Rattle.enc_table.specs.Sums.{sums, delete_sums}
use Rattle.versions.specs.declared.op.Op.{Op}
use Rattle.versions.specs.declared.op.Op.TheVariants.{Insert, Delete}
use Rattle.versions.specs.declared.draft.Logged.{Logged}
use Rattle.versions.specs.declared.draft.Logged.TheVariants.{Row, Rows}
use Rattle.versions.specs.Databases.{Database, IsDatabase, table_at}
use Rattle.versions.specs.Drafts.{IsDraft}
use Rattle.versions.specs.Operations.{rank_op, rank_ops, op_table, HasNumber, OpsFit}
use Rattle.versions.proofs.OpsOn.{rank_ops-more, fits-at, numbered-at, fits-take}
use Rattle.versions.proofs.DraftSteps.{inserts, deletes, elsewhere}

-- the operation at a place is this one, on this table
pub record IsAt (d : Database) (table : ℕ) (ops : List Op) (at : ℕ) (op : Op) (made : Seen) (log : List Logged) : Type 0 where
  pub is : IsDatabase d
  pub fit : OpsFit (rank_ops ops) d
  pub there : table < length d.shelves
  pub within : at < length ops
  pub names : op ≡ get_or ops at op
  pub draft : IsDraft d table (rank_ops (take at ops)) made log

fits : (d : Database) (table : ℕ) (ops : List Op) (at : ℕ) (op : Op) (made : Seen) (log : List Logged) → IsAt d table ops at op made log → OpFitsAt d.limit (rank_op op) (rank_ops_on d.same_time (rank_ops (take at ops)) d.shelves)
fits d table ops at op made log h = fits-at d.same_time d.limit ops at op d.shelves h.fit.fit h.within h.names

numbered : (d : Database) (table : ℕ) (ops : List Op) (at : ℕ) (op : Op) (made : Seen) (log : List Logged) → IsAt d table ops at op made log → HasNumber (rank_op op) (rank_ops_on d.same_time (rank_ops (take at ops)) d.shelves)
numbered d table ops at op made log h = numbered-at d.same_time ops at op d.shelves h.fit.numbered h.within h.names

sound : (d : Database) (table : ℕ) (ops : List Op) (at : ℕ) (op : Op) (made : Seen) (log : List Logged) → IsAt d table ops at op made log → AllSoundShelves d.same_time d.limit (rank_ops_on d.same_time (rank_ops (take at ops)) d.shelves)
sound d table ops at op made log h = ops-shelf d.same_time d.limit (rank_ops (take at ops)) d.shelves h.is.sound (fits-take d.same_time d.limit ops at d.shelves h.fit.fit)

sound-after : (d : Database) (table : ℕ) (ops : List Op) (at : ℕ) (op : Op) (made : Seen) (log : List Logged) → IsAt d table ops at op made log → AllSoundShelves d.same_time d.limit (rank_op_on d.same_time (rank_op op) (rank_ops_on d.same_time (rank_ops (take at ops)) d.shelves))
sound-after d table ops at op made log h = op-shelf d.same_time d.limit (rank_op op) (rank_ops_on d.same_time (rank_ops (take at ops)) d.shelves) (sound d table ops at op made log h) (fits d table ops at op made log h)

one_further : (d : Database) (table : ℕ) (ops : List Op) (at : ℕ) (op : Op) (next : Seen) (log : List Logged) → at < length ops → op ≡ get_or ops at op → IsDraft d table (rank_ops (take at ops) ++ rank_op op ∷ []) next log → IsDraft d table (rank_ops (take (at + 1) ops)) next log
one_further d table ops at op next log within names h =
    subst (λ (n : ℕ). IsDraft d table (rank_ops (take n ops)) next log) (sym (let e : at + 1 ≡ suc at = add-one at in e))
    (subst (λ (l : List (RankOp Body)). IsDraft d table l next log) (sym (rank_ops-more ops at op within names)) h)

-- ---- what an INSERT asks for

pub record InsertAsks (d : Database) (table : ℕ) (ops : List Op) (at : ℕ) (named : TableNo) (places : List Place) (bodies : List Body) (made : Seen) (log : List Logged) : Type 0 where
  pub placed : AllPlaced made.shelf.columns places
  pub wide : length bodies ≡ length made.shelf.columns
  pub room : length made.shelf.kept < made.limit
  pub number : made.shelf.next < 2 ^ 63
  pub next : IsDraft d table (rank_ops (take (at + 1) ops)) (with_shelf (insert_row made.same_time places bodies made.shelf) made) (log ++ Row (sums made.same_time (adds places bodies) made.shelf.columns) ∷ [])

insert-here : (d : Database) (table : ℕ) (ops : List Op) (at : ℕ) (named : TableNo) (places : List Place) (bodies : List Body) (made : Seen) (log : List Logged) → IsAt d table ops at (Insert named places bodies) made log → FitsInsertAt Body d.limit table places bodies (rank_ops_on d.same_time (rank_ops (take at ops)) d.shelves) → (shelf_at (rank_ops_on d.same_time (rank_ops (take at ops)) d.shelves) table).next < 2 ^ 63
    → rank_op (Insert named places bodies) ≡ InsertAt table places bodies → InsertAsks d table ops at named places bodies made log
unfolding table_at with_shelf
insert-here d table ops at named places bodies made log h fit number is =
    let shelves = rank_ops_on d.same_time (rank_ops (take at ops)) d.shelves in
    let op : Op = Insert named places bodies in
    let made_shelf : made.shelf ≡ shelf_at shelves table = ap (λ (m : Seen). m.shelf) h.draft.seen in
    let made_limit : made.limit ≡ d.limit = ap (λ (m : Seen). m.limit) h.draft.seen in
    record {
      placed = subst (λ (s : Shelf Body). AllPlaced s.columns places) (sym made_shelf) fit.placed;
      wide = fit.wide ∙ ap (λ (s : Shelf Body). length s.columns) (sym made_shelf);
      room = omega (arith, fit.room, ap (λ (s : Shelf Body). length s.kept) made_shelf, made_limit);
      number = omega (arith, number, ap (λ (s : Shelf Body). s.next) made_shelf);
      next = one_further d table ops at op _ _ h.within h.names
          (subst (λ (o : RankOp Body). IsDraft d table (rank_ops (take at ops) ++ o ∷ []) (with_shelf (insert_row made.same_time places bodies made.shelf) made) (log ++ Row (sums made.same_time (adds places bodies) made.shelf.columns) ∷ [])) (sym is)
          (inserts d table (rank_ops (take at ops)) places bodies made log h.is h.there h.draft fit.placed fit.wide (sound d table ops at op made log h)
          (subst (λ (o : RankOp Body). AllSoundShelves d.same_time d.limit (rank_op_on d.same_time o shelves)) is (sound-after d table ops at op made log h))));
    }

pub insert-asks : (d : Database) (table : ℕ) (ops : List Op) (at : ℕ) (named : TableNo) (places : List Place) (bodies : List Body) (made : Seen) (log : List Logged) → IsAt d table ops at (Insert named places bodies) made log → eqb named.0 table ≡ true → InsertAsks d table ops at named places bodies made log
unfolding rank_op OpFitsAt HasNumber
insert-asks d table ops at named places bodies made log h same =
    let e : named.0 ≡ table = eqb-true named.0 table same in
    let shelves = rank_ops_on d.same_time (rank_ops (take at ops)) d.shelves in
    insert-here d table ops at named places bodies made log h
    (subst (λ (t : ℕ). FitsInsertAt Body d.limit t places bodies shelves) e (fits d table ops at (Insert named places bodies) made log h))
    (subst (λ (t : ℕ). (shelf_at shelves t).next < 2 ^ 63) e (numbered d table ops at (Insert named places bodies) made log h))
    (ap (λ (t : ℕ). InsertAt t places bodies) e)

-- ---- what a DELETE asks for

pub record DeleteAsks (d : Database) (table : ℕ) (ops : List Op) (at : ℕ) (rows : List ℕ) (made : Seen) (log : List Logged) : Type 0 where
  pub rise : IsIncreasing rows
  pub live : AllAmong (kept_numbers made.shelf.kept) rows
  pub next : IsDraft d table (rank_ops (take (at + 1) ops)) (with_shelf (delete_rows made.same_time rows made.shelf) made) (log ++ Rows (delete_sums made.same_time rows made.shelf) ∷ [])

delete-here : (d : Database) (table : ℕ) (ops : List Op) (at : ℕ) (named : TableNo) (rows : List ℕ) (made : Seen) (log : List Logged) → IsAt d table ops at (Delete named rows) made log → FitsDeleteAt Body table rows (rank_ops_on d.same_time (rank_ops (take at ops)) d.shelves)
    → rank_op (Delete named rows) ≡ DeleteAt table rows → DeleteAsks d table ops at rows made log
unfolding table_at with_shelf
delete-here d table ops at named rows made log h fit is =
    let shelves = rank_ops_on d.same_time (rank_ops (take at ops)) d.shelves in
    let op : Op = Delete named rows in
    let made_shelf : made.shelf ≡ shelf_at shelves table = ap (λ (m : Seen). m.shelf) h.draft.seen in
    record {
      rise = fit.rise;
      live = subst (λ (s : Shelf Body). AllAmong (kept_numbers s.kept) rows) (sym made_shelf) fit.live;
      next = one_further d table ops at op _ _ h.within h.names
          (subst (λ (o : RankOp Body). IsDraft d table (rank_ops (take at ops) ++ o ∷ []) (with_shelf (delete_rows made.same_time rows made.shelf) made) (log ++ Rows (delete_sums made.same_time rows made.shelf) ∷ [])) (sym is)
          (deletes d table (rank_ops (take at ops)) rows made log h.is h.there h.draft (sound d table ops at op made log h)));
    }

pub delete-asks : (d : Database) (table : ℕ) (ops : List Op) (at : ℕ) (named : TableNo) (rows : List ℕ) (made : Seen) (log : List Logged) → IsAt d table ops at (Delete named rows) made log → eqb named.0 table ≡ true → DeleteAsks d table ops at rows made log
unfolding rank_op OpFitsAt
delete-asks d table ops at named rows made log h same =
    let e : named.0 ≡ table = eqb-true named.0 table same in
    let shelves = rank_ops_on d.same_time (rank_ops (take at ops)) d.shelves in
    delete-here d table ops at named rows made log h
    (subst (λ (t : ℕ). FitsDeleteAt Body t rows shelves) e (fits d table ops at (Delete named rows) made log h))
    (ap (λ (t : ℕ). DeleteAt t rows) e)

-- ---- an operation on another table

pub elsewhere-stays : (d : Database) (table : ℕ) (ops : List Op) (at : ℕ) (op : Op) (made : Seen) (log : List Logged) → IsAt d table ops at op made log → eqb (op_table (rank_op op)) table ≡ false → IsDraft d table (rank_ops (take (at + 1) ops)) made log
elsewhere-stays d table ops at op made log h other =
    one_further d table ops at op made log h.within h.names (elsewhere d table (rank_ops (take at ops)) (rank_op op) made log h.is h.there h.draft (sound d table ops at op made log h) other)
