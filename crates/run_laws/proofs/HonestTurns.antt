-- Honest turns are the world's.
use Rattle.std.proofs.Common.{◌≡◌, ℕ, Bool, true, false, ltb, List, [], ◌∷◌, ◌++◌, map, get_or, Option, Some, None, refl, ap, ap₂, ◌∙◌, sym, subst}
use Rattle.std.proofs.lemmas.List.{append_assoc, append-nil}
use Rattle.std.proofs.Math.ListN.{get_or-map as get_or-map_all}
use Rattle.mope_base.specs.declared.body.Body.{Body}
use Rattle.mope_base.specs.declared.numbers.TableNo.{TableNo}
use Rattle.mope_base.specs.declared.numbers.SessionNo.{SessionNo}
use Rattle.mope_base.specs.declared.numbers.ColNo.{ColNo}
use Rattle.tree_model.specs.declared.Place.{Place}
use Rattle.tree_model.specs.Places.{place}
use Rattle.tree_model.specs.Items.{Item, map_item, values}
use Rattle.tree_model.specs.Columns.{Column, items_of, map_column}
use Rattle.tree_model.proofs.RankSteps.{items-map_column}
use Rattle.table_model.specs.Stores.{Store, Shelf, empty_store, empty_shelf, map_shelf, shelf_of}
use Rattle.table_model.specs.Steps.{places_by}
use Rattle.table_model.specs.Operations.{ValueOp, InsertCells, DeleteRows, RankOp, InsertAt, DeleteAt, op_on, rank_op_on, shelf_at, placed_op, placed_ops, map_rank_op, AllSound}
use Rattle.table_model.specs.Fitting.{OpFits, AllFit}
use Rattle.table_model.proofs.Ops.{op-sound, op-shelves, rank_op-map}
use Rattle.value_cipher.specs.Cipher.{Cell, value_of, sealed, unseal_of}
use Rattle.versions.specs.declared.change.ColumnChange.{ColumnChange}
use Rattle.versions.specs.declared.op.Op.{Op}
use Rattle.versions.specs.declared.op.Op.TheVariants.{Insert, Delete}
use Rattle.versions.specs.declared.turn.Turn.{Turn}
use Rattle.versions.specs.declared.turn.TurnKind.{TurnKind}
use Rattle.versions.specs.declared.turn.TurnKind.TheVariants.{Began, Committed, Conflict, Installed, Stale}
use Rattle.versions.specs.Databases.{Database}
use Rattle.versions.specs.Operations.{rank_op}
use Rattle.versions.specs.Turns.{after_turn, replay, changes_by, IsTold, AreTold}
use Rattle.workload.specs.declared.script.Piece.{Piece}
use Rattle.workload.specs.declared.script.Piece.TheVariants as piece
use Rattle.workload.specs.declared.script.Workload.{Workload}
use Rattle.workload.specs.Run.{Position, ready, committing, installing, position_at, lowest_newer, last_change, stamps_of, turns_taken}
use Rattle.workload.specs.Transaction.{Work}
use Rattle.workload.specs.Validity.{IsValid}
use Rattle.transaction_laws.specs.Standing.{World, Stands}
use Rattle.transaction_laws.specs.Transactions.{kept_op, kept_ops}
use Rattle.transaction_laws.proofs.AskedPlans.{unseals}
use Rattle.run_laws.specs.Worlds.{RunSetting, first_version}
use Rattle.run_laws.specs.WorldRuns.{Session, WorldRun, Taken, first_run, world_at, session_at, begin_taken, commit_taken, install_taken, next_from, next_turn, after_taken, world_turn, world_turns}
use Rattle.run_laws.specs.Honesty.{sessions_of, without_places, kind_without_places, IsPlaced, ArePlaced, KindIsPlaced, IsHonest, HonestFrom, Honest}
use Rattle.run_laws.specs.RunLaws.{kinds_of, HonestRun}
use Rattle.run_laws.specs.TurnLaws.{store_in}
use Rattle.run_laws.proofs.SameOn.{columns-in}
use Rattle.run_laws.proofs.PlainInside.{turns-inside}
use Rattle.run_laws.proofs.Lasting.{Lasts, first-lasts, replay-more}
use Rattle.run_laws.proofs.TurnCases.{gives, turn-lasts, turns-last}

-- ---- places of sealed cells

values-sealed : (key : List ℕ) (items : List (Item Cell)) → values (unseal_of key) (map (map_item (sealed key)) items) ≡ values value_of items
unfolding values map_item
values-sealed key [] = refl
values-sealed key (x ∷ items) = ap₂ (λ (n : ℕ) (rest : List ℕ). n ∷ rest) (unseals key x.body) (values-sealed key items)

column-sealed : (key : List ℕ) (c : Column Cell) → values (unseal_of key) (items_of (map_column (sealed key) c)) ≡ values value_of (items_of c)
column-sealed key c = ap (values (unseal_of key)) (items-map_column (sealed key) c) ∙ values-sealed key (items_of c)

pub places-sealed : (key : List ℕ) (cs : List (Column Cell)) (cells : List Cell) → places_by (unseal_of key) (map (map_column (sealed key)) cs) (map (sealed key) cells) ≡ places_by value_of cs cells
unfolding places_by
places-sealed key [] cells = refl
places-sealed key (c ∷ cs) [] = refl
places-sealed key (c ∷ cs) (cell ∷ cells) =
    ap₂ (λ (p : Place) (rest : List Place). p ∷ rest) (ap₂ (λ (vs : List ℕ) (x : ℕ). place vs x) (column-sealed key c) (unseals key cell)) (places-sealed key cs cells)

unfoldable pub sealed_shelves : List ℕ → List (Store Cell) → List (Shelf Body)
sealed_shelves key stores = map (map_shelf (sealed key)) (map (shelf_of value_of) stores)

empty-sealed : (key : List ℕ) → (let s : Shelf Body = map_shelf (sealed key) (shelf_of value_of (empty_store Cell 0)) in s) ≡ empty_shelf Body 0
unfolding map_shelf shelf_of empty_store empty_shelf
empty-sealed key = refl

pub shelf-sealed : (key : List ℕ) (stores : List (Store Cell)) (table : ℕ) → shelf_at (sealed_shelves key stores) table ≡ map_shelf (sealed key) (shelf_of value_of (store_in stores table))
unfolding shelf_at store_in sealed_shelves
shelf-sealed key stores table =
    ap (λ (d : Shelf Body). get_or (map (map_shelf (sealed key)) (map (shelf_of value_of) stores)) table d) (sym (empty-sealed key))
    ∙ get_or-map_all (map_shelf (sealed key)) (map (shelf_of value_of) stores) table (shelf_of value_of (empty_store Cell 0))
    ∙ ap (map_shelf (sealed key)) (get_or-map_all (shelf_of value_of) stores table (empty_store Cell 0))

pub places-in : (key : List ℕ) (stores : List (Store Cell)) (table : ℕ) (cells : List Cell) → places_by (unseal_of key) (shelf_at (sealed_shelves key stores) table).columns (map (sealed key) cells) ≡ places_by value_of (store_in stores table).columns cells
unfolding map_shelf shelf_of
places-in key stores table cells =
    ap (λ (s : Shelf Body). places_by (unseal_of key) s.columns (map (sealed key) cells)) (shelf-sealed key stores table) ∙ places-sealed key (store_in stores table).columns cells

-- ---- the operations that a transaction keeps are placed

op-placed : (key : List ℕ) (limit : ℕ) (op : ValueOp Cell) (stores : List (Store Cell)) → OpFits limit op stores → IsPlaced key (kept_op (map_rank_op (sealed key) (placed_op value_of op stores))) (sealed_shelves key stores)
unfolding IsPlaced kept_op map_rank_op placed_op OpFits
op-placed key limit (InsertCells table cells) stores fits = ap (λ (cs : List (Column Cell)). places_by value_of cs cells) (columns-in stores table fits.there) ∙ sym (places-in key stores table cells)
op-placed key limit (DeleteRows table numbers) stores fits = tt

rank-one : (op : RankOp Body) → rank_op (kept_op op) ≡ op
unfolding rank_op kept_op
rank-one (InsertAt table places bodies) = refl
rank-one (DeleteAt table numbers) = refl

ops-placed : (key : List ℕ) (same_time : Bool) (limit : ℕ) (ops : List (ValueOp Cell)) (stores : List (Store Cell)) → AllSound value_of same_time limit stores → AllFit same_time value_of limit ops stores → ArePlaced key same_time (kept_ops key same_time ops stores) (sealed_shelves key stores)
unfolding ArePlaced kept_ops placed_ops AllFit sealed_shelves
ops-placed key same_time limit [] stores sound fit = tt
ops-placed key same_time limit (op ∷ ops) stores sound fit =
    let placed : RankOp Cell = placed_op value_of op stores in
    let next : List (Store Cell) = op_on same_time value_of op stores in
    let after : rank_op_on same_time (rank_op (kept_op (map_rank_op (sealed key) placed))) (sealed_shelves key stores) ≡ sealed_shelves key next =
    ap (λ (o : RankOp Body). rank_op_on same_time o (sealed_shelves key stores)) (rank-one (map_rank_op (sealed key) placed))
    ∙ rank_op-map (sealed key) same_time placed (map (shelf_of value_of) stores)
    ∙ ap (map (map_shelf (sealed key))) (sym (op-shelves value_of same_time limit op stores sound)) in (
      op-placed key limit op stores fit.0,
      subst (λ (shelves : List (Shelf Body)). ArePlaced key same_time (kept_ops key same_time ops next) shelves) (sym after) (ops-placed key same_time limit ops next (op-sound value_of same_time limit op stores sound fit.0) fit.1),
    )

-- ---- operations that are placed are told by their other parts

Tells : Op → Op → Type 0
Tells (Insert table places bodies) (Insert table2 places2 bodies2) = (table ≡ table2) × (bodies ≡ bodies2)
Tells (Insert table places bodies) (Delete table2 rows2) = ⊥
Tells (Delete table rows) (Insert table2 places2 bodies2) = ⊥
Tells (Delete table rows) (Delete table2 rows2) = (table ≡ table2) × (rows ≡ rows2)

tells-self : (o : Op) → Tells o o
unfolding Tells
tells-self (Insert table places bodies) = (refl, refl)
tells-self (Delete table rows) = (refl, refl)

op-determined : (key : List ℕ) (a b : Op) (shelves : List (Shelf Body)) → Tells (without_places a) (without_places b) → IsPlaced key a shelves → IsPlaced key b shelves → a ≡ b
unfolding Tells without_places IsPlaced
op-determined key (Insert table places bodies) (Insert table2 places2 bodies2) shelves same placed placed2 =
    ap₂ (λ (t : TableNo) (x : List Body). Insert t places x) same.0 same.1
    ∙ ap (λ (p : List Place). Insert table2 p bodies2) (placed ∙ ap₂ (λ (t : TableNo) (x : List Body). places_by (unseal_of key) (shelf_at shelves t.0).columns x) same.0 same.1 ∙ sym placed2)
op-determined key (Insert table places bodies) (Delete table2 rows2) shelves same placed placed2 = absurd same
op-determined key (Delete table rows) (Insert table2 places2 bodies2) shelves same placed placed2 = absurd same
op-determined key (Delete table rows) (Delete table2 rows2) shelves same placed placed2 = ap₂ (λ (t : TableNo) (x : List ℕ). Delete t x) same.0 same.1

AllTell : List Op → List Op → Type 0
AllTell [] [] = Unit {0}
AllTell [] (b ∷ bs) = ⊥
AllTell (a ∷ more) [] = ⊥
AllTell (a ∷ more) (b ∷ bs) = Tells a b × AllTell more bs

all-tell-self : (ops : List Op) → AllTell ops ops
unfolding AllTell
all-tell-self [] = tt
all-tell-self (o ∷ ops) = (tells-self o, all-tell-self ops)

ops-determined : (key : List ℕ) (same_time : Bool) (ops others : List Op) (shelves : List (Shelf Body)) → AllTell (map without_places ops) (map without_places others) → ArePlaced key same_time ops shelves → ArePlaced key same_time others shelves → ops ≡ others
unfolding AllTell ArePlaced
ops-determined key same_time [] [] shelves same placed placed2 = refl
ops-determined key same_time [] (b ∷ others) shelves same placed placed2 = absurd same
ops-determined key same_time (a ∷ ops) [] shelves same placed placed2 = absurd same
ops-determined key same_time (a ∷ ops) (b ∷ others) shelves same placed placed2 =
    let here : a ≡ b = op-determined key a b shelves same.0 placed.0 placed2.0 in
    ap₂ (λ (o : Op) (rest : List Op). o ∷ rest) here
    (ops-determined key same_time ops others (rank_op_on same_time (rank_op a) shelves) same.1 placed.1 (subst (λ (o : Op). ArePlaced key same_time others (rank_op_on same_time (rank_op o) shelves)) (sym here) placed2.1))

KindTells : TurnKind → TurnKind → Type 0
KindTells (Began number) k = Began number ≡ k
KindTells (Committed number ops) (Began number2) = ⊥
KindTells (Committed number ops) (Committed number2 ops2) = (number ≡ number2) × AllTell ops ops2
KindTells (Committed number ops) (Conflict table2 number2) = ⊥
KindTells (Committed number ops) (Installed number2 table2 column2) = ⊥
KindTells (Committed number ops) (Stale table2 number2) = ⊥
KindTells (Conflict table number) k = Conflict table number ≡ k
KindTells (Installed number table column) k = Installed number table column ≡ k
KindTells (Stale table number) k = Stale table number ≡ k

kind-tells-self : (k : TurnKind) → KindTells k k
unfolding KindTells
kind-tells-self (Began number) = refl
kind-tells-self (Committed number ops) = (refl, all-tell-self ops)
kind-tells-self (Conflict table number) = refl
kind-tells-self (Installed number table column) = refl
kind-tells-self (Stale table number) = refl

IsCommitted : TurnKind → Type 0
IsCommitted (Began number) = ⊥
IsCommitted (Committed number ops) = Unit {0}
IsCommitted (Conflict table number) = ⊥
IsCommitted (Installed number table column) = ⊥
IsCommitted (Stale table number) = ⊥

-- a kind that isn't a commit is itself but for the places
kind-plain : (k : TurnKind) (j : TurnKind) → (IsCommitted j → ⊥) → j ≡ kind_without_places k → j ≡ k
unfolding kind_without_places IsCommitted
kind-plain (Began number) j other is = is
kind-plain (Committed number ops) j other is = absurd (other (subst IsCommitted (sym is) tt))
kind-plain (Conflict table number) j other is = is
kind-plain (Installed number table column) j other is = is
kind-plain (Stale table number) j other is = is

kind-determined : (key : List ℕ) (a b : TurnKind) (d : Database) → KindTells (kind_without_places a) (kind_without_places b) → KindIsPlaced key a d → KindIsPlaced key b d → a ≡ b
unfolding KindTells kind_without_places KindIsPlaced IsCommitted
kind-determined key (Began number) b d same placed placed2 = kind-plain b (Began number) (λ x. x) same
kind-determined key (Committed number ops) (Began number2) d same placed placed2 = absurd same
kind-determined key (Committed number ops) (Committed number2 ops2) d same placed placed2 = ap₂ (λ (n : ℕ) (l : List Op). Committed n l) same.0 (ops-determined key d.same_time ops ops2 d.shelves same.1 placed placed2)
kind-determined key (Committed number ops) (Conflict table2 number2) d same placed placed2 = absurd same
kind-determined key (Committed number ops) (Installed number2 table2 column2) d same placed placed2 = absurd same
kind-determined key (Committed number ops) (Stale table2 number2) d same placed placed2 = absurd same
kind-determined key (Conflict table number) b d same placed placed2 = kind-plain b (Conflict table number) (λ x. x) same
kind-determined key (Installed number table column) b d same placed placed2 = kind-plain b (Installed number table column) (λ x. x) same
kind-determined key (Stale table number) b d same placed placed2 = kind-plain b (Stale table number) (λ x. x) same

-- ---- the next turn is placed

TakenIsPlaced : List ℕ → Database → Option Taken → Type 0
TakenIsPlaced key d None = Unit {0}
TakenIsPlaced key d (Some taken) = KindIsPlaced key taken.turn.what d

commit-placed : (s : RunSetting) (w : Workload) (r : WorldRun) (n : SessionNo) → IsValid w → Lasts s w r → (place base : ℕ) (work : Work) (rest : List Piece) (found : Option (TableNo × ℕ)) → position_at r.plain.positions n.0 ≡ committing place base work rest → lowest_newer 0 r.plain.stamps base work.touched ≡ found
    → KindIsPlaced s.key (commit_taken s (world_at r base) r.current n (session_at r.sessions n.0) found).turn.what (replay r.turns (first_version s w))
unfolding commit_taken KindIsPlaced sealed_shelves
commit-placed s w r n valid lasts place base work rest (Some newer) at is = tt
commit-placed s w r n valid lasts place base work rest None at is =
    let given = gives s w r n valid lasts place base work rest at is in
    let ops : List (ValueOp Cell) = (session_at r.sessions n.0).tried.ops in
    let d : Database = replay r.turns (first_version s w) in
    let current : ArePlaced s.key r.current.same_time (kept_ops s.key r.current.same_time ops r.current.stores) (sealed_shelves s.key r.current.stores) =
    ops-placed s.key r.current.same_time r.current.limit ops r.current.stores lasts.stands.tables.sound given.fit in
    subst (λ (mode : Bool). ArePlaced s.key mode (kept_ops s.key r.current.same_time ops (world_at r base).stores) d.shelves) (sym lasts.stands.mode)
    (subst (λ (shelves : List (Shelf Body)). ArePlaced s.key r.current.same_time (kept_ops s.key r.current.same_time ops (world_at r base).stores) shelves) (sym lasts.stands.tables.same)
    (subst (λ (kept : List Op). ArePlaced s.key r.current.same_time kept (sealed_shelves s.key r.current.stores)) (sym given.goes.places) current))

install-placed : (s : RunSetting) (r : WorldRun) (n : SessionNo) (session : Session) (t : TableNo) (column : ColNo) (stale : Bool) (newer : ℕ) (d : Database) → KindIsPlaced s.key (install_taken r.current n session t column stale newer).turn.what d
unfolding install_taken KindIsPlaced
install-placed s r n session t column true newer d = tt
install-placed s r n session t column false newer d = tt

begin-placed : (s : RunSetting) (r : WorldRun) (n : SessionNo) (session : Session) (p : Piece) (d : Database) → KindIsPlaced s.key (begin_taken s r.current n session p).turn.what d
unfolding begin_taken KindIsPlaced
begin-placed s r n session (piece.Txn acts rollback) d = tt
begin-placed s r n session (piece.Rebuild t column) d = tt

next-from-placed : (s : RunSetting) (w : Workload) (r : WorldRun) (n : SessionNo) → IsValid w → Lasts s w r → (p : Position) → position_at r.plain.positions n.0 ≡ p → TakenIsPlaced s.key (replay r.turns (first_version s w)) (next_from s r n p)
unfolding TakenIsPlaced next_from
next-from-placed s w r n valid lasts (ready place []) at = tt
next-from-placed s w r n valid lasts (ready place (p ∷ rest)) at = begin-placed s r n (session_at r.sessions n.0) p (replay r.turns (first_version s w))
next-from-placed s w r n valid lasts (committing place base work rest) at = commit-placed s w r n valid lasts place base work rest (lowest_newer 0 r.plain.stamps base work.touched) at refl
next-from-placed s w r n valid lasts (installing place base t column rest) at =
    install-placed s r n (session_at r.sessions n.0) t column (ltb base (last_change (stamps_of r.plain t))) (last_change (stamps_of r.plain t)) (replay r.turns (first_version s w))

next-placed : (s : RunSetting) (w : Workload) (r : WorldRun) (n : SessionNo) (taken : Taken) → IsValid w → Lasts s w r → next_turn s r n ≡ Some taken → KindIsPlaced s.key taken.turn.what (replay r.turns (first_version s w))
unfolding next_turn TakenIsPlaced
next-placed s w r n taken valid lasts is = subst (TakenIsPlaced s.key (replay r.turns (first_version s w))) is (next-from-placed s w r n valid lasts (position_at r.plain.positions n.0) refl)

-- ---- honest turns one after the other

-- an honest turn is the world's
honest-kind : (s : RunSetting) (w : Workload) (r : WorldRun) (turn : Turn) → IsValid w → Lasts s w r → (honest : IsHonest s r (replay r.turns (first_version s w)) turn) → turn.what ≡ honest.taken.turn.what
unfolding KindTells
honest-kind s w r turn valid lasts honest =
    kind-determined s.key turn.what honest.taken.turn.what (replay r.turns (first_version s w))
    (subst (λ (k : TurnKind). KindTells (kind_without_places turn.what) k) honest.same (kind-tells-self (kind_without_places turn.what)))
    honest.placed (next-placed s w r turn.session honest.taken valid lasts honest.is_next)

pub turns-after : (s : RunSetting) (r : WorldRun) (n : SessionNo) (taken : Taken) → next_turn s r n ≡ Some taken → (world_turn s r n).turns ≡ r.turns ++ taken.turn ∷ []
unfolding world_turn after_taken
turns-after s r n taken is = ap (λ (o : Option Taken). (after_taken o r n).turns) is

-- where honest turns lead to from a run and a version
record Leads (s : RunSetting) (w : Workload) (r : WorldRun) (turns : List Turn) (next : WorldRun) : Type 0 where
  leads : replay turns (replay r.turns (first_version s w)) ≡ replay next.turns (first_version s w)
  kinds : kinds_of next.turns ≡ kinds_of r.turns ++ kinds_of turns
  sessions : sessions_of next.turns ≡ sessions_of r.turns ++ sessions_of turns
  whole : AreTold turns (replay r.turns (first_version s w)) → next.turns ≡ r.turns ++ turns

turn_as : (a b : Turn) → a.session ≡ b.session → a.what ≡ b.what → a.changes ≡ b.changes → a ≡ b
turn_as a b session what changes =
    ap (λ (x : SessionNo). let t : Turn = record { session = x; what = a.what; changes = a.changes } in t) session
    ∙ ap (λ (x : TurnKind). let t : Turn = record { session = b.session; what = x; changes = a.changes } in t) what
    ∙ ap (λ (x : List ColumnChange). let t : Turn = record { session = b.session; what = b.what; changes = x } in t) changes

told-last : (turns : List Turn) (turn : Turn) (d : Database) → AreTold (turns ++ turn ∷ []) d → IsTold turn (replay turns d)
unfolding AreTold replay
told-last [] turn d told = told.0
told-last (first ∷ turns) turn d told = told-last turns turn (after_turn first.what d) told.1

-- a turn is its session's
TakenIsOwn : SessionNo → Option Taken → Type 0
TakenIsOwn n None = Unit {0}
TakenIsOwn n (Some taken) = taken.turn.session ≡ n

begin-own : (s : RunSetting) (w : World) (n : SessionNo) (session : Session) (p : Piece) → (begin_taken s w n session p).turn.session ≡ n
unfolding begin_taken
begin-own s w n session (piece.Txn acts rollback) = refl
begin-own s w n session (piece.Rebuild t column) = refl

commit-own : (s : RunSetting) (base w : World) (n : SessionNo) (session : Session) (found : Option (TableNo × ℕ)) → (commit_taken s base w n session found).turn.session ≡ n
unfolding commit_taken
commit-own s base w n session (Some newer) = refl
commit-own s base w n session None = refl

install-own : (w : World) (n : SessionNo) (session : Session) (t : TableNo) (column : ColNo) (stale : Bool) (newer : ℕ) → (install_taken w n session t column stale newer).turn.session ≡ n
unfolding install_taken
install-own w n session t column true newer = refl
install-own w n session t column false newer = refl

next-from-own : (s : RunSetting) (r : WorldRun) (n : SessionNo) (p : Position) → TakenIsOwn n (next_from s r n p)
unfolding next_from TakenIsOwn
next-from-own s r n (ready place []) = tt
next-from-own s r n (ready place (p ∷ rest)) = begin-own s r.current n (session_at r.sessions n.0) p
next-from-own s r n (committing place base work rest) = commit-own s (world_at r base) r.current n (session_at r.sessions n.0) (lowest_newer 0 r.plain.stamps base work.touched)
next-from-own s r n (installing place base t column rest) =
    install-own r.current n (session_at r.sessions n.0) t column (ltb base (last_change (stamps_of r.plain t))) (last_change (stamps_of r.plain t))

pub next-own : (s : RunSetting) (r : WorldRun) (n : SessionNo) (taken : Taken) → next_turn s r n ≡ Some taken → taken.turn.session ≡ n
unfolding next_turn TakenIsOwn
next-own s r n taken is = subst (TakenIsOwn n) is (next-from-own s r n (position_at r.plain.positions n.0))

kinds-more : (turns : List Turn) (a b : Turn) (more : List Turn) → b.what ≡ a.what → kinds_of (turns ++ a ∷ []) ++ kinds_of more ≡ kinds_of turns ++ kinds_of (b ∷ more)
kinds-more [] a b more same = ap (λ (k : TurnKind). k ∷ kinds_of more) (sym same)
kinds-more (first ∷ turns) a b more same = ap (λ (l : List TurnKind). first.what ∷ l) (kinds-more turns a b more same)

sessions-then : (turns : List Turn) (a b : Turn) (more : List Turn) → a.session ≡ b.session → sessions_of (turns ++ a ∷ []) ++ sessions_of more ≡ sessions_of turns ++ sessions_of (b ∷ more)
unfolding sessions_of
sessions-then [] a b more same = ap (λ (k : SessionNo). k ∷ sessions_of more) same
sessions-then (first ∷ turns) a b more same = ap (λ (l : List SessionNo). first.session ∷ l) (sessions-then turns a b more same)

-- one honest turn leads to the world's next version
one-leads : (s : RunSetting) (w : Workload) (r : WorldRun) (turn : Turn) → IsValid w → Lasts s w r → IsHonest s r (replay r.turns (first_version s w)) turn
    → after_turn turn.what (replay r.turns (first_version s w)) ≡ replay (world_turn s r turn.session).turns (first_version s w)
one-leads s w r turn valid lasts honest =
    let first : Database = first_version s w in
    ap (λ (k : TurnKind). after_turn k (replay r.turns first)) (honest-kind s w r turn valid lasts honest)
    ∙ sym (replay-more r.turns honest.taken.turn first)
    ∙ ap (λ (l : List Turn). replay l first) (sym (turns-after s r turn.session honest.taken honest.is_next))

-- and is the world's where it tells what it did
one-whole : (s : RunSetting) (w : Workload) (r : WorldRun) (turn : Turn) → IsValid w → Lasts s w r → (honest : IsHonest s r (replay r.turns (first_version s w)) turn) → IsTold turn (replay r.turns (first_version s w)) → honest.taken.turn ≡ turn
one-whole s w r turn valid lasts honest told =
    let first : Database = first_version s w in
    let own = next-own s r turn.session honest.taken honest.is_next in
    let kind = honest-kind s w r turn valid lasts honest in
    let last : IsTold honest.taken.turn (replay r.turns first) =
    told-last r.turns honest.taken.turn first (subst (λ (l : List Turn). AreTold l first) (turns-after s r turn.session honest.taken honest.is_next) (turn-lasts s w r turn.session valid lasts).told) in
    turn_as honest.taken.turn turn own (sym kind)
    (last.changes ∙ ap (λ (k : TurnKind). changes_by k (replay r.turns first)) (sym kind) ∙ sym told.changes)

honest-leads : (s : RunSetting) (w : Workload) → IsValid w → (turns : List Turn) (r : WorldRun) → Lasts s w r → HonestFrom s r (replay r.turns (first_version s w)) turns → Leads s w r turns (world_turns s r (sessions_of turns))
unfolding HonestFrom replay AreTold sessions_of world_turns
honest-leads s w valid [] r lasts honest = record { leads = refl; kinds = sym (append-nil (kinds_of r.turns)); sessions = sym (append-nil (sessions_of r.turns)); whole = λ told. sym (append-nil r.turns) }
honest-leads s w valid (turn ∷ turns) r lasts honest =
    let first : Database = first_version s w in
    let next : WorldRun = world_turn s r turn.session in
    let one = one-leads s w r turn valid lasts honest.0 in
    let after = turns-after s r turn.session honest.0.taken honest.0.is_next in
    let rest = honest-leads s w valid turns next (turn-lasts s w r turn.session valid lasts) (subst (λ (d : Database). HonestFrom s next d turns) one honest.1) in
    record {
      leads = ap (λ (d : Database). replay turns d) one ∙ rest.leads;
      kinds = rest.kinds ∙ ap (λ (l : List Turn). kinds_of l ++ kinds_of turns) after ∙ kinds-more r.turns honest.0.taken.turn turn turns (honest-kind s w r turn valid lasts honest.0);
      sessions = rest.sessions ∙ ap (λ (l : List Turn). sessions_of l ++ sessions_of turns) after ∙ sessions-then r.turns honest.0.taken.turn turn turns (next-own s r turn.session honest.0.taken honest.0.is_next);
      whole = λ told. rest.whole (subst (λ (d : Database). AreTold turns d) one told.1)
          ∙ ap (λ (l : List Turn). l ++ turns) (after ∙ ap (λ (t : Turn). r.turns ++ t ∷ []) (one-whole s w r turn valid lasts honest.0 told.0))
          ∙ append_assoc r.turns (turn ∷ []) turns;
    }

pub honest_turns_stand : (s : RunSetting) (w : Workload) → IsValid w → (turns : List Turn) → Honest s w turns → HonestRun s w turns (world_turns s (first_run s w) (sessions_of turns))
unfolding first_run replay sessions_of
honest_turns_stand s w valid turns honest =
    let r : WorldRun = world_turns s (first_run s w) (sessions_of turns) in
    let lasts : Lasts s w r = turns-last s w (first_run s w) (sessions_of turns) valid (first-lasts s w) in
    let leads : Leads s w (first_run s w) turns r = honest-leads s w valid turns (first_run s w) (first-lasts s w) honest in
    record {
      skips_none = ap turns_taken (sym (turns-inside s (first_run s w) (sessions_of turns))) ∙ sym lasts.taken ∙ leads.sessions;
      kinds = sym leads.kinds;
      stands = subst (λ (d : Database). Stands s.key d r.current) (sym leads.leads) lasts.stands;
      whole = λ told. sym (leads.whole told);
    }

-- ---- one more

honest-more : (s : RunSetting) (w : Workload) → IsValid w → (turns : List Turn) (r : WorldRun) → Lasts s w r → HonestFrom s r (replay r.turns (first_version s w)) turns → (turn : Turn) (taken : Taken) → next_turn s (world_turns s r (sessions_of turns)) turn.session ≡ Some taken → turn.what ≡ taken.turn.what
    → HonestFrom s r (replay r.turns (first_version s w)) (turns ++ turn ∷ [])
unfolding HonestFrom sessions_of world_turns
honest-more s w valid [] r lasts honest turn taken is kind = (
  record {
    taken = taken;
    is_next = is;
    same = ap kind_without_places kind;
    placed = subst (λ (k : TurnKind). KindIsPlaced s.key k (replay r.turns (first_version s w))) (sym kind) (next-placed s w r turn.session taken valid lasts is);
  },
  tt,
)
honest-more s w valid (first ∷ turns) r lasts honest turn taken is kind =
    let next : WorldRun = world_turn s r first.session in
    let one = one-leads s w r first valid lasts honest.0 in (
      honest.0,
      subst (λ (d : Database). HonestFrom s next d (turns ++ turn ∷ [])) (sym one)
          (honest-more s w valid turns next (turn-lasts s w r first.session valid lasts) (subst (λ (d : Database). HonestFrom s next d turns) one honest.1) turn taken is kind),
    )

pub next_is_honest : (s : RunSetting) (w : Workload) → IsValid w → (turns : List Turn) → Honest s w turns → (turn : Turn) (taken : Taken) → next_turn s (world_turns s (first_run s w) (sessions_of turns)) turn.session ≡ Some taken → turn.what ≡ taken.turn.what → Honest s w (turns ++ turn ∷ [])
unfolding first_run replay
next_is_honest s w valid turns honest turn taken is kind = honest-more s w valid turns (first_run s w) (first-lasts s w) honest turn taken is kind
