-- Walks for the constants of a statement, one after the other.
use Rattle.std.proofs.Common.{◌≡◌, ℕ, suc, List, [], ◌∷◌, ◌++◌, length, Option, None, refl, ap, ◌∙◌, sym, arith, append_assoc, append-nil, length-append}
use Rattle.mope_base.specs.Lists.{Each}
use Rattle.mope_base.specs.declared.numbers.TableNo.{TableNo}
use Rattle.mope_base.specs.declared.numbers.ColNo.{ColNo}
use Rattle.tree_model.specs.declared.Place.{Place}
use Rattle.tree_model.specs.Items.{values}
use Rattle.tree_model.specs.Columns.{items_of}
use Rattle.tree_model.specs.Walks.{place_in}
use Rattle.table_model.specs.Stores.{Store}
use Rattle.table_model.specs.Soundness.{column_at}
use Rattle.value_cipher.specs.Cipher.{Cell}
use Rattle.walk_proto.specs.declared.messages.Request.TheVariants as request
use Rattle.proxy.specs.Tasks.{looks, looks_then}
use Rattle.server_conn.specs.Connections.{Mark, Held, holds}
use Rattle.transaction_laws.specs.Meetings.{doing}
use Rattle.transaction_laws.specs.Walks.{value_in, walk_log, marked}
use Rattle.transaction_laws.specs.Constants.{Shows, store_at, walks_log, place_of, marks_for, with_marks, ConstantsMeet}
use Rattle.transaction_laws.proofs.Meeting.{meets_nothing, meets_then}
use Rattle.transaction_laws.proofs.Walking.{walk_meets, ending_at}
use Rattle.transaction_laws.proofs.Shown.{may_walk}

same_place : (store : Store Cell) (constant : ColNo × ℕ) → place_in value_in (column_at store.columns constant.0.0).tree constant.1 ≡ place_of store constant
unfolding place_in place_of values items_of value_in
same_place store constant = refl

-- a mark after another
with_marks-cons : (t : TableNo) (column : ColNo) (place : Place) (marks : List Mark) (h : Held) → with_marks marks (marked t column place h) ≡ with_marks (record { table = t.0; column = column.0; place = place } ∷ marks) h
unfolding with_marks marked
with_marks-cons t column place marks h = ap (λ (ms : List Mark). record h { marks = ms; walk = None }) (append_assoc h.marks (record { table = t.0; column = column.0; place = place } ∷ []) marks)

no_marks : (h : Held) → h.walk ≡ None → h ≡ with_marks [] h
unfolding with_marks
no_marks h closed = ap (λ (w : Option _). record h { walk = w }) closed ∙ ap (λ (ms : List Mark). record h { marks = ms; walk = None }) (sym (append-nil h.marks))

shows-marked : (key : List ℕ) (stores : List (Store Cell)) (t : TableNo) (column : ColNo) (place : Place) (h : Held) → Shows key stores h → Shows key stores (marked t column place h)
unfolding marked
shows-marked key stores t column place h shows = record { stand = shows.stand; low = shows.low }

closed-marked : (t : TableNo) (column : ColNo) (place : Place) (h : Held) → (marked t column place h).walk ≡ None
unfolding marked
closed-marked t column place h = refl

marks-marked : (t : TableNo) (column : ColNo) (place : Place) (h : Held) → length (marked t column place h).marks ≡ suc (length h.marks)
unfolding marked
marks-marked t column place h = length-append h.marks (record { table = t.0; column = column.0; place = place } ∷ []) ∙ omega arith

pub constants_meet : ConstantsMeet
unfolding looks_then walks_log marks_for Each
constants_meet s t [] later stores c h shows closed in_tables all few =
    ending_at s (doing later c) (holds h) [] (doing later c) (holds h) (holds (with_marks [] h)) (ap holds (no_marks h closed)) (meets_nothing s (doing later c) (holds h))
constants_meet s t (constant ∷ constants) later stores c h shows closed in_tables all few =
    let store = store_at stores t in
    let column = constant.0 in
    let tree = (column_at store.columns column.0).tree in
    let place = place_in value_in tree constant.1 in
    let h1 = marked t column place h in
    let first = walk_meets s t column constant.1 (looks_then t constants later) tree c h (may_walk s.key stores h t column shows closed in_tables (all.0) (omega (arith, few))) in
    let rest = constants_meet s t constants later stores c h1 (shows-marked s.key stores t column place h shows) (closed-marked t column place h) in_tables all.1 (omega (arith, few, marks-marked t column place h)) in
    let end : with_marks (marks_for t constants store) h1 ≡ with_marks (record { table = t.0; column = column.0; place = place_of store constant } ∷ marks_for t constants store) h =
    with_marks-cons t column place (marks_for t constants store) h ∙ ap (λ (p : Place). with_marks (record { table = t.0; column = column.0; place = p } ∷ marks_for t constants store) h) (same_place store constant) in
    ending_at s (doing (looks t column constant.1 ∷ looks_then t constants later) c) (holds h) (walk_log s.key constant.1 (request.WalkStart t column) tree ++ walks_log s.key t constants store) (doing later c) (holds (with_marks (marks_for t constants store) h1)) (holds (with_marks (record { table = t.0; column = column.0; place = place_of store constant } ∷ marks_for t constants store) h)) (ap holds end)
    (meets_then s (doing (looks t column constant.1 ∷ looks_then t constants later) c) (doing (looks_then t constants later) c) (doing later c) (holds h) (holds h1) (holds (with_marks (marks_for t constants store) h1)) (walk_log s.key constant.1 (request.WalkStart t column) tree) (walks_log s.key t constants store) first rest)
