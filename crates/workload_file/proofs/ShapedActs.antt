-- A statement's shape is numbered like the statement: no table, column or reason hangs on a constant.
use Rattle.std.proofs.Common.{◌≡◌, ℕ, Bool, true, false, nat_eq, List, [], ◌∷◌, ◌++◌, length, map, Option, Some, None, Result, Ok, Err, refl, ap, sym, ◌∙◌}
use Rattle.std.proofs.lemmas.List.{length-map, map-append}
use Rattle.std.specs.Option.{option_map}
use Rattle.mope_base.specs.declared.numbers.ColNo.{ColNo}
use Rattle.mope_base.specs.declared.numbers.TableNo.{TableNo}
use Rattle.sql_text.specs.declared.Name.{Name}
use Rattle.sql_text.specs.declared.Test.{Test}
use Rattle.sql_text.specs.declared.statements.Cond.{Cond}
use Rattle.sql_text.specs.declared.statements.Order.{Order}
use Rattle.sql_text.specs.declared.statements.Stmt.{Stmt}
use Rattle.sql_text.specs.declared.statements.Stmt.TheVariants as stmt
use Rattle.sql_text.specs.declared.statements.What.{What}
use Rattle.workload.specs.declared.script.Act.{Act}
use Rattle.workload.specs.declared.script.Decl.{Decl}
use Rattle.workload.specs.declared.script.Piece.{Piece}
use Rattle.workload.specs.declared.script.Piece.TheVariants as piece
use Rattle.workload.specs.declared.script.Verb.{Verb}
use Rattle.workload.specs.declared.script.Verb.TheVariants as verb
use Rattle.workload_file.specs.Naming.{column_of, columns_of, table_of}
use Rattle.workload_file.specs.Resolving.{both, bound, deleted, deleted_in, each_found, inserted, inserted_if, inserted_in, rebuild_of, rebuilt, rebuilt_in, selected, selected_in, test_in, tests_in, verb_in}
use Rattle.workload_file.specs.Shapes.{act_shape, cond_shape, condition_shape, piece_shape, statement_shape, test_shape, zero_of}
use Rattle.workload_file.specs.Steps.{begun, closed, stated, with_act, with_rebuild}
use Rattle.workload_file.specs.declared.reader.Stage.{Stage}
use Rattle.workload_file.specs.declared.reader.Stage.TheVariants.{Opening, Declaring, Session, Ended}
use Rattle.workload_file.specs.declared.stops.FileReason.{FileReason}

-- the shape of what was made, where no fault came before
unfoldable pub shaped : {A : Type 0} → (A → A) → Result A FileReason → Result A FileReason
shaped shape (Ok x) = Ok (shape x)
shaped shape (Err why) = Err why

-- of the transactions of a script, and of the statements of one that hasn't ended
abbrev pub pieces_shape : List Piece → List Piece
pieces_shape pieces = map piece_shape pieces

unfoldable pub open_shape : Option (List Act) → Option (List Act)
open_shape None = None
open_shape (Some acts) = Some (map act_shape acts)

unfoldable pub stage_shape : Stage → Stage
stage_shape Opening = Opening
stage_shape Declaring = Declaring
stage_shape (Session pieces unfinished) = Session (pieces_shape pieces) (open_shape unfinished)
stage_shape Ended = Ended

-- INSERT
if_shaped : (fits : Bool) (t : TableNo) (values : List ℕ) → inserted_if fits t (map zero_of values) ≡ shaped act_shape (inserted_if fits t values)
unfolding inserted_if shaped act_shape
if_shaped true t values = refl
if_shaped false t values = refl

inserted_in_shaped : (tables : List Decl) (o : Option TableNo) (values : List ℕ) → inserted_in tables o (map zero_of values) ≡ shaped act_shape (inserted_in tables o values)
unfolding inserted_in shaped
inserted_in_shaped tables None values = refl
inserted_in_shaped tables (Some t) values =
    ap (λ (n : ℕ). inserted_if (nat_eq n (length (columns_of tables t))) t (map zero_of values)) (length-map values zero_of)
    ∙ if_shaped (nat_eq (length values) (length (columns_of tables t))) t values

inserted_shaped : (tables : List Decl) (name : Name) (values : List ℕ) → inserted tables name (map zero_of values) ≡ shaped act_shape (inserted tables name values)
unfolding inserted
inserted_shaped tables name values = inserted_in_shaped tables (table_of tables name) values

-- conditions
test_shaped : (o : Option ColNo) (t : Test) → option_map (λ (number : ColNo). (number, test_shape t)) o ≡ option_map condition_shape (option_map (λ (number : ColNo). (number, t)) o)
test_shaped None t = refl
test_shaped (Some c) t = refl

both_shaped : (o : Option (ColNo × Test)) (rest : Option (List (ColNo × Test))) → both (option_map condition_shape o) (option_map (map condition_shape) rest) ≡ option_map (map condition_shape) (both o rest)
unfolding both
both_shaped None rest = refl
both_shaped (Some x) None = refl
both_shaped (Some x) (Some rest) = refl

conds_shaped : (columns : List Name) (conds : List Cond) → each_found (test_in columns) (map cond_shape conds) ≡ option_map (map condition_shape) (each_found (test_in columns) conds)
unfolding each_found test_in
conds_shaped columns [] = refl
conds_shaped columns (c ∷ conds) =
    ap (λ (o : Option (ColNo × Test)). both o (each_found (test_in columns) (map cond_shape conds))) (test_shaped (column_of columns c.column) c.test)
    ∙ ap (λ (rest : Option (List (ColNo × Test))). both (option_map condition_shape (test_in columns c)) rest) (conds_shaped columns conds)
    ∙ both_shaped (test_in columns c) (each_found (test_in columns) conds)

tests_shaped : (columns : List Name) (conds : List Cond) → tests_in columns (map cond_shape conds) ≡ option_map (map condition_shape) (tests_in columns conds)
unfolding tests_in
tests_shaped columns conds = conds_shaped columns conds

-- statements that ask
bound_shaped : (t : TableNo) (v : Option Verb) (tests : Option (List (ColNo × Test))) → bound t v (option_map (map condition_shape) tests) ≡ shaped act_shape (bound t v tests)
unfolding bound shaped act_shape
bound_shaped t None tests = refl
bound_shaped t (Some v) None = refl
bound_shaped t (Some v) (Some tests) = refl

asked_shaped : (t : TableNo) (v : Option Verb) (columns : List Name) (conds : List Cond) → bound t v (tests_in columns (map cond_shape conds)) ≡ shaped act_shape (bound t v (tests_in columns conds))
asked_shaped t v columns conds = ap (λ (tests : Option (List (ColNo × Test))). bound t v tests) (tests_shaped columns conds) ∙ bound_shaped t v (tests_in columns conds)

deleted_in_shaped : (tables : List Decl) (o : Option TableNo) (conds : List Cond) → deleted_in tables o (map cond_shape conds) ≡ shaped act_shape (deleted_in tables o conds)
unfolding deleted_in shaped
deleted_in_shaped tables None conds = refl
deleted_in_shaped tables (Some t) conds = asked_shaped t (Some verb.Delete) (columns_of tables t) conds

deleted_shaped : (tables : List Decl) (name : Name) (conds : List Cond) → deleted tables name (map cond_shape conds) ≡ shaped act_shape (deleted tables name conds)
unfolding deleted
deleted_shaped tables name conds = deleted_in_shaped tables (table_of tables name) conds

selected_in_shaped : (tables : List Decl) (o : Option TableNo) (what : What) (conds : List Cond) (order : Option Order) (limit : Option ℕ)
    → selected_in tables o what (map cond_shape conds) order limit ≡ shaped act_shape (selected_in tables o what conds order limit)
unfolding selected_in shaped
selected_in_shaped tables None what conds order limit = refl
selected_in_shaped tables (Some t) what conds order limit = asked_shaped t (verb_in (columns_of tables t) what order limit) (columns_of tables t) conds

selected_shaped : (tables : List Decl) (name : Name) (what : What) (conds : List Cond) (order : Option Order) (limit : Option ℕ)
    → selected tables name what (map cond_shape conds) order limit ≡ shaped act_shape (selected tables name what conds order limit)
unfolding selected
selected_shaped tables name what conds order limit = selected_in_shaped tables (table_of tables name) what conds order limit

-- REBUILD has no constant
rebuild_of_shaped : (t : TableNo) (o : Option ColNo) → rebuild_of t o ≡ shaped piece_shape (rebuild_of t o)
unfolding rebuild_of shaped piece_shape
rebuild_of_shaped t None = refl
rebuild_of_shaped t (Some c) = refl

rebuilt_in_shaped : (tables : List Decl) (o : Option TableNo) (column : Name) → rebuilt_in tables o column ≡ shaped piece_shape (rebuilt_in tables o column)
unfolding rebuilt_in shaped
rebuilt_in_shaped tables None column = refl
rebuilt_in_shaped tables (Some t) column = rebuild_of_shaped t (column_of (columns_of tables t) column)

rebuilt_shaped : (tables : List Decl) (name column : Name) → rebuilt tables name column ≡ shaped piece_shape (rebuilt tables name column)
unfolding rebuilt
rebuilt_shaped tables name column = rebuilt_in_shaped tables (table_of tables name) column

-- what a statement makes of a session
with_piece_shaped : (pieces : List Piece) (p : Piece) → ◌≡◌ {A = Result Stage FileReason} (Ok (Session (pieces_shape pieces ++ piece_shape p ∷ []) None)) (Ok (Session (pieces_shape (pieces ++ p ∷ [])) None))
with_piece_shaped pieces p = ap (λ (ps : List Piece). let stage : Result Stage FileReason = Ok (Session ps None) in stage) (sym (map-append piece_shape pieces (p ∷ [])))

begun_shaped : (pieces : List Piece) (unfinished : Option (List Act)) → begun (pieces_shape pieces) (open_shape unfinished) ≡ shaped stage_shape (begun pieces unfinished)
unfolding begun shaped stage_shape open_shape
begun_shaped pieces None = refl
begun_shaped pieces (Some acts) = refl

closed_shaped : (rollback : Bool) (pieces : List Piece) (unfinished : Option (List Act)) → closed rollback (pieces_shape pieces) (open_shape unfinished) ≡ shaped stage_shape (closed rollback pieces unfinished)
unfolding closed shaped stage_shape open_shape piece_shape
closed_shaped rollback pieces None = refl
closed_shaped rollback pieces (Some acts) = with_piece_shaped pieces (piece.Txn acts rollback)

with_rebuild_shaped : (pieces : List Piece) (unfinished : Option (List Act)) (r : Result Piece FileReason)
    → with_rebuild (pieces_shape pieces) (open_shape unfinished) (shaped piece_shape r) ≡ shaped stage_shape (with_rebuild pieces unfinished r)
unfolding with_rebuild shaped stage_shape open_shape
with_rebuild_shaped pieces unfinished (Err why) = refl
with_rebuild_shaped pieces None (Ok p) = with_piece_shaped pieces p
with_rebuild_shaped pieces (Some acts) (Ok p) = refl

with_act_shaped : (pieces : List Piece) (unfinished : Option (List Act)) (r : Result Act FileReason)
    → with_act (pieces_shape pieces) (open_shape unfinished) (shaped act_shape r) ≡ shaped stage_shape (with_act pieces unfinished r)
unfolding with_act shaped stage_shape open_shape piece_shape
with_act_shaped pieces unfinished (Err why) = refl
with_act_shaped pieces None (Ok a) = with_piece_shaped pieces (piece.Txn (a ∷ []) false)
with_act_shaped pieces (Some acts) (Ok a) =
    ap (λ (all : List Act). let stage : Result Stage FileReason = Ok (Session (pieces_shape pieces) (Some all)) in stage) (sym (map-append act_shape acts (a ∷ [])))

pub stated_shaped : (tables : List Decl) (pieces : List Piece) (unfinished : Option (List Act)) (s : Stmt)
    → stated tables (pieces_shape pieces) (open_shape unfinished) (statement_shape s) ≡ shaped stage_shape (stated tables pieces unfinished s)
unfolding stated statement_shape
stated_shaped tables pieces unfinished stmt.Begin = begun_shaped pieces unfinished
stated_shaped tables pieces unfinished stmt.Commit = closed_shaped false pieces unfinished
stated_shaped tables pieces unfinished stmt.Rollback = closed_shaped true pieces unfinished
stated_shaped tables pieces unfinished (stmt.Rebuild name column) =
    ap (λ (r : Result Piece FileReason). with_rebuild (pieces_shape pieces) (open_shape unfinished) r) (rebuilt_shaped tables name column)
    ∙ with_rebuild_shaped pieces unfinished (rebuilt tables name column)
stated_shaped tables pieces unfinished (stmt.Insert name values) =
    ap (λ (r : Result Act FileReason). with_act (pieces_shape pieces) (open_shape unfinished) r) (inserted_shaped tables name values)
    ∙ with_act_shaped pieces unfinished (inserted tables name values)
stated_shaped tables pieces unfinished (stmt.Delete name conds) =
    ap (λ (r : Result Act FileReason). with_act (pieces_shape pieces) (open_shape unfinished) r) (deleted_shaped tables name conds)
    ∙ with_act_shaped pieces unfinished (deleted tables name conds)
stated_shaped tables pieces unfinished (stmt.Select what name conds order limit) =
    ap (λ (r : Result Act FileReason). with_act (pieces_shape pieces) (open_shape unfinished) r) (selected_shaped tables name what conds order limit)
    ∙ with_act_shaped pieces unfinished (selected tables name what conds order limit)
