-- What a connection does with each request. The definition is our own.
use Rattle.std.specs.Prelude.{ℕ, zero, suc, ◌+◌, Bool, true, false, ◌==◌, List, [], ◌∷◌, ◌++◌, map, flat_map, length, get_or, Option, Some, None}
use Rattle.mope_base.specs.declared.body.Body.{Body}
use Rattle.mope_base.specs.declared.numbers.TableNo.{TableNo}
use Rattle.mope_base.specs.declared.numbers.ColNo.{ColNo}
use Rattle.sql_text.specs.declared.Test.{Test}
use Rattle.tree_model.specs.declared.Place.{Place}
use Rattle.tree_model.specs.declared.Place.TheVariants.{Found, Gap}
use Rattle.tree_model.specs.declared.Side.{Side}
use Rattle.tree_model.specs.declared.Side.TheVariants.{Left, Right}
use Rattle.tree_model.specs.Trees.{Tree, leaf, node, size}
use Rattle.tree_model.specs.Items.{Item, change_at}
use Rattle.path_code.specs.Laws.{code_in}
use Rattle.table_model.specs.Stores.{Kept, Shelf}
use Rattle.table_model.specs.Changes.{insert_row, delete_rows}
use Rattle.table_model.specs.Soundness.{column_at, kept_numbers}
use Rattle.enc_table.specs.Rows.{no_body}
use Rattle.versions.specs.declared.op.Op.{Op}
use Rattle.versions.specs.declared.op.Op.TheVariants as op
use Rattle.versions.specs.Databases.{Database}
use Rattle.sql_plan.specs.Bounds.{test_by}
use Rattle.sql_plan.specs.Plans.{by_code}
use Rattle.walk_proto.specs.declared.messages.Asked.{Asked}
use Rattle.walk_proto.specs.declared.messages.How.{How}
use Rattle.walk_proto.specs.declared.messages.How.TheVariants as how
use Rattle.walk_proto.specs.declared.messages.Reply.{Reply}
use Rattle.walk_proto.specs.declared.messages.Reply.TheVariants as reply
use Rattle.walk_proto.specs.declared.messages.Request.{Request}
use Rattle.walk_proto.specs.declared.messages.Request.TheVariants as request
use Rattle.workload.specs.declared.script.Ask.{Ask}
use Rattle.workload.specs.declared.script.Verb.{Verb}
use Rattle.workload.specs.declared.script.Verb.TheVariants as verb
use Rattle.workload.specs.Selection.{selected}
use Rattle.server_conn.specs.Connections.{Mark, Walk, Held, held_on, commit, install, Conn, idle, begins, holds, awaits, replies, wants_begin, wants_commit, wants_install, Step}
use Rattle.server_conn.specs.Checks.{own, full, no_transaction, in_transaction, no_walk, refusal}

unfoldable pub step_to : Reply → Conn → Step
step_to r k = record { served = replies r; conn = k }

-- ---- walks

-- the walk has ended, and its place is kept
unfoldable pub placed_at : ℕ → ℕ → Place → Held → Step
placed_at table column place h = step_to reply.Placed (holds (record h { marks = h.marks ++ record { table = table; column = column; place = place } ∷ []; walk = None }))

-- a walk comes to a part of a tree: to its topmost item, or to a gap
unfoldable pub come_to : ℕ → ℕ → ℕ → Tree (Item Body) → Held → Step
come_to table column before leaf h = placed_at table column (Gap before) h
come_to table column before (node l x r) h = step_to (reply.Node x.body) (holds (record h { walk = Some (record { table = table; column = column; before = before; part = node l x r }) }))

unfoldable pub walk_started : TableNo → ColNo → Held → Step
walk_started t column h = come_to t.0 column.0 0 (column_at (own h t).columns column.0).tree h

-- one step down from the topmost item of a part
unfoldable pub stepped_from : Side → ℕ → ℕ → ℕ → Tree (Item Body) → Held → Step
stepped_from side table column before leaf h = placed_at table column (Gap before) h
stepped_from Left table column before (node l x r) h = come_to table column before l h
stepped_from Right table column before (node l x r) h = come_to table column (before + suc (size l)) r h

unfoldable pub stepped : Side → Option Walk → Held → Step
stepped side None h = step_to (reply.No no_walk 0) (holds h)
stepped side (Some w) h = stepped_from side w.table w.column w.before w.part h

-- how many items of a part stand before its topmost one
unfoldable pub in_front_of_top : {A : Type 0} → Tree A → ℕ
in_front_of_top leaf = 0
in_front_of_top (node l x r) = size l

unfoldable pub found : Option Walk → Held → Step
found None h = step_to (reply.No no_walk 0) (holds h)
found (Some w) h = placed_at w.table w.column (Found (w.before + in_front_of_top w.part)) h

-- ---- statements

-- the transaction after a statement about a table: the table is touched, and the places are used up
unfoldable pub after_statement : TableNo → Held → Held
after_statement t h = record h { touched = h.touched ++ t ∷ []; marks = [] }

-- with an operation more, which made of the table this one
unfoldable pub with_op : Op → TableNo → (Shelf Body → Shelf Body) → Held → Held
with_op o t change h = record h { shelves = change_at change h.shelves t.0; ops = h.ops ++ o ∷ [] }

abbrev pub places_of : List Mark → List Place
places_of marks = map (λ (mark : Mark). mark.place) marks

unfoldable pub inserted : TableNo → List Body → Held → Step
inserted t bodies h = step_to (reply.Count 1) (holds (after_statement t (with_op (op.Insert t (places_of h.marks) bodies) t (insert_row h.base.same_time (places_of h.marks) bodies) h)))

-- the code of a place in the table's column
unfoldable pub code_at_mark : Shelf Body → Mark → ℕ
code_at_mark s mark = code_in (column_at s.columns mark.column).tree mark.place

-- a further code, where one is taken and there is one
unfoldable pub second_of : Bool → ℕ → List ℕ → ℕ
second_of true code [] = code
second_of true code (next ∷ codes) = next
second_of false code codes = code

unfoldable pub without_second : Bool → List ℕ → List ℕ
without_second true [] = []
without_second true (next ∷ codes) = codes
without_second false codes = codes

-- conditions by codes: each takes the code of its constant's place, and BETWEEN, the number 5, takes two
unfoldable pub tests_of : List (ℕ × ℕ) → List ℕ → List (ColNo × Test)
tests_of [] codes = []
tests_of (cond ∷ conds) [] = []
tests_of (cond ∷ conds) (code ∷ codes) = (record { 0 = cond.0 }, test_by cond.1 code (second_of (cond.1 == 5) code codes)) ∷ tests_of conds (without_second (cond.1 == 5) codes)

unfoldable pub order_by : ℕ → ℕ → Option (ColNo × Bool)
order_by zero column = None
order_by (suc zero) column = Some (record { 0 = column }, false)
order_by (suc (suc order)) column = Some (record { 0 = column }, true)

-- what a selection does with its rows
unfoldable pub verb_by : ℕ → Asked → Verb
verb_by zero a = verb.Rows (map (λ (column : ℕ). record { 0 = column }) a.columns) (order_by a.order a.order_column) a.limit
verb_by (suc zero) a = verb.Count
verb_by (suc (suc zero)) a = verb.Min (record { 0 = a.target })
verb_by (suc (suc (suc zero))) a = verb.Max (record { 0 = a.target })
verb_by (suc (suc (suc (suc number)))) a = verb.Delete

-- a selection as a statement about codes
unfoldable pub ask_by : Asked → Held → Ask
ask_by a h = record { table = a.table; verb = verb_by a.verb a; tests = tests_of a.conds (map (code_at_mark (own h a.table)) h.marks) }

unfoldable pub rows_asked : Asked → Held → List (Kept Body)
rows_asked a h = selected (by_code (own h a.table)) (ask_by a h) (own h a.table).kept

-- a row's bodies in these columns
unfoldable pub bodies_in : List ColNo → Kept Body → List Body
bodies_in columns row = map (λ (column : ColNo). get_or row.bodies column.0 no_body) columns

unfoldable pub reply_about : Verb → List (Kept Body) → Reply
reply_about (verb.Rows columns order limit) rows = reply.Rows (length columns) (flat_map (bodies_in columns) rows)
reply_about verb.Count rows = reply.Count (length rows)
reply_about (verb.Min column) rows = reply.Rows 1 (flat_map (bodies_in (column ∷ [])) rows)
reply_about (verb.Max column) rows = reply.Rows 1 (flat_map (bodies_in (column ∷ [])) rows)
reply_about verb.Delete rows = reply.Count (length rows)

-- the rows of these numbers go; where there are none nothing is done
unfoldable pub without_numbers : TableNo → List ℕ → Held → Held
without_numbers t [] h = h
without_numbers t (number ∷ numbers) h = with_op (op.Delete t (number ∷ numbers)) t (delete_rows h.base.same_time (number ∷ numbers)) h

-- what a selection changes: rows are taken out, or nothing
unfoldable pub changed_by : Verb → TableNo → List (Kept Body) → Held → Held
changed_by (verb.Rows columns order limit) t rows h = h
changed_by verb.Count t rows h = h
changed_by (verb.Min column) t rows h = h
changed_by (verb.Max column) t rows h = h
changed_by verb.Delete t rows h = without_numbers t (kept_numbers rows) h

unfoldable pub queried : Asked → Held → Step
queried a h = step_to (reply_about (verb_by a.verb a) (rows_asked a h)) (holds (after_statement a.table (changed_by (verb_by a.verb a) a.table (rows_asked a h) h)))

-- ---- ends

unfoldable pub closed : Held → Step
closed h = step_to (reply.Ended how.Closed 0 h.base.number) idle

-- a COMMIT: without an operation there is nothing to do
unfoldable pub committed : List Op → Held → Step
committed [] h = closed h
committed (o ∷ ops) h = record { served = wants_commit; conn = awaits h commit }

unfoldable pub ended_by : Bool → Held → Step
ended_by true h = committed h.ops h
ended_by false h = closed h

-- ---- requests

-- what a request does that no check refuses
unfoldable pub effect : Request → Held → Step
effect request.Begin h = step_to (reply.No in_transaction 0) (holds h)
effect (request.WalkStart t column) h = walk_started t column h
effect (request.Go side) h = stepped side h.walk h
effect request.Found h = found h.walk h
effect (request.Insert t bodies) h = inserted t bodies h
effect (request.Query a) h = queried a h
effect (request.End keeps) h = ended_by keeps h
effect (request.Rebuild t column) h = record { served = wants_install t column; conn = awaits h (install t column) }

-- the table of an INSERT, whose refusal names it
unfoldable pub table_in : Request → ℕ
table_in request.Begin = 0
table_in (request.WalkStart t column) = 0
table_in (request.Go side) = 0
table_in request.Found = 0
table_in (request.Insert t bodies) = t.0
table_in (request.Query a) = 0
table_in (request.End keeps) = 0
table_in (request.Rebuild t column) = 0

-- a full table ends the transaction; every other refusal changes nothing
unfoldable pub refused : ℕ → Request → Held → Step
refused zero r h = step_to (reply.No full (table_in r)) idle
refused (suc reason) r h = step_to (reply.No (suc reason) 0) (holds h)

unfoldable pub served_unless : Option ℕ → Request → Held → Step
served_unless None r h = effect r h
served_unless (Some reason) r h = refused reason r h

-- without a transaction only BEGIN is served
unfoldable pub served_idle : Request → Step
served_idle request.Begin = record { served = wants_begin; conn = begins }
served_idle (request.WalkStart t column) = step_to (reply.No no_transaction 0) idle
served_idle (request.Go side) = step_to (reply.No no_transaction 0) idle
served_idle request.Found = step_to (reply.No no_transaction 0) idle
served_idle (request.Insert t bodies) = step_to (reply.No no_transaction 0) idle
served_idle (request.Query a) = step_to (reply.No no_transaction 0) idle
served_idle (request.End keeps) = step_to (reply.No no_transaction 0) idle
served_idle (request.Rebuild t column) = step_to (reply.No no_transaction 0) idle

-- while a turn is awaited every request is refused
unfoldable pub serve : Request → Conn → Step
serve r idle = served_idle r
serve r begins = step_to (reply.No in_transaction 0) begins
serve r (holds h) = served_unless (refusal r h) r h
serve r (awaits h due) = step_to (reply.No in_transaction 0) (awaits h due)

-- ---- turns

-- the begin turn was taken on this version
unfoldable pub began : Database → Step
began d = step_to (reply.Ended how.Began 0 d.number) (holds (held_on d))

-- the commit or install turn was taken
unfoldable pub ended : How → ℕ → ℕ → Step
ended h table number = step_to (reply.Ended h table number) idle
