-- The messages of a transaction keep the rules of their fields.
use Rattle.std.proofs.Common.{◌≡◌, ℕ, zero, suc, ◌<◌, ◌≤◌, Bool, true, false, not, ◌&&◌, ◌==◌, eqb, ltb, nat_lt, List, [], ◌∷◌, ◌++◌, map, length, get_or, is_some, Option, Some, None, refl, ap, ap₂, ◌∙◌, arith}
use Rattle.std.proofs.lemmas.Bool.{and_parts, le-ltb, ne_eqb, or_from}
use Rattle.std.proofs.lemmas.List.{length-map}
use Rattle.mope_base.specs.Lists.{Each}
use Rattle.mope_base.specs.declared.numbers.TableNo.{TableNo}
use Rattle.mope_base.specs.declared.numbers.ColNo.{ColNo}
use Rattle.sql_text.specs.declared.Test.{Test}
use Rattle.sql_text.specs.declared.Test.TheVariants as test
use Rattle.tree_model.specs.Trees.{Tree, leaf, node}
use Rattle.tree_model.specs.Items.{Item}
use Rattle.tree_model.specs.declared.Side.TheVariants.{Left, Right}
use Rattle.table_model.specs.Stores.{Store}
use Rattle.table_model.specs.Soundness.{column_at}
use Rattle.value_cipher.specs.Cipher.{Cell, sealed}
use Rattle.walk_proto.specs.Rules.{IsRequest, IsReply, is_asked, are_ops, is_wrong_op, is_wrong_target, is_wrong_order, is_wrong_order_column, is_wrong_limited, is_wrong_query_width, is_wrong_width}
use Rattle.walk_proto.specs.Spelling.{flag}
use Rattle.walk_proto.specs.declared.messages.Exchange.{Exchange}
use Rattle.walk_proto.specs.declared.messages.Reply.{Reply}
use Rattle.walk_proto.specs.declared.messages.Reply.TheVariants as reply
use Rattle.walk_proto.specs.declared.messages.Request.{Request}
use Rattle.walk_proto.specs.declared.messages.Request.TheVariants as request
use Rattle.workload.specs.declared.script.Act.{Act}
use Rattle.workload.specs.declared.script.Act.TheVariants as act
use Rattle.workload.specs.declared.script.Ask.{Ask}
use Rattle.workload.specs.declared.script.Decl.{Decl}
use Rattle.workload.specs.declared.script.Verb.{Verb}
use Rattle.workload.specs.declared.script.Verb.TheVariants as verb
use Rattle.workload.specs.Transaction.{Trial, going, stopped, table_named, after_act}
use Rattle.workload.specs.Validity.{IsValidDecl, IsValidAct, IsValidVerb, column_count}
use Rattle.proxy.specs.Allowed.{allowed, is_spelled, fits_first}
use Rattle.proxy.specs.Client.{Setting, Client, hears, cells_from}
use Rattle.proxy.specs.Talk.{AllAllowed}
use Rattle.proxy.specs.Tasks.{constants_of, closes, acts_then, verb_byte, target_byte, order_in, direction_byte, order_byte, order_column_byte, limit_in, column_bytes, test_byte, cond_bytes, asked_of}
use Rattle.transaction_laws.specs.Meetings.{doing}
use Rattle.transaction_laws.specs.Ends.{begun_on}
use Rattle.transaction_laws.specs.Walks.{exchanged, value_in, onward_by, walk_log}
use Rattle.transaction_laws.specs.Constants.{store_at, walks_log}
use Rattle.transaction_laws.specs.Queries.{query_request}
use Rattle.transaction_laws.specs.Transactions.{Tried, tried_on, act_tried, unless_stopped, request_of, reply_of, act_log, acts_log}
use Rattle.transaction_laws.specs.Readable.{IsReadable, AllowedIsReadable, MessagesAreReadable}
use Rattle.transaction_laws.proofs.Statements.{few-columns, each-append}
use Rattle.transaction_laws.proofs.Transacting.{transaction_meets}

-- ---- replies

spelled-readable : (r : Reply) → is_spelled r ≡ true → IsReply r
unfolding is_spelled
spelled-readable (reply.Node body) is = tt
spelled-readable reply.Placed is = tt
spelled-readable (reply.Rows width bodies) is = is
spelled-readable (reply.Count number) is = tt
spelled-readable (reply.Ended how table number) is = is
spelled-readable (reply.No code value) is = is

pub allowed_is_readable : AllowedIsReadable
unfolding allowed
allowed_is_readable c r is = spelled-readable r (and_parts (fits_first c.looking c.tasks r) (is_spelled r) is).1

replies-readable : (s : Setting) (c : Client) (log : List Exchange) → AllAllowed s c log → Each (λ (e : Exchange). IsReply e.reply) log
unfolding AllAllowed Each
replies-readable s c [] all = tt
replies-readable s c (e ∷ log) all = (allowed_is_readable c e.reply all.0, replies-readable s (hears s c e.reply) log all.1)

-- ---- requests of walks

abbrev Asks : Exchange → Type 0
Asks e = IsRequest e.request

abbrev Steps : Request → Type 0
Steps r = IsRequest r

onward-asks : (same below : Bool) (left right : List Exchange) → Each Asks left → Each Asks right → Each Asks (onward_by same below left right)
unfolding onward_by exchanged Each
onward-asks true below left right lefts rights = (tt, tt)
onward-asks false true left right lefts rights = lefts
onward-asks false false left right lefts rights = rights

walk-asks : (key : List ℕ) (x : ℕ) (r : Request) (tree : Tree (Item Cell)) → Steps r → Each Asks (walk_log key x r tree)
unfolding walk_log exchanged Each
walk-asks key x r leaf is = (is, tt)
walk-asks key x r (node left item right) is =
    (is, onward-asks (eqb x (value_in item)) (ltb x (value_in item)) (walk_log key x (request.Go Left) left) (walk_log key x (request.Go Right) right) (walk-asks key x (request.Go Left) left tt) (walk-asks key x (request.Go Right) right tt))

walks-ask : (key : List ℕ) (t : TableNo) (constants : List (ColNo × ℕ)) (store : Store Cell) → Each Asks (walks_log key t constants store)
unfolding walks_log Each
walks-ask key t [] store = tt
walks-ask key t (constant ∷ constants) store =
    let tree = (column_at store.columns constant.0.0).tree in
    each-append Asks (walk_log key constant.1 (request.WalkStart t constant.0) tree) (walks_log key t constants store) (walk-asks key constant.1 (request.WalkStart t constant.0) tree tt) (walks-ask key t constants store)

-- ---- the request of a statement

right-width : (n : ℕ) → 0 < n → n ≤ 8 → is_wrong_width n ≡ false
right-width n some few = or_from (n == 0) (nat_lt 8 n) (ne_eqb n 0 (λ e. omega (arith, some, e))) (le-ltb 8 n few)

some-at : (tables : List Decl) (i : ℕ) → Each IsValidDecl tables → i < length tables → 0 < get_or (map (λ (d : Decl). length d.columns) tables) i 0
unfolding Each
some-at [] i valid lt = absurd (omega (arith, lt))
some-at (d ∷ tables) zero valid lt = valid.0.some_column
some-at (d ∷ tables) (suc i) valid lt = some-at tables i valid.1 (omega (arith, lt))

some-columns : (tables : List Decl) (t : TableNo) → Each IsValidDecl tables → t.0 < length tables → 0 < column_count tables t
unfolding column_count
some-columns tables t valid lt = some-at tables t.0 valid lt

cells-many : (s : Setting) (count : ℕ) (xs : List ℕ) → length (map (sealed s.key) (cells_from s count xs)) ≡ length xs
unfolding cells_from
cells-many s count [] = refl
cells-many s count (x ∷ xs) = ap suc (cells-many s (suc count) xs)

insert-asks : (s : Setting) (tables : List Decl) (t : TableNo) (xs : List ℕ) (count : ℕ) → Each IsValidDecl tables → IsValidAct tables (act.Insert t xs) → not (is_wrong_width (length (map (sealed s.key) (cells_from s count xs)))) ≡ true
insert-asks s tables t xs count decls valid =
    let many = cells-many s count xs in
    let some = some-columns tables t decls valid.0 in
    let few = few-columns tables t decls in
    ap not (right-width (length (map (sealed s.key) (cells_from s count xs))) (omega (arith, many, valid.1, some)) (omega (arith, many, valid.1, few)))

test-op : (x : Test) → is_wrong_op (test_byte x) ≡ false
unfolding test_byte
test-op (test.Eq c) = refl
test-op (test.Lt c) = refl
test-op (test.Le c) = refl
test-op (test.Gt c) = refl
test-op (test.Ge c) = refl
test-op (test.Between low high) = refl

tests-ops : (tests : List (ColNo × Test)) → are_ops (map cond_bytes tests) ≡ true
unfolding are_ops cond_bytes
tests-ops [] = refl
tests-ops (condition ∷ tests) = ap₂ (λ (a b : Bool). not a && b) (test-op condition.1) (tests-ops tests)

all-right : {a b c d e f g h : Bool} → a ≡ true → b ≡ true → c ≡ true → d ≡ true → e ≡ true → f ≡ true → g ≡ true → h ≡ true → a && b && c && d && e && f && g && h ≡ true
all-right {a} {b} {c} {d} {e} {f} {g} {h} pa pb pc pd pe pf pg ph =
    ap₂ (λ (x y : Bool). x && y && c && d && e && f && g && h) pa pb ∙ ap₂ (λ (x y : Bool). true && true && x && y && e && f && g && h) pc pd
    ∙ ap₂ (λ (x y : Bool). true && true && true && true && x && y && g && h) pe pf ∙ ap₂ (λ (x y : Bool). true && true && true && true && true && true && x && y) pg ph

and-no : (a : Bool) → a && false ≡ false
and-no true = refl
and-no false = refl

direction-fine : (down : Bool) → is_wrong_order 0 (direction_byte down) ≡ false
unfolding direction_byte
direction-fine true = refl
direction-fine false = refl

order-fine : (order : Option (ColNo × Bool)) → is_wrong_order 0 (order_byte order) ≡ false
unfolding order_byte
order-fine None = refl
order-fine (Some order) = direction-fine order.1

direction-column : (down : Bool) (column : ℕ) → is_wrong_order_column (direction_byte down) column ≡ false
unfolding direction_byte
direction-column true column = and-no (not (column == 0))
direction-column false column = and-no (not (column == 0))

order-column : (order : Option (ColNo × Bool)) → is_wrong_order_column (order_byte order) (order_column_byte order) ≡ false
unfolding order_byte order_column_byte
order-column None = refl
order-column (Some order) = direction-column order.1 order.0.0

limit-fine : (limit : Option ℕ) → is_wrong_limited 0 (flag (is_some limit)) ≡ false
limit-fine None = refl
limit-fine (Some n) = refl

rows-width : (columns : List ColNo) → 0 < length columns → length columns ≤ 8 → is_wrong_query_width 0 (length (map (λ (column : ColNo). column.0) columns)) ≡ false
rows-width columns some few =
    let many : length (map (λ (column : ColNo). column.0) columns) ≡ length columns = length-map columns (λ (column : ColNo). column.0) in
    right-width (length (map (λ (column : ColNo). column.0) columns)) (omega (arith, many, some)) (omega (arith, many, few))

-- each field of a verb is right
record VerbRight (v : Verb) : Type 0 where
  number : nat_lt 4 (verb_byte v) ≡ false
  target : is_wrong_target (verb_byte v) (target_byte v) ≡ false
  order : is_wrong_order (verb_byte v) (order_byte (order_in v)) ≡ false
  column : is_wrong_order_column (order_byte (order_in v)) (order_column_byte (order_in v)) ≡ false
  limit : is_wrong_limited (verb_byte v) (flag (is_some (limit_in v))) ≡ false
  width : is_wrong_query_width (verb_byte v) (length (column_bytes v)) ≡ false

target-any : (target : ℕ) (b : Bool) → b ≡ true → not (target == 0) && not b ≡ false
target-any target b is = ap (λ (x : Bool). not (target == 0) && not x) is ∙ and-no (not (target == 0))

verb-right : (tables : List Decl) (t : TableNo) (v : Verb) → IsValidVerb tables t v → VerbRight v
unfolding verb_byte target_byte order_in order_byte order_column_byte limit_in column_bytes
verb-right tables t (verb.Rows columns order limit) valid = record {
  number = refl;
  target = refl;
  order = order-fine order;
  column = order-column order;
  limit = limit-fine limit;
  width = rows-width columns valid.0 valid.1;
}
verb-right tables t verb.Count valid = record { number = refl; target = refl; order = refl; column = refl; limit = refl; width = refl }
verb-right tables t (verb.Min column) valid = record { number = refl; target = target-any column.0 true refl; order = refl; column = refl; limit = refl; width = refl }
verb-right tables t (verb.Max column) valid = record { number = refl; target = target-any column.0 true refl; order = refl; column = refl; limit = refl; width = refl }
verb-right tables t verb.Delete valid = record { number = refl; target = refl; order = refl; column = refl; limit = refl; width = refl }

query-asks : (tables : List Decl) (ask : Ask) → IsValidAct tables (act.Ask ask) → is_asked (asked_of ask) ≡ true
unfolding is_asked asked_of
query-asks tables ask valid =
    let right = verb-right tables ask.table ask.verb valid.3 in
    let conds : length (map cond_bytes ask.tests) ≡ length ask.tests = length-map ask.tests cond_bytes in
    all-right (ap not right.number) (ap not right.target) (ap not right.order) (ap not right.column) (ap not right.limit) (ap not right.width)
    (ap not (le-ltb 8 (length (map cond_bytes ask.tests)) (omega (arith, conds, valid.1)))) (tests-ops ask.tests)

statement-asks : (s : Setting) (tables : List Decl) (a : Act) (w : Tried) → Each IsValidDecl tables → IsValidAct tables a → IsRequest (request_of s a w)
unfolding request_of query_request
statement-asks s tables (act.Insert t xs) w decls valid = insert-asks s tables t xs w.seals decls valid
statement-asks s tables (act.Ask ask) w decls valid = query-asks tables ask valid

-- ---- all of them

rest-asks : (trial : Trial) (log : List Exchange) → Each Asks log → Each Asks (unless_stopped trial [] log)
unfolding unless_stopped Each
rest-asks (stopped t work) log all = tt
rest-asks (going work) log all = all

requests-readable : (s : Setting) (same_time : Bool) (tables : List Decl) (acts : List Act) (w : Tried) → Each IsValidDecl tables → Each (IsValidAct tables) acts → Each Asks (acts_log s same_time acts w)
unfolding acts_log act_log exchanged Each
requests-readable s same_time tables [] w decls valid = tt
requests-readable s same_time tables (a ∷ acts) w decls valid =
    let trial = after_act w.plain a in
    let walks = walks_log s.key (table_named a) (constants_of a) (store_at w.stores (table_named a)) in
    let last = exchanged (request_of s a w) (reply_of s a trial w) in
    let rest = acts_log s same_time acts (act_tried s same_time a w) in
    each-append Asks (walks ++ last ∷ []) (unless_stopped trial [] rest)
    (each-append Asks walks (last ∷ []) (walks-ask s.key (table_named a) (constants_of a) (store_at w.stores (table_named a))) (statement-asks s tables a w decls valid.0, tt))
    (rest-asks trial rest (requests-readable s same_time tables acts (act_tried s same_time a w) decls valid.1))

both-readable : (log : List Exchange) → Each Asks log → Each (λ (e : Exchange). IsReply e.reply) log → Each IsReadable log
unfolding Each
both-readable [] requests replies = tt
both-readable (e ∷ log) requests replies = (record { request = requests.0; reply = replies.0 }, both-readable log requests.1 replies.1)

pub messages_are_readable : MessagesAreReadable
messages_are_readable s tables acts c d stores may valid none =
    let log = acts_log s d.same_time acts (tried_on stores c.seals) in
    let goes = (transaction_meets s tables acts true c d stores may valid none).goes in
    both-readable log (requests-readable s d.same_time tables acts (tried_on stores c.seals) may.valid valid) (replies-readable s (doing (acts_then acts (closes true acts ∷ [])) (begun_on d.number c)) log goes.allows)
