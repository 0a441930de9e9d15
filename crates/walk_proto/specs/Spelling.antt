-- The spelling of messages: the byte of the kind, then the fields. Numbers are big-endian.
use Rattle.std.specs.Prelude.{ℕ, ◌-◌, Bool, true, false, is_some, unwrap_or, Option, List, [], ◌∷◌, ◌++◌, length, replicate}
use Rattle.std.specs.List.{flat_map}
use Rattle.byteorder.specs.Endian.{big_bytes}
use Rattle.tree_model.specs.declared.Side.{Side}
use Rattle.tree_model.specs.declared.Side.TheVariants.{Left, Right}
use Rattle.mope_base.specs.declared.body.Body.{Body}
use Rattle.walk_proto.specs.declared.messages.Asked.{Asked}
use Rattle.walk_proto.specs.declared.messages.How.{How}
use Rattle.walk_proto.specs.declared.messages.How.TheVariants.{Began, Closed, Committed, Conflict, Installed, Stale}
use Rattle.walk_proto.specs.declared.messages.Reply.{Reply}
use Rattle.walk_proto.specs.declared.messages.Reply.TheVariants.{Node, Placed, Rows, Count, Ended, No}
use Rattle.walk_proto.specs.declared.messages.Request.{Request}
use Rattle.walk_proto.specs.declared.messages.Request.TheVariants.{Begin, WalkStart, Go, Found, Insert, Query, End, Rebuild}

-- 1 for yes
abbrev pub flag : Bool → ℕ
flag false = 0
flag true = 1

abbrev pub side_byte : Side → ℕ
side_byte Left = 0
side_byte Right = 1

abbrev pub how_byte : How → ℕ
how_byte Began = 0
how_byte Closed = 1
how_byte Committed = 2
how_byte Conflict = 3
how_byte Installed = 4
how_byte Stale = 5

-- a nonce, then the masked value
unfoldable pub body_bytes : Body → List ℕ
body_bytes body = big_bytes 8 body.nonce ++ big_bytes 8 body.masked

-- a column, then an operator
abbrev pub cond_bytes : ℕ × ℕ → List ℕ
cond_bytes cond = cond.0 ∷ cond.1 ∷ []

-- the columns, and zeros up to eight bytes
unfoldable pub column_bytes : List ℕ → List ℕ
column_bytes columns = columns ++ replicate (8 - length columns) 0

-- a limit has its number under a flag that is set, and none is the number 0 under one that is not
unfoldable pub limit_bytes : Option ℕ → List ℕ
limit_bytes limit = flag (is_some limit) ∷ big_bytes 8 (unwrap_or limit 0)

-- a list of at most eight columns under its length
unfoldable pub columns_bytes : List ℕ → List ℕ
columns_bytes columns = length columns ∷ column_bytes columns

unfoldable pub conds_bytes : List (ℕ × ℕ) → List ℕ
conds_bytes conds = length conds ∷ flat_map cond_bytes conds

unfoldable pub asked_bytes : Asked → List ℕ
asked_bytes a = (a.table.0 ∷ a.verb ∷ a.target ∷ a.order ∷ a.order_column ∷ []) ++ (limit_bytes a.limit ++ (columns_bytes a.columns ++ conds_bytes a.conds))

unfoldable pub request_bytes : Request → List ℕ
request_bytes Begin = 1 ∷ []
request_bytes (WalkStart table column) = 2 ∷ table.0 ∷ column.0 ∷ []
request_bytes (Go side) = 3 ∷ side_byte side ∷ []
request_bytes Found = 4 ∷ []
request_bytes (Insert table bodies) = 5 ∷ table.0 ∷ length bodies ∷ flat_map body_bytes bodies
request_bytes (Query asked) = 6 ∷ asked_bytes asked
request_bytes (End commit) = 7 ∷ flag commit ∷ []
request_bytes (Rebuild table column) = 8 ∷ table.0 ∷ column.0 ∷ []

unfoldable pub reply_bytes : Reply → List ℕ
reply_bytes (Node body) = 9 ∷ body_bytes body
reply_bytes Placed = 10 ∷ []
reply_bytes (Rows width bodies) = 11 ∷ width ∷ (big_bytes 4 (length bodies) ++ flat_map body_bytes bodies)
reply_bytes (Count number) = 12 ∷ big_bytes 8 number
reply_bytes (Ended how table number) = 13 ∷ how_byte how ∷ table ∷ big_bytes 8 number
reply_bytes (No code value) = 14 ∷ code ∷ big_bytes 4 value
