-- The text of a view: what a server saw of each session, and the turns with what became of the codes of the columns. The format is
-- our own; every line ends with a line feed, numbers are decimal, and bytes and codes are lower-case hexadecimal digits.
use Rattle.std.specs.Prelude.{ℕ, suc, Bool, true, false, List, [], ◌∷◌, ◌++◌, get_or, flat_map, codes}
use Rattle.byteorder.specs.Endian.{big_bytes}
use Rattle.hex.specs.Hex.{encode_lower}
use Rattle.mope_base.specs.declared.numbers.ColNo.{ColNo}
use Rattle.mope_base.specs.declared.numbers.Mode.{Mode}
use Rattle.mope_base.specs.declared.numbers.Mode.TheVariants.{Ordinary, SameTime}
use Rattle.mope_base.specs.declared.numbers.TableNo.{TableNo}
use Rattle.path_code.specs.Sums.{Sum}
use Rattle.path_code.specs.declared.moves.Recode.{Recode}
use Rattle.proxy.specs.declared.outcomes.View.{View}
use Rattle.versions.specs.Changes.{leaves_codes}
use Rattle.versions.specs.declared.change.ColumnChange.{ColumnChange}
use Rattle.versions.specs.declared.turn.Turn.{Turn}
use Rattle.versions.specs.declared.turn.TurnKind.{TurnKind}
use Rattle.versions.specs.declared.turn.TurnKind.TheVariants.{Began, Committed, Conflict, Installed, Stale}
use Rattle.walk_proto.specs.Rules.{IsRequest, IsReply}
use Rattle.walk_proto.specs.Spelling.{request_bytes, reply_bytes}
use Rattle.walk_proto.specs.declared.messages.Exchange.{Exchange}
use Rattle.workload.specs.declared.script.Decl.{Decl}
use Rattle.workload.specs.declared.script.Workload.{Workload}
use Rattle.workload.specs.Report.{line, name_of, numbered}

-- some bytes give both messages of an exchange
pub record IsWritable (e : Exchange) : Type 0 where
  pub request : IsRequest e.request
  pub reply : IsReply e.reply

-- what is printed for each element, with the numbers from this one on
unfoldable pub numbered_from : {A : Type 0} → (ℕ → A → List ℕ) → ℕ → List A → List ℕ
numbered_from lines number [] = []
numbered_from lines number (x ∷ xs) = lines number x ++ numbered_from lines (suc number) xs

-- ---- what a server saw of the sessions

-- a mark, and the bytes of a message
unfoldable pub message_line : List ℕ → List ℕ → List ℕ
message_line mark bytes = line (mark ++ encode_lower bytes)

-- a request, and the reply to it
unfoldable pub exchange_lines : Exchange → List ℕ
exchange_lines e = message_line (codes "> ") (request_bytes e.request) ++ message_line (codes "< ") (reply_bytes e.reply)

unfoldable pub session_lines : ℕ → List Exchange → List ℕ
session_lines number log = line (numbered (codes "session") number) ++ flat_map exchange_lines log

-- ---- what became of the codes of a column

-- a code as sixteen digits
unfoldable pub code_text : ℕ → List ℕ
code_text code = encode_lower (big_bytes 8 code)

-- a word and a code
unfoldable pub code_line : List ℕ → ℕ → List ℕ
code_line word code = line (word ++ code_text code)

-- an old code, and the new one
unfoldable pub map_line : Recode → List ℕ
map_line r = line (codes "map " ++ code_text r.old ++ 32 ∷ code_text r.new)

unfoldable pub sum_lines : Sum → List ℕ
sum_lines s = flat_map (code_line (codes "drop ")) s.dropped ++ flat_map map_line s.moved ++ flat_map (code_line (codes "new ")) s.added

-- the name of a column, as its table declares it
unfoldable pub column_of : Decl → ColNo → List ℕ
column_of d c = (get_or d.columns c.0 (record { bytes = [] })).bytes

unfoldable pub column_name : Workload → TableNo → ColNo → List ℕ
column_name w t c = column_of (get_or w.tables t.0 (record { name = record { bytes = [] }; columns = [] })) c

unfoldable pub column_line : Workload → TableNo → ColNo → List ℕ
column_line w t c = line (codes "column " ++ name_of w t ++ 32 ∷ column_name w t c)

-- a column has its lines unless all its codes stay
unfoldable pub unless_same : Bool → List ℕ → List ℕ
unless_same true lines = []
unless_same false lines = lines

unfoldable pub change_lines : Workload → ColumnChange → List ℕ
change_lines w c = unless_same (leaves_codes c.summary) (column_line w c.table c.column ++ sum_lines c.summary)

-- ---- the turns

unfoldable pub what_text : Workload → TurnKind → List ℕ
what_text w (Began number) = numbered (codes "begin") number
what_text w (Committed number ops) = numbered (codes "commit") number
what_text w (Conflict table number) = numbered (codes "conflict " ++ name_of w table) number
what_text w (Installed number table column) = numbered (codes "install") number
what_text w (Stale table number) = numbered (codes "stale " ++ name_of w table) number

-- only a commit and an install change columns
unfoldable pub changed_by : TurnKind → List ColumnChange → List ColumnChange
changed_by (Began number) changes = []
changed_by (Committed number ops) changes = changes
changed_by (Conflict table number) changes = []
changed_by (Installed number table column) changes = changes
changed_by (Stale table number) changes = []

unfoldable pub turn_line : Workload → ℕ → Turn → List ℕ
turn_line w number turn = line (numbered (numbered (codes "turn") number ++ codes " session") turn.session.0 ++ 32 ∷ what_text w turn.what)

unfoldable pub turn_lines : Workload → ℕ → Turn → List ℕ
turn_lines w number turn = turn_line w number turn ++ flat_map (change_lines w) (changed_by turn.what turn.changes)

-- ---- the whole

unfoldable pub mode_line : Mode → List ℕ
mode_line Ordinary = line (codes "view ordinary")
mode_line SameTime = line (codes "view same-time")

-- sessions and turns are numbered from 1
unfoldable pub view_text_of : Workload → View Turn → List ℕ
view_text_of w v = mode_line v.mode ++ numbered_from session_lines 1 v.logs ++ numbered_from (turn_lines w) 1 v.turns
