-- The text of a run: its turns, its transactions with their answers in the order of the history, and the next free
-- nonce. The format is our own; every line ends with a line feed, and numbers are decimal.
use Rattle.std.specs.Prelude.{ℕ, zero, suc, ◌+◌, ◌*◌, ◌/◌, ◌^◌, List, [], ◌∷◌, ◌++◌, length, get_or, take, drop, flat_map, Option, Some, None, codes, decimal}
use Rattle.mope_base.specs.declared.numbers.TableNo.{TableNo}
use Rattle.mope_base.specs.declared.numbers.SessionNo.{SessionNo}
use Rattle.workload.specs.declared.script.Answer.{Answer}
use Rattle.workload.specs.declared.script.Answer.TheVariants as answer
use Rattle.workload.specs.declared.script.DoneTxn.{DoneTxn}
use Rattle.workload.specs.declared.script.End.{End}
use Rattle.workload.specs.declared.script.End.TheVariants as end
use Rattle.workload.specs.declared.script.Workload.{Workload}
use Rattle.workload.specs.Run.{Run, run, turns_taken}
use Rattle.workload.specs.History.{history}

-- a line of this text
unfoldable pub line : List ℕ → List ℕ
line text = text ++ 10 ∷ []

-- a word, and a number after a space
unfoldable pub numbered : List ℕ → ℕ → List ℕ
numbered word number = word ++ 32 ∷ decimal number

-- numbers, each after a comma
unfoldable pub after_commas : List SessionNo → List ℕ
after_commas [] = []
after_commas (s ∷ sessions) = 44 ∷ decimal s.0 ++ after_commas sessions

-- the sessions of the turns, joined by commas after a space
unfoldable pub joined : List SessionNo → List ℕ
joined [] = []
joined (s ∷ sessions) = 32 ∷ decimal s.0 ++ after_commas sessions

unfoldable pub turns_line : List SessionNo → List ℕ
turns_line sessions = line (codes "turns" ++ joined sessions)

-- the name of a table, as it was declared
unfoldable pub name_of : Workload → TableNo → List ℕ
name_of w t = (get_or w.tables t.0 (record { name = record { bytes = [] }; columns = [] })).name.bytes

unfoldable pub end_text : Workload → End → List ℕ
end_text w end.Read = codes "read"
end_text w (end.Committed number) = numbered (codes "committed") number
end_text w end.RolledBack = codes "rolled-back"
end_text w (end.Full t) = codes "full " ++ name_of w t
end_text w (end.Conflict t number) = numbered (codes "conflict " ++ name_of w t) number
end_text w (end.Installed number) = numbered (codes "installed") number
end_text w (end.Stale t number) = numbered (codes "stale " ++ name_of w t) number

-- a value of an answer, as it is printed
unfoldable pub value_text : ℕ → List ℕ
value_text value = decimal value

-- a word, and a value after a space, or that there is none
unfoldable pub value_or_none : List ℕ → Option ℕ → List ℕ
value_or_none word None = word ++ codes " none"
value_or_none word (Some value) = word ++ 32 ∷ value_text value

-- values, each after a space
unfoldable pub after_spaces : List ℕ → List ℕ
after_spaces values = flat_map (λ value. 32 ∷ value_text value) values

-- so many rows, each of so many values
unfoldable pub row_lines : ℕ → ℕ → List ℕ → List ℕ
row_lines zero width values = []
row_lines (suc count) width values =
    line (codes "row" ++ after_spaces (take width values)) ++ row_lines count width (drop width values)

-- how many rows of this width the values make
unfoldable pub row_count : ℕ → List ℕ → ℕ
row_count width values = length values / width

unfoldable pub answer_lines : Answer → List ℕ
answer_lines answer.Inserted = line (codes "inserted 1")
answer_lines (answer.Deleted count) = line (numbered (codes "deleted") count)
answer_lines (answer.Count count) = line (numbered (codes "count") count)
answer_lines (answer.Min least) = line (value_or_none (codes "min") least)
answer_lines (answer.Max greatest) = line (value_or_none (codes "max") greatest)
answer_lines (answer.Rows width values) =
    line (numbered (codes "rows") (row_count width values)) ++ row_lines (row_count width values) width values

-- a transaction: its line, and the lines of its answers
unfoldable pub transaction_line : Workload → DoneTxn → List ℕ
transaction_line w t =
    line (numbered (numbered (numbered (codes "session") t.session.0 ++ codes " transaction") t.place ++ codes " at") t.base
    ++ 32 ∷ end_text w t.end)

unfoldable pub transaction_lines : Workload → DoneTxn → List ℕ
transaction_lines w t = transaction_line w t ++ flat_map answer_lines t.answers

-- the text of a run before the line of the nonce
unfoldable pub plain_report_of : Workload → Run → List ℕ
plain_report_of w r = turns_line (turns_taken r) ++ flat_map (transaction_lines w) (history r)

unfoldable pub plain_report : Workload → List SessionNo → List ℕ
plain_report w turns = plain_report_of w (run w turns)

-- the first nonce that no session used: each of them has 2^32 of its own, from the first nonce on
unfoldable pub next_free_nonce : ℕ → Workload → ℕ
next_free_nonce first w = first + length w.sessions * 2 ^ 32

-- the report of a run without its view
unfoldable pub report : ℕ → Workload → List SessionNo → List ℕ
report first w turns = plain_report w turns ++ line (numbered (codes "nonce") (next_free_nonce first w))
