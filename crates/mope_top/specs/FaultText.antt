-- The line that refuses a workload's file. The wording is our own.
use Rattle.std.specs.Prelude.{ℕ, List, [], ◌∷◌, ◌++◌, codes}
use Rattle.std.specs.Fmt.{decimal}
use Rattle.workload_file.specs.declared.stops.FileReason.{FileReason}
use Rattle.workload_file.specs.declared.stops.FileReason.TheVariants as reason

unfoldable pub reason_words : FileReason → List ℕ
reason_words reason.InputTooLong = codes "input too long"
reason_words reason.TextAfterEnd = codes "text after END"
reason_words reason.BadByte = codes "bad byte"
reason_words reason.BadToken = codes "bad token"
reason_words reason.TooLarge = codes "number too large"
reason_words reason.Syntax = codes "syntax"
reason_words reason.TooMany = codes "too many"
reason_words reason.RepeatedName = codes "repeated name"
reason_words reason.UnknownTable = codes "unknown table"
reason_words reason.UnknownColumn = codes "unknown column"
reason_words reason.WrongWidth = codes "wrong width"
reason_words reason.Transaction = codes "transaction"
reason_words reason.NoEnd = codes "no END"
reason_words reason.ShapesDiffer = codes "shapes differ"

-- the line names the first line that has a fault, and its first reason
unfoldable pub fault_text : ℕ → FileReason → List ℕ
fault_text line why = codes "error line " ++ decimal line ++ codes ": " ++ reason_words why ++ 10 ∷ []
