-- The text of turns and transactions that are given, whichever run they are of. The format is our own.
use Rattle.std.specs.Prelude.{ℕ, List, [], ◌++◌, flat_map, Option, Some, None, codes}
use Rattle.mope_base.specs.declared.numbers.SessionNo.{SessionNo}
use Rattle.workload.specs.declared.script.DoneTxn.{DoneTxn}
use Rattle.workload.specs.declared.script.Workload.{Workload}
use Rattle.workload.specs.Report.{line, numbered, turns_line, transaction_lines}

-- the line of the next free nonce, if there is one
unfoldable pub nonce_line : Option ℕ → List ℕ
nonce_line None = []
nonce_line (Some next) = line (numbered (codes "nonce") next)

-- the line of the turns, and the lines of the transactions in the order in which they are given
unfoldable pub plain_text : Workload → List SessionNo → List DoneTxn → List ℕ
plain_text w turns txns = turns_line turns ++ flat_map (transaction_lines w) txns

-- the whole text
unfoldable pub text_of : Workload → List SessionNo → List DoneTxn → Option ℕ → List ℕ
text_of w turns txns next = plain_text w turns txns ++ nonce_line next
