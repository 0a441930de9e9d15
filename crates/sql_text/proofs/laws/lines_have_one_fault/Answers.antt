use Rattle.sql_text.proofs.FaultsOnce.{one_fault, fault_gives_none}
use Rattle.sql_text.proofs.laws.lines_have_one_fault.Goals as goal

pub returns : goal.returns
returns c = record { once = one_fault; alone = fault_gives_none }
