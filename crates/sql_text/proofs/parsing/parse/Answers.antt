use Rattle.std.proofs.Common.{◌∙◌, sym}
use Rattle.sql_text.proofs.Verdicts.{token_fault_found}
use Rattle.sql_text.proofs.parsing.parse.Goals as goal

pub returns-in-Some-token_fault-clause-fault : goal.returns-in-Some-token_fault-clause-fault
returns-in-Some-token_fault-clause-fault c = token_fault_found c.args.line.now c.in-Some-token_fault.at c.in-Some-token_fault.reason (sym c.first_bad_byte.ensures ∙ c.in_default.is) (sym c.token_fault.ensures ∙ c.in-Some-token_fault.is)
