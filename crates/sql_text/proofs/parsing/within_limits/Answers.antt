use Rattle.std.proofs.Common.{sym}
use Rattle.sql_text.proofs.Verdicts.{gives_few, spelled_same, too_many}
use Rattle.sql_text.proofs.parsing.within_limits.Goals as goal

pub returns-in-Some-clause-fault : goal.returns-in-Some-clause-fault
returns-in-Some-clause-fault c = too_many c.args.line.now c.args.stmt c.in-Some.number c.place_of.result c.requires (sym c.in-Some.ensures) c.place_of.ensures

pub returns-in-Some-clause-complete : goal.returns-in-Some-clause-complete
returns-in-Some-clause-complete c s g = absurd (gives_few c.args.line.now s c.args.stmt c.in-Some.number g c.requires (sym c.in-Some.ensures))

pub returns-in-None-clause-complete : goal.returns-in-None-clause-complete
returns-in-None-clause-complete c s g = spelled_same c.args.line.now s c.args.stmt g c.requires
