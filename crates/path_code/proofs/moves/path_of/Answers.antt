use Rattle.std.proofs.Common.{ap, ◌∙◌, sym, arith, Some}
use Rattle.path_code.specs.Ways.{way}
use Rattle.path_code.proofs.Same.{same_path_from_code}
use Rattle.path_code.proofs.Spelling.{code_of-positive}
use Rattle.path_code.proofs.moves.path_of.Goals as goal

pub returns-then-enc-eq-NO_CODE-clause-inverse : goal.returns-then-enc-eq-NO_CODE-clause-inverse
returns-then-enc-eq-NO_CODE-clause-inverse c path e = absurd (omega (arith, e, c.if-enc-eq-NO_CODE.true, code_of-positive (way path)))

pub returns-clause-inverse : goal.returns-clause-inverse
returns-clause-inverse c path e = ap Some (same_path_from_code c.unmarked.result path (c.unmarked.ensures ∙ sym e))
