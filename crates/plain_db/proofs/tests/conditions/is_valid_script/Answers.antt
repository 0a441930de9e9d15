use Rattle.std.proofs.Common.{refl, arith, rules}
use Rattle.plain_db.proofs.ConditionLemmas.{enough-next, enough-end}
use Rattle.plain_db.proofs.tests.conditions.is_valid_script.Goals as goal

pub pieces-preserved : goal.pieces-preserved
pieces-preserved c =
    enough-next _ c.args.pieces.now c.pieces.i c.index-pieces-i.result c.pieces-test.true c.index-pieces-i.is (c.if-not-is_valid_piece.ensures refl)
    c.pieces.invariant

pub returns : goal.returns
returns c = λ few. record {
  valid = enough-end _ c.args.pieces.now c.pieces.i c.pieces-test.false c.pieces.invariant;
  few_pieces = search rules;
  few_numbers = omega (arith, c.has_few_numbers.ensures few);
}
