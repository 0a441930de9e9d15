use Rattle.std.proofs.Common.{refl}
use Rattle.tree_model.specs.Trees.{size, side_by, turn_at, past, onward, path, rooted, halved, balanced}
use Rattle.path_code.specs.Codes.{bit, spelled, code_within, code_of}
use Rattle.path_code.proofs.laws.codes_of_five.Goals as goal

pub returns : goal.returns
unfolding size side_by turn_at past onward path rooted halved balanced bit spelled code_within code_of
returns c = refl
