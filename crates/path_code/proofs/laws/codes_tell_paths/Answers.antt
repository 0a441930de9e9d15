use Rattle.path_code.proofs.Same.{same_path_from_code}
use Rattle.path_code.proofs.laws.codes_tell_paths.Goals as goal

pub returns : goal.returns
returns c = same_path_from_code
