-- A path as the way that it stores.
use Rattle.std.specs.Prelude.{List}
use Rattle.path_code.specs.Codes.{steps}
use Rattle.path_code.specs.declared.paths.Path.{Path}
use Rattle.tree_model.specs.declared.Side.{Side}

abbrev pub way : Path → List Side
way path = steps path.len path.bits
