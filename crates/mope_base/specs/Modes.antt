-- The two ways in which a column's tree treats items that no row has any more.
use Rattle.std.specs.Prelude.{Bool, true, false}
use Rattle.mope_base.specs.declared.numbers.Mode.{Mode}
use Rattle.mope_base.specs.declared.numbers.Mode.TheVariants.{Ordinary, SameTime}

-- whether an item goes with its last row
unfoldable pub is_same_time : Mode → Bool
is_same_time Ordinary = false
is_same_time SameTime = true
