-- What callers see to, and the pair of body and count as an item.
use Rattle.std.specs.Prelude.{ℕ, ◌+◌, ◌<◌, ◌^◌}
use Rattle.mope_base.specs.declared.body.Body.{Body}
use Rattle.tree_model.specs.declared.Place.{Place}
use Rattle.tree_model.specs.declared.Place.TheVariants.{Found, Gap}
use Rattle.tree_model.specs.Items.{Item}
use Rattle.tree_model.specs.Columns.{Column}
use Rattle.ope_tree.specs.Listed.{count_at}

-- a found item can have one row more
abbrev pub HasRoom : Column Body → Place → Type 0
HasRoom c (Found rank) = count_at c rank + 1 < 2 ^ 32
HasRoom c (Gap rank) = Unit {0}

-- a body and a count as an item
abbrev pub paired : Body × ℕ → Item Body
paired p = record { body = p.0; count = p.1 }
