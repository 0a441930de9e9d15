use Rattle.std.proofs.Common.{◌≡◌, ◌<◌, ℕ, sym, ap, subst, ◌∙◌, arith}
use Rattle.tree_model.specs.declared.Place.{Place}
use Rattle.tree_model.specs.declared.Place.TheVariants.{Found, Gap}
use Rattle.tree_model.specs.Trees.{size, IsPlaceOf}
use Rattle.path_code.specs.Sums.{item_code}
use Rattle.table_model.specs.Steps.{rank_in}
use Rattle.enc_table.proofs.Options.{some_where, value_of_some}
use Rattle.enc_table.proofs.ItemPlaces.{among_found, among_gap, code_found, code_gap}
use Rattle.enc_table.proofs.ranks.code_at_place.Goals as goal

pub unwrap-requires : goal.unwrap-requires
unwrap-requires c = some_where _ _ c.code_of.result c.code_of.ensures.value (among_found c.args.tree.now.column.tree c.args.place c.in-Found.rank c.in-Found.is c.requires)

pub unwrap-requires-in-Gap : goal.unwrap-requires-in-Gap
unwrap-requires-in-Gap c = some_where _ _ c.code_of-in-Gap.result c.code_of-in-Gap.ensures.value (among_gap c.args.tree.now.column.tree c.args.place c.in-Gap.rank c.in-Gap.is c.requires)

pub returns-in-Found : goal.returns-in-Found
returns-in-Found c = value_of_some _ _ c.code_of.result c.unwrap.result c.code_of.ensures.value c.unwrap.ensures ∙ code_found c.args.tree.now.column.tree c.args.place c.in-Found.rank c.in-Found.is

pub returns-in-Gap : goal.returns-in-Gap
returns-in-Gap c = value_of_some _ _ c.code_of-in-Gap.result c.unwrap-in-Gap.result c.code_of-in-Gap.ensures.value c.unwrap-in-Gap.ensures ∙ code_gap c.args.tree.now.column.tree c.args.place c.in-Gap.rank c.in-Gap.is
