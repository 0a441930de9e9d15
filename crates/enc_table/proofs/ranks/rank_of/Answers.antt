use Rattle.std.proofs.Common.{◌≡◌, ◌<◌, ℕ, sym, subst, ◌∙◌, arith}
use Rattle.tree_model.specs.declared.Place.TheVariants.{Found, Gap}
use Rattle.tree_model.specs.Places.{below}
use Rattle.tree_model.specs.Trees.{size}
use Rattle.code_changes.specs.Columns.{codes_of}
use Rattle.enc_table.proofs.ItemPlaces.{code_positive, names_item, place_of_code, same_rank, no_gap}
use Rattle.enc_table.proofs.ItemRanks.{item_of_code}
use Rattle.enc_table.proofs.Options.{some_unless, told_of_some}
use Rattle.enc_table.proofs.ranks.rank_of.Goals as goal

pub unwrap-path-requires : goal.unwrap-path-requires
unwrap-path-requires c =
    some_unless _ _ c.path_of.result c.path_of.ensures.decodes (λ zero. let above = code_positive c.args.tree.now.column.tree c.args.code c.requires.short c.requires.code in omega (arith, above, zero))

pub unwrap-requires : goal.unwrap-requires
unwrap-requires c =
    let is = told_of_some _ _ c.path_of.result c.unwrap-path.result c.path_of.ensures.decodes c.unwrap-path.ensures in
    some_unless _ _ c.place_of.result c.place_of.ensures (λ nothing. names_item c.args.tree.now.column.tree c.args.code c.unwrap-path.result c.requires.short c.requires.code is nothing)

pub returns-in-Found-clause-rank : goal.returns-in-Found-clause-rank
returns-in-Found-clause-rank c =
    let is = told_of_some _ _ c.path_of.result c.unwrap-path.result c.path_of.ensures.decodes c.unwrap-path.ensures in
    let there = told_of_some _ _ c.place_of.result (Found c.in-Found.rank) c.place_of.ensures c.in-Found.ensures in
    same_rank c.in-Found.rank (below c.args.code (codes_of c.args.tree.now.column.tree)) (place_of_code c.args.tree.now.column.tree c.args.code c.unwrap-path.result (Found c.in-Found.rank) c.requires.short c.requires.code is there)

pub returns-in-Found-clause-among : goal.returns-in-Found-clause-among
returns-in-Found-clause-among c =
    let is = told_of_some _ _ c.path_of.result c.unwrap-path.result c.path_of.ensures.decodes c.unwrap-path.ensures in
    let there = told_of_some _ _ c.place_of.result (Found c.in-Found.rank) c.place_of.ensures c.in-Found.ensures in
    let same = same_rank c.in-Found.rank (below c.args.code (codes_of c.args.tree.now.column.tree)) (place_of_code c.args.tree.now.column.tree c.args.code c.unwrap-path.result (Found c.in-Found.rank) c.requires.short c.requires.code is there) in
    subst (λ (k : ℕ). k < size c.args.tree.now.column.tree) (sym same) (item_of_code c.args.tree.now.column.tree c.args.code c.requires.short c.requires.code).0

pub returns-in-Gap-clause-rank : goal.returns-in-Gap-clause-rank
returns-in-Gap-clause-rank c =
    let is = told_of_some _ _ c.path_of.result c.unwrap-path.result c.path_of.ensures.decodes c.unwrap-path.ensures in
    let there = told_of_some _ _ c.place_of.result (Gap c.in-Gap.rank) c.place_of.ensures c.in-Gap.ensures in
    absurd (no_gap c.in-Gap.rank (below c.args.code (codes_of c.args.tree.now.column.tree)) (place_of_code c.args.tree.now.column.tree c.args.code c.unwrap-path.result (Gap c.in-Gap.rank) c.requires.short c.requires.code is there))

pub returns-in-Gap-clause-among : goal.returns-in-Gap-clause-among
returns-in-Gap-clause-among c =
    let is = told_of_some _ _ c.path_of.result c.unwrap-path.result c.path_of.ensures.decodes c.unwrap-path.ensures in
    let there = told_of_some _ _ c.place_of.result (Gap c.in-Gap.rank) c.place_of.ensures c.in-Gap.ensures in
    absurd (no_gap c.in-Gap.rank (below c.args.code (codes_of c.args.tree.now.column.tree)) (place_of_code c.args.tree.now.column.tree c.args.code c.unwrap-path.result (Gap c.in-Gap.rank) c.requires.short c.requires.code is there))
