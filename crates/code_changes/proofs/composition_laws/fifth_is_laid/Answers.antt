use Rattle.std.proofs.Common.{refl}
use Rattle.tree_model.specs.Trees.{inorder, size, map_tree, side_by, gap_side, turn_at, past, onward, path, rooted, halved, balanced}
use Rattle.tree_model.specs.Places.{one_if, below, holds, placed, place}
use Rattle.tree_model.specs.Items.{new_item, one_more, one_less, has_rows, live_items, live, is_dead, is_sparse}
use Rattle.tree_model.specs.Balance.{may_stand, climbed, climb, limit, is_heavy, counted, nearest_heavy}
use Rattle.tree_model.specs.Insertion.{child, with_child, tree_at, put_at, sizes_along, graft, balanced_at, scapegoat_way, settled, insert_tree}
use Rattle.tree_model.specs.Columns.{empty_column, items_of, add, lay, apply, apply_all, map_operation}
use Rattle.tree_model.specs.Sums.{bodies, tag, tagged, tagged_column, blank, origins}
use Rattle.path_code.specs.Codes.{bit, spelled, code_within, code_of}
use Rattle.tree_model.specs.Carried.{is_origin}
use Rattle.path_code.specs.Sums.{item_code, unless, moved_codes, added_codes, dropped_codes, sum_by_origins, sum_of}
use Rattle.path_code.specs.SumLaws.{ascending}
use Rattle.code_changes.specs.Changes.{new_if, new_code, none_if, applied, with_some, images, put_at_place, put, put_all, list_after}
use Rattle.code_changes.specs.Columns.{codes_of}
use Rattle.code_changes.specs.Compositions.{applied_next, applied_both, pair_if, moved_by, lost_if, dropped_by, both_on}
use Rattle.code_changes.proofs.composition_laws.fifth_is_laid.Goals as goal

pub returns : goal.returns
unfolding inorder size map_tree side_by gap_side turn_at past onward path rooted halved balanced one_if below holds placed place new_item one_more one_less has_rows live_items live is_dead is_sparse may_stand climbed climb limit is_heavy counted nearest_heavy child with_child tree_at put_at sizes_along graft balanced_at scapegoat_way settled insert_tree empty_column items_of add lay apply apply_all map_operation bodies tag tagged tagged_column blank origins bit spelled code_within code_of item_code unless moved_codes added_codes is_origin dropped_codes sum_by_origins sum_of ascending new_if new_code none_if applied with_some images put_at_place put put_all list_after codes_of applied_next applied_both pair_if moved_by lost_if dropped_by both_on
returns c = record { same = refl; added = refl }
