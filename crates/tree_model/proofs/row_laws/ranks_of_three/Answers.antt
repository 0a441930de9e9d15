use Rattle.std.proofs.Common.{refl}
use Rattle.tree_model.specs.Trees.{inorder, size, side_by, gap_side, turn_at, past, onward, path, rooted, halved, balanced}
use Rattle.tree_model.specs.Places.{one_if}
use Rattle.tree_model.specs.Items.{new_item, one_less, change_at, has_rows, live_items, live, is_dead, gone, drop_item, is_sparse}
use Rattle.tree_model.specs.Balance.{may_stand, climbed, climb, limit, is_heavy, counted, nearest_heavy}
use Rattle.tree_model.specs.Insertion.{child, with_child, tree_at, put_at, sizes_along, graft, balanced_at, scapegoat_way, settled, insert_tree}
use Rattle.tree_model.specs.Removal.{by_side, change_tree}
use Rattle.tree_model.specs.Columns.{empty_column, items_of, whole, add, taken_out, shrunk, pruned, fewer, drop_one, apply, apply_all}
use Rattle.tree_model.specs.Ranks.{rank_added, one_lower, rank_gone, rank_swept, is_gone, rank_dropped, rank_after, rank_after_all, stays_gone, stays_swept, stays_dropped, stays_after, stays_after_all}
use Rattle.tree_model.specs.RowLaws.{three_items}
use Rattle.tree_model.proofs.row_laws.ranks_of_three.Goals as goal

pub returns : goal.returns
unfolding inorder size side_by gap_side turn_at past onward path rooted halved balanced one_if new_item one_less change_at has_rows live_items live is_dead gone drop_item is_sparse may_stand climbed climb limit is_heavy counted nearest_heavy child with_child tree_at put_at sizes_along graft balanced_at scapegoat_way settled insert_tree by_side change_tree empty_column items_of whole add taken_out shrunk pruned fewer drop_one apply apply_all rank_added one_lower rank_gone rank_swept is_gone rank_dropped rank_after rank_after_all stays_gone stays_swept stays_dropped stays_after stays_after_all three_items
returns c = record { after_new = refl; which_stay = refl; after_gone = refl }
