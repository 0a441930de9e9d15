-- The worked examples, computed.
use Rattle.std.proofs.Common.{refl}
use Rattle.tree_model.specs.Trees.{inorder, size, map_tree, side_by, gap_side, turn_at, past, onward, path, rooted, halved, balanced}
use Rattle.tree_model.specs.Places.{one_if, below, holds, placed, place}
use Rattle.tree_model.specs.Items.{new_item, one_more, one_less, values, change_at, has_rows, live_items, live, is_dead, is_sparse}
use Rattle.tree_model.specs.Balance.{may_stand, climbed, climb, limit, is_heavy, counted, nearest_heavy}
use Rattle.tree_model.specs.Insertion.{child, with_child, tree_at, put_at, sizes_along, graft, balanced_at, scapegoat_way, settled, insert_tree}
use Rattle.tree_model.specs.Removal.{by_side, change_tree, first_or, without_first, joined, remove_tree}
use Rattle.tree_model.specs.Columns.{empty_column, items_of, whole, add, taken_out, shrunk, pruned, fewer, drop_one, lay, apply, apply_all, map_operation}
use Rattle.tree_model.specs.Sums.{bodies, tag, tagged, tagged_column, blank, origins}
use Rattle.tree_model.specs.Carried.{is_rank, here_or_next, carried}
use Rattle.table_model.specs.Stores.{empty_store, ranks_by, kept_of, shelf_of}
use Rattle.table_model.specs.Steps.{operate, follow, kept_after, operated, adds, drops, only, rank_in, places_by}
use Rattle.table_model.specs.Changes.{here_or, without, of_row, ranks_of, cells_of, kept_without, rows_without, with_kept, insert_row, shelf_without, delete_row, delete_rows, delete_steps, insert_cells, delete_number, delete_numbers, lay_store}
use Rattle.table_model.specs.Examples.{filled, DropLastDuplicate, RebuildOnDepth, DeleteSecond, FollowsItems, InstallBalances}

pub drops_last : DropLastDuplicate
unfolding inorder size map_tree side_by gap_side turn_at past onward path rooted halved balanced one_if below holds placed place new_item one_more one_less values change_at has_rows live_items live is_dead is_sparse may_stand climbed climb limit is_heavy counted nearest_heavy child with_child tree_at put_at sizes_along graft balanced_at scapegoat_way settled insert_tree by_side change_tree first_or without_first joined remove_tree empty_column items_of whole add taken_out shrunk pruned fewer drop_one lay apply apply_all map_operation bodies tag tagged tagged_column blank origins is_rank here_or_next carried empty_store ranks_by kept_of shelf_of operate follow kept_after operated adds drops only rank_in places_by here_or without of_row ranks_of cells_of kept_without rows_without with_kept insert_row shelf_without delete_row delete_rows delete_steps insert_cells delete_number delete_numbers lay_store filled
drops_last = (record { before = refl; steps = refl; two = refl; after = refl }, record { before = refl; steps = refl; two = refl; after = refl })

pub rebuilds : RebuildOnDepth
unfolding inorder size map_tree side_by gap_side turn_at past onward path rooted halved balanced one_if below holds placed place new_item one_more one_less values change_at has_rows live_items live is_dead is_sparse may_stand climbed climb limit is_heavy counted nearest_heavy child with_child tree_at put_at sizes_along graft balanced_at scapegoat_way settled insert_tree by_side change_tree first_or without_first joined remove_tree empty_column items_of whole add taken_out shrunk pruned fewer drop_one lay apply apply_all map_operation bodies tag tagged tagged_column blank origins is_rank here_or_next carried empty_store ranks_by kept_of shelf_of operate follow kept_after operated adds drops only rank_in places_by here_or without of_row ranks_of cells_of kept_without rows_without with_kept insert_row shelf_without delete_row delete_rows delete_steps insert_cells delete_number delete_numbers lay_store filled
rebuilds = (record { before = refl; by_value = refl; by_rank = refl }, record { before = refl; by_value = refl; by_rank = refl })

pub deletes : DeleteSecond
unfolding inorder size map_tree side_by gap_side turn_at past onward path rooted halved balanced one_if below holds placed place new_item one_more one_less values change_at has_rows live_items live is_dead is_sparse may_stand climbed climb limit is_heavy counted nearest_heavy child with_child tree_at put_at sizes_along graft balanced_at scapegoat_way settled insert_tree by_side change_tree first_or without_first joined remove_tree empty_column items_of whole add taken_out shrunk pruned fewer drop_one lay apply apply_all map_operation bodies tag tagged tagged_column blank origins is_rank here_or_next carried empty_store ranks_by kept_of shelf_of operate follow kept_after operated adds drops only rank_in places_by here_or without of_row ranks_of cells_of kept_without rows_without with_kept insert_row shelf_without delete_row delete_rows delete_steps insert_cells delete_number delete_numbers lay_store filled
deletes = (record { by_value = refl; by_rank = refl; no_such_row = refl }, record { by_value = refl; by_rank = refl; no_such_row = refl })

pub follows : FollowsItems
unfolding inorder size map_tree side_by gap_side turn_at past onward path rooted halved balanced one_if below holds placed place new_item one_more one_less values change_at has_rows live_items live is_dead is_sparse may_stand climbed climb limit is_heavy counted nearest_heavy child with_child tree_at put_at sizes_along graft balanced_at scapegoat_way settled insert_tree by_side change_tree first_or without_first joined remove_tree empty_column items_of whole add taken_out shrunk pruned fewer drop_one lay apply apply_all map_operation bodies tag tagged tagged_column blank origins is_rank here_or_next carried empty_store ranks_by kept_of shelf_of operate follow kept_after operated adds drops only rank_in places_by here_or without of_row ranks_of cells_of kept_without rows_without with_kept insert_row shelf_without delete_row delete_rows delete_steps insert_cells delete_number delete_numbers lay_store filled
follows = record { before = refl; item_stays = refl; items_go = refl; item_goes = refl }

pub lays : InstallBalances
unfolding inorder size map_tree side_by gap_side turn_at past onward path rooted halved balanced one_if below holds placed place new_item one_more one_less values change_at has_rows live_items live is_dead is_sparse may_stand climbed climb limit is_heavy counted nearest_heavy child with_child tree_at put_at sizes_along graft balanced_at scapegoat_way settled insert_tree by_side change_tree first_or without_first joined remove_tree empty_column items_of whole add taken_out shrunk pruned fewer drop_one lay apply apply_all map_operation bodies tag tagged tagged_column blank origins is_rank here_or_next carried empty_store ranks_by kept_of shelf_of operate follow kept_after operated adds drops only rank_in places_by here_or without of_row ranks_of cells_of kept_without rows_without with_kept insert_row shelf_without delete_row delete_rows delete_steps insert_cells delete_number delete_numbers lay_store filled
lays = (record { laid = refl; no_such_column = refl }, record { laid = refl; no_such_column = refl })
