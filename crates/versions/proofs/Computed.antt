-- The worked examples, computed.
use Rattle.std.proofs.Common.{refl}
use Rattle.tree_model.specs.Trees.{inorder, size, map_tree, side_by, gap_side, turn_at, past, onward, path, rooted, halved, balanced}
use Rattle.tree_model.specs.Places.{one_if, below, holds, placed, place}
use Rattle.tree_model.specs.Items.{new_item, one_more, one_less, change_at, has_rows, live_items, live, is_dead, is_sparse}
use Rattle.tree_model.specs.Balance.{may_stand, climbed, climb, limit, is_heavy, counted, nearest_heavy}
use Rattle.tree_model.specs.Insertion.{child, with_child, tree_at, put_at, sizes_along, graft, balanced_at, scapegoat_way, settled, insert_tree}
use Rattle.tree_model.specs.Removal.{by_side, change_tree, first_or, without_first, joined, remove_tree}
use Rattle.tree_model.specs.Columns.{empty_column, items_of, whole, add, taken_out, shrunk, pruned, fewer, drop_one, lay, apply, apply_all, map_operation}
use Rattle.tree_model.specs.Sums.{bodies, tag, tagged, tagged_column, blank, origins}
use Rattle.tree_model.specs.Carried.{is_rank, here_or_next, carried, is_origin}
use Rattle.path_code.specs.Codes.{bit, spelled, code_within, code_of}
use Rattle.path_code.specs.Sums.{item_code, unless, moved_codes, added_codes, dropped_codes, sum_by_origins, sum_of}
use Rattle.table_model.specs.Stores.{empty_shelf}
use Rattle.table_model.specs.Steps.{operate, follow, kept_after, operated, then_steps, all_steps, adds, drops, only, rank_in}
use Rattle.table_model.specs.Changes.{here_or, without, of_row, ranks_of, kept_without, with_kept, insert_row, shelf_without, delete_row, delete_rows, delete_steps, lay_column}
use Rattle.table_model.specs.Operations.{rank_op_on, rank_ops_on, rank_install_on, shelf_at, steps_if, op_steps, ops_steps}
use Rattle.enc_table.specs.Seen.{no_stamps}
use Rattle.versions.specs.Databases.{first_database, stamps_at}
use Rattle.versions.specs.Operations.{op_table, written_at, stamped, with_ops, laid_at, with_install}
use Rattle.versions.specs.Changes.{is_nothing, leaves_codes, listed, column_changes, table_changes, ops_changes, install_changes}
use Rattle.versions.specs.Newer.{names, this_or, lowest_newer, last_change}
use Rattle.versions.specs.Examples.{RebuildOnDepth, DropLastDuplicate, CommitAcrossInstall, TwoTables}

pub rebuilds : RebuildOnDepth
unfolding inorder size map_tree side_by gap_side turn_at past onward path rooted halved balanced one_if below holds placed place new_item one_more one_less change_at has_rows live_items live is_dead is_sparse may_stand climbed climb limit is_heavy counted nearest_heavy child with_child tree_at put_at sizes_along graft balanced_at scapegoat_way settled insert_tree by_side change_tree first_or without_first joined remove_tree empty_column items_of whole add taken_out shrunk pruned fewer drop_one lay apply apply_all map_operation bodies tag tagged tagged_column blank origins is_rank here_or_next carried is_origin bit spelled code_within code_of item_code unless moved_codes added_codes dropped_codes sum_by_origins sum_of empty_shelf operate follow kept_after operated then_steps all_steps adds drops only rank_in here_or without of_row ranks_of kept_without with_kept insert_row shelf_without delete_row delete_rows delete_steps lay_column rank_op_on rank_ops_on rank_install_on shelf_at steps_if op_steps ops_steps no_stamps first_database stamps_at op_table written_at stamped with_ops laid_at with_install is_nothing leaves_codes listed column_changes table_changes ops_changes install_changes names this_or lowest_newer last_change
rebuilds = (record { changes = refl; stamps = refl }, record { changes = refl; stamps = refl })

pub drops_last : DropLastDuplicate
unfolding inorder size map_tree side_by gap_side turn_at past onward path rooted halved balanced one_if below holds placed place new_item one_more one_less change_at has_rows live_items live is_dead is_sparse may_stand climbed climb limit is_heavy counted nearest_heavy child with_child tree_at put_at sizes_along graft balanced_at scapegoat_way settled insert_tree by_side change_tree first_or without_first joined remove_tree empty_column items_of whole add taken_out shrunk pruned fewer drop_one lay apply apply_all map_operation bodies tag tagged tagged_column blank origins is_rank here_or_next carried is_origin bit spelled code_within code_of item_code unless moved_codes added_codes dropped_codes sum_by_origins sum_of empty_shelf operate follow kept_after operated then_steps all_steps adds drops only rank_in here_or without of_row ranks_of kept_without with_kept insert_row shelf_without delete_row delete_rows delete_steps lay_column rank_op_on rank_ops_on rank_install_on shelf_at steps_if op_steps ops_steps no_stamps first_database stamps_at op_table written_at stamped with_ops laid_at with_install is_nothing leaves_codes listed column_changes table_changes ops_changes install_changes names this_or lowest_newer last_change
drops_last = (record { nothing = refl; changes = refl; stamps = refl }, record { nothing = refl; changes = refl; stamps = refl })

pub commits_across : CommitAcrossInstall
unfolding inorder size map_tree side_by gap_side turn_at past onward path rooted halved balanced one_if below holds placed place new_item one_more one_less change_at has_rows live_items live is_dead is_sparse may_stand climbed climb limit is_heavy counted nearest_heavy child with_child tree_at put_at sizes_along graft balanced_at scapegoat_way settled insert_tree by_side change_tree first_or without_first joined remove_tree empty_column items_of whole add taken_out shrunk pruned fewer drop_one lay apply apply_all map_operation bodies tag tagged tagged_column blank origins is_rank here_or_next carried is_origin bit spelled code_within code_of item_code unless moved_codes added_codes dropped_codes sum_by_origins sum_of empty_shelf operate follow kept_after operated then_steps all_steps adds drops only rank_in here_or without of_row ranks_of kept_without with_kept insert_row shelf_without delete_row delete_rows delete_steps lay_column rank_op_on rank_ops_on rank_install_on shelf_at steps_if op_steps ops_steps no_stamps first_database stamps_at op_table written_at stamped with_ops laid_at with_install is_nothing leaves_codes listed column_changes table_changes ops_changes install_changes names this_or lowest_newer last_change
commits_across = record { before = refl; laid = refl; after = refl; stamps = refl; free = refl; stale = refl }

pub writes_both : TwoTables
unfolding inorder size map_tree side_by gap_side turn_at past onward path rooted halved balanced one_if below holds placed place new_item one_more one_less change_at has_rows live_items live is_dead is_sparse may_stand climbed climb limit is_heavy counted nearest_heavy child with_child tree_at put_at sizes_along graft balanced_at scapegoat_way settled insert_tree by_side change_tree first_or without_first joined remove_tree empty_column items_of whole add taken_out shrunk pruned fewer drop_one lay apply apply_all map_operation bodies tag tagged tagged_column blank origins is_rank here_or_next carried is_origin bit spelled code_within code_of item_code unless moved_codes added_codes dropped_codes sum_by_origins sum_of empty_shelf operate follow kept_after operated then_steps all_steps adds drops only rank_in here_or without of_row ranks_of kept_without with_kept insert_row shelf_without delete_row delete_rows delete_steps lay_column rank_op_on rank_ops_on rank_install_on shelf_at steps_if op_steps ops_steps no_stamps first_database stamps_at op_table written_at stamped with_ops laid_at with_install is_nothing leaves_codes listed column_changes table_changes ops_changes install_changes names this_or lowest_newer last_change
writes_both = record { changes = refl; nothing_left = refl; stamps = refl; other_stays = refl; lowest = refl; touched_alone = refl }
