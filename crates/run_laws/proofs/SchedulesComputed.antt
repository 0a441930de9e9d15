-- The worked examples of schedules, computed.
use Rattle.std.proofs.Common.{refl}
use Rattle.tree_model.specs.Trees.{inorder, map_tree, size, height, side_by, gap_side, turn_at, past, onward, path, rooted, halved, balanced}
use Rattle.tree_model.specs.Places.{one_if, below, holds, placed, place, number}
use Rattle.tree_model.specs.Items.{new_item, one_more, map_item, values, change_at, add_item, one_less, has_rows, live_items, live, is_dead, gone, drop_item, is_sparse, swept}
use Rattle.tree_model.specs.Balance.{may_stand, climbed, climb, limit, is_heavy, counted, nearest_heavy}
use Rattle.tree_model.specs.Insertion.{child, with_child, tree_at, put_at, sizes_along, graft, balanced_at, scapegoat_way, settled as settled_tree, insert_tree}
use Rattle.tree_model.specs.Removal.{by_side, change_tree, first_or, without_first, joined, remove_tree}
use Rattle.tree_model.specs.Columns.{empty_column, items_of, whole, add, taken_out, shrunk, pruned, fewer, drop_one, lay, apply, apply_all, map_column, map_operation}
use Rattle.table_model.specs.Stores.{empty_store, empty_shelf, map_row, map_store, map_kept, map_shelf, ranks_by, kept_of, shelf_of}
use Rattle.table_model.specs.Steps.{operate, follow, kept_after, operated, then_steps, all_steps, adds, drops, only, rank_in, places_by, map_steps}
use Rattle.table_model.specs.Changes.{here_or, without, of_row, ranks_of, cells_of, kept_without, rows_without, with_kept, insert_row, shelf_without, delete_row, delete_rows, delete_steps, lay_column, insert_cells, delete_number, delete_numbers, lay_store}
use Rattle.table_model.specs.Operations.{op_on, ops_on, install_on, columns_in, rows_in, placed_op, placed_ops}
use Rattle.table_model.specs.Soundness.{numbers_of, cell_value, column_values, column_at}
use Rattle.versions.specs.Operations.{op_table, written_at, stamped as stamped_by, laid_at}
use Rattle.workload.specs.Selection.{meets, passes, in_front, insert_ordered, ordered, by_column, in_order, first_of, chosen, selected, values_at, first_value, answer_about, kept_unless, without_row, without_rows}
use Rattle.workload.specs.PlainDatabase.{empty_table, empty_database, table_of, with_table, is_full as plain_is_full, with_row as with_plain_row, table_without}
use Rattle.workload.specs.Outcome.{value_at, left_by, inserted as plain_inserted, asked, outcome_of}
use Rattle.workload.specs.Transaction.{table_named, is_op, with_op as with_plain_op, started, after_outcome, after_act, after_acts, trial_of, work_of, wish_after, wish_of}
use Rattle.workload.specs.Run.{unstamped, number_of, version_of, initial, position_at, with_position, moved, with_done, begun, begin_turn, stamps_of, names, this_or, lowest_newer, merged, stamped, committed_unless, commit_turn, last_change, installed_unless, install_turn, turn_from, take_turn, take_turns, settled_from, settled, unbegun, finished_pieces, finished_session, finished_sessions, session_numbers}
use Rattle.workload.specs.Validity.{inserted_numbers}
use Rattle.value_cipher.specs.Cipher.{value_of, nonce_at}
use Rattle.proxy.specs.Tasks.{constants_in, constants_with, column_at as column_numbered, values_from, constants_all, constants_of as constants_named}
use Rattle.proxy.specs.Client.{cells_from}
use Rattle.transaction_laws.specs.Walks.{exchanged, value_in, onward_by, walk_log}
use Rattle.transaction_laws.specs.Constants.{store_at, walks_log}
use Rattle.transaction_laws.specs.Queries.{cell_at, rows_about, rows_out, ops_about}
use Rattle.transaction_laws.specs.Transactions.{plain_row, plain_table, plain_database, tried_on, ops_of, tried_by, act_tried, unless_stopped, acts_tried, act_log, acts_log}
use Rattle.run_laws.specs.Worlds.{session_setting, widths_of, first_world, world_with_ops, world_with_install}
use Rattle.run_laws.specs.WorldRuns.{new_session, first_run, world_at, session_at, with_session, closing, closing_by, begin_log, begin_taken, having_said, commit_taken, install_taken, next_from, next_turn, older_with, current_with, after_taken, world_turn, world_turns, world_settled_from, world_settled, world_finished_pieces, world_finished_session, world_finished}
use Rattle.run_laws.specs.Honesty.{sessions_of}
use Rattle.run_laws.specs.Schedules.{due_at, with_due, first_underway, due_after_begin, due_from, stepped_by, stepped, scheduled, run_under, turns_under}
use Rattle.run_laws.specs.ScheduleExamples.{CommitAcrossInstall, EndedIsSkipped, FirstCommitWins, RebuildUnderWalk, StaleRebuild}

pub ended_is_skipped : EndedIsSkipped
unfolding inorder map_tree size height side_by gap_side turn_at past onward path rooted halved balanced one_if below holds placed place number new_item one_more map_item values change_at add_item one_less has_rows live_items live is_dead gone drop_item is_sparse swept may_stand climbed climb limit is_heavy counted nearest_heavy child with_child tree_at put_at sizes_along graft balanced_at scapegoat_way settled_tree insert_tree by_side change_tree first_or without_first joined remove_tree empty_column items_of whole add taken_out shrunk pruned fewer drop_one lay apply apply_all map_column map_operation empty_store empty_shelf map_row map_store map_kept map_shelf ranks_by kept_of shelf_of operate follow kept_after operated then_steps all_steps adds drops only rank_in places_by map_steps here_or without of_row ranks_of cells_of kept_without rows_without with_kept insert_row shelf_without delete_row delete_rows delete_steps lay_column insert_cells delete_number delete_numbers lay_store op_on ops_on install_on columns_in rows_in placed_op placed_ops numbers_of cell_value column_values column_at op_table written_at stamped_by laid_at meets passes in_front insert_ordered ordered by_column in_order first_of chosen selected values_at first_value answer_about kept_unless without_row without_rows empty_table empty_database table_of with_table plain_is_full with_plain_row table_without value_at left_by plain_inserted asked outcome_of table_named is_op with_plain_op started after_outcome after_act after_acts trial_of work_of wish_after wish_of unstamped number_of version_of initial position_at with_position moved with_done begun begin_turn stamps_of names this_or lowest_newer merged stamped committed_unless commit_turn last_change installed_unless install_turn turn_from take_turn take_turns settled_from settled unbegun finished_pieces finished_session finished_sessions session_numbers inserted_numbers value_of nonce_at constants_in constants_with column_numbered values_from constants_all constants_named cells_from exchanged value_in onward_by walk_log store_at walks_log cell_at rows_about rows_out ops_about plain_row plain_table plain_database tried_on ops_of tried_by act_tried unless_stopped acts_tried act_log acts_log session_setting widths_of first_world world_with_ops world_with_install new_session first_run world_at session_at with_session closing closing_by begin_log begin_taken having_said commit_taken install_taken next_from next_turn older_with current_with after_taken world_turn world_turns world_settled_from world_settled world_finished_pieces world_finished_session world_finished sessions_of due_at with_due first_underway due_after_begin due_from stepped_by stepped scheduled run_under turns_under
ended_is_skipped = ((λ key first. refl), (λ key first. refl))

pub first_commit_wins : FirstCommitWins
unfolding inorder map_tree size height side_by gap_side turn_at past onward path rooted halved balanced one_if below holds placed place number new_item one_more map_item values change_at add_item one_less has_rows live_items live is_dead gone drop_item is_sparse swept may_stand climbed climb limit is_heavy counted nearest_heavy child with_child tree_at put_at sizes_along graft balanced_at scapegoat_way settled_tree insert_tree by_side change_tree first_or without_first joined remove_tree empty_column items_of whole add taken_out shrunk pruned fewer drop_one lay apply apply_all map_column map_operation empty_store empty_shelf map_row map_store map_kept map_shelf ranks_by kept_of shelf_of operate follow kept_after operated then_steps all_steps adds drops only rank_in places_by map_steps here_or without of_row ranks_of cells_of kept_without rows_without with_kept insert_row shelf_without delete_row delete_rows delete_steps lay_column insert_cells delete_number delete_numbers lay_store op_on ops_on install_on columns_in rows_in placed_op placed_ops numbers_of cell_value column_values column_at op_table written_at stamped_by laid_at meets passes in_front insert_ordered ordered by_column in_order first_of chosen selected values_at first_value answer_about kept_unless without_row without_rows empty_table empty_database table_of with_table plain_is_full with_plain_row table_without value_at left_by plain_inserted asked outcome_of table_named is_op with_plain_op started after_outcome after_act after_acts trial_of work_of wish_after wish_of unstamped number_of version_of initial position_at with_position moved with_done begun begin_turn stamps_of names this_or lowest_newer merged stamped committed_unless commit_turn last_change installed_unless install_turn turn_from take_turn take_turns settled_from settled unbegun finished_pieces finished_session finished_sessions session_numbers inserted_numbers value_of nonce_at constants_in constants_with column_numbered values_from constants_all constants_named cells_from exchanged value_in onward_by walk_log store_at walks_log cell_at rows_about rows_out ops_about plain_row plain_table plain_database tried_on ops_of tried_by act_tried unless_stopped acts_tried act_log acts_log session_setting widths_of first_world world_with_ops world_with_install new_session first_run world_at session_at with_session closing closing_by begin_log begin_taken having_said commit_taken install_taken next_from next_turn older_with current_with after_taken world_turn world_turns world_settled_from world_settled world_finished_pieces world_finished_session world_finished sessions_of due_at with_due first_underway due_after_begin due_from stepped_by stepped scheduled run_under turns_under
first_commit_wins = ((λ key first. refl), (λ key first. refl))

pub rebuild_under_walk : RebuildUnderWalk
unfolding inorder map_tree size height side_by gap_side turn_at past onward path rooted halved balanced one_if below holds placed place number new_item one_more map_item values change_at add_item one_less has_rows live_items live is_dead gone drop_item is_sparse swept may_stand climbed climb limit is_heavy counted nearest_heavy child with_child tree_at put_at sizes_along graft balanced_at scapegoat_way settled_tree insert_tree by_side change_tree first_or without_first joined remove_tree empty_column items_of whole add taken_out shrunk pruned fewer drop_one lay apply apply_all map_column map_operation empty_store empty_shelf map_row map_store map_kept map_shelf ranks_by kept_of shelf_of operate follow kept_after operated then_steps all_steps adds drops only rank_in places_by map_steps here_or without of_row ranks_of cells_of kept_without rows_without with_kept insert_row shelf_without delete_row delete_rows delete_steps lay_column insert_cells delete_number delete_numbers lay_store op_on ops_on install_on columns_in rows_in placed_op placed_ops numbers_of cell_value column_values column_at op_table written_at stamped_by laid_at meets passes in_front insert_ordered ordered by_column in_order first_of chosen selected values_at first_value answer_about kept_unless without_row without_rows empty_table empty_database table_of with_table plain_is_full with_plain_row table_without value_at left_by plain_inserted asked outcome_of table_named is_op with_plain_op started after_outcome after_act after_acts trial_of work_of wish_after wish_of unstamped number_of version_of initial position_at with_position moved with_done begun begin_turn stamps_of names this_or lowest_newer merged stamped committed_unless commit_turn last_change installed_unless install_turn turn_from take_turn take_turns settled_from settled unbegun finished_pieces finished_session finished_sessions session_numbers inserted_numbers value_of nonce_at constants_in constants_with column_numbered values_from constants_all constants_named cells_from exchanged value_in onward_by walk_log store_at walks_log cell_at rows_about rows_out ops_about plain_row plain_table plain_database tried_on ops_of tried_by act_tried unless_stopped acts_tried act_log acts_log session_setting widths_of first_world world_with_ops world_with_install new_session first_run world_at session_at with_session closing closing_by begin_log begin_taken having_said commit_taken install_taken next_from next_turn older_with current_with after_taken world_turn world_turns world_settled_from world_settled world_finished_pieces world_finished_session world_finished sessions_of due_at with_due first_underway due_after_begin due_from stepped_by stepped scheduled run_under turns_under
rebuild_under_walk = ((λ key first. refl), (λ key first. refl))

pub commit_across_install : CommitAcrossInstall
unfolding inorder map_tree size height side_by gap_side turn_at past onward path rooted halved balanced one_if below holds placed place number new_item one_more map_item values change_at add_item one_less has_rows live_items live is_dead gone drop_item is_sparse swept may_stand climbed climb limit is_heavy counted nearest_heavy child with_child tree_at put_at sizes_along graft balanced_at scapegoat_way settled_tree insert_tree by_side change_tree first_or without_first joined remove_tree empty_column items_of whole add taken_out shrunk pruned fewer drop_one lay apply apply_all map_column map_operation empty_store empty_shelf map_row map_store map_kept map_shelf ranks_by kept_of shelf_of operate follow kept_after operated then_steps all_steps adds drops only rank_in places_by map_steps here_or without of_row ranks_of cells_of kept_without rows_without with_kept insert_row shelf_without delete_row delete_rows delete_steps lay_column insert_cells delete_number delete_numbers lay_store op_on ops_on install_on columns_in rows_in placed_op placed_ops numbers_of cell_value column_values column_at op_table written_at stamped_by laid_at meets passes in_front insert_ordered ordered by_column in_order first_of chosen selected values_at first_value answer_about kept_unless without_row without_rows empty_table empty_database table_of with_table plain_is_full with_plain_row table_without value_at left_by plain_inserted asked outcome_of table_named is_op with_plain_op started after_outcome after_act after_acts trial_of work_of wish_after wish_of unstamped number_of version_of initial position_at with_position moved with_done begun begin_turn stamps_of names this_or lowest_newer merged stamped committed_unless commit_turn last_change installed_unless install_turn turn_from take_turn take_turns settled_from settled unbegun finished_pieces finished_session finished_sessions session_numbers inserted_numbers value_of nonce_at constants_in constants_with column_numbered values_from constants_all constants_named cells_from exchanged value_in onward_by walk_log store_at walks_log cell_at rows_about rows_out ops_about plain_row plain_table plain_database tried_on ops_of tried_by act_tried unless_stopped acts_tried act_log acts_log session_setting widths_of first_world world_with_ops world_with_install new_session first_run world_at session_at with_session closing closing_by begin_log begin_taken having_said commit_taken install_taken next_from next_turn older_with current_with after_taken world_turn world_turns world_settled_from world_settled world_finished_pieces world_finished_session world_finished sessions_of due_at with_due first_underway due_after_begin due_from stepped_by stepped scheduled run_under turns_under
commit_across_install = ((λ key first. refl), (λ key first. refl))

pub stale_rebuild : StaleRebuild
unfolding inorder map_tree size height side_by gap_side turn_at past onward path rooted halved balanced one_if below holds placed place number new_item one_more map_item values change_at add_item one_less has_rows live_items live is_dead gone drop_item is_sparse swept may_stand climbed climb limit is_heavy counted nearest_heavy child with_child tree_at put_at sizes_along graft balanced_at scapegoat_way settled_tree insert_tree by_side change_tree first_or without_first joined remove_tree empty_column items_of whole add taken_out shrunk pruned fewer drop_one lay apply apply_all map_column map_operation empty_store empty_shelf map_row map_store map_kept map_shelf ranks_by kept_of shelf_of operate follow kept_after operated then_steps all_steps adds drops only rank_in places_by map_steps here_or without of_row ranks_of cells_of kept_without rows_without with_kept insert_row shelf_without delete_row delete_rows delete_steps lay_column insert_cells delete_number delete_numbers lay_store op_on ops_on install_on columns_in rows_in placed_op placed_ops numbers_of cell_value column_values column_at op_table written_at stamped_by laid_at meets passes in_front insert_ordered ordered by_column in_order first_of chosen selected values_at first_value answer_about kept_unless without_row without_rows empty_table empty_database table_of with_table plain_is_full with_plain_row table_without value_at left_by plain_inserted asked outcome_of table_named is_op with_plain_op started after_outcome after_act after_acts trial_of work_of wish_after wish_of unstamped number_of version_of initial position_at with_position moved with_done begun begin_turn stamps_of names this_or lowest_newer merged stamped committed_unless commit_turn last_change installed_unless install_turn turn_from take_turn take_turns settled_from settled unbegun finished_pieces finished_session finished_sessions session_numbers inserted_numbers value_of nonce_at constants_in constants_with column_numbered values_from constants_all constants_named cells_from exchanged value_in onward_by walk_log store_at walks_log cell_at rows_about rows_out ops_about plain_row plain_table plain_database tried_on ops_of tried_by act_tried unless_stopped acts_tried act_log acts_log session_setting widths_of first_world world_with_ops world_with_install new_session first_run world_at session_at with_session closing closing_by begin_log begin_taken having_said commit_taken install_taken next_from next_turn older_with current_with after_taken world_turn world_turns world_settled_from world_settled world_finished_pieces world_finished_session world_finished sessions_of due_at with_due first_underway due_after_begin due_from stepped_by stepped scheduled run_under turns_under
stale_rebuild = ((λ key first. refl), (λ key first. refl))
