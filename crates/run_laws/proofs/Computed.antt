-- The worked examples, computed.
use Rattle.std.proofs.Common.{refl, ℕ, Bool, true, false, List}
use Rattle.tree_model.specs.Trees.{inorder, map_tree, size, height, side_by, gap_side, turn_at, past, onward, path, rooted, halved, balanced}
use Rattle.tree_model.specs.Places.{one_if, below, holds, placed, place, number}
use Rattle.tree_model.specs.Items.{new_item, one_more, map_item, values, change_at, add_item, one_less, has_rows, live_items, live, is_dead, gone, drop_item, is_sparse, swept}
use Rattle.tree_model.specs.Balance.{may_stand, climbed, climb, limit, is_heavy, counted, nearest_heavy}
use Rattle.tree_model.specs.Insertion.{child, with_child, tree_at, put_at, sizes_along, graft, balanced_at, scapegoat_way, settled, insert_tree}
use Rattle.tree_model.specs.Removal.{by_side, change_tree, first_or, without_first, joined, remove_tree}
use Rattle.tree_model.specs.Columns.{empty_column, items_of, whole, add, taken_out, shrunk, pruned, fewer, drop_one, lay, apply, apply_all, map_column, map_operation}
use Rattle.tree_model.specs.Sums.{bodies, tag, tagged, tagged_column, blank, origins, through, composed}
use Rattle.tree_model.specs.Carried.{is_origin, is_rank, here_or_next, carried}
use Rattle.path_code.specs.Codes.{bit, spelled, code_within, code_of, side_of, steps}
use Rattle.path_code.specs.Sums.{item_code, unless, moved_codes, added_codes, dropped_codes, sum_by_origins, sum_of}
use Rattle.table_model.specs.Stores.{empty_store, empty_shelf, map_row, map_store, map_kept, map_shelf, ranks_by, kept_of, shelf_of}
use Rattle.table_model.specs.Steps.{operate, follow, kept_after, operated, then_steps, all_steps, adds, drops, only, rank_in, places_by, map_steps}
use Rattle.table_model.specs.Changes.{here_or, without, of_row, ranks_of, cells_of, kept_without, rows_without, with_kept, insert_row, shelf_without, delete_row, delete_rows, delete_steps, lay_column, insert_cells, delete_number, delete_numbers, lay_store}
use Rattle.table_model.specs.Operations.{op_on, ops_on, rank_op_on, rank_ops_on, install_on, rank_install_on, shelf_at, steps_if, op_steps, ops_steps, columns_in, rows_in, placed_op, placed_ops, map_op, map_rank_op}
use Rattle.table_model.specs.Soundness.{numbers_of, kept_numbers, cell_value, column_values, ranks_at, readings_at, column_at}
use Rattle.enc_table.specs.Seen.{no_stamps, new_table, with_shelf, with_stamps, emptied, spent_table}
use Rattle.enc_table.specs.Rows.{bodies_of, item_codes, body_at, code_at, row_code, cells_at, entries_at, index_at}
use Rattle.versions.specs.Databases.{first_database, stamps_at, table_at}
use Rattle.versions.specs.Operations.{rank_op, rank_ops, op_table, written_at, stamped, with_ops, laid_at, with_install}
use Rattle.sql_plan.specs.Bounds.{test_by, ends_above, ends_of, bound_of, as_test}
use Rattle.sql_plan.specs.Plans.{by_code, passing, passing_counts, rows_found, extreme_verb, extreme_found}
use Rattle.server_conn.specs.Connections.{held_on}
use Rattle.server_conn.specs.Checks.{reason_or, first_failing, own, lacks_table, lacks_column, lacks_one, are_of, fits_row, is_full, once_or_twice, constants_of, alone_if, columns_named, is_fresh, checks, refusal}
use Rattle.server_conn.specs.Serving.{step_to, placed_at, come_to, walk_started, stepped_from, stepped, in_front_of_top, found, after_statement, with_op, inserted, code_at_mark, second_of, without_second, tests_of, order_by, verb_by, ask_by, rows_asked, bodies_in, reply_about, without_numbers, changed_by, queried, closed, committed, ended_by, effect, table_in, refused, served_unless, served_idle, serve, began, ended}
use Rattle.workload.specs.Selection.{meets, passes, in_front, insert_ordered, ordered, by_column, in_order, first_of, chosen, selected, values_at, first_value, answer_about, kept_unless, without_row, without_rows}
use Rattle.workload.specs.PlainDatabase.{empty_table, table_of, with_table, is_full as plain_is_full, with_row as with_plain_row, table_without}
use Rattle.workload.specs.Outcome.{value_at, left_by, inserted as plain_inserted, asked, outcome_of}
use Rattle.workload.specs.Transaction.{table_named, is_op, with_op as with_plain_op, started, after_outcome, after_act, work_of}
use Rattle.workload.specs.Validity.{inserted_numbers}
use Rattle.value_cipher.specs.Cipher.{sealed, seal_of, value_of, nonce_at}
use Rattle.proxy.specs.Tasks.{constants_in, constants_with, column_at as column_numbered, values_from, constants_all, constants_of as constants_named, verb_byte, target_byte, order_in, direction_byte, order_byte, order_column_byte, limit_in, column_bytes, test_byte, cond_bytes, asked_of}
use Rattle.proxy.specs.Client.{cells_from}
use Rattle.server_conn.specs.Logs.{Answers, conn_after}
use Rattle.transaction_laws.specs.Walks.{exchanged, value_in, onward_by, walk_log}
use Rattle.transaction_laws.specs.Constants.{store_at, walks_log}
use Rattle.transaction_laws.specs.Queries.{cell_at, rows_about, bodies_of as bodies_sealed, reply_with, query_request, rows_out, ops_about}
use Rattle.transaction_laws.specs.Transactions.{plain_row, plain_table, plain_database, tried_on, ops_of, tried_by, act_tried, unless_stopped, acts_tried, request_of, reply_of, act_log, acts_log, kept_op, kept_ops, held_in, conn_by}
use Rattle.versions.specs.Changes.{is_nothing, leaves_codes, listed, column_changes, table_changes, ops_changes, install_changes}
use Rattle.workload.specs.Run.{number_of, version_of, unstamped, initial, position_at, with_position, moved as plain_moved, with_done, begun as plain_begun, begin_turn, stamps_of, names, this_or, lowest_newer, merged, stamped as plain_stamped, committed_unless, commit_turn, last_change, installed_unless, install_turn, turn_from, take_turn, take_turns, settled_from, settled as plain_settled, unbegun, finished_pieces, finished_session, finished_sessions, session_numbers, run, turns_taken}
use Rattle.workload.specs.Transaction.{after_acts, trial_of, wish_after, wish_of}
use Rattle.workload.specs.PlainDatabase.{empty_database}
use Rattle.run_laws.specs.Worlds.{session_setting, widths_of, first_world, first_version, world_with_ops, world_with_install, column_sums, table_sums, commit_sums, install_sums}
use Rattle.run_laws.specs.WorldRuns.{new_session, first_run, world_at, session_at, with_session, closing, closing_by, begin_log, begin_taken, having_said, commit_taken, install_taken, next_from, next_turn, older_with, current_with, after_taken, world_turn, world_turns, world_settled_from, world_settled, world_finished_pieces, world_finished_session, world_finished, world_run, seen_in, view}
use Rattle.run_laws.specs.Examples.{changes_in, RebuildOnDepth, DropLastDuplicate, FirstCommitWins, RebuildUnderAWalk, CommitAcrossInstall, StaleRebuild, Rollback, TwinForgets}

pub rebuild_on_depth : (key : List ℕ) (same_time : Bool) → RebuildOnDepth key same_time
unfolding sealed seal_of inorder map_tree size height side_by gap_side turn_at past onward path rooted halved balanced one_if below holds placed place number new_item one_more map_item values change_at add_item one_less has_rows live_items live is_dead gone drop_item is_sparse swept may_stand climbed climb limit is_heavy counted nearest_heavy child with_child tree_at put_at sizes_along graft balanced_at scapegoat_way settled insert_tree by_side change_tree first_or without_first joined remove_tree empty_column items_of whole add taken_out shrunk pruned fewer drop_one lay apply apply_all map_column map_operation bodies tag tagged tagged_column blank origins through composed is_origin is_rank here_or_next carried bit spelled code_within code_of side_of steps item_code unless moved_codes added_codes dropped_codes sum_by_origins sum_of empty_store empty_shelf map_row map_store map_kept map_shelf ranks_by kept_of shelf_of operate follow kept_after operated then_steps all_steps adds drops only rank_in places_by map_steps here_or without of_row ranks_of cells_of kept_without rows_without with_kept insert_row shelf_without delete_row delete_rows delete_steps lay_column insert_cells delete_number delete_numbers lay_store op_on ops_on rank_op_on rank_ops_on install_on rank_install_on shelf_at steps_if op_steps ops_steps columns_in rows_in placed_op placed_ops map_op map_rank_op numbers_of kept_numbers cell_value column_values ranks_at readings_at column_at no_stamps new_table with_shelf with_stamps emptied spent_table bodies_of item_codes body_at code_at row_code cells_at entries_at index_at first_database stamps_at table_at rank_op rank_ops op_table written_at stamped with_ops laid_at with_install test_by ends_above ends_of bound_of as_test by_code passing passing_counts rows_found extreme_verb extreme_found held_on reason_or first_failing own lacks_table lacks_column lacks_one are_of fits_row is_full once_or_twice constants_of alone_if columns_named is_fresh checks refusal step_to placed_at come_to walk_started stepped_from stepped in_front_of_top found after_statement with_op inserted code_at_mark second_of without_second tests_of order_by verb_by ask_by rows_asked bodies_in reply_about without_numbers changed_by queried closed committed ended_by effect table_in refused served_unless served_idle serve began ended meets passes in_front insert_ordered ordered by_column in_order first_of chosen selected values_at first_value answer_about kept_unless without_row without_rows empty_table table_of with_table plain_is_full with_plain_row table_without value_at left_by plain_inserted asked outcome_of table_named is_op with_plain_op started after_outcome after_act work_of inserted_numbers value_of nonce_at constants_in constants_with column_numbered values_from constants_all constants_named verb_byte target_byte order_in direction_byte order_byte order_column_byte limit_in column_bytes test_byte cond_bytes asked_of cells_from Answers conn_after exchanged value_in onward_by walk_log store_at walks_log cell_at rows_about bodies_sealed reply_with query_request rows_out ops_about plain_row plain_table plain_database tried_on ops_of tried_by act_tried unless_stopped acts_tried request_of reply_of act_log acts_log kept_op kept_ops held_in conn_by is_nothing leaves_codes listed column_changes table_changes ops_changes install_changes number_of version_of unstamped initial position_at with_position plain_moved with_done plain_begun begin_turn stamps_of names this_or lowest_newer merged plain_stamped committed_unless commit_turn last_change installed_unless install_turn turn_from take_turn take_turns settled_from plain_settled unbegun finished_pieces finished_session finished_sessions session_numbers run turns_taken after_acts trial_of wish_after wish_of empty_database session_setting widths_of first_world first_version world_with_ops world_with_install column_sums table_sums commit_sums install_sums new_session first_run world_at session_at with_session closing closing_by begin_log begin_taken having_said commit_taken install_taken next_from next_turn older_with current_with after_taken world_turn world_turns world_settled_from world_settled world_finished_pieces world_finished_session world_finished world_run seen_in view changes_in
rebuild_on_depth key false = refl
rebuild_on_depth key true = refl

pub drop_last_duplicate : (key : List ℕ) (same_time : Bool) → DropLastDuplicate key same_time
unfolding sealed seal_of inorder map_tree size height side_by gap_side turn_at past onward path rooted halved balanced one_if below holds placed place number new_item one_more map_item values change_at add_item one_less has_rows live_items live is_dead gone drop_item is_sparse swept may_stand climbed climb limit is_heavy counted nearest_heavy child with_child tree_at put_at sizes_along graft balanced_at scapegoat_way settled insert_tree by_side change_tree first_or without_first joined remove_tree empty_column items_of whole add taken_out shrunk pruned fewer drop_one lay apply apply_all map_column map_operation bodies tag tagged tagged_column blank origins through composed is_origin is_rank here_or_next carried bit spelled code_within code_of side_of steps item_code unless moved_codes added_codes dropped_codes sum_by_origins sum_of empty_store empty_shelf map_row map_store map_kept map_shelf ranks_by kept_of shelf_of operate follow kept_after operated then_steps all_steps adds drops only rank_in places_by map_steps here_or without of_row ranks_of cells_of kept_without rows_without with_kept insert_row shelf_without delete_row delete_rows delete_steps lay_column insert_cells delete_number delete_numbers lay_store op_on ops_on rank_op_on rank_ops_on install_on rank_install_on shelf_at steps_if op_steps ops_steps columns_in rows_in placed_op placed_ops map_op map_rank_op numbers_of kept_numbers cell_value column_values ranks_at readings_at column_at no_stamps new_table with_shelf with_stamps emptied spent_table bodies_of item_codes body_at code_at row_code cells_at entries_at index_at first_database stamps_at table_at rank_op rank_ops op_table written_at stamped with_ops laid_at with_install test_by ends_above ends_of bound_of as_test by_code passing passing_counts rows_found extreme_verb extreme_found held_on reason_or first_failing own lacks_table lacks_column lacks_one are_of fits_row is_full once_or_twice constants_of alone_if columns_named is_fresh checks refusal step_to placed_at come_to walk_started stepped_from stepped in_front_of_top found after_statement with_op inserted code_at_mark second_of without_second tests_of order_by verb_by ask_by rows_asked bodies_in reply_about without_numbers changed_by queried closed committed ended_by effect table_in refused served_unless served_idle serve began ended meets passes in_front insert_ordered ordered by_column in_order first_of chosen selected values_at first_value answer_about kept_unless without_row without_rows empty_table table_of with_table plain_is_full with_plain_row table_without value_at left_by plain_inserted asked outcome_of table_named is_op with_plain_op started after_outcome after_act work_of inserted_numbers value_of nonce_at constants_in constants_with column_numbered values_from constants_all constants_named verb_byte target_byte order_in direction_byte order_byte order_column_byte limit_in column_bytes test_byte cond_bytes asked_of cells_from Answers conn_after exchanged value_in onward_by walk_log store_at walks_log cell_at rows_about bodies_sealed reply_with query_request rows_out ops_about plain_row plain_table plain_database tried_on ops_of tried_by act_tried unless_stopped acts_tried request_of reply_of act_log acts_log kept_op kept_ops held_in conn_by is_nothing leaves_codes listed column_changes table_changes ops_changes install_changes number_of version_of unstamped initial position_at with_position plain_moved with_done plain_begun begin_turn stamps_of names this_or lowest_newer merged plain_stamped committed_unless commit_turn last_change installed_unless install_turn turn_from take_turn take_turns settled_from plain_settled unbegun finished_pieces finished_session finished_sessions session_numbers run turns_taken after_acts trial_of wish_after wish_of empty_database session_setting widths_of first_world first_version world_with_ops world_with_install column_sums table_sums commit_sums install_sums new_session first_run world_at session_at with_session closing closing_by begin_log begin_taken having_said commit_taken install_taken next_from next_turn older_with current_with after_taken world_turn world_turns world_settled_from world_settled world_finished_pieces world_finished_session world_finished world_run seen_in view changes_in
drop_last_duplicate key false = record { turns = refl; table = refl }
drop_last_duplicate key true = record { turns = refl; table = refl }

pub first_commit_wins : (key : List ℕ) → FirstCommitWins key
unfolding sealed seal_of inorder map_tree size height side_by gap_side turn_at past onward path rooted halved balanced one_if below holds placed place number new_item one_more map_item values change_at add_item one_less has_rows live_items live is_dead gone drop_item is_sparse swept may_stand climbed climb limit is_heavy counted nearest_heavy child with_child tree_at put_at sizes_along graft balanced_at scapegoat_way settled insert_tree by_side change_tree first_or without_first joined remove_tree empty_column items_of whole add taken_out shrunk pruned fewer drop_one lay apply apply_all map_column map_operation bodies tag tagged tagged_column blank origins through composed is_origin is_rank here_or_next carried bit spelled code_within code_of side_of steps item_code unless moved_codes added_codes dropped_codes sum_by_origins sum_of empty_store empty_shelf map_row map_store map_kept map_shelf ranks_by kept_of shelf_of operate follow kept_after operated then_steps all_steps adds drops only rank_in places_by map_steps here_or without of_row ranks_of cells_of kept_without rows_without with_kept insert_row shelf_without delete_row delete_rows delete_steps lay_column insert_cells delete_number delete_numbers lay_store op_on ops_on rank_op_on rank_ops_on install_on rank_install_on shelf_at steps_if op_steps ops_steps columns_in rows_in placed_op placed_ops map_op map_rank_op numbers_of kept_numbers cell_value column_values ranks_at readings_at column_at no_stamps new_table with_shelf with_stamps emptied spent_table bodies_of item_codes body_at code_at row_code cells_at entries_at index_at first_database stamps_at table_at rank_op rank_ops op_table written_at stamped with_ops laid_at with_install test_by ends_above ends_of bound_of as_test by_code passing passing_counts rows_found extreme_verb extreme_found held_on reason_or first_failing own lacks_table lacks_column lacks_one are_of fits_row is_full once_or_twice constants_of alone_if columns_named is_fresh checks refusal step_to placed_at come_to walk_started stepped_from stepped in_front_of_top found after_statement with_op inserted code_at_mark second_of without_second tests_of order_by verb_by ask_by rows_asked bodies_in reply_about without_numbers changed_by queried closed committed ended_by effect table_in refused served_unless served_idle serve began ended meets passes in_front insert_ordered ordered by_column in_order first_of chosen selected values_at first_value answer_about kept_unless without_row without_rows empty_table table_of with_table plain_is_full with_plain_row table_without value_at left_by plain_inserted asked outcome_of table_named is_op with_plain_op started after_outcome after_act work_of inserted_numbers value_of nonce_at constants_in constants_with column_numbered values_from constants_all constants_named verb_byte target_byte order_in direction_byte order_byte order_column_byte limit_in column_bytes test_byte cond_bytes asked_of cells_from Answers conn_after exchanged value_in onward_by walk_log store_at walks_log cell_at rows_about bodies_sealed reply_with query_request rows_out ops_about plain_row plain_table plain_database tried_on ops_of tried_by act_tried unless_stopped acts_tried request_of reply_of act_log acts_log kept_op kept_ops held_in conn_by is_nothing leaves_codes listed column_changes table_changes ops_changes install_changes number_of version_of unstamped initial position_at with_position plain_moved with_done plain_begun begin_turn stamps_of names this_or lowest_newer merged plain_stamped committed_unless commit_turn last_change installed_unless install_turn turn_from take_turn take_turns settled_from plain_settled unbegun finished_pieces finished_session finished_sessions session_numbers run turns_taken after_acts trial_of wish_after wish_of empty_database session_setting widths_of first_world first_version world_with_ops world_with_install column_sums table_sums commit_sums install_sums new_session first_run world_at session_at with_session closing closing_by begin_log begin_taken having_said commit_taken install_taken next_from next_turn older_with current_with after_taken world_turn world_turns world_settled_from world_settled world_finished_pieces world_finished_session world_finished world_run seen_in view changes_in
first_commit_wins key = record { seen = refl }

pub rebuild_under_a_walk : (key : List ℕ) → RebuildUnderAWalk key
unfolding sealed seal_of inorder map_tree size height side_by gap_side turn_at past onward path rooted halved balanced one_if below holds placed place number new_item one_more map_item values change_at add_item one_less has_rows live_items live is_dead gone drop_item is_sparse swept may_stand climbed climb limit is_heavy counted nearest_heavy child with_child tree_at put_at sizes_along graft balanced_at scapegoat_way settled insert_tree by_side change_tree first_or without_first joined remove_tree empty_column items_of whole add taken_out shrunk pruned fewer drop_one lay apply apply_all map_column map_operation bodies tag tagged tagged_column blank origins through composed is_origin is_rank here_or_next carried bit spelled code_within code_of side_of steps item_code unless moved_codes added_codes dropped_codes sum_by_origins sum_of empty_store empty_shelf map_row map_store map_kept map_shelf ranks_by kept_of shelf_of operate follow kept_after operated then_steps all_steps adds drops only rank_in places_by map_steps here_or without of_row ranks_of cells_of kept_without rows_without with_kept insert_row shelf_without delete_row delete_rows delete_steps lay_column insert_cells delete_number delete_numbers lay_store op_on ops_on rank_op_on rank_ops_on install_on rank_install_on shelf_at steps_if op_steps ops_steps columns_in rows_in placed_op placed_ops map_op map_rank_op numbers_of kept_numbers cell_value column_values ranks_at readings_at column_at no_stamps new_table with_shelf with_stamps emptied spent_table bodies_of item_codes body_at code_at row_code cells_at entries_at index_at first_database stamps_at table_at rank_op rank_ops op_table written_at stamped with_ops laid_at with_install test_by ends_above ends_of bound_of as_test by_code passing passing_counts rows_found extreme_verb extreme_found held_on reason_or first_failing own lacks_table lacks_column lacks_one are_of fits_row is_full once_or_twice constants_of alone_if columns_named is_fresh checks refusal step_to placed_at come_to walk_started stepped_from stepped in_front_of_top found after_statement with_op inserted code_at_mark second_of without_second tests_of order_by verb_by ask_by rows_asked bodies_in reply_about without_numbers changed_by queried closed committed ended_by effect table_in refused served_unless served_idle serve began ended meets passes in_front insert_ordered ordered by_column in_order first_of chosen selected values_at first_value answer_about kept_unless without_row without_rows empty_table table_of with_table plain_is_full with_plain_row table_without value_at left_by plain_inserted asked outcome_of table_named is_op with_plain_op started after_outcome after_act work_of inserted_numbers value_of nonce_at constants_in constants_with column_numbered values_from constants_all constants_named verb_byte target_byte order_in direction_byte order_byte order_column_byte limit_in column_bytes test_byte cond_bytes asked_of cells_from Answers conn_after exchanged value_in onward_by walk_log store_at walks_log cell_at rows_about bodies_sealed reply_with query_request rows_out ops_about plain_row plain_table plain_database tried_on ops_of tried_by act_tried unless_stopped acts_tried request_of reply_of act_log acts_log kept_op kept_ops held_in conn_by is_nothing leaves_codes listed column_changes table_changes ops_changes install_changes number_of version_of unstamped initial position_at with_position plain_moved with_done plain_begun begin_turn stamps_of names this_or lowest_newer merged plain_stamped committed_unless commit_turn last_change installed_unless install_turn turn_from take_turn take_turns settled_from plain_settled unbegun finished_pieces finished_session finished_sessions session_numbers run turns_taken after_acts trial_of wish_after wish_of empty_database session_setting widths_of first_world first_version world_with_ops world_with_install column_sums table_sums commit_sums install_sums new_session first_run world_at session_at with_session closing closing_by begin_log begin_taken having_said commit_taken install_taken next_from next_turn older_with current_with after_taken world_turn world_turns world_settled_from world_settled world_finished_pieces world_finished_session world_finished world_run seen_in view changes_in
rebuild_under_a_walk key = refl

pub commit_across_install : (key : List ℕ) → CommitAcrossInstall key
unfolding sealed seal_of inorder map_tree size height side_by gap_side turn_at past onward path rooted halved balanced one_if below holds placed place number new_item one_more map_item values change_at add_item one_less has_rows live_items live is_dead gone drop_item is_sparse swept may_stand climbed climb limit is_heavy counted nearest_heavy child with_child tree_at put_at sizes_along graft balanced_at scapegoat_way settled insert_tree by_side change_tree first_or without_first joined remove_tree empty_column items_of whole add taken_out shrunk pruned fewer drop_one lay apply apply_all map_column map_operation bodies tag tagged tagged_column blank origins through composed is_origin is_rank here_or_next carried bit spelled code_within code_of side_of steps item_code unless moved_codes added_codes dropped_codes sum_by_origins sum_of empty_store empty_shelf map_row map_store map_kept map_shelf ranks_by kept_of shelf_of operate follow kept_after operated then_steps all_steps adds drops only rank_in places_by map_steps here_or without of_row ranks_of cells_of kept_without rows_without with_kept insert_row shelf_without delete_row delete_rows delete_steps lay_column insert_cells delete_number delete_numbers lay_store op_on ops_on rank_op_on rank_ops_on install_on rank_install_on shelf_at steps_if op_steps ops_steps columns_in rows_in placed_op placed_ops map_op map_rank_op numbers_of kept_numbers cell_value column_values ranks_at readings_at column_at no_stamps new_table with_shelf with_stamps emptied spent_table bodies_of item_codes body_at code_at row_code cells_at entries_at index_at first_database stamps_at table_at rank_op rank_ops op_table written_at stamped with_ops laid_at with_install test_by ends_above ends_of bound_of as_test by_code passing passing_counts rows_found extreme_verb extreme_found held_on reason_or first_failing own lacks_table lacks_column lacks_one are_of fits_row is_full once_or_twice constants_of alone_if columns_named is_fresh checks refusal step_to placed_at come_to walk_started stepped_from stepped in_front_of_top found after_statement with_op inserted code_at_mark second_of without_second tests_of order_by verb_by ask_by rows_asked bodies_in reply_about without_numbers changed_by queried closed committed ended_by effect table_in refused served_unless served_idle serve began ended meets passes in_front insert_ordered ordered by_column in_order first_of chosen selected values_at first_value answer_about kept_unless without_row without_rows empty_table table_of with_table plain_is_full with_plain_row table_without value_at left_by plain_inserted asked outcome_of table_named is_op with_plain_op started after_outcome after_act work_of inserted_numbers value_of nonce_at constants_in constants_with column_numbered values_from constants_all constants_named verb_byte target_byte order_in direction_byte order_byte order_column_byte limit_in column_bytes test_byte cond_bytes asked_of cells_from Answers conn_after exchanged value_in onward_by walk_log store_at walks_log cell_at rows_about bodies_sealed reply_with query_request rows_out ops_about plain_row plain_table plain_database tried_on ops_of tried_by act_tried unless_stopped acts_tried request_of reply_of act_log acts_log kept_op kept_ops held_in conn_by is_nothing leaves_codes listed column_changes table_changes ops_changes install_changes number_of version_of unstamped initial position_at with_position plain_moved with_done plain_begun begin_turn stamps_of names this_or lowest_newer merged plain_stamped committed_unless commit_turn last_change installed_unless install_turn turn_from take_turn take_turns settled_from plain_settled unbegun finished_pieces finished_session finished_sessions session_numbers run turns_taken after_acts trial_of wish_after wish_of empty_database session_setting widths_of first_world first_version world_with_ops world_with_install column_sums table_sums commit_sums install_sums new_session first_run world_at session_at with_session closing closing_by begin_log begin_taken having_said commit_taken install_taken next_from next_turn older_with current_with after_taken world_turn world_turns world_settled_from world_settled world_finished_pieces world_finished_session world_finished world_run seen_in view changes_in
commit_across_install key = refl

pub stale_rebuild : (key : List ℕ) → StaleRebuild key
unfolding sealed seal_of inorder map_tree size height side_by gap_side turn_at past onward path rooted halved balanced one_if below holds placed place number new_item one_more map_item values change_at add_item one_less has_rows live_items live is_dead gone drop_item is_sparse swept may_stand climbed climb limit is_heavy counted nearest_heavy child with_child tree_at put_at sizes_along graft balanced_at scapegoat_way settled insert_tree by_side change_tree first_or without_first joined remove_tree empty_column items_of whole add taken_out shrunk pruned fewer drop_one lay apply apply_all map_column map_operation bodies tag tagged tagged_column blank origins through composed is_origin is_rank here_or_next carried bit spelled code_within code_of side_of steps item_code unless moved_codes added_codes dropped_codes sum_by_origins sum_of empty_store empty_shelf map_row map_store map_kept map_shelf ranks_by kept_of shelf_of operate follow kept_after operated then_steps all_steps adds drops only rank_in places_by map_steps here_or without of_row ranks_of cells_of kept_without rows_without with_kept insert_row shelf_without delete_row delete_rows delete_steps lay_column insert_cells delete_number delete_numbers lay_store op_on ops_on rank_op_on rank_ops_on install_on rank_install_on shelf_at steps_if op_steps ops_steps columns_in rows_in placed_op placed_ops map_op map_rank_op numbers_of kept_numbers cell_value column_values ranks_at readings_at column_at no_stamps new_table with_shelf with_stamps emptied spent_table bodies_of item_codes body_at code_at row_code cells_at entries_at index_at first_database stamps_at table_at rank_op rank_ops op_table written_at stamped with_ops laid_at with_install test_by ends_above ends_of bound_of as_test by_code passing passing_counts rows_found extreme_verb extreme_found held_on reason_or first_failing own lacks_table lacks_column lacks_one are_of fits_row is_full once_or_twice constants_of alone_if columns_named is_fresh checks refusal step_to placed_at come_to walk_started stepped_from stepped in_front_of_top found after_statement with_op inserted code_at_mark second_of without_second tests_of order_by verb_by ask_by rows_asked bodies_in reply_about without_numbers changed_by queried closed committed ended_by effect table_in refused served_unless served_idle serve began ended meets passes in_front insert_ordered ordered by_column in_order first_of chosen selected values_at first_value answer_about kept_unless without_row without_rows empty_table table_of with_table plain_is_full with_plain_row table_without value_at left_by plain_inserted asked outcome_of table_named is_op with_plain_op started after_outcome after_act work_of inserted_numbers value_of nonce_at constants_in constants_with column_numbered values_from constants_all constants_named verb_byte target_byte order_in direction_byte order_byte order_column_byte limit_in column_bytes test_byte cond_bytes asked_of cells_from Answers conn_after exchanged value_in onward_by walk_log store_at walks_log cell_at rows_about bodies_sealed reply_with query_request rows_out ops_about plain_row plain_table plain_database tried_on ops_of tried_by act_tried unless_stopped acts_tried request_of reply_of act_log acts_log kept_op kept_ops held_in conn_by is_nothing leaves_codes listed column_changes table_changes ops_changes install_changes number_of version_of unstamped initial position_at with_position plain_moved with_done plain_begun begin_turn stamps_of names this_or lowest_newer merged plain_stamped committed_unless commit_turn last_change installed_unless install_turn turn_from take_turn take_turns settled_from plain_settled unbegun finished_pieces finished_session finished_sessions session_numbers run turns_taken after_acts trial_of wish_after wish_of empty_database session_setting widths_of first_world first_version world_with_ops world_with_install column_sums table_sums commit_sums install_sums new_session first_run world_at session_at with_session closing closing_by begin_log begin_taken having_said commit_taken install_taken next_from next_turn older_with current_with after_taken world_turn world_turns world_settled_from world_settled world_finished_pieces world_finished_session world_finished world_run seen_in view changes_in
stale_rebuild key = refl

pub rollback : (key : List ℕ) → Rollback key
unfolding sealed seal_of inorder map_tree size height side_by gap_side turn_at past onward path rooted halved balanced one_if below holds placed place number new_item one_more map_item values change_at add_item one_less has_rows live_items live is_dead gone drop_item is_sparse swept may_stand climbed climb limit is_heavy counted nearest_heavy child with_child tree_at put_at sizes_along graft balanced_at scapegoat_way settled insert_tree by_side change_tree first_or without_first joined remove_tree empty_column items_of whole add taken_out shrunk pruned fewer drop_one lay apply apply_all map_column map_operation bodies tag tagged tagged_column blank origins through composed is_origin is_rank here_or_next carried bit spelled code_within code_of side_of steps item_code unless moved_codes added_codes dropped_codes sum_by_origins sum_of empty_store empty_shelf map_row map_store map_kept map_shelf ranks_by kept_of shelf_of operate follow kept_after operated then_steps all_steps adds drops only rank_in places_by map_steps here_or without of_row ranks_of cells_of kept_without rows_without with_kept insert_row shelf_without delete_row delete_rows delete_steps lay_column insert_cells delete_number delete_numbers lay_store op_on ops_on rank_op_on rank_ops_on install_on rank_install_on shelf_at steps_if op_steps ops_steps columns_in rows_in placed_op placed_ops map_op map_rank_op numbers_of kept_numbers cell_value column_values ranks_at readings_at column_at no_stamps new_table with_shelf with_stamps emptied spent_table bodies_of item_codes body_at code_at row_code cells_at entries_at index_at first_database stamps_at table_at rank_op rank_ops op_table written_at stamped with_ops laid_at with_install test_by ends_above ends_of bound_of as_test by_code passing passing_counts rows_found extreme_verb extreme_found held_on reason_or first_failing own lacks_table lacks_column lacks_one are_of fits_row is_full once_or_twice constants_of alone_if columns_named is_fresh checks refusal step_to placed_at come_to walk_started stepped_from stepped in_front_of_top found after_statement with_op inserted code_at_mark second_of without_second tests_of order_by verb_by ask_by rows_asked bodies_in reply_about without_numbers changed_by queried closed committed ended_by effect table_in refused served_unless served_idle serve began ended meets passes in_front insert_ordered ordered by_column in_order first_of chosen selected values_at first_value answer_about kept_unless without_row without_rows empty_table table_of with_table plain_is_full with_plain_row table_without value_at left_by plain_inserted asked outcome_of table_named is_op with_plain_op started after_outcome after_act work_of inserted_numbers value_of nonce_at constants_in constants_with column_numbered values_from constants_all constants_named verb_byte target_byte order_in direction_byte order_byte order_column_byte limit_in column_bytes test_byte cond_bytes asked_of cells_from Answers conn_after exchanged value_in onward_by walk_log store_at walks_log cell_at rows_about bodies_sealed reply_with query_request rows_out ops_about plain_row plain_table plain_database tried_on ops_of tried_by act_tried unless_stopped acts_tried request_of reply_of act_log acts_log kept_op kept_ops held_in conn_by is_nothing leaves_codes listed column_changes table_changes ops_changes install_changes number_of version_of unstamped initial position_at with_position plain_moved with_done plain_begun begin_turn stamps_of names this_or lowest_newer merged plain_stamped committed_unless commit_turn last_change installed_unless install_turn turn_from take_turn take_turns settled_from plain_settled unbegun finished_pieces finished_session finished_sessions session_numbers run turns_taken after_acts trial_of wish_after wish_of empty_database session_setting widths_of first_world first_version world_with_ops world_with_install column_sums table_sums commit_sums install_sums new_session first_run world_at session_at with_session closing closing_by begin_log begin_taken having_said commit_taken install_taken next_from next_turn older_with current_with after_taken world_turn world_turns world_settled_from world_settled world_finished_pieces world_finished_session world_finished world_run seen_in view changes_in
rollback key = record { seen = refl }

pub twin_forgets : (key : List ℕ) → TwinForgets key
unfolding sealed seal_of inorder map_tree size height side_by gap_side turn_at past onward path rooted halved balanced one_if below holds placed place number new_item one_more map_item values change_at add_item one_less has_rows live_items live is_dead gone drop_item is_sparse swept may_stand climbed climb limit is_heavy counted nearest_heavy child with_child tree_at put_at sizes_along graft balanced_at scapegoat_way settled insert_tree by_side change_tree first_or without_first joined remove_tree empty_column items_of whole add taken_out shrunk pruned fewer drop_one lay apply apply_all map_column map_operation bodies tag tagged tagged_column blank origins through composed is_origin is_rank here_or_next carried bit spelled code_within code_of side_of steps item_code unless moved_codes added_codes dropped_codes sum_by_origins sum_of empty_store empty_shelf map_row map_store map_kept map_shelf ranks_by kept_of shelf_of operate follow kept_after operated then_steps all_steps adds drops only rank_in places_by map_steps here_or without of_row ranks_of cells_of kept_without rows_without with_kept insert_row shelf_without delete_row delete_rows delete_steps lay_column insert_cells delete_number delete_numbers lay_store op_on ops_on rank_op_on rank_ops_on install_on rank_install_on shelf_at steps_if op_steps ops_steps columns_in rows_in placed_op placed_ops map_op map_rank_op numbers_of kept_numbers cell_value column_values ranks_at readings_at column_at no_stamps new_table with_shelf with_stamps emptied spent_table bodies_of item_codes body_at code_at row_code cells_at entries_at index_at first_database stamps_at table_at rank_op rank_ops op_table written_at stamped with_ops laid_at with_install test_by ends_above ends_of bound_of as_test by_code passing passing_counts rows_found extreme_verb extreme_found held_on reason_or first_failing own lacks_table lacks_column lacks_one are_of fits_row is_full once_or_twice constants_of alone_if columns_named is_fresh checks refusal step_to placed_at come_to walk_started stepped_from stepped in_front_of_top found after_statement with_op inserted code_at_mark second_of without_second tests_of order_by verb_by ask_by rows_asked bodies_in reply_about without_numbers changed_by queried closed committed ended_by effect table_in refused served_unless served_idle serve began ended meets passes in_front insert_ordered ordered by_column in_order first_of chosen selected values_at first_value answer_about kept_unless without_row without_rows empty_table table_of with_table plain_is_full with_plain_row table_without value_at left_by plain_inserted asked outcome_of table_named is_op with_plain_op started after_outcome after_act work_of inserted_numbers value_of nonce_at constants_in constants_with column_numbered values_from constants_all constants_named verb_byte target_byte order_in direction_byte order_byte order_column_byte limit_in column_bytes test_byte cond_bytes asked_of cells_from Answers conn_after exchanged value_in onward_by walk_log store_at walks_log cell_at rows_about bodies_sealed reply_with query_request rows_out ops_about plain_row plain_table plain_database tried_on ops_of tried_by act_tried unless_stopped acts_tried request_of reply_of act_log acts_log kept_op kept_ops held_in conn_by is_nothing leaves_codes listed column_changes table_changes ops_changes install_changes number_of version_of unstamped initial position_at with_position plain_moved with_done plain_begun begin_turn stamps_of names this_or lowest_newer merged plain_stamped committed_unless commit_turn last_change installed_unless install_turn turn_from take_turn take_turns settled_from plain_settled unbegun finished_pieces finished_session finished_sessions session_numbers run turns_taken after_acts trial_of wish_after wish_of empty_database session_setting widths_of first_world first_version world_with_ops world_with_install column_sums table_sums commit_sums install_sums new_session first_run world_at session_at with_session closing closing_by begin_log begin_taken having_said commit_taken install_taken next_from next_turn older_with current_with after_taken world_turn world_turns world_settled_from world_settled world_finished_pieces world_finished_session world_finished world_run seen_in view changes_in
twin_forgets key = record { same_time = refl; same_time_other = refl; ordinary = refl; ordinary_other = refl }
