use Rattle.std.proofs.Common.{refl}
use Rattle.workload.specs.PlainDatabase.{empty_table, empty_database, table_of, with_table, is_full, with_row, table_without}
use Rattle.workload.specs.Selection.{meets, passes, in_front, insert_ordered, ordered, by_column, in_order, first_of, chosen, selected, values_at, first_value, answer_about, kept_unless, without_row, without_rows}
use Rattle.workload.specs.Outcome.{value_at, left_by, inserted, asked, outcome_of}
use Rattle.workload.specs.Transaction.{table_named, is_op, with_op, started, after_outcome, after_act, after_acts, trial_of, work_of, wish_after, wish_of}
use Rattle.workload.specs.Run.{number_of, unstamped, initial, position_at, with_position, moved, with_done, begun, begin_turn, stamps_of, names, this_or, lowest_newer, merged, stamped, committed_unless, commit_turn, last_change, installed_unless, install_turn, turn_from, take_turn, take_turns, settled_from, settled, unbegun, finished_pieces, finished_session, finished_sessions, session_numbers, run, turns_taken}
use Rattle.workload.specs.History.{number_got, rank_by, rank_of, comes_before, history_of, history}
use Rattle.workload.proofs.examples.worked_examples.Goals as goal

pub returns : goal.returns
unfolding empty_table empty_database table_of with_table is_full with_row kept_unless without_row without_rows table_without meets passes in_front insert_ordered ordered by_column in_order first_of chosen selected value_at values_at first_value answer_about left_by inserted asked outcome_of table_named is_op with_op started after_outcome after_act after_acts trial_of work_of wish_after wish_of number_of unstamped initial position_at with_position moved with_done begun begin_turn stamps_of names this_or lowest_newer merged stamped committed_unless commit_turn last_change installed_unless install_turn turn_from take_turn take_turns settled_from settled unbegun finished_pieces finished_session finished_sessions session_numbers run turns_taken number_got rank_by rank_of comes_before history_of history
returns c = record {
  first_commit_wins = record { turns_are = refl; history_is = refl };
  stale_rebuild = record { turns_are = refl; history_is = refl };
  rollback = record { turns_are = refl; history_is = refl };
  ties_by_row_number = record { turns_are = refl; history_is = refl };
  limit_zero = record { turns_are = refl; history_is = refl };
  commit_across_install = record { turns_are = refl; history_is = refl };
  empty_table = record { turns_are = refl; history_is = refl };
  extreme_values = record { turns_are = refl; history_is = refl };
}
