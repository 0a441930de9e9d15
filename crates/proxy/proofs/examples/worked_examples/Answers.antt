use Rattle.std.proofs.Common.{refl, List, ℕ, eqb, ltb}
use Rattle.value_cipher.specs.Cipher.{sealed, value_of, nonce_at, seal_of, unseal_of}
use Rattle.value_cipher.proofs.CipherLemmas.{unseal_of-seal_of}
use Rattle.walk_proto.specs.Rules.{is_rows, is_ended, is_no}
use Rattle.workload.specs.Run.{names}
use Rattle.workload.specs.Transaction.{table_named}
use Rattle.proxy.specs.Tasks.{constants_in, constants_with, constants_all, column_at, values_from, constants_of, does, looks_then, act_then, acts_then, acts_of, last_task, tasks_of, verb_byte, target_byte, order_in, direction_byte, order_byte, order_column_byte, limit_in, column_bytes, test_byte, cond_bytes, asked_of}
use Rattle.proxy.specs.Client.{taking_up, starts, step_by, step_for, cells_from, request_for, first_request, wants, answering, ending, sealing, stop_below, first_value, rows_answer, count_answer, answer_in, with_answer, closed_by, end_told, opened_by, led_by, put_by, ended_by, heard_by, heard_at, hears}
use Rattle.proxy.specs.Allowed.{is_spelled, may_lead_on, is_begin, is_commit_end, is_end, is_install_end, fits_rows, fits_count, opens_with, leads_with, puts_with, answers_with, closes_with, rebuilds_with, fits_task, fits_first, allowed}
use Rattle.proxy.specs.Talk.{Talk, AllAllowed, client_after, transactions}
use Rattle.proxy.proofs.examples.worked_examples.Goals as goal

pub returns-clause-insert_then_count : goal.returns-clause-insert_then_count
unfolding sealed value_of nonce_at is_rows is_ended is_no names table_named constants_in constants_with constants_all column_at values_from constants_of does looks_then act_then acts_then acts_of last_task tasks_of verb_byte target_byte order_in direction_byte order_byte order_column_byte limit_in column_bytes test_byte cond_bytes asked_of taking_up starts step_by step_for cells_from request_for first_request wants answering ending sealing stop_below first_value rows_answer count_answer answer_in with_answer closed_by end_told opened_by led_by put_by ended_by heard_by heard_at hears is_spelled may_lead_on is_begin is_commit_end is_end is_install_end fits_rows fits_count opens_with leads_with puts_with answers_with closes_with rebuilds_with fits_task fits_first allowed Talk AllAllowed client_after transactions
returns-clause-insert_then_count c key = record {
  talk = (refl, (refl, (refl, (refl, (refl, (refl, (rw (unseal_of-seal_of key 0 5) refl, (refl, (rw (unseal_of-seal_of key 0 5) refl, (refl, (refl, tt)))))))))));
  allows = (refl, (refl, (refl, (refl, (refl, (refl, (refl, (refl, (refl, (refl, (refl, tt)))))))))));
  all_ended = refl;
  gives = refl;
}

pub returns-clause-full_table : goal.returns-clause-full_table
unfolding sealed value_of nonce_at is_rows is_ended is_no names table_named constants_in constants_with constants_all column_at values_from constants_of does looks_then act_then acts_then acts_of last_task tasks_of taking_up starts step_by step_for cells_from request_for first_request wants answering ending sealing closed_by end_told opened_by led_by put_by ended_by heard_by heard_at hears is_spelled may_lead_on is_begin is_end opens_with leads_with puts_with closes_with fits_task fits_first allowed Talk AllAllowed client_after transactions
returns-clause-full_table c key = record {
  talk = (refl, (refl, (refl, (refl, (refl, tt)))));
  allows = (refl, (refl, (refl, (refl, (refl, tt)))));
  all_ended = refl;
  gives = refl;
}

pub returns-clause-rolled_back : goal.returns-clause-rolled_back
unfolding sealed value_of nonce_at is_rows is_ended is_no names table_named constants_in constants_with constants_all column_at values_from constants_of does looks_then act_then acts_then acts_of last_task tasks_of taking_up starts step_by step_for cells_from request_for first_request wants answering ending sealing stop_below closed_by end_told opened_by led_by put_by ended_by heard_by heard_at hears is_spelled may_lead_on is_begin is_end opens_with leads_with puts_with closes_with fits_task fits_first allowed Talk AllAllowed client_after transactions
returns-clause-rolled_back c key = record {
  talk = (refl, (refl, (refl, (refl, (rw (unseal_of-seal_of key 0 5) refl, (refl, (refl, tt)))))));
  allows = (refl, (refl, (refl, (refl, (refl, (refl, (refl, tt)))))));
  all_ended = refl;
  gives = refl;
}

pub returns-clause-rebuilds : goal.returns-clause-rebuilds
unfolding is_ended acts_then acts_of last_task tasks_of taking_up starts request_for first_request wants ending closed_by end_told opened_by ended_by heard_by heard_at hears is_spelled is_begin is_install_end opens_with rebuilds_with fits_task fits_first allowed Talk AllAllowed client_after transactions
returns-clause-rebuilds c key = record {
  talk = (refl, (refl, (refl, (refl, tt))));
  allows = (refl, (refl, (refl, (refl, tt))));
  all_ended = refl;
  gives = refl;
}
