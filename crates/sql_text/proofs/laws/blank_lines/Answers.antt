use Rattle.sql_text.proofs.BlankLines.{blank_has_none, none_is_blank, blank_no_frame, blank_no_statement}
use Rattle.sql_text.proofs.laws.blank_lines.Goals as goal

pub returns : goal.returns
returns c = record { tokens = λ line. (blank_has_none line, none_is_blank line); frame = blank_no_frame; statement = blank_no_statement }
