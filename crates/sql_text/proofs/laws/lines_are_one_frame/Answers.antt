use Rattle.sql_text.proofs.FrameVerdicts.{one_frame}
use Rattle.sql_text.proofs.laws.lines_are_one_frame.Goals as goal

pub returns : goal.returns
returns c = one_frame
