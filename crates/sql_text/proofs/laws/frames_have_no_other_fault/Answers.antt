use Rattle.sql_text.proofs.FrameVerdicts.{frame_fault}
use Rattle.sql_text.proofs.laws.frames_have_no_other_fault.Goals as goal

pub returns : goal.returns
returns c = frame_fault
