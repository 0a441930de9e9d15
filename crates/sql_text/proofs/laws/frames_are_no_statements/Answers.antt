use Rattle.sql_text.proofs.FrameVerdicts.{frame_gives_none, frame_spells_none}
use Rattle.sql_text.proofs.laws.frames_are_no_statements.Goals as goal

pub returns : goal.returns
returns c = record { given = frame_gives_none; spelled = frame_spells_none }
