use Rattle.plain_db.proofs.SerialLemmas.{serial}
use Rattle.plain_db.proofs.laws.history_is_serial.Goals as goal

pub returns : goal.returns
returns c = serial
