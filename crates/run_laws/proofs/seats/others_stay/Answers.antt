use Rattle.run_laws.proofs.Staying.{others_stay}
use Rattle.run_laws.proofs.seats.others_stay.Goals as goal

pub returns : goal.returns
returns c = others_stay
