use Rattle.mope_top.proofs.OneList.{schedule_gives_one_list}
use Rattle.mope_top.proofs.laws.schedule_gives_one_list.Goals as goal

pub returns : goal.returns
returns c = schedule_gives_one_list
