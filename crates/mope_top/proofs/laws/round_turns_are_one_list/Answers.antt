use Rattle.mope_top.proofs.OneList.{round_turns_are_one_list}
use Rattle.mope_top.proofs.laws.round_turns_are_one_list.Goals as goal

pub returns : goal.returns
returns c = round_turns_are_one_list
