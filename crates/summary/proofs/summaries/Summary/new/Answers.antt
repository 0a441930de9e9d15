use Rattle.summary.proofs.Emptiness.{all_empty, empty_normal}
use Rattle.summary.proofs.summaries.Summary.new.Goals as goal

pub invariant_of-result : goal.invariant_of-result
invariant_of-result c = empty_normal c.new.result.items c.new-2.result.items c.new-3.result.items c.new.ensures.items c.new-2.ensures.items c.new-3.ensures.items

pub returns : goal.returns
returns c = all_empty c.new.result.items c.new-2.result.items c.new-3.result.items c.new.ensures.items c.new-2.ensures.items c.new-3.ensures.items
