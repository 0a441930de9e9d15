use Rattle.workload_file.proofs.ShapeLemmas.{names_more, names_end}
use Rattle.workload_file.proofs.shapes.put_names.Goals as goal

pub names-preserved : goal.names-preserved
names-preserved c =
    names_more c.names.text.items c.put_name.new.text.items _ c.args.names.now c.names.name-index c.name-item.result c.names-test.true c.name-item.is c.in_ok-put_name.ensures c.names.invariant

pub returns : goal.returns
returns c = names_end c.names.text.items _ c.args.names.now c.names.name-index c.names-test.false c.names.invariant
