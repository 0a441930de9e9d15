use Rattle.std.proofs.Common.{get_or}
use Rattle.std.proofs.lemmas.List.{get_or_default}
use Rattle.path_code.specs.declared.moves.Recode.{Recode}
use Rattle.report.specs.ViewText.{map_line}
use Rattle.report.proofs.Appends.{all_pieces, more_pieces}
use Rattle.report.proofs.changes.push_recodes.Goals as goal

abbrev no_recode : Recode
no_recode = record { old = 0; new = 0 }

pub moved-preserved : goal.moved-preserved
moved-preserved c =
    let recode : Recode = get_or c.args.moved.now c.moved.recode-index no_recode in
    more_pieces map_line c.moved.text.items c.push_recode.new.text.items _ c.args.moved.now c.moved.recode-index recode c.moved-test.true
    (get_or_default c.args.moved.now c.moved.recode-index no_recode recode c.moved-test.true)
    c.in_ok-push_recode.ensures
    c.moved.invariant

pub returns : goal.returns
returns c = all_pieces map_line c.moved.text.items _ c.args.moved.now c.moved.recode-index c.moved-test.false c.moved.invariant
