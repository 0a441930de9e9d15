use Rattle.std.proofs.Common.{◌∙◌, sym}
use Rattle.column_index.proofs.Points.{put-at}
use Rattle.column_index.proofs.placing.put_entry.Goals as goal

pub returns-in-Ok : goal.returns-in-Ok
returns-in-Ok c =
    c.in-Ok.ensures.ok ∙ sym (put-at c.args.entry c.args.entries.now c.place_of-place.result c.place_of-place.ensures.bound c.place_of-place.ensures.point c.requires.other)
