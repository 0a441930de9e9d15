use Rattle.std.proofs.Common.{◌∙◌, ap, get_or}
use Rattle.std.proofs.lemmas.List.{get_or_read}
use Rattle.proxy.specs.Standing.{piece_at, no_piece}
use Rattle.proxy.proofs.dialogue.piece_in.Goals as goal

pub returns : goal.returns
unfolding piece_at
returns c =
    get_or_read c.args.script.now c.args.place c.index-as_slice-place.result c.requires
    (c.index-as_slice-place.is ∙ ap (λ l. get_or l c.args.place c.index-as_slice-place.result) c.as_slice.ensures) no_piece
