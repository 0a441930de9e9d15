use Rattle.code_changes.proofs.After.{are_images}
use Rattle.code_changes.proofs.laws.images_are_applied.Goals as goal

pub returns : goal.returns
returns c = are_images
