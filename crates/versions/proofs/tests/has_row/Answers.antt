use Rattle.std.proofs.Common.{◌∙◌, sym}
use Rattle.table_model.specs.Soundness.{kept_numbers}
use Rattle.versions.proofs.Trying.{some-held}
use Rattle.versions.proofs.tests.has_row.Goals as goal

pub returns : goal.returns
returns c = λ h. some-held (kept_numbers c.args.table.now.shelf.kept) c.args.row c.position.result c.position.ensures (sym c.is_some.ensures ∙ h)
