use Rattle.std.proofs.Common.{◌∙◌, ap, sym}
use Rattle.sql_text.proofs.Sizes.{select_ninth}
use Rattle.sql_text.specs.Grammar.{ninth, ninth_select}
use Rattle.sql_text.proofs.ninth.ninth.Goals as goal

pub returns-in-Select : goal.returns-in-Select
returns-in-Select c = c.ninth_of_select.ensures ∙ ap (λ x. ninth_select c.in-Select.what x) c.as_slice-in-Select.ensures ∙ select_ninth _ _ _ _ _ ∙ ap (λ s. ninth s) (sym c.in-Select.is)
