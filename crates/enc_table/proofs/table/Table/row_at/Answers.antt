-- The numbers of the shelf's rows are the stored ones.
use Rattle.std.proofs.Common.{◌≡◌, ℕ, List, ap, ◌∙◌}
use Rattle.std.specs.Prelude.{slice_get}
use Rattle.enc_table.proofs.TableSeen.{numbers-seen}
use Rattle.enc_table.proofs.table.Table.row_at.Goals as goal

pub returns : goal.returns
returns c = c.copied.ensures ∙ c.get.ensures ∙ ap (λ (ns : List ℕ). slice_get ns c.args.position) (numbers-seen _ _ _ _ _ _ _ _ c.self.invariant c.self.view_is)
