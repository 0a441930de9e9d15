use Rattle.std.proofs.Common.{rules}
use Rattle.std.proofs.Common.{◌∙◌, ◌∷◌, ap, Some}
use Rattle.atomic_table.specs.Table.{rest}
use Rattle.turn_book.proofs.Turning.{passes_on}
use Rattle.turn_book.proofs.steps.put_back.Goals as goal

pub fetch_add-requires : goal.fetch_add-requires
fetch_add-requires g c = let moved = c.exchange.ensures.3 in (
  search rules,
  search rules,
  passes_on _ _ _ _ _ _ c.requires.turn.0 _ c.args.value (ap (λ m. m.0.stage) moved ∙ c.requires.turn.1) (ap (λ m. m.0.origin) moved ∙ c.requires.origin)
      (ap (λ m. m.1) moved ∙ ap (λ l. (0, Some c.args.value) ∷ rest l) c.requires.out),
)
