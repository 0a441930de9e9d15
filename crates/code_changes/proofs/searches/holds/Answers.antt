use Rattle.std.proofs.Common.{◌≡◌, ℕ, List, Result, Ok, Err, is_ok, ◌∙◌, sym}
use Rattle.tree_model.specs.Places.{holds}
use Rattle.code_changes.proofs.Halving.{Held, held_by}
use Rattle.code_changes.proofs.searches.holds.Goals as goal

told : (code : ℕ) (codes : List ℕ) (r : Result ℕ ℕ) → Held code codes r → is_ok r ≡ holds code codes
told code codes (Ok i) held = sym held.2
told code codes (Err i) free = sym free

pub returns : goal.returns
returns c = c.is_ok.ensures.value ∙ told c.args.code c.args.codes.now c.binary_search.result (held_by c.args.codes.now c.args.code c.binary_search.result c.requires c.binary_search.ensures.position)
