-- Each page below an inner node is lower than it.
use Rattle.std.specs.Prelude.{ℕ, ◌≤◌, ◌*◌, ◌+◌, max, List, [], ◌∷◌}
use Rattle.std.proofs.Common.{arith}
use Rattle.cow_pages.specs.declared.pages.Node.{Node}
use Rattle.cow_pages.specs.declared.pages.Node.TheVariants.{Leaf, Inner}
use Rattle.cow_pages.specs.declared.pages.Link.TheDeep.{deep-Node}
use Rattle.cow_pages.specs.Lists.{Below}
use Rattle.cow_pages.specs.Nodes.{IsNode}
use denote.Param.Weighed.{most}

most-below : {A : Type 0} (height : ℕ) (pages : List (ℕ × List A)) → Below height pages → most (λ v. 2 * v.0 + 1 + 1) pages ≤ 2 * height
unfolding Below
most-below height [] low = omega arith
most-below height (page ∷ pages) low = omega (arith, most-below height pages low.1, low.0)

-- no page below a node is as high as it
pub depth-node : (T : _) (height : ℕ) (n : Node T) → IsNode height n → max (deep-Node T n) 0 ≤ 2 * height
depth-node T height (Leaf items) h = omega arith
depth-node T height (Inner links) h = omega (arith, most-below height links.items h.0)
