-- The items of a node, and what holds of each.
use Rattle.std.specs.Prelude.{ℕ, ◌<◌, List, length}
use Rattle.cow_pages.specs.declared.pages.Node.{Node}
use Rattle.cow_pages.specs.declared.pages.Node.TheVariants.{Leaf, Inner}
use Rattle.cow_pages.specs.Lists.{flat, Below}

-- its items in order
abbrev pub items_of : {A : Type 0} → Node A → List A
items_of (Leaf items) = items.items
items_of (Inner links) = flat links.items

-- the pages below an inner node are lower than it, and there is one
abbrev pub IsNode : {A : Type 0} → ℕ → Node A → Type 0
IsNode height (Leaf items) = Unit {0}
IsNode height (Inner links) = Below height links.items × (0 < length links.items)
