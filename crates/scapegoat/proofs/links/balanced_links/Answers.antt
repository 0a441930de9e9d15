use Rattle.std.proofs.Common.{ap, ◌∙◌, ◌++◌}
use Rattle.std.specs.List.{range_with_len}
use Rattle.tree_model.specs.Trees.{balanced}
use Rattle.scapegoat.specs.Links.{links_in, links_of}
use Rattle.scapegoat.proofs.links.balanced_links.Goals as goal

pub returns : goal.returns
unfolding links_of
returns c = c.in_ok-push_links.ensures ∙ ap (λ xs. xs ++ links_in (balanced (range_with_len 0 c.args.n))) c.new-links.ensures.items
