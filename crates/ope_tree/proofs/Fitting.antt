-- Nodes that fit where those fit that they are made of: with another tree on one side, another item, or in another arena.
use Rattle.std.proofs.Common.{◌≡◌, ℕ, suc, ◌+◌, List, Option, ap, ◌∙◌, sym, arith}
use Rattle.mope_base.specs.declared.body.Body.{Body}
use Rattle.tree_model.specs.Trees.{Tree, size}
use Rattle.tree_model.specs.Items.{Item}
use Rattle.tree_model.proofs.GraftPaths.{size-node}
use Rattle.ope_tree.specs.declared.nodes.Entry.{Entry}
use Rattle.ope_tree.specs.declared.nodes.Node.{Node}
use Rattle.ope_tree.specs.Nodes.{item_of, tree_of, FitsAfter, IsNodeAt}
use Rattle.ope_tree.specs.Built.{IsBuilt}
use Rattle.ope_tree.proofs.Links.{IsLink-extended, tree_by-extended}

-- its size and the number of items before its own tell how many stand after it
pub node-counts : (nodes : List Node) (at : ℕ) (n : Node) → IsNodeAt nodes at n → n.size ≡ n.before + suc (size (tree_of nodes n.right))
node-counts nodes at n is = omega (arith, is.size_is, is.before_is, ap size is.tree ∙ size-node (tree_of nodes n.left) (item_of n.entry) (tree_of nodes n.right))

pub fits_left : (a b : List Node) (at : ℕ) (n : Node) (left : Option ℕ) (count before : ℕ) (entry : Entry) (l : Tree (Item Body)) → IsNodeAt a at n → IsBuilt a b left l → before ≡ size l → count + n.before ≡ n.size + before → FitsAfter b (record { left = left; right = n.right; size = count; before = before; entry = entry })
fits_left a b at n left count before entry l is built many all =
    let still = ap size (tree_by-extended (λ at n. item_of n.entry) a b n.right built.extends is.right) in
    let new = ap size built.names in
    record {
      left = built.is_link;
      right = IsLink-extended a b n.right built.extends is.right;
      size_is = omega (arith, node-counts a at n is, still, new, many, all);
      before_is = many ∙ sym new;
    }

pub fits_right : (a b : List Node) (at : ℕ) (n : Node) (right : Option ℕ) (count : ℕ) (entry : Entry) (r : Tree (Item Body)) → IsNodeAt a at n → IsBuilt a b right r → count ≡ n.before + suc (size r) → FitsAfter b (record { left = n.left; right = right; size = count; before = n.before; entry = entry })
fits_right a b at n right count entry r is built all =
    let still = ap size (tree_by-extended (λ at n. item_of n.entry) a b n.left built.extends is.left) in
    let new = ap size built.names in
    record {
      left = IsLink-extended a b n.left built.extends is.left;
      right = built.is_link;
      size_is = omega (arith, is.before_is, still, new, all);
      before_is = is.before_is ∙ sym still;
    }

pub fits_again : (nodes : List Node) (at : ℕ) (n : Node) (entry : Entry) → IsNodeAt nodes at n → FitsAfter nodes (record { left = n.left; right = n.right; size = n.size; before = n.before; entry = entry })
fits_again nodes at n entry is = record {
  left = is.left;
  right = is.right;
  size_is = omega (arith, node-counts nodes at n is, is.before_is);
  before_is = is.before_is;
}

-- over two trees that were built one after the other
pub fits_both : (a b c : List Node) (left right : Option ℕ) (count before : ℕ) (entry : Entry) (l r : Tree (Item Body)) → IsBuilt a b left l → IsBuilt b c right r → before ≡ size l → count ≡ before + suc (size r) → FitsAfter c (record { left = left; right = right; size = count; before = before; entry = entry })
fits_both a b c left right count before entry l r bl br many all =
    let still = ap size (tree_by-extended (λ at n. item_of n.entry) b c left br.extends bl.is_link ∙ bl.names) in
    let new = ap size br.names in
    record {
      left = IsLink-extended b c left br.extends bl.is_link;
      right = br.is_link;
      size_is = omega (arith, still, new, many, all);
      before_is = many ∙ sym still;
    }
