-- The tree with one row fewer at an item, built from a copy of one side.
use Rattle.std.proofs.Common.{◌≡◌, ℕ, suc, ◌+◌, ◌-◌, ◌<◌, List, [], ◌∷◌, Option, Some, None, refl, ap, ap₂, ◌∙◌, sym, arith}
use Rattle.mope_base.specs.declared.body.Body.{Body}
use Rattle.tree_model.specs.Trees.{Tree, leaf, node, inorder, size}
use Rattle.tree_model.specs.Items.{Item, one_less, live}
use Rattle.tree_model.specs.Removal.{change_tree}
use Rattle.tree_model.proofs.Removals.{change-left, change-here, change-right}
use Rattle.ope_tree.specs.declared.nodes.Node.{Node}
use Rattle.ope_tree.specs.Nodes.{tree_of, item_of, IsLink, IsNodeAt}
use Rattle.ope_tree.specs.Built.{IsBuilt}
use Rattle.ope_tree.proofs.Links.{tree_by-extended, extends_itself, extends_twice}
use Rattle.ope_tree.proofs.LinkCases.{no_tree}
use Rattle.ope_tree.proofs.RowDrops.{live-node}

-- ---- no item

change-leaf : (rank : ℕ) → change_tree (one_less {B = Body}) leaf rank ≡ leaf
unfolding change_tree
change-leaf rank = refl

pub built-none : (nodes : List Node) (link : Option ℕ) (rank : ℕ) → link ≡ None → IsLink nodes link → IsBuilt nodes nodes link (change_tree one_less (tree_of nodes link) rank)
built-none nodes link rank e h =
    let empty = no_tree nodes link e in
    record { extends = extends_itself nodes; is_link = h; names = empty ∙ sym (change-leaf rank) ∙ ap (λ (t : Tree (Item Body)). change_tree one_less t rank) (sym empty) }

pub live-none : (t : Tree (Item Body)) (rank : ℕ) → t ≡ leaf → live (inorder t) ≡ live (inorder (change_tree one_less t rank)) + 0
live-none t rank e =
    let same : change_tree one_less t rank ≡ t = ap (λ (u : Tree (Item Body)). change_tree one_less u rank) e ∙ change-leaf rank ∙ sym e in
    omega (arith, ap (λ (u : Tree (Item Body)). live (inorder u)) same)

-- ---- the tree of a node: its item on the left, here, on the right

-- a link to a node, which was read
pub record IsRead (nodes : List Node) (link left right : Option ℕ) (x : Item Body) : Type 0 where
  pub left_in : IsLink nodes left
  pub right_in : IsLink nodes right
  pub tree : tree_of nodes link ≡ node (tree_of nodes left) x (tree_of nodes right)

pub is_read : (nodes : List Node) (link : Option ℕ) (at : ℕ) (n : Node) → link ≡ Some at → IsNodeAt nodes at n → IsRead nodes link n.left n.right (item_of n.entry)
is_read nodes link at n e is = record { left_in = is.left; right_in = is.right; tree = ap (λ (l : Option ℕ). tree_of nodes l) e ∙ is.tree }

pub built-left : (old mid new : List Node) (link left right copy link' : Option ℕ) (x : Item Body) (rank : ℕ) → IsRead old link left right x → rank < size (tree_of old left) → IsBuilt old mid copy (change_tree one_less (tree_of old left) rank) → IsBuilt mid new link' (node (tree_of mid copy) x (tree_of mid right)) → IsBuilt old new link' (change_tree one_less (tree_of old link) rank)
built-left old mid new link left right copy link' x rank is lt a b = record {
  extends = extends_twice old mid new a.extends b.extends;
  is_link = b.is_link;
  names =
      b.names
      ∙ ap₂ (λ (l r : Tree (Item Body)). node l x r) a.names (tree_by-extended (λ (at : ℕ) (n : Node). item_of n.entry) old mid right a.extends is.right_in)
      ∙ sym (change-left one_less (tree_of old left) x (tree_of old right) rank lt)
      ∙ ap (λ (t : Tree (Item Body)). change_tree one_less t rank) (sym is.tree);
}

pub built-right : (old mid new : List Node) (link left right copy link' : Option ℕ) (x : Item Body) (rank before : ℕ) → IsRead old link left right x → before ≡ size (tree_of old left) → before < rank → IsBuilt old mid copy (change_tree one_less (tree_of old right) (rank - before - 1)) → IsBuilt mid new link' (node (tree_of mid left) x (tree_of mid copy)) → IsBuilt old new link' (change_tree one_less (tree_of old link) rank)
built-right old mid new link left right copy link' x rank before is e lt a b =
    let at : rank - before - 1 ≡ rank - suc (size (tree_of old left)) = omega arith in
    record {
      extends = extends_twice old mid new a.extends b.extends;
      is_link = b.is_link;
      names =
          b.names
          ∙ ap₂ (λ (l r : Tree (Item Body)). node l x r) (tree_by-extended (λ (at : ℕ) (n : Node). item_of n.entry) old mid left a.extends is.left_in) (a.names ∙ ap (λ (k : ℕ). change_tree one_less (tree_of old right) k) at)
          ∙ sym (change-right one_less (tree_of old left) x (tree_of old right) rank (omega arith))
          ∙ ap (λ (t : Tree (Item Body)). change_tree one_less t rank) (sym is.tree);
    }

pub built-here : (old new : List Node) (link left right link' : Option ℕ) (x y : Item Body) (rank : ℕ) → IsRead old link left right x → rank ≡ size (tree_of old left) → y ≡ one_less x → IsBuilt old new link' (node (tree_of old left) y (tree_of old right)) → IsBuilt old new link' (change_tree one_less (tree_of old link) rank)
built-here old new link left right link' x y rank is e f b = record {
  extends = b.extends;
  is_link = b.is_link;
  names =
      b.names
      ∙ ap (λ (z : Item Body). node (tree_of old left) z (tree_of old right)) f
      ∙ sym (change-here one_less (tree_of old left) x (tree_of old right) rank e)
      ∙ ap (λ (t : Tree (Item Body)). change_tree one_less t rank) (sym is.tree);
}

-- ---- how many items have rows

changed : (t u : Tree (Item Body)) (rank : ℕ) → t ≡ u → live (inorder (change_tree one_less t rank)) ≡ live (inorder (change_tree one_less u rank))
changed t u rank e = ap (λ (v : Tree (Item Body)). live (inorder (change_tree one_less v rank))) e

counted : (t u : Tree (Item Body)) → t ≡ u → live (inorder t) ≡ live (inorder u)
counted t u e = ap (λ (v : Tree (Item Body)). live (inorder v)) e

pub live-left : (t l : Tree (Item Body)) (x : Item Body) (r : Tree (Item Body)) (rank n : ℕ) → t ≡ node l x r → rank < size l → live (inorder l) ≡ live (inorder (change_tree one_less l rank)) + n → live (inorder t) ≡ live (inorder (change_tree one_less t rank)) + n
live-left t l x r rank n e lt ih =
    let after = changed t (node l x r) rank e ∙ counted (change_tree one_less (node l x r) rank) (node (change_tree one_less l rank) x r) (change-left one_less l x r rank lt) in
    omega (arith, counted t (node l x r) e, after, live-node l x r, live-node (change_tree one_less l rank) x r, ih)

pub live-right : (t l : Tree (Item Body)) (x : Item Body) (r : Tree (Item Body)) (rank before n : ℕ) → t ≡ node l x r → before ≡ size l → before < rank → live (inorder r) ≡ live (inorder (change_tree one_less r (rank - before - 1))) + n → live (inorder t) ≡ live (inorder (change_tree one_less t rank)) + n
live-right t l x r rank before n e f lt ih =
    let at : rank - before - 1 ≡ rank - suc (size l) = omega arith in
    let k = rank - suc (size l) in
    let after = changed t (node l x r) rank e ∙ counted (change_tree one_less (node l x r) rank) (node l x (change_tree one_less r k)) (change-right one_less l x r rank (omega arith)) in
    let here = ap (λ (m : ℕ). live (inorder (change_tree one_less r m))) at in
    omega (arith, counted t (node l x r) e, after, live-node l x r, live-node l x (change_tree one_less r k), here, ih)

pub live-here : (t l : Tree (Item Body)) (x : Item Body) (r : Tree (Item Body)) (rank n : ℕ) → t ≡ node l x r → rank ≡ size l → live (x ∷ []) ≡ live (one_less x ∷ []) + n → live (inorder t) ≡ live (inorder (change_tree one_less t rank)) + n
live-here t l x r rank n e f one =
    let after = changed t (node l x r) rank e ∙ counted (change_tree one_less (node l x r) rank) (node l (one_less x) r) (change-here one_less l x r rank f) in
    omega (arith, counted t (node l x r) e, after, live-node l x r, live-node l (one_less x) r, one)
