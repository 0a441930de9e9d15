-- What builders give, put together.
use Rattle.std.proofs.Common.{◌≡◌, ℕ, suc, ◌+◌, ◌/◌, ◌<◌, List, [], ◌∷◌, ◌++◌, length, take, drop, get_or, map, Option, Some, None, refl, ap, ap₂, ◌∙◌, sym, subst, arith, append_assoc}
use Rattle.std.proofs.lemmas.List.{take-map, drop-map, length-map, map-append}
use Rattle.std.proofs.Math.ListN.{get_or-map}
use Rattle.tree_model.specs.Trees.{Tree, leaf, node, inorder, balanced, size}
use Rattle.tree_model.specs.Items.{Item}
use Rattle.tree_model.proofs.Halves.{balanced-at_half, balanced-nil, size-balanced}
use Rattle.mope_base.specs.declared.body.Body.{Body}
use Rattle.ope_tree.specs.declared.nodes.Entry.{Entry}
use Rattle.ope_tree.specs.declared.nodes.Node.{Node}
use Rattle.ope_tree.specs.Nodes.{item_of, items_of_entries, tree_by, tree_of, IsLink, IsOlder}
use Rattle.ope_tree.proofs.Reaching.{reach}
use Rattle.ope_tree.specs.Built.{Extends, IsBuilt}
use Rattle.ope_tree.proofs.Links.{tree_by-newest, tree_by-extended, extends_itself, extends_by_one, extends_twice}

pub tree_by-none : {A : Type 0} (f : ℕ → Node → A) (nodes : List Node) → tree_by f nodes None ≡ leaf
unfolding tree_by
tree_by-none f [] = refl
tree_by-none f (n ∷ older) = refl

-- a child's reach is smaller than its parent's
pub reach-older : (at : ℕ) (link : Option ℕ) → IsOlder at link → reach link < suc at
unfolding IsOlder
reach-older at None h = omega arith
reach-older at (Some child) h = omega arith

-- no item
pub built_nothing : (nodes : List Node) (t : Tree (Item Body)) → t ≡ leaf → IsBuilt nodes nodes None t
unfolding IsLink
built_nothing nodes t e = record {
  extends = extends_itself nodes;
  is_link = tt;
  names = tree_by-none (λ at n. item_of n.entry) nodes ∙ sym e;
}

-- nothing new
pub built_before : (nodes : List Node) (link : Option ℕ) → IsLink nodes link → IsBuilt nodes nodes link (tree_of nodes link)
built_before nodes link h = record { extends = extends_itself nodes; is_link = h; names = refl }

-- one node more
pub built_node : (older newer : List Node) (n : Node) (at : ℕ) → newer ≡ n ∷ older → at ≡ length older → IsBuilt older newer (Some at) (node (tree_of older n.left) (item_of n.entry) (tree_of older n.right))
unfolding IsLink
built_node older newer n at e number =
    let P : List Node → Type 0 = λ nodes. IsBuilt older nodes (Some at) (node (tree_of older n.left) (item_of n.entry) (tree_of older n.right)) in
    let here : IsBuilt older (n ∷ older) (Some at) (node (tree_of older n.left) (item_of n.entry) (tree_of older n.right)) = record {
      extends = extends_by_one n older;
      is_link = omega arith;
      names = tree_by-newest (λ at n. item_of n.entry) n older at number;
    } in
    subst P (sym e) here

pub built_same : (older newer : List Node) (link : Option ℕ) (t u : Tree (Item Body)) → t ≡ u → IsBuilt older newer link t → IsBuilt older newer link u
built_same older newer link t u e b = record { extends = b.extends; is_link = b.is_link; names = b.names ∙ e }

-- over nodes that were built before
pub built_after : (a b c : List Node) (link : Option ℕ) (t : Tree (Item Body)) → Extends a b → IsBuilt b c link t → IsBuilt a c link t
built_after a b c link t e built = record { extends = extends_twice a b c e built.extends; is_link = built.is_link; names = built.names }

-- a left tree, then a right tree, then the node over both
pub built_over : (a b c d : List Node) (left right link : Option ℕ) (x : Item Body) (l r : Tree (Item Body)) → IsBuilt a b left l → IsBuilt b c right r → IsBuilt c d link (node (tree_of c left) x (tree_of c right)) → IsBuilt a d link (node l x r)
built_over a b c d left right link x l r bl br over =
    let still : tree_of c left ≡ l = tree_by-extended (λ at n. item_of n.entry) b c left br.extends bl.is_link ∙ bl.names in
    built_same a d link (node (tree_of c left) x (tree_of c right)) (node l x r) (ap₂ (λ (s t : Tree (Item Body)). node s x t) still br.names)
    (built_after a c d link (node (tree_of c left) x (tree_of c right)) (extends_twice a b c bl.extends br.extends) over)

-- the balanced tree of entries, from those of the halves beside the middle one
pub balanced_entries : (entries front back : List Entry) (half : ℕ) (middle d : Entry) → 0 < length entries → half ≡ length entries / 2 → front ≡ take half entries → back ≡ drop (half + 1) entries → middle ≡ get_or entries half d → node (balanced (items_of_entries front)) (item_of middle) (balanced (items_of_entries back)) ≡ balanced (items_of_entries entries)
unfolding items_of_entries
balanced_entries entries front back half middle d h e ef eb em =
    let items = map item_of entries in
    let many : length items ≡ length entries = length-map entries item_of in
    let halves : half ≡ length items / 2 = e ∙ ap (λ (n : ℕ). n / 2) (sym many) in
    let next : half + 1 ≡ suc half = omega arith in
    let left : map item_of front ≡ take (length items / 2) items = ap (λ (xs : List Entry). map item_of xs) ef ∙ sym (take-map item_of half entries) ∙ ap (λ (n : ℕ). take n items) halves in
    let right : map item_of back ≡ drop (suc (length items / 2)) items = ap (λ (xs : List Entry). map item_of xs) (eb ∙ ap (λ (n : ℕ). drop n entries) next) ∙ sym (drop-map item_of (suc half) entries) ∙ ap (λ (n : ℕ). drop (suc n) items) halves in
    let here : item_of middle ≡ get_or items (length items / 2) (item_of d) = ap item_of em ∙ sym (get_or-map item_of entries half d) ∙ ap (λ (n : ℕ). get_or items n (item_of d)) halves in
    ap₂ (λ (l r : List (Item Body)). node (balanced l) (item_of middle) (balanced r)) left right
    ∙ ap (λ (x : Item Body). node (balanced (take (length items / 2) items)) x (balanced (drop (suc (length items / 2)) items))) here
    ∙ sym (balanced-at_half items (item_of d) (omega arith))

pub size-entries : (entries : List Entry) → size (balanced (items_of_entries entries)) ≡ length entries
unfolding items_of_entries
size-entries entries = size-balanced (map item_of entries) ∙ length-map entries item_of

pub balanced_no_entries : (entries : List Entry) → length entries ≡ 0 → balanced (items_of_entries entries) ≡ leaf
unfolding items_of_entries
balanced_no_entries [] e = balanced-nil
balanced_no_entries (x ∷ entries) e = absurd (omega arith)

-- the items of a tree after those of its left side and its own
pub collected : (before left all : List Entry) (entry : Entry) (l r t : Tree (Item Body)) → items_of_entries left ≡ items_of_entries before ++ inorder l → items_of_entries all ≡ items_of_entries (left ++ entry ∷ []) ++ inorder r → t ≡ node l (item_of entry) r → items_of_entries all ≡ items_of_entries before ++ inorder t
unfolding items_of_entries inorder
collected before left all entry l r t el ea et =
    ea
    ∙ ap (λ (xs : List (Item Body)). xs ++ inorder r) (map-append item_of left (entry ∷ []) ∙ ap (λ (xs : List (Item Body)). xs ++ item_of entry ∷ []) el)
    ∙ append_assoc (map item_of before ++ inorder l) (item_of entry ∷ []) (inorder r)
    ∙ append_assoc (map item_of before) (inorder l) (item_of entry ∷ inorder r)
    ∙ ap (λ (u : Tree (Item Body)). map item_of before ++ inorder u) (sym et)

-- another left side, and the right one as it was
pub built_left : (a b c : List Node) (left right link : Option ℕ) (x : Item Body) (l : Tree (Item Body)) → IsBuilt a b left l → IsLink a right → IsBuilt b c link (node (tree_of b left) x (tree_of b right)) → IsBuilt a c link (node l x (tree_of a right))
built_left a b c left right link x l bl h over =
    let still : tree_of b right ≡ tree_of a right = tree_by-extended (λ at n. item_of n.entry) a b right bl.extends h in
    built_same a c link (node (tree_of b left) x (tree_of b right)) (node l x (tree_of a right)) (ap₂ (λ (s t : Tree (Item Body)). node s x t) bl.names still)
    (built_after a b c link (node (tree_of b left) x (tree_of b right)) bl.extends over)

-- another right side, and the left one as it was
pub built_right : (a b c : List Node) (left right link : Option ℕ) (x : Item Body) (r : Tree (Item Body)) → IsLink a left → IsBuilt a b right r → IsBuilt b c link (node (tree_of b left) x (tree_of b right)) → IsBuilt a c link (node (tree_of a left) x r)
built_right a b c left right link x r h br over =
    let still : tree_of b left ≡ tree_of a left = tree_by-extended (λ at n. item_of n.entry) a b left br.extends h in
    built_same a c link (node (tree_of b left) x (tree_of b right)) (node (tree_of a left) x r) (ap₂ (λ (s t : Tree (Item Body)). node s x t) still br.names)
    (built_after a b c link (node (tree_of b left) x (tree_of b right)) br.extends over)

pub built_left_as : (a b c : List Node) (left right link : Option ℕ) (x : Item Body) (l u : Tree (Item Body)) → IsBuilt a b left l → IsLink a right → IsBuilt b c link (node (tree_of b left) x (tree_of b right)) → u ≡ node l x (tree_of a right) → IsBuilt a c link u
built_left_as a b c left right link x l u bl h over e = built_same a c link (node l x (tree_of a right)) u (sym e) (built_left a b c left right link x l bl h over)

pub built_right_as : (a b c : List Node) (left right link : Option ℕ) (x : Item Body) (r u : Tree (Item Body)) → IsLink a left → IsBuilt a b right r → IsBuilt b c link (node (tree_of b left) x (tree_of b right)) → u ≡ node (tree_of a left) x r → IsBuilt a c link u
built_right_as a b c left right link x r u h br over e = built_same a c link (node (tree_of a left) x r) u (sym e) (built_right a b c left right link x r h br over)

-- the items that were collected into an empty list
pub collected_all : (before entries read : List Entry) (t : Tree (Item Body)) → before ≡ [] → items_of_entries entries ≡ items_of_entries before ++ inorder t → read ≡ entries → items_of_entries read ≡ inorder t
unfolding items_of_entries
collected_all before entries read t e ec er =
    ap (λ (xs : List Entry). map item_of xs) er ∙ ec ∙ ap (λ (xs : List Entry). map item_of xs ++ inorder t) e
