-- Links and the trees that they name, while the arena grows.
use Rattle.std.proofs.Common.{◌≡◌, ℕ, ◌+◌, ◌<◌, List, [], ◌∷◌, ◌++◌, length, reverse, take, drop, get_or, Option, Some, None, Result, Ok, Err, OnOk, OnErr, refl, ap, ap₂, ◌∙◌, sym, subst, inl, inr, arith, eq-eqb, append_assoc}
use Rattle.std.proofs.lemmas.Bool.{cases_eq, ne_eqb}
use Rattle.std.proofs.lemmas.List.{length-reverse, reverse-reverse, reverse-append, get_or-take, get_or-drop}
use Rattle.std.proofs.Math.Seq.{get_or-append_seam}
use Rattle.std.proofs.Math.ListN.{get_or-append}
use Rattle.tree_model.specs.Trees.{Tree, node, size}
use Rattle.tree_model.specs.Items.{Item}
use Rattle.mope_base.specs.declared.body.Body.{Body}
use Rattle.ope_tree.specs.declared.nodes.Node.{Node}
use Rattle.ope_tree.specs.Nodes.{item_of, newest, tree_by, IsLink, FitsAfter, Fits, IsOlder, IsNodeAt}
use Rattle.ope_tree.specs.Built.{Extends}

-- ---- one node more

pub tree_by-newest : {A : Type 0} (f : ℕ → Node → A) (n : Node) (older : List Node) (at : ℕ) → at ≡ length older → tree_by f (n ∷ older) (Some at) ≡ node (tree_by f older n.left) (f at n) (tree_by f older n.right)
unfolding tree_by newest
tree_by-newest f n older at e = rw (eq-eqb at (length older) e) refl

pub tree_by-older : {A : Type 0} (f : ℕ → Node → A) (n : Node) (older : List Node) (link : Option ℕ) → IsLink older link → tree_by f (n ∷ older) link ≡ tree_by f older link
unfolding tree_by newest IsLink
tree_by-older f n [] None h = refl
tree_by-older f n (m ∷ older) None h = refl
tree_by-older f n older (Some at) h =
    let apart : at ≡ length older → ⊥ = λ e. omega arith in
    rw (ne_eqb at (length older) apart) refl

pub IsLink-older : (n : Node) (older : List Node) (link : Option ℕ) → IsLink older link → IsLink (n ∷ older) link
unfolding IsLink
IsLink-older n older None h = tt
IsLink-older n older (Some at) h = omega arith

-- ---- any number of nodes more

pub tree_by-further : {A : Type 0} (f : ℕ → Node → A) (further older : List Node) (link : Option ℕ) → IsLink older link → (tree_by f (further ++ older) link ≡ tree_by f older link) × IsLink (further ++ older) link
tree_by-further f [] older link h = (refl, h)
tree_by-further f (n ∷ further) older link h =
    let rest = tree_by-further f further older link h in
    (tree_by-older f n (further ++ older) link rest.1 ∙ rest.0, IsLink-older n (further ++ older) link rest.1)

pub tree_by-extended : {A : Type 0} (f : ℕ → Node → A) (older newer : List Node) (link : Option ℕ) → Extends older newer → IsLink older link → tree_by f newer link ≡ tree_by f older link
tree_by-extended f older newer link e h = ap (λ (nodes : List Node). tree_by f nodes link) e.grown ∙ (tree_by-further f e.further older link h).0

pub IsLink-extended : (older newer : List Node) (link : Option ℕ) → Extends older newer → IsLink older link → IsLink newer link
IsLink-extended older newer link e h =
    let P : List Node → Type 0 = λ nodes. IsLink nodes link in
    subst P (sym e.grown) (tree_by-further (λ at n. at) e.further older link h).1

pub extends_itself : (nodes : List Node) → Extends nodes nodes
extends_itself nodes = record { further = []; grown = refl }

pub extends_by_one : (n : Node) (older : List Node) → Extends older (n ∷ older)
extends_by_one n older = record { further = n ∷ []; grown = refl }

pub extends_twice : (a b c : List Node) → Extends a b → Extends b c → Extends a c
extends_twice a b c e f = record { further = f.further ++ e.further; grown = f.grown ∙ ap (λ (nodes : List Node). f.further ++ nodes) e.grown ∙ sym (append_assoc f.further e.further a) }

-- ---- what is read at a number

lifted : (n : Node) (older : List Node) (at : ℕ) (m : Node) → at < length older → IsNodeAt older at m → IsNodeAt (n ∷ older) at m
unfolding IsLink
lifted n older at m h is =
    let old_left = tree_by-older (λ (at : ℕ) (n : Node). item_of n.entry) n older m.left is.left in
    let old_right = tree_by-older (λ (at : ℕ) (n : Node). item_of n.entry) n older m.right is.right in
    let old_here = tree_by-older (λ (at : ℕ) (n : Node). item_of n.entry) n older (Some at) h in
    let name_left = tree_by-older (λ (at : ℕ) (n : Node). at) n older m.left is.left in
    let name_right = tree_by-older (λ (at : ℕ) (n : Node). at) n older m.right is.right in
    let name_here = tree_by-older (λ (at : ℕ) (n : Node). at) n older (Some at) h in
    record {
      left = IsLink-older n older m.left is.left;
      right = IsLink-older n older m.right is.right;
      left_older = is.left_older;
      right_older = is.right_older;
      tree = old_here ∙ is.tree ∙ ap₂ (λ (l r : Tree (Item Body)). node l (item_of m.entry) r) (sym old_left) (sym old_right);
      names = name_here ∙ is.names ∙ ap₂ (λ (l r : Tree ℕ). node l at r) (sym name_left) (sym name_right);
      size_is = is.size_is ∙ ap size (sym old_here);
      before_is = is.before_is ∙ ap size (sym old_left);
    }

older_link : (nodes : List Node) (at : ℕ) (link : Option ℕ) → at ≡ length nodes → IsLink nodes link → IsOlder at link
unfolding IsLink IsOlder
older_link nodes at None e h = tt
older_link nodes at (Some child) e h = omega arith

newest-here : (n : Node) (older : List Node) (at : ℕ) → FitsAfter older n → at ≡ length older → IsNodeAt (n ∷ older) at n
unfolding size
newest-here n older at fit e =
    let old_left = tree_by-older (λ (at : ℕ) (n : Node). item_of n.entry) n older n.left fit.left in
    let old_right = tree_by-older (λ (at : ℕ) (n : Node). item_of n.entry) n older n.right fit.right in
    let here = tree_by-newest (λ (at : ℕ) (n : Node). item_of n.entry) n older at e in
    let name_left = tree_by-older (λ (at : ℕ) (n : Node). at) n older n.left fit.left in
    let name_right = tree_by-older (λ (at : ℕ) (n : Node). at) n older n.right fit.right in
    let name_here = tree_by-newest (λ (at : ℕ) (n : Node). at) n older at e in
    record {
      left = IsLink-older n older n.left fit.left;
      right = IsLink-older n older n.right fit.right;
      left_older = older_link older at n.left e fit.left;
      right_older = older_link older at n.right e fit.right;
      tree = here ∙ ap₂ (λ (l r : Tree (Item Body)). node l (item_of n.entry) r) (sym old_left) (sym old_right);
      names = name_here ∙ ap₂ (λ (l r : Tree ℕ). node l at r) (sym name_left) (sym name_right);
      size_is = fit.size_is ∙ ap size (sym here);
      before_is = fit.before_is ∙ ap size (sym old_left);
    }

pub read_at : (nodes : List Node) (at : ℕ) (d : Node) → Fits nodes → at < length nodes → IsNodeAt nodes at (get_or (reverse nodes) at d)
unfolding Fits
read_at [] at d fits h = absurd (omega arith)
read_at (n ∷ older) at d fits h =
    let split : reverse (n ∷ older) ≡ reverse older ++ n ∷ [] = reverse-append (n ∷ []) older in
    let many : length (reverse older) ≡ length older = length-reverse older in
    let P : Node → Type 0 = λ m. IsNodeAt (n ∷ older) at m in
    elim (cases_eq at (length older)) [
      | inl here ↦
          let seam : get_or (reverse (n ∷ older)) at d ≡ n = ap (λ (xs : List Node). get_or xs at d) split ∙ ap (λ (k : ℕ). get_or (reverse older ++ n ∷ []) k d) (here ∙ sym many) ∙ get_or-append_seam (reverse older) n [] d in
          subst P (sym seam) (newest-here n older at fits.0 here)
      | inr apart ↦
          let lower : at < length older = omega arith in
          let front : get_or (reverse (n ∷ older)) at d ≡ get_or (reverse older) at d = ap (λ (xs : List Node). get_or xs at d) split ∙ get_or-append (reverse older) (n ∷ []) d at (omega arith) in
          subst P (sym front) (lifted n older at (get_or (reverse older) at d) lower (read_at older at d fits.1 lower))
    ]

-- the first of some items from a number on, in the arena's own order
pub read_run : (items seen run : List Node) (at : ℕ) (d : Node) → reverse items ≡ seen → Fits (reverse items) → at < length seen → run ≡ take (length run) (drop at items) → (at < length items → 0 < length run) → IsNodeAt seen at (get_or run 0 d)
read_run items seen run at d same fits h is some =
    let many : length seen ≡ length items = ap (λ (ns : List Node). length ns) (sym same) ∙ length-reverse items in
    let here : at + 0 ≡ at = omega arith in
    let first : get_or run 0 d ≡ get_or items at d =
    ap (λ (ns : List Node). get_or ns 0 d) is ∙ get_or-take (length run) (drop at items) 0 d (some (omega arith)) ∙ get_or-drop at items 0 d ∙ ap (λ (k : ℕ). get_or items k d) here in
    let back : get_or (reverse (reverse items)) at d ≡ get_or run 0 d = ap (λ (ns : List Node). get_or ns at d) (reverse-reverse items) ∙ sym first in
    let P : Node → Type 0 = λ n. IsNodeAt (reverse items) at n in
    let Q : List Node → Type 0 = λ ns. IsNodeAt ns at (get_or run 0 d) in
    let within : at < length (reverse items) = omega (arith, length-reverse items) in
    subst Q same (subst P back (read_at (reverse items) at d fits within))

-- a list with one more at its end, newest first
pub reverse-pushed : {A : Type 0} (xs : List A) (x : A) → reverse (xs ++ x ∷ []) ≡ x ∷ reverse xs
reverse-pushed xs x = reverse-append xs (x ∷ [])

-- one more fits, and without it they fit as before
pub pushed_fits : {A E : Type 0} (old new seen : List Node) (n : Node) (r : Result A E) → reverse old ≡ seen → Fits (reverse old) → FitsAfter seen n → OnOk r (new ≡ old ++ n ∷ []) → OnErr r (new ≡ old) → Fits (reverse new)
unfolding Fits
pushed_fits old new seen n (Ok a) same fits after more none =
    let P : List Node → Type 0 = λ ns. FitsAfter ns n in
    let Q : List Node → Type 0 = λ ns. Fits ns in
    subst Q (sym (ap (λ (ns : List Node). reverse ns) more ∙ reverse-pushed old n)) (subst P (sym same) after, fits)
pushed_fits old new seen n (Err e) same fits after more none =
    let Q : List Node → Type 0 = λ ns. Fits (reverse ns) in
    subst Q (sym none) fits
