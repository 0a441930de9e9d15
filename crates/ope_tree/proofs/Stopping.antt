-- What stands at the end of a way, by the name of its node.
use Rattle.std.proofs.Common.{◌≡◌, ℕ, ◌<◌, Bool, List, [], ◌∷◌, ◌++◌, length, Option, Some, None, refl, ap, ◌∙◌, sym, subst, inl, inr, arith}
use Rattle.std.proofs.lemmas.Bool.{cases_eq, ne_eqb}
use Rattle.tree_model.specs.declared.Side.{Side}
use Rattle.tree_model.specs.declared.Side.TheVariants.{Left, Right}
use Rattle.tree_model.specs.Trees.{Tree, leaf}
use Rattle.tree_model.specs.Items.{Item}
use Rattle.tree_model.specs.Insertion.{child, tree_at}
use Rattle.mope_base.specs.declared.body.Body.{Body}
use Rattle.ope_tree.specs.declared.nodes.Node.{Node as Stored}
use Rattle.ope_tree.specs.declared.stops.Stop.{Stop}
use Rattle.ope_tree.specs.declared.stops.Stop.TheVariants.{Node, Gap}
use Rattle.ope_tree.specs.Nodes.{item_of, newest, tree_by, tree_of, names_of, IsLink}
use Rattle.ope_tree.specs.Seen.{seen_of}
use Rattle.ope_tree.specs.Standing.{root_item, StandsAt, IsStopOf}
use Rattle.ope_tree.proofs.Links.{tree_by-newest, tree_by-older}
use Rattle.ope_tree.proofs.Builders.{tree_by-none}

pub tree_at-leaf : {A : Type 0} (way : List Side) → tree_at {A = A} way leaf ≡ leaf
unfolding tree_at child
tree_at-leaf [] = refl
tree_at-leaf (side ∷ way) = tree_at-leaf way

pub tree_at-then : {A : Type 0} (way : List Side) (side : Side) (t : Tree A) → tree_at (way ++ side ∷ []) t ≡ child side (tree_at way t)
unfolding tree_at
tree_at-then [] side t = refl
tree_at-then (s ∷ way) side t = tree_at-then way side (child s t)

-- a name tells the tree below it
pub record IsBelow (A : Type 0) (f : ℕ → Stored → A) (nodes : List Stored) (way : List Side) (link : Option ℕ) (at : ℕ) : Type 0 where
  pub within : at < length nodes
  pub same : tree_at way (tree_by f nodes link) ≡ tree_by f nodes (Some at)

lifted : {A : Type 0} (f : ℕ → Stored → A) (n : Stored) (older : List Stored) (way rest : List Side) (link inner : Option ℕ) (at : ℕ) → tree_at way (tree_by f (n ∷ older) link) ≡ tree_at rest (tree_by f older inner) → IsBelow A f older rest inner at → IsBelow A f (n ∷ older) way link at
unfolding IsLink
lifted f n older way rest link inner at e b = record {
  within = omega (arith, b.within);
  same = e ∙ b.same ∙ sym (tree_by-older f n older (Some at) b.within);
}

none_named : (way : List Side) (t : Tree ℕ) (at : ℕ) → t ≡ leaf → root_item (tree_at way t) ≡ Some at → ⊥
unfolding root_item
none_named way t at e h = let empty : root_item (tree_at way t) ≡ None = ap (λ (u : Tree ℕ). root_item (tree_at way u)) e ∙ ap (λ (u : Tree ℕ). root_item u) (tree_at-leaf way) in cc

other : {A : Type 0} (f : ℕ → Stored → A) (n : Stored) (older : List Stored) (j : ℕ) → (j ≡ length older → ⊥) → tree_by f (n ∷ older) (Some j) ≡ tree_by f older (Some j)
unfolding tree_by newest
other f n older j apart = rw (ne_eqb j (length older) apart) refl

IsTold : (A : Type 0) → (ℕ → Stored → A) → List Stored → Option ℕ → Type 0
IsTold A f older link = (way : List Side) (at : ℕ) → root_item (tree_at way (names_of older link)) ≡ Some at → IsBelow A f older way link at

named_newest : {A : Type 0} (f : ℕ → Stored → A) (n : Stored) (older : List Stored) (j : ℕ) (way : List Side) (at : ℕ) → j ≡ length older → IsTold A f older n.left → IsTold A f older n.right → root_item (tree_at way (names_of (n ∷ older) (Some j))) ≡ Some at → IsBelow A f (n ∷ older) way (Some j) at
unfolding IsTold tree_at child root_item
named_newest f n older j [] at here left right h =
    let name : Some j ≡ Some at = sym (ap (λ (t : Tree ℕ). root_item t) (tree_by-newest (λ at n. at) n older j here)) ∙ h in
    let same : j ≡ at = cc in
    record { within = omega arith; same = ap (λ (k : ℕ). tree_by f (n ∷ older) (Some k)) same }
named_newest f n older j (Left ∷ rest) at here left right h =
    lifted f n older (Left ∷ rest) rest (Some j) n.left at (ap (λ (t : Tree _). tree_at rest (child Left t)) (tree_by-newest f n older j here))
    (left rest at (sym (ap (λ (t : Tree ℕ). root_item (tree_at rest (child Left t))) (tree_by-newest (λ at n. at) n older j here)) ∙ h))
named_newest f n older j (Right ∷ rest) at here left right h =
    lifted f n older (Right ∷ rest) rest (Some j) n.right at (ap (λ (t : Tree _). tree_at rest (child Right t)) (tree_by-newest f n older j here))
    (right rest at (sym (ap (λ (t : Tree ℕ). root_item (tree_at rest (child Right t))) (tree_by-newest (λ at n. at) n older j here)) ∙ h))

empty_names : (link : Option ℕ) → names_of [] link ≡ leaf
unfolding tree_by
empty_names link = refl

pub named_below : {A : Type 0} (f : ℕ → Stored → A) (nodes : List Stored) (link : Option ℕ) (way : List Side) (at : ℕ) → root_item (tree_at way (names_of nodes link)) ≡ Some at → IsBelow A f nodes way link at
unfolding IsTold
named_below f nodes None way at h = absurd (none_named way (names_of nodes None) at (tree_by-none (λ at n. at) nodes) h)
named_below f [] (Some j) way at h = absurd (none_named way (names_of [] (Some j)) at (empty_names (Some j)) h)
named_below f (n ∷ older) (Some j) way at h =
    elim (cases_eq j (length older)) [
      | inl here ↦ named_newest f n older j way at here (named_below f older n.left) (named_below f older n.right) h
      | inr apart ↦
          let older_tree : tree_by f (n ∷ older) (Some j) ≡ tree_by f older (Some j) = other f n older j apart in
          let older_name : names_of (n ∷ older) (Some j) ≡ names_of older (Some j) = other (λ at n. at) n older j apart in
          lifted f n older way way (Some j) (Some j) at (ap (λ (t : Tree _). tree_at way t) older_tree)
          (named_below f older (Some j) way at (sym (ap (λ (t : Tree ℕ). root_item (tree_at way t)) older_name) ∙ h))
    ]

pub root_name : (nodes : List Stored) (at : ℕ) → at < length nodes → root_item (names_of nodes (Some at)) ≡ Some at
unfolding root_item IsLink
root_name [] at h = absurd (omega arith)
root_name (n ∷ older) at h =
    elim (cases_eq at (length older)) [
      | inl here ↦ ap (λ (t : Tree ℕ). root_item t) (tree_by-newest (λ at n. at) n older at here)
      | inr apart ↦ let lower : at < length older = omega arith in ap (λ (t : Tree ℕ). root_item t) (tree_by-older (λ at n. at) n older (Some at) lower) ∙ root_name older at lower
    ]

-- a stop at the tree of a link, which stands at the end of a way
pub stands : (nodes : List Stored) (root : Option ℕ) (most : ℕ) (spent : Bool) (way : List Side) (link : Option ℕ) (stop : Stop) → tree_at way (names_of nodes root) ≡ names_of nodes link → tree_at way (tree_of nodes root) ≡ tree_of nodes link → IsLink nodes link → IsStopOf nodes link stop → StandsAt (seen_of nodes root most spent) way stop
unfolding IsLink
stands nodes root most spent way link (Node at body) en et h is =
    let P : Option ℕ → Type 0 = λ l. IsLink nodes l in
    let within : at.0 < length nodes = subst P is.0 h in
    record {
      named = ap (λ (t : Tree ℕ). root_item t) en ∙ ap (λ (l : Option ℕ). root_item (names_of nodes l)) is.0 ∙ root_name nodes at.0 within;
      count = is.1;
      item = ap (λ (t : Tree (Item Body)). root_item t) et ∙ is.2;
    }
stands nodes root most spent way link Gap en et h is = et ∙ ap (λ (l : Option ℕ). tree_of nodes l) is ∙ tree_by-none (λ at n. item_of n.entry) nodes

-- the same on one side of a named node
pub turned : (nodes : List Stored) (root : Option ℕ) (most : ℕ) (spent : Bool) (way : List Side) (side : Side) (at : ℕ) (link : Option ℕ) (stop : Stop) → root_item (tree_at way (names_of nodes root)) ≡ Some at → child side (names_of nodes (Some at)) ≡ names_of nodes link → child side (tree_of nodes (Some at)) ≡ tree_of nodes link → IsLink nodes link → IsStopOf nodes link stop → StandsAt (seen_of nodes root most spent) (way ++ side ∷ []) stop
turned nodes root most spent way side at link stop named en et h is =
    let names = named_below (λ at n. at) nodes root way at named in
    let items = named_below (λ at n. item_of n.entry) nodes root way at named in
    stands nodes root most spent (way ++ side ∷ []) link stop
    (tree_at-then way side (names_of nodes root) ∙ ap (λ (t : Tree ℕ). child side t) names.same ∙ en)
    (tree_at-then way side (tree_of nodes root) ∙ ap (λ (t : Tree (Item Body)). child side t) items.same ∙ et)
    h is

pub named_within : (nodes : List Stored) (root : Option ℕ) (way : List Side) (at : ℕ) → root_item (tree_at way (names_of nodes root)) ≡ Some at → at < length nodes
named_within nodes root way at named = (named_below (λ at n. at) nodes root way at named).within
