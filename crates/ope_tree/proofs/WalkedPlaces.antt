-- Walks down a tree: one step more, the place that the end of a walk is, and ways that end before they lead anywhere.
use Rattle.std.proofs.Common.{◌≡◌, ℕ, suc, ◌+◌, ◌-◌, ◌/◌, ◌%◌, ◌^◌, ◌<◌, ◌≤◌, List, [], ◌∷◌, ◌++◌, length, Option, Some, None, refl, ap, ap₂, ◌∙◌, sym, subst, arith, pow-suc}
use Rattle.std.proofs.Math.Nat.{div-div-eq-div-mul, mod-lt}
use Rattle.std.proofs.lemmas.Nat.{shr_split, pow_pos}
use Rattle.mope_base.specs.declared.body.Body.{Body}
use Rattle.tree_model.specs.declared.Side.{Side}
use Rattle.tree_model.specs.declared.Place.{Place}
use Rattle.tree_model.specs.declared.Place.TheVariants.{Found, Gap}
use Rattle.tree_model.specs.Trees.{Tree, size, path, IsPlaceOf}
use Rattle.tree_model.specs.Items.{Item}
use Rattle.tree_model.specs.Insertion.{child, tree_at}
use Rattle.tree_model.specs.Parts.{beside, before, IsWay, LeadsToItem, LeadsToGap}
use Rattle.tree_model.proofs.Parts.{item_at, gap_at, way_of_item, way_of_gap, part-within}
use Rattle.tree_model.proofs.GraftPaths.{size-node}
use Rattle.path_code.specs.Codes.{side_of, steps}
use Rattle.path_code.proofs.Decoding.{steps-append}
use Rattle.path_code.proofs.Spelling.{length-steps}
use Rattle.ope_tree.specs.declared.nodes.Node.{Node}
use Rattle.ope_tree.specs.Nodes.{tree_of, IsLink}
use Rattle.ope_tree.specs.Standing.{NamesNothing, IsPlaceAt}
use Rattle.ope_tree.specs.Walked.{IsSpotBeside, IsPlaceAfter}
use Rattle.ope_tree.proofs.LinkCases.{no_tree}

-- ---- one step more

pub IsWay-longer : {A : Type 0} (way : List Side) (side : Side) (t : Tree A) → IsWay way t → 0 < size (tree_at way t) → IsWay (way ++ side ∷ []) t
unfolding IsWay tree_at
IsWay-longer [] side t is some = (some, tt)
IsWay-longer (step ∷ way) side t is some = (is.0, IsWay-longer way side (child step t) is.1 some)

pub tree_at-longer : {A : Type 0} (way : List Side) (side : Side) (t : Tree A) → tree_at (way ++ side ∷ []) t ≡ child side (tree_at way t)
unfolding tree_at
tree_at-longer [] side t = refl
tree_at-longer (step ∷ way) side t = tree_at-longer way side (child step t)

pub before-longer : {A : Type 0} (way : List Side) (side : Side) (t : Tree A) → before (way ++ side ∷ []) t ≡ before way t + beside side (tree_at way t)
unfolding before tree_at
before-longer [] side t = omega arith
before-longer (step ∷ way) side t = let ih = before-longer way side (child step t) in omega (arith, ih)

-- each step of a way leaves an item
pub some_on_way : {A : Type 0} (way : List Side) (side : Side) (more : List Side) (t : Tree A) → IsWay (way ++ side ∷ more) t → 0 < size (tree_at way t)
unfolding IsWay tree_at
some_on_way [] side more t is = is.0
some_on_way (step ∷ way) side more t is = some_on_way way side more (child step t) is.1

-- ---- where a walk has come

-- a link to the tree at the end of a way, and how many items stand left of it
pub record IsSpot (nodes : List Node) (root : Option ℕ) (way : List Side) (link : Option ℕ) (count : ℕ) : Type 0 where
  pub is_link : IsLink nodes link
  pub is_way : IsWay way (tree_of nodes root)
  pub names : tree_of nodes link ≡ tree_at way (tree_of nodes root)
  pub count_is : count ≡ before way (tree_of nodes root)

pub IsSpot-root : (nodes : List Node) (root : Option ℕ) → IsLink nodes root → IsSpot nodes root [] root 0
unfolding IsWay tree_at before
IsSpot-root nodes root is = record { is_link = is; is_way = tt; names = refl; count_is = refl }

-- all items left of a tree and its own are items of the whole
pub spot-within : (nodes : List Node) (root : Option ℕ) (way : List Side) (link : Option ℕ) (count : ℕ) → IsSpot nodes root way link count → count + size (tree_of nodes link) ≤ size (tree_of nodes root)
spot-within nodes root way link count spot = omega (arith, spot.count_is, ap size spot.names, part-within way (tree_of nodes root) spot.is_way)

pub IsSpot-longer : (nodes : List Node) (root : Option ℕ) (way : List Side) (at count : ℕ) (side : Side) (link : Option ℕ) (further : ℕ) → IsSpot nodes root way (Some at) count → IsSpotBeside nodes at count side link further → IsSpot nodes root (way ++ side ∷ []) link further
IsSpot-longer nodes root way at count side link further spot beside_it =
    let t = tree_of nodes root in
    record {
      is_link = beside_it.is_link;
      is_way = IsWay-longer way side t spot.is_way (omega (arith, ap size spot.names, beside_it.is_node));
      names = beside_it.names ∙ ap (λ (u : Tree (Item Body)). child side u) spot.names ∙ sym (tree_at-longer way side t);
      count_is = beside_it.count_is ∙ ap₂ (λ (n : ℕ) (u : Tree (Item Body)). n + beside side u) spot.count_is spot.names ∙ sym (before-longer way side t);
    }

-- ---- places and ways

pub IsWay-path : {A : Type 0} (t : Tree A) (d : A) (place : Place) → IsPlaceOf (size t) place → IsWay (path t place) t
unfolding IsPlaceOf
IsWay-path t d (Found rank) within = (item_at t rank d within).is_way
IsWay-path t d (Gap rank) within = (gap_at t rank within).is_way

-- a way that goes on from an empty tree leads nowhere
pub leads_nowhere : {A : Type 0} (t : Tree A) (d : A) (way : List Side) (side : Side) (more whole : List Side) → size (tree_at way t) ≡ 0 → whole ≡ way ++ side ∷ more → NamesNothing t whole
leads_nowhere {A} t d way side more whole none whole_is place within path_is =
    let is_way = subst (λ (w : List Side). IsWay w t) (path_is ∙ whole_is) (IsWay-path t d place within) in
    let some = some_on_way way side more t is_way in
    absurd (omega arith)

-- the root of the tree at the end of a way is the way's place
pub place_at_end : {A : Type 0} (t : Tree A) (way : List Side) (place : Place) → IsWay way t → IsPlaceAfter (tree_at way t) (before way t) place → IsPlaceAt A t way place
unfolding IsPlaceOf
place_at_end {A} t way (Found rank) is_way at =
    let within = part-within way t is_way in
    let many : size (tree_at way t) ≡ size at.left + suc (size at.right) = ap size at.root ∙ size-node at.left at.item at.right in
    let to : LeadsToItem A t way rank at.item = record { is_way = is_way; left = at.left; right = at.right; at = at.root; rank_is = sym at.rank_is } in
    record { within = omega (arith, at.rank_is); way_is = sym (way_of_item t way rank at.item to) }
place_at_end {A} t way (Gap rank) is_way at =
    let within = part-within way t is_way in
    let to : LeadsToGap A t way rank = record { is_way = is_way; at = at.0; rank_is = sym at.1 } in
    record { within = omega (arith, at.1); way_is = sym (way_of_gap t way rank to) }

pub place_at_spot : (nodes : List Node) (root : Option ℕ) (way : List Side) (link : Option ℕ) (count : ℕ) (place : Place) → IsSpot nodes root way link count → IsPlaceAfter (tree_of nodes link) count place → IsPlaceAt (Item Body) (tree_of nodes root) way place
place_at_spot nodes root way link count place spot after =
    let there = subst (λ (t : Tree (Item Body)). IsPlaceAfter t count place) spot.names after in
    place_at_end (tree_of nodes root) way place spot.is_way (subst (λ (n : ℕ). IsPlaceAfter (tree_at way (tree_of nodes root)) n place) spot.count_is there)

any_item : Item Body
any_item = record { body = record { nonce = 0; masked = 0 }; count = 0 }

pub nowhere_from_spot : (nodes : List Node) (root : Option ℕ) (way : List Side) (link : Option ℕ) (count : ℕ) (side : Side) (more whole : List Side) → IsSpot nodes root way link count → link ≡ None → whole ≡ way ++ side ∷ more → NamesNothing (tree_of nodes root) whole
unfolding size
nowhere_from_spot nodes root way link count side more whole spot none whole_is =
    leads_nowhere (tree_of nodes root) any_item way side more whole (ap size (sym spot.names ∙ no_tree nodes link none)) whole_is

-- ---- the steps that are taken of those that a number spells

abbrev pub taken_of : ℕ → ℕ → ℕ → List Side
taken_of len bits taken = steps taken (bits / 2 ^ (len - taken))

pub taken-none : (len bits : ℕ) → taken_of len bits 0 ≡ []
unfolding steps
taken-none len bits = refl

pub taken-all : (len bits : ℕ) → taken_of len bits len ≡ steps len bits
taken-all len bits =
    let none : len - len ≡ 0 = omega arith in
    let same : bits / 2 ^ 0 ≡ bits = omega arith in
    rw (none, same) refl

halved : (n k : ℕ) → n / 2 ^ k / 2 ≡ n / 2 ^ suc k
halved n k = rw (pow-suc 2 k) (div-div-eq-div-mul n (2 ^ k) 2)

pub taken-longer : (len bits taken : ℕ) → taken < len → taken_of len bits (taken + 1) ≡ taken_of len bits taken ++ side_of (bits / 2 ^ (len - taken - 1) % 2) ∷ []
unfolding steps
taken-longer len bits taken h =
    let next : taken + 1 ≡ suc taken = omega arith in
    let less : len - suc taken ≡ len - taken - 1 = omega arith in
    let left : suc (len - taken - 1) ≡ len - taken = omega arith in
    let half : bits / 2 ^ (len - taken - 1) / 2 ≡ bits / 2 ^ (len - taken) = halved bits (len - taken - 1) ∙ ap (λ (k : ℕ). bits / 2 ^ k) left in
    rw (next, less, half) refl

-- a list of steps that isn't empty has a first one
first_step : (way : List Side) → 0 < length way → (side : Side) × (more : List Side) × (way ≡ side ∷ more)
first_step [] some = absurd (omega arith)
first_step (side ∷ more) some = (side, more, refl)

pub taken-and_left : (len bits taken : ℕ) → taken < len → steps len bits ≡ taken_of len bits taken ++ steps (len - taken) (bits % 2 ^ (len - taken))
taken-and_left len bits taken h =
    let high = bits / 2 ^ (len - taken) in
    let low = bits % 2 ^ (len - taken) in
    let all : len ≡ taken + (len - taken) = omega arith in
    ap₂ (λ (n b : ℕ). steps n b) all (sym (shr_split bits (len - taken))) ∙ steps-append taken (len - taken) high low (mod-lt bits (pow_pos (len - taken)))

-- where not all steps are taken, the way goes on
pub taken-whole : (len bits taken : ℕ) → taken < len → (side : Side) × (more : List Side) × (steps len bits ≡ taken_of len bits taken ++ side ∷ more)
taken-whole len bits taken h =
    let rest = steps (len - taken) (bits % 2 ^ (len - taken)) in
    let first = first_step rest (omega (arith, length-steps (len - taken) (bits % 2 ^ (len - taken)))) in
    (first.0, first.1, taken-and_left len bits taken h ∙ ap (λ (more : List Side). taken_of len bits taken ++ more) first.2)
