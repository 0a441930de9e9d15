-- The place that the way of an item's code leads to.
use Rattle.std.proofs.Common.{◌≡◌, ℕ, ◌<◌, ◌≤◌, length, refl, ap, ◌∙◌, sym, subst, arith, Some, None}
use Rattle.tree_model.specs.declared.Place.{Place}
use Rattle.tree_model.specs.declared.Place.TheVariants.{Found, Gap}
use Rattle.tree_model.specs.Trees.{Tree, size, height, path, IsPlaceOf}
use Rattle.tree_model.specs.Places.{below}
use Rattle.tree_model.proofs.Ways.{length-path}
use Rattle.path_code.specs.Codes.{code_of}
use Rattle.path_code.specs.Ways.{way}
use Rattle.path_code.specs.Sums.{item_code}
use Rattle.path_code.specs.Laws.{code_in}
use Rattle.table_model.specs.Steps.{rank_in}
use Rattle.path_code.specs.declared.paths.Path.{Path}
use Rattle.path_code.proofs.Decoding.{same_from_code}
use Rattle.path_code.proofs.Same.{length-way}
use Rattle.path_code.proofs.Spelling.{code_of-positive}
use Rattle.path_code.proofs.Rising.{ways_tell_places}
use Rattle.code_changes.specs.Changes.{IsIn}
use Rattle.code_changes.specs.Columns.{codes_of}
use Rattle.ope_tree.specs.Standing.{NamesNothing, IsPlaceAt}
use Rattle.enc_table.proofs.ItemRanks.{item_of_code}

pub code_positive : {A : Type 0} (t : Tree A) (code : ℕ) → height t ≤ 63 → IsIn code (codes_of t) → 0 < code
unfolding item_code
code_positive t code short held =
    subst (λ (n : ℕ). 0 < n) (item_of_code t code short held).1 (code_of-positive (path t (Found (below code (codes_of t)))))

pub way_of_code : {A : Type 0} (t : Tree A) (code : ℕ) (p : Path) → height t ≤ 63 → IsIn code (codes_of t) → code_of (way p) ≡ code → path t (Found (below code (codes_of t))) ≡ way p
unfolding item_code
way_of_code t code p short held is =
    let place = Found (below code (codes_of t)) in
    same_from_code (path t place) (way p) (omega (arith, length-path t place, short)) (length-way p) ((item_of_code t code short held).1 ∙ sym is)

pub names_item : {A : Type 0} (t : Tree A) (code : ℕ) (p : Path) → height t ≤ 63 → IsIn code (codes_of t) → code_of (way p) ≡ code → NamesNothing t (way p) → ⊥
unfolding IsPlaceOf
names_item t code p short held is nothing = nothing (Found (below code (codes_of t))) (item_of_code t code short held).0 (way_of_code t code p short held is)

pub place_of_code : {A : Type 0} (t : Tree A) (code : ℕ) (p : Path) (place : Place) → height t ≤ 63 → IsIn code (codes_of t) → code_of (way p) ≡ code → IsPlaceAt A t (way p) place → place ≡ Found (below code (codes_of t))
unfolding IsPlaceOf
place_of_code t code p place short held is there =
    ways_tell_places t place (Found (below code (codes_of t))) short there.within (item_of_code t code short held).0 (there.way_is ∙ sym (way_of_code t code p short held is))

rank_of_place : Place → ℕ
rank_of_place (Found rank) = rank
rank_of_place (Gap rank) = rank

pub same_rank : (rank other : ℕ) → Found rank ≡ Found other → rank ≡ other
unfolding rank_of_place
same_rank rank other same = ap rank_of_place same

is_found : Place → ℕ
is_found (Found rank) = 1
is_found (Gap rank) = 0

pub no_gap : (rank other : ℕ) → Gap rank ≡ Found other → ⊥
unfolding is_found
no_gap rank other same = let clash : 0 ≡ 1 = ap is_found same in omega (arith, clash)

-- ---- the item at which a row came in

pub among_found : {A : Type 0} (t : Tree A) (place : Place) (rank : ℕ) → place ≡ Found rank → rank_in place < size t → IsPlaceOf (size t) (Found rank)
unfolding rank_in IsPlaceOf
among_found t place rank is lt = subst (λ (p : Place). rank_in p < size t) is lt

pub among_gap : {A : Type 0} (t : Tree A) (place : Place) (rank : ℕ) → place ≡ Gap rank → rank_in place < size t → IsPlaceOf (size t) (Found rank)
unfolding rank_in IsPlaceOf
among_gap t place rank is lt = subst (λ (p : Place). rank_in p < size t) is lt

pub code_found : {A : Type 0} (t : Tree A) (place : Place) (rank : ℕ) → place ≡ Found rank → code_in t (Found rank) ≡ item_code t (rank_in place)
unfolding rank_in item_code
code_found t place rank is = ap (λ (p : Place). item_code t (rank_in p)) (sym is)

pub code_gap : {A : Type 0} (t : Tree A) (place : Place) (rank : ℕ) → place ≡ Gap rank → code_in t (Found rank) ≡ item_code t (rank_in place)
unfolding rank_in item_code
code_gap t place rank is = ap (λ (p : Place). item_code t (rank_in p)) (sym is)
