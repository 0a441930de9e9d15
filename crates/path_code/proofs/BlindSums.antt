-- Sums don't look at bodies.
use Rattle.std.proofs.Common.{◌≡◌, ℕ, suc, Bool, eqb, List, [], ◌∷◌, map, Option, Some, None, refl, ap, ap₂, ◌∙◌}
use Rattle.std.specs.List.{range_with_len}
use Rattle.tree_model.specs.declared.Place.TheVariants.{Found}
use Rattle.tree_model.specs.Trees.{Tree, size, map_tree}
use Rattle.tree_model.specs.Items.{map_item}
use Rattle.tree_model.specs.Columns.{Column, Operation, apply_all, map_column, map_operation}
use Rattle.tree_model.specs.Sums.{origins}
use Rattle.tree_model.proofs.Mapped.{size-map_tree, path-map_tree}
use Rattle.tree_model.proofs.Blind.{apply_all-map}
use Rattle.tree_model.proofs.Summed.{origins-map}
use Rattle.path_code.specs.Codes.{code_of}
use Rattle.path_code.specs.declared.moves.Recode.{Recode}
use Rattle.tree_model.specs.Carried.{is_origin}
use Rattle.path_code.specs.Sums.{item_code, unless, moved_codes, added_codes, dropped_codes, Sum, sum_by_origins, sum_of}

pub item_code-map : {A B : Type 0} (f : A → B) (t : Tree A) (rank : ℕ) → item_code (map_tree f t) rank ≡ item_code t rank
unfolding item_code
item_code-map f t rank = ap code_of (path-map_tree f t (Found rank))

pair : ℕ → ℕ → Recode
pair old new = record { old = old; new = new }

moved-map : {A B : Type 0} (f : A → B) (t u : Tree A) (rank : ℕ) (from : List (Option ℕ)) → moved_codes (map_tree f t) (map_tree f u) rank from ≡ moved_codes t u rank from
unfolding moved_codes pair
moved-map f t u rank [] = refl
moved-map f t u rank (None ∷ from) = moved-map f t u (suc rank) from
moved-map f t u rank (Some k ∷ from) =
    ap₂ (λ (old new : ℕ). unless (eqb old new) (pair old new) (moved_codes (map_tree f t) (map_tree f u) (suc rank) from)) (item_code-map f t k) (item_code-map f u rank)
    ∙ ap (λ (rest : List Recode). unless (eqb (item_code t k) (item_code u rank)) (pair (item_code t k) (item_code u rank)) rest) (moved-map f t u (suc rank) from)

added-map : {A B : Type 0} (f : A → B) (u : Tree A) (rank : ℕ) (from : List (Option ℕ)) → added_codes (map_tree f u) rank from ≡ added_codes u rank from
unfolding added_codes
added-map f u rank [] = refl
added-map f u rank (None ∷ from) = ap₂ (λ (n : ℕ) (rest : List ℕ). n ∷ rest) (item_code-map f u rank) (added-map f u (suc rank) from)
added-map f u rank (Some k ∷ from) = added-map f u (suc rank) from

dropped-map : {A B : Type 0} (f : A → B) (t : Tree A) (from : List (Option ℕ)) (ranks : List ℕ) → dropped_codes (map_tree f t) from ranks ≡ dropped_codes t from ranks
unfolding dropped_codes
dropped-map f t from [] = refl
dropped-map f t from (k ∷ ranks) = ap₂ (λ (n : ℕ) (rest : List ℕ). unless (is_origin k from) n rest) (item_code-map f t k) (dropped-map f t from ranks)

-- a sum of these parts
sum : List Recode → List ℕ → List ℕ → Sum
sum moved dropped added = record { moved = moved; dropped = dropped; added = added }

by_origins-map : {A B : Type 0} (f : A → B) (t u : Tree A) (from : List (Option ℕ)) → sum_by_origins (map_tree f t) (map_tree f u) from ≡ sum_by_origins t u from
unfolding sum_by_origins sum
by_origins-map f t u from =
    ap (λ (n : ℕ). sum (moved_codes (map_tree f t) (map_tree f u) 0 from) (dropped_codes (map_tree f t) from (range_with_len 0 n)) (added_codes (map_tree f u) 0 from)) (size-map_tree f t)
    ∙ ap (λ (moved : List Recode). sum moved (dropped_codes (map_tree f t) from (range_with_len 0 (size t))) (added_codes (map_tree f u) 0 from)) (moved-map f t u 0 from)
    ∙ ap₂ (λ (dropped added : List ℕ). sum (moved_codes t u 0 from) dropped added) (dropped-map f t from (range_with_len 0 (size t))) (added-map f u 0 from)

pub sum_of-map : {B C : Type 0} (f : B → C) (same_time : Bool) (operations : List (Operation B)) (c : Column B) → sum_of same_time (map (map_operation f) operations) (map_column f c) ≡ sum_of same_time operations c
unfolding sum_of map_column
sum_of-map {B} {C} f same_time operations c =
    ap₂ (λ (d : Column C) (from : List (Option ℕ)). sum_by_origins (map_tree (map_item f) c.tree) d.tree from) (apply_all-map f same_time operations c) (origins-map f same_time operations c)
    ∙ by_origins-map (map_item f) c.tree (apply_all same_time operations c).tree (origins same_time operations c)
