-- What a list of operations on a column does to the codes of its items: the pairs of old and new codes that differ, the codes that are
-- given up, and the codes of new items.
use Rattle.std.specs.Prelude.{ℕ, suc, Bool, true, false, ◌==◌, List, [], ◌∷◌, Option, Some, None}
use Rattle.std.specs.List.{range_with_len}
use Rattle.tree_model.specs.declared.Place.TheVariants.{Found}
use Rattle.tree_model.specs.Trees.{Tree, size, path}
use Rattle.tree_model.specs.Columns.{Column, Operation, apply_all}
use Rattle.tree_model.specs.Sums.{origins}
use Rattle.tree_model.specs.Carried.{is_origin}
use Rattle.path_code.specs.Codes.{code_of}
use Rattle.path_code.specs.declared.moves.Recode.{Recode}

-- the code of the item of a rank
unfoldable pub item_code : {A : Type 0} → Tree A → ℕ → ℕ
item_code t rank = code_of (path t (Found rank))

unfoldable pub unless : {A : Type 0} → Bool → A → List A → List A
unless true x rest = rest
unless false x rest = x ∷ rest

-- the codes in t and u of the items that come from t and have another code in u; the first origin is that of this rank of u
unfoldable pub moved_codes : {A B : Type 0} → Tree A → Tree B → ℕ → List (Option ℕ) → List Recode
moved_codes t u rank [] = []
moved_codes t u rank (None ∷ from) = moved_codes t u (suc rank) from
moved_codes t u rank (Some k ∷ from) = unless (item_code t k == item_code u rank) (record { old = item_code t k; new = item_code u rank }) (moved_codes t u (suc rank) from)

-- the codes in u of the items that come from none of t
unfoldable pub added_codes : {B : Type 0} → Tree B → ℕ → List (Option ℕ) → List ℕ
added_codes u rank [] = []
added_codes u rank (None ∷ from) = item_code u rank ∷ added_codes u (suc rank) from
added_codes u rank (Some k ∷ from) = added_codes u (suc rank) from

-- the codes in t of those of these ranks from which no item of u comes
unfoldable pub dropped_codes : {A : Type 0} → Tree A → List (Option ℕ) → List ℕ → List ℕ
dropped_codes t from [] = []
dropped_codes t from (k ∷ ranks) = unless (is_origin k from) (item_code t k) (dropped_codes t from ranks)

pub record Sum : Type 0 where
  pub moved : List Recode
  pub dropped : List ℕ
  pub added : List ℕ

-- by a column before and after, and for each item of it after the rank before that it comes from
unfoldable pub sum_by_origins : {A B : Type 0} → Tree A → Tree B → List (Option ℕ) → Sum
sum_by_origins t u from = record { moved = moved_codes t u 0 from; dropped = dropped_codes t from (range_with_len 0 (size t)); added = added_codes u 0 from }

-- the sum of a list of operations on a column
unfoldable pub sum_of : {B : Type 0} → Bool → List (Operation B) → Column B → Sum
sum_of same_time operations c = sum_by_origins c.tree (apply_all same_time operations c).tree (origins same_time operations c)
