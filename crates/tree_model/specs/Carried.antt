-- Where an item stands after some operations, told by its rank before them.
use Rattle.std.specs.Prelude.{ℕ, suc, Bool, true, false, ◌||◌, ◌==◌, List, [], ◌∷◌, Option, Some, None}

-- some item comes from this rank
unfoldable pub is_origin : ℕ → List (Option ℕ) → Bool
is_origin k [] = false
is_origin k (None ∷ from) = is_origin k from
is_origin k (Some j ∷ from) = (j == k) || is_origin k from

unfoldable pub is_rank : ℕ → Option ℕ → Bool
is_rank k None = false
is_rank k (Some j) = j == k

unfoldable pub here_or_next : Bool → ℕ → ℕ
here_or_next true next = 0
here_or_next false next = suc next

-- the rank after the operations of the item that had this rank before them: where this rank stands among the origins
unfoldable pub carried : List (Option ℕ) → ℕ → ℕ
carried [] rank = 0
carried (origin ∷ from) rank = here_or_next (is_rank rank origin) (carried from rank)
