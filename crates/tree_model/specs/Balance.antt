-- How deep an item may stand and which part is balanced again: the rules of scapegoat trees (Galperin and Rivest 1993) with alpha 2/3.
use Rattle.std.specs.Prelude.{ℕ, suc, zero, ◌*◌, ◌^◌, ◌<◌, ◌≤◌, Bool, true, false, nat_le, nat_lt, List, [], ◌∷◌}

-- a tree of n items may have an item at this depth: 3^depth ≤ n * 2^depth
unfoldable pub may_stand : ℕ → ℕ → Bool
may_stand n depth = nat_le (3 ^ depth) (n * 2 ^ depth)

unfoldable pub climbed : Bool → ℕ → (ℕ → ℕ) → ℕ
climbed true depth further = further (suc depth)
climbed false depth further = depth

-- from a depth on, the last at which an item may stand; at most so many steps further
unfoldable pub climb : ℕ → ℕ → ℕ → ℕ
climb zero n depth = depth
climb (suc steps) n depth = climbed (may_stand n (suc depth)) depth (climb steps n)

-- the greatest depth at which an item may stand, and 0 without items
unfoldable pub limit : ℕ → ℕ
limit n = climb (2 * n) n 0

-- an ancestor whose tree has n items is too tall for them, where the new item stands so many steps below it: 3^depth > n * 2^depth
unfoldable pub is_heavy : ℕ → ℕ → Bool
is_heavy depth n = nat_lt (n * 2 ^ depth) (3 ^ depth)

unfoldable pub counted : Bool → ℕ → ℕ
counted true rest = zero
counted false rest = suc rest

-- how many ancestors stand before the first that is too tall; the first of the sizes is that of the ancestor so many steps above the new item
unfoldable pub nearest_heavy : ℕ → List ℕ → ℕ
nearest_heavy depth [] = zero
nearest_heavy depth (n ∷ sizes) = counted (is_heavy depth n) (nearest_heavy (suc depth) sizes)

-- d is the greatest depth with 3^d ≤ n * 2^d
pub record IsGreatestDepth (n d : ℕ) : Type 0 where
  pub allowed : 3 ^ d ≤ n * 2 ^ d
  pub none_deeper : (deeper : ℕ) → d < deeper → n * 2 ^ deeper < 3 ^ deeper
