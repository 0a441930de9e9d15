-- The code of a way: the order-preserving encoding of Popa, Li and Zeldovich 2013, with 64 bits.
use Rattle.std.specs.Prelude.{ℕ, zero, suc, ◌+◌, ◌-◌, ◌*◌, ◌/◌, ◌%◌, ◌^◌, List, [], ◌∷◌, ◌++◌, length, map, replicate}
use Rattle.tree_model.specs.declared.Side.{Side}
use Rattle.tree_model.specs.declared.Side.TheVariants.{Left, Right}

-- the bit of a step
unfoldable pub bit : Side → ℕ
bit Left = 0
bit Right = 1

-- the number that a list of bits spells, the highest bit first
unfoldable pub spelled : List ℕ → ℕ
spelled [] = 0
spelled (b ∷ bits) = b * 2 ^ length bits + spelled bits

-- the number of width + 1 bits that spells the way, then 1, then zeros
unfoldable pub code_within : ℕ → List Side → ℕ
code_within width way = spelled (map bit way ++ 1 ∷ replicate (width - length way) 0)

-- the code has 64 bits
unfoldable pub code_of : List Side → ℕ
code_of way = code_within 63 way

unfoldable pub side_of : ℕ → Side
side_of zero = Left
side_of (suc n) = Right

-- the way that the lowest `count` bits of a number spell, the first step at the highest of them
unfoldable pub steps : ℕ → ℕ → List Side
steps zero bits = []
steps (suc count) bits = steps count (bits / 2) ++ side_of (bits % 2) ∷ []
