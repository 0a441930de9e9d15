-- Words over lists that definitions of several crates share.
use Rattle.std.specs.Prelude.{List, [], ◌∷◌}

-- each element of a list
unfoldable pub Each : {A : Type 0} → (A → Type 0) → List A → Type 0
Each P [] = Unit {0}
Each P (x ∷ xs) = P x × Each P xs
