-- A change at a place of a list.
use Rattle.std.specs.Prelude.{ℕ, ◌<◌, ◌≤◌, List, length, set, insert, remove}
use Rattle.cow_pages.specs.declared.edit.Edit.{Edit}
use Rattle.cow_pages.specs.declared.edit.Edit.TheVariants.{Set, Insert, Remove}

-- the list after it
abbrev pub changed : {A : Type 0} → Edit A → List A → ℕ → List A
changed (Set x) xs i = set xs i x
changed (Insert x split) xs i = insert xs i x
changed Remove xs i = remove xs i

-- the list has that place: an item stands there, or one may be put there
abbrev pub HasPlace : {A : Type 0} → Edit A → List A → ℕ → Type 0
HasPlace (Set x) xs i = i < length xs
HasPlace (Insert x split) xs i = i ≤ length xs
HasPlace Remove xs i = i < length xs
