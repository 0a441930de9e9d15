-- Lists of pages, each seen as its height and its items.
use Rattle.std.specs.Prelude.{◌≡◌, ℕ, ◌<◌, ◌≤◌, ◌+◌, List, [], ◌∷◌, ◌++◌, length}

-- the items of pages, one page after another
unfoldable pub flat : {A : Type 0} → List (ℕ × List A) → List A
flat [] = []
flat (page ∷ pages) = page.1 ++ flat pages

-- each page is lower than this
unfoldable pub Below : {A : Type 0} → ℕ → List (ℕ × List A) → Type 0
Below height [] = Unit {0}
Below height (page ∷ pages) = (page.0 < height) × Below height pages

-- a place among the items of pages is a place of one page of them, and it's an item's there where it is one's among all
pub record IsPlace {A : Type 0} (pages : List (ℕ × List A)) (place number rest : ℕ) : Type 0 where
  pub before : List (ℕ × List A)
  pub page : ℕ × List A
  pub after : List (ℕ × List A)
  pub parts : pages ≡ before ++ page ∷ after
  pub many : length before ≡ number
  pub sum : length (flat before) + rest ≡ place
  pub most : rest ≤ length page.1
  pub item : place < length (flat pages) → rest < length page.1
