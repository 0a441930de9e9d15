-- What a page becomes by a change.
use Rattle.std.specs.Prelude.{◌≡◌, ℕ, suc, List, [], ◌∷◌}
use Rattle.cow_pages.specs.declared.making.Parts.{Parts}
use Rattle.cow_pages.specs.declared.making.Parts.TheVariants.{Gone, One, Two}
use Rattle.cow_pages.specs.Lists.{flat, Below}

-- the pages
abbrev pub pages_of : {A : Type 0} → Parts A → List (ℕ × List A)
pages_of Gone = []
pages_of (One page) = page ∷ []
pages_of (Two page next) = page ∷ next ∷ []

-- the pages have these items, and none is higher than this
pub record IsPartsOf {A : Type 0} (height : ℕ) (parts : Parts A) (items : List A) : Type 0 where
  pub same : flat (pages_of parts) ≡ items
  pub low : Below (suc height) (pages_of parts)
