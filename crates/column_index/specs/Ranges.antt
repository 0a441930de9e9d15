-- The entries whose codes are between two ends.
use Rattle.std.specs.Prelude.{ℕ, ◌+◌, ◌<◌, ◌≤◌, ◌&&◌, nat_le, max, List, [], ◌∷◌, length}
use Rattle.std.specs.List.{AllWithin}
use Rattle.tree_model.specs.Places.{below, one_if}
use Rattle.column_index.specs.declared.entry.Entry.{Entry}

-- where the codes from `low` to `high` begin among increasing ones, and where they end: nowhere else than where they begin if there are none
unfoldable pub range_of : ℕ → ℕ → List ℕ → ℕ × ℕ
range_of low high codes = (below low codes, max (below low codes) (below (high + 1) codes))

-- how many entries have a code from `low` to `high`
unfoldable pub count_between : ℕ → ℕ → List Entry → ℕ
count_between low high [] = 0
count_between low high (x ∷ xs) = one_if (nat_le low x.enc && nat_le x.enc high) (count_between low high xs)

-- the entries before the first place are below the range, those from there to the end are in it, and those after it are above
pub record IsRange (low high : ℕ) (entries : List Entry) (first end : ℕ) : Type 0 where
  pub order : first ≤ end
  pub within : end ≤ length entries
  pub before : AllWithin (λ e. e.enc < low) entries 0 first
  pub from : AllWithin (λ e. low ≤ e.enc) entries first end
  pub to : AllWithin (λ e. e.enc ≤ high) entries first end
  pub after : AllWithin (λ e. high < e.enc) entries end (length entries)
