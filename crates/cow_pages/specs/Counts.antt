-- How many items a list has after a change.
use Rattle.std.specs.Prelude.{ℕ, ◌+◌, ◌-◌}
use Rattle.cow_pages.specs.declared.edit.Edit.{Edit}
use Rattle.cow_pages.specs.declared.edit.Edit.TheVariants.{Set, Insert, Remove}

-- how many where there were so many
abbrev pub count_after : {A : Type 0} → Edit A → ℕ → ℕ
count_after (Set x) count = count
count_after (Insert x split) count = count + 1
count_after Remove count = count - 1
