-- Which codes two changes in turn may move or drop, told from the changes alone.
use Rattle.std.specs.Prelude.{ℕ, List, [], ◌∷◌}
use Rattle.tree_model.specs.Places.{holds}
use Rattle.path_code.specs.Sums.{unless, Sum}
use Rattle.code_changes.specs.Changes.{put_all}
use Rattle.code_changes.specs.Normal.{olds, news}

-- the codes that a change moves or drops
unfoldable pub taken : Sum → List ℕ
taken s = put_all (olds s.moved) s.dropped

-- the codes that it gives to others or to new items
unfoldable pub given : Sum → List ℕ
given s = put_all (news s.moved) s.added

-- those of a list that aren't in another
unfoldable pub others : List ℕ → List ℕ → List ℕ
others excluded [] = []
others excluded (code ∷ codes) = unless (holds code excluded) code (others excluded codes)

-- the codes that the earlier change takes, and those that the later one takes and that stand there already before the earlier one
unfoldable pub candidates : Sum → Sum → List ℕ
candidates s next = put_all (taken s) (others (given s) (taken next))
