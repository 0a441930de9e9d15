-- What a change of codes does to an increasing list of codes: which stay and under what new code, which go, and which come.
use Rattle.std.specs.Prelude.{◌≡◌, ℕ, zero, suc, Bool, true, false, ◌==◌, List, [], ◌∷◌, map, insert, Option, Some, None}
use Rattle.tree_model.specs.declared.Place.{Place}
use Rattle.tree_model.specs.declared.Place.TheVariants.{Found, Gap}
use Rattle.tree_model.specs.Places.{holds, place, IsIncreasing}
unfoldable pub use Rattle.tree_model.specs.Tallies.{with_rows}
use Rattle.path_code.specs.declared.moves.Recode.{Recode}
use Rattle.path_code.specs.Sums.{unless, Sum}

-- the number is one of the list
abbrev pub IsIn : ℕ → List ℕ → Type 0
IsIn n xs = holds n xs ≡ true

unfoldable pub new_if : Bool → Recode → ℕ → ℕ
new_if true pair otherwise = pair.new
new_if false pair otherwise = otherwise

-- the new code of one that moved, and any other code itself
unfoldable pub new_code : List Recode → ℕ → ℕ
new_code [] code = code
new_code (pair ∷ moved) code = new_if (pair.old == code) pair (new_code moved code)

unfoldable pub none_if : Bool → ℕ → Option ℕ
none_if true code = None
none_if false code = Some code

-- what becomes of a code: None where it is dropped
unfoldable pub applied : Sum → ℕ → Option ℕ
applied s code = none_if (holds code s.dropped) (new_code s.moved code)

unfoldable pub with_some : Option ℕ → List ℕ → List ℕ
with_some None codes = codes
with_some (Some code) codes = code ∷ codes

-- what becomes of the codes of a list that aren't dropped, in the order of the list
unfoldable pub images : Sum → List ℕ → List ℕ
images s [] = []
images s (code ∷ codes) = with_some (applied s code) (images s codes)

unfoldable pub put_at_place : Place → ℕ → List ℕ → List ℕ
put_at_place (Found rank) code codes = codes
put_at_place (Gap rank) code codes = insert codes rank code

-- a code put at its place in an increasing list
unfoldable pub put : ℕ → List ℕ → List ℕ
put code codes = put_at_place (place codes code) code codes

unfoldable pub put_all : List ℕ → List ℕ → List ℕ
put_all [] codes = codes
put_all (code ∷ added) codes = put code (put_all added codes)

-- what becomes of an increasing list of codes: the images of those that aren't dropped, and the added codes, in increasing order
unfoldable pub list_after : Sum → List ℕ → List ℕ
list_after s codes = put_all s.added (images s codes)

-- the pairs of two lists that differ
unfoldable pub differing : List ℕ → List ℕ → List Recode
differing [] news = []
differing (old ∷ olds) [] = []
differing (old ∷ olds) (new ∷ news) = unless (old == new) (record { old = old; new = new }) (differing olds news)

-- the change is one of this list: the list increases, has the dropped codes and the old codes of the pairs, keeps its order, and no
-- added code is one that another code of the list gets
pub record Fits (s : Sum) (codes : List ℕ) : Type 0 where
  pub rises : IsIncreasing codes
  pub dropped : (code : ℕ) → IsIn code s.dropped → IsIn code codes
  pub moved : (code : ℕ) → IsIn code (map (λ pair. pair.old) s.moved) → IsIn code codes
  pub in_order : IsIncreasing (images s codes)
  pub apart : (code : ℕ) → IsIn code s.added → holds code (images s codes) ≡ false

-- of a list beside counts the elements with count 0
unfoldable pub without_rows : {A : Type 0} → List ℕ → List A → List A
without_rows [] xs = []
without_rows (count ∷ counts) [] = []
without_rows (zero ∷ counts) (x ∷ xs) = x ∷ without_rows counts xs
without_rows (suc count ∷ counts) (x ∷ xs) = without_rows counts xs
