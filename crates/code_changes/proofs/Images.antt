-- A change that is given by what it takes and leaves of the old codes and of the new ones fits the old codes, and gives the new ones.
use Rattle.std.proofs.Common.{◌≡◌, ℕ, suc, zero, true, false, List, [], ◌∷◌, length, map, refl, ap, ◌∙◌, sym, subst, arith}
use Rattle.tree_model.specs.Places.{holds, IsIncreasing}
use Rattle.tree_model.proofs.Ordered.{holds-none, holds-cons_eq, holds-cons_ne}
use Rattle.path_code.specs.Sums.{Sum}
use Rattle.code_changes.specs.Changes.{IsIn, new_code, none_if, applied, with_some, images, put_all, list_after, differing, Fits, with_rows, without_rows}
use Rattle.code_changes.proofs.Lists.{IsIn-cons, lt_of_IsIn}
use Rattle.code_changes.proofs.Pairs.{remapped, IsIn-differing}
use Rattle.code_changes.proofs.Rows.{IsBelowAll-without, IsIncreasing-with, IsIn-with, IsIn-without, with-apart, put_all-without}

-- ---- one code more

pub images-dropped : (s : Sum) (x : ℕ) (xs : List ℕ) → holds x s.dropped ≡ true → images s (x ∷ xs) ≡ images s xs
unfolding images applied none_if with_some
images-dropped s x xs h = rw h refl

pub images-kept : (s : Sum) (x : ℕ) (xs : List ℕ) → holds x s.dropped ≡ false → images s (x ∷ xs) ≡ new_code s.moved x ∷ images s xs
unfolding images applied none_if with_some
images-kept s x xs h = rw h refl

images-nil : (s : Sum) → images s [] ≡ []
unfolding images
images-nil s = refl

-- ---- the codes that are kept, moved

-- where among these codes just those are dropped that the counts leave
pub images-with : (s : Sum) (counts xs : List ℕ) → IsIncreasing xs → length counts ≡ length xs → ((n : ℕ) → IsIn n xs → holds n s.dropped ≡ holds n (without_rows counts xs)) → images s xs ≡ map (new_code s.moved) (with_rows counts xs)
unfolding IsIncreasing with_rows without_rows
images-with s [] [] up many drops = images-nil s
images-with s [] (x ∷ xs) up many drops = absurd (omega arith)
images-with s (count ∷ counts) [] up many drops = absurd (omega arith)
images-with s (zero ∷ counts) (x ∷ xs) up many drops =
    images-dropped s x xs (drops x (holds-cons_eq x x xs refl) ∙ holds-cons_eq x x (without_rows counts xs) refl)
    ∙ images-with s counts xs up.1 (omega arith) (λ n h. let after = lt_of_IsIn x n xs up.0 h in drops n (IsIn-cons n x xs h) ∙ holds-cons_ne n x (without_rows counts xs) (λ e. omega arith))
images-with s (suc count ∷ counts) (x ∷ xs) up many drops =
    images-kept s x xs (drops x (holds-cons_eq x x xs refl) ∙ holds-none x (without_rows counts xs) (IsBelowAll-without x counts xs up.0))
    ∙ ap (λ (ys : List ℕ). new_code s.moved x ∷ ys) (images-with s counts xs up.1 (omega arith) (λ n h. drops n (IsIn-cons n x xs h)))

-- ---- the change between two lists

-- the change that takes the old codes with counts to the new ones with counts
unfoldable pub change_between : List ℕ → List ℕ → List ℕ → List ℕ → Sum
change_between before olds after news = record { moved = differing (with_rows before olds) (with_rows after news); dropped = without_rows before olds; added = without_rows after news }

pub record IsBetween (before olds after news : List ℕ) : Type 0 where
  pub olds_up : IsIncreasing olds
  pub news_up : IsIncreasing news
  pub each_old : length before ≡ length olds
  pub each_new : length after ≡ length news
  pub as_many : length (with_rows before olds) ≡ length (with_rows after news)

pub images-between : (before olds after news : List ℕ) → IsBetween before olds after news → images (change_between before olds after news) olds ≡ with_rows after news
unfolding change_between
images-between before olds after news b =
    images-with (change_between before olds after news) before olds b.olds_up b.each_old (λ n h. refl)
    ∙ remapped (with_rows before olds) (with_rows after news) (IsIncreasing-with before olds b.olds_up) b.as_many

pub Fits-between : (before olds after news : List ℕ) → IsBetween before olds after news → Fits (change_between before olds after news) olds
unfolding change_between
Fits-between before olds after news b =
    let at = images-between before olds after news b in
    record {
      rises = b.olds_up;
      dropped = λ n h. IsIn-without n before olds h;
      moved = λ n h. IsIn-with n before olds (IsIn-differing n (with_rows before olds) (with_rows after news) h);
      in_order = subst IsIncreasing (sym at) (IsIncreasing-with after news b.news_up);
      apart = λ n h. ap (holds n) at ∙ with-apart n after news b.news_up h;
    }

pub list_after-between : (before olds after news : List ℕ) → IsBetween before olds after news → list_after (change_between before olds after news) olds ≡ news
unfolding list_after change_between
list_after-between before olds after news b = ap (put_all (without_rows after news)) (images-between before olds after news b) ∙ put_all-without after news b.news_up b.each_new
