-- Lists of codes, one code after the other.
use Rattle.std.proofs.Common.{◌≡◌, ℕ, ◌+◌, ◌<◌, ◌≤◌, Bool, true, false, List, [], ◌∷◌, ◌++◌, length, drop, get_or, Option, Some, None, Result, Ok, Err, IfOk, refl, ap, ◌∙◌, sym, append_assoc, append-nil, eq-eqb, ne_eqb}
use Rattle.std.proofs.lemmas.List.{at_drop_more}
use Rattle.std.proofs.Math.ListN.{drop_of_length-le}
use Rattle.tree_model.specs.Places.{holds}
use Rattle.path_code.specs.declared.moves.Recode.{Recode}
use Rattle.path_code.specs.Sums.{unless, Sum}
use Rattle.code_changes.specs.Changes.{applied, with_some, images}
use Rattle.code_changes.specs.Normal.{olds, news}
use Rattle.code_changes.specs.Compositions.{pair_if, moved_by, lost_if, dropped_by}
use Rattle.summary.specs.Candidates.{others}

-- ---- a loop that appends what each element gives

-- where a list's function gives what the first gives and then what the rest gives, one step of the loop keeps what is done and to do
pub one_step : {A B : Type 0} (F : List A → List B) (xs : List A) (at : ℕ) (d : A) (done now : List B) → at < length xs → ((x : A) (rest : List A) → F (x ∷ rest) ≡ F (x ∷ []) ++ F rest) → now ≡ done ++ F (get_or xs at d ∷ []) → done ++ F (drop at xs) ≡ F xs → now ++ F (drop (at + 1) xs) ≡ F xs
one_step F xs at d done now lt split next before =
    ap (λ (ys : List _). ys ++ F (drop (at + 1) xs)) next
    ∙ append_assoc done (F (get_or xs at d ∷ [])) (F (drop (at + 1) xs))
    ∙ ap (λ (ys : List _). done ++ ys) (sym (at_drop_more F xs at d lt ∙ split (get_or xs at d) (drop (at + 1) xs)))
    ∙ before

-- at the end of the loop all is done
pub all_done : {A B : Type 0} (F : List A → List B) (xs : List A) (at : ℕ) (done : List B) → length xs ≤ at → F [] ≡ [] → done ++ F (drop at xs) ≡ F xs → done ≡ F xs
all_done F xs at done ge none before =
    sym (append-nil done) ∙ ap (λ (ys : List _). done ++ ys) (sym (ap F (drop_of_length-le xs ge) ∙ none)) ∙ before

-- ---- the functions

pub olds-split : (x : Recode) (rest : List Recode) → olds (x ∷ rest) ≡ olds (x ∷ []) ++ olds rest
unfolding olds
olds-split x rest = refl

pub news-split : (x : Recode) (rest : List Recode) → news (x ∷ rest) ≡ news (x ∷ []) ++ news rest
unfolding news
news-split x rest = refl

pub olds-none : olds [] ≡ []
unfolding olds
olds-none = refl

pub news-none : news [] ≡ []
unfolding news
news-none = refl

pub olds-one : (x : Recode) → olds (x ∷ []) ≡ x.old ∷ []
unfolding olds
olds-one x = refl

pub news-one : (x : Recode) → news (x ∷ []) ≡ x.new ∷ []
unfolding news
news-one x = refl

unless-split : {A : Type 0} (b : Bool) (x : A) (rest : List A) → unless b x rest ≡ unless b x [] ++ rest
unfolding unless
unless-split true x rest = refl
unless-split false x rest = refl

pub others-split : (excluded : List ℕ) (x : ℕ) (rest : List ℕ) → others excluded (x ∷ rest) ≡ others excluded (x ∷ []) ++ others excluded rest
unfolding others
others-split excluded x rest = unless-split (holds x excluded) x (others excluded rest)

pub others-none : (excluded : List ℕ) → others excluded [] ≡ []
unfolding others
others-none excluded = refl

pub others-out : (excluded : List ℕ) (x : ℕ) → holds x excluded ≡ true → others excluded (x ∷ []) ≡ []
unfolding others unless
others-out excluded x h = rw h refl

pub others-in : (excluded : List ℕ) (x : ℕ) → holds x excluded ≡ false → others excluded (x ∷ []) ≡ x ∷ []
unfolding others unless
others-in excluded x h = rw h refl

with_some-split : (o : Option ℕ) (rest : List ℕ) → with_some o rest ≡ with_some o [] ++ rest
unfolding with_some
with_some-split None rest = refl
with_some-split (Some n) rest = refl

pub images-split : (s : Sum) (x : ℕ) (rest : List ℕ) → images s (x ∷ rest) ≡ images s (x ∷ []) ++ images s rest
unfolding images
images-split s x rest = with_some-split (applied s x) (images s rest)

pub images-none : (s : Sum) → images s [] ≡ []
unfolding images
images-none s = refl

pub images-one : (s : Sum) (x new : ℕ) → applied s x ≡ Some new → images s (x ∷ []) ≡ new ∷ []
unfolding images with_some
images-one s x new h = rw h refl

pub images-lost : (s : Sum) (x : ℕ) → applied s x ≡ None → images s (x ∷ []) ≡ []
unfolding images with_some
images-lost s x h = rw h refl

pair_if-split : (x : ℕ) (o : Option ℕ) (rest : List Recode) → pair_if x o rest ≡ pair_if x o [] ++ rest
unfolding pair_if
pair_if-split x None rest = refl
pair_if-split x (Some n) rest = unless-split _ _ rest

moved_by-one : (f : ℕ → Option ℕ) (x : ℕ) → moved_by f (x ∷ []) ≡ pair_if x (f x) []
unfolding moved_by
moved_by-one f x = refl

pub moved_by-split : (f : ℕ → Option ℕ) (x : ℕ) (rest : List ℕ) → moved_by f (x ∷ rest) ≡ moved_by f (x ∷ []) ++ moved_by f rest
unfolding moved_by
moved_by-split f x rest = pair_if-split x (f x) (moved_by f rest)

pub moved_by-none : (f : ℕ → Option ℕ) → moved_by f [] ≡ []
unfolding moved_by
moved_by-none f = refl

lost_if-split : (x : ℕ) (o : Option ℕ) (rest : List ℕ) → lost_if x o rest ≡ lost_if x o [] ++ rest
unfolding lost_if
lost_if-split x None rest = refl
lost_if-split x (Some n) rest = refl

pub dropped_by-split : (f : ℕ → Option ℕ) (x : ℕ) (rest : List ℕ) → dropped_by f (x ∷ rest) ≡ dropped_by f (x ∷ []) ++ dropped_by f rest
unfolding dropped_by
dropped_by-split f x rest = lost_if-split x (f x) (dropped_by f rest)

pub dropped_by-none : (f : ℕ → Option ℕ) → dropped_by f [] ≡ []
unfolding dropped_by
dropped_by-none f = refl

-- what becomes of one code
pub moved_by-becomes : (f : ℕ → Option ℕ) (x : ℕ) (o : Option ℕ) → o ≡ f x → pair_if x o [] ≡ moved_by f (x ∷ [])
moved_by-becomes f x o e = ap (λ (p : Option ℕ). pair_if x p []) e ∙ sym (moved_by-one f x)

dropped_by-one : (f : ℕ → Option ℕ) (x : ℕ) → dropped_by f (x ∷ []) ≡ lost_if x (f x) []
unfolding dropped_by
dropped_by-one f x = refl

pub dropped_by-becomes : (f : ℕ → Option ℕ) (x : ℕ) (o : Option ℕ) → o ≡ f x → lost_if x o [] ≡ dropped_by f (x ∷ [])
dropped_by-becomes f x o e = ap (λ (p : Option ℕ). lost_if x p []) e ∙ sym (dropped_by-one f x)

pub pair_if-none : (x : ℕ) (o : Option ℕ) → o ≡ None → pair_if x o [] ≡ []
unfolding pair_if
pair_if-none x o e = rw e refl

pub pair_if-same : (x n : ℕ) (o : Option ℕ) → o ≡ Some n → n ≡ x → pair_if x o [] ≡ []
unfolding pair_if unless
pair_if-same x n o e same = rw (e, eq-eqb x n (sym same)) refl

pub pair_if-other : (x n : ℕ) (o : Option ℕ) → o ≡ Some n → (n ≡ x → ⊥) → pair_if x o [] ≡ record { old = x; new = n } ∷ []
unfolding pair_if unless
pair_if-other x n o e other = rw (e, ne_eqb x n (λ f. other (sym f))) refl

pub lost_if-none : (x : ℕ) (o : Option ℕ) → o ≡ None → lost_if x o [] ≡ x ∷ []
unfolding lost_if
lost_if-none x o e = rw e refl

pub lost_if-some : (x n : ℕ) (o : Option ℕ) → o ≡ Some n → lost_if x o [] ≡ []
unfolding lost_if
lost_if-some x n o e = rw e refl

-- ---- answers

-- what is true of each answer with a fact is true of this one
pub IfOk-map : {A E : Type 0} (r : Result A E) (P Q : A → Type 0) → ((x : A) → P x → Q x) → IfOk r P → IfOk r Q
IfOk-map (Ok x) P Q f p = f x p
IfOk-map (Err e) P Q f p = p
