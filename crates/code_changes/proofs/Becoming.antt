-- The change that a function makes of a list: its pairs and its dropped codes.
use Rattle.std.proofs.Common.{◌≡◌, ◌≢◌, ◌⊎◌, ℕ, true, false, List, [], ◌∷◌, Option, Some, None, refl, ap, ◌∙◌, sym, subst, inl, inr, eq-eqb, ne_eqb}
use Rattle.std.proofs.lemmas.Bool.{cases_eq, cases_Bool}
use Rattle.tree_model.specs.Places.{holds, IsBelowAll, IsIncreasing}
use Rattle.tree_model.proofs.Ordered.{holds-cons_eq, holds-cons_ne, IsIncreasing-nil}
use Rattle.path_code.specs.declared.moves.Recode.{Recode}
use Rattle.path_code.specs.Sums.{unless, Sum}
use Rattle.code_changes.specs.Changes.{IsIn, new_code, applied}
use Rattle.code_changes.specs.Normal.{olds, news, Differ, IsNormal}
use Rattle.code_changes.specs.Compositions.{pair_if, moved_by, lost_if, dropped_by}
use Rattle.code_changes.proofs.Lists.{IsIn-cons, lt_of_IsIn}
use Rattle.code_changes.proofs.Rows.{IsIn-rest}
use Rattle.code_changes.proofs.Pairs.{new_code-here, new_code-past}
use Rattle.code_changes.proofs.After.{applied-dropped, applied-kept}
use Rattle.code_changes.proofs.Orders.{nowhere, first_in, IsBelowAll-members, IsIncreasing-rest, IsBelowAll-first, IsIncreasing-cons, InOrder}

pub record IsSome (o : Option ℕ) : Type 0 where
  pub new : ℕ
  pub is : o ≡ Some new

pub cases_Option : (o : Option ℕ) → (o ≡ None) ⊎ IsSome o
cases_Option None = inl refl
cases_Option (Some n) = inr (record { new = n; is = refl })

-- ---- one code more

pub moved_by-none : (f : ℕ → Option ℕ) (x : ℕ) (xs : List ℕ) → f x ≡ None → moved_by f (x ∷ xs) ≡ moved_by f xs
unfolding moved_by pair_if
moved_by-none f x xs e = rw e refl

pub moved_by-same : (f : ℕ → Option ℕ) (x y : ℕ) (xs : List ℕ) → f x ≡ Some y → x ≡ y → moved_by f (x ∷ xs) ≡ moved_by f xs
unfolding moved_by pair_if unless
moved_by-same f x y xs e same = rw (e, eq-eqb x y same) refl

pub moved_by-other : (f : ℕ → Option ℕ) (x y : ℕ) (xs : List ℕ) → f x ≡ Some y → x ≢ y → moved_by f (x ∷ xs) ≡ record { old = x; new = y } ∷ moved_by f xs
unfolding moved_by pair_if unless
moved_by-other f x y xs e other = rw (e, ne_eqb x y other) refl

pub dropped_by-none : (f : ℕ → Option ℕ) (x : ℕ) (xs : List ℕ) → f x ≡ None → dropped_by f (x ∷ xs) ≡ x ∷ dropped_by f xs
unfolding dropped_by lost_if
dropped_by-none f x xs e = rw e refl

pub dropped_by-some : (f : ℕ → Option ℕ) (x y : ℕ) (xs : List ℕ) → f x ≡ Some y → dropped_by f (x ∷ xs) ≡ dropped_by f xs
unfolding dropped_by lost_if
dropped_by-some f x y xs e = rw e refl

-- ---- a property of the pairs, by what becomes of the first code

abbrev pub MovedCases : (List Recode → Type 0) → (ℕ → Option ℕ) → ℕ → List ℕ → Type 0
MovedCases P f x xs = P (moved_by f xs) → ((y : ℕ) → f x ≡ Some y → x ≢ y → P (record { old = x; new = y } ∷ moved_by f xs)) → P (moved_by f (x ∷ xs))

pub moved_cases : (P : List Recode → Type 0) (f : ℕ → Option ℕ) (x : ℕ) (xs : List ℕ) → MovedCases P f x xs
moved_cases P f x xs rest more =
    elim (cases_Option (f x)) [
      | inl none ↦ subst P (sym (moved_by-none f x xs none)) rest
      | inr some ↦ elim (cases_eq x some.new) [
        | inl same ↦ subst P (sym (moved_by-same f x some.new xs some.is same)) rest
        | inr other ↦ subst P (sym (moved_by-other f x some.new xs some.is other)) (more some.new some.is other)
      ]
    ]

moved_by-nil : (f : ℕ → Option ℕ) → moved_by f [] ≡ []
unfolding moved_by
moved_by-nil f = refl

dropped_by-nil : (f : ℕ → Option ℕ) → dropped_by f [] ≡ []
unfolding dropped_by
dropped_by-nil f = refl

pub differ-by : (f : ℕ → Option ℕ) (xs : List ℕ) → Differ (moved_by f xs)
unfolding moved_by Differ
differ-by f [] = tt
differ-by f (x ∷ xs) = moved_cases Differ f x xs (differ-by f xs) (λ y is other. (other, differ-by f xs))

-- ---- members

pub olds-cons : (pair : Recode) (moved : List Recode) → olds (pair ∷ moved) ≡ pair.old ∷ olds moved
unfolding olds
olds-cons pair moved = refl

pub news-cons : (pair : Recode) (moved : List Recode) → news (pair ∷ moved) ≡ pair.new ∷ news moved
unfolding news
news-cons pair moved = refl

pub olds-nil : olds [] ≡ []
unfolding olds
olds-nil = refl

pub news-nil : news [] ≡ []
unfolding news
news-nil = refl

-- a code of the list that becomes another one
pub record BecomesOther (f : ℕ → Option ℕ) (codes : List ℕ) (old : ℕ) : Type 0 where
  pub among : IsIn old codes
  pub new : ℕ
  pub becomes : f old ≡ Some new
  pub other : old ≢ new

changes-more : (f : ℕ → Option ℕ) (x : ℕ) (xs : List ℕ) (n : ℕ) → BecomesOther f xs n → BecomesOther f (x ∷ xs) n
changes-more f x xs n c = record { among = IsIn-cons n x xs c.among; new = c.new; becomes = c.becomes; other = c.other }

pub old_changes : (f : ℕ → Option ℕ) (xs : List ℕ) (n : ℕ) → IsIn n (olds (moved_by f xs)) → BecomesOther f xs n
old_changes f [] n h = nowhere n (ap (holds n) (sym olds-nil) ∙ ap (λ (m : List Recode). holds n (olds m)) (sym (moved_by-nil f)) ∙ h)
old_changes f (x ∷ xs) n h =
    moved_cases (λ moved. IsIn n (olds moved) → BecomesOther f (x ∷ xs) n) f x xs
    (λ in_rest. changes-more f x xs n (old_changes f xs n in_rest))
    (λ y is other in_all. elim (cases_eq x n) [
      | inl here ↦ record { among = holds-cons_eq n x xs here; new = y; becomes = ap f (sym here) ∙ is; other = (λ e. other (here ∙ e)) }
      | inr past ↦ changes-more f x xs n (old_changes f xs n (IsIn-rest n x (olds (moved_by f xs)) past (ap (holds n) (sym (olds-cons (record { old = x; new = y }) (moved_by f xs))) ∙ in_all)))
    ])
    h

pub changes_old : (f : ℕ → Option ℕ) (xs : List ℕ) (n new : ℕ) → IsIn n xs → f n ≡ Some new → n ≢ new → IsIn n (olds (moved_by f xs))
changes_old f [] n new among is other = nowhere n among
changes_old f (x ∷ xs) n new among is other =
    elim (cases_eq x n) [
      | inl here ↦
          let first : IsIn n (x ∷ olds (moved_by f xs)) = holds-cons_eq n x (olds (moved_by f xs)) here in
          ap (λ (m : List Recode). holds n (olds m)) (moved_by-other f x new xs (ap f here ∙ is) (λ e. other (sym here ∙ e)))
          ∙ ap (holds n) (olds-cons (record { old = x; new = new }) (moved_by f xs))
          ∙ first
      | inr past ↦
          let rest = changes_old f xs n new (IsIn-rest n x xs past among) is other in
          moved_cases (λ moved. IsIn n (olds moved)) f x xs rest
          (λ y _ _. ap (holds n) (olds-cons (record { old = x; new = y }) (moved_by f xs)) ∙ IsIn-cons n x (olds (moved_by f xs)) rest)
    ]

-- a code of the list that becomes this one
pub record Becomes (f : ℕ → Option ℕ) (codes : List ℕ) (new : ℕ) : Type 0 where
  pub old : ℕ
  pub among : IsIn old codes
  pub becomes : f old ≡ Some new

becomes-more : (f : ℕ → Option ℕ) (x : ℕ) (xs : List ℕ) (n : ℕ) → Becomes f xs n → Becomes f (x ∷ xs) n
becomes-more f x xs n b = record { old = b.old; among = IsIn-cons b.old x xs b.among; becomes = b.becomes }

pub new_becomes : (f : ℕ → Option ℕ) (xs : List ℕ) (n : ℕ) → IsIn n (news (moved_by f xs)) → Becomes f xs n
new_becomes f [] n h = nowhere n (ap (holds n) (sym news-nil) ∙ ap (λ (m : List Recode). holds n (news m)) (sym (moved_by-nil f)) ∙ h)
new_becomes f (x ∷ xs) n h =
    moved_cases (λ moved. IsIn n (news moved) → Becomes f (x ∷ xs) n) f x xs
    (λ in_rest. becomes-more f x xs n (new_becomes f xs n in_rest))
    (λ y is other in_all. elim (cases_eq y n) [
      | inl here ↦ record { old = x; among = first_in x xs; becomes = is ∙ ap (λ (m : ℕ). Some m) here }
      | inr past ↦ becomes-more f x xs n (new_becomes f xs n (IsIn-rest n y (news (moved_by f xs)) past (ap (holds n) (sym (news-cons (record { old = x; new = y }) (moved_by f xs))) ∙ in_all)))
    ])
    h

-- a code of the list of which nothing becomes
pub record Vanishes (f : ℕ → Option ℕ) (codes : List ℕ) (old : ℕ) : Type 0 where
  pub among : IsIn old codes
  pub becomes : f old ≡ None

pub dropped_vanishes : (f : ℕ → Option ℕ) (xs : List ℕ) (n : ℕ) → IsIn n (dropped_by f xs) → Vanishes f xs n
dropped_vanishes f [] n h = nowhere n (ap (holds n) (sym (dropped_by-nil f)) ∙ h)
dropped_vanishes f (x ∷ xs) n h =
    let more = λ (v : Vanishes f xs n). (let w : Vanishes f (x ∷ xs) n = record { among = IsIn-cons n x xs v.among; becomes = v.becomes } in w) in
    elim (cases_Option (f x)) [
      | inl none ↦
          let at : IsIn n (x ∷ dropped_by f xs) = ap (holds n) (sym (dropped_by-none f x xs none)) ∙ h in
          elim (cases_eq x n) [
            | inl here ↦ record { among = holds-cons_eq n x xs here; becomes = ap f (sym here) ∙ none }
            | inr past ↦ more (dropped_vanishes f xs n (IsIn-rest n x (dropped_by f xs) past at))
          ]
      | inr some ↦ more (dropped_vanishes f xs n (ap (holds n) (sym (dropped_by-some f x some.new xs some.is)) ∙ h))
    ]

pub vanishes_dropped : (f : ℕ → Option ℕ) (xs : List ℕ) (n : ℕ) → IsIn n xs → f n ≡ None → IsIn n (dropped_by f xs)
vanishes_dropped f [] n among is = nowhere n among
vanishes_dropped f (x ∷ xs) n among is =
    elim (cases_eq x n) [
      | inl here ↦ ap (holds n) (dropped_by-none f x xs (ap f here ∙ is)) ∙ holds-cons_eq n x (dropped_by f xs) here
      | inr past ↦
          let rest = vanishes_dropped f xs n (IsIn-rest n x xs past among) is in
          elim (cases_Option (f x)) [
            | inl none ↦ ap (holds n) (dropped_by-none f x xs none) ∙ IsIn-cons n x (dropped_by f xs) rest
            | inr some ↦ ap (holds n) (dropped_by-some f x some.new xs some.is) ∙ rest
          ]
    ]

-- ---- what the change makes of a code of the list

pub new_code-nil : (n : ℕ) → new_code [] n ≡ n
unfolding new_code
new_code-nil n = refl

-- a code that isn't the old one of a pair stays
pub new_code-free : (moved : List Recode) (n : ℕ) → holds n (olds moved) ≡ false → new_code moved n ≡ n
new_code-free [] n free = new_code-nil n
new_code-free (pair ∷ moved) n free =
    elim (cases_eq pair.old n) [
      | inl here ↦ absurd (let e : true ≡ false = sym (holds-cons_eq n pair.old (olds moved) here) ∙ ap (holds n) (sym (olds-cons pair moved)) ∙ free in cc)
      | inr past ↦ new_code-past pair moved n past ∙ new_code-free moved n (sym (holds-cons_ne n pair.old (olds moved) past) ∙ ap (holds n) (sym (olds-cons pair moved)) ∙ free)
    ]

new_code-skip : (f : ℕ → Option ℕ) (x : ℕ) (xs : List ℕ) (n : ℕ) → x ≢ n → new_code (moved_by f (x ∷ xs)) n ≡ new_code (moved_by f xs) n
new_code-skip f x xs n past =
    moved_cases (λ moved. new_code moved n ≡ new_code (moved_by f xs) n) f x xs refl (λ y _ _. new_code-past (record { old = x; new = y }) (moved_by f xs) n past)

-- a code that becomes itself is the old one of no pair
free_of_same : (f : ℕ → Option ℕ) (xs : List ℕ) (n : ℕ) → f n ≡ Some n → holds n (olds (moved_by f xs)) ≡ false
free_of_same f xs n is =
    elim (cases_Bool (holds n (olds (moved_by f xs)))) [
      | inl held ↦ absurd (let c = old_changes f xs n held in let e : Some n ≡ Some c.new = sym is ∙ c.becomes in c.other (cc))
      | inr free ↦ free
    ]

pub new_code-by : (f : ℕ → Option ℕ) (xs : List ℕ) (n new : ℕ) → IsIn n xs → f n ≡ Some new → new_code (moved_by f xs) n ≡ new
new_code-by f [] n new among is = nowhere n among
new_code-by f (x ∷ xs) n new among is =
    elim (cases_eq n new) [
      | inl same ↦ new_code-free (moved_by f (x ∷ xs)) n (free_of_same f (x ∷ xs) n (is ∙ ap (λ (m : ℕ). Some m) (sym same))) ∙ same
      | inr other ↦ elim (cases_eq x n) [
        | inl here ↦
            ap (λ (m : List Recode). new_code m n) (moved_by-other f x new xs (ap f here ∙ is) (λ e. other (sym here ∙ e)))
            ∙ new_code-here (record { old = x; new = new }) (moved_by f xs) n here
        | inr past ↦ new_code-skip f x xs n past ∙ new_code-by f xs n new (IsIn-rest n x xs past among) is
      ]
    ]

unfoldable pub by : (ℕ → Option ℕ) → List ℕ → List ℕ → Sum
by f codes added = record { moved = moved_by f codes; dropped = dropped_by f codes; added = added }

kept_by : (f : ℕ → Option ℕ) (codes : List ℕ) (n new : ℕ) → f n ≡ Some new → holds n (dropped_by f codes) ≡ false
kept_by f codes n new is =
    elim (cases_Bool (holds n (dropped_by f codes))) [
      | inl held ↦ absurd (let v = dropped_vanishes f codes n held in let e : None ≡ Some new = sym v.becomes ∙ is in cc)
      | inr free ↦ free
    ]

-- of each code of the list becomes what the function makes of it
pub applied-by : (f : ℕ → Option ℕ) (codes added : List ℕ) (n : ℕ) → IsIn n codes → applied (by f codes added) n ≡ f n
unfolding by
applied-by f codes added n among =
    elim (cases_Option (f n)) [
      | inl none ↦ applied-dropped (by f codes added) n (vanishes_dropped f codes n among none) ∙ sym none
      | inr some ↦
          applied-kept (by f codes added) n (kept_by f codes n some.new some.is)
          ∙ ap (λ (m : ℕ). Some m) (new_code-by f codes n some.new among some.is)
          ∙ sym some.is
    ]

-- ---- in normal form

pub IsIncreasing-dropped_by : (f : ℕ → Option ℕ) (xs : List ℕ) → IsIncreasing xs → IsIncreasing (dropped_by f xs)
IsIncreasing-dropped_by f [] up = subst IsIncreasing (sym (dropped_by-nil f)) IsIncreasing-nil
IsIncreasing-dropped_by f (x ∷ xs) up =
    let rest = IsIncreasing-dropped_by f xs (IsIncreasing-rest x xs up) in
    elim (cases_Option (f x)) [
      | inl none ↦
          let above : IsBelowAll x (dropped_by f xs) = IsBelowAll-members x (dropped_by f xs) (λ n h. lt_of_IsIn x n xs (IsBelowAll-first x xs up) (dropped_vanishes f xs n h).among) in
          subst IsIncreasing (sym (dropped_by-none f x xs none)) (IsIncreasing-cons x (dropped_by f xs) above rest)
      | inr some ↦ subst IsIncreasing (sym (dropped_by-some f x some.new xs some.is)) rest
    ]

pub olds-up : (f : ℕ → Option ℕ) (xs : List ℕ) → IsIncreasing xs → IsIncreasing (olds (moved_by f xs))
olds-up f [] up = subst IsIncreasing (sym olds-nil ∙ ap olds (sym (moved_by-nil f))) IsIncreasing-nil
olds-up f (x ∷ xs) up =
    let rest = olds-up f xs (IsIncreasing-rest x xs up) in
    moved_cases (λ moved. IsIncreasing (olds moved)) f x xs rest (λ y is other.
    let above : IsBelowAll x (olds (moved_by f xs)) = IsBelowAll-members x (olds (moved_by f xs)) (λ n h. lt_of_IsIn x n xs (IsBelowAll-first x xs up) (old_changes f xs n h).among) in
    subst IsIncreasing (sym (olds-cons (record { old = x; new = y }) (moved_by f xs))) (IsIncreasing-cons x (olds (moved_by f xs)) above rest))

pub news-up : (f : ℕ → Option ℕ) (xs : List ℕ) → IsIncreasing xs → InOrder f xs → IsIncreasing (news (moved_by f xs))
news-up f [] up order = subst IsIncreasing (sym news-nil ∙ ap news (sym (moved_by-nil f))) IsIncreasing-nil
news-up f (x ∷ xs) up order =
    let rest = news-up f xs (IsIncreasing-rest x xs up) (λ a b new_a new_b in_a in_b. order a b new_a new_b (IsIn-cons a x xs in_a) (IsIn-cons b x xs in_b)) in
    moved_cases (λ moved. IsIncreasing (news moved)) f x xs rest (λ y is other.
    let above : IsBelowAll y (news (moved_by f xs)) = IsBelowAll-members y (news (moved_by f xs)) (λ n h.
    let b = new_becomes f xs n h in
    order x b.old y n (first_in x xs) (IsIn-cons b.old x xs b.among) (lt_of_IsIn x b.old xs (IsBelowAll-first x xs up) b.among) is b.becomes) in
    subst IsIncreasing (sym (news-cons (record { old = x; new = y }) (moved_by f xs))) (IsIncreasing-cons y (news (moved_by f xs)) above rest))

pub IsNormal-by : (f : ℕ → Option ℕ) (codes added : List ℕ) → IsIncreasing codes → InOrder f codes → IsIncreasing added → IsNormal (by f codes added)
unfolding by olds news
IsNormal-by f codes added up order up_added =
    record {
      increase = record { old = olds-up f codes up; new = news-up f codes up order; dropped = IsIncreasing-dropped_by f codes up; added = up_added };
      apart = λ n h. elim (cases_Bool (holds n (olds (moved_by f codes)))) [
        | inl held ↦ absurd (let v = dropped_vanishes f codes n h in let c = old_changes f codes n held in let e : None ≡ Some c.new = sym v.becomes ∙ c.becomes in cc)
        | inr free ↦ free
      ];
      differ = differ-by f codes;
    }
