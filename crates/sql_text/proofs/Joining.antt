-- Lists of elements with a mark between them, one element at a time.
use Rattle.std.proofs.Common.{◌≡◌, List, [], ◌∷◌, ◌++◌, refl, ap, sym, ◌∙◌, append_assoc}
use Rattle.std.proofs.lemmas.List.{append-nil}
use Rattle.sql_text.specs.Grammar.{joined, joined_after, HasSome}
use Rattle.sql_text.specs.declared.marks.Mark.{Mark}
use Rattle.sql_text.specs.declared.tokens.Token.{Token}
use Rattle.sql_text.specs.declared.tokens.Token.TheVariants.{Fixed}

-- the elements of a list after which another follows: a mark stands behind the last
unfoldable pub opened : Mark → List (List Token) → List Token
opened mark [] = []
opened mark (element ∷ rest) = joined mark (element ∷ rest) ++ Fixed mark ∷ []

pub joined_after-snoc : (mark : Mark) (xs : List (List Token)) (x : List Token) → joined_after mark (xs ++ x ∷ []) ≡ joined_after mark xs ++ Fixed mark ∷ x
unfolding joined_after
joined_after-snoc mark [] x = ap (λ r. Fixed mark ∷ r) (append-nil x)
joined_after-snoc mark (y ∷ ys) x = ap (λ r. Fixed mark ∷ (y ++ r)) (joined_after-snoc mark ys x) ∙ ap (λ r. Fixed mark ∷ r) (sym (append_assoc y (joined_after mark ys) (Fixed mark ∷ x)))

-- one more element
pub joined-opened : (mark : Mark) (xs : List (List Token)) (x : List Token) → joined mark (xs ++ x ∷ []) ≡ opened mark xs ++ x
unfolding joined joined_after opened
joined-opened mark [] x = append-nil x
joined-opened mark (y ∷ ys) x = ap (λ r. y ++ r) (joined_after-snoc mark ys x) ∙ (sym (append_assoc y (joined_after mark ys) (Fixed mark ∷ x)) ∙ sym (append_assoc (y ++ joined_after mark ys) (Fixed mark ∷ []) x))

-- the mark behind the last element
pub joined-mark : (mark : Mark) (xs : List (List Token)) → HasSome xs → joined mark xs ++ Fixed mark ∷ [] ≡ opened mark xs
unfolding opened
joined-mark mark [] some = absurd some
joined-mark mark (x ∷ xs) some = refl
