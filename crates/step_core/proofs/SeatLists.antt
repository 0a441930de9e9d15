-- Seats that are finished one after the other.
use Rattle.std.proofs.Common.{◌≡◌, ◌∙◌, ◌++◌, ◌∷◌, [], List, ap, sym, subst, map}
use Rattle.std.proofs.lemmas.List.{append_assoc, append-nil}
use Rattle.mope_base.specs.Lists.{Each}
use Rattle.proxy.specs.declared.outcomes.Finished.{Finished}
use Rattle.step_core.specs.Inside.{sitting_of}
use Rattle.step_core.specs.Sittings.{HasFinished, finished_of}
use Rattle.step_core.specs.declared.seat.Seat.{Seat}

ends_of : List Seat → List Finished
ends_of seats = map finished_of (map sitting_of seats)

pub all-left : (all : List Seat) (made : List Finished) (rest : List Seat) → made ≡ [] → rest ≡ all → Each HasFinished (map sitting_of all) → Each HasFinished (map sitting_of rest) × (made ++ map finished_of (map sitting_of rest) ≡ map finished_of (map sitting_of all))
unfolding ends_of
all-left all made rest none same over =
    (subst (λ (l : List Seat). Each HasFinished (map sitting_of l)) (sym same) over, ap (λ (l : List Finished). l ++ ends_of rest) none ∙ ap ends_of same)

pub first-finished : (rest more : List Seat) (x : Seat) → rest ≡ x ∷ more → Each HasFinished (map sitting_of rest) → HasFinished (sitting_of x)
unfolding Each
first-finished rest more x same over = (subst (λ (l : List Seat). Each HasFinished (map sitting_of l)) same over).0

pub one-more : (all : List Seat) (made next : List Finished) (rest more : List Seat) (x : Seat) (f : Finished) → f ≡ finished_of (sitting_of x) → next ≡ made ++ f ∷ [] → rest ≡ x ∷ more
    → Each HasFinished (map sitting_of rest) → made ++ map finished_of (map sitting_of rest) ≡ map finished_of (map sitting_of all)
    → Each HasFinished (map sitting_of more) × (next ++ map finished_of (map sitting_of more) ≡ map finished_of (map sitting_of all))
unfolding Each ends_of
one-more all made next rest more x f is pushed same over so_far = (
  (subst (λ (l : List Seat). Each HasFinished (map sitting_of l)) same over).1,
  ap (λ (l : List Finished). l ++ ends_of more) pushed
      ∙ append_assoc made (f ∷ []) (ends_of more)
      ∙ ap (λ (y : Finished). made ++ y ∷ ends_of more) is
      ∙ sym (ap (λ (l : List Seat). made ++ ends_of l) same)
      ∙ so_far,
)

pub none-left : (all : List Seat) (made : List Finished) (rest : List Seat) → rest ≡ [] → made ++ map finished_of (map sitting_of rest) ≡ map finished_of (map sitting_of all) → made ≡ map finished_of (map sitting_of all)
unfolding ends_of
none-left all made rest none so_far = sym (append-nil made) ∙ sym (ap (λ (l : List Seat). made ++ ends_of l) none) ∙ so_far
