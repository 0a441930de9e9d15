-- Texts that grow at their end, in steps and by the elements of a list.
use Rattle.std.proofs.Common.{◌≡◌, refl, sym, ◌∙◌, ap, ℕ, ◌+◌, ◌<◌, ◌≤◌, List, [], ◌∷◌, ◌++◌, length, get_or, drop, append_assoc, append-nil}
use Rattle.std.proofs.lemmas.List.{drop_more, drop_all}
use Rattle.std.proofs.lemmas.List.Concat.{flat_map-cons}
use Rattle.std.specs.List.{flat_map}
use Rattle.std.specs.Fmt.{decimal}
use Rattle.mope_base.specs.declared.numbers.SessionNo.{SessionNo}
use Rattle.workload.specs.Report.{after_commas}

-- what is appended in two steps is appended as one
pub twice : {A : Type 0} (old first second : List A) {middle new : List A} → middle ≡ old ++ first → new ≡ middle ++ second → new ≡ old ++ (first ++ second)
twice old first second e f = f ∙ ap (λ l. l ++ second) e ∙ append_assoc old first second

pub thrice : {A : Type 0} (old first second third : List A) {one two new : List A} → one ≡ old ++ first → two ≡ one ++ second → new ≡ two ++ third
    → new ≡ old ++ ((first ++ second) ++ third)
thrice old first second third e f g = twice old (first ++ second) third (twice old first second e f) g

-- by the elements of a list: what is left of it, put behind the text so far, gives the whole
pub more_pieces : {X A : Type 0} (f : X → List A) (text next whole : List A) (xs : List X) (i : ℕ) (x : X) → i < length xs → x ≡ get_or xs i x → next ≡ text ++ f x
    → text ++ flat_map f (drop i xs) ≡ whole → next ++ flat_map f (drop (i + 1) xs) ≡ whole
more_pieces {X} f text next whole xs i x h at e so_far =
    let rest : List X = drop (i + 1) xs in
    let split : drop i xs ≡ x ∷ rest = drop_more xs i x h ∙ ap (λ (y : X). y ∷ rest) (sym at) in
    ap (λ l. l ++ flat_map f rest) e
    ∙ append_assoc text (f x) (flat_map f rest)
    ∙ ap (λ l. text ++ l) (sym (flat_map-cons f x rest))
    ∙ ap (λ (ys : List X). text ++ flat_map f ys) (sym split)
    ∙ so_far

pub all_pieces : {X A : Type 0} (f : X → List A) (text whole : List A) (xs : List X) (i : ℕ) → length xs ≤ i
    → text ++ flat_map f (drop i xs) ≡ whole → text ≡ whole
all_pieces {X} f text whole xs i h so_far =
    sym (append-nil text) ∙ ap (λ (ys : List X). text ++ flat_map f ys) (sym (drop_all i xs h)) ∙ so_far

-- a session after a comma
unfoldable pub after_comma : SessionNo → List ℕ
after_comma s = 44 ∷ decimal s.0

pub after_commas-pieces : (sessions : List SessionNo) → flat_map after_comma sessions ≡ after_commas sessions
unfolding after_commas after_comma
after_commas-pieces [] = refl
after_commas-pieces (s ∷ sessions) = flat_map-cons after_comma s sessions ∙ ap (λ l. after_comma s ++ l) (after_commas-pieces sessions)
