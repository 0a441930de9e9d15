-- Lists of uses in which each name stands once.
use Rattle.std.proofs.Common.{◌≡◌, ◌∙◌, ◌&&◌, ◌||◌, Bool, true, false, not, List, [], ◌∷◌, ◌++◌, Option, Some, None, refl, sym, ap, true≢false}
use Rattle.std.specs.Str.{bytes_eq}
use Rattle.std.proofs.lemmas.Slice.Eq.{bytes_eq-Decides}
use Rattle.std.proofs.lemmas.List.{append_assoc}
use Rattle.command_words.specs.Grammar.{Text, Use, before, distinct, has}

pub eq_self : (t : Text) → bytes_eq t t ≡ true
eq_self t = (bytes_eq-Decides t t).1 refl

pub eq_turns : (a b : Text) → bytes_eq a b ≡ true → bytes_eq b a ≡ true
eq_turns a b e = (bytes_eq-Decides b a).1 (sym ((bytes_eq-Decides a b).0 e))

pub eq_not_turns : (a b : Text) → bytes_eq a b ≡ false → bytes_eq b a ≡ false
eq_not_turns a b e = go (bytes_eq b a) refl
  where
    go : (t : Bool) → bytes_eq b a ≡ t → bytes_eq b a ≡ false
    go true f = absurd (true≢false (sym (eq_turns b a f) ∙ e))
    go false f = f

pub has-append : (name : Text) (xs ys : List Use) → has name (xs ++ ys) ≡ (has name xs || has name ys)
has-append name [] ys = refl
has-append name (x ∷ xs) ys = go (bytes_eq x.0 name) (has-append name xs ys)
  where
    go : (b : Bool) → has name (xs ++ ys) ≡ (has name xs || has name ys)
        → (b || has name (xs ++ ys)) ≡ ((b || has name xs) || has name ys)
    go true rest = refl
    go false rest = rest

-- a name that stands in the front stands in the whole
has_more : (name : Text) (xs ys : List Use) → has name xs ≡ true → has name (xs ++ ys) ≡ true
has_more name xs ys e = has-append name xs ys ∙ ap (λ b. b || has name ys) e

pub has_last : (name : Text) (xs : List Use) (v : Option Text) (ys : List Use) → has name (xs ++ (name, v) ∷ ys) ≡ true
has_last name [] v ys = ap (λ b. b || has name ys) (eq_self name)
has_last name (x ∷ xs) v ys = go (bytes_eq x.0 name) (has_last name xs v ys)
  where
    go : (b : Bool) → has name (xs ++ (name, v) ∷ ys) ≡ true → (b || has name (xs ++ (name, v) ∷ ys)) ≡ true
    go true rest = refl
    go false rest = rest

and_false : (a b : Bool) → b ≡ false → (a && b) ≡ false
and_false true b f = f
and_false false b f = refl

-- a name that stands before is no new one
pub repeats : (name : Text) (xs : List Use) (v : Option Text) (ys : List Use) → has name xs ≡ true → distinct (xs ++ (name, v) ∷ ys) ≡ false
unfolding distinct
repeats name [] v ys e = absurd (true≢false (sym e))
repeats name (x ∷ xs) v ys e = go (bytes_eq x.0 name) refl (λ f. repeats name xs v ys f) e
  where
    go : (b : Bool) → bytes_eq x.0 name ≡ b → (has name xs ≡ true → distinct (xs ++ (name, v) ∷ ys) ≡ false) → (b || has name xs) ≡ true → (not (has x.0 (xs ++ (name, v) ∷ ys)) && distinct (xs ++ (name, v) ∷ ys)) ≡ false
    go true same rest f =
        let is : x.0 ≡ name = (bytes_eq-Decides x.0 name).0 same in
        let there : has x.0 (xs ++ (name, v) ∷ ys) ≡ true = ap (λ t. has t (xs ++ (name, v) ∷ ys)) is ∙ has_last name xs v ys in
        ap (λ b. not b && distinct (xs ++ (name, v) ∷ ys)) there
    go false same rest f = and_false (not (has x.0 (xs ++ (name, v) ∷ ys))) _ (rest f)

both_of : (a b : Bool) → (a && b) ≡ true → (a ≡ true) × (b ≡ true)
both_of true b e = (refl, e)
both_of false b e = absurd (true≢false (sym e))

-- the front of a list without repeats has none
pub front_distinct : (xs ys : List Use) → distinct (xs ++ ys) ≡ true → distinct xs ≡ true
unfolding distinct
front_distinct [] ys e = refl
front_distinct (x ∷ xs) ys e =
    let parts = both_of _ _ e in
    let new : has x.0 xs ≡ false = absent (has x.0 xs) refl (not_true _ parts.0) in
    ap (λ b. not b && distinct xs) new ∙ front_distinct xs ys parts.1
  where
    not_true : (b : Bool) → not b ≡ true → b ≡ false
    not_true true f = absurd (true≢false (sym f))
    not_true false f = refl

    absent : (b : Bool) → has x.0 xs ≡ b → has x.0 (xs ++ ys) ≡ false → has x.0 xs ≡ false
    absent true f g = absurd (true≢false (sym (has_more x.0 xs ys f) ∙ g))
    absent false f g = f

-- a new name keeps a list without repeats
pub stays_distinct : (name : Text) (xs : List Use) (v : Option Text) → distinct xs ≡ true → has name xs ≡ false → distinct (xs ++ (name, v) ∷ []) ≡ true
unfolding distinct
stays_distinct name [] v d e = refl
stays_distinct name (x ∷ xs) v d e = go (bytes_eq x.0 name) refl (λ f g. stays_distinct name xs v f g) e
  where
    not_true : (b : Bool) → not b ≡ true → b ≡ false
    not_true true f = absurd (true≢false (sym f))
    not_true false f = refl

    go : (b : Bool) → bytes_eq x.0 name ≡ b → (distinct xs ≡ true → has name xs ≡ false → distinct (xs ++ (name, v) ∷ []) ≡ true)
        → (b || has name xs) ≡ false → (not (has x.0 (xs ++ (name, v) ∷ [])) && distinct (xs ++ (name, v) ∷ [])) ≡ true
    go true same rest f = absurd (true≢false f)
    go false same rest f =
        let parts = both_of _ _ d in
        let new : has x.0 (xs ++ (name, v) ∷ []) ≡ false =
        has-append x.0 xs ((name, v) ∷ []) ∙ (ap (λ b. b || (bytes_eq name x.0 || false)) (not_true _ parts.0) ∙ ap (λ b. b || false) (eq_not_turns x.0 name same)) in
        ap (λ b. not b && distinct (xs ++ (name, v) ∷ [])) new ∙ rest parts.1 f

-- what repeats a name repeats it with more behind
pub still_repeats : (xs ys : List Use) → distinct xs ≡ false → distinct (xs ++ ys) ≡ false
still_repeats xs ys e = go (distinct (xs ++ ys)) refl
  where
    go : (b : Bool) → distinct (xs ++ ys) ≡ b → distinct (xs ++ ys) ≡ false
    go true f = absurd (true≢false (sym (front_distinct xs ys f) ∙ e))
    go false f = f

-- uses before what the rest gives
abbrev pub with : List Use → Option (List Use) → Option (List Use)
with uses None = None
with uses (Some more) = Some (uses ++ more)

pub with-before : (uses : List Use) (u : Use) (rest : Option (List Use)) → with uses (before u rest) ≡ with (uses ++ u ∷ []) rest
with-before uses u None = refl
with-before uses u (Some more) = ap (λ xs. Some xs) (sym (append_assoc uses (u ∷ []) more))
