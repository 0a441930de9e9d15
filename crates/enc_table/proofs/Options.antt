-- What is known of an option by whether there is something.
use Rattle.std.proofs.Common.{◌≡◌, refl, subst, Option, Some, None}
use Rattle.std.specs.Option.{IsSome, MatchOption, SomeIff}

pub some_unless : {A : Type 0} (P : Type 0) (Q : A → Type 0) (r : Option A) → MatchOption r P Q → (P → ⊥) → IsSome r
some_unless P Q None told not = absurd (not told)
some_unless P Q (Some x) told not = refl

pub told_of_some : {A : Type 0} (P : Type 0) (Q : A → Type 0) (r : Option A) (x : A) → MatchOption r P Q → r ≡ Some x → Q x
told_of_some {A} P Q r x told is = subst (λ (o : Option A). MatchOption o P Q) is told

pub some_where : {A : Type 0} (P : Type 0) (v : A) (r : Option A) → SomeIff r P v → P → IsSome r
some_where P v None told there = absurd (told there)
some_where P v (Some x) told there = refl

pub value_of_some : {A : Type 0} (P : Type 0) (v : A) (r : Option A) (x : A) → SomeIff r P v → r ≡ Some x → x ≡ v
value_of_some {A} P v r x told is = (subst (λ (o : Option A). SomeIff o P v) is told).1
