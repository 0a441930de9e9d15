-- A state without turns.
use Rattle.std.proofs.Common.{◌≡◌, ℕ, suc, zero, ◌≤◌, List, [], take, refl, arith}
use Rattle.versions.specs.Databases.{Database}
use Rattle.versions.specs.Turns.{replay, AreTold}
use Rattle.txn_core.specs.Since.{SameShelf, IsSince, IsCourse}

pub shelf-same : {B : Type 0} (s : _) → SameShelf B s s
shelf-same s = record { kept = refl; next = refl; items = refl }

pub since-itself : (d : Database) → IsSince d d
since-itself d = record { mode = refl; rows = refl; as_many = refl; later = omega arith; unwritten = λ table h. shelf-same _ }

take-none : {A : Type 0} (n : ℕ) → take n (let xs : List A = [] in xs) ≡ []
take-none zero = refl
take-none (suc n) = refl

replay-none : (taken : ℕ) (d : Database) → replay (take taken []) d ≡ d
unfolding replay
replay-none zero d = refl
replay-none (suc taken) d = refl

pub starts : (d : Database) → d.number ≤ 1 → IsCourse d [] d
unfolding AreTold replay
starts d low =
    record {
      replays = record { told = tt; leads = refl };
      low = omega arith;
      since = λ taken h. rw (replay-none taken d) (since-itself d);
    }
