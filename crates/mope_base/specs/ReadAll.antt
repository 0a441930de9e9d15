-- How the reading of a whole input ends. The bytes that were left before and after are known or not.
use Rattle.std.specs.Prelude.{◌≡◌, ℕ, Option, ◌+◌, ◌<◌, ◌≤◌, List, ◌++◌, length, ⊤, Result, Ok, Err}
use Rattle.std.specs.Io.KnownBytes.{Consumes, IsAtEnd}
use Rattle.mope_base.specs.Faults.{Rose}
use Rattle.mope_base.specs.declared.reading.ReadStop.{ReadStop}
use Rattle.mope_base.specs.declared.reading.ReadStop.TheVariants.{Failed, TooLong, OutOfMemory}

-- these bytes, of which there are at most so many, were taken, and no more are left
pub record TakesAll (old new : Option (List ℕ)) (most : ℕ) (bytes : List ℕ) : Type 0 where
  pub taken : Consumes old new bytes
  pub ended : IsAtEnd new
  pub within : length bytes ≤ most

-- some bytes, exactly so many, were taken
pub record TakesExactly (old new : Option (List ℕ)) (count : ℕ) : Type 0 where
  pub bytes : List ℕ
  pub taken : Consumes old new bytes
  pub long : length bytes ≡ count

-- some bytes, at most so many, were taken
pub record TakesAtMost (old new : Option (List ℕ)) (most : ℕ) : Type 0 where
  pub bytes : List ℕ
  pub taken : Consumes old new bytes
  pub within : length bytes ≤ most

-- why the reading stopped before it had all: a fault of the input, one byte too many, or want of memory, which needs no cause
abbrev pub StopsFor : (old new : Option (List ℕ)) (before now most : ℕ) → ReadStop → Type 0
StopsFor old new before now most Failed = Rose before now × TakesAtMost old new most
StopsFor old new before now most TooLong = TakesExactly old new (most + 1)
StopsFor old new before now most OutOfMemory = TakesAtMost old new (most + 1)

-- the count of faults rose where a read failed, and else it stayed
abbrev pub CountsFaults : {T : Type 0} → (before now : ℕ) → Result T ReadStop → Type 0
CountsFaults before now (Ok got) = now ≡ before
CountsFaults before now (Err Failed) = Rose before now
CountsFaults before now (Err TooLong) = now ≡ before
CountsFaults before now (Err OutOfMemory) = now ≡ before

-- the answer to an input of these bytes: all of them if they are at most so many, and that they are too many if not, unless the count of faults rose or memory did not suffice
abbrev pub AnswersLength : (before now most : ℕ) (left : List ℕ) → Result (List ℕ) ReadStop → Type 0
AnswersLength before now most left (Ok bytes) = (bytes ≡ left) × (length left ≤ most)
AnswersLength before now most left (Err Failed) = Rose before now
AnswersLength before now most left (Err TooLong) = most < length left
AnswersLength before now most left (Err OutOfMemory) = ⊤

-- a read added so many bytes, which stay at most `most`, and it added none only at the end
pub record AddsPiece (old new : Option (List ℕ)) (had has : List ℕ) (most count : ℕ) : Type 0 where
  pub piece : List ℕ
  pub taken : Consumes old new piece
  pub added : has ≡ had ++ piece
  pub long : length piece ≡ count
  pub within : length has ≤ most
  pub ended : count ≡ 0 → IsAtEnd new
