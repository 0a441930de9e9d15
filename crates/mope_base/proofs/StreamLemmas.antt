-- Lemmas on counts of faults, and on what several reads or writes do one after the other.
use Rattle.std.proofs.Common.{◌≡◌, ℕ, ◌+◌, ◌-◌, ◌<◌, ◌≤◌, min, Option, None, Some, IfSome, Result, Ok, Err, List, [], ◌++◌, length, take, drop, refl, sym, ap, ◌∙◌, subst, arith, append-nil, length-append, take-append-drop}
use Rattle.std.proofs.Math.Seq.{take-add}
use Rattle.std.proofs.lemmas.List.{take-append-le, take_at, drop-drop, drop_all, length-take-le, length-drop}
use Rattle.std.specs.Io.{ReadsAtMost}
use Rattle.std.specs.Io.KnownBytes.{ReadConsumes, Keeps, Appends, Consumes}
use Rattle.std.proofs.KnownBytes.{Appends-trans, Appends-kept, Consumes-trans}
use Rattle.mope_base.specs.declared.reading.ReadStop.{ReadStop}
use Rattle.mope_base.specs.declared.reading.ReadStop.TheVariants.{Failed, TooLong, OutOfMemory}
use Rattle.mope_base.specs.Faults.{Rose}
use Rattle.mope_base.specs.ReadAll.{TakesAll, StopsFor, AnswersLength, AddsPiece}
use Rattle.mope_base.specs.WriteAll.{AppendsFront}

-- a rise shows in every later count
pub Rose-later : (before mid now : ℕ) → Rose before mid → mid ≤ now → Rose before now
Rose-later before mid now rise later = omega arith

-- a rise shows against every earlier count
pub Rose-earlier : (before mid now : ℕ) → before ≤ mid → Rose mid now → Rose before now
Rose-earlier before mid now later rise = omega arith

-- a buffer that goes on behind the part that was read
pub ReadConsumes-longer : {E : Type 0} (a b : Option (List ℕ)) (r : Result ℕ E) (given rest : List ℕ) → ReadsAtMost r given → 0 < length given
    → ReadConsumes a b r given → ReadConsumes a b r (given ++ rest)
ReadConsumes-longer a b (Ok n) given rest bound some read =
    (subst (Consumes a b) (sym (take-append-le n given rest bound.0)) read.0, λ none _. read.1 none some)
ReadConsumes-longer a b (Err e) given rest bound some read = read

-- ---- a source in memory

-- what is left are the bytes that were given, and then those behind them
pub left_given : (bytes from into given : List ℕ) (place piece count : ℕ) → from ≡ drop place bytes → count ≡ min (min piece (length into)) (length from)
    → given ≡ take count from ++ drop count into → drop place bytes ≡ take count given ++ drop (place + count) bytes
left_given bytes from into given place piece count same bound copied =
    let fits : count ≤ length from = omega arith in
    let front : take count given ≡ take count (drop place bytes) = ap (take count) copied ∙ take_at _ _ count (length-take-le count from fits) ∙ ap (take count) same in
    sym (ap (λ l. l ++ drop (place + count) bytes) front ∙ ap (λ l. take count (drop place bytes) ++ l) (sym (drop-drop count place bytes)) ∙ take-append-drop count (drop place bytes))

-- a call that gives nothing to a buffer with room was at the end
pub left_none : (bytes from into : List ℕ) (place piece count : ℕ) → from ≡ drop place bytes → count ≡ min (min piece (length into)) (length from) → 0 < piece → 0 < length into
    → count ≡ 0 → drop (place + count) bytes ≡ []
left_none bytes from into place piece count same bound some room none =
    drop_all (place + count) bytes (omega (arith, length-drop place bytes, ap length same))

-- ---- the reading of a whole input

-- what stands at each turn: the bytes so far were taken, they are not too many, and the count of faults stayed
pub record ReadSoFar (old now : Option (List ℕ)) (before faults most room : ℕ) (bytes : List ℕ) : Type 0 where
  pub taken : Consumes old now bytes
  pub within : length bytes ≤ most
  pub stayed : faults ≡ before
  pub chunk : 0 < room

pub Consumes-added : (a b c : Option (List ℕ)) (had has : List ℕ) (most count : ℕ) → Consumes a b had → AddsPiece b c had has most count → Consumes a c has
Consumes-added a b c had has most count first more = subst (Consumes a c) (sym more.added) (Consumes-trans a b c had more.piece first more.taken)

pub TakesAll-added : (a b c : Option (List ℕ)) (had has : List ℕ) (most : ℕ) → Consumes a b had → AddsPiece b c had has most 0 → TakesAll a c most has
TakesAll-added a b c had has most first more = record { taken = Consumes-added a b c had has most 0 first more; ended = more.ended refl; within = more.within }

-- a stop in a later read, told of the whole
pub StopsFor-after : (a b c : Option (List ℕ)) (before mid now most : ℕ) (had : List ℕ) (stop : ReadStop) → Consumes a b had → length had ≤ most → before ≤ mid
    → StopsFor b c mid now (most - length had) stop → StopsFor a c before now most stop
StopsFor-after a b c before mid now most had Failed first within later s = (
  Rose-earlier before mid now later s.0,
  record {
    bytes = had ++ s.1.bytes;
    taken = Consumes-trans a b c had s.1.bytes first s.1.taken;
    within = omega (arith, length-append had s.1.bytes, s.1.within);
  },
)
StopsFor-after a b c before mid now most had TooLong first within later s = record {
  bytes = had ++ s.bytes;
  taken = Consumes-trans a b c had s.bytes first s.taken;
  long = omega (arith, length-append had s.bytes, s.long);
}
StopsFor-after a b c before mid now most had OutOfMemory first within later s = record {
  bytes = had ++ s.bytes;
  taken = Consumes-trans a b c had s.bytes first s.taken;
  within = omega (arith, length-append had s.bytes, s.within);
}

-- all bytes up to the end are those that were left
pub AnswersLength-all : (a b : Option (List ℕ)) (before now most : ℕ) (bytes : List ℕ) → TakesAll a b most bytes → IfSome a (λ left. AnswersLength before now most left (Ok bytes))
AnswersLength-all None b before now most bytes all = tt
AnswersLength-all (Some xs) None before now most bytes all = absurd all.taken
AnswersLength-all (Some xs) (Some ys) before now most bytes all =
    let same : bytes ≡ xs = sym (all.taken ∙ ap (λ l. bytes ++ l) all.ended ∙ append-nil bytes) in
    (same, subst (λ l. length l ≤ most) same all.within)

-- where one byte too many was taken, more were left
pub AnswersLength-stopped : (a b : Option (List ℕ)) (before now most : ℕ) (stop : ReadStop) → StopsFor a b before now most stop → IfSome a (λ left. AnswersLength before now most left (Err stop))
AnswersLength-stopped None b before now most stop s = tt
AnswersLength-stopped (Some xs) b before now most Failed s = s.0
AnswersLength-stopped (Some xs) None before now most TooLong s = absurd s.taken
AnswersLength-stopped (Some xs) (Some ys) before now most TooLong s = omega (arith, ap length s.taken, length-append s.bytes ys, s.long)
AnswersLength-stopped (Some xs) b before now most OutOfMemory s = tt

-- ---- the writing of a whole text

-- what stands at each turn: the first bytes of the text were written, and the count of faults stayed
pub record WrittenSoFar (old now : Option (List ℕ)) (before faults : ℕ) (text : List ℕ) (done : ℕ) : Type 0 where
  pub appended : Appends old now (take done text)
  pub within : done ≤ length text
  pub stayed : faults ≡ before

pub Appends-more : (a b c : Option (List ℕ)) (text : List ℕ) (done n : ℕ) → Appends a b (take done text) → Appends b c (take n (drop done text))
    → Appends a c (take (done + n) text)
Appends-more a b c text done n first more =
    subst (Appends a c) (sym (take-add done n text)) (Appends-trans a b c _ _ first more)

pub AppendsFront-kept : (a b c : Option (List ℕ)) (text : List ℕ) (done : ℕ) → Appends a b (take done text) → Keeps b c → done < length text → AppendsFront a c text
AppendsFront-kept a b c text done first kept short = record {
  taken = take done text;
  rest = drop done text;
  whole = take-append-drop done text;
  short = omega (arith, length-drop done text);
  appended = Appends-kept a b c _ first kept;
}
