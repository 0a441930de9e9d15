-- What the texts of the statuses say where the bytes of the input are known.
use Rattle.std.proofs.Common.{◌≡◌, refl, sym, ◌∙◌, ap, subst, ℕ, ◌<◌, ◌≤◌, List, [], ◌++◌, length, Option, None, Some, Ok, Err, inl, inr, arith}
use Rattle.std.proofs.lemmas.Bool.{lt-ltb}
use Rattle.std.proofs.lemmas.List.{append-nil, length-append}
use Rattle.std.specs.Io.KnownBytes.{Appends, Consumes, IsAtEnd}
use Rattle.mope_base.specs.declared.numbers.SessionNo.{SessionNo}
use Rattle.mope_base.specs.declared.status.Status.{Status}
use Rattle.mope_base.specs.declared.status.Status.TheVariants.{Done, Usage, Input, Memory, ReadFault, WriteFault}
use Rattle.workload.specs.declared.script.Workload.{Workload}
use Rattle.workload.specs.Report.{plain_report}
use Rattle.workload_file.specs.WorkloadFile.{Verdict, GivesUnless, GivesVerdict, IsWorkloadFile, is_too_long}
use Rattle.workload_file.specs.declared.stops.FileReason.{FileReason}
use Rattle.workload_file.specs.declared.stops.FileReason.TheVariants as reason
use Rattle.workload_file.specs.declared.stops.FileStop.TheVariants as stop
use Rattle.workload_file.proofs.OneVerdict.{one_verdict}
use Rattle.mope_top.specs.Batch.{Does, HasSizes, HasText, IsTooLong, NamesFault, Obeys, Reads, ReadsAll, RefusesInput, Stops, StopsEarly, TellsDrawn, TellsPlainly, WritesOrMemory, WritesSomeOrMemory, usage_text}
use Rattle.mope_top.specs.FaultText.{fault_text}
use Rattle.mope_top.specs.Replays.{Reports}
use Rattle.command_words.specs.Grammar.{Text, Use}
use Rattle.command_words.specs.Orders.{AreNoWords, AreWords, IsOrder, NumberOr}
use Rattle.command_words.specs.declared.order.Generating.{Generating}
use Rattle.command_words.specs.declared.order.Order.{Order}
use Rattle.command_words.specs.declared.order.Order.TheVariants.{Replay, Plain, Generate}
use Rattle.command_words.specs.declared.order.Replaying.{Replaying}
use Rattle.command_words.proofs.OrderLemmas.{words-same}

-- bytes that were taken up to the end are all that were left
taken_all : (left : List ℕ) (new : Option (List ℕ)) (bytes : List ℕ) → Consumes (Some left) new bytes → IsAtEnd new → left ≡ bytes
taken_all left None bytes taken ended = absurd taken
taken_all left (Some rest) bytes taken ended = taken ∙ ap (λ r. bytes ++ r) ended ∙ append-nil bytes

-- bytes that were taken are no more than were left
taken_within : (left : List ℕ) (new : Option (List ℕ)) (bytes : List ℕ) → Consumes (Some left) new bytes → length bytes ≤ length left
taken_within left None bytes taken = absurd taken
taken_within left (Some rest) bytes taken = omega (arith, ap length taken, length-append bytes rest)

-- what a status does under right words is what their order does
obeyed : (status : Status) (words : List (List ℕ)) (old new : Option (List ℕ)) (text : List ℕ) (order : Order) → AreWords words order
    → Obeys status words old new text → Does order status old new text
obeyed status words old new text order right obeys =
    subst (λ o. Does o status old new text) (words-same words obeys.order order obeys.words_are right) obeys.does

-- what is so of the bytes of a whole input is so of what was left of it
of_left : (left : List ℕ) (new : Option (List ℕ)) (Is : List ℕ → Type 0) → ReadsAll (Some left) new Is → Is left
of_left left new Is all = subst Is (sym (taken_all left new all.bytes all.all.taken all.all.ended)) all.is

too_long : (left : List ℕ) (new : Option (List ℕ)) → IsTooLong (Some left) new → 67108864 < length left
too_long left new many = omega (arith, taken_within left new many.bytes many.taken, many.long)

-- what a verdict says of a file
workload_in : Workload → Verdict → Workload
workload_in other (Ok w) = w
workload_in other (Err why) = other

fault_in : Verdict → List ℕ
fault_in (Ok w) = []
fault_in (Err (stop.Bad line why)) = fault_text line why
fault_in (Err stop.OutOfMemory) = []

long_gives : (left : List ℕ) (verdict : Verdict) → 67108864 < length left → GivesVerdict left verdict → verdict ≡ Err (stop.Bad 0 reason.InputTooLong)
unfolding is_too_long GivesUnless
long_gives left verdict long gives =
    subst (λ b. GivesUnless b left verdict) (lt-ltb 67108864 (length left) long) gives

-- the file of a workload is never refused
never-refused : (left : List ℕ) (new : Option (List ℕ)) (text : List ℕ) (w : Workload) → IsWorkloadFile left w → ¬ RefusesInput (Some left) new text
never-refused left new text w file refused =
    elim refused [
      | inl all ↦
          let fault : NamesFault left text = of_left left new (λ bytes. NamesFault bytes text) all in
          let same : Err (stop.Bad fault.line fault.why) ≡ Ok w = one_verdict left (Err (stop.Bad fault.line fault.why)) (Ok w) fault.fault file in
          cc
      | inr many ↦ let same : Ok w ≡ Err (stop.Bad 0 reason.InputTooLong) = long_gives left (Ok w) (too_long left new many.0) file in cc
    ]

-- a file that has a fault is refused by its line
refused-by : (left : List ℕ) (new : Option (List ℕ)) (text : List ℕ) (line : ℕ) (why : FileReason) → GivesVerdict left (Err (stop.Bad line why))
    → RefusesInput (Some left) new text → text ≡ fault_text line why
unfolding fault_in
refused-by left new text line why file refused =
    elim refused [
      | inl all ↦
          let fault : NamesFault left text = of_left left new (λ bytes. NamesFault bytes text) all in
          fault.text_is ∙ ap fault_in (one_verdict left (Err (stop.Bad fault.line fault.why)) (Err (stop.Bad line why)) fault.fault file)
      | inr many ↦ many.1 ∙ ap fault_in (sym (long_gives left (Err (stop.Bad line why)) (too_long left new many.0) file))
    ]

-- and it spells no workload
never-spelled : (left : List ℕ) (w : Workload) (line : ℕ) (why : FileReason) → GivesVerdict left (Err (stop.Bad line why)) → ¬ IsWorkloadFile left w
never-spelled left w line why file spelled =
    let same : Ok w ≡ Err (stop.Bad line why) = one_verdict left (Ok w) (Err (stop.Bad line why)) spelled file in
    cc

-- `replay`: with the file of a workload, a text is its report
pub text-replayed : (status : Status) (words : List (List ℕ)) (left : List ℕ) (new : Option (List ℕ)) (text : List ℕ) (r : Replaying) (w : Workload)
    → AreWords words (Replay r) → IsWorkloadFile left w → HasText status words (Some left) new text
    → (status ≡ Done) × Reports r left text
text-replayed Done words left new text r w right file has =
    (refl, of_left left new (λ bytes. Reports r bytes text) (obeyed Done words (Some left) new text (Replay r) right has))
text-replayed Usage words left new text r w right file has = absurd (has.0 (Replay r) right)
text-replayed Input words left new text r w right file has =
    absurd (never-refused left new text w file (obeyed Input words (Some left) new text (Replay r) right has))
text-replayed Memory words left new text r w right file has = absurd has
text-replayed ReadFault words left new text r w right file has = absurd has
text-replayed WriteFault words left new text r w right file has = absurd has

-- and with a file that has a fault, a text is its line
pub text-replay_fault : (status : Status) (words : List (List ℕ)) (left : List ℕ) (new : Option (List ℕ)) (text : List ℕ) (r : Replaying) (line : ℕ) (why : FileReason)
    → AreWords words (Replay r) → GivesVerdict left (Err (stop.Bad line why)) → HasText status words (Some left) new text
    → (status ≡ Input) × (text ≡ fault_text line why)
text-replay_fault Done words left new text r line why right file has =
    let out : Reports r left text = of_left left new (λ bytes. Reports r bytes text) (obeyed Done words (Some left) new text (Replay r) right has) in
    absurd (never-spelled left out.w line why file out.spelled)
text-replay_fault Usage words left new text r line why right file has = absurd (has.0 (Replay r) right)
text-replay_fault Input words left new text r line why right file has =
    (refl, refused-by left new text line why file (obeyed Input words (Some left) new text (Replay r) right has))
text-replay_fault Memory words left new text r line why right file has = absurd has
text-replay_fault ReadFault words left new text r line why right file has = absurd has
text-replay_fault WriteFault words left new text r line why right file has = absurd has

-- `plain`: with the file of a workload, a text is its plain report
pub text-file : (status : Status) (words : List (List ℕ)) (left : List ℕ) (new : Option (List ℕ)) (text : List ℕ) (turns : List SessionNo) (w : Workload)
    → AreWords words (Plain turns) → IsWorkloadFile left w → HasText status words (Some left) new text
    → (status ≡ Done) × (text ≡ plain_report w turns)
unfolding workload_in
text-file Done words left new text turns w right file has =
    let out : TellsPlainly turns left text = of_left left new (λ bytes. TellsPlainly turns bytes text) (obeyed Done words (Some left) new text (Plain turns) right has) in
    (refl, out.text_is ∙ ap (λ v. plain_report (workload_in w v) turns) (one_verdict left (Ok out.w) (Ok w) out.spelled file))
text-file Usage words left new text turns w right file has = absurd (has.0 (Plain turns) right)
text-file Input words left new text turns w right file has =
    absurd (never-refused left new text w file (obeyed Input words (Some left) new text (Plain turns) right has))
text-file Memory words left new text turns w right file has = absurd has
text-file ReadFault words left new text turns w right file has = absurd has
text-file WriteFault words left new text turns w right file has = absurd has

-- and with a file that has a fault, a text is its line
pub text-fault : (status : Status) (words : List (List ℕ)) (left : List ℕ) (new : Option (List ℕ)) (text : List ℕ) (turns : List SessionNo) (line : ℕ) (why : FileReason)
    → AreWords words (Plain turns) → GivesVerdict left (Err (stop.Bad line why)) → HasText status words (Some left) new text
    → (status ≡ Input) × (text ≡ fault_text line why)
text-fault Done words left new text turns line why right file has =
    let out : TellsPlainly turns left text = of_left left new (λ bytes. TellsPlainly turns bytes text) (obeyed Done words (Some left) new text (Plain turns) right has) in
    absurd (never-spelled left out.w line why file out.spelled)
text-fault Usage words left new text turns line why right file has = absurd (has.0 (Plain turns) right)
text-fault Input words left new text turns line why right file has =
    (refl, refused-by left new text line why file (obeyed Input words (Some left) new text (Plain turns) right has))
text-fault Memory words left new text turns line why right file has = absurd has
text-fault ReadFault words left new text turns line why right file has = absurd has
text-fault WriteFault words left new text turns line why right file has = absurd has

-- `generate`: a text is the one that it draws, or its summary
pub text-drawn : (status : Status) (words : List (List ℕ)) (old new : Option (List ℕ)) (text : List ℕ) (g : Generating)
    → AreWords words (Generate g) → HasText status words old new text → (status ≡ Done) × TellsDrawn g.text g text
text-drawn Done words old new text g right has = (refl, (obeyed Done words old new text (Generate g) right has).1)
text-drawn Usage words old new text g right has = absurd (has.0 (Generate g) right)
text-drawn Input words old new text g right has = absurd (obeyed Input words old new text (Generate g) right has)
text-drawn Memory words old new text g right has = absurd has
text-drawn ReadFault words old new text g right has = absurd has
text-drawn WriteFault words old new text g right has = absurd has

-- and a call that stops early wants memory
pub stops-drawn : (status : Status) (words : List (List ℕ)) (reads read : ℕ) (g : Generating)
    → AreWords words (Generate g) → StopsEarly status words reads read → status ≡ Memory
stops-drawn Done words reads read g right stops = absurd stops
stops-drawn Usage words reads read g right stops = absurd stops
stops-drawn Input words reads read g right stops = absurd stops
stops-drawn Memory words reads read g right stops = refl
stops-drawn ReadFault words reads read g right stops =
    absurd (subst Reads (words-same words stops.0.order (Generate g) stops.0.words_are right) stops.0.reads)
stops-drawn WriteFault words reads read g right stops = absurd stops

-- with wrong words a text is their refusal
pub text-wrong_words : (status : Status) (words : List (List ℕ)) (old new : Option (List ℕ)) (text : List ℕ)
    → AreNoWords words → HasText status words old new text → (status ≡ Usage) × (text ≡ usage_text)
text-wrong_words Done words old new text wrong has = absurd (wrong has.order has.words_are)
text-wrong_words Usage words old new text wrong has = (refl, has.1)
text-wrong_words Input words old new text wrong has = absurd (wrong has.order has.words_are)
text-wrong_words Memory words old new text wrong has = absurd has
text-wrong_words ReadFault words old new text wrong has = absurd has
text-wrong_words WriteFault words old new text wrong has = absurd has

-- with wrong words a call that stops early wants memory
pub stops-wrong_words : (status : Status) (words : List (List ℕ)) (reads read : ℕ)
    → AreNoWords words → StopsEarly status words reads read → status ≡ Memory
stops-wrong_words Done words reads read wrong stops = absurd stops
stops-wrong_words Usage words reads read wrong stops = absurd stops
stops-wrong_words Input words reads read wrong stops = absurd stops
stops-wrong_words Memory words reads read wrong stops = refl
stops-wrong_words ReadFault words reads read wrong stops = absurd (wrong stops.0.order stops.0.words_are)
stops-wrong_words WriteFault words reads read wrong stops = absurd stops

-- what an order does and why it stops, under the words that order it

pub has-text : (status : Status) (words : List (List ℕ)) (old new : Option (List ℕ)) (text : List ℕ) (order : Order) → AreWords words order
    → Does order status old new text → HasText status words old new text
has-text Done words old new text order right does = record { order = order; words_are = right; does = does }
has-text Usage words old new text order right does = absurd does
has-text Input words old new text order right does = record { order = order; words_are = right; does = does }
has-text Memory words old new text order right does = absurd does
has-text ReadFault words old new text order right does = absurd does
has-text WriteFault words old new text order right does = absurd does

pub stops-early : (status : Status) (words : List (List ℕ)) (reads read : ℕ) (order : Order) → AreWords words order
    → Stops order status reads read → StopsEarly status words reads read
stops-early Done words reads read order right stops = absurd stops
stops-early Usage words reads read order right stops = absurd stops
stops-early Input words reads read order right stops = absurd stops
stops-early Memory words reads read order right stops = tt
stops-early ReadFault words reads read order right stops = (record { order = order; words_are = right; reads = stops.0 }, stops.1)
stops-early WriteFault words reads read order right stops = absurd stops

number-within : (low high other : ℕ) (word : Option Text) (n : ℕ) → low ≤ other → other ≤ high → NumberOr low high other word n → (low ≤ n) × (n ≤ high)
number-within low high other None n from to given = (omega (arith, given, from), omega (arith, given, to))
number-within low high other (Some digits) n from to given = (given.0, given.1)

uses-sizes : (uses : List Use) (order : Order) → IsOrder uses order → HasSizes order
uses-sizes uses (Replay r) ordered = omega (arith, (number-within 0 9223372036854775808 0 _ r.first_nonce (omega arith) (omega arith) ordered.first_nonce).1)
uses-sizes uses (Plain turns) ordered = tt
uses-sizes uses (Generate g) ordered =
    let s = number-within 1 64 4 _ g.sessions (omega arith) (omega arith) ordered.sessions_given in
    let t = number-within 1 1000 50 _ g.transactions (omega arith) (omega arith) ordered.transactions_given in
    (omega (arith, s.0), s.1, omega (arith, t.0), t.1)

pub words-sizes : (words : List (List ℕ)) (order : Order) → AreWords words order → HasSizes order
words-sizes words order right = uses-sizes right.uses order right.ordered

-- `generate` reads nothing
pub generate-unread : (words : List (List ℕ)) (order : Order) (g : Generating) → AreWords words order → AreWords words (Generate g) → ¬ Reads order
generate-unread words order g right generates reads = subst Reads (words-same words order (Generate g) right generates) reads

-- words that order no replay have another order
pub no-replay : (words : List (List ℕ)) (order : Order) → AreWords words order → ((r : Replaying) → ¬ AreWords words (Replay r)) → (r : Replaying) → ¬ order ≡ Replay r
no-replay words order right none r same = none r (subst (λ o. AreWords words o) same right)

replaying_in : Replaying → Order → Replaying
replaying_in other (Replay r) = r
replaying_in other (Plain turns) = other
replaying_in other (Generate g) = other

-- an order is one replay at most
pub one-replay : (order : Order) (r s : Replaying) → order ≡ Replay r → order ≡ Replay s → r ≡ s
unfolding replaying_in
one-replay order r s is same = ap (replaying_in r) (sym is ∙ same)

-- a text that was written is the wanted one
pub wrote : (status wanted : Status) (was is : Option (List ℕ)) (text wanted_text : List ℕ)
    → (status ≡ wanted) × (text ≡ wanted_text) → Appends was is text → WritesOrMemory status wanted was is wanted_text
wrote status wanted was is text wanted_text same appended =
    inl (same.0, subst (λ t. Appends was is t) same.1 appended)

-- and so is one of which the wanted thing is so
pub wrote_some : (status wanted : Status) (was is : Option (List ℕ)) (written text : List ℕ) (Is : List ℕ → Type 0)
    → (status ≡ wanted) × Is text → written ≡ text → Appends was is written → WritesSomeOrMemory status wanted was is Is
wrote_some status wanted was is written text Is same written_is appended =
    inl (same.0, (text, same.1, subst (λ t. Appends was is t) written_is appended))
