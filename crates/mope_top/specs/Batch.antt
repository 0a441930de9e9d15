-- How a call of the program ends: its words, its input and its output before and after. What a stream tells of its bytes
-- may be nothing; then the clauses on them say nothing.
use Rattle.std.specs.Prelude.{◌≡◌, ℕ, ◌^◌, ◌<◌, ◌≤◌, Bool, true, false, ◌++◌, ◌∷◌, [], ◌⊎◌, List, codes, Option, Err}
use Rattle.std.specs.Io.KnownBytes.{Appends, Keeps}
use Rattle.mope_base.specs.declared.numbers.SessionNo.{SessionNo}
use Rattle.mope_base.specs.declared.status.Status.{Status}
use Rattle.mope_base.specs.declared.status.Status.TheVariants.{Done, Usage, Input, Memory, ReadFault, WriteFault}
use Rattle.mope_base.specs.Faults.{Rose}
use Rattle.mope_base.specs.ReadAll.{TakesAll, TakesExactly}
use Rattle.mope_base.specs.WriteAll.{AppendsFront}
use Rattle.workload.specs.declared.script.Workload.{Workload}
use Rattle.workload.specs.Report.{plain_report}
use Rattle.workload_file.specs.GeneratedText.{generated}
use Rattle.workload_file.specs.WorkloadFile.{GivesVerdict, IsWorkloadFile}
use Rattle.workload_file.specs.declared.stops.FileReason.{FileReason}
use Rattle.workload_file.specs.declared.stops.FileReason.TheVariants as reason
use Rattle.workload_file.specs.declared.stops.FileStop.TheVariants.{Bad}
use Rattle.mope_top.specs.FaultText.{fault_text}
use Rattle.mope_top.specs.Replays.{IsOneHistory, Reports, SumsUp}
use Rattle.command_words.specs.Orders.{AreWords, AreNoWords}
use Rattle.command_words.specs.declared.order.Generating.{Generating}
use Rattle.command_words.specs.declared.order.Order.{Order}
use Rattle.command_words.specs.declared.order.Order.TheVariants.{Replay, Plain, Generate}
use Rattle.command_words.specs.declared.order.Replaying.{Replaying}

-- the command reads an input
abbrev pub Reads : Order → Type 0
Reads (Replay r) = Unit {0}
Reads (Plain turns) = Unit {0}
Reads (Generate g) = ⊥

-- the words are right, and their command reads an input
pub record AreReading (words : List (List ℕ)) : Type 0 where
  pub order : Order
  pub words_are : AreWords words order
  pub reads : Reads order

-- `plain`: the text is the plain report of the workload that the bytes spell, under the turns that its run takes, given
-- these, and what it prints is one history
pub record TellsPlainly (turns : List SessionNo) (bytes text : List ℕ) : Type 0 where
  pub w : Workload
  pub spelled : IsWorkloadFile bytes w
  pub text_is : text ≡ plain_report w turns
  pub one_history : IsOneHistory w turns

-- the bytes spell no workload, and the text names the first line that has a fault and its first reason
pub record NamesFault (bytes text : List ℕ) : Type 0 where
  pub line : ℕ
  pub why : FileReason
  pub fault : GivesVerdict bytes (Err (Bad line why))
  pub text_is : text ≡ fault_text line why

-- the whole input was read, and this is so of its bytes
pub record ReadsAll (old new : Option (List ℕ)) (Is : List ℕ → Type 0) : Type 0 where
  pub bytes : List ℕ
  pub all : TakesAll old new 67108864 bytes
  pub is : Is bytes

-- the input has a byte too many
abbrev pub IsTooLong : Option (List ℕ) → Option (List ℕ) → Type 0
IsTooLong old new = TakesExactly old new 67108865

-- `generate`: the text is the one that is drawn, or sums up its run
abbrev pub TellsDrawn : Bool → Generating → List ℕ → Type 0
TellsDrawn true g text = text ≡ generated g.number g.sessions g.transactions
TellsDrawn false g text = SumsUp g text

-- the text is what a command writes on an input
abbrev pub Outputs : Order → Option (List ℕ) → Option (List ℕ) → List ℕ → Type 0
Outputs (Replay r) old new text = ReadsAll old new (λ bytes. Reports r bytes text)
Outputs (Plain turns) old new text = ReadsAll old new (λ bytes. TellsPlainly turns bytes text)
Outputs (Generate g) old new text = (new ≡ old) × TellsDrawn g.text g text

-- the line of wrong words
abbrev pub usage_text : List ℕ
usage_text = codes "error usage" ++ 10 ∷ []

-- the text is the line that refuses an input: it has a fault, or a byte too many
abbrev pub RefusesInput : Option (List ℕ) → Option (List ℕ) → List ℕ → Type 0
RefusesInput old new text = ReadsAll old new (λ bytes. NamesFault bytes text) ⊎ (IsTooLong old new × (text ≡ fault_text 0 reason.InputTooLong))

-- the text is the line by which a command refuses an input
abbrev pub Refuses : Order → Option (List ℕ) → Option (List ℕ) → List ℕ → Type 0
Refuses (Replay r) old new text = RefusesInput old new text
Refuses (Plain turns) old new text = RefusesInput old new text
Refuses (Generate g) old new text = ⊥

-- the text that a status writes under a command
abbrev pub Does : Order → Status → Option (List ℕ) → Option (List ℕ) → List ℕ → Type 0
Does order Done old new text = Outputs order old new text
Does order Usage old new text = ⊥
Does order Input old new text = Refuses order old new text
Does order Memory old new text = ⊥
Does order ReadFault old new text = ⊥
Does order WriteFault old new text = ⊥

-- the words are right, and the text is that of the status under their command
pub record Obeys (status : Status) (words : List (List ℕ)) (old new : Option (List ℕ)) (text : List ℕ) : Type 0 where
  pub order : Order
  pub words_are : AreWords words order
  pub does : Does order status old new text

-- the text that a status writes, by the words and what was left of the input before and after
abbrev pub HasText : Status → List (List ℕ) → Option (List ℕ) → Option (List ℕ) → List ℕ → Type 0
HasText Done words old new text = Obeys Done words old new text
HasText Usage words old new text = AreNoWords words × (text ≡ usage_text)
HasText Input words old new text = Obeys Input words old new text
HasText Memory words old new text = ⊥
HasText ReadFault words old new text = ⊥
HasText WriteFault words old new text = ⊥

-- a status wrote its text
pub record Writes (status : Status) (words : List (List ℕ)) (old new : Option (List ℕ)) (was is : Option (List ℕ)) : Type 0 where
  pub text : List ℕ
  pub has : HasText status words old new text
  pub appended : Appends was is text

-- the headline: the words are right, and what was written is the report of the workload that the whole input spells, or for
-- `generate` the text that it draws
abbrev pub Headline : List (List ℕ) → (old new was is : Option (List ℕ)) → Type 0
Headline words old new was is = Writes Done words old new was is

-- of the text of a status a proper front was written
pub record WritesFront (words : List (List ℕ)) (old new : Option (List ℕ)) (was is : Option (List ℕ)) : Type 0 where
  pub status : Status
  pub text : List ℕ
  pub has : HasText status words old new text
  pub appended : AppendsFront was is text

-- how a call ends, by its status: what was left of the input before and after, with the counts of its faults, and what
-- was written to the output before and after, with the counts of its faults
abbrev pub Ends : Status → List (List ℕ) → (old new : Option (List ℕ)) (reads read : ℕ) (was is : Option (List ℕ)) (writes written : ℕ) → Type 0
Ends Done words old new reads read was is writes written = Writes Done words old new was is
Ends Usage words old new reads read was is writes written = Writes Usage words old new was is
Ends Input words old new reads read was is writes written = Writes Input words old new was is
Ends Memory words old new reads read was is writes written = Keeps was is
Ends ReadFault words old new reads read was is writes written = AreReading words × Rose reads read × Keeps was is
Ends WriteFault words old new reads read was is writes written = WritesFront words old new was is × Rose writes written

-- with wrong words the input isn't touched
pub record LeavesInput (status : Status) (old new : Option (List ℕ)) (reads read : ℕ) : Type 0 where
  pub left : new ≡ old
  pub faults : read ≡ reads
  pub status_is : (status ≡ Usage) ⊎ ((status ≡ WriteFault) ⊎ (status ≡ Memory))

-- `generate` touches no input
pub record IsUnread (old new : Option (List ℕ)) (reads read : ℕ) : Type 0 where
  pub left : new ≡ old
  pub faults : read ≡ reads

-- a status that wrote a text of which this is so, or want of memory
abbrev pub WritesSomeOrMemory : Status → Status → Option (List ℕ) → Option (List ℕ) → (List ℕ → Type 0) → Type 0
WritesSomeOrMemory status wanted was is Is = ((status ≡ wanted) × ((text : List ℕ) × Is text × Appends was is text)) ⊎ (status ≡ Memory)

-- a status that wrote this text, or want of memory
abbrev pub WritesOrMemory : Status → Status → Option (List ℕ) → Option (List ℕ) → List ℕ → Type 0
WritesOrMemory status wanted was is text = ((status ≡ wanted) × Appends was is text) ⊎ (status ≡ Memory)

-- why a call stops before it has a text to write
abbrev pub StopsEarly : Status → List (List ℕ) → ℕ → ℕ → Type 0
StopsEarly Done words reads read = ⊥
StopsEarly Usage words reads read = ⊥
StopsEarly Input words reads read = ⊥
StopsEarly Memory words reads read = Unit {0}
StopsEarly ReadFault words reads read = AreReading words × Rose reads read
StopsEarly WriteFault words reads read = ⊥

-- why a command stops before it has a text to write
abbrev pub Stops : Order → Status → ℕ → ℕ → Type 0
Stops order Done reads read = ⊥
Stops order Usage reads read = ⊥
Stops order Input reads read = ⊥
Stops order Memory reads read = Unit {0}
Stops order ReadFault reads read = Reads order × Rose reads read
Stops order WriteFault reads read = ⊥

-- the numbers of an order are within their limits
abbrev pub HasSizes : Order → Type 0
HasSizes (Replay r) = r.first_nonce ≤ 2 ^ 63
HasSizes (Plain turns) = Unit {0}
HasSizes (Generate g) = (0 < g.sessions) × (g.sessions ≤ 64) × (0 < g.transactions) × (g.transactions ≤ 1000)

-- what is to be written after a whole input was read: the text of its replay, or the line of its first fault
abbrev pub IsReplayed : Replaying → List ℕ → Status → List ℕ → Type 0
IsReplayed r bytes Done text = Reports r bytes text
IsReplayed r bytes Usage text = ⊥
IsReplayed r bytes Input text = NamesFault bytes text
IsReplayed r bytes Memory text = ⊥
IsReplayed r bytes ReadFault text = ⊥
IsReplayed r bytes WriteFault text = ⊥

-- the same for `plain`: its plain report, or the line of its first fault
abbrev pub IsPlainlyJudged : List SessionNo → List ℕ → Status → List ℕ → Type 0
IsPlainlyJudged turns bytes Done text = TellsPlainly turns bytes text
IsPlainlyJudged turns bytes Usage text = ⊥
IsPlainlyJudged turns bytes Input text = NamesFault bytes text
IsPlainlyJudged turns bytes Memory text = ⊥
IsPlainlyJudged turns bytes ReadFault text = ⊥
IsPlainlyJudged turns bytes WriteFault text = ⊥
