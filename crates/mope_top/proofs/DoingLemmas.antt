-- What a command does on an input that was read.
use Rattle.std.proofs.Common.{◌≡◌, refl, sym, subst, ℕ, List, Option, Err, inl, inr}
use Rattle.mope_base.specs.ReadAll.{TakesAll}
use Rattle.mope_base.specs.declared.numbers.SessionNo.{SessionNo}
use Rattle.mope_base.specs.declared.status.Status.{Status}
use Rattle.mope_base.specs.declared.status.Status.TheVariants.{Done, Usage, Input, Memory, ReadFault, WriteFault}
use Rattle.workload.specs.declared.script.Workload.{Workload}
use Rattle.workload.specs.Report.{plain_report}
use Rattle.workload_file.specs.WorkloadFile.{GivesVerdict, IsWorkloadFile}
use Rattle.workload_file.specs.declared.stops.FileReason.{FileReason}
use Rattle.workload_file.specs.declared.stops.FileReason.TheVariants as reason
use Rattle.workload_file.specs.declared.stops.FileStop.TheVariants as stop
use Rattle.plain_db.proofs.SerialLemmas.{serial}
use Rattle.plain_db.proofs.Taken.{taken-complete}
use Rattle.command_words.specs.declared.order.Generating.{Generating}
use Rattle.command_words.specs.declared.order.Order.{Order}
use Rattle.command_words.specs.declared.order.Order.TheVariants.{Replay, Plain, Generate}
use Rattle.command_words.specs.declared.order.Replaying.{Replaying}
use Rattle.mope_top.specs.Batch.{Does, IsPlainlyJudged, IsReplayed, IsTooLong, Stops, TellsDrawn}
use Rattle.mope_top.specs.FaultText.{fault_text}

pub judged-told : (turns : List SessionNo) (bytes : List ℕ) (w : Workload) (status : Status) (text : List ℕ) → IsWorkloadFile bytes w
    → (status ≡ Done) × (text ≡ plain_report w turns) → IsPlainlyJudged turns bytes status text
judged-told turns bytes w status text file same =
    subst (λ s. IsPlainlyJudged turns bytes s text) (sym same.0) (record {
      w = w;
      spelled = file;
      text_is = same.1;
      one_history = record { complete = taken-complete w turns; serial = serial w turns };
    })

pub judged-refused : (turns : List SessionNo) (bytes : List ℕ) (line : ℕ) (why : FileReason) (status : Status) (text : List ℕ)
    → GivesVerdict bytes (Err (stop.Bad line why)) → (status ≡ Input) × (text ≡ fault_text line why) → IsPlainlyJudged turns bytes status text
judged-refused turns bytes line why status text fault same =
    subst (λ s. IsPlainlyJudged turns bytes s text) (sym same.0) (record { line = line; why = why; fault = fault; text_is = same.1 })

pub plain-does : (turns : List SessionNo) (bytes : List ℕ) (status : Status) (old new : Option (List ℕ)) (text : List ℕ) → TakesAll old new 67108864 bytes
    → IsPlainlyJudged turns bytes status text → Does (Plain turns) status old new text
plain-does turns bytes Done old new text all judged = record { bytes = bytes; all = all; is = judged }
plain-does turns bytes Usage old new text all judged = absurd judged
plain-does turns bytes Input old new text all judged = inl (record { bytes = bytes; all = all; is = judged })
plain-does turns bytes Memory old new text all judged = absurd judged
plain-does turns bytes ReadFault old new text all judged = absurd judged
plain-does turns bytes WriteFault old new text all judged = absurd judged

pub plain-too_long : (turns : List SessionNo) (status : Status) (old new : Option (List ℕ)) (text : List ℕ) → IsTooLong old new
    → (status ≡ Input) × (text ≡ fault_text 0 reason.InputTooLong) → Does (Plain turns) status old new text
plain-too_long turns status old new text long same = subst (λ s. Does (Plain turns) s old new text) (sym same.0) (inr (long, same.1))

pub replay-does : (r : Replaying) (bytes : List ℕ) (status : Status) (old new : Option (List ℕ)) (text : List ℕ) → TakesAll old new 67108864 bytes
    → IsReplayed r bytes status text → Does (Replay r) status old new text
replay-does r bytes Done old new text all judged = record { bytes = bytes; all = all; is = judged }
replay-does r bytes Usage old new text all judged = absurd judged
replay-does r bytes Input old new text all judged = inl (record { bytes = bytes; all = all; is = judged })
replay-does r bytes Memory old new text all judged = absurd judged
replay-does r bytes ReadFault old new text all judged = absurd judged
replay-does r bytes WriteFault old new text all judged = absurd judged

pub replay-too_long : (r : Replaying) (status : Status) (old new : Option (List ℕ)) (text : List ℕ) → IsTooLong old new
    → (status ≡ Input) × (text ≡ fault_text 0 reason.InputTooLong) → Does (Replay r) status old new text
replay-too_long r status old new text long same = subst (λ s. Does (Replay r) s old new text) (sym same.0) (inr (long, same.1))

pub generate-does : (g : Generating) (status : Status) (old : Option (List ℕ)) (text : List ℕ)
    → (status ≡ Done) × TellsDrawn g.text g text → Does (Generate g) status old old text
generate-does g status old text told = subst (λ s. Does (Generate g) s old old text) (sym told.0) (refl, told.1)

pub memory-stops : (order : Order) (status : Status) (reads read : ℕ) → status ≡ Memory → Stops order status reads read
memory-stops order status reads read same = subst (λ s. Stops order s reads read) (sym same) tt
