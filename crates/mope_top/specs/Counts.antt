-- What a call does to the counts of faults of its input and its output.
use Rattle.std.specs.Prelude.{◌≡◌, ℕ, Result, Ok, Err}
use Rattle.mope_base.specs.declared.status.Status.{Status}
use Rattle.mope_base.specs.declared.status.Status.TheVariants.{Done, Usage, Input, Memory, ReadFault, WriteFault}
use Rattle.mope_base.specs.Faults.{Rose}

-- the counts stay, but for the input's where reading failed and the output's where writing failed: those rise
abbrev pub CountsFaults : Status → (reads read writes written : ℕ) → Type 0
CountsFaults Done reads read writes written = (read ≡ reads) × (written ≡ writes)
CountsFaults Usage reads read writes written = (read ≡ reads) × (written ≡ writes)
CountsFaults Input reads read writes written = (read ≡ reads) × (written ≡ writes)
CountsFaults Memory reads read writes written = (read ≡ reads) × (written ≡ writes)
CountsFaults ReadFault reads read writes written = Rose reads read × (written ≡ writes)
CountsFaults WriteFault reads read writes written = (read ≡ reads) × Rose writes written

-- the same before anything is written: an error is the status of a call that writes nothing
abbrev pub CountsReads : {T : Type 0} → Result T Status → (reads read : ℕ) → Type 0
CountsReads (Ok text) reads read = read ≡ reads
CountsReads (Err status) reads read = CountsFaults status reads read 0 0
