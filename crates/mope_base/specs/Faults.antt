-- A stream counts its faults in 64 bits. A fault that a call answers with has to show in that count.
use Rattle.std.specs.Prelude.{◌≡◌, ℕ, ◌+◌, ◌-◌, ◌^◌, ◌≤◌, min, Result, OnOk, OnErr}

-- one more, where a count that stands at the greatest number of 64 bits stays there
abbrev pub next_count : ℕ → ℕ
next_count n = min (n + 1) (2 ^ 64 - 1)

-- the count of faults rose, or stood at its end and could not
abbrev pub Rose : ℕ → ℕ → Type 0
Rose before now = min (before + 1) (2 ^ 64 - 1) ≤ now

-- the count of faults never falls: it stays where the call answers no error, and it rose where it answers one
pub record HasCause {T E : Type 0} (before now : ℕ) (result : Result T E) : Type 0 where
  pub later : before ≤ now
  pub stayed : OnOk result (now ≡ before)
  pub failed : OnErr result (Rose before now)
