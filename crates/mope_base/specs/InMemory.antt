-- The streams in memory, as contracts see them.
use Rattle.std.specs.Prelude.{ℕ, ◌-◌, ◌<◌, ◌≤◌, Bool, ◌||◌, ◌==◌, min, List, length, drop, ◌++◌}
use Rattle.std.specs.List.{list_any}
use Rattle.mope_base.specs.Faults.{next_count}

-- A source in memory: the bytes that are left, how many a call gives at most, how many calls were made, the numbers from 1 of the calls that fail, and how many failed.
pub record SourceState : Type 0 where
  pub left : List ℕ
  pub piece : ℕ
  pub calls : ℕ
  pub fails : List ℕ
  pub faults : ℕ

-- A sink in memory: the bytes that were written, how many a call takes at most, how many calls were made, the numbers from 1 of the calls that fail, how many failed, and how many bytes it holds at most.
pub record SinkState : Type 0 where
  pub bytes : List ℕ
  pub piece : ℕ
  pub calls : ℕ
  pub fails : List ℕ
  pub faults : ℕ
  pub room : ℕ

-- the number of the next call is among those that fail
abbrev pub fails_next : ℕ → List ℕ → Bool
fails_next calls fails = list_any (λ k. k == next_count calls) fails

-- how many bytes the next call gives to a buffer of this length, unless it fails
abbrev pub read_count : SourceState → ℕ → ℕ
read_count s len = min (min s.piece len) (length s.left)

-- the next call gave so many bytes
abbrev pub source_after : SourceState → ℕ → SourceState
source_after s count = record s { left = drop count s.left; calls = next_count s.calls }

-- the next call failed
abbrev pub source_failed : SourceState → SourceState
source_failed s = record s { calls = next_count s.calls; faults = next_count s.faults }

-- the next call fails: its number says so, or no byte is free
abbrev pub sink_fails : SinkState → Bool
sink_fails s = fails_next s.calls s.fails || (s.room - length s.bytes) == 0

-- how many of so many bytes the next call takes, unless it fails
abbrev pub write_count : SinkState → ℕ → ℕ
write_count s len = min (min s.piece len) (s.room - length s.bytes)

-- the next call took these bytes
abbrev pub sink_after : SinkState → List ℕ → SinkState
sink_after s taken = record s { bytes = s.bytes ++ taken; calls = next_count s.calls }

-- the next call failed
abbrev pub sink_failed : SinkState → SinkState
sink_failed s = record s { calls = next_count s.calls; faults = next_count s.faults }

-- the place of a source lies within its bytes, and a call gives at least one byte if any is left
pub record SourceFits (bytes : List ℕ) (place piece : ℕ) : Type 0 where
  pub within : place ≤ length bytes
  pub some : 0 < piece

-- a sink holds no more bytes than its room, which was reserved, and a call takes at least one byte
pub record SinkFits (bytes : List ℕ) (reserved piece room : ℕ) : Type 0 where
  pub within : length bytes ≤ room
  pub held : room ≤ reserved
  pub some : 0 < piece
