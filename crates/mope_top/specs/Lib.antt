-- All that the program does, as its top call's contract names it.
pub mod FaultText
pub mod Replays
pub mod RoundLaws
pub mod Ran
pub mod Batch
pub mod Counts
