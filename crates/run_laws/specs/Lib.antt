-- The definitions and statements of this crate's laws.
pub mod Worlds
pub mod WorldRuns
pub mod Honesty
pub mod Schedules
pub mod ScheduleExamples
pub mod ScheduleLaws
pub mod Seats
pub mod TellingLaws
pub mod SeatLaws
pub mod SteppingLaws
pub mod TurnLaws
pub mod RunLaws
pub mod DecisionLaws
pub mod CellLaws
pub mod Examples
