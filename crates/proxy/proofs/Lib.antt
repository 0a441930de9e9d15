pub mod ListLemmas
mod AnswerLemmas
mod ConstantLemmas
pub mod DriveLemmas
mod HearingLemmas
mod NamedLemmas
mod RequestLemmas
mod SealLemmas
mod StandingLemmas
mod TurnLemmas
mod WorkLemmas
