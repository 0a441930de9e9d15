-- Lemmas of the top call.
mod BatchLemmas
mod DoingLemmas
mod RefusalLemmas
mod Rounds
mod LessWork
mod RoundsOnLemmas
mod OneList
mod RanLemmas
mod Merging
mod Reporting
mod Summaries
