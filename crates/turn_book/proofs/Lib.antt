pub mod Totals
pub mod Histories
pub mod Turning
pub mod Parting
pub mod Ends
pub mod Calls
pub mod Covering
