pub mod WholeText
pub mod Laws
pub mod ViewText
pub mod SummaryText
