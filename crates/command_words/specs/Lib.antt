pub mod Grammar
pub mod Giving
pub mod Orders
