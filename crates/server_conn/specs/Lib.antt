-- The definitions of a connection.
pub mod Connections
pub mod Checks
pub mod Serving
pub mod Logs
pub mod Laws
pub mod Examples
pub mod Receipts
pub mod Handling
pub mod Inside
pub mod Asking
pub mod Stored
