-- What client and connection do together.
pub mod Meetings
pub mod Walks
pub mod Constants
pub mod Inserts
pub mod Ends
pub mod Queries
pub mod Transactions
pub mod Readable
pub mod Standing
pub mod Examples
