pub mod Accounts
pub mod Protocol
pub mod Passes
pub mod Places
pub mod Covering
