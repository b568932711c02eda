pub mod Text
pub mod Accounts
