-- Laws of scripts.
pub mod Search
pub mod Words
pub mod Decimals
pub mod Steps
pub mod Unread
mod Examples
