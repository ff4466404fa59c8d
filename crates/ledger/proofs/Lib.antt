mod Searches
mod Steps
mod Follows
mod Alike
mod Places
mod Given
mod Histories
pub mod Striking
mod Decisions
pub mod Demands
