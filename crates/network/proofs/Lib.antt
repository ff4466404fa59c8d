mod Agreement
pub mod Tests
pub mod Ranges
pub mod Loops
pub mod Past
mod Words
mod Least
pub mod NodeSet
pub mod Scaling
pub mod Paths
pub mod Few
pub mod Short
pub mod Cut
pub mod Bounds
pub mod Listed
pub mod Stored
