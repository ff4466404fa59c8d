pub mod DocumentLines
pub mod LineBytes
pub mod Quoted
pub mod NetA
pub mod Reported
pub mod Unheld
