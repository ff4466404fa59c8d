-- The laws of the link file.
pub mod ReadCases
pub mod Accepted
mod Bytes
pub mod LinkFiles
