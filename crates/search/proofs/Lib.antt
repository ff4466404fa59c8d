pub mod Paper
pub mod ebf
pub mod Distance
mod Heuristic
mod Alike
pub mod Reductions
pub mod Result
pub mod Forward
