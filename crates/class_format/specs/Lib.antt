-- What the class program prints: a class's line, all of it for a file, and document 01's example.
pub mod Lines
pub mod Output
pub mod NetA
pub mod DocumentLines
