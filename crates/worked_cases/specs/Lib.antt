-- What is loaded for document 01's cases, and the lines that the program prints of them.
pub mod Grounds
pub mod Lines
