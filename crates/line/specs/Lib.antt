-- The codes and answer words of the C functions, and what they mean.
pub mod Codes
pub mod Meaning
