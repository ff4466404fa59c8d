-- What a link file is, and what its reader answers.
pub mod Format
pub mod Reading
