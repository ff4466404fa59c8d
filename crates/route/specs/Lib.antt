-- The network that a search is handed, in the terms of the definitions.
pub mod Described
