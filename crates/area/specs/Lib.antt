-- The files of the area's definitions, in reading order: what its words say and what the calls ask of it (Station to
-- Formed), what Load and the calls that only read answer, what a store moves, and each link's free units as the
-- check of an area counts them.
pub mod Layout
pub mod Station
pub mod Books
pub mod Order
pub mod Held
pub mod Formed
pub mod Refusals
pub mod Checks
pub mod Load
pub mod Reads
pub mod Moves
pub mod Units
pub mod FreeIn
