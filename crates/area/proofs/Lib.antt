mod Each
mod Agreement
mod Every
pub mod Arrays
pub mod WordsAt
pub mod Sets
pub mod Found
pub mod PathTest
pub mod Formed
mod StationWords
pub mod Places
pub mod Added
pub mod Removed
pub mod FreeUnits
pub mod Holds
pub mod Keeps
pub mod Order
pub mod SameWords
pub mod Stores
pub mod Refusals
pub mod Checks
pub mod ReadCases
pub mod Depends
pub mod TableCases
pub mod Columns
pub mod Onward
pub mod CircuitCases
pub mod Taken
pub mod CircuitUnits
pub mod CheckCases
pub mod Loads
pub mod LoadCases
