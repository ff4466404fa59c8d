-- The ledger, a list of calls, and what is claimed of it, in reading order.
pub mod Entries
pub mod History
pub mod Sentences
pub mod Demand
