-- Document 01's worked cases, what the calls reply to them, cases of bounds of 0, of hold times, of the steady
-- circuit list, of the paper's table and of all jobs in one call, and cases of class tables.
pub mod Document01
pub mod Replied
pub mod FreeLines
pub mod HoldTimes
pub mod SteadyList
pub mod PaperLines
pub mod OpeningJobs
pub mod ClassCases
