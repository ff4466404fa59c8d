-- The files of the calls' definitions, in reading order: requests, replies, what each call's reply may be and what an
-- answer means, what the code computes; job lists, and all jobs in one call; class tables, the calls on them and the sample table;
-- what the search on an area relies on.
pub mod Requests
pub mod Replies
pub mod Allowed
pub mod Meaning
pub mod Calls
pub mod Jobs
pub mod AdmitJobs
pub mod ClassTable
pub mod Classes
pub mod SampleClasses
pub mod SearchableArea
