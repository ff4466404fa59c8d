-- The files of the search's definitions, in reading order: its stated result, which is all that the rooms above may
-- name; the whole search, the distance and the two problems; the pass along a path; what its functions rely on. The
-- extended Bellman-Ford search itself is in the folder ebf.
pub mod Result
pub mod Heuristic
pub mod Distance
pub mod Roles
pub mod Forward
pub mod Hops
pub mod Solver
pub mod Paper
pub mod ebf
