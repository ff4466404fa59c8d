-- The extended Bellman-Ford search: its table, the way back through it and one problem solved; why its rounds may end;
-- what the functions of `route` on a table tell each other and rely on.
pub mod Table
pub mod Trace
pub mod Solve
pub mod Settled
pub mod Relaxing
pub mod OnTable
pub mod Passed
pub mod AsPaper
