-- What the instances are about.
pub mod Nets
pub mod Areas
pub mod HoldTimes
pub mod Calls
