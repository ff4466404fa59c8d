-- The files of a network's definitions, in reading order: networks, paths and problems (Net to Reduce), a walk with its
-- loops cut, the words of a link table; then what every room uses of lists and loops.
pub mod Limits
pub mod Ranges
pub mod Net
pub mod Scale
pub mod Problem
pub mod Reduce
pub mod NodeSet
pub mod Cut
pub mod Words
pub mod Lists
pub mod Loops
