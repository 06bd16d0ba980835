pub mod Tree
pub mod Core
pub mod Arcs
pub mod Fits
pub mod Apart
pub mod Made
pub mod Tight
pub mod Exact
