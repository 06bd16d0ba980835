pub mod Cells
pub mod Wrote
pub mod Puts
pub mod One
pub mod Compiled
