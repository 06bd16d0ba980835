pub mod Weight
pub mod Semiring
pub mod Sums
pub mod Tropical
pub mod Least
pub mod Totals
pub mod One
