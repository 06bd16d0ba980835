pub mod Spans
pub mod Order
pub mod One
