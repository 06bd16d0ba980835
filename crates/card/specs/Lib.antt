pub mod Form
pub mod Bytes
pub mod One
pub mod Part
