pub mod Reading
pub mod Compose
pub mod One
pub mod Demands
