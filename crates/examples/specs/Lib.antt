pub mod Cards
pub mod Texts
pub mod Hold
