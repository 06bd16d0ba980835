pub mod Layout
pub mod Gather
pub mod Words
pub mod Exact
pub mod Right
pub mod Demand
pub mod Reading
