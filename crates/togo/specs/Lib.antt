pub mod ToGo
pub mod Price
pub mod Runs
pub mod Equation
pub mod Marks
pub mod Right
pub mod Sets
