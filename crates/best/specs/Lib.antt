pub mod Best
pub mod Decode
pub mod Code
pub mod Marked
pub mod Keys
pub mod Pick
pub mod Among
pub mod Questions
