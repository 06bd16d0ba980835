pub mod Answers
pub mod One
pub mod Cases
pub mod Room
pub mod Made
