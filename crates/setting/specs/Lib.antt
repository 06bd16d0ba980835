pub mod Setting
pub mod Settled
