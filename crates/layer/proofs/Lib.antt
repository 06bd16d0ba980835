pub mod Grid
pub mod Relaxing
pub mod Closing
pub mod Rightness
pub mod Gathering
pub mod Sweeping
