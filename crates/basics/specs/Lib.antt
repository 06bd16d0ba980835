pub mod Decides
pub mod Every
pub mod Lists
pub mod Members
