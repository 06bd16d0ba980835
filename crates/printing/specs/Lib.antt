pub mod Text
pub mod Puts
pub mod Decimal
pub mod Most
pub mod Page
