pub mod Seats
pub mod Turns
pub mod Settling
pub mod Working
pub mod Acting
pub mod Following
