pub mod Owing
pub mod Working
