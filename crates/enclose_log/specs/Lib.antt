pub mod Narrow
pub mod inner
