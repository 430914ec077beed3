pub mod Comparing
pub mod GridNames
pub mod Looking
pub mod Texts
pub mod inner
