pub mod Draws
pub mod Json
pub mod Parts
pub mod Site
pub mod inner
