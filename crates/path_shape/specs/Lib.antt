pub mod Forms
pub mod Outlines
pub mod Shape
pub mod Stretches
pub mod inner
