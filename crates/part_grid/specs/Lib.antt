pub mod Span
pub mod Cells
pub mod Near
pub mod Numbered
pub mod Ways
pub mod Laws
pub mod inner
