pub mod Diffraction
pub mod Edges
pub mod Screening
pub mod Lateral
pub mod Laws
pub mod Limits
pub mod inner
