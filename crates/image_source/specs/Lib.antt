pub mod Mirrors
pub mod LegCuts
pub mod Dimensions
pub mod Laws
pub mod Facing
pub mod inner
