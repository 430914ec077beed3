pub mod Turning
pub mod Plane
pub mod Boundary
pub mod Steps
pub mod Separation
pub mod inner
