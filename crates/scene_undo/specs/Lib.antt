pub mod Inverse
pub mod Scenes
pub mod Laws
pub mod Versions
