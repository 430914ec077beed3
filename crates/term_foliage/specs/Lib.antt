pub mod Foliage
pub mod Laws
pub mod inner
