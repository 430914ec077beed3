pub mod Crossings
pub mod Touches
pub mod Laws
pub mod Envelopes
pub mod inner
