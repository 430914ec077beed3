pub mod Refreshed
pub mod Sums
pub mod Origins
pub mod Renewals
pub mod Standing
pub mod Frames
pub mod inner
