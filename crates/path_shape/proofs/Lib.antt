pub mod Eight
pub mod Fitting
pub mod Folding
pub mod Lengths
pub mod Outlines
pub mod Sums
pub mod Walking
