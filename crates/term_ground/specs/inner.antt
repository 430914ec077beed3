-- What stands between the code and the definitions.
pub mod EndRegions
pub mod Extents
pub mod Lines
pub mod Walks
pub mod Widths
