pub mod Legs
pub mod Gains
pub mod Tiles
pub mod Pieces
