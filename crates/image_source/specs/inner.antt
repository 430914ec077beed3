-- What stands between the code and the definitions.
pub mod Near
pub mod Facing
