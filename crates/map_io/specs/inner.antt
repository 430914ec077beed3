-- What stands between the code and the definitions.
pub mod Buffers
pub mod Steps
