-- What stands between the code and the definitions.
pub mod Ranges
pub mod Needed
