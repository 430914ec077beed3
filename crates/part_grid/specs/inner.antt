-- What stands between the code and the definitions.
pub mod Index
pub mod Marks
pub mod Register
