-- What stands between the code and the definitions.
pub mod Boxes
pub mod Numbers
