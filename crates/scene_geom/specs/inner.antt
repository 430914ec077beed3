-- What stands between the code and the definitions.
pub mod ClearWinding
pub mod Step
