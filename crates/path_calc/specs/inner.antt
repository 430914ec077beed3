-- What stands between the code and the definitions.
pub mod Prepared
pub mod Hearing
pub mod Losses
pub mod BarrierAttenuations
pub mod Propagations
pub mod Ranges
pub mod Ends
pub mod Strings
pub mod Tracing
