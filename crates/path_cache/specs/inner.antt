-- What stands between the code and the definitions.
pub mod Origins
pub mod OfOneSource
pub mod OneProof
pub mod TakingOff
