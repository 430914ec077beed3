-- What stands between the code and the definitions.
pub mod Boards
pub mod Back
pub mod Calculated
pub mod Changes
pub mod FirstNaming
pub mod Held
pub mod Later
pub mod Log
pub mod Marks
pub mod Namings
pub mod Past
pub mod Paths
pub mod Sources
pub mod Standing
