pub mod Histories
pub mod Counts
pub mod Facts
pub mod Changes
pub mod Queue
pub mod Passing
pub mod Parting
pub mod Entries
