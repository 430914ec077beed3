pub mod CommaLemmas
pub mod DrawnLemmas
pub mod Lengths
