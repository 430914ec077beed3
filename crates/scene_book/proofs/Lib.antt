pub mod FiledLemmas
pub mod ListLemmas
pub mod GridLemmas
pub mod SlotLemmas
pub mod EditLemmas
pub mod Crossing
