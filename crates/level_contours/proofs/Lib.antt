pub mod Found
pub mod GridNameLemmas
