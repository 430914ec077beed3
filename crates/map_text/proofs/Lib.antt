pub mod RoundingLemmas
pub mod Fronts
pub mod Spans
