pub mod NameLemmas
pub mod SideLemmas
pub mod RootLemmas
pub mod AnswerLemmas
pub mod BandLemmas
pub mod Counted
