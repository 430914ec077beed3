mod ItemLemmas
mod NeededLemmas
mod PlainLemmas
mod Utf8
