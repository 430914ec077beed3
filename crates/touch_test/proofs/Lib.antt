pub mod Lists
mod Trace
mod Quiet
mod Stays
pub mod Untouched
mod Pieces
pub mod Edits
mod Receivers
mod Beyond
mod Widening
mod Far
mod Telling
