pub mod Causes
pub mod Lines
pub mod LineLaws
pub mod Reading
pub mod LinesAhead
pub mod Putting
pub mod Memory
pub mod inner
