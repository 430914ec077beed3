pub mod Ways
pub mod Effects
pub mod Journals
pub mod Trails
pub mod SoundEdits
pub mod Undone
pub mod KeptVersions
pub mod Meeting
mod EditLists
mod Contours
pub mod Reading
pub mod Doing
pub mod RowsWritten
pub mod Ending
pub mod Crossing
pub mod Teams
pub mod Wholes
pub mod Sites
