-- What stands between the code and the definitions.
pub mod Adding
pub mod Answers
pub mod Teams
pub mod FirstLine
pub mod Progress
pub mod Steps
