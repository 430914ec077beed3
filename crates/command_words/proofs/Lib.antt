mod Spelling
mod Meaning
mod Rows
mod Walking
mod Reading
mod Ending
mod Digits
