-- What stands between the code and the definitions.
pub mod Places
pub mod Rule
pub mod Steps
