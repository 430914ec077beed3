pub mod Alone
