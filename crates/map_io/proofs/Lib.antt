pub mod Lists
pub mod Scanning
pub mod Known
pub mod Gathering
pub mod Taking
pub mod Causes
