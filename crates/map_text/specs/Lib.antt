pub mod Rounding
pub mod Faults
pub mod Rows
pub mod Looks
pub mod Taking
pub mod SiteSummary
