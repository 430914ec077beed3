pub mod Energies
pub mod Sums
pub mod Weather
