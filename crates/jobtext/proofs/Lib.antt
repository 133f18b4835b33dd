pub mod Values
pub mod Figures
pub mod Canonical
pub mod ReadBack
pub mod Rounds
mod Examples
