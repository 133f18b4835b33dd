pub mod Counting
pub mod Allowed
pub mod Cache
pub mod Rows
pub mod Run
pub mod Known
pub mod Checked
