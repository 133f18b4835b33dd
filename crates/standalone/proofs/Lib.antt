pub mod Laid
pub mod Questions
pub mod Sound
pub mod Runs
pub mod Step
pub mod KnownTest
