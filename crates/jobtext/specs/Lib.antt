pub mod Numbers
pub mod Fields
pub mod Entries
pub mod Forms
pub mod Job
pub mod Seen
pub mod Written
pub mod Round
