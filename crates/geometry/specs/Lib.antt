pub mod Refusal
pub mod Address
pub mod Line
pub mod Kind
