pub mod Find
pub mod StackTouch
pub mod Lawful
