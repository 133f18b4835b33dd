pub mod Powers
pub mod Asked
