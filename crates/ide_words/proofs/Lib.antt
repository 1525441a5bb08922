pub mod Given
pub mod Line
