pub mod Begun
pub mod Refused
pub mod Results
pub mod Solved
pub mod Started
