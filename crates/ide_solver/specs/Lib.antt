pub mod Begun
pub mod Refusal
pub mod Shown
pub mod Solve
pub mod Started
