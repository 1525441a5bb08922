pub mod Analyses
pub mod Asked
pub mod Counts
pub mod Lines
pub mod Obeyed
pub mod Opened
pub mod Status
pub mod Stored
