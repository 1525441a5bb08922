pub mod Analyses
pub mod Dump
pub mod Ended
pub mod Explained
pub mod Help
pub mod Printed
pub mod Stores
pub mod Working
