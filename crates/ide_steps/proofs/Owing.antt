-- That tasks owe the parts of their keys.
pub mod Exits
pub mod Owed
pub mod Partners
