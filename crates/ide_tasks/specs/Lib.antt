pub mod Partners
pub mod Parts
pub mod Sources
pub mod Task
pub mod Work
