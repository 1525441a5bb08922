pub mod Lists
pub mod Works
pub mod Steps
pub mod Meeting
pub mod Apart
pub mod Opening
pub mod Planning
pub mod Asking
