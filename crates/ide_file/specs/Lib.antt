pub mod FileDisk
pub mod Length
