pub mod Dear
pub mod DearLaws
pub mod Phases
pub mod PlainDisk
pub mod PlainLength
pub mod Records
pub mod Stores
pub mod Working
