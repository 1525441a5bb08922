pub mod Flow
pub mod Shared
pub mod SharedLaws
pub mod UnnamedLaws
