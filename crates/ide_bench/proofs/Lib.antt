pub mod Alike
pub mod Rooted
