pub mod Agreement
pub mod Effect
pub mod Walks
